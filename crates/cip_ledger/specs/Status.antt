-- The numbers of the ledger's general statuses (Volume 1, general status codes). The
-- codes from 0xd0 on are each class's own: the ledger has one.
use Rattle.std.specs.Prelude.{ℕ}
use Rattle.cip_ledger.specs.declared.status.Status.{Status}
use Rattle.cip_ledger.specs.declared.status.Status.TheVariants as statuses

abbrev pub status_number : Status → ℕ
status_number statuses.Success = 0x00
status_number statuses.ResourceUnavailable = 0x02
status_number statuses.PathDestinationUnknown = 0x05
status_number statuses.ServiceNotSupported = 0x08
status_number statuses.AttributeListError = 0x0a
status_number statuses.ObjectStateConflict = 0x0c
status_number statuses.DeviceStateConflict = 0x10
status_number statuses.ReplyDataTooLarge = 0x11
status_number statuses.NotEnoughData = 0x13
status_number statuses.AttributeNotSupported = 0x14
status_number statuses.TooMuchData = 0x15
status_number statuses.ObjectDoesNotExist = 0x16
status_number statuses.CommandPending = 0xd0
