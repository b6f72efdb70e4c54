-- What the device's own calls of its adapter return to C, and the connections that ended.
use Rattle.std.specs.Prelude.{ℕ, List, ◌≡◌, Bool, if◌then◌else◌, Option, Some, None, is_some, option_map, unwrap_or, slice_get}
use Rattle.cip_objects.specs.Changes.{changes_of, changes_at}
use Rattle.cip_objects.specs.Contents.{Contents}
use Rattle.cip_objects.specs.DeviceWrites.{device_write}
use Rattle.cip_objects.specs.ObjectMap.{key}
use Rattle.enip_adapter.specs.Calls.{AdapterState}
use Rattle.enip_adapter.specs.Device.{with_objects}
use Rattle.enip_adapter.specs.Endings.{EndingsState, updated}
use Rattle.enip_adapter.specs.OwnWrites.{attribute_write}
use Rattle.enip_adapter.specs.declared.endings.EndedConnection.{EndedConnection}
use Rattle.enip_adapter.specs.declared.endings.EndReason.{EndReason}
use Rattle.enip_adapter.specs.declared.endings.EndReason.TheVariants.{TimedOut, PeerEnded, SessionEnded, Closed}
use Rattle.enip_c.specs.declared.device.CEndedConnection.{CEndedConnection}
use Rattle.enip_c.specs.declared.status.Status.{Status}
use Rattle.enip_c.specs.declared.status.Status.TheVariants as status
use Rattle.enip_c.specs.Buffer.{status_number}

-- The objects after the device has written to the data of an assembly; none if they have no such data.
abbrev pub data_written : ℕ → ℕ → List ℕ → AdapterState → Option Contents
data_written instance offset bytes a = device_write a.state.shared.objects.router.objects instance offset bytes

-- The same for an attribute of an application object, or the data of an assembly.
abbrev pub attribute_written : ℕ → ℕ → ℕ → ℕ → List ℕ → AdapterState → Option Contents
attribute_written class instance attribute offset bytes a =
    attribute_write a.state.shared.objects.router.objects class instance attribute offset bytes

abbrev pub write_status : Bool → Status
write_status written = if written then status.Done else status.Absent

-- The device wrote, or its write was refused and nothing changed.
pub record IsWritten (old new : AdapterState) (written : Option Contents) (result : ℕ) : Type 0 where
  pub state : new ≡ with_objects old (unwrap_or written old.state.shared.objects.router.objects)
  pub returned : result ≡ status_number (write_status (is_some written))

abbrev pub IsWrittenKept : Option AdapterState → Option AdapterState → (AdapterState → Option Contents) → ℕ → Type 0
IsWrittenKept (Some old) (Some new) written result = IsWritten old new (written old) result
IsWrittenKept old new written result = ⊥

-- The number of times that peers have written data of an assembly.
abbrev pub changes_kept : Option AdapterState → ℕ → Option ℕ
changes_kept None instance = None
changes_kept (Some a) instance = changes_of instance a.state.shared.objects.router.objects.changes

-- The same for an attribute of an application object, or the data of an assembly.
abbrev pub attribute_changes_kept : Option AdapterState → ℕ → ℕ → ℕ → Option ℕ
attribute_changes_kept None class instance attribute = None
attribute_changes_kept (Some a) class instance attribute =
    changes_at (key class instance attribute) a.state.shared.objects.router.objects.changes

-- The number of resets that were executed. None if peers cannot reset the device.
abbrev pub resets_kept : Option AdapterState → Option ℕ
resets_kept None = None
resets_kept (Some a) = option_map (λ reset. reset.executed) a.state.shared.objects.router.reset

-- The number in enip.h of the reason why a connection ended.
abbrev pub end_reason_number : EndReason → ℕ
end_reason_number TimedOut = 1
end_reason_number PeerEnded = 2
end_reason_number SessionEnded = 3
end_reason_number Closed = 4

abbrev pub c_ended_connection : EndedConnection → CEndedConnection
c_ended_connection e = record { id = e.id; peer = e.session; why = end_reason_number e.reason }

-- The endings after an update from the adapter.
abbrev pub looked_kept : Option EndingsState → Option AdapterState → Option EndingsState
looked_kept (Some e) (Some a) = Some (updated e a)
looked_kept e a = e

-- An entry of the connections that ended, counted from 0.
abbrev pub ended_kept : Option EndingsState → ℕ → Option EndedConnection
ended_kept None place = None
ended_kept (Some e) place = slice_get e.ended place

-- The status, and the connection if there is one.
abbrev pub ReturnsEnding : Option EndedConnection → CEndedConnection → CEndedConnection → ℕ → Type 0
ReturnsEnding None old new result = (result ≡ status_number status.Absent) × (new ≡ old)
ReturnsEnding (Some e) old new result = (result ≡ status_number status.Done) × (new ≡ c_ended_connection e)
