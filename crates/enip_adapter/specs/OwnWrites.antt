-- What the device itself writes, apart from the frames of its peers: values of its objects, the next reply of its owner,
-- the reply to a command in doubt, and the reply to a queued command. What a request withdraws, before it is served, is one
-- of them.
use Rattle.std.specs.Prelude.{ℕ, ◌==◌, ◌&&◌, Bool, false, if◌then◌else◌, List, Option, Some, None, option_map, is_some, unwrap_or}
use Rattle.std.specs.Option.{option_and_then}
use Rattle.cip_bytes.specs.declared.protocol.TheConstants.{ASSEMBLY}
use Rattle.cip_ledger.specs.declared.withdrawal.Withdrawal.{Withdrawal}
use Rattle.cip_ledger.specs.Device.{Device, finished_in}
use Rattle.cip_ledger.specs.Doubt.{can_settle, settled}
use Rattle.cip_ledger.specs.Ledger.{LedgerState}
use Rattle.cip_ledger.specs.Withdrawing.{withdrawal_of, left_device, found_by}
use Rattle.cip_objects.specs.Contents.{Contents}
use Rattle.cip_objects.specs.DeviceWrites.{device_write, object_write, with_device_status, with_device_state}
use Rattle.cip_owner.specs.Owned.{OwnedState}
use Rattle.cip_owner.specs.QueueRuns as queue_runs
use Rattle.cip_owner.specs.QueueRuns.{after_step}
use Rattle.cip_owner.specs.Replies.{Reply}

-- Bytes of an assembly's data or of an attribute, from an offset on; the device's status, or its state; the reply that
-- the next request to the owner takes; the reply with which an originator's command in doubt is settled; the owner's
-- reply with which the queued command of a ticket is finished; the mark that the command of a ticket, and each before
-- it, was handed over; or what a request withdraws.
pub data OwnWrite : Type 0 where
  WritesData : (instance offset : ℕ) → (bytes : List ℕ) → OwnWrite
  WritesAttribute : (class instance attribute offset : ℕ) → (bytes : List ℕ) → OwnWrite
  SetsStatus : (status : ℕ) → OwnWrite
  SetsState : (state : ℕ) → OwnWrite
  Prepares : (reply : Option Reply) → OwnWrite
  Settles : (originator number : ℕ) → (reply : List ℕ) → OwnWrite
  Finishes : (ticket : ℕ) → (reply : Reply) → OwnWrite
  Marks : (ticket : ℕ) → OwnWrite
  Withdraws : (request : List ℕ) → OwnWrite

-- The objects after the device wrote bytes into an attribute, from an offset on. The attribute is the data of an
-- assembly or an attribute of an application object. None if it is neither, or if its value cannot hold the bytes.
abbrev pub attribute_write : Contents → ℕ → ℕ → ℕ → ℕ → List ℕ → Option Contents
attribute_write objects class instance attribute offset bytes =
    if (class == ASSEMBLY) && (attribute == 3) then device_write objects instance offset bytes
    else object_write objects class instance attribute offset bytes

-- With other objects. The reply that is prepared stays, and so does the queue.
abbrev pub with_contents : OwnedState → Contents → OwnedState
with_contents owned objects = record owned { objects = objects }

-- The objects, the prepared reply and the queue after it, without the ledger. Bytes that are refused change nothing, and
-- neither does a reply to a command that does not wait, or that cannot be given to it. What a request withdraws is known to
-- the ledger alone.
abbrev pub objects_written : OwnWrite → OwnedState → OwnedState
objects_written (WritesData instance offset bytes) owned =
    with_contents owned (unwrap_or (device_write owned.objects instance offset bytes) owned.objects)
objects_written (WritesAttribute class instance attribute offset bytes) owned =
    with_contents owned
    (unwrap_or (attribute_write owned.objects class instance attribute offset bytes) owned.objects)
objects_written (SetsStatus status) owned = with_contents owned (with_device_status owned.objects status)
objects_written (SetsState state) owned = with_contents owned (with_device_state owned.objects state)
objects_written (Prepares reply) owned = record owned { prepared = reply }
objects_written (Settles originator number reply) owned = owned
objects_written (Finishes ticket reply) owned =
    record owned { queue = option_map (λ queue. after_step queue (queue_runs.Finishes ticket reply)) owned.queue }
objects_written (Marks ticket) owned =
    record owned { queue = option_map (λ queue. after_step queue (queue_runs.Marks ticket)) owned.queue }
objects_written (Withdraws request) owned = owned

-- The same with the ledger: a command that is withdrawn leaves the queue.
abbrev pub router_written : OwnWrite → Device → OwnedState
router_written (Withdraws request) device = (found_by request device).router
router_written other device = objects_written other device.router

-- The ledger after it, if there is one. Settling a command changes it, finishing a queued one that it executed, and
-- withdrawing one.
abbrev pub ledger_written : OwnWrite → Device → Option LedgerState
ledger_written (WritesData instance offset bytes) device = device.ledger
ledger_written (WritesAttribute class instance attribute offset bytes) device = device.ledger
ledger_written (SetsStatus status) device = device.ledger
ledger_written (SetsState state) device = device.ledger
ledger_written (Prepares reply) device = device.ledger
ledger_written (Settles originator number reply) device =
    option_map (λ ledger. settled ledger originator number reply) device.ledger
ledger_written (Finishes ticket reply) device = (unwrap_or (finished_in ticket reply device) device).ledger
ledger_written (Marks ticket) device = device.ledger
ledger_written (Withdraws request) device = (found_by request device).ledger

-- Whether a command of the ledger, if there is one, can be settled with this reply.
abbrev pub can_settle_in : Option LedgerState → ℕ → ℕ → List ℕ → Bool
can_settle_in None originator number reply = false
can_settle_in (Some ledger) originator number reply = can_settle ledger originator number reply

-- The device after it.
abbrev pub device_written : OwnWrite → Device → Device
device_written write device = record {
  ledger = ledger_written write device;
  router = router_written write device;
}

-- ---- what a request withdraws

-- The ticket of a command that leaves the queue.
abbrev pub ticket_left : Device → Withdrawal → Option ℕ
ticket_left device w = if is_some (left_device w.ticket device) then w.ticket else None

-- The ticket of the pending command, if any, that a request withdraws: no owner was handed it.
abbrev pub ticket_withdrawn : List ℕ → Device → Option ℕ
ticket_withdrawn request device = option_and_then (ticket_left device) (withdrawal_of device.ledger request)
