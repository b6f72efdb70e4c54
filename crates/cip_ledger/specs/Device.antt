-- The objects of a device and its owner, with a ledger before them if there is one, as one router.
use Rattle.std.specs.Prelude.{◌≡◌, ℕ, Option, Some, None, option_map, List, [], ◌∷◌, Result, Ok, Err}
use Rattle.cip_application.specs.declared.config.ServiceKind.{ServiceKind}
use Rattle.cip_application.specs.declared.config.ServiceKind.TheVariants as kinds
use Rattle.cip_objects.specs.declared.status.Refusal.{Refusal}
use Rattle.cip_objects.specs.Contents.{Contents}
use Rattle.cip_objects.specs.OwnRequests.{Asked, own_request}
use Rattle.cip_owner.specs.Owned.{OwnedState, exec_owned, answer_with}
use Rattle.cip_owner.specs.Queue.{QueueState, QueuedCommand, next_ticket, command_of, finished_by}
use Rattle.cip_owner.specs.Replies.{Reply}
use Rattle.cip_owner.specs.Reset.{ResetState}
use Rattle.cip_ledger.specs.declared.router.LedgerRouter.{LedgerRouter}
use Rattle.cip_ledger.specs.declared.target.Standing.{Standing}
use Rattle.cip_ledger.specs.declared.target.Standing.TheVariants as standings
use Rattle.cip_ledger.specs.Ledger.{LedgerState}
use Rattle.cip_ledger.specs.Pending.{completed}
use Rattle.cip_ledger.specs.Runs.{Request}
use Rattle.cip_ledger.specs.Turn.{Turn, turn}

abbrev pub Device : Type 0
Device = LedgerRouter OwnedState

-- A device with these objects, no reply prepared, and this queue. It cannot be reset.
abbrev pub queued_device : Option LedgerState → Contents → Option QueueState → Device
queued_device ledger objects queue =
    record { ledger = ledger; router = record { objects = objects; prepared = None; queue = queue; reset = None } }

-- A device without a queue.
abbrev pub device_of : Option LedgerState → Contents → Device
device_of ledger objects = queued_device ledger objects None

-- The device with this in place of what it needs to be reset.
abbrev pub with_reset : Option ResetState → Device → Device
with_reset reset device = record device { router = record device.router { reset = reset } }

-- ---- what becomes of a command

abbrev pub standing_by_ticket : Option ℕ → Standing
standing_by_ticket None = standings.Refused
standing_by_ticket (Some ticket) = standings.Pending ticket

abbrev pub standing_of_kind : ServiceKind → QueueState → Asked → Standing
standing_of_kind kinds.Asked queue asked = standings.Final
standing_of_kind kinds.Queued queue asked = standing_by_ticket (next_ticket queue asked)
standing_of_kind kinds.Result queue asked = standings.Final

abbrev pub standing_of_own : QueueState → Option (Result Asked Refusal) → Standing
standing_of_own queue None = standings.Final
standing_of_own queue (Some (Err refusal)) = standings.Final
standing_of_own queue (Some (Ok asked)) = standing_of_kind asked.kind queue asked

abbrev pub standing_in : Option QueueState → Option (Result Asked Refusal) → Standing
standing_in None own = standings.Final
standing_in (Some queue) own = standing_of_own queue own

-- A request of a queued service is put into the queue, or refused if the queue does not take it. Every other one is
-- executed at once, and so is each one if there is no queue.
abbrev pub owned_standing : OwnedState → List ℕ → Standing
owned_standing owned request = standing_in owned.queue (own_request owned.objects request)

-- ---- requests

abbrev pub device_turn : Device → ℕ → List ℕ → Turn OwnedState
device_turn device max_size request =
    turn (λ owned max_size request. (exec_owned owned max_size request).after)
    (λ owned max_size request. (exec_owned owned max_size request).answer) owned_standing device.ledger device.router
    max_size request

-- the device after a request, and its reply
pub record Executed : Type 0 where
  pub after : Device
  pub answer : List ℕ

abbrev pub exec_device : Device → ℕ → List ℕ → Executed
exec_device device max_size request = record {
  after = record {
    ledger = (device_turn device max_size request).ledger;
    router = (device_turn device max_size request).router;
  };
  answer = (device_turn device max_size request).answer;
}

-- the device after these requests, each a reply limit and its bytes, from left to right, and their replies
pub record Ran : Type 0 where
  pub after : Device
  pub answers : List (List ℕ)

abbrev pub run : Device → List Request → Ran
run device [] = record { after = device; answers = [] }
run device (request ∷ requests) =
    let now = exec_device device request.0 request.1 in
    let later = run now.after requests in
    record { after = later.after; answers = now.answer ∷ later.answers }

-- ---- the owner finishes a command

-- A command that the owner finished: its service, and the queue afterwards.
pub record FinishedCommand : Type 0 where
  pub service : ℕ
  pub queue : QueueState

abbrev pub finished_command : QueueState → ℕ → Reply → Option QueuedCommand → Option FinishedCommand
finished_command queue ticket reply None = None
finished_command queue ticket reply (Some command) =
    option_map (λ after. record { service = command.service; queue = after })
    (finished_by queue ticket reply (Some command))

-- What the owner finishes by this reply to the command with this ticket.
abbrev pub finished_of : ℕ → Reply → Option QueueState → Option FinishedCommand
finished_of ticket reply None = None
finished_of ticket reply (Some queue) = finished_command queue ticket reply (command_of ticket queue.waiting)

-- The whole reply to the embedded request of a command that the owner finished.
abbrev pub finished_text : ℕ → Reply → List ℕ
finished_text service reply = answer_with service reply.status reply.content

abbrev pub with_finished : ℕ → Reply → Device → FinishedCommand → Device
with_finished ticket reply device done = record {
  ledger = option_map (λ ledger. completed ledger ticket (finished_text done.service reply)) device.ledger;
  router = record device.router { queue = Some done.queue };
}

-- The device after the owner finished the command with this ticket: the command leaves the queue, and the ledger keeps
-- its reply if it came by Do_Once. None if no such command waits, or if this cannot be its reply.
abbrev pub finished_in : ℕ → Reply → Device → Option Device
finished_in ticket reply device =
    option_map (with_finished ticket reply device) (finished_of ticket reply device.router.queue)

-- What finishing a command leaves of the queue, with the service of the command.
abbrev pub IsFinishedAs : Option FinishedCommand → Option QueueState → Option ℕ → Option QueueState → Type 0
IsFinishedAs None old service new = (service ≡ None) × (new ≡ old)
IsFinishedAs (Some done) old service new = (service ≡ Some done.service) × (new ≡ Some done.queue)

abbrev pub IsFinished : ℕ → Reply → Option QueueState → Option ℕ → Option QueueState → Type 0
IsFinished ticket reply old service new = IsFinishedAs (finished_of ticket reply old) old service new
