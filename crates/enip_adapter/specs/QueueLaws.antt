-- What holds of queued commands over every list of calls: which calls push and finish them, and that nothing else changes
-- the queue.
use Rattle.std.specs.Prelude.{◌≡◌, ◌≢◌, ⊤, ℕ, ◌≤◌, ◌+◌, Bool, true, false, is_some, Option, Some, None, List, [], ◌∷◌, ◌++◌, length, map, option_map}
use Rattle.std.specs.List.{flat_map, AllByRecursion, range_with_len}
use Rattle.cip_message.specs.declared.ledger_services.TheConstants as services
use Rattle.cip_ledger.specs.Device.{Device, owned_standing, queued_device, exec_device, finished_text}
use Rattle.cip_ledger.specs.DoubtLaws.{IsGiven}
use Rattle.cip_ledger.specs.Ledger.{LedgerState, SlotState, empty_ledger}
use Rattle.cip_ledger.specs.Pending.{is_pending_at}
use Rattle.cip_ledger.specs.PendingLaws.{IsPending}
use Rattle.cip_message.specs.LedgerCommand.{Command}
use Rattle.cip_ledger.specs.Runs.{Request, slot_in, reached}
use Rattle.cip_ledger.specs.Services.{reply_to, success, DONE, HEAD_SIZE}
use Rattle.cip_ledger.specs.Withdrawing.{withdrawal_result}
use Rattle.cip_objects.specs.Contents.{Contents}
use Rattle.cip_owner.specs.Queue.{QueueState, QueuedCommand, command_ticket, command_of, can_be_reply}
use Rattle.cip_owner.specs.QueueLaws.{HasTickets, AreApart, IsResultOfSome, unfinished, last_results}
use Rattle.cip_owner.specs.QueueRuns as queue_runs
use Rattle.cip_owner.specs.QueueRuns.{QueueStep, after_steps, commands_in, results_in, steps_of}
use Rattle.cip_owner.specs.Replies.{Reply}
use Rattle.enip_adapter.specs.Calls.{AdapterState, Call}
use Rattle.enip_adapter.specs.DeviceRuns.{DeviceStep, Requested, WrittenBy, device_after_step, objects_after, objects_answer}
use Rattle.enip_adapter.specs.DeviceRuns.{steps_of_calls}
use Rattle.enip_adapter.specs.OwnWrites.{OwnWrite, Finishes, Marks, Withdraws, ticket_withdrawn, device_written}
use Rattle.enip_adapter.specs.OwnerLaws.{owned_in}
use Rattle.enip_adapter.specs.Runs.{after_calls}

-- ---- the steps of the queue

-- A command that is withdrawn leaves the queue as if its owner had finished it with this result.
abbrev pub queue_steps_by_withdrawal : Option ℕ → List QueueStep
queue_steps_by_withdrawal None = []
queue_steps_by_withdrawal (Some ticket) = queue_runs.Finishes ticket withdrawal_result ∷ []

-- Of the device's own writes, a finish and a mark are, and what is withdrawn.
abbrev pub queue_steps_by_write : OwnWrite → Device → List QueueStep
queue_steps_by_write (Finishes ticket reply) device = queue_runs.Finishes ticket reply ∷ []
queue_steps_by_write (Marks ticket) device = queue_runs.Marks ticket ∷ []
queue_steps_by_write (Withdraws request) device = queue_steps_by_withdrawal (ticket_withdrawn request device)
queue_steps_by_write other device = []

-- A request that reaches the objects is a push if its service is queued.
abbrev pub queue_steps_by_reached : Contents → List Request → List QueueStep
queue_steps_by_reached objects requests = flat_map (λ request. steps_of objects request.1) requests

-- By a step of the device: of a request, what the ledger lets through.
abbrev pub queue_steps_by_step : Device → DeviceStep → List QueueStep
queue_steps_by_step device (Requested request) =
    queue_steps_by_reached device.router.objects
    (reached objects_after objects_answer owned_standing device (request ∷ []))
queue_steps_by_step device (WrittenBy write) = queue_steps_by_write write device

-- By steps, one after the other.
abbrev pub queue_steps_by_steps : Device → List DeviceStep → List QueueStep
queue_steps_by_steps device [] = []
queue_steps_by_steps device (step ∷ steps) =
    queue_steps_by_step device step ++ queue_steps_by_steps (device_after_step device step) steps

-- By calls of the adapter.
abbrev pub queue_steps_of_calls : AdapterState → List Call → List QueueStep
queue_steps_of_calls a calls = queue_steps_by_steps a.state.shared.objects (steps_of_calls a calls)

-- ---- the laws

-- After any calls, the queue is the one after these pushes and finishes, in order.
abbrev pub queue_steps_law : Type 0
queue_steps_law = (a : AdapterState) (calls : List Call) → (owned_in (after_calls a calls)).queue
    ≡ option_map (λ queue. after_steps queue (queue_steps_of_calls a calls)) (owned_in a).queue

-- What is said of the commands that these steps put into a queue and of those that they finish. The tickets are numbers in
-- a row. The commands that wait are, in their order, those that waited before and those that were put into the queue,
-- without those that were finished. Of the results the last 256 are kept. Each command has one result at most, and each
-- result is that of a command.
pub record AreHandedOver (before after : QueueState) (steps : List QueueStep) : Type 0 where
  pub tickets : map command_ticket (commands_in before steps)
      ≡ range_with_len before.next (length (commands_in before steps))
  pub next : after.next ≡ before.next + length (commands_in before steps)
  pub waiting : after.waiting ≡ unfinished (results_in before steps) (before.waiting ++ commands_in before steps)
  pub results : length before.results ≤ 256 → after.results ≡ last_results (before.results ++ results_in before steps)
  pub once : AreApart (results_in before steps)
  pub own : AllByRecursion
      (λ result. IsResultOfSome result (command_of result.ticket (before.waiting ++ commands_in before steps)))
      (results_in before steps)
  pub goes_on : HasTickets after

-- So it is over every list of calls, from a queue that began empty.
abbrev pub handed_over_law : Type 0
handed_over_law = (a : AdapterState) (calls : List Call) (before : QueueState) → (owned_in a).queue ≡ Some before →
    HasTickets before → (after : QueueState) × ((owned_in (after_calls a calls)).queue ≡ Some after)
    × AreHandedOver before after (queue_steps_of_calls a calls)

-- ---- pending commands of the ledger

abbrev pub is_waiting : ℕ → Option QueueState → Bool
is_waiting ticket None = false
is_waiting ticket (Some queue) = is_some (command_of ticket queue.waiting)

-- Each command of the ledger that is pending waits in the queue.
abbrev pub PendingWait : Device → Type 0
PendingWait device = (originator ticket : ℕ) (slot : SlotState) → slot_in originator device.ledger ≡ Some slot →
    is_pending_at ticket slot ≡ true → is_waiting ticket device.router.queue ≡ true

-- It is so for a ledger without commands, and no call changes it. So no command of the ledger is pending for good once the
-- device has finished those that wait.
abbrev pub pending_law : Type 0
pending_law = ((objects : Contents) (queue : Option QueueState) (slots life : ℕ) →
    PendingWait (queued_device (Some (empty_ledger slots life)) objects queue))
    × ((a : AdapterState) (calls : List Call) → PendingWait a.state.shared.objects →
    PendingWait (after_calls a calls).state.shared.objects)

-- A step of the queue does not finish the command with this ticket.
abbrev pub IsNoFinish : ℕ → QueueStep → Type 0
IsNoFinish ticket (queue_runs.Finishes other reply) = ticket ≢ other
IsNoFinish ticket other = ⊤

-- A command of the ledger that is pending keeps its slot until it leaves the queue, whatever calls are made: until the
-- device finishes it, or it is withdrawn, no other command of its originator is taken, and no Forget frees the slot.
abbrev pub keeps_slot_law : Type 0
keeps_slot_law = (a : AdapterState) (calls : List Call) (originator ticket : ℕ) (slot : SlotState) →
    slot_in originator a.state.shared.objects.ledger ≡ Some slot → slot.reply ≡ None → slot.ticket ≡ Some ticket →
    AllByRecursion (IsNoFinish ticket) (queue_steps_of_calls a calls) →
    slot_in originator (after_calls a calls).state.shared.objects.ledger ≡ Some slot

-- The device has finished a command that waits, with a reply that its service allows. A repeat of the ledger's command
-- that is pending with this ticket, whose reply may be so long, is answered by this reply, and nothing changes: it is not
-- executed again.
abbrev pub finished_answer_law : Type 0
finished_answer_law = (device : Device) (queue : QueueState) (ledger : LedgerState) (waiting : QueuedCommand)
    (reply : Reply) (request : Request) (command : Command) →
    let text = finished_text waiting.service reply in
    let after = device_written (Finishes waiting.ticket reply) device in
    device.router.queue ≡ Some queue → device.ledger ≡ Some ledger →
    command_of waiting.ticket queue.waiting ≡ Some waiting → can_be_reply waiting reply ≡ true →
    IsPending ledger command.originator command.number waiting.ticket →
    IsGiven ledger request command (HEAD_SIZE + 1 + length text) →
    ((exec_device after request.0 request.1).after ≡ after)
    × ((exec_device after request.0 request.1).answer ≡ reply_to services.DO_ONCE (success (DONE ∷ text)))
