-- A command of the ledger whose queued command the device has finished is answered by the owner's reply.
use Rattle.std.proofs.Common.{◌≡◌, ℕ, ◌+◌, length, true, if◌then◌else◌, Option, Some, None, unwrap_or, List, ◌∷◌, ap, ◌∙◌}
use Rattle.std.specs.Prelude.{option_map}
use Rattle.cip_message.specs.declared.ledger_services.TheConstants as services
use Rattle.cip_ledger.specs.Device.{Device, owned_standing, exec_device, FinishedCommand, finished_command, finished_of, finished_text, with_finished}
use Rattle.cip_ledger.specs.DoubtLaws.{IsGiven}
use Rattle.cip_ledger.specs.Ledger.{LedgerState}
use Rattle.cip_ledger.specs.Pending.{completed}
use Rattle.cip_ledger.specs.PendingLaws.{IsPending}
use Rattle.cip_message.specs.LedgerCommand.{Command}
use Rattle.cip_ledger.specs.Runs.{Request, turn_at}
use Rattle.cip_ledger.specs.Services.{reply_to, success, DONE, HEAD_SIZE}
use Rattle.cip_ledger.specs.Turn.{Turn, turn_of}
use Rattle.cip_ledger.proofs.Pendings.{completed-answered}
use Rattle.cip_owner.specs.Owned.{OwnedState}
use Rattle.cip_owner.specs.Queue.{QueueState, QueuedCommand, command_of, can_be_reply, with_finished as finished_queue}
use Rattle.cip_owner.specs.Replies.{Reply}
use Rattle.enip_adapter.specs.DeviceRuns.{objects_after, objects_answer}
use Rattle.enip_adapter.specs.OwnWrites.{Finishes, device_written}
use Rattle.enip_adapter.proofs.PendingLemmas.{kept-short}

abbrev finished_as : ℕ → QueueState → FinishedCommand
finished_as service queue = record { service = service; queue = queue }

-- What is finished, of a command that waits.
found-finished : (queue : QueueState) (waiting : QueuedCommand) (reply : Reply)
    → command_of waiting.ticket queue.waiting ≡ Some waiting → can_be_reply waiting reply ≡ true
    → finished_of waiting.ticket reply (Some queue)
    ≡ Some (finished_as waiting.service (finished_queue queue waiting.ticket waiting reply))
found-finished queue waiting reply found can =
    ap (finished_command queue waiting.ticket reply) found
    ∙ ap (λ can. option_map (finished_as waiting.service)
    (if can then Some (finished_queue queue waiting.ticket waiting reply) else None)) can

-- The ledger then.
abbrev ledger_with : Device → ℕ → Reply → Option FinishedCommand → Option LedgerState
ledger_with device ticket reply done =
    (unwrap_or (option_map (with_finished ticket reply device) done) device).ledger

pub finished-answered : (device : Device) (queue : QueueState) (ledger : LedgerState) (waiting : QueuedCommand)
    (reply : Reply) (request : Request) (command : Command)
    → device.router.queue ≡ Some queue → device.ledger ≡ Some ledger
    → command_of waiting.ticket queue.waiting ≡ Some waiting → can_be_reply waiting reply ≡ true
    → IsPending ledger command.originator command.number waiting.ticket
    → IsGiven ledger request command (HEAD_SIZE + 1 + length (finished_text waiting.service reply))
    → ((exec_device (device_written (Finishes waiting.ticket reply) device) request.0 request.1).after
    ≡ device_written (Finishes waiting.ticket reply) device)
    × ((exec_device (device_written (Finishes waiting.ticket reply) device) request.0 request.1).answer
    ≡ reply_to services.DO_ONCE (success (DONE ∷ finished_text waiting.service reply)))
finished-answered device queue ledger waiting reply request command queue_is ledger_is found can pending given =
    let text : List ℕ = finished_text waiting.service reply in
    let after : Device = device_written (Finishes waiting.ticket reply) device in
    let after_ledger : after.ledger ≡ Some (completed ledger waiting.ticket text)
    = ap (ledger_with device waiting.ticket reply)
    (ap (finished_of waiting.ticket reply) queue_is ∙ found-finished queue waiting reply found can)
    ∙ ap (option_map (λ kept. completed kept waiting.ticket text)) ledger_is in
    let answered : turn_at objects_after objects_answer owned_standing after request
    ≡ turn_of after.ledger after.router (reply_to services.DO_ONCE (success (DONE ∷ text)))
    = completed-answered objects_after objects_answer owned_standing after ledger request command waiting.ticket text
    after_ledger given pending (kept-short waiting.service waiting reply can) in (
      ap (λ (done : Turn OwnedState). let left : Device = record { ledger = done.ledger; router = done.router } in left)
          answered,
      ap (λ (done : Turn OwnedState). done.answer) answered,
    )
