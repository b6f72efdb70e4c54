-- The calls of an adapter as steps of what `cip_ledger` proves of pending commands: the requests that reach the device, the
-- replies that its owner gives to tickets, what is withdrawn, and its other writes.
use Rattle.std.specs.Prelude.{◌≡◌, ⊤, Option, Some, None, is_some, if◌then◌else◌, List, [], ◌∷◌, ◌++◌, map, ℕ}
use Rattle.std.specs.List.{AllByRecursion}
use Rattle.cip_ledger.specs.declared.withdrawal.Withdrawal.{Withdrawal}
use Rattle.cip_ledger.specs.Device.{Device, owned_standing, FinishedCommand, finished_of, finished_text}
use Rattle.cip_ledger.specs.PendingLaws.{Step, Asks, Completes, Changes, Withdraws, node_after_steps}
use Rattle.cip_ledger.specs.Withdrawing.{withdrawal_of, left_device, withdrawal_result}
use Rattle.cip_owner.specs.Owned.{OwnedState}
use Rattle.cip_owner.specs.Replies.{Reply}
use Rattle.enip_adapter.specs.Calls.{AdapterState, Call, after_call}
use Rattle.enip_adapter.specs.Calls.Call.{Writes}
use Rattle.enip_adapter.specs.DeviceRuns.{objects_after, objects_answer, requests_of_calls}
use Rattle.enip_adapter.specs.OwnWrites as own_writes
use Rattle.enip_adapter.specs.OwnWrites.{OwnWrite, Settles, Finishes, objects_written}
use Rattle.enip_adapter.specs.Runs.{after_calls}

-- A finish that is refused changes nothing.
abbrev pub step_of_finish : ℕ → Reply → OwnedState → Option FinishedCommand → Step OwnedState
step_of_finish ticket reply router None = Changes router
step_of_finish ticket reply router (Some done) = Completes ticket (finished_text done.service reply) router

abbrev pub step_of_done : ℕ → Reply → Device → Step OwnedState
step_of_done ticket reply device =
    step_of_finish ticket reply (objects_written (Finishes ticket reply) device.router)
    (finished_of ticket reply device.router.queue)

-- A command is withdrawn, and then it leaves the queue, if it waits there: it was withdrawn before, so it keeps no reply.
abbrev pub steps_of_leaving : Option ℕ → Device → List (Step OwnedState)
steps_of_leaving None device = []
steps_of_leaving (Some ticket) device = step_of_done ticket withdrawal_result device ∷ []

abbrev pub steps_of_withdrawal : Device → Withdrawal → List (Step OwnedState)
steps_of_withdrawal device w =
    if is_some (left_device w.ticket device)
    then Withdraws w.originator w.number device.router ∷ steps_of_leaving w.ticket device else []

abbrev pub steps_of_found : Device → Option Withdrawal → List (Step OwnedState)
steps_of_found device None = []
steps_of_found device (Some w) = steps_of_withdrawal device w

abbrev pub steps_of_write : OwnWrite → Device → List (Step OwnedState)
steps_of_write (Finishes ticket reply) device = step_of_done ticket reply device ∷ []
steps_of_write (own_writes.Withdraws request) device = steps_of_found device (withdrawal_of device.ledger request)
steps_of_write write device = Changes (objects_written write device.router) ∷ []

abbrev pub ledger_steps_of_call : AdapterState → Call → List (Step OwnedState)
ledger_steps_of_call a (Writes write) = steps_of_write write a.state.shared.objects
ledger_steps_of_call a call = map Asks (requests_of_calls a (call ∷ []))

abbrev pub ledger_steps_of_calls : AdapterState → List Call → List (Step OwnedState)
ledger_steps_of_calls a [] = []
ledger_steps_of_calls a (call ∷ calls) =
    ledger_steps_of_call a call ++ ledger_steps_of_calls (after_call a call) calls

-- The call does not settle a command in doubt.
abbrev pub IsNoSettling : Call → Type 0
IsNoSettling (Writes (Settles originator number reply)) = ⊥
IsNoSettling other = ⊤

-- If no command in doubt is settled among any calls, the device is the one after these steps, in order.
abbrev pub ledger_steps_law : Type 0
ledger_steps_law = (a : AdapterState) (calls : List Call) → AllByRecursion IsNoSettling calls →
    (after_calls a calls).state.shared.objects
    ≡ node_after_steps objects_after objects_answer owned_standing a.state.shared.objects (ledger_steps_of_calls a calls)
