-- The calls of an adapter are steps of the ledger's laws of pending commands.
use Rattle.std.proofs.Common.{◌≡◌, ℕ, Bool, true, false, if◌then◌else◌, Option, Some, None, unwrap_or, List, [], ◌∷◌, ◌++◌, map, refl, sym, ap, ◌∙◌}
use Rattle.std.specs.Prelude.{option_map, is_some}
use Rattle.std.specs.Option.{option_and_then}
use Rattle.std.specs.List.{AllByRecursion}
use Rattle.cip_ledger.specs.declared.withdrawal.Withdrawal.{Withdrawal}
use Rattle.cip_ledger.specs.Device.{Device, owned_standing, FinishedCommand, finished_of, with_finished, finished_in}
use Rattle.cip_ledger.specs.Ledger.{LedgerState}
use Rattle.cip_ledger.specs.PendingLaws.{Step, Asks, Withdraws, node_step, node_after_steps}
use Rattle.cip_ledger.specs.Runs.{Request, next, node_after}
use Rattle.cip_ledger.specs.Pending.{completed}
use Rattle.cip_ledger.specs.Withdrawing.{with_withdrawn, withdrawn, withdrawal_of, withdrawal_result, was_handed, left_device, with_withdrawal, withdrawn_from, found_by}
use Rattle.cip_ledger.proofs.Devices.{run-ends}
use Rattle.cip_ledger.proofs.Withdrawals.{none-some, same-some, IsOfPending, IsOfUnused, withdraws, Withdraws as Gone}
use Rattle.cip_owner.specs.Owned.{OwnedState}
use Rattle.cip_owner.specs.Replies.{Reply}
use Rattle.enip_adapter.specs.Calls.{AdapterState, Call, after_call}
use Rattle.enip_adapter.specs.Calls.Call.{Begins_peer, Feeds, Ends_peer, Ticks, Writes}
use Rattle.enip_adapter.specs.DeviceRuns.{IsNoWrite, objects_after, objects_answer, requests_of_calls}
use Rattle.enip_adapter.specs.LedgerSteps.{step_of_finish, steps_of_leaving, steps_of_found, steps_of_write, ledger_steps_of_call, ledger_steps_of_calls, IsNoSettling}
use Rattle.enip_adapter.specs.OwnWrites as own_writes
use Rattle.enip_adapter.specs.OwnWrites.{OwnWrite, WritesData, WritesAttribute, SetsStatus, SetsState, Prepares, Settles, Finishes, Marks, objects_written, device_written}
use Rattle.enip_adapter.specs.Runs.{after_calls}
use Rattle.enip_adapter.proofs.DeviceLemmas.{calls-run}
use Rattle.enip_adapter.proofs.SettleLemmas.{finished-router}
use Rattle.enip_adapter.proofs.WithdrawalLemmas.{pending_of, unused_of, device_left, pending-can, unused-can, text_by, text_left, left-ledger, withdrawn-in, withdrawn-behind}

abbrev device_as : Option LedgerState → OwnedState → Device
device_as ledger router = record { ledger = ledger; router = router }

abbrev step_left : Device → Step OwnedState → Device
step_left device step = node_step objects_after objects_answer owned_standing device step

abbrev left : Device → List (Step OwnedState) → Device
left device steps = node_after_steps objects_after objects_answer owned_standing device steps

-- ---- a write

finish-step : (ticket : ℕ) (reply : Reply) (device : Device) (router : OwnedState) (done : Option FinishedCommand)
    → step_left device (step_of_finish ticket reply router done)
    ≡ device_as (unwrap_or (option_map (with_finished ticket reply device) done) device).ledger router
finish-step ticket reply device router None = refl
finish-step ticket reply device router (Some done) = refl

-- ---- a withdrawal

abbrev with_ledger_of : Device → Option LedgerState → Device
with_ledger_of device ledger = device_as ledger device.router

-- the reply is given to a ticket, at another ledger
done-step : (ticket : ℕ) (reply : Reply) (other : Device) (router : OwnedState) (done : Option FinishedCommand)
    → is_some done ≡ true
    → step_left other (step_of_finish ticket reply router done)
    ≡ device_as (option_map (λ l. completed l ticket (text_by reply done)) other.ledger) router
done-step ticket reply other router None some = absurd (cc)
done-step ticket reply other router (Some done) some = refl

some-done : (ticket : ℕ) (reply : Reply) (device : Device) (done : Option FinishedCommand)
    → is_some (option_map (with_finished ticket reply device) done) ≡ true → is_some done ≡ true
some-done ticket reply device None some = absurd (cc)
some-done ticket reply device (Some done) some = refl

module _ (device : Device) (ledger : LedgerState) (w : Withdrawal) (is : device.ledger ≡ Some ledger) where
  unused-steps : IsOfUnused ledger w
      → left device (Withdraws w.originator w.number device.router ∷ []) ≡ with_withdrawal w device
  unused-steps facts =
      ap (with_ledger_of device)
      (withdrawn-in device.ledger ledger w.originator w.number is (unused-can ledger w facts))

  leaving-steps : (ticket : ℕ) → IsOfPending ledger w
      → is_some (finished_in ticket withdrawal_result device) ≡ true
      → left device (Withdraws w.originator w.number device.router ∷ steps_of_leaving (Some ticket) device)
      ≡ with_withdrawal w (device_left ticket device)
  leaving-steps ticket facts some =
      let done = finished_of ticket withdrawal_result device.router.queue in
      let router = objects_written (Finishes ticket withdrawal_result) device.router in
      let text = text_left ticket device in
      done-step ticket withdrawal_result
      (device_as (option_map (withdrawn w.originator w.number) device.ledger) device.router) router done
      (some-done ticket withdrawal_result device done some)
      ∙ (ap (λ l. device_as l router)
      (withdrawn-behind device.ledger ledger w.originator w.number ticket text is (pending-can ledger w facts))
      ∙ (ap (λ l. device_as (option_map (with_withdrawn w.originator w.number) l) router)
      (sym (left-ledger ticket device some))
      ∙ ap (λ r. device_as (option_map (with_withdrawn w.originator w.number) (device_left ticket device).ledger) r)
      (sym (finished-router ticket withdrawal_result device))))

  steps-left : (ticket : Option ℕ) (after : Option Device) → Gone ledger w → w.ticket ≡ ticket
      → left_device ticket device ≡ after
      → left device (if is_some after then Withdraws w.originator w.number device.router ∷ steps_of_leaving ticket device
      else []) ≡ unwrap_or (option_map (with_withdrawal w) after) device
  steps-left ticket None facts e f = refl
  steps-left None (Some after) facts e f =
      unused-steps (unused_of ledger w facts e) ∙ ap (with_withdrawal w) (same-some device after f)
  steps-left (Some ticket) (Some after) facts e f = go (was_handed ticket device.router.queue) f
    where
      go : (handed : Bool) → (if handed then None else finished_in ticket withdrawal_result device) ≡ Some after
          → left device (Withdraws w.originator w.number device.router ∷ steps_of_leaving (Some ticket) device)
          ≡ with_withdrawal w after
      go true g = absurd (none-some after g)
      go false g =
          leaving-steps ticket (pending_of ledger w ticket facts e) (ap (λ o. is_some o) g)
          ∙ ap (λ o. with_withdrawal w (unwrap_or o device)) g

withdrawal-steps : (device : Device) (text : List ℕ)
    → left device (steps_of_found device (withdrawal_of device.ledger text)) ≡ found_by text device
withdrawal-steps device text = go device.ledger refl
  where
    by_withdrawal : (ledger : LedgerState) (found : Option Withdrawal) → device.ledger ≡ Some ledger
        → withdrawal_of (Some ledger) text ≡ found
        → left device (steps_of_found device found) ≡ unwrap_or (option_and_then (withdrawn_from device) found) device
    by_withdrawal ledger None is e = refl
    by_withdrawal ledger (Some w) is e =
        steps-left device ledger w is w.ticket (left_device w.ticket device) (withdraws ledger w text e) refl refl

    go : (ledger : Option LedgerState) → device.ledger ≡ ledger
        → left device (steps_of_found device (withdrawal_of ledger text))
        ≡ unwrap_or (option_and_then (withdrawn_from device) (withdrawal_of ledger text)) device
    go None is = refl
    go (Some ledger) is = by_withdrawal ledger (withdrawal_of (Some ledger) text) is refl

-- ---- any write

write-steps : (write : OwnWrite) (device : Device) → IsNoSettling (Writes write)
    → left device (steps_of_write write device) ≡ device_written write device
write-steps (WritesData instance offset bytes) device is = refl
write-steps (WritesAttribute class instance attribute offset bytes) device is = refl
write-steps (SetsStatus status) device is = refl
write-steps (SetsState state) device is = refl
write-steps (Prepares reply) device is = refl
write-steps (Settles originator number reply) device is = absurd is
write-steps (Finishes ticket reply) device is =
    finish-step ticket reply device (objects_written (Finishes ticket reply) device.router)
    (finished_of ticket reply device.router.queue)
write-steps (Marks ticket) device is = refl
write-steps (own_writes.Withdraws request) device is = withdrawal-steps device request

-- ---- any other call

asks-run : (requests : List Request) (device : Device)
    → left device (map Asks requests) ≡ node_after objects_after objects_answer owned_standing device requests
asks-run [] device = refl
asks-run (request ∷ requests) device =
    asks-run requests (next objects_after objects_answer owned_standing device request)

asked-call : (a : AdapterState) (call : Call) → IsNoWrite call
    → (after_call a call).state.shared.objects
    ≡ left a.state.shared.objects (map Asks (requests_of_calls a (call ∷ [])))
asked-call a call free =
    calls-run a (call ∷ []) (free, tt)
    ∙ (run-ends a.state.shared.objects (requests_of_calls a (call ∷ []))
    ∙ sym (asks-run (requests_of_calls a (call ∷ [])) a.state.shared.objects))

-- ---- lists of calls

call-steps : (a : AdapterState) (call : Call) → IsNoSettling call
    → (after_call a call).state.shared.objects ≡ left a.state.shared.objects (ledger_steps_of_call a call)
call-steps a (Begins_peer rights group) is = asked-call a (Begins_peer rights group) tt
call-steps a (Feeds now peer piece) is = asked-call a (Feeds now peer piece) tt
call-steps a (Ends_peer peer) is = asked-call a (Ends_peer peer) tt
call-steps a (Ticks now) is = asked-call a (Ticks now) tt
call-steps a (Writes write) is = sym (write-steps write a.state.shared.objects is)

left-two : (first second : List (Step OwnedState)) (device : Device)
    → left (left device first) second ≡ left device (first ++ second)
left-two [] second device = refl
left-two (step ∷ first) second device = left-two first second (step_left device step)

pub calls-steps : (a : AdapterState) (calls : List Call) → AllByRecursion IsNoSettling calls
    → (after_calls a calls).state.shared.objects ≡ left a.state.shared.objects (ledger_steps_of_calls a calls)
calls-steps a [] all = refl
calls-steps a (call ∷ calls) all =
    calls-steps (after_call a call) calls all.1
    ∙ (ap (λ device. left device (ledger_steps_of_calls (after_call a call) calls)) (call-steps a call all.0)
    ∙ left-two (ledger_steps_of_call a call) (ledger_steps_of_calls (after_call a call) calls) a.state.shared.objects)
