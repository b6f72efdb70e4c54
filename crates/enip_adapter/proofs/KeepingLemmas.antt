-- A command of the ledger that is pending keeps its slot until it is finished.
use Rattle.std.proofs.Common.{◌≡◌, ◌≢◌, ℕ, true, false, Option, Some, None, List, [], ◌∷◌, ◌++◌, ap, sym, subst, ◌∙◌}
use Rattle.std.specs.Prelude.{option_map}
use Rattle.std.specs.List.{AllByRecursion}
use Rattle.cip_ledger.specs.declared.withdrawal.Withdrawal.{Withdrawal}
use Rattle.cip_ledger.specs.Device.{Device, owned_standing}
use Rattle.cip_ledger.specs.Doubt.{settled}
use Rattle.cip_ledger.specs.Ledger.{LedgerState, SlotState, slot_of}
use Rattle.cip_ledger.specs.Runs.{Request, slot_in}
use Rattle.cip_ledger.specs.Turn.{fate}
use Rattle.cip_ledger.specs.Withdrawing.{with_withdrawn, withdrawal_result, with_withdrawal, found_by}
use Rattle.cip_ledger.proofs.Fates.{HasEnded, fate-means}
use Rattle.cip_ledger.proofs.OnePending.{waiting, stays-by, settled-keeps, completed-keeps}
use Rattle.cip_ledger.proofs.Withdrawals.{IsOfPending, IsOfUnused, same-some, withdrawn-other}
use Rattle.cip_owner.specs.QueueRuns.{QueueStep}
use Rattle.enip_adapter.specs.Calls.{AdapterState, Call}
use Rattle.enip_adapter.specs.DeviceRuns.{DeviceStep, Requested, WrittenBy, device_after_step, device_after, objects_after, objects_answer, steps_of_calls}
use Rattle.enip_adapter.specs.OwnWrites.{OwnWrite, WritesData, WritesAttribute, SetsStatus, SetsState, Prepares, Settles, Finishes, Marks, Withdraws, ticket_withdrawn, ledger_written}
use Rattle.enip_adapter.specs.QueueLaws.{IsNoFinish, queue_steps_by_withdrawal, queue_steps_by_write, queue_steps_by_step, queue_steps_by_steps, queue_steps_of_calls}
use Rattle.enip_adapter.specs.Runs.{after_calls}
use Rattle.enip_adapter.proofs.DeviceLemmas.{calls-end}
use Rattle.enip_adapter.proofs.WithdrawalLemmas.{device_left, by-ticket}
use Rattle.enip_adapter.proofs.SettleLemmas.{IsFinished, Unchanged, Completed, finished-ledger}

module _ (originator ticket : ℕ) (slot : SlotState) (none : slot.reply ≡ None) (own : slot.ticket ≡ Some ticket) where
  -- its slot has the command
  abbrev HasSlot : Option LedgerState → Type 0
  HasSlot ledger = slot_in originator ledger ≡ Some slot

  settled_has : (ledger : Option LedgerState) (by number : ℕ) (reply : List ℕ) → HasSlot ledger
      → HasSlot (option_map (λ ledger. settled ledger by number reply) ledger)
  settled_has None by number reply found = found
  settled_has (Some ledger) by number reply found =
      settled-keeps ledger by number reply originator slot found (waiting slot ticket none own)

  finished_has : (given : ℕ) (old new : Option LedgerState) → IsFinished given old new → ticket ≢ given → HasSlot old
      → HasSlot new
  finished_has given old new Unchanged apart found = found
  finished_has given None new (Completed reply) apart found = found
  finished_has given (Some ledger) new (Completed reply) apart found =
      completed-keeps ledger given reply originator ticket slot found none own apart

  -- a number of another originator is withdrawn
  withdrawn_has : (ledger : Option LedgerState) (w : Withdrawal) → w.originator ≢ originator → HasSlot ledger
      → HasSlot (option_map (with_withdrawn w.originator w.number) ledger)
  withdrawn_has None w apart found = found
  withdrawn_has (Some ledger) w apart found = withdrawn-other ledger w.originator w.number originator apart ∙ found

  same_slot : (one other : SlotState) → ◌≡◌ {A = Option SlotState} (Some one) (Some other) → one ≡ other
  same_slot one other e = cc

  -- a number that was not used is withdrawn: that of another originator, since this one's command is pending
  pub unused_has : (device : Device) (ledger : LedgerState) (w : Withdrawal) → device.ledger ≡ Some ledger
      → IsOfUnused ledger w → HasSlot device.ledger → HasSlot (with_withdrawal w device).ledger
  unused_has device ledger w is facts found =
      withdrawn_has device.ledger w (λ same.
      let ended : HasEnded (Some slot) = subst HasEnded
      (ap (λ o. slot_of o ledger.taken) same ∙ (ap (slot_in originator) (sym is) ∙ found)) facts.ended in
      absurd (let both : false ≡ true = sym ended ∙ waiting slot ticket none own in cc)) found

  -- a command with another ticket leaves the queue
  pub left_has : (device : Device) (ledger : LedgerState) (w : Withdrawal) (given : ℕ) → device.ledger ≡ Some ledger
      → IsOfPending ledger w → w.ticket ≡ Some given → ticket ≢ given → HasSlot device.ledger
      → HasSlot (with_withdrawal w (device_left given device)).ledger
  left_has device ledger w given is facts of apart found =
      withdrawn_has (device_left given device).ledger w (λ same.
      let its : facts.slot ≡ slot = same_slot facts.slot slot
      (sym facts.found ∙ (ap (λ o. slot_of o ledger.taken) same ∙ (ap (slot_in originator) (sym is) ∙ found))) in
      let both : ◌≡◌ {A = Option ℕ} (Some ticket) (Some given)
      = sym own ∙ (ap (λ (s : SlotState). s.ticket) (sym its) ∙ (facts.ticket_is ∙ of)) in
      apart (same-some ticket given both))
      (finished_has given device.ledger _ (finished-ledger given withdrawal_result device) apart found)

  found_has : (text : List ℕ) (device : Device)
      → AllByRecursion (IsNoFinish ticket) (queue_steps_by_withdrawal (ticket_withdrawn text device))
      → HasSlot device.ledger → HasSlot (found_by text device).ledger
  found_has text device left found =
      by-ticket (λ d given. AllByRecursion (IsNoFinish ticket) (queue_steps_by_withdrawal given) → HasSlot d.ledger)
      device text (λ _. found) (λ ledger w is facts _. unused_has device ledger w is facts found)
      (λ ledger w given is facts of not_handed some apart. left_has device ledger w given is facts of apart.0 found) left

  pub written_has : (write : OwnWrite) (device : Device)
      → AllByRecursion (IsNoFinish ticket) (queue_steps_by_write write device) → HasSlot device.ledger
      → HasSlot (ledger_written write device)
  written_has (WritesData instance offset bytes) device left found = found
  written_has (WritesAttribute class instance attribute offset bytes) device left found = found
  written_has (SetsStatus status) device left found = found
  written_has (SetsState state) device left found = found
  written_has (Prepares reply) device left found = found
  written_has (Settles by number reply) device left found = settled_has device.ledger by number reply found
  written_has (Finishes given reply) device left found =
      finished_has given device.ledger _ (finished-ledger given reply device) left.0 found
  written_has (Marks given) device left found = found
  written_has (Withdraws request) device left found = found_has request device left found

  -- a request that is served
  pub requested_has : (request : Request) (device : Device) → HasSlot device.ledger
      → HasSlot (device_after_step device (Requested request)).ledger
  requested_has request device found =
      stays-by objects_after objects_answer
      (fate owned_standing device.ledger device.router request.0 request.1) device request originator slot
      (fate-means owned_standing device.ledger device.router request) found (waiting slot ticket none own)

  pub step_has : (step : DeviceStep) (device : Device)
      → AllByRecursion (IsNoFinish ticket) (queue_steps_by_step device step) → HasSlot device.ledger
      → HasSlot (device_after_step device step).ledger
  step_has (Requested request) device left found = requested_has request device found
  step_has (WrittenBy write) device left found = written_has write device left found

  pub none-first : (first later : List QueueStep) → AllByRecursion (IsNoFinish ticket) (first ++ later)
      → AllByRecursion (IsNoFinish ticket) first
  none-first [] later all = tt
  none-first (step ∷ first) later all = (all.0, none-first first later all.1)

  pub none-later : (first later : List QueueStep) → AllByRecursion (IsNoFinish ticket) (first ++ later)
      → AllByRecursion (IsNoFinish ticket) later
  none-later [] later all = all
  none-later (step ∷ first) later all = none-later first later all.1

  steps_have : (steps : List DeviceStep) (device : Device)
      → AllByRecursion (IsNoFinish ticket) (queue_steps_by_steps device steps)
      → HasSlot device.ledger → HasSlot (device_after device steps).ledger
  steps_have [] device left found = found
  steps_have (step ∷ steps) device left found =
      let now : List QueueStep = queue_steps_by_step device step in
      let later : List QueueStep = queue_steps_by_steps (device_after_step device step) steps in
      steps_have steps (device_after_step device step) (none-later now later left)
      (step_has step device (none-first now later left) found)

pub calls-keep : (a : AdapterState) (calls : List Call) (originator ticket : ℕ) (slot : SlotState)
    → slot_in originator a.state.shared.objects.ledger ≡ Some slot → slot.reply ≡ None → slot.ticket ≡ Some ticket
    → AllByRecursion (IsNoFinish ticket) (queue_steps_of_calls a calls)
    → slot_in originator (after_calls a calls).state.shared.objects.ledger ≡ Some slot
calls-keep a calls originator ticket slot found none own left =
    ap (λ (d : Device). slot_in originator d.ledger) (calls-end a calls)
    ∙ steps_have originator ticket slot none own (steps_of_calls a calls) a.state.shared.objects left found
