-- A withdrawn command does not wait again, and is not executed.
use Rattle.std.proofs.Common.{◌≡◌, ℕ, ◌<◌, ◌==◌, ◌&&◌, nat_le, not, if◌then◌else◌, Bool, true, false, Option, Some, None, unwrap_or, List, [], ◌∷◌, refl, ap, sym, ◌∙◌, subst, arith, ◌⊎◌, inl, inr}
use Rattle.std.specs.Prelude.{option_map, is_some}
use Rattle.std.proofs.lemmas.Bool.{leb-false, eqb-true, eqb-false}
use Rattle.cip_ledger.specs.declared.withdrawal.Withdrawal.{Withdrawal}
use Rattle.cip_ledger.specs.Device.{Device, FinishedCommand, finished_command, finished_of, finished_in, with_finished as with_finished_device}
use Rattle.cip_ledger.specs.Laws.{UntilFreed}
use Rattle.cip_ledger.specs.Ledger.{LedgerState, SlotState, is_pending, slot_withdrawn}
use Rattle.cip_ledger.specs.Pending.{completed}
use Rattle.cip_ledger.specs.PendingLaws.{IsPending}
use Rattle.cip_ledger.specs.Runs.{slot_in}
use Rattle.cip_ledger.specs.Services.{last_content}
use Rattle.cip_ledger.specs.Withdrawing.{has_place, with_withdrawn, withdrawal_result, was_handed, with_withdrawal, found_by}
use Rattle.cip_ledger.specs.WithdrawLaws.{IsWithdrawn}
use Rattle.cip_ledger.proofs.Settled.{Settled}
use Rattle.cip_ledger.proofs.Withdrawals.{IsOfPending, none-some, same-some, withdrawn-own, can-place}
use Rattle.cip_objects.specs.OwnRequests.{Asked}
use Rattle.cip_owner.specs.Queue.{QueueState, QueuedCommand, command_with, pushed, command_of, can_be_reply, with_finished}
use Rattle.cip_owner.specs.QueueLaws.{HasTickets}
use Rattle.cip_owner.specs.QueueRuns.{QueueStep, Pushes, Finishes, Marks, after_step, after_steps}
use Rattle.cip_owner.specs.Replies.{Reply}
use Rattle.cip_owner.proofs.QueueLemmas.{by_push, by_finish, by_mark}
use Rattle.cip_owner.proofs.TicketLemmas.{gone, still_gone, behind_others, ticket_given, tickets}
use Rattle.enip_adapter.specs.Calls.{AdapterState, Call, after_call}
use Rattle.enip_adapter.specs.Calls.Call.{Writes}
use Rattle.enip_adapter.specs.DeviceRuns.{DeviceStep, Requested, WrittenBy, device_after_step, device_after, journal_of_calls, steps_of_calls}
use Rattle.enip_adapter.specs.OwnWrites as own_writes
use Rattle.enip_adapter.specs.OwnWrites.{OwnWrite, Withdraws, ticket_withdrawn, device_written}
use Rattle.enip_adapter.specs.OwnerLaws.{owned_in}
use Rattle.enip_adapter.specs.QueueLaws.{is_waiting, queue_steps_by_step, queue_steps_of_calls}
use Rattle.enip_adapter.specs.Runs.{after_calls}
use Rattle.enip_adapter.specs.WithdrawLaws.{after_withdrawal}
use Rattle.enip_adapter.proofs.DeviceLemmas.{calls-end, above-steps}
use Rattle.enip_adapter.proofs.KeepingLemmas.{requested_has, written_has, unused_has, left_has}
use Rattle.enip_adapter.proofs.QueueLemmas.{step-queue, calls-queue}
use Rattle.enip_adapter.proofs.SettleLemmas.{finished_written}
use Rattle.enip_adapter.proofs.WithdrawalLemmas.{device_left, by-ticket, pending-can, place-finished, text_left, left-ledger}

-- ---- the queue

-- The ticket was given, and its command does not wait.
record IsGone (ticket : ℕ) (q : QueueState) : Type 0 where
  gone_is : command_of ticket q.waiting ≡ None
  given : ticket < q.next

gone-pushed : (ticket : ℕ) (q : QueueState) (asked : Asked) → IsGone ticket q → IsGone ticket (pushed q asked)
gone-pushed ticket q asked is =
    let below = is.given in
    record {
      gone_is = behind_others q.waiting (command_with q.next asked) ticket is.gone_is (λ e. omega (arith, e, below));
      given = omega (arith, below);
    }

gone-finished : (ticket other : ℕ) (q : QueueState) (c : QueuedCommand) (reply : Reply) → IsGone ticket q
    → IsGone ticket (with_finished q other c reply)
gone-finished ticket other q c reply is =
    record { gone_is = still_gone other ticket q.waiting is.gone_is; given = is.given }

gone-step : (ticket : ℕ) (q : QueueState) (step : QueueStep) → IsGone ticket q → IsGone ticket (after_step q step)
gone-step ticket q (Pushes asked) is = by_push (IsGone ticket) q asked is (λ e. gone-pushed ticket q asked is)
gone-step ticket q (Finishes other reply) is =
    by_finish (IsGone ticket) q other reply is (λ c e f. gone-finished ticket other q c reply is)
gone-step ticket q (Marks other) is =
    by_mark (IsGone ticket) q other is (λ c e. record { gone_is = is.gone_is; given = is.given })

gone-steps : (ticket : ℕ) (q : QueueState) (steps : List QueueStep) → IsGone ticket q → IsGone ticket (after_steps q steps)
gone-steps ticket q [] is = is
gone-steps ticket q (step ∷ steps) is = gone-steps ticket (after_step q step) steps (gone-step ticket q step is)

abbrev IsGoneIn : ℕ → Option QueueState → Type 0
IsGoneIn ticket None = ⊥
IsGoneIn ticket (Some q) = IsGone ticket q

gone-in : (ticket : ℕ) (queue : Option QueueState) (steps : List QueueStep) → IsGoneIn ticket queue
    → IsGoneIn ticket (option_map (λ q. after_steps q steps) queue)
gone-in ticket None steps is = is
gone-in ticket (Some q) steps is = gone-steps ticket q steps is

not-waiting : (ticket : ℕ) (queue : Option QueueState) → IsGoneIn ticket queue → is_waiting ticket queue ≡ false
not-waiting ticket None is = refl
not-waiting ticket (Some q) is = ap is_some is.gone_is

-- once a command that waits is finished, it is gone
finished-gone : (ticket : ℕ) (q : QueueState) (c : QueuedCommand) (reply : Reply) → HasTickets q
    → command_of ticket q.waiting ≡ Some c → IsGone ticket (with_finished q ticket c reply)
finished-gone ticket q c reply has e =
    record { gone_is = gone ticket q.waiting; given = (ticket_given q ticket c has e).1 }

module _ (queue : QueueState) (ticket : ℕ) (reply : Reply) (device : Device) (has : HasTickets queue) where
  abbrev left_by : Option FinishedCommand → Option Device
  left_by done = option_map (with_finished_device ticket reply device) done

  by_can : (c : QueuedCommand) (can : Bool) → command_of ticket queue.waiting ≡ Some c
      → let after = if can then Some (with_finished queue ticket c reply) else None in
      is_some (left_by (option_map (λ q. record { service = c.service; queue = q }) after)) ≡ true
      → IsGoneIn ticket
      (unwrap_or (left_by (option_map (λ q. record { service = c.service; queue = q }) after)) device).router.queue
  by_can c true e some = finished-gone ticket queue c reply has e
  by_can c false e some = absurd (cc)

  by_found : (found : Option QueuedCommand) → command_of ticket queue.waiting ≡ found
      → is_some (left_by (finished_command queue ticket reply found)) ≡ true
      → IsGoneIn ticket (unwrap_or (left_by (finished_command queue ticket reply found)) device).router.queue
  by_found None e some = absurd (cc)
  by_found (Some c) e some = by_can c (can_be_reply c reply) e some

  left-gone : device.router.queue ≡ Some queue → is_some (finished_in ticket reply device) ≡ true
      → IsGoneIn ticket (unwrap_or (finished_in ticket reply device) device).router.queue
  left-gone is some =
      subst (λ q. is_some (left_by (finished_of ticket reply q)) ≡ true
      → IsGoneIn ticket (unwrap_or (left_by (finished_of ticket reply q)) device).router.queue) (sym is)
      (by_found (command_of ticket queue.waiting) refl) some

pub never-handed : (a : AdapterState) (request : List ℕ) (calls : List Call) (queue : QueueState) (ticket : ℕ)
    → (owned_in a).queue ≡ Some queue → HasTickets queue → ticket_withdrawn request a.state.shared.objects ≡ Some ticket
    → (queue.handed < ticket) × (is_waiting ticket (owned_in (after_withdrawal a request calls)).queue ≡ false)
never-handed a request calls queue ticket is has e =
    let device : Device = a.state.shared.objects in
    let after : AdapterState = after_call a (Writes (Withdraws request)) in
    let both : (queue.handed < ticket) × IsGoneIn ticket (owned_in after).queue
    = by-ticket (λ d found. found ≡ Some ticket → (queue.handed < ticket) × IsGoneIn ticket d.router.queue)
    device request (λ f. absurd (none-some ticket f)) (λ ledger w same facts f. absurd (none-some ticket f))
    (λ ledger w given same facts of not_handed some f.
    let own : given ≡ ticket = same-some given ticket f in
    let free : nat_le given queue.handed ≡ false
    = sym (ap (was_handed given) is) ∙ not_handed in
    subst (λ t. (queue.handed < t) × IsGoneIn t (device_left given device).router.queue) own
    (leb-false given queue.handed free, left-gone queue given withdrawal_result device has is some)) e in (
      both.0,
      not-waiting ticket (owned_in (after_withdrawal a request calls)).queue
          (subst (IsGoneIn ticket) (sym (calls-queue after calls))
          (gone-in ticket (owned_in after).queue (queue_steps_of_calls after calls) both.1)),
    )

-- ---- the slot

no_reply_of : (slot : SlotState) → is_pending slot ≡ true → slot.reply ≡ None
no_reply_of slot is = go slot.reply is
  where
    go : (reply : Option (List ℕ)) → (not (is_some reply) && is_some slot.ticket) ≡ true → reply ≡ None
    go None e = refl
    go (Some bytes) e = absurd (cc)

abbrev SaysSo : LedgerState → ℕ → Option LedgerState → Type 0
SaysSo ledger ticket left =
    (originator : ℕ) × (number : ℕ) × (after : LedgerState) × IsPending ledger originator number ticket
    × (left ≡ Some after) × IsWithdrawn after originator number

withdrawn-there : (ledger : LedgerState) (w : Withdrawal) (ticket given : ℕ) (reply : List ℕ) → IsOfPending ledger w
    → w.ticket ≡ Some ticket
    → SaysSo ledger ticket (Some (with_withdrawn w.originator w.number (completed ledger given reply)))
withdrawn-there ledger w ticket given reply facts of =
    let place : has_place (completed ledger given reply) w.originator ≡ true
    = place-finished w.originator w.number given reply ledger
    ∙ can-place ledger w.originator w.number (pending-can ledger w facts) in (
      w.originator,
      w.number,
      with_withdrawn w.originator w.number (completed ledger given reply),
      record {
        slot = facts.slot;
        found = facts.found;
        number_is = facts.number_is;
        no_reply = no_reply_of facts.slot facts.waits;
        ticket_is = facts.ticket_is ∙ of;
      },
      refl,
      record {
        slot = slot_withdrawn w.originator w.number;
        found = withdrawn-own (completed ledger given reply) w.originator w.number place;
        number_is = refl;
        withdrawn = refl;
      },
    )

pub slot-says : (a : AdapterState) (ledger : LedgerState) (request : List ℕ) (ticket : ℕ)
    → a.state.shared.objects.ledger ≡ Some ledger → ticket_withdrawn request a.state.shared.objects ≡ Some ticket
    → SaysSo ledger ticket (after_call a (Writes (Withdraws request))).state.shared.objects.ledger
slot-says a ledger request ticket is e =
    let device : Device = a.state.shared.objects in
    by-ticket (λ d found. found ≡ Some ticket → SaysSo ledger ticket d.ledger) device request
    (λ f. absurd (none-some ticket f)) (λ other w same facts f. absurd (none-some ticket f))
    (λ other w given same facts of not_handed some f.
    let own : other ≡ ledger = same-some other ledger (sym same ∙ is) in
    let all : (device_left given device).ledger ≡ Some (completed ledger given (text_left given device))
    = left-ledger given device some ∙ ap (option_map (λ l. completed l given (text_left given device))) is in
    subst (λ o. SaysSo ledger ticket (option_map (with_withdrawn w.originator w.number) o)) (sym all)
    (withdrawn-there ledger w ticket given (text_left given device) (subst (λ l. IsOfPending l w) own facts) (of ∙ f)))
    e

-- ---- the commands that are executed

pub never-executed : (a : AdapterState) (ledger : LedgerState) (originator number : ℕ) (calls : List Call)
    → a.state.shared.objects.ledger ≡ Some ledger → IsWithdrawn ledger originator number
    → UntilFreed originator (λ command. number < command.number) (journal_of_calls a calls)
never-executed a ledger originator number calls is gone =
    above-steps (steps_of_calls a calls) a.state.shared.objects originator number (last_content gone.slot)
    (subst (Settled number (last_content gone.slot)) (sym (ap (slot_in originator) is ∙ gone.found))
    (inl (gone.number_is, refl)))

-- ---- a pending command keeps its slot, or does not wait

abbrev HasTicketsIn : Option QueueState → Type 0
HasTicketsIn None = ⊥
HasTicketsIn (Some q) = HasTickets q

tickets-in : (queue : Option QueueState) (steps : List QueueStep) → HasTicketsIn queue
    → HasTicketsIn (option_map (λ q. after_steps q steps) queue)
tickets-in None steps has = has
tickets-in (Some q) steps has = tickets.1 q steps has

module _ (originator ticket : ℕ) (slot : SlotState) (none : slot.reply ≡ None) (own : slot.ticket ≡ Some ticket) where
  -- its slot has it, or it does not wait
  abbrev IsEither : Device → Type 0
  IsEither device = (slot_in originator device.ledger ≡ Some slot) ⊎ IsGoneIn ticket device.router.queue

  -- by a finish of this ticket
  finished-either : (reply : Reply) (device : Device) (queue : Option QueueState) → device.router.queue ≡ queue
      → HasTicketsIn queue → slot_in originator device.ledger ≡ Some slot
      → IsEither (unwrap_or (finished_in ticket reply device) device)
  finished-either reply device None is has found = absurd has
  finished-either reply device (Some queue) is has found = go (finished_in ticket reply device) refl
    where
      go : (after : Option Device) → finished_in ticket reply device ≡ after → IsEither (unwrap_or after device)
      go None e = inl found
      go (Some left) e =
          inr (subst (λ d. IsGoneIn ticket d.router.queue) (ap (λ o. unwrap_or o device) e)
          (left-gone queue ticket reply device has is (ap (λ o. is_some o) e)))

  -- by a finish of any
  finish-either : (given : ℕ) (reply : Reply) (device : Device) → HasTicketsIn device.router.queue
      → slot_in originator device.ledger ≡ Some slot → IsEither (device_written (own_writes.Finishes given reply) device)
  finish-either given reply device has found = go (ticket == given) refl
    where
      go : (same : Bool) → (ticket == given) ≡ same → IsEither (device_written (own_writes.Finishes given reply) device)
      go true h =
          subst (λ n. IsEither (device_written (own_writes.Finishes n reply) device)) (eqb-true ticket given h)
          (subst IsEither (finished_written ticket reply device)
          (finished-either reply device device.router.queue refl has found))
      go false h =
          inl (written_has originator ticket slot none own (own_writes.Finishes given reply) device
          (eqb-false ticket given h, tt) found)

  -- by what a request withdraws
  found-either : (text : List ℕ) (device : Device) → HasTicketsIn device.router.queue
      → slot_in originator device.ledger ≡ Some slot → IsEither (found_by text device)
  found-either text device has found =
      by-ticket (λ d given. IsEither d) device text (inl found)
      (λ ledger w is facts. inl (unused_has originator ticket slot none own device ledger w is facts found))
      (λ ledger w given is facts of not_handed some. go ledger w given is facts of some (ticket == given) refl)
    where
      gone_by : (queue : Option QueueState) → device.router.queue ≡ queue → HasTicketsIn queue
          → is_some (finished_in ticket withdrawal_result device) ≡ true
          → IsGoneIn ticket (device_left ticket device).router.queue
      gone_by None is has some = absurd has
      gone_by (Some queue) is has some = left-gone queue ticket withdrawal_result device has is some

      go : (ledger : LedgerState) (w : Withdrawal) (given : ℕ) → device.ledger ≡ Some ledger → IsOfPending ledger w
          → w.ticket ≡ Some given → is_some (finished_in given withdrawal_result device) ≡ true
          → (same : Bool) → (ticket == given) ≡ same → IsEither (with_withdrawal w (device_left given device))
      go ledger w given is facts of some true h =
          inr (subst (λ n. IsGoneIn ticket (device_left n device).router.queue) (eqb-true ticket given h)
          (gone_by device.router.queue refl has
          (subst (λ n. is_some (finished_in n withdrawal_result device) ≡ true) (sym (eqb-true ticket given h)) some)))
      go ledger w given is facts of some false h =
          inl (left_has originator ticket slot none own device ledger w given is facts of (eqb-false ticket given h) found)

  written-either : (write : OwnWrite) (device : Device) → HasTicketsIn device.router.queue
      → slot_in originator device.ledger ≡ Some slot → IsEither (device_written write device)
  written-either (own_writes.WritesData instance offset bytes) device has found = inl found
  written-either (own_writes.WritesAttribute class instance attribute offset bytes) device has found = inl found
  written-either (own_writes.SetsStatus status) device has found = inl found
  written-either (own_writes.SetsState state) device has found = inl found
  written-either (own_writes.Prepares reply) device has found = inl found
  written-either (own_writes.Settles by number reply) device has found =
      inl (written_has originator ticket slot none own (own_writes.Settles by number reply) device tt found)
  written-either (own_writes.Finishes given reply) device has found = finish-either given reply device has found
  written-either (own_writes.Marks given) device has found = inl found
  written-either (Withdraws request) device has found = found-either request device has found

  step-either : (step : DeviceStep) (device : Device) → HasTicketsIn device.router.queue → IsEither device
      → IsEither (device_after_step device step)
  step-either step device has (inr gone_is) =
      inr (subst (IsGoneIn ticket) (sym (step-queue device step))
      (gone-in ticket device.router.queue (queue_steps_by_step device step) gone_is))
  step-either (Requested request) device has (inl found) =
      inl (requested_has originator ticket slot none own request device found)
  step-either (WrittenBy write) device has (inl found) = written-either write device has found

  steps-either : (steps : List DeviceStep) (device : Device) → HasTicketsIn device.router.queue → IsEither device
      → IsEither (device_after device steps)
  steps-either [] device has is = is
  steps-either (step ∷ steps) device has is =
      steps-either steps (device_after_step device step)
      (subst HasTicketsIn (sym (step-queue device step))
      (tickets-in device.router.queue (queue_steps_by_step device step) has))
      (step-either step device has is)

pub no-earlier-waits : (a : AdapterState) (calls : List Call) (queue : QueueState) (originator ticket : ℕ)
    (slot : SlotState) → (owned_in a).queue ≡ Some queue → HasTickets queue
    → slot_in originator a.state.shared.objects.ledger ≡ Some slot → slot.reply ≡ None → slot.ticket ≡ Some ticket
    → (slot_in originator (after_calls a calls).state.shared.objects.ledger ≡ Some slot)
    ⊎ (is_waiting ticket (owned_in (after_calls a calls)).queue ≡ false)
no-earlier-waits a calls queue originator ticket slot is has found none own =
    told (subst (IsEither originator ticket slot none own) (sym (calls-end a calls))
    (steps-either originator ticket slot none own (steps_of_calls a calls) a.state.shared.objects
    (subst HasTicketsIn (sym is) has) (inl found)))
  where
    told : IsEither originator ticket slot none own (after_calls a calls).state.shared.objects
        → (slot_in originator (after_calls a calls).state.shared.objects.ledger ≡ Some slot)
        ⊎ (is_waiting ticket (owned_in (after_calls a calls)).queue ≡ false)
    told (inl stays) = inl stays
    told (inr gone_is) = inr (not-waiting ticket (owned_in (after_calls a calls)).queue gone_is)
