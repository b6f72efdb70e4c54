-- A command of the ledger that is pending waits in the queue, whatever calls are made.
use Rattle.std.proofs.Common.{◌≡◌, ◌≢◌, ◌⊎◌, inl, inr, ℕ, ◌≤◌, ◌==◌, ◌&&◌, Bool, true, false, cond, if◌then◌else◌, not, Option, Some, None, unwrap_or, Result, Ok, Err, List, [], ◌∷◌, ◌++◌, length, arith, refl, sym, ap, subst, ◌∙◌}
use Rattle.std.specs.Prelude.{is_some, option_map}
use Rattle.std.proofs.lemmas.Bool.{eq-eqb, eqb-true, eqb-false, le-leb, and_from}
use Rattle.cip_application.specs.declared.config.ServiceKind.{ServiceKind}
use Rattle.cip_application.specs.declared.config.ServiceKind.TheVariants as kinds
use Rattle.cip_ledger.specs.declared.target.Standing.TheVariants as standings
use Rattle.cip_ledger.specs.declared.withdrawal.Withdrawal.{Withdrawal}
use Rattle.cip_ledger.specs.Device.{Device, owned_standing, standing_by_ticket, standing_of_kind, standing_in, queued_device}
use Rattle.cip_ledger.specs.Device.{FinishedCommand, finished_command, finished_of, finished_text, with_finished}
use Rattle.cip_ledger.specs.Doubt.{is_kept_reply, can_settle, with_last, settled}
use Rattle.cip_ledger.specs.Ledger.{LedgerState, SlotState, empty_ledger, slot_of, slot_withdrawn}
use Rattle.cip_ledger.specs.Pending.{is_pending_at, has_ticket, done_with, completed_slot, with_completed, completed}
use Rattle.cip_ledger.specs.Requests.{is_barred}
use Rattle.cip_ledger.specs.Runs.{Request, slot_in}
use Rattle.cip_ledger.specs.Services.{Replies, Executes, Queues, Frees, KEPT_LIMIT}
use Rattle.cip_ledger.specs.Turn.{Fate, Passed, Served, fate, turn_by, with_taken, with_freed, slot_done, slot_queued, after_embedded, embedded_reply}
use Rattle.cip_ledger.specs.Withdrawing.{has_place, with_withdrawn, withdrawal_result, with_withdrawal, found_by}
use Rattle.cip_ledger.proofs.CompletedSlots.{slot_of-completed}
use Rattle.cip_ledger.proofs.SlotLemmas.{slot_of-with_slot, slot_of-with_other, slot_of-without_slot, slot_of-without_other}
use Rattle.cip_objects.specs.declared.status.Refusal.{Refusal}
use Rattle.cip_objects.specs.Contents.{Contents}
use Rattle.cip_objects.specs.OwnRequests.{Asked, own_request}
use Rattle.cip_owner.specs.Owned.{OwnedState}
use Rattle.cip_owner.specs.Queue.{QueueState, QueuedCommand, takes, command_with, pushed, command_of, can_be_reply, with_finished as finished_queue}
use Rattle.cip_owner.specs.QueueRuns.{after_step, after_steps, steps_of_own, steps_of_kind, Marks as Marked}
use Rattle.cip_owner.specs.Replies.{Reply}
use Rattle.cip_owner.proofs.OwnedLemmas.{queue as queue_after}
use Rattle.cip_owner.proofs.QueueLemmas.{reply_is, by_mark}
use Rattle.cip_owner.proofs.TicketLemmas.{others_stay}
use Rattle.enip_adapter.specs.Calls.{AdapterState, Call}
use Rattle.enip_adapter.specs.DeviceRuns.{DeviceStep, Requested, WrittenBy, device_after_step, device_after, objects_after, objects_answer, steps_of_calls}
use Rattle.enip_adapter.specs.OwnWrites.{OwnWrite, WritesData, WritesAttribute, SetsStatus, SetsState, Prepares, Settles, Finishes, Marks, Withdraws, device_written}
use Rattle.enip_adapter.specs.QueueLaws.{is_waiting, PendingWait}
use Rattle.enip_adapter.specs.Runs.{after_calls}
use Rattle.enip_adapter.proofs.DeviceLemmas.{calls-end}
use Rattle.enip_adapter.proofs.SettleLemmas.{finished_written}
use Rattle.enip_adapter.proofs.StandingLemmas.{Stands, fate-stands, IsFree, fate-free}
use Rattle.enip_adapter.proofs.WithdrawalLemmas.{device_left, by-ticket}

-- ---- what waits goes on to wait while others are pushed

some-behind : (ticket : ℕ) (commands : List QueuedCommand) (last : QueuedCommand)
    → is_some (command_of ticket commands) ≡ true → is_some (command_of ticket (commands ++ last ∷ [])) ≡ true
some-behind ticket [] last is = absurd (cc)
some-behind ticket (first ∷ commands) last is = go (first.ticket == ticket) (some-behind ticket commands last) is
  where
    go : (found : Bool)
        → (is_some (command_of ticket commands) ≡ true → is_some (command_of ticket (commands ++ last ∷ [])) ≡ true)
        → is_some (if found then Some first else command_of ticket commands) ≡ true
        → is_some (if found then Some first else command_of ticket (commands ++ last ∷ [])) ≡ true
    go true later e = refl
    go false later e = later e

some-last : (ticket : ℕ) (commands : List QueuedCommand) (last : QueuedCommand) → last.ticket ≡ ticket
    → is_some (command_of ticket (commands ++ last ∷ [])) ≡ true
some-last ticket [] last is = ap (λ b. is_some (if b then Some last else None)) (eq-eqb last.ticket ticket is)
some-last ticket (first ∷ commands) last is = go (first.ticket == ticket) (some-last ticket commands last is)
  where
    go : (found : Bool) → is_some (command_of ticket (commands ++ last ∷ [])) ≡ true
        → is_some (if found then Some first else command_of ticket (commands ++ last ∷ [])) ≡ true
    go true later = refl
    go false later = later

-- The queue after the steps of a request.
abbrev queue_by : Option (Result Asked Refusal) → Option QueueState → Option QueueState
queue_by own queue = option_map (λ q. after_steps q (steps_of_own own)) queue

waits-push : (ticket : ℕ) (queue : QueueState) (asked : Asked) (takes_it : Bool)
    → is_some (command_of ticket queue.waiting) ≡ true
    → is_some (command_of ticket (if takes_it then pushed queue asked else queue).waiting) ≡ true
waits-push ticket queue asked true is = some-behind ticket queue.waiting (command_with queue.next asked) is
waits-push ticket queue asked false is = is

waits-kind : (ticket : ℕ) (queue : QueueState) (asked : Asked) (kind : ServiceKind)
    → is_some (command_of ticket queue.waiting) ≡ true
    → is_some (command_of ticket (after_steps queue (steps_of_kind kind asked)).waiting) ≡ true
waits-kind ticket queue asked kinds.Asked is = is
waits-kind ticket queue asked kinds.Queued is = waits-push ticket queue asked (takes queue asked) is
waits-kind ticket queue asked kinds.Result is = is

waits-own : (ticket : ℕ) (queue : Option QueueState) (own : Option (Result Asked Refusal))
    → is_waiting ticket queue ≡ true → is_waiting ticket (queue_by own queue) ≡ true
waits-own ticket None own is = is
waits-own ticket (Some queue) None is = is
waits-own ticket (Some queue) (Some (Err refusal)) is = is
waits-own ticket (Some queue) (Some (Ok asked)) is = waits-kind ticket queue asked asked.kind is

waits-exec : (ticket : ℕ) (w : OwnedState) (max_size : ℕ) (text : List ℕ) → is_waiting ticket w.queue ≡ true
    → is_waiting ticket (objects_after w max_size text).queue ≡ true
waits-exec ticket w max_size text is =
    subst (λ queue. is_waiting ticket queue ≡ true) (sym (queue_after w max_size text))
    (waits-own ticket w.queue (own_request w.objects text) is)

waits-embedded : (ticket : ℕ) (w : OwnedState) (text : List ℕ) (barred : Bool) → is_waiting ticket w.queue ≡ true
    → is_waiting ticket (cond barred w (objects_after w KEPT_LIMIT text)).queue ≡ true
waits-embedded ticket w text true is = is
waits-embedded ticket w text false is = waits-exec ticket w KEPT_LIMIT text is

-- ---- a command that is queued waits

same-ticket : (one other : ℕ) → standings.Pending one ≡ standings.Pending other → one ≡ other
same-ticket one other e = cc

queued-push : (ticket : ℕ) (queue : QueueState) (asked : Asked) (takes_it : Bool)
    → standing_by_ticket (if takes_it then Some queue.next else None) ≡ standings.Pending ticket
    → is_some (command_of ticket (if takes_it then pushed queue asked else queue).waiting) ≡ true
queued-push ticket queue asked true is =
    some-last ticket queue.waiting (command_with queue.next asked) (same-ticket queue.next ticket is)
queued-push ticket queue asked false is = absurd (cc)

queued-kind : (ticket : ℕ) (queue : QueueState) (asked : Asked) (kind : ServiceKind)
    → standing_of_kind kind queue asked ≡ standings.Pending ticket
    → is_some (command_of ticket (after_steps queue (steps_of_kind kind asked)).waiting) ≡ true
queued-kind ticket queue asked kinds.Asked is = absurd (cc)
queued-kind ticket queue asked kinds.Queued is = queued-push ticket queue asked (takes queue asked) is
queued-kind ticket queue asked kinds.Result is = absurd (cc)

queued-own : (ticket : ℕ) (queue : Option QueueState) (own : Option (Result Asked Refusal))
    → standing_in queue own ≡ standings.Pending ticket → is_waiting ticket (queue_by own queue) ≡ true
queued-own ticket None own is = absurd (cc)
queued-own ticket (Some queue) None is = absurd (cc)
queued-own ticket (Some queue) (Some (Err refusal)) is = absurd (cc)
queued-own ticket (Some queue) (Some (Ok asked)) is = queued-kind ticket queue asked asked.kind is

queued-exec : (ticket : ℕ) (w : OwnedState) (text : List ℕ) (barred : Bool) → barred ≡ false
    → owned_standing w text ≡ standings.Pending ticket
    → is_waiting ticket (cond barred w (objects_after w KEPT_LIMIT text)).queue ≡ true
queued-exec ticket w text true free is = absurd (cc)
queued-exec ticket w text false free is =
    subst (λ queue. is_waiting ticket queue ≡ true) (sym (queue_after w KEPT_LIMIT text))
    (queued-own ticket w.queue (own_request w.objects text) is)

-- ---- the slots after a command was taken, or its slot freed

same_slot : (one other : SlotState) → ◌≡◌ {A = Option SlotState} (Some one) (Some other) → one ≡ other
same_slot one other e = cc

taken-slot : (ledger : Option LedgerState) (new slot : SlotState) (originator : ℕ)
    → slot_in originator (option_map (with_taken new) ledger) ≡ Some slot
    → (slot ≡ new) ⊎ (slot_in originator ledger ≡ Some slot)
taken-slot None new slot originator found = absurd (cc)
taken-slot (Some ledger) new slot originator found = go (new.originator == originator) refl
  where
    go : (own : Bool) → (new.originator == originator) ≡ own
        → (slot ≡ new) ⊎ (slot_of originator ledger.taken ≡ Some slot)
    go true e =
        inl (same_slot slot new (sym found
        ∙ (ap (λ o. slot_of o (with_taken new ledger).taken) (sym (eqb-true new.originator originator e))
        ∙ slot_of-with_slot ledger.taken new)))
    go false e =
        inr (sym (slot_of-with_other ledger.taken new originator (eqb-false new.originator originator e)) ∙ found)

freed-slot : (ledger : Option LedgerState) (freed originator : ℕ) (slot : SlotState)
    → slot_in originator (option_map (with_freed freed) ledger) ≡ Some slot → slot_in originator ledger ≡ Some slot
freed-slot None freed originator slot found = absurd (cc)
freed-slot (Some ledger) freed originator slot found = go (freed == originator) refl
  where
    go : (own : Bool) → (freed == originator) ≡ own → slot_of originator ledger.taken ≡ Some slot
    go true e =
        let none : slot_of originator (with_freed freed ledger).taken ≡ None
        = ap (λ o. slot_of o (with_freed freed ledger).taken) (sym (eqb-true freed originator e))
        ∙ slot_of-without_slot ledger.taken freed in absurd (let both = sym none ∙ found in cc)
    go false e =
        sym (slot_of-without_other ledger.taken freed originator (eqb-false freed originator e)) ∙ found

-- ---- a request

abbrev left : Device → Request → Fate → Device
left device request f = record {
  ledger = (turn_by objects_after objects_answer f device.ledger device.router request.0 request.1).ledger;
  router = (turn_by objects_after objects_answer f device.ledger device.router request.0 request.1).router;
}

done_not_pending : (ticket : ℕ) (slot new : SlotState) (reply : List ℕ) → slot ≡ new → new.reply ≡ Some reply
    → is_pending_at ticket slot ≡ true → ⊥
done_not_pending ticket slot new reply same done is =
    absurd (let no : is_pending_at ticket slot ≡ false
    = ap (is_pending_at ticket) same
    ∙ ap (λ r. not (is_some r) && has_ticket ticket new.ticket) done in
    let both = sym no ∙ is in cc)

by-fate : (f : Fate) (device : Device) (request : Request) → Stands device.router f → IsFree f → PendingWait device
    → PendingWait (left device request f)
by-fate Passed device request stands free wait = λ originator ticket slot found is.
    waits-exec ticket device.router request.0 request.1 (wait originator ticket slot found is)
by-fate (Served service (Replies reply)) device request stands free wait = wait
by-fate (Served service (Executes command)) device request stands free wait = λ originator ticket slot found is.
    let new : SlotState
    = slot_done command (embedded_reply objects_after objects_answer device.router command.request) in
    elim (taken-slot device.ledger new slot originator found) [
      | inl same ↦ absurd (done_not_pending ticket slot new
          (embedded_reply objects_after objects_answer device.router command.request) same refl is)
      | inr before ↦ waits-embedded ticket device.router command.request (is_barred command.request)
          (wait originator ticket slot before is)
    ]
by-fate (Served service (Queues command given)) device request stands free wait = λ originator ticket slot found is.
    elim (taken-slot device.ledger (slot_queued command given) slot originator found) [
      | inl same ↦
          let own : given == ticket ≡ true = sym (ap (is_pending_at ticket) same) ∙ is in
          let waits : is_waiting given (after_embedded objects_after objects_answer device.router command.request).queue ≡ true
          = queued-exec given device.router command.request (is_barred command.request) free stands in
          subst (λ n. is_waiting n (after_embedded objects_after objects_answer device.router command.request).queue ≡ true)
          (eqb-true given ticket own) waits
      | inr before ↦ waits-embedded ticket device.router command.request (is_barred command.request)
          (wait originator ticket slot before is)
    ]
by-fate (Served service (Frees freed)) device request stands free wait = λ originator ticket slot found is.
    wait originator ticket slot (freed-slot device.ledger freed originator slot found) is

-- ---- a finish

pub kept-short : (service : ℕ) (command : QueuedCommand) (reply : Reply) → can_be_reply command reply ≡ true
    → is_kept_reply (finished_text service reply) ≡ true
kept-short service command reply can =
    let short : length reply.content ≤ 476 = (reply_is command reply can).short in
    let least : 4 ≤ length (finished_text service reply) = omega arith in
    let most : length (finished_text service reply) ≤ 480 = omega (arith, short) in
    and_from _ _ (le-leb _ _ least) (le-leb _ _ most)

-- A slot that is pending after a reply was given to another ticket was so before.
record WasPending (ticket given : ℕ) (slot : SlotState) (found : Option SlotState) : Type 0 where
  before : found ≡ Some slot
  other : ticket ≢ given

other-ticket : (ticket given : ℕ) (slot : SlotState) → is_pending_at ticket slot ≡ true
    → is_pending_at given slot ≡ false → ticket ≢ given
other-ticket ticket given slot is not_given =
    λ same. absurd (let both = sym (ap (λ n. is_pending_at n slot) same ∙ not_given) ∙ is in cc)

was-pending : (ticket given : ℕ) (reply : List ℕ) (found : Option SlotState) (slot : SlotState)
    → option_map (completed_slot given reply) found ≡ Some slot → is_pending_at ticket slot ≡ true
    → WasPending ticket given slot found
was-pending ticket given reply None slot e is = absurd (cc)
was-pending ticket given reply (Some old) slot e is = go (is_pending_at given old) refl e
  where
    go : (own : Bool) → is_pending_at given old ≡ own
        → ◌≡◌ {A = Option SlotState} (Some (if own then done_with reply old else old)) (Some slot)
        → WasPending ticket given slot (Some old)
    go true h f = absurd (done_not_pending ticket slot (done_with reply old) reply (sym (same_slot _ _ f)) refl is)
    go false h f =
        let same : old ≡ slot = same_slot old slot f in
        record {
          before = f;
          other = other-ticket ticket given slot is (sym (ap (is_pending_at given) same) ∙ h);
        }

completed-slot : (ledger : Option LedgerState) (ticket given originator : ℕ) (reply : List ℕ) (slot : SlotState)
    → is_kept_reply reply ≡ true
    → slot_in originator (option_map (λ ledger. completed ledger given reply) ledger) ≡ Some slot
    → is_pending_at ticket slot ≡ true → WasPending ticket given slot (slot_in originator ledger)
completed-slot None ticket given originator reply slot kept found is = absurd (cc)
completed-slot (Some ledger) ticket given originator reply slot kept found is =
    was-pending ticket given reply (slot_of originator ledger.taken) slot
    (sym (slot_of-completed given reply ledger.taken originator)
    ∙ (sym (ap (λ b. slot_of originator (if b then with_completed given reply ledger else ledger).taken) kept) ∙ found)) is

module _ (given : ℕ) (reply : Reply) (device : Device) (wait : PendingWait device) where
  abbrev WaitAfter : Option FinishedCommand → Type 0
  WaitAfter done = PendingWait (unwrap_or (option_map (with_finished given reply device) done) device)

  by-fit : (queue : QueueState) (command : QueuedCommand) (fit : Bool) → device.router.queue ≡ Some queue
      → can_be_reply command reply ≡ fit
      → WaitAfter (option_map (λ q. record { service = command.service; queue = q })
      (if fit then Some (finished_queue queue given command reply) else None))
  by-fit queue command true e can = λ originator ticket slot found is.
      let was : WasPending ticket given slot (slot_in originator device.ledger)
      = completed-slot device.ledger ticket given originator (finished_text command.service reply) slot
      (kept-short command.service command reply can) found is in
      ap is_some (others_stay given ticket queue.waiting was.other)
      ∙ subst (λ q. is_waiting ticket q ≡ true) e (wait originator ticket slot was.before is)
  by-fit queue command false e can = wait

  by-command : (queue : QueueState) (found : Option QueuedCommand) → device.router.queue ≡ Some queue
      → WaitAfter (finished_command queue given reply found)
  by-command queue None e = wait
  by-command queue (Some command) e = by-fit queue command (can_be_reply command reply) e refl

  by-queue : (queue : Option QueueState) → device.router.queue ≡ queue → WaitAfter (finished_of given reply queue)
  by-queue None e = wait
  by-queue (Some queue) e = by-command queue (command_of given queue.waiting) e

  finished-wait : PendingWait (device_written (Finishes given reply) device)
  finished-wait = subst PendingWait (finished_written given reply device) (by-queue device.router.queue refl)

-- ---- the device's own writes

settled-wait : (by number : ℕ) (reply : List ℕ) (device : Device) → PendingWait device
    → PendingWait (device_written (Settles by number reply) device)
settled-wait by number reply device wait = λ originator ticket slot found is.
    wait originator ticket slot (by_ledger device.ledger slot originator ticket found is) is
  where
    by_case : (ledger : LedgerState) (can : Bool) (slot : SlotState) (originator ticket : ℕ)
        → slot_of originator (if can then with_last by number (Some reply) ledger else ledger).taken ≡ Some slot
        → is_pending_at ticket slot ≡ true → slot_of originator ledger.taken ≡ Some slot
    by_case ledger false slot originator ticket found is = found
    by_case ledger true slot originator ticket found is =
        let new : SlotState = record { originator = by; number = number; reply = Some reply; ticket = None } in
        elim (taken-slot (Some ledger) new slot originator found) [
          | inl same ↦ absurd (done_not_pending ticket slot new reply same refl is)
          | inr before ↦ before
        ]

    by_ledger : (ledger : Option LedgerState) (slot : SlotState) (originator ticket : ℕ)
        → slot_in originator (option_map (λ ledger. settled ledger by number reply) ledger) ≡ Some slot
        → is_pending_at ticket slot ≡ true → slot_in originator ledger ≡ Some slot
    by_ledger None slot originator ticket found is = absurd (cc)
    by_ledger (Some ledger) slot originator ticket found is =
        by_case ledger (can_settle ledger by number reply) slot originator ticket found is

-- a command that was withdrawn is not pending
withdrawn-wait : (w : Withdrawal) (device : Device) → PendingWait device → PendingWait (with_withdrawal w device)
withdrawn-wait w device wait = λ originator ticket slot found is.
    wait originator ticket slot (by_ledger device.ledger slot originator ticket found is) is
  where
    new : SlotState
    new = slot_withdrawn w.originator w.number

    by_place : (ledger : LedgerState) (place : Bool) (slot : SlotState) (originator ticket : ℕ)
        → slot_of originator (if place then with_taken new ledger else ledger).taken ≡ Some slot
        → is_pending_at ticket slot ≡ true → slot_of originator ledger.taken ≡ Some slot
    by_place ledger false slot originator ticket found is = found
    by_place ledger true slot originator ticket found is =
        elim (taken-slot (Some ledger) new slot originator found) [
          | inl same ↦ absurd (done_not_pending ticket slot new [] same refl is)
          | inr before ↦ before
        ]

    by_ledger : (ledger : Option LedgerState) (slot : SlotState) (originator ticket : ℕ)
        → slot_in originator (option_map (with_withdrawn w.originator w.number) ledger) ≡ Some slot
        → is_pending_at ticket slot ≡ true → slot_in originator ledger ≡ Some slot
    by_ledger None slot originator ticket found is = absurd (cc)
    by_ledger (Some ledger) slot originator ticket found is =
        by_place ledger (has_place ledger w.originator) slot originator ticket found is

found-wait : (text : List ℕ) (device : Device) → PendingWait device → PendingWait (found_by text device)
found-wait text device wait =
    by-ticket (λ d ticket. PendingWait d) device text wait
    (λ ledger w is facts. withdrawn-wait w device wait)
    (λ ledger w ticket is facts of not_handed some.
    withdrawn-wait w (device_left ticket device)
    (subst PendingWait (sym (finished_written ticket withdrawal_result device))
    (finished-wait ticket withdrawal_result device wait)))

-- a mark leaves all that waits
marked-waits : (queue : Option QueueState) (ticket other : ℕ) → is_waiting other queue ≡ true
    → is_waiting other (option_map (λ q. after_step q (Marked ticket)) queue) ≡ true
marked-waits None ticket other is = is
marked-waits (Some queue) ticket other is =
    by_mark (λ q. is_some (command_of other q.waiting) ≡ true) queue ticket is (λ c e. is)

written-wait : (write : OwnWrite) (device : Device) → PendingWait device → PendingWait (device_written write device)
written-wait (WritesData instance offset bytes) device wait = wait
written-wait (WritesAttribute class instance attribute offset bytes) device wait = wait
written-wait (SetsStatus status) device wait = wait
written-wait (SetsState state) device wait = wait
written-wait (Prepares reply) device wait = wait
written-wait (Settles by number reply) device wait = settled-wait by number reply device wait
written-wait (Finishes ticket reply) device wait = finished-wait ticket reply device wait
written-wait (Marks ticket) device wait = λ originator other slot found is.
    marked-waits device.router.queue ticket other (wait originator other slot found is)
written-wait (Withdraws request) device wait = found-wait request device wait

-- ---- lists of calls

pub step-wait : (step : DeviceStep) (device : Device) → PendingWait device → PendingWait (device_after_step device step)
step-wait (Requested request) device wait =
    by-fate (fate owned_standing device.ledger device.router request.0 request.1) device request
    (fate-stands device.router device.ledger request) (fate-free device.router device.ledger request) wait
step-wait (WrittenBy write) device wait = written-wait write device wait

steps-wait : (steps : List DeviceStep) (device : Device) → PendingWait device → PendingWait (device_after device steps)
steps-wait [] device wait = wait
steps-wait (step ∷ steps) device wait = steps-wait steps (device_after_step device step) (step-wait step device wait)

pub none-pending : (objects : Contents) (queue : Option QueueState) (slots life : ℕ)
    → PendingWait (queued_device (Some (empty_ledger slots life)) objects queue)
none-pending objects queue slots life = λ originator ticket slot found is. absurd (cc)

pub calls-wait : (a : AdapterState) (calls : List Call) → PendingWait a.state.shared.objects
    → PendingWait (after_calls a calls).state.shared.objects
calls-wait a calls wait =
    subst PendingWait (sym (calls-end a calls)) (steps-wait (steps_of_calls a calls) a.state.shared.objects wait)
