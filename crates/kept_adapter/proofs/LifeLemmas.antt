-- What a device executes over restarts that go on with its ledger and its queue.
use Rattle.std.proofs.Common.{◌≡◌, ◌≢◌, ℕ, ◌<◌, ◌&&◌, Bool, true, false, if◌then◌else◌, Option, Some, None, List, [], ◌∷◌}
use Rattle.std.proofs.Common.{◌++◌, refl, ap, sym, ◌∙◌, subst, arith, ◌⊎◌, inl, inr}
use Rattle.std.specs.Prelude.{option_map, is_some, not}
use Rattle.std.specs.List.{AllByRecursion}
use Rattle.cip_message.specs.declared.ledger_services.TheConstants as services
use Rattle.cip_ledger.specs.Device.{Device, owned_standing}
use Rattle.cip_ledger.specs.Doubt.{can_settle, with_last, settled, is_kept_reply}
use Rattle.cip_ledger.specs.Ledger.{LedgerState, SlotState, slot_of}
use Rattle.cip_ledger.specs.Laws.{UntilFreed, Rises, IsNotFreed, Succeeds}
use Rattle.cip_ledger.specs.Pending.{has_ticket, is_pending_at, done_with, completed_slot, with_completed, completed}
use Rattle.cip_ledger.specs.PendingLaws.{completed_if}
use Rattle.cip_ledger.specs.Runs.{Request, slot_in, Executed, Freed, Event, answer_to, journal, events_by}
use Rattle.cip_ledger.specs.Services.{Replies, Executes, Queues, Frees, DONE, PENDING, IN_DOUBT, WITHDRAWN, success, reply_to}
use Rattle.cip_ledger.specs.Services.{last_content, state_content}
use Rattle.cip_ledger.specs.Turn.{Fate, Passed, Served, fate, turn_by, with_executed, with_queued, with_freed}
use Rattle.cip_ledger.specs.Turn.{embedded_reply}
use Rattle.cip_ledger.proofs.Answered.{settles, again-by}
use Rattle.cip_ledger.proofs.CompletedSlots.{completed-number}
use Rattle.cip_ledger.proofs.Fates.{Means, fate-means}
use Rattle.cip_ledger.proofs.Pendings.{slot_of-after}
use Rattle.cip_ledger.proofs.Settled.{Settled, next_by, settled-run, settled-command, settled-queued, journal-above}
use Rattle.cip_ledger.proofs.SlotLemmas.{slot_of-with_other}
use Rattle.cip_owner.specs.Queue.{QueueState}
use Rattle.cip_owner.specs.QueueRuns.{after_step, after_steps, QueueStep}
use Rattle.enip_adapter.specs.DeviceRuns.{DeviceStep, Requested, WrittenBy, device_after_step, objects_after}
use Rattle.enip_adapter.specs.DeviceRuns.{objects_answer}
use Rattle.enip_adapter.specs.OwnWrites.{OwnWrite, WritesData, WritesAttribute, SetsStatus, SetsState, Prepares}
use Rattle.enip_adapter.specs.OwnWrites.{Settles, Finishes, Marks, Withdraws, ledger_written, device_written}
use Rattle.enip_adapter.specs.QueueLaws.{queue_steps_by_step}
use Rattle.enip_adapter.proofs.DeviceLemmas.{above-append}
use Rattle.enip_adapter.proofs.QueueLemmas.{step-queue}
use Rattle.enip_adapter.proofs.SettleLemmas.{IsFinished, Unchanged, Completed, finished-ledger, written-settled}
use Rattle.enip_adapter.proofs.WithdrawalLemmas.{found-ledger}
use Rattle.kept_adapter.specs.declared.adapter_start.AdapterStart.{AdapterStart}
use Rattle.kept_adapter.specs.Restarts.{LifeStep, Does, Restarts, restarted, after_life_step, after_life_steps}
use Rattle.kept_adapter.specs.Restarts.{journal_over_restarts, queue_steps_over_restarts}
use Rattle.kept_adapter.specs.Restarts.{IsRestartable, IsStep, Sizes, sizes_of, slots_of, places_of, GoesOn, IsGoingOn}
use Rattle.kept_adapter.specs.Restarts.{SettlesOthers, SettlesNothingOf}
use Rattle.kept_adapter.specs.RestartLaws.{GoOn}
use Rattle.kept_adapter.specs.Started.{has_given, ticket_by, pending_ticket}
use Rattle.kept_adapter.proofs.GivenTickets.{slot_given}
use Rattle.kept_adapter.proofs.QueueStays.{after_steps_limit}
use Rattle.kept_adapter.proofs.WithdrawnLedgers.{withdrawn-slots, withdrawn-final}
use Rattle.kept_adapter.proofs.Restarted.{goes_on, queue_goes_on, device_stays}

-- ---- the number of slots stays, and that of places

mapped_slots : (ledger : Option LedgerState) (change : LedgerState → LedgerState)
    → ((l : LedgerState) → (change l).slots ≡ l.slots) → slots_of (option_map change ledger) ≡ slots_of ledger
mapped_slots None change same = refl
mapped_slots (Some l) change same = ap (λ n. Some n) (same l)

turn_slots : (f : Fate) (device : Device) (request : Request)
    → slots_of (turn_by objects_after objects_answer f device.ledger device.router request.0 request.1).ledger
    ≡ slots_of device.ledger
turn_slots Passed device request = refl
turn_slots (Served service (Replies reply)) device request = refl
turn_slots (Served service (Executes command)) device request =
    mapped_slots device.ledger
    (with_executed command (embedded_reply objects_after objects_answer device.router command.request)) (λ l. refl)
turn_slots (Served service (Queues command ticket)) device request =
    mapped_slots device.ledger (with_queued command ticket) (λ l. refl)
turn_slots (Served service (Frees freed)) device request = mapped_slots device.ledger (with_freed freed) (λ l. refl)

settled_slots : (ledger : LedgerState) (originator number : ℕ) (reply : List ℕ)
    → (settled ledger originator number reply).slots ≡ ledger.slots
settled_slots ledger originator number reply =
    elim (can_settle ledger originator number reply)
    as (λ t. (if t then with_last originator number (Some reply) ledger else ledger).slots ≡ ledger.slots) [
      | true ↦ refl
      | false ↦ refl
    ]

completed_slots : (ledger : LedgerState) (ticket : ℕ) (reply : List ℕ)
    → (completed ledger ticket reply).slots ≡ ledger.slots
completed_slots ledger ticket reply =
    elim (is_kept_reply reply) as (λ t. (if t then with_completed ticket reply ledger else ledger).slots ≡ ledger.slots) [
      | true ↦ refl
      | false ↦ refl
    ]

finished_slots : (ticket : ℕ) (old new : Option LedgerState) → IsFinished ticket old new → slots_of new ≡ slots_of old
finished_slots ticket old new Unchanged = refl
finished_slots ticket old new (Completed reply) =
    mapped_slots old (λ l. completed l ticket reply) (λ l. completed_slots l ticket reply)

written_slots : (write : OwnWrite) (device : Device)
    → slots_of (ledger_written write device) ≡ slots_of device.ledger
written_slots (WritesData instance offset bytes) device = refl
written_slots (WritesAttribute class instance attribute offset bytes) device = refl
written_slots (SetsStatus status) device = refl
written_slots (SetsState state) device = refl
written_slots (Prepares reply) device = refl
written_slots (Settles originator number reply) device =
    mapped_slots device.ledger (λ l. settled l originator number reply) (λ l. settled_slots l originator number reply)
written_slots (Finishes ticket reply) device =
    finished_slots ticket device.ledger (ledger_written (Finishes ticket reply) device)
    (finished-ledger ticket reply device)
written_slots (Marks ticket) device = refl
written_slots (Withdraws request) device =
    found-ledger (λ l. slots_of l ≡ slots_of device.ledger) device request
    (λ l originator number same. ap (λ n. Some n) (withdrawn-slots l originator number) ∙ same)
    (λ l ticket reply same. ap (λ n. Some n) (completed_slots l ticket reply) ∙ same) refl

step_slots : (device : Device) (step : DeviceStep)
    → slots_of (device_after_step device step).ledger ≡ slots_of device.ledger
step_slots device (Requested request) =
    turn_slots (fate owned_standing device.ledger device.router request.0 request.1) device request
step_slots device (WrittenBy write) = written_slots write device

mapped_places : (queue : Option QueueState) (steps : List QueueStep)
    → places_of (option_map (λ q. after_steps q steps) queue) ≡ places_of queue
mapped_places None steps = refl
mapped_places (Some q) steps = ap (λ n. Some n) (after_steps_limit q steps)

step_places : (device : Device) (step : DeviceStep)
    → places_of (device_after_step device step).router.queue ≡ places_of device.router.queue
step_places device step =
    ap places_of (step-queue device step) ∙ mapped_places device.router.queue (queue_steps_by_step device step)

abbrev sized : Option ℕ → Option ℕ → Sizes
sized slots places = record { slots = slots; places = places }

same_sizes : (old new : Device) → slots_of new.ledger ≡ slots_of old.ledger
    → places_of new.router.queue ≡ places_of old.router.queue → sizes_of new ≡ sizes_of old
same_sizes old new slots places =
    ap (λ n. sized n (places_of new.router.queue)) slots
    ∙ ap (sized (slots_of old.ledger)) places

-- A device between two of the steps.
pub record IsRunning (own : Sizes) (device : Device) : Type 0 where
  pub is : IsRestartable device
  pub sizes : sizes_of device ≡ own

own_sizes : (own : Sizes) (device : Device) (start : AdapterStart) → IsRunning own device → GoesOn own start
    → GoesOn (sizes_of device) start
own_sizes own device start runs on = subst (λ k. GoesOn k start) (sym runs.sizes) on

pub going_on : (own : Sizes) (device : Device) (start : AdapterStart) → IsRunning own device → GoesOn own start
    → (restarted start device).ledger ≡ device.ledger
going_on own device start runs on = goes_on start device runs.is (own_sizes own device start runs on)

queue_going_on : (own : Sizes) (device : Device) (start : AdapterStart) → IsRunning own device → GoesOn own start
    → (restarted start device).router.queue ≡ device.router.queue
queue_going_on own device start runs on = queue_goes_on start device runs.is (own_sizes own device start runs on)

sizes_stay : (own : Sizes) (device : Device) (step : LifeStep) → IsRunning own device → IsGoingOn own step
    → sizes_of (after_life_step device step) ≡ sizes_of device
sizes_stay own device (Does step) runs on =
    same_sizes device (device_after_step device step) (step_slots device step) (step_places device step)
sizes_stay own device (Restarts start) runs on =
    same_sizes device (restarted start device) (ap slots_of (going_on own device start runs on))
    (ap places_of (queue_going_on own device start runs on))

pub running_on : (own : Sizes) (device : Device) (step : LifeStep) → IsStep step → IsGoingOn own step
    → IsRunning own device → IsRunning own (after_life_step device step)
running_on own device step fits on runs = record {
  is = device_stays device step fits runs.is;
  sizes = sizes_stay own device step runs on ∙ runs.sizes;
}

-- ---- numbers rise

-- The steps from here on.
pub record AreGoingOn (own : Sizes) (device : Device) (steps : List LifeStep) : Type 0 where
  pub runs : IsRunning own device
  pub fit : AllByRecursion IsStep steps
  pub on : AllByRecursion (IsGoingOn own) steps

pub later : (own : Sizes) (device : Device) (step : LifeStep) (steps : List LifeStep)
    → AreGoingOn own device (step ∷ steps) → AreGoingOn own (after_life_step device step) steps
later own device step steps are = record {
  runs = running_on own device step are.fit.0 are.on.0 are.runs;
  fit = are.fit.1;
  on = are.on.1;
}

above : (own : Sizes) (device : Device) (steps : List LifeStep) (originator number : ℕ) (content : List ℕ)
    → AreGoingOn own device steps → Settled number content (slot_in originator device.ledger)
    → UntilFreed originator (λ command. number < command.number) (journal_over_restarts device steps)
above own device [] originator number content are settled = tt
above own device (Does (Requested request) ∷ steps) originator number content are settled =
    let next = after_life_step device (Does (Requested request)) in
    above-append originator (λ command. number < command.number)
    (journal objects_after objects_answer owned_standing device (request ∷ [])) (journal_over_restarts next steps)
    (journal-above objects_after objects_answer owned_standing (request ∷ []) device originator number content settled)
    (λ kept. above own next steps originator number content
    (later own device (Does (Requested request)) steps are)
    (settled-run objects_after objects_answer owned_standing (request ∷ []) device originator number content settled kept))
above own device (Does (WrittenBy write) ∷ steps) originator number content are settled =
    let after = written-settled write device originator number content settled in
    above own (device_written write device) steps originator number after.0
    (later own device (Does (WrittenBy write)) steps are) after.1
above own device (Restarts start ∷ steps) originator number content are settled =
    above own (restarted start device) steps originator number content (later own device (Restarts start) steps are)
    (subst (λ l. Settled number content (slot_in originator l))
    (sym (going_on own device start are.runs are.on.0)) settled)

rises_by : (f : Fate) (device : Device) (request : Request) (events : List Event) → Means device.ledger request f
    → ((originator number : ℕ) (content : List ℕ)
    → Settled number content (slot_in originator (next_by objects_after objects_answer f device request).ledger)
    → UntilFreed originator (λ command. number < command.number) events)
    → Rises events → Rises ((events_by objects_after objects_answer f device.router ++ []) ++ events)
rises_by Passed device request events means up rises = rises
rises_by (Served service (Replies given)) device request events means up rises = rises
rises_by (Served service (Executes command)) device request events means up rises = (
  up command.originator command.number
      (DONE ∷ embedded_reply objects_after objects_answer device.router command.request)
      (settled-command objects_after objects_answer device request service command means),
  rises,
)
rises_by (Served service (Queues command ticket)) device request events means up rises = (
  up command.originator command.number (PENDING ∷ [])
      (settled-queued objects_after objects_answer device request service command ticket means),
  rises,
)
rises_by (Served service (Frees freed)) device request events means up rises = rises

pub all_rise : (own : Sizes) (device : Device) (steps : List LifeStep) → AreGoingOn own device steps
    → Rises (journal_over_restarts device steps)
all_rise own device [] are = tt
all_rise own device (Does (Requested request) ∷ steps) are =
    let next = after_life_step device (Does (Requested request)) in
    let more = later own device (Does (Requested request)) steps are in
    rises_by (fate owned_standing device.ledger device.router request.0 request.1) device request
    (journal_over_restarts next steps) (fate-means owned_standing device.ledger device.router request)
    (λ originator number content settled. above own next steps originator number content more settled)
    (all_rise own next steps more)
all_rise own device (Does (WrittenBy write) ∷ steps) are =
    all_rise own (device_written write device) steps (later own device (Does (WrittenBy write)) steps are)
all_rise own device (Restarts start ∷ steps) are =
    all_rise own (restarted start device) steps (later own device (Restarts start) steps are)

-- ---- the same bytes

not_freed-left : (events later : List Event) (originator : ℕ) → IsNotFreed originator (events ++ later)
    → IsNotFreed originator events
not_freed-left [] later originator kept = tt
not_freed-left (Executed command reply ∷ events) later originator kept = not_freed-left events later originator kept
not_freed-left (Freed freed ∷ events) later originator kept =
    (kept.0, not_freed-left events later originator kept.1)

not_freed-right : (events later : List Event) (originator : ℕ) → IsNotFreed originator (events ++ later)
    → IsNotFreed originator later
not_freed-right [] later originator kept = kept
not_freed-right (Executed command reply ∷ events) later originator kept = not_freed-right events later originator kept
not_freed-right (Freed freed ∷ events) later originator kept = not_freed-right events later originator kept.1

-- settling the command of another leaves the slot
other_slot : (ledger : LedgerState) (by number originator : ℕ) (reply : List ℕ) → by ≢ originator
    → slot_of originator (settled ledger by number reply).taken ≡ slot_of originator ledger.taken
other_slot ledger by number originator reply other =
    elim (can_settle ledger by number reply)
    as (λ t. slot_of originator (if t then with_last by number (Some reply) ledger else ledger).taken
    ≡ slot_of originator ledger.taken) [
      | true ↦ slot_of-with_other ledger.taken
          (record { originator = by; number = number; reply = Some reply; ticket = None }) originator other
      | false ↦ refl
    ]

other_ledger : (ledger : Option LedgerState) (by number originator : ℕ) (reply : List ℕ) → by ≢ originator
    → slot_in originator (option_map (λ l. settled l by number reply) ledger) ≡ slot_in originator ledger
other_ledger None by number originator reply other = refl
other_ledger (Some ledger) by number originator reply other = other_slot ledger by number originator reply other

-- the reply to a ticket leaves a command that is not pending
abbrev NotPending : List ℕ → Type 0
NotPending content = content ≡ PENDING ∷ [] → ⊥

by_reply : (slot : SlotState) (ticket : ℕ) (kept : Option (List ℕ)) → slot.reply ≡ kept
    → is_pending_at ticket slot ≡ not (is_some kept) && has_ticket ticket slot.ticket
by_reply slot ticket kept e = ap (λ r. not (is_some r) && has_ticket ticket slot.ticket) e

content_by : (slot : SlotState) (kept : Option (List ℕ)) (given : Option ℕ) → slot.reply ≡ kept → slot.ticket ≡ given
    → last_content slot ≡ state_content kept given
content_by slot kept given e f = ap (λ r. state_content r slot.ticket) e ∙ ap (state_content kept) f

not_pending : (slot : SlotState) (ticket : ℕ) (reply content : List ℕ) → is_pending_at ticket slot ≡ false
    → last_content slot ≡ content → last_content (completed_slot ticket reply slot) ≡ content
not_pending slot ticket reply content off e =
    ap (λ b. last_content (if b then done_with reply slot else slot)) off ∙ e

done_content : (slot : SlotState) (ticket : ℕ) (reply content : List ℕ) (kept : Option (List ℕ)) (given : Option ℕ)
    → slot.reply ≡ kept → slot.ticket ≡ given → last_content slot ≡ content → NotPending content
    → last_content (completed_slot ticket reply slot) ≡ content
done_content slot ticket reply content (Some r) given done t e final =
    not_pending slot ticket reply content (by_reply slot ticket (Some r) done) e
done_content slot ticket reply content None None none t e final =
    not_pending slot ticket reply content (by_reply slot ticket None none ∙ ap (has_ticket ticket) t) e
done_content slot ticket reply content None (Some given) none t e final =
    absurd (final (sym e ∙ content_by slot None (Some given) none t))

settled_final : (ticket : ℕ) (reply : List ℕ) (number : ℕ) (content : List ℕ) (found : Option SlotState)
    → NotPending content → Settled number content found
    → Settled number content (option_map (completed_if ticket reply) found)
settled_final ticket reply number content None final is = absurd is
settled_final ticket reply number content (Some slot) final is = by (is_kept_reply reply) is
  where
    by : (kept : Bool) → Settled number content (Some slot)
        → Settled number content (Some (if kept then completed_slot ticket reply slot else slot))
    by false h = h
    by true (inl both) = inl (
      completed-number ticket reply slot ∙ both.0,
      done_content slot ticket reply content slot.reply slot.ticket refl refl both.1 final,
    )
    by true (inr greater) = let same = completed-number ticket reply slot in inr (omega (arith, same, greater))

completed_final : (ledger : Option LedgerState) (ticket : ℕ) (reply : List ℕ) (originator number : ℕ) (content : List ℕ)
    → NotPending content → Settled number content (slot_in originator ledger)
    → Settled number content (slot_in originator (option_map (λ l. completed l ticket reply) ledger))
completed_final None ticket reply originator number content final is = absurd is
completed_final (Some ledger) ticket reply originator number content final is =
    subst (Settled number content) (sym (slot_of-after ledger ticket reply originator))
    (settled_final ticket reply number content (slot_of originator ledger.taken) final is)

finished_final : (ticket : ℕ) (old new : Option LedgerState) (originator number : ℕ) (content : List ℕ)
    → IsFinished ticket old new → NotPending content → Settled number content (slot_in originator old)
    → Settled number content (slot_in originator new)
finished_final ticket old new originator number content Unchanged final is = is
finished_final ticket old new originator number content (Completed reply) final is =
    completed_final old ticket reply originator number content final is

written_final : (write : OwnWrite) (device : Device) (originator number : ℕ) (content : List ℕ)
    → SettlesOthers originator write → NotPending content → Settled number content (slot_in originator device.ledger)
    → Settled number content (slot_in originator (ledger_written write device))
written_final (WritesData instance offset bytes) device originator number content other final is = is
written_final (WritesAttribute class instance attribute offset bytes) device originator number content other final is =
    is
written_final (SetsStatus status) device originator number content other final is = is
written_final (SetsState state) device originator number content other final is = is
written_final (Prepares reply) device originator number content other final is = is
written_final (Settles by given reply) device originator number content other final is =
    subst (Settled number content) (sym (other_ledger device.ledger by given originator reply other)) is
written_final (Finishes ticket reply) device originator number content other final is =
    finished_final ticket device.ledger (ledger_written (Finishes ticket reply) device) originator number content
    (finished-ledger ticket reply device) final is
written_final (Marks ticket) device originator number content other final is = is
written_final (Withdraws request) device originator number content other final is =
    found-ledger (λ l. Settled number content (slot_in originator l)) device request
    (λ l by given held. withdrawn-final l by given originator number content final held)
    (λ l ticket reply held. completed_final (Some l) ticket reply originator number content final held) is

pub stays_settled : (own : Sizes) (device : Device) (steps : List LifeStep) (originator number : ℕ) (content : List ℕ)
    → AreGoingOn own device steps → AllByRecursion (SettlesNothingOf originator) steps
    → IsNotFreed originator (journal_over_restarts device steps) → NotPending content
    → Settled number content (slot_in originator device.ledger)
    → Settled number content (slot_in originator (after_life_steps device steps).ledger)
stays_settled own device [] originator number content are others kept final settled = settled
stays_settled own device (Does (Requested request) ∷ steps) originator number content are others kept final settled =
    let next = after_life_step device (Does (Requested request)) in
    let events = journal objects_after objects_answer owned_standing device (request ∷ []) in
    let more = journal_over_restarts next steps in
    stays_settled own next steps originator number content (later own device (Does (Requested request)) steps are)
    others.1 (not_freed-right events more originator kept) final
    (settled-run objects_after objects_answer owned_standing (request ∷ []) device originator number content settled
    (not_freed-left events more originator kept))
stays_settled own device (Does (WrittenBy write) ∷ steps) originator number content are others kept final settled =
    stays_settled own (device_written write device) steps originator number content
    (later own device (Does (WrittenBy write)) steps are) others.1 kept final
    (written_final write device originator number content others.0 final settled)
stays_settled own device (Restarts start ∷ steps) originator number content are others kept final settled =
    stays_settled own (restarted start device) steps originator number content
    (later own device (Restarts start) steps are) others.1 kept final
    (subst (λ l. Settled number content (slot_in originator l))
    (sym (going_on own device start are.runs are.on.0)) settled)

-- what a command is answered by says that it is pending, or not
other_state : (content : List ℕ) (state : ℕ) (rest : List ℕ) → content ≡ state ∷ rest → (state ≡ PENDING → ⊥)
    → NotPending content
other_state content state rest e other pending = other (first state PENDING rest [] (sym e ∙ pending))
  where
    first : (a b : ℕ) (xs ys : List ℕ) → a ∷ xs ≡ b ∷ ys → a ≡ b
    first a b xs ys e = cc

pending_or_not : (slot : SlotState) (kept : Option (List ℕ)) (given : Option ℕ) → slot.reply ≡ kept
    → slot.ticket ≡ given → (last_content slot ≡ PENDING ∷ []) ⊎ NotPending (last_content slot)
pending_or_not slot (Some r) None done t =
    inr (other_state (last_content slot) DONE r (content_by slot (Some r) None done t) (λ e. omega (arith, e)))
pending_or_not slot (Some r) (Some given) done t =
    inr (other_state (last_content slot) WITHDRAWN [] (content_by slot (Some r) (Some given) done t) (λ e. omega (arith, e)))
pending_or_not slot None (Some given) none t = inl (content_by slot None (Some given) none t)
pending_or_not slot None None none t =
    inr (other_state (last_content slot) IN_DOUBT [] (content_by slot None None none t) (λ e. omega (arith, e)))

either : {A B C : Type 0} → A ⊎ B → (A → C) → (B → C) → C
either (inl a) one other = one a
either (inr b) one other = other b

-- what an answer has that is not "pending" is what the next answer has
answers_again : (own : Sizes) (device : Device) (first again : Request) (between : List LifeStep)
    (originator number : ℕ) → AreGoingOn own device (Does (Requested first) ∷ between)
    → AllByRecursion (SettlesNothingOf originator) between
    → (is : Succeeds objects_after objects_answer owned_standing device first originator number)
    → Succeeds objects_after objects_answer owned_standing
    (after_life_steps device (Does (Requested first) ∷ between)) again originator number
    → IsNotFreed originator (journal_over_restarts (after_life_step device (Does (Requested first))) between)
    → NotPending
    (last_content (settles objects_after objects_answer owned_standing device first originator number is).slot)
    → answer_to objects_after objects_answer owned_standing
    (after_life_steps device (Does (Requested first) ∷ between)) again
    ≡ answer_to objects_after objects_answer owned_standing device first
answers_again own device first again between originator number are others is again_is kept final =
    let s = settles objects_after objects_answer owned_standing device first originator number is in
    let next = after_life_step device (Does (Requested first)) in
    let last = after_life_steps next between in
    again-by objects_after objects_answer last again originator number again_is.has_ledger again_is.command
    again_is.given again_is.originator_is again_is.number_is
    (fate owned_standing last.ledger last.router again.0 again.1) s.content
    (fate-means owned_standing last.ledger last.router again)
    (stays_settled own next between originator number s.content
    (later own device (Does (Requested first)) between are) others kept (subst NotPending s.content_is final) s.settled)
    again_is.status_is
    ∙ sym s.answered

pub same_answer : (own : Sizes) (device : Device) (first again : Request) (between : List LifeStep)
    (originator number : ℕ) → AreGoingOn own device (Does (Requested first) ∷ between)
    → AllByRecursion (SettlesNothingOf originator) between
    → Succeeds objects_after objects_answer owned_standing device first originator number
    → Succeeds objects_after objects_answer owned_standing
    (after_life_steps device (Does (Requested first) ∷ between)) again originator number
    → IsNotFreed originator (journal_over_restarts (after_life_step device (Does (Requested first))) between)
    → (answer_to objects_after objects_answer owned_standing
    (after_life_steps device (Does (Requested first) ∷ between)) again
    ≡ answer_to objects_after objects_answer owned_standing device first)
    ⊎ (answer_to objects_after objects_answer owned_standing device first
    ≡ reply_to services.DO_ONCE (success (PENDING ∷ [])))
same_answer own device first again between originator number are others is again_is kept =
    let s = settles objects_after objects_answer owned_standing device first originator number is in
    either (pending_or_not s.slot s.slot.reply s.slot.ticket refl refl)
    (λ pending. inr (s.answered ∙ ap (λ c. reply_to services.DO_ONCE (success c)) (sym s.content_is ∙ pending)))
    (λ final. inl (answers_again own device first again between originator number are others is again_is kept final))

-- without a queue no command is pending
no_ticket : (ticket : Option ℕ) → has_given ticket None ≡ true → ticket ≡ None
no_ticket None given = refl
no_ticket (Some t) given = absurd (cc)

final_content : (slot : SlotState) (kept : Option (List ℕ)) (given : Option ℕ) → slot.reply ≡ kept → slot.ticket ≡ given
    → ticket_by kept given ≡ None → NotPending (last_content slot)
final_content slot (Some r) None done t none =
    other_state (last_content slot) DONE r (content_by slot (Some r) None done t) (λ e. omega (arith, e))
final_content slot (Some r) (Some given) done t none =
    other_state (last_content slot) WITHDRAWN [] (content_by slot (Some r) (Some given) done t) (λ e. omega (arith, e))
final_content slot None None doubt t none =
    other_state (last_content slot) IN_DOUBT [] (content_by slot None None doubt t) (λ e. omega (arith, e))
final_content slot None (Some given) doubt t none = absurd (cc)

pub same_final : (own : Sizes) (device : Device) (first again : Request) (between : List LifeStep)
    (originator number : ℕ) → device.router.queue ≡ None → AreGoingOn own device (Does (Requested first) ∷ between)
    → AllByRecursion (SettlesNothingOf originator) between
    → Succeeds objects_after objects_answer owned_standing device first originator number
    → Succeeds objects_after objects_answer owned_standing
    (after_life_steps device (Does (Requested first) ∷ between)) again originator number
    → IsNotFreed originator (journal_over_restarts (after_life_step device (Does (Requested first))) between)
    → answer_to objects_after objects_answer owned_standing
    (after_life_steps device (Does (Requested first) ∷ between)) again
    ≡ answer_to objects_after objects_answer owned_standing device first
same_final own device first again between originator number none are others is again_is kept =
    let s = settles objects_after objects_answer owned_standing device first originator number is in
    let step = Requested first in
    let next = device_after_step device step in
    let without : next.router.queue ≡ None
    = step-queue device step ∙ ap (option_map (λ q. after_steps q (queue_steps_by_step device step))) none in
    let given : has_given (pending_ticket s.slot) next.router.queue ≡ true
    = slot_given next.ledger next.router.queue originator s.slot
    (later own device (Does step) between are).runs.is.given s.found in
    answers_again own device first again between originator number are others is again_is kept
    (final_content s.slot s.slot.reply s.slot.ticket refl refl
    (no_ticket (pending_ticket s.slot) (subst (λ q. has_given (pending_ticket s.slot) q ≡ true) without given)))

-- ---- the queue

steps_two : (queue : QueueState) (first second : List QueueStep)
    → after_steps (after_steps queue first) second ≡ after_steps queue (first ++ second)
steps_two queue [] second = refl
steps_two queue (step ∷ first) second = steps_two (after_step queue step) first second

mapped_two : (queue : Option QueueState) (first second : List QueueStep)
    → option_map (λ q. after_steps q second) (option_map (λ q. after_steps q first) queue)
    ≡ option_map (λ q. after_steps q (first ++ second)) queue
mapped_two None first second = refl
mapped_two (Some q) first second = ap (λ x. Some x) (steps_two q first second)

mapped_none : (queue : Option QueueState) → queue ≡ option_map (λ q. after_steps q []) queue
mapped_none None = refl
mapped_none (Some q) = refl

pub queue_end : (own : Sizes) (device : Device) (steps : List LifeStep) → AreGoingOn own device steps
    → (after_life_steps device steps).router.queue
    ≡ option_map (λ queue. after_steps queue (queue_steps_over_restarts device steps)) device.router.queue
queue_end own device [] are = mapped_none device.router.queue
queue_end own device (Does step ∷ steps) are =
    let next = device_after_step device step in
    queue_end own next steps (later own device (Does step) steps are)
    ∙ ap (option_map (λ q. after_steps q (queue_steps_over_restarts next steps))) (step-queue device step)
    ∙ mapped_two device.router.queue (queue_steps_by_step device step) (queue_steps_over_restarts next steps)
queue_end own device (Restarts start ∷ steps) are =
    let next = restarted start device in
    queue_end own next steps (later own device (Restarts start) steps are)
    ∙ ap (option_map (λ q. after_steps q (queue_steps_over_restarts next steps)))
    (queue_going_on own device start are.runs are.on.0)

-- The premise of the laws.
pub go_on : (device : Device) (steps : List LifeStep) → GoOn device steps → AreGoingOn (sizes_of device) device steps
go_on device steps on = record {
  runs = record { is = on.is; sizes = refl };
  fit = on.fit;
  on = on.on;
}
