-- What a device executes over restarts, each of which goes on with its ledger or begins a new life.
use Rattle.std.proofs.Common.{◌≡◌, ◌≢◌, ℕ, ◌<◌, true, false, if◌then◌else◌, Option, Some, None, List, [], ◌∷◌, ◌++◌}
use Rattle.std.proofs.Common.{refl, ap, sym, ◌∙◌, subst, arith, ◌⊎◌, inl, inr, unwrap_or}
use Rattle.std.specs.Prelude.{⊤, option_map, IfSome}
use Rattle.std.specs.List.{AllByRecursion}
use Rattle.cip_ledger.specs.Device.{Device, owned_standing}
use Rattle.cip_ledger.specs.Doubt.{can_settle, with_last, settled, is_kept_reply}
use Rattle.cip_ledger.specs.Ledger.{LedgerState, slot_of}
use Rattle.cip_ledger.specs.Laws.{UntilFreed, AreOfLife}
use Rattle.cip_ledger.specs.Pending.{with_completed, completed}
use Rattle.cip_message.specs.LedgerCommand.{Command}
use Rattle.cip_ledger.specs.Runs.{Request, slot_in, Executed, Freed, Event, journal, events_by}
use Rattle.cip_ledger.specs.Services.{Replies, Executes, Queues, Frees, DONE, PENDING}
use Rattle.cip_ledger.specs.Turn.{Fate, Passed, Served, fate, turn_by, with_executed, with_queued, with_freed}
use Rattle.cip_ledger.specs.Turn.{embedded_reply}
use Rattle.cip_ledger.specs.Withdrawing.{withdrawn}
use Rattle.cip_ledger.proofs.Doubts.{settled-stays}
use Rattle.cip_ledger.proofs.Fates.{Means, fate-means}
use Rattle.cip_ledger.proofs.Pendings.{completed-stays}
use Rattle.cip_ledger.proofs.Settled.{Settled, next_by, settled-run, settled-command, settled-queued, journal-above}
use Rattle.cip_ledger.proofs.Settled.{journal-life}
use Rattle.enip_adapter.specs.DeviceRuns.{Requested, WrittenBy, objects_after, objects_answer}
use Rattle.enip_adapter.specs.OwnWrites.{OwnWrite, WritesData, WritesAttribute, SetsStatus, SetsState, Prepares}
use Rattle.enip_adapter.specs.OwnWrites.{Settles, Finishes, Marks, Withdraws, ledger_written, device_written}
use Rattle.enip_adapter.proofs.DeviceLemmas.{above-append}
use Rattle.enip_adapter.proofs.SettleLemmas.{IsFinished, Unchanged, Completed, finished-ledger}
use Rattle.enip_adapter.proofs.WithdrawalLemmas.{found-ledger, withdrawn-stays}
use Rattle.kept_adapter.specs.declared.adapter_start.AdapterStart.{AdapterStart}
use Rattle.kept_adapter.specs.declared.adapter_start.LedgerStart.{LedgerStart}
use Rattle.kept_adapter.specs.Restarts.{LifeStep, Does, Restarts, restarted, after_life_step, journal_over_restarts}
use Rattle.kept_adapter.specs.Restarts.{IsRestartable, IsStep, IsLedgerAfter, life_of, IsNotAgain, IsOnceInEachLife}
use Rattle.kept_adapter.specs.Restarts.{BeginsOther, BeginNewLives}
use Rattle.kept_adapter.specs.Started.{new_ledger}
use Rattle.kept_adapter.proofs.Restarted.{ledger_after, device_stays}
use Rattle.kept_adapter.proofs.WithdrawnLedgers.{withdrawn-life}

-- ---- the life stays

mapped_life : (ledger : Option LedgerState) (change : LedgerState → LedgerState)
    → ((l : LedgerState) → (change l).life ≡ l.life) → life_of (option_map change ledger) ≡ life_of ledger
mapped_life None change same = refl
mapped_life (Some l) change same = ap (λ n. Some n) (same l)

turn_life : (f : Fate) (device : Device) (request : Request)
    → life_of (turn_by objects_after objects_answer f device.ledger device.router request.0 request.1).ledger
    ≡ life_of device.ledger
turn_life Passed device request = refl
turn_life (Served service (Replies reply)) device request = refl
turn_life (Served service (Executes command)) device request =
    mapped_life device.ledger
    (with_executed command (embedded_reply objects_after objects_answer device.router command.request)) (λ l. refl)
turn_life (Served service (Queues command ticket)) device request =
    mapped_life device.ledger (with_queued command ticket) (λ l. refl)
turn_life (Served service (Frees freed)) device request = mapped_life device.ledger (with_freed freed) (λ l. refl)

settled_life : (ledger : LedgerState) (originator number : ℕ) (reply : List ℕ)
    → (settled ledger originator number reply).life ≡ ledger.life
settled_life ledger originator number reply =
    elim (can_settle ledger originator number reply)
    as (λ t. (if t then with_last originator number (Some reply) ledger else ledger).life ≡ ledger.life) [
      | true ↦ refl
      | false ↦ refl
    ]

completed_life : (ledger : LedgerState) (ticket : ℕ) (reply : List ℕ) → (completed ledger ticket reply).life ≡ ledger.life
completed_life ledger ticket reply =
    elim (is_kept_reply reply) as (λ t. (if t then with_completed ticket reply ledger else ledger).life ≡ ledger.life) [
      | true ↦ refl
      | false ↦ refl
    ]

finished_life : (ticket : ℕ) (old new : Option LedgerState) → IsFinished ticket old new → life_of new ≡ life_of old
finished_life ticket old new Unchanged = refl
finished_life ticket old new (Completed reply) =
    mapped_life old (λ l. completed l ticket reply) (λ l. completed_life l ticket reply)

written_life : (write : OwnWrite) (device : Device) → life_of (ledger_written write device) ≡ life_of device.ledger
written_life (WritesData instance offset bytes) device = refl
written_life (WritesAttribute class instance attribute offset bytes) device = refl
written_life (SetsStatus status) device = refl
written_life (SetsState state) device = refl
written_life (Prepares reply) device = refl
written_life (Settles originator number reply) device =
    mapped_life device.ledger (λ l. settled l originator number reply) (λ l. settled_life l originator number reply)
written_life (Finishes ticket reply) device =
    finished_life ticket device.ledger (ledger_written (Finishes ticket reply) device)
    (finished-ledger ticket reply device)
written_life (Marks ticket) device = refl
written_life (Withdraws request) device =
    found-ledger (λ l. life_of l ≡ life_of device.ledger) device request
    (λ l originator number same. ap (λ n. Some n) (withdrawn-life l originator number) ∙ same)
    (λ l ticket reply same. ap (λ n. Some n) (completed_life l ticket reply) ∙ same) refl

-- ---- a number that is never executed again

-- The ledger is in another life, or the originator's slot has this number or a greater one.
abbrev Blocked : ℕ → ℕ → ℕ → Option LedgerState → Type 0
Blocked life originator number None = ⊤
Blocked life originator number (Some l) =
    (l.life ≢ life) ⊎ ((content : List ℕ) × Settled number content (slot_of originator l.taken))

abbrev IsAbove : ℕ → ℕ → Command → Type 0
IsAbove life number other = other.life ≡ life → number < other.number

by_life : (ledger : Option LedgerState) (own life originator number : ℕ) → life_of ledger ≡ Some own → own ≢ life
    → Blocked life originator number ledger
by_life None own life originator number e other = absurd (cc)
by_life (Some l) own life originator number e other =
    inl (λ same. other (sym (ap (λ o. unwrap_or o own) e) ∙ same))

by_slot : (ledger : Option LedgerState) (life originator number : ℕ) (content : List ℕ)
    → Settled number content (slot_in originator ledger) → Blocked life originator number ledger
by_slot None life originator number content is = absurd is
by_slot (Some l) life originator number content is = inr (content, is)

-- what is executed in another life
of_other_life : (own life originator number : ℕ) (events : List Event) → own ≢ life → AreOfLife own events
    → UntilFreed originator (IsAbove life number) events
of_other_life own life originator number [] other all = tt
of_other_life own life originator number (Executed command reply ∷ events) other all = (
  (λ same of_life. absurd (other (sym all.0 ∙ of_life))),
  of_other_life own life originator number events other all.1,
)
of_other_life own life originator number (Freed freed ∷ events) other all =
    λ differs. of_other_life own life originator number events other all

in_any_life : (life originator number : ℕ) (events : List Event)
    → UntilFreed originator (λ command. number < command.number) events
    → UntilFreed originator (IsAbove life number) events
in_any_life life originator number [] above = tt
in_any_life life originator number (Executed command reply ∷ events) above =
    ((λ same of_life. above.0 same), in_any_life life originator number events above.1)
in_any_life life originator number (Freed freed ∷ events) above =
    λ differs. in_any_life life originator number events (above differs)

-- one request
abbrev own_journal : Device → Request → List Event
own_journal device request = journal objects_after objects_answer owned_standing device (request ∷ [])

abbrev own_next : Device → Request → Device
own_next device request = after_life_step device (Does (Requested request))

requested_by : (device : Device) (request : Request) (more : List Event) (life originator number : ℕ)
    (ledger : Option LedgerState) → device.ledger ≡ ledger → Blocked life originator number ledger
    → (Blocked life originator number (own_next device request).ledger
    → UntilFreed originator (IsAbove life number) more)
    → UntilFreed originator (IsAbove life number) (own_journal device request ++ more)
requested_by device request more life originator number None e blocked rest =
    let nothing : own_journal device request ≡ []
    = ap (λ l. events_by objects_after objects_answer (fate owned_standing l device.router request.0 request.1)
    device.router ++ []) e in
    let none : (own_next device request).ledger ≡ None
    = ap (λ l. (turn_by objects_after objects_answer (fate owned_standing l device.router request.0 request.1) l
    device.router request.0 request.1).ledger) e in
    subst (λ events. UntilFreed originator (IsAbove life number) (events ++ more)) (sym nothing)
    (rest (subst (Blocked life originator number) (sym none) tt))
requested_by device request more life originator number (Some l) e (inl other) rest =
    let own : life_of device.ledger ≡ Some l.life = ap life_of e in
    above-append originator (IsAbove life number) (own_journal device request) more
    (of_other_life l.life life originator number (own_journal device request) other
    (journal-life objects_after objects_answer owned_standing (request ∷ []) device l.life own))
    (λ kept. rest (by_life (own_next device request).ledger l.life life originator number
    (turn_life (fate owned_standing device.ledger device.router request.0 request.1) device request ∙ own) other))
requested_by device request more life originator number (Some l) e (inr (content, settled)) rest =
    let there : Settled number content (slot_in originator device.ledger)
    = subst (λ o. Settled number content (slot_in originator o)) (sym e) settled in
    above-append originator (IsAbove life number) (own_journal device request) more
    (in_any_life life originator number (own_journal device request)
    (journal-above objects_after objects_answer owned_standing (request ∷ []) device originator number content there))
    (λ kept. rest (by_slot (own_next device request).ledger life originator number content
    (settled-run objects_after objects_answer owned_standing (request ∷ []) device originator number content there kept)))

settled_blocked : (ledger : Option LedgerState) (by given : ℕ) (reply : List ℕ) (life originator number : ℕ)
    → Blocked life originator number ledger
    → Blocked life originator number (option_map (λ l. settled l by given reply) ledger)
settled_blocked None by given reply life originator number is = tt
settled_blocked (Some l) by given reply life originator number (inl other) =
    inl (λ same. other (sym (settled_life l by given reply) ∙ same))
settled_blocked (Some l) by given reply life originator number (inr (content, is)) =
    inr (settled-stays l by given reply originator number content is)

completed_blocked : (ledger : Option LedgerState) (ticket : ℕ) (reply : List ℕ) (life originator number : ℕ)
    → Blocked life originator number ledger
    → Blocked life originator number (option_map (λ l. completed l ticket reply) ledger)
completed_blocked None ticket reply life originator number is = tt
completed_blocked (Some l) ticket reply life originator number (inl other) =
    inl (λ same. other (sym (completed_life l ticket reply) ∙ same))
completed_blocked (Some l) ticket reply life originator number (inr (content, is)) =
    inr (completed-stays l ticket reply originator number content is)

withdrawn_blocked : (l : LedgerState) (by own : ℕ) (life originator number : ℕ)
    → Blocked life originator number (Some l) → Blocked life originator number (Some (withdrawn by own l))
withdrawn_blocked l by own life originator number (inl other) =
    inl (λ same. other (sym (withdrawn-life l by own) ∙ same))
withdrawn_blocked l by own life originator number (inr (content, is)) =
    inr (withdrawn-stays l by own originator number content is)

finished_blocked : (ticket : ℕ) (old new : Option LedgerState) (life originator number : ℕ) → IsFinished ticket old new
    → Blocked life originator number old → Blocked life originator number new
finished_blocked ticket old new life originator number Unchanged is = is
finished_blocked ticket old new life originator number (Completed reply) is =
    completed_blocked old ticket reply life originator number is

written_blocked : (write : OwnWrite) (device : Device) (life originator number : ℕ)
    → Blocked life originator number device.ledger → Blocked life originator number (ledger_written write device)
written_blocked (WritesData instance offset bytes) device life originator number is = is
written_blocked (WritesAttribute class instance attribute offset bytes) device life originator number is = is
written_blocked (SetsStatus status) device life originator number is = is
written_blocked (SetsState state) device life originator number is = is
written_blocked (Prepares reply) device life originator number is = is
written_blocked (Settles by given reply) device life originator number is =
    settled_blocked device.ledger by given reply life originator number is
written_blocked (Finishes ticket reply) device life originator number is =
    finished_blocked ticket device.ledger (ledger_written (Finishes ticket reply) device) life originator number
    (finished-ledger ticket reply device) is
written_blocked (Marks ticket) device life originator number is = is
written_blocked (Withdraws request) device life originator number is =
    found-ledger (Blocked life originator number) device request
    (λ l by own held. withdrawn_blocked l by own life originator number held)
    (λ l ticket reply held. completed_blocked (Some l) ticket reply life originator number held) is

new_blocked : (ledger : Option LedgerStart) (life originator number : ℕ) → IfSome ledger (λ l. l.life ≢ life)
    → Blocked life originator number (new_ledger ledger)
new_blocked None life originator number other = tt
new_blocked (Some l) life originator number other = inl other

restart_blocked : (start : AdapterStart) (old new : Option LedgerState) (life originator number : ℕ)
    → IsLedgerAfter start old new → IfSome start.ledger (λ l. l.life ≢ life) → Blocked life originator number old
    → Blocked life originator number new
restart_blocked start old new life originator number (inl begun) other is =
    subst (Blocked life originator number) (sym begun) (new_blocked start.ledger life originator number other)
restart_blocked start old new life originator number (inr (l, slots, e, within, few, same)) other is =
    let before : Blocked life originator number (Some l) = subst (Blocked life originator number) e is in
    subst (Blocked life originator number) (sym same) before

blocked_until : (steps : List LifeStep) (device : Device) (life originator number : ℕ) → IsRestartable device
    → AllByRecursion IsStep steps → AllByRecursion (BeginsOther life) steps
    → Blocked life originator number device.ledger
    → UntilFreed originator (IsAbove life number) (journal_over_restarts device steps)
blocked_until [] device life originator number is fit others blocked = tt
blocked_until (Does (Requested request) ∷ steps) device life originator number is fit others blocked =
    let next = own_next device request in
    requested_by device request (journal_over_restarts next steps) life originator number device.ledger refl blocked
    (λ settled. blocked_until steps next life originator number
    (device_stays device (Does (Requested request)) fit.0 is) fit.1 others.1 settled)
blocked_until (Does (WrittenBy write) ∷ steps) device life originator number is fit others blocked =
    blocked_until steps (device_written write device) life originator number
    (device_stays device (Does (WrittenBy write)) fit.0 is) fit.1 others.1
    (written_blocked write device life originator number blocked)
blocked_until (Restarts start ∷ steps) device life originator number is fit others blocked =
    blocked_until steps (restarted start device) life originator number
    (device_stays device (Restarts start) fit.0 is) fit.1 others.1
    (restart_blocked start device.ledger (restarted start device).ledger life originator number
    (ledger_after start device is fit.0) others.0 blocked)

-- ---- each command once

not_again : (life originator number : ℕ) (command : Command) (events : List Event) → command.life ≡ life
    → command.number ≡ number → UntilFreed originator (IsAbove life number) events
    → UntilFreed originator (IsNotAgain command) events
not_again life originator number command [] own is above = tt
not_again life originator number command (Executed other reply ∷ events) own is above = (
  (λ same of_life equal. let less = above.0 same (of_life ∙ own) in absurd (omega (arith, less, is, equal))),
  not_again life originator number command events own is above.1,
)
not_again life originator number command (Freed freed ∷ events) own is above =
    λ differs. not_again life originator number command events own is (above differs)

once_by : (f : Fate) (device : Device) (request : Request) (events : List Event) → Means device.ledger request f
    → ((command : Command) → life_of device.ledger ≡ Some command.life
    → Blocked command.life command.originator command.number
    (next_by objects_after objects_answer f device request).ledger
    → UntilFreed command.originator (IsAbove command.life command.number) events)
    → IsOnceInEachLife events
    → IsOnceInEachLife ((events_by objects_after objects_answer f device.router ++ []) ++ events)
once_by Passed device request events means up once = once
once_by (Served service (Replies given)) device request events means up once = once
once_by (Served service (Executes command)) device request events means up once =
    let own : life_of device.ledger ≡ Some command.life
    = ap life_of means.ledger_is ∙ ap (λ n. Some n) (sym means.means.life) in
    let next = next_by objects_after objects_answer (Served service (Executes command)) device request in (
      not_again command.life command.originator command.number command events refl refl
          (up command own (by_slot next.ledger command.life command.originator command.number
          (DONE ∷ embedded_reply objects_after objects_answer device.router command.request)
          (settled-command objects_after objects_answer device request service command means))),
      once,
    )
once_by (Served service (Queues command ticket)) device request events means up once =
    let own : life_of device.ledger ≡ Some command.life
    = ap life_of means.ledger_is ∙ ap (λ n. Some n) (sym means.means.life) in
    let next = next_by objects_after objects_answer (Served service (Queues command ticket)) device request in (
      not_again command.life command.originator command.number command events refl refl
          (up command own (by_slot next.ledger command.life command.originator command.number (PENDING ∷ [])
          (settled-queued objects_after objects_answer device request service command ticket means))),
      once,
    )
once_by (Served service (Frees freed)) device request events means up once = once

-- The steps from here on.
record AreNew (device : Device) (steps : List LifeStep) : Type 0 where
  is : IsRestartable device
  fit : AllByRecursion IsStep steps
  begin : BeginNewLives device steps

own_lives : (step : LifeStep) (steps : List LifeStep) (old new : Option ℕ) → new ≡ old
    → IfSome old (λ life. AllByRecursion (BeginsOther life) (step ∷ steps))
    → IfSome new (λ life. AllByRecursion (BeginsOther life) steps)
own_lives step steps old new same first =
    subst (λ o. IfSome o (λ life. AllByRecursion (BeginsOther life) steps)) (sym same) (tail old first)
  where
    tail : (life : Option ℕ) → IfSome life (λ n. AllByRecursion (BeginsOther n) (step ∷ steps))
        → IfSome life (λ n. AllByRecursion (BeginsOther n) steps)
    tail None all = tt
    tail (Some n) all = all.1

new_life : (ledger : Option LedgerStart) (steps : List LifeStep)
    → IfSome ledger (λ l. AllByRecursion (BeginsOther l.life) steps)
    → IfSome (life_of (new_ledger ledger)) (λ life. AllByRecursion (BeginsOther life) steps)
new_life None steps all = tt
new_life (Some l) steps all = all

life_then : (start : AdapterStart) (steps : List LifeStep) (old new : Option LedgerState) → IsLedgerAfter start old new
    → IfSome (life_of old) (λ life. AllByRecursion (BeginsOther life) (Restarts start ∷ steps))
    → IfSome start.ledger (λ l. AllByRecursion (BeginsOther l.life) steps)
    → IfSome (life_of new) (λ life. AllByRecursion (BeginsOther life) steps)
life_then start steps old new (inl begun) first own =
    subst (λ o. IfSome (life_of o) (λ life. AllByRecursion (BeginsOther life) steps)) (sym begun)
    (new_life start.ledger steps own)
life_then start steps old new (inr (l, slots, e, within, few, same)) first own =
    own_lives (Restarts start) steps (life_of old) (life_of new) (ap life_of same ∙ sym (ap life_of e)) first

later : (device : Device) (step : LifeStep) (steps : List LifeStep) → AreNew device (step ∷ steps)
    → AreNew (after_life_step device step) steps
later device (Does (Requested request)) steps are = record {
  is = device_stays device (Does (Requested request)) are.fit.0 are.is;
  fit = are.fit.1;
  begin = record {
    first = own_lives (Does (Requested request)) steps (life_of device.ledger)
        (life_of (own_next device request).ledger)
        (turn_life (fate owned_standing device.ledger device.router request.0 request.1) device request) are.begin.first;
    others = are.begin.others;
  };
}
later device (Does (WrittenBy write)) steps are = record {
  is = device_stays device (Does (WrittenBy write)) are.fit.0 are.is;
  fit = are.fit.1;
  begin = record {
    first = own_lives (Does (WrittenBy write)) steps (life_of device.ledger)
        (life_of (ledger_written write device)) (written_life write device) are.begin.first;
    others = are.begin.others;
  };
}
later device (Restarts start) steps are = record {
  is = device_stays device (Restarts start) are.fit.0 are.is;
  fit = are.fit.1;
  begin = record {
    first = life_then start steps device.ledger (restarted start device).ledger
        (ledger_after start device are.is are.fit.0) are.begin.first are.begin.others.0;
    others = are.begin.others.1;
  };
}

begins_other : (own : Option ℕ) (life : ℕ) (steps : List LifeStep) → own ≡ Some life
    → IfSome own (λ n. AllByRecursion (BeginsOther n) steps) → AllByRecursion (BeginsOther life) steps
begins_other own life steps e first = subst (λ o. IfSome o (λ n. AllByRecursion (BeginsOther n) steps)) e first

pub once_in_lives : (device : Device) (steps : List LifeStep) → IsRestartable device → AllByRecursion IsStep steps
    → BeginNewLives device steps → IsOnceInEachLife (journal_over_restarts device steps)
once_in_lives device steps is fit begin = all device steps (record { is = is; fit = fit; begin = begin })
  where
    all : (device : Device) (steps : List LifeStep) → AreNew device steps
        → IsOnceInEachLife (journal_over_restarts device steps)
    all device [] are = tt
    all device (Does (Requested request) ∷ steps) are =
        let next = own_next device request in
        let more = later device (Does (Requested request)) steps are in
        once_by (fate owned_standing device.ledger device.router request.0 request.1) device request
        (journal_over_restarts next steps) (fate-means owned_standing device.ledger device.router request)
        (λ command own blocked. blocked_until steps next command.life command.originator command.number more.is more.fit
        (begins_other (life_of next.ledger) command.life steps
        (turn_life (fate owned_standing device.ledger device.router request.0 request.1) device request ∙ own)
        more.begin.first) blocked)
        (all next steps more)
    all device (Does (WrittenBy write) ∷ steps) are =
        all (device_written write device) steps (later device (Does (WrittenBy write)) steps are)
    all device (Restarts start ∷ steps) are =
        all (restarted start device) steps (later device (Restarts start) steps are)
