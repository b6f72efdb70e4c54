-- An originator has one pending command at most.
use Rattle.std.proofs.Common.{◌≡◌, ◌≢◌, ℕ, ◌<◌, ◌==◌, ◌&&◌, not, Bool, true, false, if◌then◌else◌, Option, Some, None, unwrap_or, List, [], ◌∷◌, ◌++◌, refl, ap, sym, ◌∙◌, subst, arith}
use Rattle.std.specs.Prelude.{◌||◌, map, option_map, is_some}
use Rattle.std.proofs.lemmas.Bool.{eq-eqb, eqb-true, eqb-false, le-ltb, ne_eqb, and_parts}
use Rattle.cip_ledger.specs.declared.router.LedgerRouter.{LedgerRouter}
use Rattle.cip_message.specs.declared.ledger_services.TheConstants as services
use Rattle.cip_ledger.specs.declared.status.Status.TheVariants as statuses
use Rattle.cip_ledger.specs.declared.target.Standing.{Standing}
use Rattle.cip_ledger.specs.Doubt.{is_doubtful, is_in_doubt_at, is_in_doubt, is_kept_reply, can_settle, with_last, settled}
use Rattle.cip_ledger.specs.Ledger.{LedgerState, SlotState, slot_of, with_slot, is_pending}
use Rattle.cip_ledger.specs.Pending.{is_pending_at, any_pending, completed_slot, done_with, with_completed, completed}
use Rattle.cip_ledger.specs.PendingLaws.{IsPending, Step, Asks, Completes, Changes, Withdraws, completed_if, result_in, IsNotWithdrawn, node_step, node_after_steps}
use Rattle.cip_ledger.specs.Requests.{LedgerRequest, ledger_request}
use Rattle.cip_message.specs.LedgerCommand.{Command}
use Rattle.cip_ledger.specs.Runs.{Request, slot_in, command_by, command_given, turn_at, Event, Executed, events_by, journal}
use Rattle.cip_ledger.specs.Standings.{at_router}
use Rattle.cip_ledger.specs.Services.{Replies, Executes, Queues, Frees, refuses, reply_to, refusal, do_command, do_by_slot, action_of}
use Rattle.cip_ledger.specs.Turn.{Fate, Passed, Served, fate, fate_of, turn_of, turn_by, slot_done, slot_queued, embedded_reply}
use Rattle.cip_ledger.proofs.Answered.{gives}
use Rattle.cip_ledger.proofs.Executions.{new_request}
use Rattle.cip_ledger.proofs.Fates.{HasEnded, Means, fate-means}
use Rattle.cip_ledger.proofs.Pendings.{pending-is, slot_of-after}
use Rattle.cip_ledger.proofs.SlotLemmas.{slot_of-with_slot, slot_of-with_other}
use Rattle.cip_ledger.proofs.Settled.{next_by, taken-other, freed-other}
use Rattle.cip_ledger.proofs.Withdrawals.{withdrawn-keeps}

-- ---- a slot whose command is pending

pub waiting : (slot : SlotState) (ticket : ℕ) → slot.reply ≡ None → slot.ticket ≡ Some ticket → is_pending slot ≡ true
waiting slot ticket none is =
    ap (λ kept. not (is_some kept) && is_some slot.ticket) none ∙ ap (λ own. is_some own) is

not_both : (b : Bool) → b ≡ true → b ≡ false → ⊥
not_both b is not = absurd (cc)

ended_found : (found : Option SlotState) (slot : SlotState) → HasEnded found → found ≡ Some slot → is_pending slot ≡ false
ended_found None slot ended is = absurd (cc)
ended_found (Some own) slot ended is = subst (λ s. is_pending s ≡ false) (ap (λ o. unwrap_or o own) is) ended

-- what has ended in a ledger has ended in the one that is there
ended_in : (ledger : Option LedgerState) (state : LedgerState) (originator : ℕ) (slot : SlotState) → ledger ≡ Some state →
    HasEnded (slot_of originator state.taken) → slot_in originator ledger ≡ Some slot → is_pending slot ≡ false
ended_in ledger state originator slot is ended found =
    ended_found (slot_of originator state.taken) slot ended (sym (ap (slot_in originator) is) ∙ found)

-- ---- settling a command, or completing none, keeps what is pending

abbrev pub waits : Option SlotState → Option Bool
waits found = option_map (λ slot. is_pending slot) found

-- a slot whose command is in doubt is not pending
doubt_ended : (reply ticket : Bool) → (not reply && not ticket) ≡ true → (not reply && ticket) ≡ false
doubt_ended true ticket is = refl
doubt_ended false true is = absurd (cc)
doubt_ended false false is = refl

doubted_waits : (number : ℕ) (found : Option SlotState) → is_in_doubt_at number found ≡ true → waits found ≡ Some false
doubted_waits number None is = absurd (cc)
doubted_waits number (Some slot) is =
    let both = and_parts (slot.number == number) (is_doubtful slot) is in
    ap (λ b. Some b) (doubt_ended (is_some slot.reply) (is_some slot.ticket) both.1)

pub settled-waits : (ledger : LedgerState) (originator number : ℕ) (reply : List ℕ) (any : ℕ) →
    waits (slot_of any (settled ledger originator number reply).taken) ≡ waits (slot_of any ledger.taken)
settled-waits ledger originator number reply any = go (can_settle ledger originator number reply) refl
  where
    slot : SlotState
    slot = record { originator = originator; number = number; reply = Some reply; ticket = None }

    after_settling : (own : Bool) → (originator == any) ≡ own → is_in_doubt ledger originator number ≡ true →
        waits (slot_of any (with_slot slot ledger.taken)) ≡ waits (slot_of any ledger.taken)
    after_settling true is doubt =
        let same = eqb-true originator any is in
        ap (λ o. waits (slot_of o (with_slot slot ledger.taken))) (sym same)
        ∙ ap waits (slot_of-with_slot ledger.taken slot)
        ∙ sym (doubted_waits number (slot_of originator ledger.taken) doubt)
        ∙ ap (λ o. waits (slot_of o ledger.taken)) same
    after_settling false is doubt = ap waits (slot_of-with_other ledger.taken slot any (eqb-false originator any is))

    go : (can : Bool) → can_settle ledger originator number reply ≡ can →
        waits (slot_of any (if can then with_last originator number (Some reply) ledger else ledger).taken)
        ≡ waits (slot_of any ledger.taken)
    go false is = refl
    go true is =
        after_settling (originator == any) refl
        (and_parts (is_kept_reply reply) (is_in_doubt ledger originator number) is).1

completed_taken : (ticket : ℕ) (reply : List ℕ) (taken : List SlotState) → any_pending ticket taken ≡ false →
    map (completed_slot ticket reply) taken ≡ taken
completed_taken ticket reply [] none = refl
completed_taken ticket reply (slot ∷ taken) none =
    go (is_pending_at ticket slot) (completed_taken ticket reply taken) none
  where
    go : (own : Bool) → (any_pending ticket taken ≡ false → map (completed_slot ticket reply) taken ≡ taken) →
        (own || any_pending ticket taken) ≡ false →
        (if own then done_with reply slot else slot) ∷ map (completed_slot ticket reply) taken ≡ slot ∷ taken
    go true rest e = absurd (cc)
    go false rest e = ap (λ later. slot ∷ later) (rest e)

-- completing a ticket of no pending command changes nothing
pub completed-none : (ledger : LedgerState) (ticket : ℕ) (reply : List ℕ) → any_pending ticket ledger.taken ≡ false →
    completed ledger ticket reply ≡ ledger
completed-none ledger ticket reply none = go (is_kept_reply reply)
  where
    go : (kept : Bool) → (if kept then with_completed ticket reply ledger else ledger) ≡ ledger
    go true = ap (λ taken. let l : LedgerState = record ledger { taken = taken } in l)
        (completed_taken ticket reply ledger.taken none)
    go false = refl

-- a pending command stays if another is settled, or if another ticket is completed
pub settled-keeps : (ledger : LedgerState) (by number : ℕ) (reply : List ℕ) (originator : ℕ) (slot : SlotState) →
    slot_of originator ledger.taken ≡ Some slot → is_pending slot ≡ true →
    slot_of originator (settled ledger by number reply).taken ≡ Some slot
settled-keeps ledger by number reply originator slot found is_waiting = go (can_settle ledger by number reply) refl
  where
    new : SlotState
    new = record { originator = by; number = number; reply = Some reply; ticket = None }

    other : is_in_doubt ledger by number ≡ true → by ≡ originator → ⊥
    other doubt same =
        let ended = doubted_waits number (slot_of by ledger.taken) doubt in
        let own : waits (slot_of by ledger.taken) ≡ Some (is_pending slot)
        = ap (λ o. waits (slot_of o ledger.taken)) same ∙ ap waits found in
        not_both (is_pending slot) is_waiting (ap (λ o. unwrap_or o true) (sym own ∙ ended))

    go : (can : Bool) → can_settle ledger by number reply ≡ can →
        slot_of originator (if can then with_last by number (Some reply) ledger else ledger).taken ≡ Some slot
    go false is = found
    go true is =
        slot_of-with_other ledger.taken new originator
        (other (and_parts (is_kept_reply reply) (is_in_doubt ledger by number) is).1)
        ∙ found

pub completed-keeps : (ledger : LedgerState) (other : ℕ) (reply : List ℕ) (originator ticket : ℕ) (slot : SlotState) →
    slot_of originator ledger.taken ≡ Some slot → slot.reply ≡ None → slot.ticket ≡ Some ticket →
    ticket ≢ other → slot_of originator (completed ledger other reply).taken ≡ Some slot
completed-keeps ledger other reply originator ticket slot found none own apart =
    slot_of-after ledger other reply originator
    ∙ ap (option_map (completed_if other reply)) found
    ∙ ap (λ s. Some s) (same (is_kept_reply reply))
  where
    same : (kept : Bool) → (if kept then completed_slot other reply slot else slot) ≡ slot
    same true =
        ap (λ pending. if pending then done_with reply slot else slot)
        (pending-is slot ticket other none own ∙ ne_eqb ticket other apart)
    same false = refl

-- ---- one request

module _ {M : Type 0} (after : M → ℕ → List ℕ → M) (answer : M → ℕ → List ℕ → List ℕ) where
  same_executed : (a b : Command) (given reply : List ℕ) →
      ◌≡◌ {A = List Event} (Executed a given ∷ []) (Executed b reply ∷ []) → a ≡ b
  same_executed a b given reply e = cc

  executed-by : (f : Fate) (node : LedgerRouter M) (request : Request) (command : Command) (reply : List ℕ)
      (slot : SlotState) → Means node.ledger request f →
      events_by after answer f node.router ++ [] ≡ Executed command reply ∷ [] →
      slot_in command.originator node.ledger ≡ Some slot → is_pending slot ≡ false
  executed-by Passed node request command reply slot means is found = absurd (cc)
  executed-by (Served service (Replies given)) node request command reply slot means is found = absurd (cc)
  executed-by (Served service (Executes own)) node request command reply slot means is found =
      let same = same_executed own command (embedded_reply after answer node.router own.request) reply is in
      ended_in node.ledger means.state command.originator slot means.ledger_is
      (subst (λ (c : Command). HasEnded (slot_of c.originator means.state.taken)) same means.means.ended) found
  executed-by (Served service (Queues own ticket)) node request command reply slot means is found =
      let same = same_executed own command (embedded_reply after answer node.router own.request) reply is in
      ended_in node.ledger means.state command.originator slot means.ledger_is
      (subst (λ (c : Command). HasEnded (slot_of c.originator means.state.taken)) same means.means.ended) found
  executed-by (Served service (Frees freed)) node request command reply slot means is found = absurd (cc)

  -- a slot whose command is pending stays
  pub stays-by : (f : Fate) (node : LedgerRouter M) (request : Request) (originator : ℕ) (slot : SlotState) →
      Means node.ledger request f → slot_in originator node.ledger ≡ Some slot → is_pending slot ≡ true →
      slot_in originator (next_by after answer f node request).ledger ≡ Some slot
  stays-by Passed node request originator slot means found waits = found
  stays-by (Served service (Replies given)) node request originator slot means found waits = found
  stays-by (Served service (Executes command)) node request originator slot means found waits =
      taken-other node.ledger (slot_done command (embedded_reply after answer node.router command.request)) originator
      (λ same. not_both (is_pending slot) waits (ended_in node.ledger means.state originator slot means.ledger_is
      (subst (λ o. HasEnded (slot_of o means.state.taken)) same means.means.ended) found))
      ∙ found
  stays-by (Served service (Queues command ticket)) node request originator slot means found waits =
      taken-other node.ledger (slot_queued command ticket) originator
      (λ same. not_both (is_pending slot) waits (ended_in node.ledger means.state originator slot means.ledger_is
      (subst (λ o. HasEnded (slot_of o means.state.taken)) same means.means.ended) found))
      ∙ found
  stays-by (Served service (Frees freed)) node request originator slot means found waits =
      freed-other node.ledger freed originator
      (λ same. not_both (is_pending slot) waits (ended_found (Some means.means.slot) slot means.means.ended
      (sym means.means.found ∙ ap (λ o. slot_of o means.state.taken) same
      ∙ sym (ap (slot_in originator) means.ledger_is) ∙ found)))
      ∙ found

-- ---- a command that is not taken

refused_action : (ledger : LedgerState) (max_size : ℕ) (command : Command) (slot : SlotState) → slot.number < command.number →
    is_pending slot ≡ true → do_by_slot ledger max_size command (Some slot) ≡ refuses statuses.CommandPending
refused_action ledger max_size command slot greater waits =
    rw (le-ltb command.number slot.number (omega (arith, greater)), ne_eqb command.number slot.number (λ e. omega (arith, greater, e)), waits) refl

refused_command : (ledger : LedgerState) (max_size : ℕ) (command : Command) (slot : SlotState) → command.life ≡ ledger.life →
    slot_of command.originator ledger.taken ≡ Some slot → slot.number < command.number → is_pending slot ≡ true →
    do_command ledger max_size command ≡ refuses statuses.CommandPending
refused_command ledger max_size command slot life found greater waits =
    rw (eq-eqb command.life ledger.life life)
    (ap (do_by_slot ledger max_size command) found ∙ refused_action ledger max_size command slot greater waits)

module _ {M : Type 0} (standing : M → List ℕ → Standing) where
  refused_asked : (ledger : LedgerState) (router : M) (max_size : ℕ) (asked : Option LedgerRequest) (command : Command)
      (slot : SlotState) → command_by asked ≡ Some command → command.life ≡ ledger.life →
      slot_of command.originator ledger.taken ≡ Some slot → slot.number < command.number → is_pending slot ≡ true →
      fate_of standing ledger router max_size asked ≡ Served services.DO_ONCE (refuses statuses.CommandPending)
  refused_asked ledger router max_size asked command slot is life found greater waits =
      let gift = gives asked command is in
      let action : action_of ledger max_size gift.request ≡ refuses statuses.CommandPending
      = new_request ledger max_size gift.request gift.instance gift.service gift.size
      ∙ ap (do_command ledger max_size) gift.command_is
      ∙ refused_command ledger max_size command slot life found greater waits in
      ap (fate_of standing ledger router max_size) gift.asked_is
      ∙ ap (λ s. Served s (at_router standing router (action_of ledger max_size gift.request))) gift.service
      ∙ ap (λ a. Served services.DO_ONCE (at_router standing router a)) action

-- ---- over steps

-- a reply to another ticket, or one that no slot can keep
not_own : (slot : SlotState) (ticket : ℕ) (given : List ℕ) (kept own : Bool) (later : Option (List ℕ)) →
    (if kept && own then Some given else later) ≡ None →
    ((if kept then (if own then done_with given slot else slot) else slot) ≡ slot) × (later ≡ None)
not_own slot ticket given true true later e = absurd (cc)
not_own slot ticket given true false later e = (refl, e)
not_own slot ticket given false own later e = (refl, e)

completed_found : (ledger : Option LedgerState) (ticket : ℕ) (reply : List ℕ) (originator : ℕ) (slot : SlotState) →
    slot_in originator ledger ≡ Some slot →
    slot_in originator (option_map (λ l. completed l ticket reply) ledger) ≡ Some (completed_if ticket reply slot)
completed_found None ticket reply originator slot found = absurd (cc)
completed_found (Some ledger) ticket reply originator slot found =
    slot_of-after ledger ticket reply originator ∙ ap (option_map (completed_if ticket reply)) found

module _ {M : Type 0} (after : M → ℕ → List ℕ → M) (answer : M → ℕ → List ℕ → List ℕ)
    (standing : M → List ℕ → Standing) where
  pub executed-ends : (node : LedgerRouter M) (request : Request) (command : Command) (reply : List ℕ) (slot : SlotState) →
      journal after answer standing node (request ∷ []) ≡ Executed command reply ∷ [] →
      slot_in command.originator node.ledger ≡ Some slot → is_pending slot ≡ false
  executed-ends node request command reply slot =
      executed-by after answer (fate standing node.ledger node.router request.0 request.1) node request command reply slot
      (fate-means standing node.ledger node.router request)

  pub not-taken : (node : LedgerRouter M) (ledger : LedgerState) (request : Request) (command : Command)
      (number ticket : ℕ) →
      node.ledger ≡ Some ledger → command_given request ≡ Some command → command.life ≡ ledger.life →
      IsPending ledger command.originator number ticket → number < command.number →
      turn_at after answer standing node request
      ≡ turn_of node.ledger node.router (reply_to services.DO_ONCE (refusal statuses.CommandPending))
  not-taken node ledger request command number ticket is given life pending greater =
      let smaller : pending.slot.number < command.number
      = subst (λ n. n < command.number) (sym pending.number_is) greater in
      let refused : fate standing node.ledger node.router request.0 request.1
      ≡ Served services.DO_ONCE (refuses statuses.CommandPending)
      = ap (λ o. fate standing o node.router request.0 request.1) is
      ∙ refused_asked standing ledger node.router request.0 (ledger_request request.1) command pending.slot given life
      pending.found smaller (waiting pending.slot ticket pending.no_reply pending.ticket_is) in
      ap (λ f. turn_by after answer f node.ledger node.router request.0 request.1) refused

  step-keeps : (step : Step M) (steps : List (Step M)) (node : LedgerRouter M) (originator ticket : ℕ) (slot : SlotState) →
      slot_in originator node.ledger ≡ Some slot → slot.reply ≡ None → slot.ticket ≡ Some ticket →
      result_in ticket (step ∷ steps) ≡ None → IsNotWithdrawn originator slot.number (step ∷ steps) →
      (slot_in originator (node_step after answer standing node step).ledger ≡ Some slot) × (result_in ticket steps ≡ None)
      × IsNotWithdrawn originator slot.number steps
  step-keeps (Asks request) steps node originator ticket slot found none own later kept = (
    stays-by after answer (fate standing node.ledger node.router request.0 request.1) node request originator slot
        (fate-means standing node.ledger node.router request) found (waiting slot ticket none own),
    later,
    kept,
  )
  step-keeps (Changes router) steps node originator ticket slot found none own later kept = (found, later, kept)
  step-keeps (Withdraws by number router) steps node originator ticket slot found none own later kept =
      (withdrawn-keeps node.ledger by number originator slot found (waiting slot ticket none own) kept.0, later, kept.1)
  step-keeps (Completes other given router) steps node originator ticket slot found none own later kept =
      let parts = not_own slot ticket given (is_kept_reply given) (ticket == other) (result_in ticket steps) later in
      let same : completed_if other given slot ≡ slot
      = ap (λ pending. if is_kept_reply given then (if pending then done_with given slot else slot) else slot)
      (pending-is slot ticket other none own) ∙ parts.0 in
      (completed_found node.ledger other given originator slot found ∙ ap (λ s. Some s) same, parts.1, kept)

  pub keeps-slot : (node : LedgerRouter M) (steps : List (Step M)) (originator ticket : ℕ) (slot : SlotState) →
      slot_in originator node.ledger ≡ Some slot → slot.reply ≡ None → slot.ticket ≡ Some ticket →
      result_in ticket steps ≡ None → IsNotWithdrawn originator slot.number steps →
      slot_in originator (node_after_steps after answer standing node steps).ledger ≡ Some slot
  keeps-slot node [] originator ticket slot found none own later kept = found
  keeps-slot node (step ∷ steps) originator ticket slot found none own later kept =
      let parts = step-keeps step steps node originator ticket slot found none own later kept in
      keeps-slot (node_step after answer standing node step) steps originator ticket slot parts.0 none own parts.1 parts.2
