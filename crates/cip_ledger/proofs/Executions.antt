-- Kept replies are those of executions, and new commands are executed.
use Rattle.std.proofs.Common.{◌≡◌, ◌≢◌, ◌⊎◌, inl, inr, ℕ, ◌+◌, ◌≤◌, ◌==◌, Bool, true, false, Option, Some, None, unwrap_or, List, [], ◌∷◌, ◌++◌, length, refl, ap, sym, ◌∙◌, subst, arith, append_assoc, append-nil}
use Rattle.std.specs.Prelude.{option_map}
use Rattle.std.proofs.lemmas.Bool.{eqb-true, eqb-false, lt-ltb, le-ltb, ne_eqb, eq-eqb}
use Rattle.cip_message.specs.Reply.{reply_service}
use Rattle.cip_message.specs.Router.{general_status}
use Rattle.cip_ledger.specs.declared.router.LedgerRouter.{LedgerRouter}
use Rattle.cip_message.specs.declared.ledger_services.TheConstants as services
use Rattle.cip_ledger.specs.declared.target.Standing.{Standing}
use Rattle.cip_ledger.specs.declared.target.Standing.TheVariants as standings
use Rattle.cip_ledger.specs.Status.{status_number}
use Rattle.cip_ledger.specs.Ledger.{LedgerState, SlotState, slot_of, empty_ledger, without_slot}
use Rattle.cip_ledger.specs.Requests.{LedgerRequest, command_of, ledger_request}
use Rattle.cip_message.specs.LedgerCommand.{Command}
use Rattle.cip_ledger.specs.Standings.{embedded_standing, by_standing, new_at_router, at_router}
use Rattle.cip_ledger.specs.Services.{Action, Replies, Executes, Queues, Frees, success, reply_to, DONE, PENDING, state_content, KEPT_LIMIT, HEAD_SIZE, do_command, do_by_slot, action_of}
use Rattle.cip_ledger.specs.Turn.{Fate, Passed, Served, fate, fate_of, turn_by, acted, with_taken, with_freed, slot_done, slot_queued, embedded_reply}
use Rattle.cip_ledger.specs.Runs.{Request, slot_in, command_by, command_given, Event, Executed, Freed}
use Rattle.cip_ledger.specs.Runs.{turn_at, answer_to, next, node_after, events_by, journal, StaysFinal}
use Rattle.cip_ledger.specs.Laws.{IsNotFreed, IsDone, IsOfExecution, Succeeds, IsNew, IsNewIn, Life, begun}
use Rattle.cip_ledger.proofs.SlotLemmas.{slot_of-without_slot}
use Rattle.cip_ledger.proofs.Fates.{Means, fate-means}
use Rattle.cip_ledger.proofs.Finals.{final-embedded, final-next}
use Rattle.cip_ledger.proofs.Settled.{next_by, taken-same, taken-other, freed-other}
use Rattle.cip_ledger.proofs.Answered.{gives, gives-unique, once_service, passed_none, none_some, spelled}

-- ---- what is done stays done

not_freed-append : (events later : List Event) (originator : ℕ) → IsNotFreed originator events → IsNotFreed originator later →
    IsNotFreed originator (events ++ later)
not_freed-append [] later originator kept then_kept = then_kept
not_freed-append (Executed command reply ∷ events) later originator kept then_kept = not_freed-append events later originator kept then_kept
not_freed-append (Freed freed ∷ events) later originator kept then_kept =
    (kept.0, not_freed-append events later originator kept.1 then_kept)

done-left : (events later : List Event) (originator number : ℕ) (reply : List ℕ) → IsDone originator number reply events →
    IsNotFreed originator later → IsDone originator number reply (events ++ later)
done-left [] later originator number reply is kept = absurd is
done-left (Executed command given ∷ events) later originator number reply (inl is) kept =
    inl (is.0, is.1, is.2, not_freed-append events later originator is.3 kept)
done-left (Executed command given ∷ events) later originator number reply (inr is) kept =
    inr (done-left events later originator number reply is kept)
done-left (Freed freed ∷ events) later originator number reply is kept = done-left events later originator number reply is kept

done-right : (events later : List Event) (originator number : ℕ) (reply : List ℕ) → IsDone originator number reply later →
    IsDone originator number reply (events ++ later)
done-right [] later originator number reply is = is
done-right (Executed command given ∷ events) later originator number reply is = inr (done-right events later originator number reply is)
done-right (Freed freed ∷ events) later originator number reply is = done-right events later originator number reply is

-- ---- what is kept is of an execution

-- A command that is done has the reply of its execution, one that is pending was executed, and none of them is in doubt or
-- withdrawn.
-- One is pending only if the router may queue commands.
abbrev IsDoneBy : Bool → ℕ → ℕ → Option (List ℕ) → Option ℕ → List Event → Type 0
IsDoneBy queues originator number (Some reply) None past = IsDone originator number reply past
IsDoneBy queues originator number (Some reply) (Some ticket) past = ⊥
IsDoneBy queues originator number None (Some ticket) past =
    (queues ≡ true) × (reply : List ℕ) × IsDone originator number reply past
IsDoneBy queues originator number None None past = ⊥

abbrev IsDoneAs : Bool → ℕ → SlotState → List Event → Type 0
IsDoneAs queues originator slot past = IsDoneBy queues originator slot.number slot.reply slot.ticket past

abbrev Covered : Bool → List Event → Option LedgerState → Type 0
Covered queues past ledger = (originator : ℕ) (slot : SlotState) → slot_in originator ledger ≡ Some slot →
    IsDoneAs queues originator slot past

with-left : (queues : Bool) (events later : List Event) (originator number : ℕ) (kept : Option (List ℕ)) (ticket : Option ℕ) →
    IsDoneBy queues originator number kept ticket events → IsNotFreed originator later →
    IsDoneBy queues originator number kept ticket (events ++ later)
with-left queues events later originator number (Some reply) None is kept = done-left events later originator number reply is kept
with-left queues events later originator number (Some reply) (Some ticket) is kept = absurd is
with-left queues events later originator number None (Some ticket) is kept =
    (is.0, is.1, done-left events later originator number is.1 is.2 kept)
with-left queues events later originator number None None is kept = absurd is

-- what an answer by a slot has of the execution
abbrev IsContentOf : Bool → List ℕ → List ℕ → Type 0
IsContentOf queues reply content = (content ≡ DONE ∷ reply) ⊎ ((content ≡ PENDING ∷ []) × (queues ≡ true))

done-kept : (queues : Bool) (originator number : ℕ) (kept : Option (List ℕ)) (ticket : Option ℕ) (past : List Event) →
    IsDoneBy queues originator number kept ticket past →
    (reply : List ℕ) × IsContentOf queues reply (state_content kept ticket) × IsDone originator number reply past
done-kept queues originator number (Some reply) None past is = (reply, inl refl, is)
done-kept queues originator number (Some reply) (Some ticket) past is = absurd is
done-kept queues originator number None (Some ticket) past is = (is.1, inr (refl, is.0), is.2)
done-kept queues originator number None None past is = absurd is

-- the router may queue the command of a request
abbrev MayQueue : Bool → Fate → Type 0
MayQueue queues Passed = Unit {0}
MayQueue queues (Served service (Replies reply)) = Unit {0}
MayQueue queues (Served service (Executes command)) = Unit {0}
MayQueue queues (Served service (Queues command ticket)) = queues ≡ true
MayQueue queues (Served service (Frees originator)) = Unit {0}

same_slot : (found : Option SlotState) (a b : SlotState) → found ≡ Some a → found ≡ Some b → a ≡ b
same_slot found a b is_a is_b = ap (λ o. unwrap_or o a) (sym is_a ∙ is_b)

no_slot : (found : Option SlotState) (slot : SlotState) → found ≡ None → found ≡ Some slot → ⊥
no_slot found slot none some = absurd (cc)

covered-taken : (queues : Bool) (past : List Event) (ledger : LedgerState) (slot : SlotState) (command : Command) (reply : List ℕ) →
    Covered queues past (Some ledger) → IsDoneAs queues slot.originator slot (past ++ Executed command reply ∷ []) →
    Covered queues (past ++ Executed command reply ∷ []) (Some (with_taken slot ledger))
covered-taken queues past ledger slot command reply covered done originator other at = go (slot.originator == originator) refl
  where
    go : (is : Bool) → (slot.originator == originator) ≡ is → IsDoneAs queues originator other (past ++ Executed command reply ∷ [])
    go true h =
        let same = eqb-true slot.originator originator h in
        let found : slot_of originator (with_taken slot ledger).taken ≡ Some slot
        = ap (λ o. slot_of o (with_taken slot ledger).taken) (sym same) ∙ taken-same ledger slot in
        let equal = same_slot _ slot other found at in
        subst (λ (s : SlotState). IsDoneAs queues originator s (past ++ Executed command reply ∷ [])) equal
        (subst (λ o. IsDoneAs queues o slot (past ++ Executed command reply ∷ [])) same done)
    go false h =
        with-left queues past (Executed command reply ∷ []) originator other.number other.reply other.ticket
        (covered originator other (sym (taken-other (Some ledger) slot originator (eqb-false slot.originator originator h)) ∙ at)) tt

covered-freed : (queues : Bool) (past : List Event) (ledger : LedgerState) (freed : ℕ) → Covered queues past (Some ledger) →
    Covered queues (past ++ Freed freed ∷ []) (Some (with_freed freed ledger))
covered-freed queues past ledger freed covered originator slot at = go (freed == originator) refl
  where
    go : (is : Bool) → (freed == originator) ≡ is → IsDoneAs queues originator slot (past ++ Freed freed ∷ [])
    go true h =
        let same = eqb-true freed originator h in
        let none : slot_of originator (without_slot freed ledger.taken) ≡ None
        = ap (λ o. slot_of o (without_slot freed ledger.taken)) (sym same) ∙ slot_of-without_slot ledger.taken freed in
        absurd (no_slot (slot_of originator (without_slot freed ledger.taken)) slot none at)
    go false h =
        let other = eqb-false freed originator h in
        with-left queues past (Freed freed ∷ []) originator slot.number slot.reply slot.ticket
        (covered originator slot (sym (freed-other (Some ledger) freed originator other) ∙ at)) (other, tt)

module _ {M : Type 0} (after : M → ℕ → List ℕ → M) (answer : M → ℕ → List ℕ → List ℕ) where
  covered-by : (queues : Bool) (f : Fate) (past : List Event) (node : LedgerRouter M) (request : Request) → Means node.ledger request f →
      MayQueue queues f → Covered queues past node.ledger →
      Covered queues (past ++ events_by after answer f node.router) (next_by after answer f node request).ledger
  covered-by queues Passed past node request means may covered =
      λ originator slot at. with-left queues past [] originator slot.number slot.reply slot.ticket (covered originator slot at) tt
  covered-by queues (Served service (Replies reply)) past node request means may covered =
      λ originator slot at. with-left queues past [] originator slot.number slot.reply slot.ticket (covered originator slot at) tt
  covered-by queues (Served service (Executes command)) past node request means may covered =
      let reply = embedded_reply after answer node.router command.request in
      let slot = slot_done command reply in
      subst (λ l. Covered queues (past ++ Executed command reply ∷ []) (option_map (with_taken slot) l)) (sym means.ledger_is)
      (covered-taken queues past means.state slot command reply (subst (λ l. Covered queues past l) means.ledger_is covered)
      (done-right past (Executed command reply ∷ []) command.originator command.number reply (inl (refl, refl, refl, tt))))
  covered-by queues (Served service (Queues command ticket)) past node request means may covered =
      let reply = embedded_reply after answer node.router command.request in
      let slot = slot_queued command ticket in
      subst (λ l. Covered queues (past ++ Executed command reply ∷ []) (option_map (with_taken slot) l)) (sym means.ledger_is)
      (covered-taken queues past means.state slot command reply (subst (λ l. Covered queues past l) means.ledger_is covered)
      (may, reply, done-right past (Executed command reply ∷ []) command.originator command.number reply (inl (refl, refl, refl, tt))))
  covered-by queues (Served service (Frees freed)) past node request means may covered =
      subst (λ l. Covered queues (past ++ Freed freed ∷ []) (option_map (with_freed freed) l)) (sym means.ledger_is)
      (covered-freed queues past means.state freed (subst (λ l. Covered queues past l) means.ledger_is covered))

  -- the reply of an answer is that of an execution
  abbrev IsGivenBy : Bool → List ℕ → List ℕ → Type 0
  IsGivenBy queues reply given =
      (given ≡ reply_to services.DO_ONCE (success (DONE ∷ reply)))
      ⊎ ((given ≡ reply_to services.DO_ONCE (success (PENDING ∷ []))) × (queues ≡ true))

  pub record IsAnswerOf (queues : Bool) (events : List Event) (given : List ℕ) (originator number : ℕ) : Type 0 where
    pub reply : List ℕ
    pub done_is : IsDone originator number reply events
    pub given_is : IsGivenBy queues reply given

  of_content : (queues : Bool) (service status : ℕ) (content reply : List ℕ) → service ≡ services.DO_ONCE → status ≡ 0 →
      IsContentOf queues reply content → IsGivenBy queues reply (reply_service service ∷ 0 ∷ status ∷ 0 ∷ content)
  of_content queues service status content reply once zero (inl is) =
      inl (spelled service services.DO_ONCE status content (DONE ∷ reply) once zero is)
  of_content queues service status content reply once zero (inr is) =
      inr (spelled service services.DO_ONCE status content (PENDING ∷ []) once zero is.0, is.1)

  -- of any router, and of one that queues nothing
  given_any : (queues : Bool) (reply given : List ℕ) → IsGivenBy queues reply given → IsOfExecution reply given
  given_any queues reply given (inl is) = inl is
  given_any queues reply given (inr is) = inr is.0

  given_unqueued : (reply given : List ℕ) → IsGivenBy false reply given →
      given ≡ reply_to services.DO_ONCE (success (DONE ∷ reply))
  given_unqueued reply given (inl is) = is
  given_unqueued reply given (inr is) = let never = is.1 in absurd (cc)

module _ {M : Type 0} (after : M → ℕ → List ℕ → M) (answer : M → ℕ → List ℕ → List ℕ)
    (standing : M → List ℕ → Standing) where
  module _ (node : LedgerRouter M) (request : Request) (originator number : ℕ)
      (is : Succeeds after answer standing node request originator number) where
    new-done : (past : List Event) (executed : Command) (reply : List ℕ) → executed ≡ is.command →
        IsDone originator number reply (past ++ Executed executed reply ∷ [])
    new-done past executed reply same =
        done-right past (Executed executed reply ∷ []) originator number reply
        (inl (ap (λ (c : Command). c.originator) same ∙ is.originator_is, ap (λ (c : Command). c.number) same ∙ is.number_is, refl, tt))

    last-by : (queues : Bool) (f : Fate) (past : List Event) → Means node.ledger request f → MayQueue queues f →
        Covered queues past node.ledger →
        general_status (turn_by after answer f node.ledger node.router request.0 request.1).answer ≡ 0 →
        IsAnswerOf after answer queues (past ++ events_by after answer f node.router)
        (turn_by after answer f node.ledger node.router request.0 request.1).answer originator number
    last-by queues Passed past means may covered status = absurd (passed_none node.ledger request is.command means is.has_ledger is.given)
    last-by queues (Served service (Replies replied)) past means may covered status =
        let kept = means.means.kept is.command is.given status in
        let found : slot_in originator node.ledger ≡ Some kept.slot
        = subst (λ l. slot_in originator l ≡ Some kept.slot) (sym means.ledger_is)
        (subst (λ o. slot_of o means.state.taken ≡ Some kept.slot) is.originator_is kept.found) in
        let parts = done-kept queues originator kept.slot.number kept.slot.reply kept.slot.ticket past (covered originator kept.slot found) in
        record {
          reply = parts.0;
          done_is = done-left past [] originator number parts.0
              (subst (λ n. IsDone originator n parts.0 past) (kept.number_is ∙ is.number_is) parts.2) tt;
          given_is = of_content after answer queues service (status_number replied.status) replied.content parts.0
              (once_service node.ledger request service (Replies replied) is.command means is.given) status
              (subst (IsContentOf queues parts.0) (sym kept.content_is) parts.1);
        }
    last-by queues (Served service (Executes executed)) past means may covered status =
        let reply = embedded_reply after answer node.router executed.request in
        record {
          reply = reply;
          done_is = new-done past executed reply (gives-unique (ledger_request request.1) executed is.command means.means.given_is is.given);
          given_is = inl (ap (λ x. reply_to x (success (DONE ∷ reply)))
              (once_service node.ledger request service (Executes executed) is.command means is.given));
        }
    last-by queues (Served service (Queues executed ticket)) past means may covered status =
        let reply = embedded_reply after answer node.router executed.request in
        record {
          reply = reply;
          done_is = new-done past executed reply (gives-unique (ledger_request request.1) executed is.command means.means.given_is is.given);
          given_is = inr (
            ap (λ x. reply_to x (success (PENDING ∷ [])))
                (once_service node.ledger request service (Queues executed ticket) is.command means is.given),
            may,
          );
        }
    last-by queues (Served service (Frees freed)) past means may covered status =
        absurd (none_some (command_given request) is.command means.means.no_command is.given)

  -- a router that queues nothing has no queued command
  none_queued : (router : M) (service : ℕ) (action : Action) → StaysFinal after answer standing router →
      MayQueue false (Served service (at_router standing router action))
  none_queued router service (Replies reply) final = tt
  none_queued router service (Executes command) final =
      subst (λ is. MayQueue false (Served service (by_standing is command)))
      (sym (final-embedded after answer standing router command.request final)) tt
  none_queued router service (Queues command ticket) final =
      subst (λ is. MayQueue false (Served service (by_standing is command)))
      (sym (final-embedded after answer standing router command.request final)) tt
  none_queued router service (Frees originator) final = tt

  none_asked : (ledger : LedgerState) (router : M) (max_size : ℕ) (asked : Option LedgerRequest) →
      StaysFinal after answer standing router → MayQueue false (fate_of standing ledger router max_size asked)
  none_asked ledger router max_size None final = tt
  none_asked ledger router max_size (Some asked) final =
      none_queued router asked.service (action_of ledger max_size asked) final

  none_by : (ledger : Option LedgerState) (router : M) (request : Request) → StaysFinal after answer standing router →
      MayQueue false (fate standing ledger router request.0 request.1)
  none_by None router request final = tt
  none_by (Some ledger) router request final = none_asked ledger router request.0 (ledger_request request.1) final

  any_may : (f : Fate) → MayQueue true f
  any_may Passed = tt
  any_may (Served service (Replies reply)) = tt
  any_may (Served service (Executes command)) = tt
  any_may (Served service (Queues command ticket)) = refl
  any_may (Served service (Frees originator)) = tt

  may_queue : (queues : Bool) (node : LedgerRouter M) (request : Request) →
      (queues ≡ false → StaysFinal after answer standing node.router) →
      MayQueue queues (fate standing node.ledger node.router request.0 request.1)
  may_queue true node request final = any_may (fate standing node.ledger node.router request.0 request.1)
  may_queue false node request final = none_by node.ledger node.router request (final refl)

  answer-run : (queues : Bool) (requests : List Request) (node : LedgerRouter M) (past : List Event) (request : Request)
      (originator number : ℕ) → (queues ≡ false → StaysFinal after answer standing node.router) →
      Covered queues past node.ledger →
      Succeeds after answer standing (node_after after answer standing node requests) request originator number →
      IsAnswerOf after answer queues (past ++ journal after answer standing node (requests ++ request ∷ []))
      (answer_to after answer standing (node_after after answer standing node requests) request) originator number
  answer-run queues [] node past request originator number final covered is =
      let f = fate standing node.ledger node.router request.0 request.1 in
      subst (λ events. IsAnswerOf after answer queues (past ++ events) (answer_to after answer standing node request) originator number)
      (sym (append-nil (events_by after answer f node.router)))
      (last-by node request originator number is queues f past (fate-means standing node.ledger node.router request)
      (may_queue queues node request final) covered is.status_is)
  answer-run queues (first ∷ requests) node past request originator number final covered is =
      let f = fate standing node.ledger node.router first.0 first.1 in
      let now = events_by after answer f node.router in
      let later = next after answer standing node first in
      subst (λ events. IsAnswerOf after answer queues events (answer_to after answer standing (node_after after answer standing later requests) request) originator number)
      (append_assoc past now (journal after answer standing later (requests ++ request ∷ [])))
      (answer-run queues requests later (past ++ now) request originator number
      (λ e. final-next after answer standing node first (final e))
      (covered-by after answer queues f past node first (fate-means standing node.ledger node.router first)
      (may_queue queues node first final) covered) is)

  none_covered : (queues : Bool) (slots life : ℕ) → Covered queues [] (Some (empty_ledger slots life))
  none_covered queues slots life originator slot at = absurd (cc)

  pub of-execution : (life : Life M) (request : Request) (originator number : ℕ) →
      Succeeds after answer standing (node_after after answer standing (begun life) life.requests) request originator number →
      (reply : List ℕ) × IsDone originator number reply (journal after answer standing (begun life) (life.requests ++ request ∷ []))
      × IsOfExecution reply (answer_to after answer standing (node_after after answer standing (begun life) life.requests) request)
  of-execution life request originator number is =
      let found = answer-run true life.requests (begun life) [] request originator number (λ e. absurd (cc)) (none_covered true life.slots life.number) is in
      (found.reply, found.done_is, given_any after answer true found.reply _ found.given_is)

  pub of-final_execution : (life : Life M) (request : Request) (originator number : ℕ) → StaysFinal after answer standing life.router →
      Succeeds after answer standing (node_after after answer standing (begun life) life.requests) request originator number →
      (reply : List ℕ) × IsDone originator number reply (journal after answer standing (begun life) (life.requests ++ request ∷ []))
      × (answer_to after answer standing (node_after after answer standing (begun life) life.requests) request ≡ reply_to services.DO_ONCE (success (DONE ∷ reply)))
  of-final_execution life request originator number final is =
      let found = answer-run false life.requests (begun life) [] request originator number (λ e. final) (none_covered false life.slots life.number) is in
      (found.reply, found.done_is, given_unqueued after answer found.reply _ found.given_is)

-- ---- a command that is new

new_action : (found : Option SlotState) (ledger : LedgerState) (max_size : ℕ) (command : Command) → IsNewIn ledger command.number found →
    HEAD_SIZE + 1 + KEPT_LIMIT ≤ max_size → do_by_slot ledger max_size command found ≡ Executes command
new_action None ledger max_size command new roomy =
    rw (lt-ltb _ _ new, le-ltb max_size (HEAD_SIZE + 1 + KEPT_LIMIT) roomy) refl
new_action (Some slot) ledger max_size command new roomy =
    let greater = new.0 in
    rw (le-ltb command.number slot.number (omega (arith, greater)), ne_eqb command.number slot.number (λ e. omega (arith, greater, e)), new.1, le-ltb max_size (HEAD_SIZE + 1 + KEPT_LIMIT) roomy) refl

new_command : (ledger : LedgerState) (max_size : ℕ) (command : Command) → IsNew ledger command → HEAD_SIZE + 1 + KEPT_LIMIT ≤ max_size →
    do_command ledger max_size command ≡ Executes command
new_command ledger max_size command new roomy =
    let own = new.life in
    rw (eq-eqb command.life ledger.life own) (new_action (slot_of command.originator ledger.taken) ledger max_size command new.number roomy)

pub new_request : (ledger : LedgerState) (max_size : ℕ) (request : LedgerRequest) → request.instance ≡ 1 → request.service ≡ services.DO_ONCE →
    22 ≤ length request.data → action_of ledger max_size request ≡ do_command ledger max_size (command_of request.data)
new_request ledger max_size request one once enough =
    rw (ne_eqb request.instance 0 (λ e. omega (arith, one, e)), eq-eqb request.instance 1 one, eq-eqb request.service services.DO_ONCE once, le-ltb (length request.data) 22 enough) refl

module _ {M : Type 0} (standing : M → List ℕ → Standing) (router : M) where
  executes_asked : (ledger : LedgerState) (max_size : ℕ) (asked : Option LedgerRequest) (command : Command) →
      command_by asked ≡ Some command → IsNew ledger command → HEAD_SIZE + 1 + KEPT_LIMIT ≤ max_size →
      fate_of standing ledger router max_size asked ≡ Served services.DO_ONCE (new_at_router standing router command)
  executes_asked ledger max_size asked command is new roomy =
      let gift = gives asked command is in
      let action : action_of ledger max_size gift.request ≡ Executes command
      = new_request ledger max_size gift.request gift.instance gift.service gift.size
      ∙ ap (do_command ledger max_size) gift.command_is
      ∙ new_command ledger max_size command new roomy in
      ap (fate_of standing ledger router max_size) gift.asked_is
      ∙ ap (λ s. Served s (at_router standing router (action_of ledger max_size gift.request))) gift.service
      ∙ ap (λ a. Served services.DO_ONCE (at_router standing router a)) action

  executes_fate : (l : Option LedgerState) (ledger : LedgerState) (request : Request) (command : Command) →
      l ≡ Some ledger → command_given request ≡ Some command → IsNew ledger command →
      HEAD_SIZE + 1 + KEPT_LIMIT ≤ request.0 →
      fate standing l router request.0 request.1 ≡ Served services.DO_ONCE (new_at_router standing router command)
  executes_fate l ledger request command ledger_is given new roomy =
      ap (λ o. fate standing o router request.0 request.1) ledger_is
      ∙ executes_asked ledger request.0 (ledger_request request.1) command given new roomy

module _ {M : Type 0} (after : M → ℕ → List ℕ → M) (answer : M → ℕ → List ℕ → List ℕ)
    (standing : M → List ℕ → Standing) where
  -- a command that the router takes is executed
  taken-event : (is : Standing) (command : Command) (router : M) → is ≢ standings.Refused →
      events_by after answer (Served services.DO_ONCE (by_standing is command)) router
      ≡ Executed command (embedded_reply after answer router command.request) ∷ []
  taken-event standings.Final command router taken = refl
  taken-event (standings.Pending ticket) command router taken = refl
  taken-event standings.Refused command router taken = absurd (taken refl)

  pub executes : (node : LedgerRouter M) (ledger : LedgerState) (request : Request) (command : Command) →
      node.ledger ≡ Some ledger → command_given request ≡ Some command → IsNew ledger command →
      HEAD_SIZE + 1 + KEPT_LIMIT ≤ request.0 →
      embedded_standing standing node.router command.request ≢ standings.Refused →
      journal after answer standing node (request ∷ [])
      ≡ Executed command (embedded_reply after answer node.router command.request) ∷ []
  executes node ledger request command ledger_is given new roomy taken =
      append-nil (events_by after answer (fate standing node.ledger node.router request.0 request.1) node.router)
      ∙ ap (λ f. events_by after answer f node.router)
      (executes_fate standing node.router node.ledger ledger request command ledger_is given new roomy)
      ∙ taken-event (embedded_standing standing node.router command.request) command node.router taken

  -- what becomes of a new command is what the router makes of it
  pub new-turn : (node : LedgerRouter M) (ledger : LedgerState) (request : Request) (command : Command) →
      node.ledger ≡ Some ledger → command_given request ≡ Some command → IsNew ledger command →
      HEAD_SIZE + 1 + KEPT_LIMIT ≤ request.0 →
      turn_at after answer standing node request
      ≡ acted after answer (new_at_router standing node.router command) services.DO_ONCE node.ledger node.router
  new-turn node ledger request command ledger_is given new roomy =
      ap (λ f. turn_by after answer f node.ledger node.router request.0 request.1)
      (executes_fate standing node.router node.ledger ledger request command ledger_is given new roomy)
