-- A slot once a command was answered with success, over every list of requests.
use Rattle.std.proofs.Common.{◌≡◌, ◌≢◌, ◌⊎◌, inl, inr, ℕ, ◌<◌, ◌==◌, Bool, true, false, if◌then◌else◌, Option, Some, None, unwrap_or, List, [], ◌∷◌, ◌++◌, refl, ap, sym, ◌∙◌, subst, arith}
use Rattle.std.specs.Prelude.{option_map}
use Rattle.std.specs.List.{AllByRecursion}
use Rattle.std.proofs.lemmas.Bool.{eqb-true, eqb-false}
use Rattle.cip_ledger.specs.declared.router.LedgerRouter.{LedgerRouter}
use Rattle.cip_ledger.specs.Ledger.{LedgerState, SlotState, slot_of, without_slot, is_pending}
use Rattle.cip_ledger.specs.Requests.{is_barred}
use Rattle.cip_message.specs.LedgerCommand.{Command}
use Rattle.cip_ledger.specs.declared.target.Standing.{Standing}
use Rattle.cip_ledger.specs.Services.{Replies, Executes, Queues, Frees, last_content, KEPT_LIMIT, DONE, PENDING}
use Rattle.cip_ledger.specs.Turn.{Fate, Passed, Served, fate, turn_by, with_taken, with_freed, slot_done, slot_queued, embedded_reply}
use Rattle.cip_ledger.specs.Runs.{Request, slot_in, forgotten, Event, Executed, Freed}
use Rattle.cip_ledger.specs.Runs.{node_of, next, node_after, events_by, journal, reached_by, reached, router_after}
use Rattle.cip_ledger.specs.Laws.{UntilFreed, Rises, IsNotFreed, IsOfAnother, IsForgotten, AreOfLife}
use Rattle.cip_ledger.proofs.SlotLemmas.{slot_of-with_slot, slot_of-with_other, slot_of-without_slot, slot_of-without_other}
use Rattle.cip_ledger.proofs.Fates.{IsNewAt, Means, fate-means}

-- the slot has this number and is so, or it has a greater number
abbrev pub Held : ℕ → (SlotState → Type 0) → Option SlotState → Type 0
Held number Is None = ⊥
Held number Is (Some slot) = ((slot.number ≡ number) × Is slot) ⊎ (number < slot.number)

-- the slot has this number, and its command is answered by these data, or it has a greater number
abbrev pub Settled : ℕ → List ℕ → Option SlotState → Type 0
Settled number content = Held number (λ slot. last_content slot ≡ content)

-- a number that is new there is greater
newer_held : (slot : Option SlotState) (number newer : ℕ) (Is : SlotState → Type 0) → Held number Is slot → IsNewAt slot newer → number < newer
newer_held None number newer Is held is = absurd held
newer_held (Some slot) number newer Is (inl same) is = let e = same.0 in omega (arith, e, is)
newer_held (Some slot) number newer Is (inr greater) is = omega (arith, greater, is)

pub newer_than : (slot : Option SlotState) (number newer : ℕ) (content : List ℕ) → Settled number content slot → IsNewAt slot newer → number < newer
newer_than slot number newer content settled is = newer_held slot number newer (λ s. last_content s ≡ content) settled is

-- the slot of an originator that got one, and that of another
pub taken-same : (ledger : LedgerState) (slot : SlotState) → slot_of slot.originator (with_taken slot ledger).taken ≡ Some slot
taken-same ledger slot = slot_of-with_slot ledger.taken slot

pub taken-other : (ledger : Option LedgerState) (slot : SlotState) (originator : ℕ) → slot.originator ≢ originator →
    slot_in originator (option_map (with_taken slot) ledger) ≡ slot_in originator ledger
taken-other None slot originator other = refl
taken-other (Some ledger) slot originator other = slot_of-with_other ledger.taken slot originator other

pub freed-other : (ledger : Option LedgerState) (freed originator : ℕ) → freed ≢ originator →
    slot_in originator (option_map (with_freed freed) ledger) ≡ slot_in originator ledger
freed-other None freed originator other = refl
freed-other (Some ledger) freed originator other = slot_of-without_other ledger.taken freed originator other

held-taken : (ledger : LedgerState) (slot : SlotState) (originator number : ℕ) (Is : SlotState → Type 0) →
    Held number Is (slot_of originator ledger.taken) → IsNewAt (slot_of slot.originator ledger.taken) slot.number →
    Held number Is (slot_of originator (with_taken slot ledger).taken)
held-taken ledger slot originator number Is held newer = go (slot.originator == originator) refl
  where
    go : (is : Bool) → (slot.originator == originator) ≡ is →
        Held number Is (slot_of originator (with_taken slot ledger).taken)
    go true h =
        let same = eqb-true slot.originator originator h in
        let held_at : Held number Is (slot_of slot.originator ledger.taken)
        = subst (λ o. Held number Is (slot_of o ledger.taken)) (sym same) held in
        let greater = newer_held (slot_of slot.originator ledger.taken) number slot.number Is held_at newer in
        let found : slot_of originator (with_taken slot ledger).taken ≡ Some slot
        = ap (λ o. slot_of o (with_taken slot ledger).taken) (sym same) ∙ taken-same ledger slot in
        subst (Held number Is) (sym found) (inr greater)
    go false h =
        subst (Held number Is)
        (sym (taken-other (Some ledger) slot originator (eqb-false slot.originator originator h))) held

-- the slot of a command that a ledger has taken
pub found-new : (ledger : Option LedgerState) (state : LedgerState) (slot : SlotState) → ledger ≡ Some state →
    slot_in slot.originator (option_map (with_taken slot) ledger) ≡ Some slot
found-new ledger state slot is =
    subst (λ l. slot_in slot.originator (option_map (with_taken slot) l) ≡ Some slot) (sym is) (taken-same state slot)

settled-new : (ledger : Option LedgerState) (state : LedgerState) (slot : SlotState) → ledger ≡ Some state →
    Settled slot.number (last_content slot) (slot_in slot.originator (option_map (with_taken slot) ledger))
settled-new ledger state slot is =
    subst (Settled slot.number (last_content slot)) (sym (found-new ledger state slot is)) (inl (refl, refl))

module _ {M : Type 0} (after : M → ℕ → List ℕ → M) (answer : M → ℕ → List ℕ → List ℕ) where
  abbrev pub next_by : Fate → LedgerRouter M → Request → LedgerRouter M
  next_by f node request = node_of (turn_by after answer f node.ledger node.router request.0 request.1)

  -- a command that is taken leaves held what is
  held-by_taken : (ledger : Option LedgerState) (state : LedgerState) (slot : SlotState) (originator number : ℕ)
      (Is : SlotState → Type 0) → ledger ≡ Some state → Held number Is (slot_in originator ledger) →
      IsNewAt (slot_of slot.originator state.taken) slot.number →
      Held number Is (slot_in originator (option_map (with_taken slot) ledger))
  held-by_taken ledger state slot originator number Is is held newer =
      let held_in = subst (λ l. Held number Is (slot_in originator l)) is held in
      subst (λ l. Held number Is (slot_in originator (option_map (with_taken slot) l))) (sym is)
      (held-taken state slot originator number Is held_in newer)

  -- one request leaves it held, unless it frees the slot
  pub held-by : (f : Fate) (node : LedgerRouter M) (request : Request) (originator number : ℕ) (Is : SlotState → Type 0) →
      Means node.ledger request f → Held number Is (slot_in originator node.ledger) →
      IsNotFreed originator (events_by after answer f node.router) →
      Held number Is (slot_in originator (next_by f node request).ledger)
  held-by Passed node request originator number Is means held kept = held
  held-by (Served service (Replies given)) node request originator number Is means held kept = held
  held-by (Served service (Executes command)) node request originator number Is means held kept =
      held-by_taken node.ledger means.state (slot_done command (embedded_reply after answer node.router command.request))
      originator number Is means.ledger_is held means.means.newer
  held-by (Served service (Queues command ticket)) node request originator number Is means held kept =
      held-by_taken node.ledger means.state (slot_queued command ticket) originator number Is means.ledger_is held
      means.means.newer
  held-by (Served service (Frees freed)) node request originator number Is means held kept =
      subst (Held number Is) (sym (freed-other node.ledger freed originator kept.0)) held

  pub settled-by : (f : Fate) (node : LedgerRouter M) (request : Request) (originator number : ℕ) (content : List ℕ) →
      Means node.ledger request f → Settled number content (slot_in originator node.ledger) →
      IsNotFreed originator (events_by after answer f node.router) →
      Settled number content (slot_in originator (next_by f node request).ledger)
  settled-by f node request originator number content means settled kept =
      held-by f node request originator number (λ slot. last_content slot ≡ content) means settled kept

  pub not_freed-left : (events later : List Event) (originator : ℕ) → IsNotFreed originator (events ++ later) → IsNotFreed originator events
  not_freed-left [] later originator kept = tt
  not_freed-left (Executed command reply ∷ events) later originator kept = not_freed-left events later originator kept
  not_freed-left (Freed freed ∷ events) later originator kept = (kept.0, not_freed-left events later originator kept.1)

  pub not_freed-right : (events later : List Event) (originator : ℕ) → IsNotFreed originator (events ++ later) → IsNotFreed originator later
  not_freed-right [] later originator kept = kept
  not_freed-right (Executed command reply ∷ events) later originator kept = not_freed-right events later originator kept
  not_freed-right (Freed freed ∷ events) later originator kept = not_freed-right events later originator kept.1

  -- what is executed of an originator is greater than what is settled
  abbrev IsAbove : ℕ → ℕ → List Event → Type 0
  IsAbove originator number events = UntilFreed originator (λ command. number < command.number) events

  newer-by : (node : LedgerRouter M) (state : LedgerState) (command : Command) (originator number : ℕ) (content : List ℕ) →
      node.ledger ≡ Some state → Settled number content (slot_in originator node.ledger) →
      IsNewAt (slot_of command.originator state.taken) command.number → command.originator ≡ originator →
      number < command.number
  newer-by node state command originator number content is settled newer same =
      newer_than (slot_of command.originator state.taken) number command.number content
      (subst (λ l. Settled number content (slot_in command.originator l)) is
      (subst (λ o. Settled number content (slot_in o node.ledger)) (sym same) settled)) newer

  above-by : (f : Fate) (node : LedgerRouter M) (request : Request) (later : List Event) (originator number : ℕ) (content : List ℕ) →
      Means node.ledger request f → Settled number content (slot_in originator node.ledger) →
      (Settled number content (slot_in originator (next_by f node request).ledger) → IsAbove originator number later) →
      IsAbove originator number (events_by after answer f node.router ++ later)
  above-by Passed node request later originator number content means settled above = above settled
  above-by (Served service (Replies given)) node request later originator number content means settled above = above settled
  above-by (Served service (Executes command)) node request later originator number content means settled above = (
    newer-by node means.state command originator number content means.ledger_is settled means.means.newer,
    above (settled-by (Served service (Executes command)) node request originator number content means settled tt),
  )
  above-by (Served service (Queues command ticket)) node request later originator number content means settled above = (
    newer-by node means.state command originator number content means.ledger_is settled means.means.newer,
    above (settled-by (Served service (Queues command ticket)) node request originator number content means settled tt),
  )
  above-by (Served service (Frees freed)) node request later originator number content means settled above = λ other.
      above (settled-by (Served service (Frees freed)) node request originator number content means settled (other, tt))

  -- the slot of an executed command is settled, and that of a queued one
  pub settled-command : (node : LedgerRouter M) (request : Request) (service : ℕ) (command : Command) →
      Means node.ledger request (Served service (Executes command)) →
      Settled command.number (DONE ∷ embedded_reply after answer node.router command.request)
      (slot_in command.originator (next_by (Served service (Executes command)) node request).ledger)
  settled-command node request service command means =
      settled-new node.ledger means.state (slot_done command (embedded_reply after answer node.router command.request))
      means.ledger_is

  pub settled-queued : (node : LedgerRouter M) (request : Request) (service : ℕ) (command : Command) (ticket : ℕ) →
      Means node.ledger request (Served service (Queues command ticket)) →
      Settled command.number (PENDING ∷ [])
      (slot_in command.originator (next_by (Served service (Queues command ticket)) node request).ledger)
  settled-queued node request service command ticket means =
      settled-new node.ledger means.state (slot_queued command ticket) means.ledger_is

  -- the router as if it alone had executed what reached it
  embedded-reached : (barred : Bool) (router : M) (request : List ℕ) (rest : List Request) →
      router_after after answer (if barred then router else after router KEPT_LIMIT request) rest
      ≡ router_after after answer router ((if barred then [] else (KEPT_LIMIT, request) ∷ []) ++ rest)
  embedded-reached true router request rest = refl
  embedded-reached false router request rest = refl

  pub reached-by : (f : Fate) (node : LedgerRouter M) (request : Request) (rest : List Request) →
      router_after after answer (next_by f node request).router rest
      ≡ router_after after answer node.router (reached_by after answer f request ++ rest)
  reached-by Passed node request rest = refl
  reached-by (Served service (Replies given)) node request rest = refl
  reached-by (Served service (Executes command)) node request rest =
      embedded-reached (is_barred command.request) node.router command.request rest
  reached-by (Served service (Queues command ticket)) node request rest =
      embedded-reached (is_barred command.request) node.router command.request rest
  reached-by (Served service (Frees freed)) node request rest = refl

  -- an originator's slot under the requests of others
  others-by : (f : Fate) (node : LedgerRouter M) (request : Request) (originator : ℕ) → Means node.ledger request f →
      IsOfAnother originator request →
      slot_in originator (next_by f node request).ledger ≡ slot_in originator node.ledger
  others-by Passed node request originator means other = refl
  others-by (Served service (Replies given)) node request originator means other = refl
  others-by (Served service (Executes command)) node request originator means other =
      taken-other node.ledger (slot_done command (embedded_reply after answer node.router command.request)) originator
      (λ same. other.command (ap (option_map (λ (c : Command). c.originator)) means.means.given_is ∙ ap (λ o. Some o) same))
  others-by (Served service (Queues command ticket)) node request originator means other =
      taken-other node.ledger (slot_queued command ticket) originator
      (λ same. other.command (ap (option_map (λ (c : Command). c.originator)) means.means.given_is ∙ ap (λ o. Some o) same))
  others-by (Served service (Frees freed)) node request originator means other =
      freed-other node.ledger freed originator (λ same. other.forget means.means.slot.number (means.means.named_is ∙ ap (λ o. Some (o, means.means.slot.number)) same))

  -- the ledger stays, and its life
  own_life : (ledger : Option LedgerState) (state : LedgerState) (life : ℕ) → ledger ≡ Some state →
      option_map (λ (l : LedgerState). l.life) ledger ≡ Some life → state.life ≡ life
  own_life ledger state life ledger_is is =
      let own : ◌≡◌ {A = Option ℕ} (Some state.life) (Some life)
      = ap (option_map (λ (l : LedgerState). l.life)) (sym ledger_is) ∙ is in
      ap (λ o. unwrap_or o life) own

  life-by : (f : Fate) (node : LedgerRouter M) (request : Request) (life : ℕ) (later : List Event) → Means node.ledger request f →
      option_map (λ (l : LedgerState). l.life) node.ledger ≡ Some life → AreOfLife life later →
      AreOfLife life (events_by after answer f node.router ++ later)
  life-by Passed node request life later means is all = all
  life-by (Served service (Replies given)) node request life later means is all = all
  life-by (Served service (Executes command)) node request life later means is all =
      (means.means.life ∙ own_life node.ledger means.state life means.ledger_is is, all)
  life-by (Served service (Queues command ticket)) node request life later means is all =
      (means.means.life ∙ own_life node.ledger means.state life means.ledger_is is, all)
  life-by (Served service (Frees freed)) node request life later means is all = all

  same_life : (l : Option LedgerState) (change : LedgerState → LedgerState) → ((x : LedgerState) → (change x).life ≡ x.life) →
      option_map (λ (l : LedgerState). l.life) (option_map change l) ≡ option_map (λ (l : LedgerState). l.life) l
  same_life None change same = refl
  same_life (Some l) change same = ap (λ n. Some n) (same l)

  life-next : (f : Fate) (node : LedgerRouter M) (request : Request) →
      option_map (λ (l : LedgerState). l.life) (next_by f node request).ledger ≡ option_map (λ (l : LedgerState). l.life) node.ledger
  life-next Passed node request = refl
  life-next (Served service (Replies given)) node request = refl
  life-next (Served service (Executes command)) node request =
      same_life node.ledger (with_taken (slot_done command (embedded_reply after answer node.router command.request))) (λ x. refl)
  life-next (Served service (Queues command ticket)) node request =
      same_life node.ledger (with_taken (slot_queued command ticket)) (λ x. refl)
  life-next (Served service (Frees freed)) node request = same_life node.ledger (with_freed freed) (λ x. refl)

  -- a slot is freed by Forget with its number alone
  no_event : (command : Command) (reply : List ℕ) (originator : ℕ) → ◌≡◌ {A = List Event} (Executed command reply ∷ []) (Freed originator ∷ []) → ⊥
  no_event command reply originator e = absurd (cc)

  same_freed : (a b : ℕ) → ◌≡◌ {A = List Event} (Freed a ∷ []) (Freed b ∷ []) → a ≡ b
  same_freed a b e = cc

  frees-by : (f : Fate) (node : LedgerRouter M) (request : Request) (originator : ℕ) → Means node.ledger request f →
      events_by after answer f node.router ++ [] ≡ Freed originator ∷ [] →
      (slot : SlotState) × (slot_in originator node.ledger ≡ Some slot) × (forgotten request ≡ Some (originator, slot.number))
      × (is_pending slot ≡ false) × (slot_in originator (next_by f node request).ledger ≡ None)
  frees-by Passed node request originator means is = absurd (cc)
  frees-by (Served service (Replies reply)) node request originator means is = absurd (cc)
  frees-by (Served service (Executes command)) node request originator means is =
      absurd (no_event command (embedded_reply after answer node.router command.request) originator is)
  frees-by (Served service (Queues command ticket)) node request originator means is =
      absurd (no_event command (embedded_reply after answer node.router command.request) originator is)
  frees-by (Served service (Frees freed)) node request originator means is =
      let same = same_freed freed originator is in
      let slot = means.means.slot in (
        slot,
        subst (λ l. slot_in originator l ≡ Some slot) (sym means.ledger_is)
            (subst (λ o. slot_of o means.state.taken ≡ Some slot) same means.means.found),
        means.means.named_is ∙ ap (λ o. Some (o, slot.number)) same,
        means.means.ended,
        subst (λ l. slot_in originator (option_map (with_freed freed) l) ≡ None) (sym means.ledger_is)
            (subst (λ o. slot_of o (without_slot freed means.state.taken) ≡ None) same (slot_of-without_slot means.state.taken freed)),
      )

module _ {M : Type 0} (after : M → ℕ → List ℕ → M) (answer : M → ℕ → List ℕ → List ℕ)
    (standing : M → List ℕ → Standing) where
  pub settled-run : (requests : List Request) (node : LedgerRouter M) (originator number : ℕ) (content : List ℕ) →
      Settled number content (slot_in originator node.ledger) → IsNotFreed originator (journal after answer standing node requests) →
      Settled number content (slot_in originator (node_after after answer standing node requests).ledger)
  settled-run [] node originator number content settled kept = settled
  settled-run (request ∷ requests) node originator number content settled kept =
      let f = fate standing node.ledger node.router request.0 request.1 in
      let later = journal after answer standing (next after answer standing node request) requests in
      settled-run requests (next after answer standing node request) originator number content
      (settled-by after answer f node request originator number content (fate-means standing node.ledger node.router request) settled
      (not_freed-left after answer (events_by after answer f node.router) later originator kept))
      (not_freed-right after answer (events_by after answer f node.router) later originator kept)

  pub journal-above : (requests : List Request) (node : LedgerRouter M) (originator number : ℕ) (content : List ℕ) →
      Settled number content (slot_in originator node.ledger) →
      IsAbove after answer originator number (journal after answer standing node requests)
  journal-above [] node originator number content settled = tt
  journal-above (request ∷ requests) node originator number content settled =
      above-by after answer (fate standing node.ledger node.router request.0 request.1) node request
      (journal after answer standing (next after answer standing node request) requests) originator number content
      (fate-means standing node.ledger node.router request) settled
      (λ settled_then. journal-above requests (next after answer standing node request) originator number content settled_then)

  -- numbers rise
  rises-by : (f : Fate) (node : LedgerRouter M) (request : Request) (requests : List Request) → Means node.ledger request f →
      Rises (journal after answer standing (next_by after answer f node request) requests) →
      Rises (events_by after answer f node.router ++ journal after answer standing (next_by after answer f node request) requests)
  rises-by Passed node request requests means later = later
  rises-by (Served service (Replies given)) node request requests means later = later
  rises-by (Served service (Executes command)) node request requests means later = (
    journal-above requests (next_by after answer (Served service (Executes command)) node request) command.originator
        command.number (DONE ∷ embedded_reply after answer node.router command.request)
        (settled-command after answer node request service command means),
    later,
  )
  rises-by (Served service (Queues command ticket)) node request requests means later = (
    journal-above requests (next_by after answer (Served service (Queues command ticket)) node request) command.originator
        command.number (PENDING ∷ []) (settled-queued after answer node request service command ticket means),
    later,
  )
  rises-by (Served service (Frees freed)) node request requests means later = later

  pub journal-rises : (requests : List Request) (node : LedgerRouter M) → Rises (journal after answer standing node requests)
  journal-rises [] node = tt
  journal-rises (request ∷ requests) node =
      rises-by (fate standing node.ledger node.router request.0 request.1) node request requests (fate-means standing node.ledger node.router request)
      (journal-rises requests (next after answer standing node request))

  pub router-reached : (requests : List Request) (node : LedgerRouter M) →
      (node_after after answer standing node requests).router ≡ router_after after answer node.router (reached after answer standing node requests)
  router-reached [] node = refl
  router-reached (request ∷ requests) node =
      router-reached requests (next after answer standing node request)
      ∙ reached-by after answer (fate standing node.ledger node.router request.0 request.1) node request (reached after answer standing (next after answer standing node request) requests)

  pub others-run : (requests : List Request) (node : LedgerRouter M) (originator : ℕ) → AllByRecursion (IsOfAnother originator) requests →
      slot_in originator (node_after after answer standing node requests).ledger ≡ slot_in originator node.ledger
  others-run [] node originator others = refl
  others-run (request ∷ requests) node originator others =
      others-run requests (next after answer standing node request) originator others.1
      ∙ others-by after answer (fate standing node.ledger node.router request.0 request.1) node request originator (fate-means standing node.ledger node.router request) others.0

  pub journal-life : (requests : List Request) (node : LedgerRouter M) (life : ℕ) →
      option_map (λ (l : LedgerState). l.life) node.ledger ≡ Some life → AreOfLife life (journal after answer standing node requests)
  journal-life [] node life is = tt
  journal-life (request ∷ requests) node life is =
      life-by after answer (fate standing node.ledger node.router request.0 request.1) node request life (journal after answer standing (next after answer standing node request) requests)
      (fate-means standing node.ledger node.router request) is
      (journal-life requests (next after answer standing node request) life
      (life-next after answer (fate standing node.ledger node.router request.0 request.1) node request ∙ is))

  pub frees : (node : LedgerRouter M) (request : Request) (originator : ℕ) →
      journal after answer standing node (request ∷ []) ≡ Freed originator ∷ [] → IsForgotten after answer standing node request originator
  frees node request originator is =
      let parts = frees-by after answer (fate standing node.ledger node.router request.0 request.1) node request originator (fate-means standing node.ledger node.router request) is in
      record { slot = parts.0; found = parts.1; named = parts.2; ended = parts.3; free = parts.4 }
