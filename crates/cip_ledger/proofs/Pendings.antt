-- Pending commands: their answers, and what completing them does.
use Rattle.std.proofs.Common.{◌≡◌, ◌≢◌, inl, inr, ℕ, ◌+◌, ◌≤◌, ◌<◌, ◌==◌, ◌&&◌, not, nat_lt, Bool, true, false, if◌then◌else◌, Option, Some, None, unwrap_or, List, [], ◌∷◌, length, refl, ap, sym, ◌∙◌, subst, arith}
use Rattle.std.specs.Prelude.{option_map, is_some}
use Rattle.std.proofs.lemmas.Bool.{eq-eqb, eqb-true, eqb-false, ltb-true, and_parts}
use Rattle.cip_ledger.specs.declared.router.LedgerRouter.{LedgerRouter}
use Rattle.cip_message.specs.declared.ledger_services.TheConstants as services
use Rattle.cip_ledger.specs.declared.target.Standing.{Standing}
use Rattle.cip_ledger.specs.declared.withdrawal.Withdrawal.{Withdrawal}
use Rattle.cip_ledger.specs.Doubt.{is_kept_reply}
use Rattle.cip_ledger.specs.DoubtLaws.{IsGiven}
use Rattle.cip_ledger.specs.Laws.{IsNotFreed, Succeeds}
use Rattle.cip_ledger.specs.Ledger.{LedgerState, SlotState, slot_of, is_pending, slot_withdrawn}
use Rattle.cip_ledger.specs.Pending.{has_ticket, is_pending_at, any_pending, done_with, completed_slot, can_complete, with_completed, completed}
use Rattle.cip_ledger.specs.PendingLaws.{IsPending, Step, Asks, Completes, Changes, Withdraws, completed_if, withdrawn_if, slot_after, result_in, IsNotWithdrawn, content_by, node_step, node_after_steps, journal_of_step, journal_of_steps, AreAnswersOf}
use Rattle.cip_message.specs.LedgerCommand.{Command}
use Rattle.cip_ledger.specs.Runs.{Request, slot_in, turn_at, next, events_by}
use Rattle.cip_ledger.specs.Services.{success, reply_to, state_content, last_content, DONE, PENDING, WITHDRAWN, HEAD_SIZE}
use Rattle.cip_ledger.specs.Turn.{fate, turn_of}
use Rattle.cip_ledger.specs.WithdrawLaws.{IsWithdrawn}
use Rattle.cip_ledger.specs.Withdrawing.{of_command, withdraw_by_slot, can_withdraw, with_withdrawn, withdrawn}
use Rattle.cip_ledger.proofs.CompletedSlots.{completed-number, none_pending, slot_of-completed}
use Rattle.cip_ledger.proofs.Fates.{fate-means}
use Rattle.cip_ledger.proofs.Settled.{Held, Settled, held-by, not_freed-left, not_freed-right}
use Rattle.cip_ledger.proofs.Answered.{settles, again-by}
use Rattle.cip_ledger.proofs.SlotLemmas.{slot_of-originator}
use Rattle.cip_ledger.proofs.Withdrawals.{withdrawn-own, withdrawn-other, can-place, withdrawn-content}
use Rattle.cip_ledger.proofs.Doubts.{and_false, by_number, repeat-at}

-- ---- completing

completed-kept : (ledger : LedgerState) (ticket : ℕ) (reply : List ℕ) → is_kept_reply reply ≡ true →
    completed ledger ticket reply ≡ with_completed ticket reply ledger
completed-kept ledger ticket reply kept = ap (λ is. if is then with_completed ticket reply ledger else ledger) kept

pub completed-once : (ledger : LedgerState) (ticket : ℕ) (reply other : List ℕ) → can_complete ledger ticket reply ≡ true →
    can_complete (completed ledger ticket reply) ticket other ≡ false
completed-once ledger ticket reply other can =
    let both = and_parts (is_kept_reply reply) (any_pending ticket ledger.taken) can in
    ap (λ (l : LedgerState). can_complete l ticket other) (completed-kept ledger ticket reply both.0)
    ∙ and_false (is_kept_reply other) (any_pending ticket (with_completed ticket reply ledger).taken)
    (none_pending ticket reply ledger.taken)

-- the slot of an originator
pub slot_of-after : (ledger : LedgerState) (ticket : ℕ) (reply : List ℕ) (originator : ℕ) →
    slot_of originator (completed ledger ticket reply).taken
    ≡ option_map (completed_if ticket reply) (slot_of originator ledger.taken)
slot_of-after ledger ticket reply originator = go (is_kept_reply reply)
  where
    same : (found : Option SlotState) → found ≡ option_map (λ slot. slot) found
    same None = refl
    same (Some slot) = refl

    go : (kept : Bool) →
        slot_of originator (if kept then with_completed ticket reply ledger else ledger).taken
        ≡ option_map (λ slot. if kept then completed_slot ticket reply slot else slot) (slot_of originator ledger.taken)
    go true = slot_of-completed ticket reply ledger.taken originator
    go false = same (slot_of originator ledger.taken)

number_if : (ticket : ℕ) (reply : List ℕ) (slot : SlotState) → (completed_if ticket reply slot).number ≡ slot.number
number_if ticket reply slot = go (is_kept_reply reply)
  where
    go : (kept : Bool) → (if kept then completed_slot ticket reply slot else slot).number ≡ slot.number
    go true = completed-number ticket reply slot
    go false = refl

number_mapped : (ticket : ℕ) (reply : List ℕ) (found : Option SlotState) →
    option_map (λ (slot : SlotState). slot.number) (option_map (completed_if ticket reply) found)
    ≡ option_map (λ (slot : SlotState). slot.number) found
number_mapped ticket reply None = refl
number_mapped ticket reply (Some slot) = ap (λ n. Some n) (number_if ticket reply slot)

pub completed-numbers : (ledger : LedgerState) (ticket : ℕ) (reply : List ℕ) (any : ℕ) →
    option_map (λ (slot : SlotState). slot.number) (slot_of any (completed ledger ticket reply).taken)
    ≡ option_map (λ (slot : SlotState). slot.number) (slot_of any ledger.taken)
completed-numbers ledger ticket reply any =
    ap (option_map (λ (slot : SlotState). slot.number)) (slot_of-after ledger ticket reply any)
    ∙ number_mapped ticket reply (slot_of any ledger.taken)

-- what was settled stays so if a command is completed
pub completed-stays : (ledger : LedgerState) (ticket : ℕ) (reply : List ℕ) (originator number : ℕ) (content : List ℕ) →
    Settled number content (slot_of originator ledger.taken) →
    (other : List ℕ) × Settled number other (slot_of originator (completed ledger ticket reply).taken)
completed-stays ledger ticket reply originator number content is =
    by_number number content (slot_of originator (completed ledger ticket reply).taken) (slot_of originator ledger.taken)
    (completed-numbers ledger ticket reply originator) is

-- ---- a pending command

pending-content : (slot : SlotState) (ticket : ℕ) → slot.reply ≡ None → slot.ticket ≡ Some ticket →
    last_content slot ≡ PENDING ∷ []
pending-content slot ticket none is =
    ap (λ kept. state_content kept slot.ticket) none ∙ ap (state_content None) is

-- its slot once a reply is given to a ticket
pub pending-is : (slot : SlotState) (ticket other : ℕ) → slot.reply ≡ None → slot.ticket ≡ Some ticket →
    is_pending_at other slot ≡ (ticket == other)
pending-is slot ticket other none is =
    ap (λ kept. not (is_some kept) && has_ticket other slot.ticket) none ∙ ap (has_ticket other) is

own_ticket : (slot : SlotState) (ticket : ℕ) (reply : List ℕ) → slot.reply ≡ None → slot.ticket ≡ Some ticket →
    completed_slot ticket reply slot ≡ done_with reply slot
own_ticket slot ticket reply none is =
    ap (λ pending. if pending then done_with reply slot else slot)
    (pending-is slot ticket ticket none is ∙ eq-eqb ticket ticket refl)

-- ---- over steps

not_done : (ticket : ℕ) (reply given : List ℕ) (slot : SlotState) → slot.reply ≡ Some reply →
    completed_if ticket given slot ≡ slot
not_done ticket reply given slot done =
    let other : is_pending_at ticket slot ≡ false
    = ap (λ kept. not (is_some kept) && has_ticket ticket slot.ticket) done in
    go (is_kept_reply given)
    (ap (λ pending. if pending then done_with given slot else slot) other)
  where
    go : (kept : Bool) → completed_slot ticket given slot ≡ slot → (if kept then completed_slot ticket given slot else slot) ≡ slot
    go true same = same
    go false same = refl

-- a command is not withdrawn if it is not pending, or if another number is
ended_if : (slot : SlotState) (reply : List ℕ) → slot.reply ≡ Some reply → is_pending slot ≡ false
ended_if slot reply done = ap (λ kept. not (is_some kept) && is_some slot.ticket) done

not_withdrawn : (originator number : ℕ) (slot : SlotState) → is_pending slot ≡ false → withdrawn_if originator number slot ≡ slot
not_withdrawn originator number slot ended =
    ap (λ waits. if waits && (slot.originator == originator) && (slot.number == number) then slot_withdrawn originator number else slot) ended

other_withdrawn : (originator number : ℕ) (slot : SlotState) → (originator ≡ slot.originator → number ≡ slot.number → ⊥) →
    withdrawn_if originator number slot ≡ slot
other_withdrawn originator number slot other =
    go (is_pending slot) (slot.originator == originator) (slot.number == number) refl refl
  where
    go : (waits own same : Bool) → (slot.originator == originator) ≡ own → (slot.number == number) ≡ same →
        (if waits && own && same then slot_withdrawn originator number else slot) ≡ slot
    go false own same h i = refl
    go true false same h i = refl
    go true true false h i = refl
    go true true true h i =
        absurd (other (sym (eqb-true slot.originator originator h)) (sym (eqb-true slot.number number i)))

module _ {M : Type 0} where
  pub done-stays : (slot : SlotState) (reply : List ℕ) (steps : List (Step M)) → slot.reply ≡ Some reply →
      slot_after slot steps ≡ slot
  done-stays slot reply [] done = refl
  done-stays slot reply (Asks request ∷ steps) done = done-stays slot reply steps done
  done-stays slot reply (Completes ticket given router ∷ steps) done =
      ap (λ s. slot_after s steps) (not_done ticket reply given slot done) ∙ done-stays slot reply steps done
  done-stays slot reply (Changes router ∷ steps) done = done-stays slot reply steps done
  done-stays slot reply (Withdraws originator number router ∷ steps) done =
      ap (λ s. slot_after s steps) (not_withdrawn originator number slot (ended_if slot reply done))
      ∙ done-stays slot reply steps done

  -- one more reply: it is the result if it can be kept and is for this ticket
  pub one-result : (slot : SlotState) (ticket : ℕ) (steps : List (Step M)) → slot.reply ≡ None → slot.ticket ≡ Some ticket →
      IsNotWithdrawn slot.originator slot.number steps → last_content (slot_after slot steps) ≡ content_by (result_in ticket steps)
  one-result slot ticket [] none is kept = pending-content slot ticket none is
  one-result slot ticket (Asks request ∷ steps) none is kept = one-result slot ticket steps none is kept
  one-result slot ticket (Changes router ∷ steps) none is kept = one-result slot ticket steps none is kept
  one-result slot ticket (Withdraws originator number router ∷ steps) none is kept =
      ap (λ s. last_content (slot_after s steps)) (other_withdrawn originator number slot kept.0)
      ∙ one-result slot ticket steps none is kept.1
  one-result slot ticket (Completes other given router ∷ steps) none is kept =
      ap (λ pending. last_content (slot_after
      (if is_kept_reply given then (if pending then done_with given slot else slot) else slot) steps))
      (pending-is slot ticket other none is)
      ∙ go (is_kept_reply given) (ticket == other) (one-result slot ticket steps none is kept)
    where
      go : (kept own : Bool) → last_content (slot_after slot steps) ≡ content_by (result_in ticket steps) →
          last_content (slot_after (if kept then (if own then done_with given slot else slot) else slot) steps)
          ≡ content_by (if kept && own then Some given else result_in ticket steps)
      go true true later = ap (λ (s : SlotState). last_content s) (done-stays (done_with given slot) given steps refl)
      go true false later = later
      go false own later = later

-- ---- the laws

held_mapped : (ticket : ℕ) (reply : List ℕ) (number : ℕ) (slot : SlotState) (found : Option SlotState) →
    Held number (λ s. s ≡ slot) found →
    Held number (λ s. s ≡ completed_if ticket reply slot) (option_map (completed_if ticket reply) found)
held_mapped ticket reply number slot None held = absurd held
held_mapped ticket reply number slot (Some own) (inl both) =
    inl (number_if ticket reply own ∙ both.0, ap (completed_if ticket reply) both.1)
held_mapped ticket reply number slot (Some own) (inr greater) =
    let same = number_if ticket reply own in inr (omega (arith, same, greater))

held_completed : (ticket : ℕ) (reply : List ℕ) (number : ℕ) (slot : SlotState) (originator : ℕ) (ledger : Option LedgerState) →
    Held number (λ s. s ≡ slot) (slot_in originator ledger) →
    Held number (λ s. s ≡ completed_if ticket reply slot)
    (slot_in originator (option_map (λ l. completed l ticket reply) ledger))
held_completed ticket reply number slot originator None held = absurd held
held_completed ticket reply number slot originator (Some ledger) held =
    subst (Held number (λ s. s ≡ completed_if ticket reply slot)) (sym (slot_of-after ledger ticket reply originator))
    (held_mapped ticket reply number slot (slot_of originator ledger.taken) held)

held_content : (number : ℕ) (slot : SlotState) (found : Option SlotState) → Held number (λ s. s ≡ slot) found →
    Settled number (last_content slot) found
held_content number slot None held = absurd held
held_content number slot (Some own) (inl both) = inl (both.0, ap (λ (s : SlotState). last_content s) both.1)
held_content number slot (Some own) (inr greater) = inr greater

-- a slot once a number is withdrawn

module _ (by own originator number : ℕ) (slot : SlotState) (ledger : LedgerState) where
  abbrev HeldAfter : Option SlotState → Type 0
  HeldAfter found = Held number (λ s. s ≡ withdrawn_if by own slot) found

  -- the same slot, which is not the one that is withdrawn
  same_slot : (found : Option SlotState) (taken : List SlotState) → slot_of originator taken ≡ found →
      ((s : SlotState) → found ≡ Some s → withdrawn_if by own s ≡ s) →
      Held number (λ s. s ≡ slot) found → HeldAfter (slot_of originator taken)
  same_slot None taken is same held = absurd held
  same_slot (Some s) taken is same (inl both) =
      subst HeldAfter (sym is) (inl (both.0, sym (same s refl) ∙ ap (withdrawn_if by own) both.1))
  same_slot (Some s) taken is same (inr greater) = subst HeldAfter (sym is) (inr greater)

  module _ (s : SlotState) (is : slot_of originator ledger.taken ≡ Some s) (same : by ≡ originator) where
    after_can : (o : Option Withdrawal) → withdraw_by_slot ledger by own (Some s) ≡ o →
        withdrawn by own ledger ≡ (if is_some o then with_withdrawn by own ledger else ledger)
    after_can o e =
        ap (λ p. if is_some p then with_withdrawn by own ledger else ledger)
        (ap (withdraw_by_slot ledger by own) (ap (λ x. slot_of x ledger.taken) same ∙ is) ∙ e)

    found_new : (w : Withdrawal) → withdraw_by_slot ledger by own (Some s) ≡ Some w →
        slot_of originator (withdrawn by own ledger).taken ≡ Some (slot_withdrawn by own)
    found_new w e =
        ap (λ (l : LedgerState). slot_of originator l.taken) (after_can (Some w) e)
        ∙ ap (λ o. slot_of o (with_withdrawn by own ledger).taken) (sym same) ∙ withdrawn-own ledger by own (can-place ledger by own
        (ap (λ p. is_some p) (ap (withdraw_by_slot ledger by own) (ap (λ x. slot_of x ledger.taken) same ∙ is) ∙ e)))

    found_old : withdraw_by_slot ledger by own (Some s) ≡ None → slot_of originator (withdrawn by own ledger).taken ≡ Some s
    found_old e = ap (λ (l : LedgerState). slot_of originator l.taken) (after_can None e) ∙ is

    all_true : (a b c : Bool) → a ≡ true → b ≡ true → c ≡ true →
        (if a && b && c then slot_withdrawn by own else s) ≡ slot_withdrawn by own
    all_true a b c e f g = rw (e, f, g) refl

    own_of : (x : SlotState) → ◌≡◌ {A = Option SlotState} (Some s) (Some x) → s ≡ x
    own_of x e = cc

    pending_slot : (equal : Bool) → is_pending s ≡ true → (s.number == own) ≡ equal → Held number (λ x. x ≡ slot) (Some s) →
        HeldAfter (slot_of originator (withdrawn by own ledger).taken)
    pending_slot true waits h held =
        let number_is = eqb-true s.number own h in
        let s_by : s.originator ≡ by = slot_of-originator ledger.taken originator s is ∙ sym same in
        let mine : withdrawn_if by own s ≡ slot_withdrawn by own
        = all_true (is_pending s) (s.originator == by) (s.number == own) waits (eq-eqb s.originator by s_by) h in
        let new = found_new (of_command by own s.ticket) (rw (waits, h) refl) in
        subst HeldAfter (sym new) (either mine number_is held)
      where
        either : withdrawn_if by own s ≡ slot_withdrawn by own → s.number ≡ own → Held number (λ x. x ≡ slot) (Some s) →
            HeldAfter (Some (slot_withdrawn by own))
        either mine number_is (inl both) = inl (sym number_is ∙ both.0, sym mine ∙ ap (withdrawn_if by own) both.1)
        either mine number_is (inr greater) = inr (omega (arith, greater, number_is))
    pending_slot false waits h held =
        same_slot (Some s) (withdrawn by own ledger).taken (found_old (rw (waits, h) refl))
        (λ x e. other_withdrawn by own x (λ a b. absurd (eqb-false s.number own h (ap (λ (y : SlotState). y.number) (own_of x e) ∙ sym b)))) held

    ended_slot : (less : Bool) → is_pending s ≡ false → nat_lt s.number own ≡ less → Held number (λ x. x ≡ slot) (Some s) →
        HeldAfter (slot_of originator (withdrawn by own ledger).taken)
    ended_slot true over h held =
        subst HeldAfter (sym (found_new (of_command by own None) (rw (over, h) refl))) (either (ltb-true s.number own h) held)
      where
        either : s.number < own → Held number (λ x. x ≡ slot) (Some s) → HeldAfter (Some (slot_withdrawn by own))
        either greater (inl both) = let mine = both.0 in inr (omega (arith, greater, mine))
        either greater (inr more) = inr (omega (arith, greater, more))
    ended_slot false over h held =
        same_slot (Some s) (withdrawn by own ledger).taken (found_old (rw (over, h) refl))
        (λ x e. not_withdrawn by own x (subst (λ (y : SlotState). is_pending y ≡ false) (own_of x e) over)) held

    own_slot : (waits : Bool) → is_pending s ≡ waits → Held number (λ x. x ≡ slot) (Some s) →
        HeldAfter (slot_of originator (withdrawn by own ledger).taken)
    own_slot true h held = pending_slot (s.number == own) h refl held
    own_slot false h held = ended_slot (nat_lt s.number own) h refl held

  other_slot : (s : SlotState) → slot_of originator ledger.taken ≡ Some s → by ≢ originator →
      (can : Bool) → slot_of originator (if can then with_withdrawn by own ledger else ledger).taken ≡ Some s
  other_slot s is apart true = withdrawn-other ledger by own originator apart ∙ is
  other_slot s is apart false = is

  held_at : (found : Option SlotState) → slot_of originator ledger.taken ≡ found → Held number (λ s. s ≡ slot) found →
      HeldAfter (slot_of originator (withdrawn by own ledger).taken)
  held_at None is held = absurd held
  held_at (Some s) is held = go (by == originator) refl
    where
      go : (same : Bool) → (by == originator) ≡ same → HeldAfter (slot_of originator (withdrawn by own ledger).taken)
      go true h = own_slot s is (eqb-true by originator h) (is_pending s) refl held
      go false h =
          let apart = eqb-false by originator h in
          same_slot (Some s) (withdrawn by own ledger).taken
          (other_slot s is apart (can_withdraw ledger by own))
          (λ x e. other_withdrawn by own x
          (λ a b. absurd (apart (a ∙ sym (ap (λ (y : SlotState). y.originator) (same_of x e)) ∙ slot_of-originator ledger.taken originator s is))))
          held
        where
          same_of : (x : SlotState) → ◌≡◌ {A = Option SlotState} (Some s) (Some x) → s ≡ x
          same_of x e = cc

  held_withdrawn : Held number (λ s. s ≡ slot) (slot_of originator ledger.taken) →
      HeldAfter (slot_of originator (withdrawn by own ledger).taken)
  held_withdrawn held = held_at (slot_of originator ledger.taken) refl held

held_withdrawn_in : (by own originator number : ℕ) (slot : SlotState) (ledger : Option LedgerState) →
    Held number (λ s. s ≡ slot) (slot_in originator ledger) →
    Held number (λ s. s ≡ withdrawn_if by own slot) (slot_in originator (option_map (withdrawn by own) ledger))
held_withdrawn_in by own originator number slot None held = absurd held
held_withdrawn_in by own originator number slot (Some ledger) held = held_withdrawn by own originator number slot ledger held

module _ {M : Type 0} (after : M → ℕ → List ℕ → M) (answer : M → ℕ → List ℕ → List ℕ)
    (standing : M → List ℕ → Standing) where
  pub pending-answered : (node : LedgerRouter M) (ledger : LedgerState) (request : Request) (command : Command) (ticket : ℕ) →
      node.ledger ≡ Some ledger → IsGiven ledger request command (HEAD_SIZE + 1) →
      IsPending ledger command.originator command.number ticket →
      turn_at after answer standing node request
      ≡ turn_of node.ledger node.router (reply_to services.DO_ONCE (success (PENDING ∷ [])))
  pending-answered node ledger request command ticket is given pending =
      let content = pending-content pending.slot ticket pending.no_reply pending.ticket_is in
      let fits : HEAD_SIZE + length (last_content pending.slot) ≤ request.0
      = subst (λ c. HEAD_SIZE + length c ≤ request.0) (sym content) given.fits in
      repeat-at after answer standing node.ledger ledger node.router request command pending.slot is given.given given.life
      pending.found pending.number_is fits
      ∙ ap (λ c. turn_of node.ledger node.router (reply_to services.DO_ONCE (success c))) content

  pub completed-answered : (node : LedgerRouter M) (ledger : LedgerState) (request : Request) (command : Command) (ticket : ℕ)
      (reply : List ℕ) → node.ledger ≡ Some (completed ledger ticket reply) →
      IsGiven ledger request command (HEAD_SIZE + 1 + length reply) →
      IsPending ledger command.originator command.number ticket → is_kept_reply reply ≡ true →
      turn_at after answer standing node request
      ≡ turn_of node.ledger node.router (reply_to services.DO_ONCE (success (DONE ∷ reply)))
  completed-answered node ledger request command ticket reply is given pending kept =
      let slot = done_with reply pending.slot in
      let found : slot_of command.originator (with_completed ticket reply ledger).taken ≡ Some slot
      = slot_of-completed ticket reply ledger.taken command.originator
      ∙ ap (option_map (completed_slot ticket reply)) pending.found
      ∙ ap (λ s. Some s) (own_ticket pending.slot ticket reply pending.no_reply pending.ticket_is) in
      let fits = given.fits in
      repeat-at after answer standing node.ledger (with_completed ticket reply ledger) node.router request command slot
      (is ∙ ap (λ l. Some l) (completed-kept ledger ticket reply kept))
      given.given given.life found pending.number_is (omega (arith, fits))

  pub withdrawn-answered : (node : LedgerRouter M) (ledger : LedgerState) (request : Request) (command : Command) →
      node.ledger ≡ Some ledger → IsGiven ledger request command (HEAD_SIZE + 1) →
      IsWithdrawn ledger command.originator command.number →
      turn_at after answer standing node request
      ≡ turn_of node.ledger node.router (reply_to services.DO_ONCE (success (WITHDRAWN ∷ [])))
  withdrawn-answered node ledger request command is given gone =
      let content = withdrawn-content gone.slot gone.withdrawn in
      let fits : HEAD_SIZE + length (last_content gone.slot) ≤ request.0
      = subst (λ c. HEAD_SIZE + length c ≤ request.0) (sym content) given.fits in
      repeat-at after answer standing node.ledger ledger node.router request command gone.slot is given.given given.life
      gone.found gone.number_is fits
      ∙ ap (λ c. turn_of node.ledger node.router (reply_to services.DO_ONCE (success c))) content

  -- the slot of a command after a step, as long as it is not freed
  held-step : (step : Step M) (steps : List (Step M)) (node : LedgerRouter M) (originator number : ℕ) (slot : SlotState) →
      Held number (λ s. s ≡ slot) (slot_in originator node.ledger) →
      IsNotFreed originator (journal_of_step after answer standing node step) →
      (other : SlotState) × Held number (λ s. s ≡ other) (slot_in originator (node_step after answer standing node step).ledger)
      × (slot_after other steps ≡ slot_after slot (step ∷ steps))
  held-step (Asks request) steps node originator number slot held kept =
      let f = fate standing node.ledger node.router request.0 request.1 in (
        slot,
        held-by after answer f node request originator number (λ s. s ≡ slot) (fate-means standing node.ledger node.router request)
            held (not_freed-left after answer (events_by after answer f node.router) [] originator kept),
        refl,
      )
  held-step (Completes ticket reply router) steps node originator number slot held kept =
      (completed_if ticket reply slot, held_completed ticket reply number slot originator node.ledger held, refl)
  held-step (Changes router) steps node originator number slot held kept = (slot, held, refl)
  held-step (Withdraws by own router) steps node originator number slot held kept =
      (withdrawn_if by own slot, held_withdrawn_in by own originator number slot node.ledger held, refl)

  held-steps : (steps : List (Step M)) (node : LedgerRouter M) (originator number : ℕ) (slot : SlotState) →
      Held number (λ s. s ≡ slot) (slot_in originator node.ledger) →
      IsNotFreed originator (journal_of_steps after answer standing node steps) →
      Held number (λ s. s ≡ slot_after slot steps)
      (slot_in originator (node_after_steps after answer standing node steps).ledger)
  held-steps [] node originator number slot held kept = held
  held-steps (step ∷ steps) node originator number slot held kept =
      let now = journal_of_step after answer standing node step in
      let later = journal_of_steps after answer standing (node_step after answer standing node step) steps in
      let parts = held-step step steps node originator number slot held (not_freed-left after answer now later originator kept) in
      subst (λ end. Held number (λ s. s ≡ end)
      (slot_in originator (node_after_steps after answer standing (node_step after answer standing node step) steps).ledger))
      parts.2
      (held-steps steps (node_step after answer standing node step) originator number parts.0 parts.1
      (not_freed-right after answer now later originator kept))

  pub never-back : (node : LedgerRouter M) (first again : Request) (between : List (Step M)) (originator number : ℕ) →
      Succeeds after answer standing node first originator number →
      Succeeds after answer standing (node_after_steps after answer standing (next after answer standing node first) between)
      again originator number →
      IsNotFreed originator (journal_of_steps after answer standing (next after answer standing node first) between) →
      AreAnswersOf after answer standing node first between again originator
  never-back node first again between originator number is again_is kept =
      let s = settles after answer standing node first originator number is in
      let then_node = next after answer standing node first in
      let last = node_after_steps after answer standing then_node between in
      let held : Held number (λ slot. slot ≡ s.slot) (slot_in originator then_node.ledger)
      = subst (Held number (λ slot. slot ≡ s.slot)) (sym s.found) (inl (s.number_is, refl)) in
      let end = slot_after s.slot between in
      record {
        slot = s.slot;
        found = s.found;
        first_is = s.answered ∙ ap (λ content. reply_to services.DO_ONCE (success content)) (sym s.content_is);
        again_is =
            again-by after answer last again originator number again_is.has_ledger again_is.command again_is.given
            again_is.originator_is again_is.number_is (fate standing last.ledger last.router again.0 again.1) (last_content end)
            (fate-means standing last.ledger last.router again)
            (held_content number end (slot_in originator last.ledger)
            (held-steps between then_node originator number s.slot held kept))
            again_is.status_is;
      }
