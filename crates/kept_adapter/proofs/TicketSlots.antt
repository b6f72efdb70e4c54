-- The slots of a ledger, one after the other.
use Rattle.std.proofs.Common.{◌≡◌, ℕ, zero, suc, ◌+◌, ◌&&◌, true, false, Option, Some, None, List, [], ◌∷◌}
use Rattle.std.proofs.Common.{length, drop, ◌≤◌, refl, ap, sym, ◌∙◌, arith}
use Rattle.std.specs.Prelude.{slice_get}
use Rattle.std.proofs.lemmas.Option.{slice_get_past}
use Rattle.cip_ledger.specs.Ledger.{SlotState}
use Rattle.cip_owner.specs.Queue.{QueueState}
use Rattle.kept_adapter.specs.Started.{has_given, has_given_each, pending_ticket}

same_some : (x y : SlotState) → ◌≡◌ {A = Option SlotState} (Some x) (Some y) → x ≡ y
same_some x y e = cc

drop_slot : (slots : List SlotState) (i : ℕ) (slot : SlotState) → Some slot ≡ slice_get slots i
    → drop i slots ≡ slot ∷ drop (suc i) slots
drop_slot [] i slot e = absurd (cc)
drop_slot (first ∷ slots) zero slot e = ap (λ s. s ∷ slots) (sym (same_some slot first e))
drop_slot (first ∷ slots) (suc i) slot e = drop_slot slots i slot e

-- one slot more
pub each_more : (slots : List SlotState) (i : ℕ) (slot : SlotState) (queue : Option QueueState)
    → Some slot ≡ slice_get slots i → has_given (pending_ticket slot) queue ≡ true
    → has_given_each (drop (i + 1) slots) queue ≡ has_given_each (drop i slots) queue
each_more slots i slot queue e given =
    let next : i + 1 ≡ suc i = omega arith in
    ap (λ k. has_given_each (drop k slots) queue) next
    ∙ sym (ap (λ xs. has_given_each xs queue) (drop_slot slots i slot e)
    ∙ ap (λ t. t && has_given_each (drop (suc i) slots) queue) given)

pub each_fails : (slots : List SlotState) (i : ℕ) (slot : SlotState) (queue : Option QueueState)
    → Some slot ≡ slice_get slots i → has_given (pending_ticket slot) queue ≡ false
    → false ≡ has_given_each (drop i slots) queue
each_fails slots i slot queue e other =
    sym (ap (λ xs. has_given_each xs queue) (drop_slot slots i slot e)
    ∙ ap (λ t. t && has_given_each (drop (suc i) slots) queue) other)

-- past the last
drop_none : (slots : List SlotState) (i : ℕ) → None ≡ slice_get slots i → drop i slots ≡ []
drop_none [] zero e = refl
drop_none [] (suc i) e = refl
drop_none (first ∷ slots) zero e = absurd (cc)
drop_none (first ∷ slots) (suc i) e = drop_none slots i e

pub each_end : (slots : List SlotState) (i : ℕ) (queue : Option QueueState) → None ≡ slice_get slots i
    → true ≡ has_given_each (drop i slots) queue
each_end slots i queue e = sym (ap (λ xs. has_given_each xs queue) (drop_none slots i e))

pub each_past : (slots : List SlotState) (i : ℕ) (queue : Option QueueState) → length slots ≤ i
    → true ≡ has_given_each (drop i slots) queue
each_past slots i queue past = each_end slots i queue (sym (slice_get_past slots i past))
