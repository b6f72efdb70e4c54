-- A ledger in which a number was withdrawn.
use Rattle.std.proofs.Common.{◌≡◌, ℕ, ◌<◌, ◌==◌, ◌&&◌, nat_lt, Bool, true, false, if◌then◌else◌, Option, Some, None}
use Rattle.std.proofs.Common.{List, [], ◌∷◌, not, refl, ap, sym, ◌∙◌, subst, arith, ◌⊎◌, inl, inr}
use Rattle.std.specs.Prelude.{is_some}
use Rattle.std.proofs.lemmas.Bool.{eqb-true, eqb-false, ltb-true}
use Rattle.cip_ledger.specs.Ledger.{LedgerState, SlotState, slot_of, slot_withdrawn, is_pending}
use Rattle.cip_ledger.specs.Services.{last_content, state_content, PENDING}
use Rattle.cip_ledger.specs.Turn.{with_taken}
use Rattle.cip_ledger.specs.Withdrawing.{of_command, of_pending, of_unused, withdraw_by_slot, can_withdraw, has_place, with_withdrawn, withdrawn}
use Rattle.cip_ledger.proofs.Settled.{Settled}
use Rattle.cip_ledger.proofs.Withdrawals.{withdrawn-own, withdrawn-other, can-place}

-- It is as before, or the originator has such a slot.
pub by-withdrawn : (P : LedgerState → Type 0) (ledger : LedgerState) (originator number : ℕ) → P ledger
    → P (with_taken (slot_withdrawn originator number) ledger) → P (withdrawn originator number ledger)
by-withdrawn P ledger originator number same new = go (can_withdraw ledger originator number) (has_place ledger originator)
  where
    go : (can place : Bool) → P (if can then (if place then with_taken (slot_withdrawn originator number) ledger else ledger) else ledger)
    go true true = new
    go true false = same
    go false place = same

pub withdrawn-slots : (ledger : LedgerState) (originator number : ℕ)
    → (withdrawn originator number ledger).slots ≡ ledger.slots
withdrawn-slots ledger originator number = by-withdrawn (λ l. l.slots ≡ ledger.slots) ledger originator number refl refl

pub withdrawn-life : (ledger : LedgerState) (originator number : ℕ)
    → (withdrawn originator number ledger).life ≡ ledger.life
withdrawn-life ledger originator number = by-withdrawn (λ l. l.life ≡ ledger.life) ledger originator number refl refl

-- ---- a command that has ended stays as it is, or the slot has a greater number

pending-content : (slot : SlotState) → is_pending slot ≡ true → last_content slot ≡ PENDING ∷ []
pending-content slot is = by slot.reply slot.ticket is
  where
    by : (reply : Option (List ℕ)) (ticket : Option ℕ) → not (is_some reply) && is_some ticket ≡ true
        → state_content reply ticket ≡ PENDING ∷ []
    by None None e = absurd (cc)
    by None (Some ticket) e = refl
    by (Some reply) ticket e = absurd (cc)

-- the number that is withdrawn is that of a pending command, or greater than the one in the slot
ends-pending : (ledger : LedgerState) (originator number : ℕ) (slot : SlotState)
    → can_withdraw ledger originator number ≡ true → slot_of originator ledger.taken ≡ Some slot
    → ((last_content slot ≡ PENDING ∷ []) × (slot.number ≡ number)) ⊎ (slot.number < number)
ends-pending ledger originator number slot can found =
    by (is_pending slot) refl (subst (λ o. is_some (withdraw_by_slot ledger originator number o) ≡ true) found can)
  where
    same : (b : Bool) → (slot.number == number) ≡ b
        → is_some (if b then Some (of_command originator number slot.ticket) else None) ≡ true → slot.number ≡ number
    same true h e = eqb-true slot.number number h
    same false h e = absurd (cc)

    less : (b : Bool) → nat_lt slot.number number ≡ b
        → is_some (if b then Some (of_command originator number None) else None) ≡ true → slot.number < number
    less true h e = ltb-true slot.number number h
    less false h e = absurd (cc)

    by : (waits : Bool) → is_pending slot ≡ waits
        → is_some (if waits then of_pending originator number slot else of_unused originator number slot) ≡ true
        → ((last_content slot ≡ PENDING ∷ []) × (slot.number ≡ number)) ⊎ (slot.number < number)
    by true h e = inl (pending-content slot h, same (slot.number == number) refl e)
    by false h e = inr (less (nat_lt slot.number number) refl e)

module _ (ledger : LedgerState) (by own originator number : ℕ) (content : List ℕ)
    (final : content ≡ PENDING ∷ [] → ⊥) where
  abbrev new : SlotState
  new = slot_withdrawn by own

  in_slot : (found : Option SlotState) → slot_of by ledger.taken ≡ found → can_withdraw ledger by own ≡ true
      → Settled number content found → Settled number content (Some new)
  in_slot None found can is = absurd is
  in_slot (Some slot) found can is = ends (ends-pending ledger by own slot can found) is
    where
      ends : ((last_content slot ≡ PENDING ∷ []) × (slot.number ≡ own)) ⊎ (slot.number < own)
          → ((slot.number ≡ number) × (last_content slot ≡ content)) ⊎ (number < slot.number)
          → Settled number content (Some new)
      ends (inl pending) (inl is) = absurd (final (sym is.1 ∙ pending.0))
      ends (inl pending) (inr less) = inr (subst (λ n. number < n) pending.1 less)
      ends (inr more) (inl is) = inr (subst (λ n. n < own) is.0 more)
      ends (inr more) (inr less) = inr (omega (arith, more, less))

  by_name : (same : Bool) → (by == originator) ≡ same → can_withdraw ledger by own ≡ true
      → Settled number content (slot_of originator ledger.taken)
      → Settled number content (slot_of originator (with_withdrawn by own ledger).taken)
  by_name true h can is =
      let same = eqb-true by originator h in
      subst (Settled number content)
      (sym (ap (λ o. slot_of o (with_withdrawn by own ledger).taken) (sym same)
      ∙ withdrawn-own ledger by own (can-place ledger by own can)))
      (in_slot (slot_of by ledger.taken) refl can
      (subst (λ o. Settled number content (slot_of o ledger.taken)) (sym same) is))
  by_name false h can is =
      subst (Settled number content) (sym (withdrawn-other ledger by own originator (eqb-false by originator h))) is

  pub withdrawn-final : Settled number content (slot_of originator ledger.taken)
      → Settled number content (slot_of originator (withdrawn by own ledger).taken)
  withdrawn-final is = go (can_withdraw ledger by own) refl
    where
      go : (can : Bool) → can_withdraw ledger by own ≡ can
          → Settled number content (slot_of originator (if can then with_withdrawn by own ledger else ledger).taken)
      go true h = by_name (by == originator) refl h is
      go false h = is
