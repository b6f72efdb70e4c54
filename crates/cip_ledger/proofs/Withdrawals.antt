-- What a request withdraws, and what that leaves of the ledger.
use Rattle.std.proofs.Common.{◌≡◌, ◌≢◌, ◌⊎◌, inl, inr, ℕ, ◌<◌, ◌≤◌, ◌==◌, ◌&&◌, ◌||◌, nat_lt, not, Bool, true, false, if◌then◌else◌, Option, Some, None, unwrap_or, List, [], ◌∷◌, length, refl, ap, sym, ◌∙◌, subst, arith}
use Rattle.std.specs.Prelude.{option_map, is_some}
use Rattle.std.specs.Option.{option_and_then}
use Rattle.std.proofs.lemmas.Bool.{eqb-true, eqb-false, ltb-true, ne_eqb, le-ltb}
use Rattle.cip_bytes.specs.Numbers.{number_at}
use Rattle.cip_message.specs.declared.ledger_services.TheConstants as services
use Rattle.cip_ledger.specs.declared.withdrawal.Withdrawal.{Withdrawal}
use Rattle.cip_ledger.specs.Device.{Device}
use Rattle.cip_ledger.specs.Ledger.{LedgerState, SlotState, slot_of, is_pending, is_withdrawn, slot_withdrawn}
use Rattle.cip_ledger.specs.Requests.{LedgerRequest, ledger_request}
use Rattle.cip_ledger.specs.Runs.{slot_in}
use Rattle.cip_ledger.specs.Turn.{with_taken}
use Rattle.cip_ledger.specs.Services.{last_content, state_content, WITHDRAWN}
use Rattle.cip_ledger.specs.Withdrawing.{of_command, of_pending, of_unused, withdraw_by_slot, by_withdraw, forget_by_slot, by_forget, withdrawal_by, withdrawal_of, can_withdraw, has_place, with_withdrawn, withdrawn, withdrawn_from, found_by}
use Rattle.cip_ledger.proofs.Fates.{IsNewAt, HasEnded}
use Rattle.cip_ledger.proofs.SlotLemmas.{slot_of-with_slot, slot_of-with_other}

pub same-some : {A : Type 0} (a b : A) → ◌≡◌ {A = Option A} (Some a) (Some b) → a ≡ b
same-some a b e = cc

pub none-some : {A : Type 0} (a : A) → ◌≡◌ {A = Option A} None (Some a) → ⊥
none-some a e = absurd (cc)

-- ---- what a request withdraws

-- the last command of the originator, which is pending
pub record IsOfPending (ledger : LedgerState) (w : Withdrawal) : Type 0 where
  pub slot : SlotState
  pub found : slot_of w.originator ledger.taken ≡ Some slot
  pub waits : is_pending slot ≡ true
  pub number_is : slot.number ≡ w.number
  pub ticket_is : slot.ticket ≡ w.ticket

-- a number that is greater than that of a command that has ended, or the first one, and then a slot is free
pub record IsOfUnused (ledger : LedgerState) (w : Withdrawal) : Type 0 where
  pub no_ticket : w.ticket ≡ None
  pub newer : IsNewAt (slot_of w.originator ledger.taken) w.number
  pub ended : HasEnded (slot_of w.originator ledger.taken)
  pub free : slot_of w.originator ledger.taken ≡ None → length ledger.taken < ledger.slots

abbrev pub Withdraws : LedgerState → Withdrawal → Type 0
Withdraws ledger w = IsOfPending ledger w ⊎ IsOfUnused ledger w

module _ (ledger : LedgerState) (w : Withdrawal) where
  pending-facts : (originator number : ℕ) (slot : SlotState) → slot_of originator ledger.taken ≡ Some slot → is_pending slot ≡ true
      → of_pending originator number slot ≡ Some w → Withdraws ledger w
  pending-facts originator number slot found waits = go (slot.number == number) refl
    where
      go : (own : Bool) → (slot.number == number) ≡ own
          → ◌≡◌ {A = Option Withdrawal} (if own then Some (of_command originator number slot.ticket) else None) (Some w)
          → Withdraws ledger w
      go false is e = absurd (none-some w e)
      go true is e =
          let same = same-some (of_command originator number slot.ticket) w e in
          inl (record {
            slot = slot;
            found = ap (λ (v : Withdrawal). slot_of v.originator ledger.taken) (sym same) ∙ found;
            waits = waits;
            number_is = eqb-true slot.number number is ∙ ap (λ (v : Withdrawal). v.number) same;
            ticket_is = ap (λ (v : Withdrawal). v.ticket) same;
          })

  unused-facts : (originator number : ℕ) (found : Option SlotState) → slot_of originator ledger.taken ≡ found
      → IsNewAt found number → HasEnded found → (found ≡ None → length ledger.taken < ledger.slots)
      → ◌≡◌ {A = Option Withdrawal} (Some (of_command originator number None)) (Some w) → Withdraws ledger w
  unused-facts originator number found is newer ended free e =
      let same = same-some (of_command originator number None) w e in
      let own : slot_of w.originator ledger.taken ≡ found
      = ap (λ (v : Withdrawal). slot_of v.originator ledger.taken) (sym same) ∙ is in
      inr (record {
        no_ticket = sym (ap (λ (v : Withdrawal). v.ticket) same);
        newer = subst (λ o. IsNewAt o w.number) (sym own)
            (subst (λ n. IsNewAt found n) (ap (λ (v : Withdrawal). v.number) same) newer);
        ended = subst HasEnded (sym own) ended;
        free = λ none. free (sym own ∙ none);
      })

  slot-facts : (originator number : ℕ) (found : Option SlotState) → slot_of originator ledger.taken ≡ found
      → withdraw_by_slot ledger originator number found ≡ Some w → Withdraws ledger w
  slot-facts originator number None is = go (nat_lt (length ledger.taken) ledger.slots) refl
    where
      go : (free : Bool) → nat_lt (length ledger.taken) ledger.slots ≡ free
          → ◌≡◌ {A = Option Withdrawal} (if free then Some (of_command originator number None) else None) (Some w)
          → Withdraws ledger w
      go true h e = unused-facts originator number None is tt tt (λ none. ltb-true (length ledger.taken) ledger.slots h) e
      go false h e = absurd (none-some w e)
  slot-facts originator number (Some slot) is = go (is_pending slot) refl
    where
      unused : (less : Bool) → nat_lt slot.number number ≡ less → is_pending slot ≡ false
          → ◌≡◌ {A = Option Withdrawal} (if less then Some (of_command originator number None) else None) (Some w)
          → Withdraws ledger w
      unused true h ended e =
          unused-facts originator number (Some slot) is (ltb-true slot.number number h) ended
          (λ none. absurd (none-some slot (sym none))) e
      unused false h ended e = absurd (none-some w e)

      go : (waits : Bool) → is_pending slot ≡ waits
          → (if waits then of_pending originator number slot else of_unused originator number slot) ≡ Some w
          → Withdraws ledger w
      go true h e = pending-facts originator number slot is h e
      go false h e = unused (nat_lt slot.number number) refl h e

  forget-facts : (originator number : ℕ) (found : Option SlotState) → slot_of originator ledger.taken ≡ found
      → forget_by_slot originator number found ≡ Some w → Withdraws ledger w
  forget-facts originator number None is = λ e. absurd (none-some w e)
  forget-facts originator number (Some slot) is = go (is_pending slot) refl
    where
      go : (waits : Bool) → is_pending slot ≡ waits
          → (if waits then of_pending originator number slot else None) ≡ Some w → Withdraws ledger w
      go true h e = pending-facts originator number slot is h e
      go false h e = absurd (none-some w e)

  by_if : (b : Bool) (o : Option Withdrawal) → (if b then o else None) ≡ Some w → (o ≡ Some w → Withdraws ledger w) → Withdraws ledger w
  by_if true o e more = more e
  by_if false o e more = absurd (none-some w e)

  request-facts : (request : LedgerRequest) → withdrawal_by ledger request ≡ Some w → Withdraws ledger w
  request-facts request e =
      by_if (request.instance == 1) _ e (go (request.service == services.WITHDRAW) (request.service == services.FORGET))
    where
      bytes : List ℕ
      bytes = request.data

      go : (asked forgets : Bool)
          → (if asked then by_withdraw ledger bytes else (if forgets then by_forget ledger bytes else None)) ≡ Some w
          → Withdraws ledger w
      go true forgets f =
          by_if ((length bytes == 20) && (number_at 0 8 bytes == ledger.life)) _ f
          (slot-facts (number_at 8 8 bytes) (number_at 16 4 bytes) (slot_of (number_at 8 8 bytes) ledger.taken) refl)
      go false true f =
          by_if (length bytes == 12) _ f
          (forget-facts (number_at 0 8 bytes) (number_at 8 4 bytes) (slot_of (number_at 0 8 bytes) ledger.taken) refl)
      go false false f = absurd (none-some w f)

  pub withdraws : (text : List ℕ) → withdrawal_of (Some ledger) text ≡ Some w → Withdraws ledger w
  withdraws text = go (ledger_request text)
    where
      go : (asked : Option LedgerRequest) → option_and_then (withdrawal_by ledger) asked ≡ Some w → Withdraws ledger w
      go None e = absurd (none-some w e)
      go (Some request) e = request-facts request e

-- ---- the slots afterwards

pub withdrawn-own : (ledger : LedgerState) (originator number : ℕ) → has_place ledger originator ≡ true
    → slot_of originator (with_withdrawn originator number ledger).taken ≡ Some (slot_withdrawn originator number)
withdrawn-own ledger originator number place =
    ap (λ b. slot_of originator (if b then with_taken (slot_withdrawn originator number) ledger else ledger).taken) place
    ∙ slot_of-with_slot ledger.taken (slot_withdrawn originator number)

pub withdrawn-other : (ledger : LedgerState) (originator number other : ℕ) → originator ≢ other
    → slot_of other (with_withdrawn originator number ledger).taken ≡ slot_of other ledger.taken
withdrawn-other ledger originator number other apart = go (has_place ledger originator)
  where
    go : (place : Bool)
        → slot_of other (if place then with_taken (slot_withdrawn originator number) ledger else ledger).taken
        ≡ slot_of other ledger.taken
    go true = slot_of-with_other ledger.taken (slot_withdrawn originator number) other apart
    go false = refl

-- what can be withdrawn has a place
pub can-place : (ledger : LedgerState) (originator number : ℕ) → can_withdraw ledger originator number ≡ true
    → has_place ledger originator ≡ true
can-place ledger originator number can = go (slot_of originator ledger.taken) can
  where
    free : (b : Bool) → is_some (if b then Some (of_command originator number None) else None) ≡ true → b ≡ true
    free true e = refl
    free false e = absurd (cc)

    go : (found : Option SlotState) → is_some (withdraw_by_slot ledger originator number found) ≡ true
        → (is_some found || nat_lt (length ledger.taken) ledger.slots) ≡ true
    go None e = free (nat_lt (length ledger.taken) ledger.slots) e
    go (Some slot) e = refl

-- a pending command stays if another number is withdrawn
pub withdrawn-keeps : (ledger : Option LedgerState) (by number originator : ℕ) (slot : SlotState)
    → slot_in originator ledger ≡ Some slot → is_pending slot ≡ true → (by ≡ originator → number ≡ slot.number → ⊥)
    → slot_in originator (option_map (withdrawn by number) ledger) ≡ Some slot
withdrawn-keeps None by number originator slot found waits other = absurd (none-some slot found)
withdrawn-keeps (Some ledger) by number originator slot found waits other = go (by == originator) refl
  where
    apart : (can : Bool) → by ≢ originator
        → slot_of originator (if can then with_withdrawn by number ledger else ledger).taken ≡ Some slot
    apart true differs = withdrawn-other ledger by number originator differs ∙ found
    apart false differs = found

    go : (same : Bool) → (by == originator) ≡ same → slot_of originator (withdrawn by number ledger).taken ≡ Some slot
    go false h = apart (can_withdraw ledger by number) (eqb-false by originator h)
    go true h =
        let same = eqb-true by originator h in
        let differs : (slot.number == number) ≡ false = ne_eqb slot.number number (λ e. other same (sym e)) in
        let none : withdraw_by_slot ledger by number (slot_of by ledger.taken) ≡ None
        = ap (withdraw_by_slot ledger by number) (ap (λ o. slot_of o ledger.taken) same ∙ found) ∙ rw (waits, differs) refl in
        ap (λ o. slot_of originator (if is_some o then with_withdrawn by number ledger else ledger).taken) none ∙ found

-- a command is withdrawn once
pub withdrawn-once : (ledger : LedgerState) (originator number : ℕ) → can_withdraw ledger originator number ≡ true
    → can_withdraw (withdrawn originator number ledger) originator number ≡ false
withdrawn-once ledger originator number can =
    let new = with_withdrawn originator number ledger in
    let none : withdraw_by_slot new originator number (slot_of originator new.taken) ≡ None
    = ap (withdraw_by_slot new originator number) (withdrawn-own ledger originator number (can-place ledger originator number can))
    ∙ rw (le-ltb number number (omega arith)) refl in
    ap (λ b. can_withdraw (if b then new else ledger) originator number) can ∙ ap (λ o. is_some o) none

-- ---- the names of what is withdrawn

abbrev pub IsNamed : ℕ → ℕ → Withdrawal → Type 0
IsNamed originator number w = (w.originator ≡ originator) × (w.number ≡ number)

named : (originator number : ℕ) (ticket : Option ℕ) (w : Withdrawal)
    → ◌≡◌ {A = Option Withdrawal} (Some (of_command originator number ticket)) (Some w) → IsNamed originator number w
named originator number ticket w e =
    let same = sym (same-some (of_command originator number ticket) w e) in
    (ap (λ (v : Withdrawal). v.originator) same, ap (λ (v : Withdrawal). v.number) same)

named-if : (b : Bool) (originator number : ℕ) (ticket : Option ℕ) (w : Withdrawal)
    → (if b then Some (of_command originator number ticket) else None) ≡ Some w → IsNamed originator number w
named-if true originator number ticket w e = named originator number ticket w e
named-if false originator number ticket w e = absurd (none-some w e)

pub slot-named : (ledger : LedgerState) (originator number : ℕ) (found : Option SlotState) (w : Withdrawal)
    → withdraw_by_slot ledger originator number found ≡ Some w → IsNamed originator number w
slot-named ledger originator number None w e = named-if (nat_lt (length ledger.taken) ledger.slots) originator number None w e
slot-named ledger originator number (Some slot) w e = go (is_pending slot) e
  where
    go : (waits : Bool) → (if waits then of_pending originator number slot else of_unused originator number slot) ≡ Some w
        → IsNamed originator number w
    go true f = named-if (slot.number == number) originator number slot.ticket w f
    go false f = named-if (nat_lt slot.number number) originator number None w f

pub forget-named : (originator number : ℕ) (found : Option SlotState) (w : Withdrawal)
    → forget_by_slot originator number found ≡ Some w → IsNamed originator number w
forget-named originator number None w e = absurd (none-some w e)
forget-named originator number (Some slot) w e = go (is_pending slot) e
  where
    go : (waits : Bool) → (if waits then of_pending originator number slot else None) ≡ Some w → IsNamed originator number w
    go true f = named-if (slot.number == number) originator number slot.ticket w f
    go false f = absurd (none-some w f)

-- ---- the device as a request finds it

-- without a ledger, and of a request that is not to the ledger's class, it is as it was
pub unasked : (device : Device) (text : List ℕ) → ledger_request text ≡ None → found_by text device ≡ device
unasked device text none = go device.ledger
  where
    go : (ledger : Option LedgerState)
        → unwrap_or (option_and_then (withdrawn_from device) (withdrawal_of ledger text)) device ≡ device
    go None = refl
    go (Some ledger) =
        ap (λ o. unwrap_or (option_and_then (withdrawn_from device) (option_and_then (withdrawal_by ledger) o)) device) none

-- ---- a command that was withdrawn

pub withdrawn-content : (slot : SlotState) → is_withdrawn slot ≡ true → last_content slot ≡ WITHDRAWN ∷ []
withdrawn-content slot is = go slot.reply slot.ticket is
  where
    go : (reply : Option (List ℕ)) (ticket : Option ℕ) → (is_some reply && is_some ticket) ≡ true
        → state_content reply ticket ≡ WITHDRAWN ∷ []
    go None ticket e = absurd (cc)
    go (Some reply) None e = absurd (cc)
    go (Some reply) (Some ticket) e = refl
