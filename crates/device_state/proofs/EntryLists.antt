-- The entries by their index: those of the ledger, then the values.
use Rattle.std.proofs.Common.{◌≡◌, ℕ, zero, suc, ◌+◌, ◌-◌, ◌<◌, ◌≤◌, List, [], ◌∷◌, ◌++◌, length, Some, None, option_map, refl, sym, ap, ◌∙◌, arith}
use Rattle.std.specs.Prelude.{slice_get}
use Rattle.std.proofs.lemmas.Option.{slice_get_past}
use Rattle.cip_application.proofs.Names.{get_behind}
use Rattle.cip_message.specs.declared.ledger_services.TheConstants.{LEDGER}
use Rattle.cip_ledger.specs.Ledger.{SlotState, LedgerState}
use Rattle.device_state.specs.Keys.{key_of}
use Rattle.device_state.specs.Saved.{Entry, entry_of, slot_bytes, slot_entries, ledger_entries}

get_within : {A : Type 0} (xs ys : List A) (i : ℕ) → i < length xs → slice_get (xs ++ ys) i ≡ slice_get xs i
get_within [] ys i h = absurd (omega arith)
get_within (x ∷ xs) ys zero h = refl
get_within (x ∷ xs) ys (suc i) h = get_within xs ys i (omega arith)

slots_length : (n : ℕ) (slots : List SlotState) → length (slot_entries n slots) ≡ length slots
slots_length n [] = refl
slots_length n (slot ∷ slots) = ap suc (slots_length (suc n) slots)

pub in_ledger : (l : LedgerState) (values : List Entry) (i count : ℕ) → count ≡ length l.taken → i < 1 + count → slice_get (ledger_entries (Some l)) i ≡ slice_get (ledger_entries (Some l) ++ values) i
in_ledger l values i count e h =
    sym (get_within (ledger_entries (Some l)) values i (omega (arith, slots_length 1 l.taken, e, h)))

pub behind_ledger : (l : LedgerState) (values : List Entry) (i count : ℕ) → count ≡ length l.taken → 1 + count ≤ i → slice_get values (i - (1 + count)) ≡ slice_get (ledger_entries (Some l) ++ values) i
behind_ledger l values i count e h =
    let size : length (ledger_entries (Some l)) ≡ 1 + count = omega (arith, slots_length 1 l.taken, e) in
    ap (λ n. slice_get values (i - n)) (sym size)
    ∙ sym (get_behind (ledger_entries (Some l)) values i (omega (arith, size, h)))

abbrev pub slot_entry : ℕ → SlotState → Entry
slot_entry number slot = entry_of (key_of LEDGER number 0) (slot_bytes slot)

slot_at : (n : ℕ) (slots : List SlotState) (i : ℕ) → slice_get (slot_entries n slots) i ≡ option_map (slot_entry (n + i)) (slice_get slots i)
slot_at n [] i = refl
slot_at n (slot ∷ slots) zero =
    let e : n ≡ n + 0 = omega arith in ap (λ k. Some (slot_entry k slot)) e
slot_at n (slot ∷ slots) (suc i) =
    let e : suc n + i ≡ n + suc i = omega arith in
    slot_at (suc n) slots i ∙ ap (λ k. option_map (slot_entry k) (slice_get slots i)) e

-- an entry behind that of the life
pub slot_entry_at : (l : LedgerState) (i : ℕ) → 1 ≤ i → slice_get (ledger_entries (Some l)) i ≡ option_map (slot_entry i) (slice_get l.taken (i - 1))
slot_entry_at l zero h = absurd (omega arith)
slot_entry_at l (suc i) h =
    let e : i ≡ suc i - 1 = omega arith in
    let k : 1 + i ≡ suc i = omega arith in
    slot_at 1 l.taken i ∙ ap (λ j. option_map (slot_entry (1 + i)) (slice_get l.taken j)) e ∙ ap (λ n. option_map (slot_entry n) (slice_get l.taken (suc i - 1))) k

pub past_ledger : (l : LedgerState) (i count : ℕ) → count ≡ length l.taken → count < i → None ≡ slice_get (ledger_entries (Some l)) i
past_ledger l i count e h = sym (slice_get_past (ledger_entries (Some l)) i (omega (arith, slots_length 1 l.taken, e, h)))
