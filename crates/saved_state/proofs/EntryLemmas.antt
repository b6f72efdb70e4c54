-- Entries, read one after another.
use Rattle.std.proofs.Common.{◌≡◌, ◌⊎◌, inl, inr, Some, ℕ, suc, ◌+◌, ◌-◌, ◌^◌, ◌<◌, ◌≤◌, List, ◌∷◌, length, take, drop, sym, ap, ◌∙◌, arith, length-drop}
use Rattle.std.proofs.lemmas.List.{drop-drop}
use Rattle.std.proofs.lemmas.Bool.Decides.{nat_tests}
use Rattle.cip_bytes.proofs.Bytes.{rest_slice}
use Rattle.saved_state.specs.Numbers.{udint_at, ulint_at}
use Rattle.saved_state.specs.declared.fault.StateFault.TheVariants.{Layout, Order}
use Rattle.saved_state.specs.States.{Entry}
use Rattle.saved_state.specs.Reading.{entry_at, size_at, first_entries, entries_fault}

pub same_entry : {k m : ℕ} {b c : List ℕ} → k ≡ m → b ≡ c
    → ◌≡◌ {A = Entry} (record { key = k; bytes = b }) (record { key = m; bytes = c })
same_entry p q = cc

-- the parts of a whole entry, as the code takes them
pub whole_entry : (text : List ℕ) (key n : ℕ) → key ≡ ulint_at 0 text → n ≡ udint_at 8 text → 12 ≤ length text
    → n ≤ length (take (length text - 12) (drop 12 text))
    → (size_at text ≤ length text)
    × (◌≡◌ {A = Entry} (record { key = key; bytes = take n (take (length text - 12) (drop 12 text)) }) (entry_at text))
    × (take (length (take (length text - 12) (drop 12 text)) - n) (drop n (take (length text - 12) (drop 12 text))) ≡ drop (size_at text) text)
whole_entry text key n k e long rest =
    let after_head : take (length text - 12) (drop 12 text) ≡ drop 12 text = rest_slice 12 text in (
      omega (arith, e, ap length after_head, length-drop 12 text),
      same_entry k (ap (λ t. take n t) after_head ∙ ap (λ m. take m (drop 12 text)) e),
      ap (λ t. take (length t - n) (drop n t)) after_head ∙ rest_slice n (drop 12 text) ∙ drop-drop n 12 text
          ∙ ap (λ m. drop (12 + m) text) e,
    )

-- ---- faults

pub entries_fault-short : (n least : ℕ) (text : List ℕ) → length text < size_at text
    → entries_fault (suc n) least text ≡ Some Layout
entries_fault-short n least text short = grind (arith, nat_tests)

pub entries_fault-order : (n least : ℕ) (text : List ℕ) → size_at text ≤ length text
    → (ulint_at 0 text < least) ⊎ (2 ^ 63 ≤ ulint_at 0 text) → entries_fault (suc n) least text ≡ Some Order
entries_fault-order n least text long (inl below) = grind (arith, nat_tests)
entries_fault-order n least text long (inr above) = grind (arith, nat_tests)

pub entries_fault-long : (n least : ℕ) (text : List ℕ) → size_at text ≤ length text → least ≤ ulint_at 0 text
    → ulint_at 0 text < 2 ^ 63 → entries_fault (suc n) least text ≡ entries_fault n (ulint_at 0 text + 1) (drop (size_at text) text)
entries_fault-long n least text long rises within = grind (arith, nat_tests)

-- one more entry
pub entries_fault_step : (n i least key next_least : ℕ) (text next : List ℕ) → i < n → size_at text ≤ length text
    → key ≡ ulint_at 0 text → least ≤ key → key < 2 ^ 63 → next_least ≡ key + 1 → next ≡ drop (size_at text) text
    → entries_fault (n - (i + 1)) next_least next ≡ entries_fault (n - i) least text
entries_fault_step n i least key next_least text next below long k rises within more e =
    let less : suc (n - (i + 1)) ≡ n - i = omega arith in
    ap (entries_fault (n - (i + 1)) next_least) e
    ∙ ap (λ m. entries_fault (n - (i + 1)) m (drop (size_at text) text)) (more ∙ ap (λ m. m + 1) k)
    ∙ sym (entries_fault-long (n - (i + 1)) least text long (omega arith) (omega arith))
    ∙ ap (λ m. entries_fault m least text) less

-- a key that is out of order
pub order_found : (n i least key : ℕ) (text : List ℕ) → i < n → size_at text ≤ length text → key ≡ ulint_at 0 text
    → (key < least) ⊎ (2 ^ 63 ≤ key) → Some Order ≡ entries_fault (n - i) least text
order_found n i least key text below long k (inl small) =
    let less : suc (n - (i + 1)) ≡ n - i = omega arith in
    sym (entries_fault-order (n - (i + 1)) least text long (inl (omega arith))) ∙ ap (λ m. entries_fault m least text) less
order_found n i least key text below long k (inr large) =
    let less : suc (n - (i + 1)) ≡ n - i = omega arith in
    sym (entries_fault-order (n - (i + 1)) least text long (inr (omega arith))) ∙ ap (λ m. entries_fault m least text) less

-- ---- the entries that are left

pub first_entries-long : (n : ℕ) (text : List ℕ) → size_at text ≤ length text
    → first_entries (suc n) text ≡ entry_at text ∷ first_entries n (drop (size_at text) text)
first_entries-long n text long = grind (arith, nat_tests)

pub first_entries-next : (n : ℕ) (text next : List ℕ) → 0 < n → size_at text ≤ length text → next ≡ drop (size_at text) text
    → first_entries n text ≡ entry_at text ∷ first_entries (n - 1) next
first_entries-next n text next some long e =
    let less : n ≡ suc (n - 1) = omega arith in
    ap (λ m. first_entries m text) less ∙ first_entries-long (n - 1) text long
    ∙ ap (λ t. entry_at text ∷ first_entries (n - 1) t) (sym e)
