-- Binary search: what is left of the list, and how many steps it may still take.
use Rattle.std.proofs.Common.{◌≡◌, ℕ, ◌+◌, ◌-◌, ◌/◌, ◌^◌, ◌<◌, ◌≤◌, List, cond, length, Some, None, ap, subst, ◌∙◌, inl, inr, arith}
use Rattle.std.specs.Prelude.{slice_index, nat_lt, ◌==◌}
use Rattle.std.specs.List.{position, position_or_len}
use Rattle.std.specs.Int.Digits.{digits_of}
use Rattle.std.proofs.lemmas.Bool.{eq-eqb, ne_eqb, lt-ltb, le-ltb, cases_lt}
use Rattle.std.proofs.lemmas.List.Sums.{position_or_len_is}
use Rattle.std.proofs.lemmas.Int.Digits.{length-digits_of_step, length-digits_of-le, all_below_base_digits_of, number_digits_of, number_lt}
use Rattle.cip_manager.specs.Index.{Rises, binary_digits}
use Rattle.cip_manager.proofs.IndexLemmas.{Rises-at}

-- half of a number has one digit fewer
digits-half : (n : ℕ) → 0 < n → binary_digits n ≡ binary_digits (n / 2) + 1
digits-half n h = length-digits_of_step 2 n (omega arith) h

-- no smaller number has more digits
digits-le : (m n : ℕ) → m ≤ n → binary_digits m ≤ binary_digits n
digits-le m n h =
    let value : n < 2 ^ binary_digits n =
    subst (λ k. k < 2 ^ binary_digits n) (number_digits_of 2 n (omega arith)) (number_lt 2 (digits_of 2 n) (all_below_base_digits_of 2 n (omega arith))) in
    length-digits_of-le 2 (binary_digits n) m (omega arith) (omega (arith, value))

pub digits-seven : (n : ℕ) → n ≤ 64 → binary_digits n ≤ 7
digits-seven n h = length-digits_of-le 2 7 n (omega arith) (omega arith)

-- Numbers before `low` are below the one that is searched for, and those from `high` on are above it. The steps
-- since the start, plus the digits of how many are left, are at most the digits of how many there are.
pub record IsSearching (ns : List ℕ) (id low high start count : ℕ) : Type 0 where
  pub within : low ≤ high
  pub inside : high ≤ length ns
  pub before : (k : ℕ) → k < low → slice_index ns k < id
  pub after : (k : ℕ) → high ≤ k → k < length ns → id < slice_index ns k
  pub spent : count + binary_digits (high - low) ≤ start + binary_digits (length ns)
  pub rises : start ≤ count

-- if something is left, the next step has a digit to use
pub IsSearching-digit : (ns : List ℕ) (id low high start count : ℕ) → IsSearching ns id low high start count → low < high
    → count + 1 ≤ start + binary_digits (length ns)
IsSearching-digit ns id low high start count s h = omega (arith, s.spent, digits-half (high - low) (omega arith))

-- after a step, the number of those left has one digit fewer
left-after : (start count all n m : ℕ) → 0 < n → m ≤ n / 2 → count + binary_digits n ≤ start + all → count + 1 + binary_digits m ≤ start + all
left-after start count all n m h le s = omega (arith, digits-half n h, digits-le m (n / 2) le, s)

pub IsSearching-less : (ns : List ℕ) (id low high start count middle : ℕ) → Rises ns → IsSearching ns id low high start count → low < high
    → middle ≡ low + (high - low) / 2 → slice_index ns middle < id → IsSearching ns id (middle + 1) high start (count + 1)
IsSearching-less ns id low high start count middle rising s h m less = record {
  within = omega (arith, m, h);
  inside = s.inside;
  before = λ k b. elim (cases_lt k middle) [
    | inl lower ↦ omega (arith, Rises-at ns k middle rising lower (omega (arith, m, h, s.inside)), less)
    | inr same ↦ subst (λ i. slice_index ns i < id) {x = middle} {y = k} (omega (arith, b, same)) less
  ];
  after = s.after;
  spent = left-after start count (binary_digits (length ns)) (high - low) (high - (middle + 1)) (omega arith) (omega (arith, m, h)) s.spent;
  rises = omega (arith, s.rises);
}

pub IsSearching-greater : (ns : List ℕ) (id low high start count middle : ℕ) → Rises ns → IsSearching ns id low high start count → low < high
    → middle ≡ low + (high - low) / 2 → id < slice_index ns middle → IsSearching ns id low middle start (count + 1)
IsSearching-greater ns id low high start count middle rising s h m greater = record {
  within = omega (arith, m);
  inside = omega (arith, m, h, s.inside);
  before = s.before;
  after = λ k b l. elim (cases_lt middle k) [
    | inl higher ↦ omega (arith, Rises-at ns middle k rising higher l, greater)
    | inr same ↦ subst (λ i. id < slice_index ns i) {x = middle} {y = k} (omega (arith, b, same)) greater
  ];
  spent = left-after start count (binary_digits (length ns)) (high - low) (middle - low) (omega arith) (omega (arith, m)) s.spent;
  rises = omega (arith, s.rises);
}

-- the number is at the middle, and not before it
pub found-at : (ns : List ℕ) (id middle : ℕ) → Rises ns → middle < length ns → slice_index ns middle ≡ id → position (λ other. other == id) ns ≡ Some middle
found-at ns id middle rising h e =
    let first : position_or_len (λ other. other == id) ns ≡ middle =
    position_or_len_is (λ other. other == id) ns middle 0 (omega arith)
    (λ k b. ne_eqb (slice_index ns k) id (λ same. omega (arith, Rises-at ns k middle rising b h, same, e)))
    (λ inside. eq-eqb (slice_index ns middle) id e) in
    ap (λ i. cond (nat_lt i (length ns)) (Some i) None) first ∙ ap (λ b. cond b (Some middle) None) (lt-ltb middle (length ns) h)

-- nothing is left
pub found-nowhere : (ns : List ℕ) (id low high start count : ℕ) → IsSearching ns id low high start count → high ≤ low → position (λ other. other == id) ns ≡ None
found-nowhere ns id low high start count s h =
    let none : position_or_len (λ other. other == id) ns ≡ length ns =
    position_or_len_is (λ other. other == id) ns (length ns) 0 (omega arith)
    (λ k b. ne_eqb (slice_index ns k) id (λ same. elim (cases_lt k low) [
      | inl lower ↦ omega (arith, s.before k lower, same)
      | inr higher ↦ omega (arith, s.after k (omega (arith, higher, h)) b, same)
    ]))
    (λ inside. absurd (omega arith)) in
    ap (λ i. cond (nat_lt i (length ns)) (Some i) None) none ∙ ap (λ b. cond b (Some (length ns)) None) (le-ltb (length ns) (length ns) (omega arith))
