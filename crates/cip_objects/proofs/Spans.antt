-- Members of an assembly follow one another, and a write to one does not change the others.
use Rattle.std.proofs.Common.{◌≡◌, ℕ, ◌+◌, ◌-◌, ◌<◌, ◌≤◌, eqb, Bool, true, false, cond, ◌||◌, nat_lt, List, ◌++◌, length, take, drop, sum, get_or, Option, Some, None, refl, sym, ap, ◌∙◌, arith}
use Rattle.std.proofs.lemmas.Bool.Decides.{nat_tests}
use Rattle.std.proofs.lemmas.List.{length-append, length-take-le, length-drop, append_assoc, take-take, take-append-le, take_at, drop_at, drop-take}
use Rattle.std.proofs.lemmas.List.Sums.{sum_by_more, sum_by-take-le}
use Rattle.std.proofs.lemmas.Slice.{drop-append-drop}
use Rattle.cip_objects.specs.declared.assembly.Span.{Span}
use Rattle.cip_objects.specs.ChangeServices.{with_bytes_at}
use Rattle.cip_objects.specs.Tables.{span_of}

-- the members before an index and the one at it
sum-through : (sizes : List ℕ) (k : ℕ) → k < length sizes
    → sum (take (k + 1) sizes) ≡ sum (take k sizes) + get_or sizes k 0
sum-through sizes k h = sum_by_more (λ x. x) sizes k 0 h

sum_part : (sizes : List ℕ) (k : ℕ) → sum (take k sizes) ≤ sum sizes
sum_part sizes k = sum_by-take-le (λ x. x) sizes k

sum_grows : (sizes : List ℕ) (j k : ℕ) → j ≤ k → sum (take j sizes) ≤ sum (take k sizes)
sum_grows sizes j k h =
    let part = sum_part (take k sizes) j in
    let same : sum (take j (take k sizes)) ≡ sum (take j sizes) = ap (λ xs. sum xs) (take-take j k sizes h) in
    omega (arith, part)

-- the bytes of the member at this index, counted from 0
pub record IsAt (sizes : List ℕ) (k : ℕ) (span : Span) : Type 0 where
  pub within : k < length sizes
  pub begins : span.offset ≡ sum (take k sizes)
  pub ends : span.offset + span.size ≡ sum (take (k + 1) sizes)

same_some : {A : Type 0} (x y : A) → ◌≡◌ {A = Option A} (Some x) (Some y) → x ≡ y
same_some x y e = cc

at_tested : (t : Bool) (sizes : List ℕ) (number : ℕ) (span : Span) → (eqb number 0 || nat_lt (length sizes) number) ≡ t
    → cond t None (Some (record { offset = sum (take (number - 1) sizes); size = get_or sizes (number - 1) 0 }))
    ≡ Some span → (0 < number) × IsAt sizes (number - 1) span
at_tested true sizes number span t e = absurd (cc)
at_tested false sizes number span t e =
    let here : ◌≡◌ {A = Span}
    (record {
      offset = sum (take (number - 1) sizes);
      size = get_or sizes
          (number - 1) 0;
    }) span = same_some _ span e in
    let offset : span.offset ≡ sum (take (number - 1) sizes) = ap (λ s. s.offset) (sym here) in
    let size : span.size ≡ get_or sizes (number - 1) 0 = ap (λ s. s.size) (sym here) in
    let low : 0 < number = grind (arith, nat_tests) in
    let high : number ≤ length sizes = grind (arith, nat_tests) in
    let through = sum-through sizes (number - 1) (omega arith) in (
      low,
      record {
        within = omega arith;
        begins = offset;
        ends = omega arith;
      },
    )

-- members are numbered from 1
pub member_at_place : (sizes : List ℕ) (number : ℕ) (span : Span) → span_of sizes number ≡ Some span
    → (0 < number) × IsAt sizes (number - 1) span
member_at_place sizes number span e = at_tested (eqb number 0 || nat_lt (length sizes) number) sizes number span refl e

pub inside : (sizes : List ℕ) (k : ℕ) (span : Span) → IsAt sizes k span → span.offset + span.size ≤ sum sizes
inside sizes k span h = omega (arith, h.ends, sum_part sizes (k + 1))

pub before : (sizes : List ℕ) (j k : ℕ) (first second : Span) → IsAt sizes j first → IsAt sizes k second → j < k
    → first.offset + first.size ≤ second.offset
before sizes j k first second a b h = omega (arith, a.ends, b.begins, sum_grows sizes (j + 1) k (omega arith))

pub length-with_bytes_at : (old bytes : List ℕ) (k : ℕ) → k + length bytes ≤ length old
    → length (with_bytes_at old k bytes) ≡ length old
length-with_bytes_at old bytes k h =
    omega (
      arith,
      length-append (take k old) (bytes ++ drop (k + length bytes) old),
      length-append bytes
          (drop (k + length bytes) old),
      length-take-le k old (omega arith),
      length-drop (k + length bytes) old,
    )

-- what was written is read
pub slice_same : (old bytes : List ℕ) (k : ℕ) → k + length bytes ≤ length old
    → take (length bytes) (drop k (with_bytes_at old k bytes)) ≡ bytes
slice_same old bytes k h =
    ap (take (length bytes))
    (drop_at (take k old) (bytes ++ drop (k + length bytes) old) k (length-take-le k old (omega arith)))
    ∙ take_at bytes (drop (k + length bytes) old) (length bytes) refl

-- what is before it is unchanged
pub slice_before : (old bytes : List ℕ) (k offset size : ℕ) → k + length bytes ≤ length old → offset + size ≤ k
    → take size (drop offset (with_bytes_at old k bytes)) ≡ take size (drop offset old)
slice_before old bytes k offset size h near =
    sym (drop-take offset size (with_bytes_at old k bytes))
    ∙ ap (drop offset) (take-append-le (offset + size) (take k old) (bytes ++ drop (k + length bytes) old)
    (omega (arith, length-take-le k old (omega arith))) ∙ take-take (offset + size) k old near)
    ∙ drop-take offset size old

-- and so is what is after it
pub slice_behind : (old bytes : List ℕ) (k offset : ℕ) → k + length bytes ≤ length old → k + length bytes ≤ offset
    → drop offset (with_bytes_at old k bytes) ≡ drop offset old
slice_behind old bytes k offset h far =
    ap (drop offset) (sym (append_assoc (take k old) bytes (drop (k + length bytes) old)))
    ∙ drop-append-drop (k + length bytes) old (take k old ++ bytes) offset far
    (omega (arith, length-append (take k old) bytes, length-take-le k old (omega arith)))
