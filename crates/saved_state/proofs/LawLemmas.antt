-- The laws of states.
use Rattle.std.proofs.Common.{◌≡◌, ◌≢◌, Option, Some, Bool, true, false, not, ◌||◌, ◌==◌, nat_lt, if◌then◌else◌, Ok, ℕ, ◌+◌, ◌-◌, ◌^◌, ◌<◌, ◌≤◌, List, [], ◌++◌, length, codes, refl, sym, ap, ◌∙◌, inl, inr, arith, append_assoc, append-nil, length-append, lit<}
use Rattle.std.proofs.lemmas.List.{take_at}
use Rattle.std.proofs.lemmas.Bool.{cases_lt}
use Rattle.std.proofs.lemmas.Bool.Decides.{nat_tests}
use Rattle.saved_state.specs.declared.fault.StateFault.{StateFault}
use Rattle.saved_state.specs.declared.fault.StateFault.TheVariants.{NotAState, Version, Cut, TooLong, Checksum}
use Rattle.saved_state.specs.Checksum.{checksum}
use Rattle.saved_state.specs.Numbers.{udint, ulint, ulint_at}
use Rattle.saved_state.specs.States.{State, IsState, entries, size, body, spelled}
use Rattle.saved_state.specs.Reading.{MARK, version_in, size_in, body_in, checksum_in, head_fault, content_fault, fault_of, first_of, state_of}
use Rattle.saved_state.proofs.NumberLemmas.{length-udint, length-ulint, udint_field, ulint_field, udint_at-append, ulint_at-append, mark_spelled}
use Rattle.saved_state.proofs.SpelledLemmas.{Fields, fields_of, fields, head_right, length-spelled, length-body, fails, holds, marked, is_below, is_not_below, is_same, both_false, read_again_lem}

ok_is : (s t : State) → ◌≡◌ {A = Rattle.std.specs.declared.result.Result.TheVariants.the_data State StateFault} (Ok s) (Ok t) → s ≡ t
ok_is s t e = cc

pub one_state_lem : (s t : State) → IsState s → IsState t → spelled s ≡ spelled t → s ≡ t
one_state_lem s t p q e = ok_is s t (sym (read_again_lem s p) ∙ ap state_of e ∙ read_again_lem t q)

-- ---- heads with a fault

second_true : (a b : Bool) → b ≡ true → (a || b) ≡ true
second_true true b p = refl
second_true false b p = p

first_true : (a b : Bool) → a ≡ true → (a || b) ≡ true
first_true a b p = rw p refl

not_same : (a b : ℕ) → a ≢ b → not (a == b) ≡ true
not_same a b h = grind (arith, nat_tests)

-- the first three checks are passed
pub begun : (text : List ℕ) (rest : Option StateFault) → 12 ≤ length text → ulint_at 0 text ≡ MARK → version_in text ≡ 1
    → (if nat_lt (length text) 8 || not (ulint_at 0 text == MARK) then Some NotAState
    else (if nat_lt (length text) 12 then Some Cut
    else (if not (version_in text == 1) then Some (Version (version_in text)) else rest))) ≡ rest
begun text rest long mark version =
    fails _ _ _ (marked text (omega arith) mark)
    ∙ fails _ _ _ (is_not_below (length text) 12 long)
    ∙ fails _ _ _ (is_same (version_in text) 1 version)

too_long : (text : List ℕ) → 36 ≤ length text → ulint_at 0 text ≡ MARK → version_in text ≡ 1 → size_in text < length text
    → head_fault text ≡ Some TooLong
too_long text long mark version over =
    begun text _ (omega arith) mark version
    ∙ fails _ _ _ (both_false (nat_lt (length text) 36) (nat_lt (length text) (size_in text))
    (is_not_below (length text) 36 long) (is_not_below (length text) (size_in text) (omega arith)))
    ∙ holds _ _ _ (is_below (size_in text) (length text) over)

cut_early : (text : List ℕ) → 8 ≤ length text → length text < 12 → ulint_at 0 text ≡ MARK → head_fault text ≡ Some Cut
cut_early text long short mark =
    fails _ _ _ (marked text long mark) ∙ holds _ _ _ (is_below (length text) 12 short)

cut_in_head : (text : List ℕ) → 12 ≤ length text → length text < 36 → ulint_at 0 text ≡ MARK → version_in text ≡ 1
    → head_fault text ≡ Some Cut
cut_in_head text long short mark version =
    begun text _ long mark version
    ∙ holds _ _ _ (first_true (nat_lt (length text) 36) (nat_lt (length text) (size_in text)) (is_below (length text) 36 short))

cut_late : (text : List ℕ) → 36 ≤ length text → ulint_at 0 text ≡ MARK → version_in text ≡ 1 → length text < size_in text
    → head_fault text ≡ Some Cut
cut_late text long mark version short =
    begun text _ (omega arith) mark version
    ∙ holds _ _ _ (second_true (nat_lt (length text) 36) (nat_lt (length text) (size_in text)) (is_below (length text) (size_in text) short))

unmarked : (text : List ℕ) → length text < 8 → head_fault text ≡ Some NotAState
unmarked text short =
    holds _ _ _ (first_true (nat_lt (length text) 8) (not (ulint_at 0 text == MARK)) (is_below (length text) 8 short))

found : (text : List ℕ) (fault : StateFault) → head_fault text ≡ Some fault → fault_of text ≡ Some fault
found text fault e = ap (λ h. first_of h (content_fault text)) e

-- ---- what is not a state

more_parts : (a b c d e f g m : List ℕ) → (a ++ (b ++ (c ++ (d ++ (e ++ (f ++ g)))))) ++ m
    ≡ a ++ (b ++ (c ++ (d ++ (e ++ (f ++ (g ++ m))))))
more_parts a b c d e f g m = simp append_assoc

pub follows_lem : (s : State) (more : List ℕ) → IsState s → 0 < length more → fault_of (spelled s ++ more) ≡ Some TooLong
follows_lem s more ok some =
    let f : Fields s (spelled s ++ more)
    = fields_of s (spelled s ++ more) (entries s.entries ++ (ulint (checksum (body s)) ++ more)) ok
    (ap (λ t. t ++ more) (fields s)
    ∙ more_parts (ulint MARK) (udint 1) (udint (size s.entries)) (ulint s.generation) (udint (length s.entries))
    (entries s.entries) (ulint (checksum (body s))) more) in
    let long : length (spelled s ++ more) ≡ size s.entries + length more
    = length-append (spelled s) more ∙ ap (λ n. n + length more) (length-spelled s) in
    found (spelled s ++ more) TooLong
    (too_long (spelled s ++ more) (omega (arith, long)) f.mark f.version (omega (arith, long, f.sized)))

cut_at : (s : State) (front rest : List ℕ) → IsState s → front ++ rest ≡ spelled s → 0 < length rest
    → 8 ≤ length front → Fields s (front ++ rest) → head_fault front ≡ Some Cut
cut_at s front rest ok e some long f =
    let mark : ulint_at 0 front ≡ MARK = sym (ulint_at-append 0 front rest long) ∙ f.mark in
    let whole : length front + length rest ≡ size s.entries
    = sym (length-append front rest) ∙ ap length e ∙ length-spelled s in
    elim (cases_lt (length front) 12) [
      | inl early ↦ cut_early front long early mark
      | inr later ↦
          let version : version_in front ≡ 1 = sym (udint_at-append 8 front rest later) ∙ f.version in
          elim (cases_lt (length front) 36) [
            | inl head ↦ cut_in_head front later head mark version
            | inr late ↦
                let sized : size_in front ≡ size s.entries
                = sym (udint_at-append 12 front rest (omega arith)) ∙ f.sized in
                cut_late front late mark version (omega arith)
          ]
    ]

pub cut_lem : (s : State) (front rest : List ℕ) → IsState s → front ++ rest ≡ spelled s → 0 < length rest
    → 8 ≤ length front → fault_of front ≡ Some Cut
cut_lem s front rest ok e some long =
    found front Cut (cut_at s front rest ok e some long
    (fields_of s (front ++ rest) (entries s.entries ++ ulint (checksum (body s))) ok (e ∙ fields s)))

pub unmarked_lem : (front : List ℕ) → length front < 8 → fault_of front ≡ Some NotAState
unmarked_lem front short = found front NotAState (unmarked front short)

sum_parts : (a b c d e f g : List ℕ) → ((a ++ (b ++ (c ++ (d ++ e)))) ++ f) ++ g
    ≡ a ++ (b ++ (c ++ (d ++ (e ++ (f ++ g)))))
sum_parts a b c d e f g = simp append_assoc

wrong_sum : (text : List ℕ) → checksum (body_in text) ≢ checksum_in text → content_fault text ≡ Some Checksum
wrong_sum text h = holds _ _ _ (not_same (checksum (body_in text)) (checksum_in text) h)

pub checksum_lem : (s : State) (sum : ℕ) → IsState s → sum < 2 ^ 64 → sum ≢ checksum (body s)
    → fault_of (body s ++ ulint sum) ≡ Some Checksum
checksum_lem s sum ok small other =
    let f : Fields s (body s ++ ulint sum)
    = fields_of s (body s ++ ulint sum) (entries s.entries ++ ulint sum) ok
    (ap (λ m. ((m ++ (udint 1 ++ (udint (size s.entries) ++ (ulint s.generation ++ udint (length s.entries))))) ++ entries s.entries)
    ++ ulint sum) (sym mark_spelled)
    ∙ sum_parts (ulint MARK) (udint 1) (udint (size s.entries)) (ulint s.generation) (udint (length s.entries))
    (entries s.entries) (ulint sum)) in
    let long : length (body s ++ ulint sum) ≡ size s.entries
    = length-append (body s) (ulint sum) ∙ omega (arith, length-body s, length-ulint sum) in
    let before : length (body s) ≡ length (body s ++ ulint sum) - 8
    = omega (arith, long, length-body s) in
    let is_body : body_in (body s ++ ulint sum) ≡ body s
    = take_at (body s) (ulint sum) (length (body s ++ ulint sum) - 8) before in
    let is_sum : checksum_in (body s ++ ulint sum) ≡ sum
    = ulint_field (length (body s ++ ulint sum) - 8) sum (body s ++ ulint sum) (body s) []
    (ap (λ t. body s ++ t) (sym (append-nil (ulint sum)))) before small in
    ap (λ h. first_of h (content_fault (body s ++ ulint sum))) (head_right (body s ++ ulint sum) (record {
      long = omega (arith, long);
      mark = f.mark;
      version = f.version;
      sized = f.sized ∙ sym long;
    }))
    ∙ wrong_sum (body s ++ ulint sum) (λ e. other (sym is_sum ∙ sym e ∙ ap checksum is_body))

other_version : (text : List ℕ) → 12 ≤ length text → ulint_at 0 text ≡ MARK → version_in text ≢ 1
    → head_fault text ≡ Some (Version (version_in text))
other_version text long mark other =
    fails _ _ _ (marked text (omega arith) mark)
    ∙ fails _ _ _ (is_not_below (length text) 12 long)
    ∙ holds _ _ _ (not_same (version_in text) 1 other)

pub version_lem : (version : ℕ) (rest : List ℕ) → version < 2 ^ 32 → version ≢ 1
    → fault_of (codes "SOMBIKPT" ++ (udint version ++ rest)) ≡ Some (Version version)
version_lem version rest small other =
    let text : List ℕ = ulint MARK ++ (udint version ++ rest) in
    let long : 12 ≤ length (ulint MARK ++ (udint version ++ rest))
    = omega (arith, length-append (ulint MARK) (udint version ++ rest), length-append (udint version) rest, length-ulint MARK, length-udint version) in
    let mark : ulint_at 0 (ulint MARK ++ (udint version ++ rest)) ≡ MARK
    = ulint_field 0 MARK (ulint MARK ++ (udint version ++ rest)) [] (udint version ++ rest) refl refl (lit< tt) in
    let is : version_in (ulint MARK ++ (udint version ++ rest)) ≡ version
    = udint_field 8 version (ulint MARK ++ (udint version ++ rest)) (ulint MARK) rest refl (length-ulint MARK) small in
    ap (λ m. fault_of (m ++ (udint version ++ rest))) (sym mark_spelled)
    ∙ found (ulint MARK ++ (udint version ++ rest)) (Version (version_in (ulint MARK ++ (udint version ++ rest))))
    (other_version (ulint MARK ++ (udint version ++ rest)) long mark (λ e. other (sym is ∙ e)))
    ∙ ap (λ v. Some (Version v)) is
