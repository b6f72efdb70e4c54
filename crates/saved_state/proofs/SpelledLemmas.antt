-- Bytes that spell a state, and bytes that spell none.
use Rattle.std.specs.Prelude.{◌↔◌}
use Rattle.std.proofs.Common.{◌≡◌, Option, Some, None, Bool, true, false, not, ◌||◌, ◌==◌, nat_lt, if◌then◌else◌, Result, Ok, Err, ℕ, ◌+◌, ◌-◌, ◌*◌, ◌^◌, ◌<◌, ◌≤◌, List, [], ◌∷◌, ◌++◌, length, take, drop, fold, bit_xor, refl, sym, ap, subst, ◌∙◌, arith, append_assoc, append-nil, length-append, length-take, length-drop, lit<}
use Rattle.std.proofs.Math.Nat.{mod-lt}
use Rattle.std.proofs.lemmas.List.{take-append-drop, take-take, take_at, drop_at, drop_all}
use Rattle.std.proofs.lemmas.Bool.Decides.{nat_tests}
use Rattle.cip_bytes.specs.Numbers.{AreBytes}
use Rattle.cip_bytes.proofs.Bytes.{AreBytes-drop, AreBytes-take}
use Rattle.saved_state.specs.declared.fault.StateFault.{StateFault}
use Rattle.saved_state.specs.declared.fault.StateFault.TheVariants.{NotAState, Version, Cut, TooLong, Checksum}
use Rattle.saved_state.specs.Checksum.{hashed, checksum}
use Rattle.saved_state.specs.Numbers.{udint, ulint, ulint_at}
use Rattle.saved_state.specs.States.{Entry, State, entries, size, head, body, spelled, IsState}
use Rattle.saved_state.specs.Reading.{MARK, version_in, size_in, generation_in, count_in, body_in, entries_in, checksum_in, state_in}
use Rattle.saved_state.specs.Reading.{first_entries, head_fault, content_fault, entries_fault, fault_of, first_of, unless, state_of}
use Rattle.saved_state.proofs.NumberLemmas.{length-udint, length-ulint, udint_at-lt, ulint_at-lt, udint_field, ulint_field, udint_part, ulint_part, mark_spelled}
use Rattle.saved_state.proofs.ReadLemmas.{content_right}
use Rattle.saved_state.proofs.EntryRows.{AreEntries, are_entries, Again, again, count_below}

-- ---- the checksum has eight bytes

fold-lt : (hash : ℕ) (bytes : List ℕ) → hash < 2 ^ 64 → fold hashed hash bytes < 2 ^ 64
fold-lt hash [] h = h
fold-lt hash (b ∷ bytes) h = fold-lt (hashed hash b) bytes (mod-lt (bit_xor hash b * 0x100000001b3) (lit< tt))

pub checksum-lt : (bytes : List ℕ) → checksum bytes < 2 ^ 64
unfolding checksum
checksum-lt bytes = fold-lt 0xcbf29ce484222325 bytes (lit< tt)

-- ---- what the tests mean

pub passed : (b : Bool) (fault : StateFault) (rest : Option StateFault) → (if b then Some fault else rest) ≡ None
    → (b ≡ false) × (rest ≡ None)
passed true fault rest e = absurd cc
passed false fault rest e = (refl, e)

or_false : (a b : Bool) → (a || b) ≡ false → (a ≡ false) × (b ≡ false)
or_false true b e = absurd cc
or_false false b e = (refl, e)

not_below : (a b : ℕ) → nat_lt a b ≡ false → b ≤ a
not_below a b e = grind (arith, nat_tests)

not_other : (a b : ℕ) → not (a == b) ≡ false → a ≡ b
not_other a b e = grind (arith, nat_tests)

-- the head of a state, by its numbers
pub record Headed (text : List ℕ) : Type 0 where
  pub long : 36 ≤ length text
  pub mark : ulint_at 0 text ≡ MARK
  pub version : version_in text ≡ 1
  pub sized : size_in text ≡ length text

pub headed : (text : List ℕ) → head_fault text ≡ None → Headed text
headed text e =
    let first = passed (nat_lt (length text) 8 || not (ulint_at 0 text == MARK)) NotAState _ e in
    let second = passed (nat_lt (length text) 12) Cut _ first.1 in
    let third = passed (not (version_in text == 1)) (Version (version_in text)) _ second.1 in
    let fourth = passed (nat_lt (length text) 36 || nat_lt (length text) (size_in text)) Cut _ third.1 in
    let fifth = passed (nat_lt (size_in text) (length text)) TooLong None fourth.1 in
    let mark = or_false (nat_lt (length text) 8) (not (ulint_at 0 text == MARK)) first.0 in
    let sizes = or_false (nat_lt (length text) 36) (nat_lt (length text) (size_in text)) fourth.0 in
    let least = not_below (length text) (size_in text) sizes.1 in
    let most = not_below (size_in text) (length text) fifth.0 in
    record {
      long = not_below (length text) 36 sizes.0;
      mark = not_other (ulint_at 0 text) MARK mark.1;
      version = not_other (version_in text) 1 third.0;
      sized = omega arith;
    }

pub fails : (b : Bool) (x y : Option StateFault) → b ≡ false → (if b then x else y) ≡ y
fails true x y e = absurd cc
fails false x y e = refl

pub holds : (b : Bool) (x y : Option StateFault) → b ≡ true → (if b then x else y) ≡ x
holds true x y e = refl
holds false x y e = absurd cc

pub marked : (text : List ℕ) → 8 ≤ length text → ulint_at 0 text ≡ MARK
    → (nat_lt (length text) 8 || not (ulint_at 0 text == MARK)) ≡ false
marked text long mark = grind (arith, nat_tests)

pub is_below : (a b : ℕ) → a < b → nat_lt a b ≡ true
is_below a b h = grind (arith, nat_tests)

pub is_not_below : (a b : ℕ) → b ≤ a → nat_lt a b ≡ false
is_not_below a b h = grind (arith, nat_tests)

pub is_same : (a b : ℕ) → a ≡ b → not (a == b) ≡ false
is_same a b h = grind (arith, nat_tests)

pub both_false : (a b : Bool) → a ≡ false → b ≡ false → (a || b) ≡ false
both_false a b p q = rw p q

pub head_right : (text : List ℕ) → Headed text → head_fault text ≡ None
head_right text h =
    fails _ _ _ (marked text (omega (arith, h.long)) h.mark)
    ∙ fails _ _ _ (is_not_below (length text) 12 (omega (arith, h.long)))
    ∙ fails _ _ _ (is_same (version_in text) 1 h.version)
    ∙ fails _ _ _ (both_false (nat_lt (length text) 36) (nat_lt (length text) (size_in text))
    (is_not_below (length text) 36 h.long) (is_not_below (length text) (size_in text) (omega (arith, h.sized))))
    ∙ fails _ _ _ (is_not_below (size_in text) (length text) (omega (arith, h.sized)))

-- ---- bytes without a fault spell a state

no_fault : (text : List ℕ) (h c : Option StateFault) → first_of h c ≡ None → (h ≡ None) × (c ≡ None)
no_fault text None c e = (refl, e)
no_fault text (Some fault) c e = absurd cc

same_head : {a b c d e f g h i j : List ℕ} → a ≡ b → c ≡ d → e ≡ f → g ≡ h → i ≡ j
    → a ++ (c ++ (e ++ (g ++ i))) ≡ b ++ (d ++ (f ++ (h ++ j)))
same_head p q r s t = cc

regroup : (a b c d e r : List ℕ) → a ++ (b ++ (c ++ (d ++ (e ++ r)))) ≡ (a ++ (b ++ (c ++ (d ++ e)))) ++ r
regroup a b c d e r = simp append_assoc

-- the bytes from the head on, by their fields
head_fields : (text : List ℕ) → AreBytes text → 36 ≤ length text
    → text ≡ (ulint (ulint_at 0 text) ++ (udint (version_in text) ++ (udint (size_in text) ++ (ulint (generation_in text)
    ++ udint (count_in text))))) ++ drop 28 text
head_fields text fits long =
    ulint_part 0 text fits (omega arith)
    ∙ ap (λ r. ulint (ulint_at 0 text) ++ r) (udint_part 8 text fits (omega arith)
    ∙ ap (λ r. udint (version_in text) ++ r) (udint_part 12 text fits (omega arith)
    ∙ ap (λ r. udint (size_in text) ++ r) (ulint_part 16 text fits (omega arith)
    ∙ ap (λ r. ulint (generation_in text) ++ r) (udint_part 24 text fits (omega arith)))))
    ∙ regroup (ulint (ulint_at 0 text)) (udint (version_in text)) (udint (size_in text)) (ulint (generation_in text))
    (udint (count_in text)) (drop 28 text)

-- the last eight bytes
last_bytes : (text : List ℕ) → AreBytes text → 36 ≤ length text → text ≡ body_in text ++ ulint (checksum_in text)
last_bytes text fits long =
    sym (take-append-drop (length text - 8) text)
    ∙ ap (λ r. body_in text ++ r) (ulint_part (length text - 8) text fits (omega arith)
    ∙ ap (λ r. ulint (checksum_in text) ++ r) (drop_all (length text - 8 + 8) text (omega arith))
    ∙ append-nil (ulint (checksum_in text)))

-- the head is spelled by its fields
head_spelled : (text : List ℕ) → AreBytes text → Headed text → (es : List Entry) → size es ≡ length text
    → length es ≡ count_in text
    → take 28 text ≡ head (let s : State = record { generation = generation_in text; entries = es } in s)
head_spelled text fits h es sized counted =
    let fields : List ℕ
    = ulint (ulint_at 0 text) ++ (udint (version_in text) ++ (udint (size_in text) ++ (ulint (generation_in text)
    ++ udint (count_in text)))) in
    let long : length (ulint (ulint_at 0 text) ++ (udint (version_in text) ++ (udint (size_in text) ++ (ulint (generation_in text)
    ++ udint (count_in text))))) ≡ 28
    = simp (length-append, length-ulint, length-udint) refl in
    ap (take 28) (head_fields text fits h.long)
    ∙ take_at (ulint (ulint_at 0 text) ++ (udint (version_in text) ++ (udint (size_in text) ++ (ulint (generation_in text)
    ++ udint (count_in text))))) (drop 28 text) 28 long
    ∙ same_head (ap ulint h.mark ∙ mark_spelled) (ap udint h.version) (ap udint (h.sized ∙ sym sized)) refl
    (ap udint (sym counted))

-- the bytes before the checksum
body_spelled : (text : List ℕ) → AreBytes text → Headed text → AreEntries (count_in text) 0 (entries_in text)
    → size (state_in text).entries ≡ length text → body_in text ≡ body (state_in text)
body_spelled text fits h a sized =
    sym (take-append-drop 28 (body_in text))
    ∙ ap (λ t. t ++ entries_in text) (take-take 28 (length text - 8) text (omega (arith, h.long))
    ∙ head_spelled text fits h (state_in text).entries sized a.count)
    ∙ ap (λ t. head (state_in text) ++ t) a.spelled

-- the size of the entries that are read
sized_in : (text : List ℕ) → Headed text → AreEntries (count_in text) 0 (entries_in text)
    → size (state_in text).entries ≡ length text
sized_in text h a =
    let rest : length (entries_in text) ≡ length text - 8 - 28
    = simp (length-drop, length-take) (omega (arith, h.long)) in
    let same : length (entries_in text) ≡ length (entries (state_in text).entries) = ap length a.spelled in
    omega (arith, h.long)

pub spells : (text : List ℕ) → AreBytes text → fault_of text ≡ None → IsState (state_in text) × (text ≡ spelled (state_in text))
spells text fits e =
    let parts = no_fault text (head_fault text) (content_fault text) e in
    let content = passed (not (checksum (body_in text) == checksum_in text)) Checksum _ parts.1 in
    let sum : checksum (body_in text) ≡ checksum_in text
    = not_other (checksum (body_in text)) (checksum_in text) content.0 in
    let h : Headed text = headed text parts.0 in
    let a : AreEntries (count_in text) 0 (entries_in text)
    = are_entries (count_in text) 0 (entries_in text)
    (AreBytes-drop 28 (body_in text) (AreBytes-take (length text - 8) text fits)) content.1 in
    let sized : size (state_in text).entries ≡ length text = sized_in text h a in
    let is_body : body_in text ≡ body (state_in text) = body_spelled text fits h a sized in (
      record {
        rising = a.rising;
        generation = ulint_at-lt 16 text fits;
        size = omega (arith, sized, h.sized, udint_at-lt 12 text fits);
      },
      last_bytes text fits h.long
          ∙ ap (λ n. body_in text ++ ulint n) (sym sum)
          ∙ ap (λ b. b ++ ulint (checksum b)) is_body,
    )

-- ---- a state is read as it was spelled

-- a state's bytes, field by field
pub fields : (s : State) → spelled s
    ≡ ulint MARK ++ (udint 1 ++ (udint (size s.entries) ++ (ulint s.generation ++ (udint (length s.entries)
    ++ (entries s.entries ++ ulint (checksum (body s)))))))
fields s =
    ap (λ m. ((m ++ (udint 1 ++ (udint (size s.entries) ++ (ulint s.generation ++ udint (length s.entries))))) ++ entries s.entries)
    ++ ulint (checksum (body s))) (sym mark_spelled)
    ∙ append_assoc _ (entries s.entries) (ulint (checksum (body s)))
    ∙ sym (regroup (ulint MARK) (udint 1) (udint (size s.entries)) (ulint s.generation) (udint (length s.entries)) _)

pub first_two : (a b r : List ℕ) → a ++ (b ++ r) ≡ (a ++ b) ++ r
first_two a b r = simp append_assoc

first_three : (a b c r : List ℕ) → a ++ (b ++ (c ++ r)) ≡ (a ++ (b ++ c)) ++ r
first_three a b c r = simp append_assoc

first_four : (a b c d r : List ℕ) → a ++ (b ++ (c ++ (d ++ r))) ≡ (a ++ (b ++ (c ++ d))) ++ r
first_four a b c d r = simp append_assoc

length-head : (s : State) → length (head s) ≡ 28
length-head s =
    ap (λ m. length (m ++ (udint 1 ++ (udint (size s.entries) ++ (ulint s.generation ++ udint (length s.entries)))))) (sym mark_spelled)
    ∙ simp (length-append, length-ulint, length-udint) refl

pub length-body : (s : State) → length (body s) ≡ 28 + length (entries s.entries)
length-body s = length-append (head s) (entries s.entries) ∙ ap (λ n. n + length (entries s.entries)) (length-head s)

pub length-spelled : (s : State) → length (spelled s) ≡ size s.entries
length-spelled s =
    length-append (body s) (ulint (checksum (body s)))
    ∙ omega (arith, length-body s, length-ulint (checksum (body s)))

-- the fields of a state that goes on
pub record Fields (s : State) (text : List ℕ) : Type 0 where
  pub mark : ulint_at 0 text ≡ MARK
  pub version : version_in text ≡ 1
  pub sized : size_in text ≡ size s.entries
  pub generation : generation_in text ≡ s.generation
  pub count : count_in text ≡ length s.entries

pub fields_of : (s : State) (text rest : List ℕ) → IsState s
    → text ≡ ulint MARK ++ (udint 1 ++ (udint (size s.entries) ++ (ulint s.generation ++ (udint (length s.entries) ++ rest))))
    → Fields s text
fields_of s text rest ok is =
    let few : length s.entries < 2 ^ 32 = omega (arith, count_below s.entries, ok.size) in
    record {
      mark = ulint_field 0 MARK text [] _ is refl (lit< tt);
      version = udint_field 8 1 text (ulint MARK) _ is (length-ulint MARK) (lit< tt);
      sized = udint_field 12 (size s.entries) text (ulint MARK ++ udint 1) _ (is ∙ first_two (ulint MARK) (udint 1) _)
          (simp (length-append, length-ulint, length-udint) refl) ok.size;
      generation = ulint_field 16 s.generation text (ulint MARK ++ (udint 1 ++ udint (size s.entries))) _
          (is ∙ first_three (ulint MARK) (udint 1) (udint (size s.entries)) _)
          (simp (length-append, length-ulint, length-udint) refl) ok.generation;
      count = udint_field 24 (length s.entries) text (ulint MARK ++ (udint 1 ++ (udint (size s.entries) ++ ulint s.generation))) rest
          (is ∙ first_four (ulint MARK) (udint 1) (udint (size s.entries)) (ulint s.generation) _)
          (simp (length-append, length-ulint, length-udint) refl) few;
    }

body_again : (s : State) → body_in (spelled s) ≡ body s
body_again s =
    take_at (body s) (ulint (checksum (body s))) (length (spelled s) - 8)
    (omega (arith, length-append (body s) (ulint (checksum (body s))), length-ulint (checksum (body s))))

checksum_again : (s : State) → checksum_in (spelled s) ≡ checksum (body s)
checksum_again s =
    ulint_field (length (spelled s) - 8) (checksum (body s)) (spelled s) (body s) []
    (ap (λ t. body s ++ t) (sym (append-nil (ulint (checksum (body s))))))
    (omega (arith, length-append (body s) (ulint (checksum (body s))), length-ulint (checksum (body s))))
    (checksum-lt (body s))

entries_in_again : (s : State) → entries_in (spelled s) ≡ entries s.entries
entries_in_again s = ap (drop 28) (body_again s) ∙ drop_at (head s) (entries s.entries) 28 (length-head s)

same_state : {g h : ℕ} {es fs : List Entry} → g ≡ h → es ≡ fs
    → ◌≡◌ {A = State} (record { generation = g; entries = es }) (record { generation = h; entries = fs })
same_state p q = cc

fault_again : (s : State) → IsState s → Fields s (spelled s) → fault_of (spelled s) ≡ None
fault_again s ok f =
    let a : Again s.entries 0 = again s.entries 0 ok.rising (omega (arith, ok.size)) in
    let h : head_fault (spelled s) ≡ None
    = head_right (spelled s) (record {
      long = omega (arith, length-spelled s);
      mark = f.mark;
      version = f.version;
      sized = f.sized ∙ sym (length-spelled s);
    }) in
    ap (λ x. first_of x (content_fault (spelled s))) h
    ∙ content_right (spelled s) (ap checksum (body_again s) ∙ sym (checksum_again s))
    ∙ ap (λ n. entries_fault n 0 (entries_in (spelled s))) f.count
    ∙ ap (entries_fault (length s.entries) 0) (entries_in_again s) ∙ a.right

state_again : (s : State) → IsState s → Fields s (spelled s) → state_in (spelled s) ≡ s
state_again s ok f =
    let a : Again s.entries 0 = again s.entries 0 ok.rising (omega (arith, ok.size)) in
    same_state f.generation
    (ap (λ n. first_entries n (entries_in (spelled s))) f.count
    ∙ ap (first_entries (length s.entries)) (entries_in_again s) ∙ a.same)

fields_again : (s : State) → IsState s → Fields s (spelled s)
fields_again s ok = fields_of s (spelled s) (entries s.entries ++ ulint (checksum (body s))) ok (fields s)

pub read_again_lem : (s : State) → IsState s → state_of (spelled s) ≡ Ok s
read_again_lem s ok =
    ap (λ f. unless f (state_in (spelled s))) (fault_again s ok (fields_again s ok)) ∙ ap Ok (state_again s ok (fields_again s ok))

-- ---- the two together

unless_ok : (f : Option StateFault) (t s : State) → unless f t ≡ Ok s → (f ≡ None) × (t ≡ s)
unless_ok None t s e = (refl, cc)
unless_ok (Some fault) t s e = absurd cc

unless_err : (f : Option StateFault) (t : State) (fault : StateFault) → unless f t ≡ Err fault → f ≡ Some fault
unless_err None t fault e = absurd cc
unless_err (Some found) t fault e = cc

Spells : List ℕ → State → Type 0
Spells text s = IsState s × (text ≡ spelled s)

pub read_iff : (text : List ℕ) (result : Result State StateFault) (s : State) → AreBytes text → result ≡ state_of text
    → (result ≡ Ok s) ↔ (IsState s × (text ≡ spelled s))
unfolding Spells
read_iff text result s fits is = (
  (λ e. let both = unless_ok (fault_of text) (state_in text) s (sym is ∙ e) in
      subst (Spells text) both.1 (spells text fits both.0)),
  (λ h. is ∙ ap state_of h.1 ∙ read_again_lem s h.0),
)

pub refused_iff : (text : List ℕ) (result : Result State StateFault) (fault : StateFault) → result ≡ state_of text
    → (result ≡ Err fault) ↔ (fault_of text ≡ Some fault)
refused_iff text result fault is = (
  (λ e. unless_err (fault_of text) (state_in text) fault (sym is ∙ e)),
  (λ h. is ∙ ap (λ f. unless f (state_in text)) h),
)
