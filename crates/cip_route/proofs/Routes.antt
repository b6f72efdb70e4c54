-- Parsing a route: where a separator is, and the texts between commas.
use Rattle.std.proofs.Common.{◌≡◌, ℕ, ◌+◌, ◌%◌, ◌<◌, ◌≤◌, Bool, true, false, not, suc, cond, eqb, List, [], ◌∷◌, ◌++◌, length, get_or, take, drop, Result, Ok, Err, refl, sym, ap, subst, ◌∙◌, arith, rules}
use Rattle.std.specs.Prelude.{IsOk, OnOk, OnErr}
use Rattle.std.proofs.lemmas.Bool.{eqb-true, eqb-false}
use Rattle.std.proofs.lemmas.List.{length-append}
use Rattle.std.specs.List.{position_or_len, slice_split, onto_first}
use Rattle.std.proofs.lemmas.List.Sums.{position_or_len_is}
use Rattle.std.proofs.lemmas.List.Splits.{slice_split_first}
use Rattle.cip_route.specs.Hop.{Hop, hop_fields, hop_bytes}
use Rattle.cip_route.specs.Route.{IsRoute, with_text, with_texts}
use Rattle.cip_route.specs.declared.route.RouteFault.{RouteFault}
use Rattle.cip_bytes.specs.Reading.{◌>>=◌}

-- a byte is this one
abbrev pub is_byte : ℕ → ℕ → Bool
is_byte c = λ b. eqb b c

pub found_at : (c : ℕ) (xs : List ℕ) (i : ℕ) → i < length xs → ((k : ℕ) → k < i → eqb (get_or xs k 0) c ≡ false) → eqb (get_or xs i 0) c ≡ true
    → i ≡ position_or_len (is_byte c) xs
found_at c xs i below before here = sym (position_or_len_is (is_byte c) xs i 0 (omega arith) before (λ _. here))

pub found_nowhere : (c : ℕ) (xs : List ℕ) (i : ℕ) → i ≡ length xs → ((k : ℕ) → k < i → eqb (get_or xs k 0) c ≡ false)
    → i ≡ position_or_len (is_byte c) xs
found_nowhere c xs i end before = sym (position_or_len_is (is_byte c) xs i 0 (omega arith) before (λ below. absurd (omega arith)))

-- a text without the separator is the only one
only_by : (t : Bool) (p : ℕ → Bool) (x : ℕ) (xs : List ℕ) → p x ≡ t → cond (not t) (1 + position_or_len p xs) 0 ≡ suc (length xs)
    → (position_or_len p xs ≡ length xs → slice_split p xs ≡ xs ∷ [])
    → cond t ([] ∷ slice_split p xs) (onto_first x (slice_split p xs)) ≡ (x ∷ xs) ∷ []
only_by true p x xs e none rest = absurd (omega arith)
only_by false p x xs e none rest = ap (onto_first x) (rest (omega arith))

pub only_one : (p : ℕ → Bool) (xs : List ℕ) → position_or_len p xs ≡ length xs → slice_split p xs ≡ xs ∷ []
only_one p [] none = refl
only_one p (x ∷ xs) none = only_by (p x) p x xs refl none (only_one p xs)

-- otherwise the first one ends at the separator
pub first_and_rest : (p : ℕ → Bool) (xs : List ℕ) (i : ℕ) → i ≡ position_or_len p xs → i < length xs
    → slice_split p xs ≡ take i xs ∷ slice_split p (drop (i + 1) xs)
first_and_rest p xs i is below =
    slice_split_first p xs 0 (omega arith) ∙ ap (λ (k : ℕ). take k xs ∷ slice_split p (drop (k + 1) xs)) (sym is)

-- ---- a hop more

padded_even : (t : Bool) (b : List ℕ) → eqb (length b % 2) 0 ≡ t → length (cond t b (b ++ 0 ∷ [])) % 2 ≡ 0
padded_even true b e = eqb-true _ _ e
padded_even false b e =
    let some : length b % 2 ≡ 0 → ⊥ = eqb-false _ _ e in
    let below : length b % 2 < 2 = omega arith in
    omega (arith, length-append b (0 ∷ []), some)

pub hop_even : (h : Hop) → length (hop_bytes h) % 2 ≡ 0
unfolding hop_bytes
hop_even h = padded_even (eqb (length (hop_fields h) % 2) 0) (hop_fields h) refl

-- the items of a buffer that did not change
pub same_items : {X E : Type 0} (r : Result (Unit {0}) E) (f : X → List ℕ) (x y : X) → OnErr r (x ≡ y) → OnErr r (f x ≡ f y)
same_items (Ok done) f x y same = search rules
same_items (Err why) f x y same = ap f same

pub still_route : {E : Type 0} (r : Result (Unit {0}) E) (h : Hop) (old new : List ℕ) → IsRoute old
    → (IsOk r → length old + length (hop_bytes h) ≤ 64) → OnOk r (new ≡ old ++ hop_bytes h) → OnErr r (new ≡ old) → IsRoute new
still_route (Ok done) h old new is fits longer same =
    let even = hop_even h in
    let before = is.whole_words in
    let size = fits (search rules) in
    record {
      whole_words = omega (arith, ap length longer, length-append old (hop_bytes h));
      within = omega (arith, ap length longer, length-append old (hop_bytes h));
    }
still_route (Err why) h old new is fits longer same = subst IsRoute (sym same) is

-- ---- one text after another

bind_done : (r : Result (List ℕ) RouteFault) → (r >>= λ longer. Ok longer) ≡ r
bind_done (Ok longer) = refl
bind_done (Err why) = refl

pub adds_last : (route text : List ℕ) (r : Result (List ℕ) RouteFault) → r ≡ with_text route text
    → position_or_len (is_byte 44) text ≡ length text → r ≡ with_texts route (slice_split (is_byte 44) text)
adds_last route text r e none =
    e ∙ sym (bind_done (with_text route text)) ∙ ap (with_texts route) (sym (only_one (is_byte 44) text none))

pub adds_first : (route text longer : List ℕ) (end : ℕ) → Ok longer ≡ with_text route (take end text)
    → end ≡ position_or_len (is_byte 44) text → end < length text
    → with_texts route (slice_split (is_byte 44) text) ≡ with_texts longer (slice_split (is_byte 44) (drop (end + 1) text))
adds_first route text longer end e is below =
    ap (with_texts route) (first_and_rest (is_byte 44) text end is below)
    ∙ ap (λ (r : Result (List ℕ) RouteFault). r >>= λ more. with_texts more (slice_split (is_byte 44) (drop (end + 1) text))) (sym e)

pub fails_first : (route text : List ℕ) (why : RouteFault) (end : ℕ) → Err why ≡ with_text route (take end text)
    → end ≡ position_or_len (is_byte 44) text → end < length text
    → with_texts route (slice_split (is_byte 44) text) ≡ Err why
fails_first route text why end e is below =
    ap (with_texts route) (first_and_rest (is_byte 44) text end is below)
    ∙ ap (λ (r : Result (List ℕ) RouteFault). r >>= λ more. with_texts more (slice_split (is_byte 44) (drop (end + 1) text))) (sym e)
