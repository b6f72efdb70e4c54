-- The first attribute with a number, by its index, and the place of a new one.
use Rattle.std.proofs.Common.{◌≡◌, ℕ, zero, suc, ◌<◌, ◌≤◌, eqb, true, false, cond, List, [], ◌∷◌, length, get_or, Some, None, refl, sym, ap, ◌∙◌, arith}
use Rattle.std.proofs.lemmas.Bool.Decides.{nat_tests}
use Rattle.std.specs.Prelude.{insert, nat_lt}
use Rattle.cip_application.specs.Attributes.{AttributeValues, attribute_at, with_attribute, with_placed}
use Rattle.cip_application.specs.Objects.{IsAttributeAt}

pub eqb-same : (a b : ℕ) → a ≡ b → eqb a b ≡ true
eqb-same a b h = grind (arith, nat_tests)

pub eqb-other : (a b : ℕ) → (a ≡ b → ⊥) → eqb a b ≡ false
eqb-other a b h = grind (arith, nat_tests)

lt-true : (a b : ℕ) → a < b → nat_lt a b ≡ true
lt-true a b h = grind (arith, nat_tests)

lt-false : (a b : ℕ) → b ≤ a → nat_lt a b ≡ false
lt-false a b h = grind (arith, nat_tests)

pub none_at : (xs : List AttributeValues) (n : ℕ) → ((k : ℕ) (d : AttributeValues) → k < length xs → (get_or xs k d).number ≡ n → ⊥) → attribute_at n xs ≡ None
none_at [] n h = refl
none_at (x ∷ xs) n h =
    ap (λ t. cond t (Some x) (attribute_at n xs)) (eqb-other x.number n (h 0 x (omega arith)))
    ∙ none_at xs n (λ k d lt. h (suc k) d (omega arith))

pub first_at : (xs : List AttributeValues) (n i : ℕ) → i < length xs → ((d : AttributeValues) → (get_or xs i d).number ≡ n) → ((k : ℕ) (d : AttributeValues) → k < i → (get_or xs k d).number ≡ n → ⊥) → IsAttributeAt xs n i
first_at [] n i lt here before = absurd (omega arith)
first_at (x ∷ xs) n zero lt here before = record {
  within = lt;
  numbered = here;
  here = λ d. ap (λ t. cond t (Some x) (attribute_at n xs)) (eqb-same x.number n (here x));
  replaced = λ a e. ap (λ t. cond t (a ∷ xs) (x ∷ with_attribute a xs)) (eqb-same x.number a.number (let h = here x in omega arith));
}
first_at (x ∷ xs) n (suc i) lt here before =
    let f = first_at xs n i (omega arith) here (λ k d h. before (suc k) d (omega arith)) in
    let other = before 0 x (omega arith) in
    record {
      within = lt;
      numbered = here;
      here = λ d. ap (λ t. cond t (Some x) (attribute_at n xs)) (eqb-other x.number n other) ∙ f.here d;
      replaced = λ a e. ap (λ t. cond t (a ∷ xs) (x ∷ with_attribute a xs)) (eqb-other x.number a.number (λ s. other (omega arith))) ∙ ap (λ l. x ∷ l) (f.replaced a e);
    }

-- at the end, if no number is greater
pub placed_last : (xs : List AttributeValues) (a : AttributeValues) → ((k : ℕ) (d : AttributeValues) → k < length xs → (get_or xs k d).number ≤ a.number) → insert xs (length xs) a ≡ with_placed a xs
placed_last [] a before = refl
placed_last (x ∷ xs) a before =
    let h = before 0 x (omega arith) in
    ap (λ l. x ∷ l) (placed_last xs a (λ k d lt. before (suc k) d (omega arith)))
    ∙ ap (λ t. cond t (a ∷ x ∷ xs) (x ∷ with_placed a xs)) (sym (lt-false a.number x.number h))

-- before the first of a greater number
pub placed_at : (xs : List AttributeValues) (a : AttributeValues) (i : ℕ) → i < length xs → ((d : AttributeValues) → a.number < (get_or xs i d).number) → ((k : ℕ) (d : AttributeValues) → k < i → (get_or xs k d).number ≤ a.number) → insert xs i a ≡ with_placed a xs
placed_at [] a i lt here before = absurd (omega arith)
placed_at (x ∷ xs) a zero lt here before =
    ap (λ t. cond t (a ∷ x ∷ xs) (x ∷ with_placed a xs)) (sym (lt-true a.number x.number (here x)))
placed_at (x ∷ xs) a (suc i) lt here before =
    let h = before 0 x (omega arith) in
    ap (λ l. x ∷ l) (placed_at xs a i (omega arith) here (λ k d lt. before (suc k) d (omega arith)))
    ∙ ap (λ t. cond t (a ∷ x ∷ xs) (x ∷ with_placed a xs)) (sym (lt-false a.number x.number h))

-- inside a list the default does not matter
pub same_get : {A : Type 0} (xs : List A) (k : ℕ) (d e : A) → k < length xs → get_or xs k d ≡ get_or xs k e
same_get [] k d e lt = absurd (omega arith)
same_get (x ∷ xs) zero d e lt = refl
same_get (x ∷ xs) (suc k) d e lt = same_get xs k d e (omega arith)
