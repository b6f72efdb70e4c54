-- Numbers as arguments give them.
use Rattle.std.proofs.Common.{◌≡◌, ℕ, ◌<◌, ◌^◌, true, List, [], ◌∷◌, ◌++◌, refl, sym, ap, ◌∙◌, subst, arith, inl, inr, nat_lt, drop}
use Rattle.std.proofs.lemmas.Bool.{and_parts}
use Rattle.std.specs.Char.{digit_value, is_digit}
use Rattle.std.specs.Prelude.{codes}
use Rattle.std.specs.List.{list_all}
use Rattle.std.specs.Str.Parse.{IsNumeral, AllDigits, digits_value, without_leading_plus}
use Rattle.cip_names.specs.Numbers.{Gives, GivesWithin}

pub digits-from_all : (radix : ℕ) (ds : List ℕ) → list_all (λ c. is_digit c radix) ds ≡ true → AllDigits radix ds
digits-from_all radix [] h = tt
digits-from_all radix (c ∷ cs) h =
    let parts = and_parts (is_digit c radix) (list_all (λ c. is_digit c radix) cs) h in
    let below : nat_lt (digit_value c) radix ≡ true = parts.0 in
    (grind arith, digits-from_all radix cs parts.1)

pub all-from_digits : (radix : ℕ) (ds : List ℕ) → AllDigits radix ds → list_all (λ c. is_digit c radix) ds ≡ true
all-from_digits radix [] h = refl
all-from_digits radix (c ∷ cs) h =
    let below : digit_value c < radix = h.0 in
    let first : is_digit c radix ≡ true = grind arith in
    rw (first, all-from_digits radix cs h.1) refl

-- decimal digits do not begin with `0x`
not_decimal : (ds : List ℕ) → IsNumeral 10 (without_leading_plus (48 ∷ 120 ∷ ds)) → ⊥
not_decimal ds h =
    let below : digit_value 120 < 10 = h.1.1.0 in
    let is : digit_value 120 ≡ 33 = refl in
    omega (arith, below, is)

not_both : (text ds : List ℕ) → text ≡ codes "0x" ++ ds → IsNumeral 10 (without_leading_plus text) → ⊥
not_both text ds e h = not_decimal ds (subst (λ t. IsNumeral 10 (without_leading_plus t)) e h)

same_digits : (text ds es : List ℕ) → text ≡ codes "0x" ++ ds → text ≡ codes "0x" ++ es → ds ≡ es
same_digits text ds es p q = ap (drop 2) (sym p ∙ q)

-- a text gives one number at most
pub unique : (text : List ℕ) (a b : ℕ) → Gives text a → Gives text b → a ≡ b
unique text a b (inl p) (inl q) = p.1 ∙ sym q.1
unique text a b (inl p) (inr (ds, q)) = absurd (not_both text ds q.0 p.0)
unique text a b (inr (ds, p)) (inl q) = absurd (not_both text ds p.0 q.0)
unique text a b (inr (ds, p)) (inr (es, q)) =
    p.2 ∙ ap (digits_value 16) (same_digits text ds es p.0 q.0) ∙ sym q.2

-- a text that gives no number of 64 bits gives none in a range of them
pub none_within : (least most : ℕ) (text : List ℕ) → most < 2 ^ 64 → ((number : ℕ) → Gives text number → number < 2 ^ 64 → ⊥)
    → (number : ℕ) → GivesWithin least most text number → ⊥
none_within least most text fits none number (gives, low, high) = none number gives (omega (arith, fits, high))
