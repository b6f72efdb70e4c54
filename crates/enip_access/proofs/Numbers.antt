-- The number of bits of a prefix, and decimal texts.
use Rattle.std.proofs.Common.{◌≡◌, ℕ, ◌+◌, ◌-◌, ◌*◌, ◌/◌, ◌%◌, ◌^◌, ◌<◌, ◌≤◌, Bool, true, false, ◌&&◌, List, [], ◌∷◌, ◌++◌, map, Option, Some, None, decimal, refl, sym, ap, ◌∙◌, arith, lit≤, inl, inr, le-leb, leb-true}
use Rattle.std.specs.Prelude.{nat_le, ◌↔◌}
use Rattle.std.proofs.lemmas.Bool.{and_parts, and_from, cases_lt}
use Rattle.std.proofs.lemmas.List.{map-append}
use Rattle.std.proofs.lemmas.Option.{none-some}
use Rattle.std.proofs.lemmas.Fmt.{decimal_digit, decimal-digits_of}
use Rattle.std.proofs.lemmas.Int.Digits.{digits_of_step}
use Rattle.std.specs.Int.Digits.{digits_of}
use Rattle.std.proofs.NetLemmas.Options.{cond_some}
use Rattle.enip_access.specs.Prefix.{number_in, is_digit, is_first_digit, NumbersAreTexts}

decimal_more : (n : ℕ) → 10 ≤ n → n < 2 ^ 64 → decimal n ≡ decimal (n / 10) ++ (48 + n % 10) ∷ []
decimal_more n ten small =
    decimal-digits_of n (omega arith) small
    ∙ ap (map (λ d. 48 + d)) (digits_of_step 10 n (lit≤ tt) (omega arith))
    ∙ map-append (λ d. 48 + d) (digits_of 10 (n / 10)) (n % 10 ∷ [])
    ∙ ap (λ text. text ++ (48 + n % 10) ∷ []) (sym (decimal-digits_of (n / 10) (omega arith) (omega arith)))

two : (a b : ℕ) → 1 ≤ a → a < 10 → b < 10 → decimal (10 * a + b) ≡ (48 + a) ∷ (48 + b) ∷ []
two a b p q r =
    let first : (10 * a + b) / 10 ≡ a = omega arith in
    let last : (10 * a + b) % 10 ≡ b = omega arith in
    decimal_more (10 * a + b) (omega arith) (omega arith) ∙ rw (first, last, decimal_digit a q) refl

three : (a b c : ℕ) → 1 ≤ a → a < 10 → b < 10 → c < 10 → decimal (100 * a + 10 * b + c) ≡ (48 + a) ∷ (48 + b) ∷ (48 + c) ∷ []
three a b c p q r s =
    let first : (100 * a + 10 * b + c) / 10 ≡ 10 * a + b = omega arith in
    let last : (100 * a + 10 * b + c) % 10 ≡ c = omega arith in
    decimal_more (100 * a + 10 * b + c) (omega arith) (omega arith) ∙ rw (first, last, two a b p q r) refl

record IsDigitOf (x d : ℕ) : Type 0 where
  below : d < 10
  same : 48 + d ≡ x

digit_of : (x : ℕ) → is_digit x ≡ true → IsDigitOf x (x - 48)
digit_of x h =
    let (low, high) = and_parts (nat_le 48 x) (nat_le x 57) h in
    let from : 48 ≤ x = leb-true 48 x low in
    let to : x ≤ 57 = leb-true x 57 high in
    record { below = omega arith; same = omega arith }

first_digit_of : (x : ℕ) → is_first_digit x ≡ true → IsDigitOf x (x - 48) × (1 ≤ x - 48)
first_digit_of x h =
    let (low, high) = and_parts (nat_le 49 x) (nat_le x 57) h in
    let from : 49 ≤ x = leb-true 49 x low in
    let to : x ≤ 57 = leb-true x 57 high in
    (record { below = omega arith; same = omega arith }, omega arith)

is_digit_of : (d : ℕ) → d < 10 → is_digit (48 + d) ≡ true
is_digit_of d h = and_from _ _ (le-leb 48 (48 + d) (omega arith)) (le-leb (48 + d) 57 (omega arith))

is_first_digit_of : (d : ℕ) → 1 ≤ d → d < 10 → is_first_digit (48 + d) ≡ true
is_first_digit_of d p h = and_from _ _ (le-leb 49 (48 + d) (omega arith)) (le-leb (48 + d) 57 (omega arith))

abbrev pub Is : List ℕ → ℕ → Type 0
Is text n = (n < 1000) × (text ≡ decimal n)

sound_one : (x n : ℕ) → number_in (x ∷ []) ≡ Some n → Is (x ∷ []) n
sound_one x n h =
    let (test, value) = cond_some (is_digit x) (x - 48) n h in
    let digit = digit_of x test in
    rw (← value) (omega (arith, digit.below), sym (decimal_digit (x - 48) digit.below ∙ ap (λ d. d ∷ []) digit.same))

sound_two : (x y n : ℕ) → number_in (x ∷ y ∷ []) ≡ Some n → Is (x ∷ y ∷ []) n
sound_two x y n h =
    let (test, value) = cond_some (is_first_digit x && is_digit y) (10 * (x - 48) + (y - 48)) n h in
    let (left, right) = and_parts (is_first_digit x) (is_digit y) test in
    let (a, some) = first_digit_of x left in
    let b = digit_of y right in
    rw (← value) (omega (arith, a.below, b.below), sym (two (x - 48) (y - 48) some a.below b.below ∙ rw (a.same, b.same) refl))

sound_three : (x y z n : ℕ) → number_in (x ∷ y ∷ z ∷ []) ≡ Some n → Is (x ∷ y ∷ z ∷ []) n
sound_three x y z n h =
    let (test, value) = cond_some (is_first_digit x && is_digit y && is_digit z) (100 * (x - 48) + 10 * (y - 48) + (z - 48)) n h in
    let (front, last) = and_parts (is_first_digit x && is_digit y) (is_digit z) test in
    let (left, right) = and_parts (is_first_digit x) (is_digit y) front in
    let (a, some) = first_digit_of x left in
    let b = digit_of y right in
    let c = digit_of z last in
    rw (← value) (omega (arith, a.below, b.below, c.below), sym (three (x - 48) (y - 48) (z - 48) some a.below b.below c.below ∙ rw (a.same, b.same, c.same) refl))

pub sound : (text : List ℕ) (n : ℕ) → number_in text ≡ Some n → Is text n
sound [] n h = absurd (none-some n h)
sound (x ∷ []) n h = sound_one x n h
sound (x ∷ y ∷ []) n h = sound_two x y n h
sound (x ∷ y ∷ z ∷ []) n h = sound_three x y z n h
sound (x ∷ y ∷ z ∷ u ∷ rest) n h = absurd (none-some n h)

pub complete : (n : ℕ) → n < 1000 → number_in (decimal n) ≡ Some n
complete n h =
    elim (cases_lt n 10) [
      | inl one ↦
          let value : 48 + n - 48 ≡ n = omega arith in
          rw (decimal_digit n one, is_digit_of n one) (ap Some value)
      | inr more ↦ elim (cases_lt n 100) [
        | inl small ↦
            let a = n / 10 in
            let b = n % 10 in
            let split : n ≡ 10 * a + b = omega arith in
            let value : 10 * (48 + a - 48) + (48 + b - 48) ≡ n = omega arith in
            rw (ap decimal split ∙ two a b (omega arith) (omega arith) (omega arith), is_first_digit_of a (omega arith) (omega arith), is_digit_of b (omega arith)) (ap Some value)
        | inr large ↦
            let a = n / 100 in
            let b = n / 10 % 10 in
            let c = n % 10 in
            let split : n ≡ 100 * a + 10 * b + c = omega arith in
            let value : 100 * (48 + a - 48) + 10 * (48 + b - 48) + (48 + c - 48) ≡ n = omega arith in
            rw (ap decimal split ∙ three a b c (omega arith) (omega arith) (omega arith) (omega arith), is_first_digit_of a (omega arith) (omega arith), is_digit_of b (omega arith), is_digit_of c (omega arith)) (ap Some value)
      ]
    ]

pub numbers_are_texts : NumbersAreTexts
numbers_are_texts text n = (sound text n, λ is. ap number_in is.1 ∙ complete n is.0)
