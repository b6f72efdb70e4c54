-- Parsing words.
use Rattle.std.proofs.Common.{◌≡◌, ◌≢◌, ◌⊎◌, ℕ, zero, suc, ◌-◌, ◌*◌, ◌^◌, ◌<◌, ◌≤◌, Bool, true, false, List, [], ◌∷◌, ◌++◌, length, get_or, take, drop, refl, sym, ap, subst, ◌∙◌, arith, inl, inr, ℤ, pos, negsuc, neg_ℤ, ◌-ℤ◌, nat_lt, ◌==◌, min, of_z, to_z, Result, Ok, Err, MatchResult, FitsSigned}
use Rattle.std.proofs.Math.Nat.{pow-le-pow_right}
use Rattle.std.proofs.lemmas.Bool.{and_parts, cases_lt, eq-eqb, ne_eqb}
use Rattle.std.proofs.lemmas.List.{length-drop, take_all}
use Rattle.std.proofs.lemmas.Int.{ints, to_z-of_z}
use Rattle.std.specs.Char.{digit_value, is_digit}
use Rattle.std.specs.Prelude.{unsigned_abs, codes}
use Rattle.std.specs.Int.{w128}
use Rattle.std.specs.List.{list_all}
use Rattle.std.specs.Result.{OkIff, result_unwrap_or}
use Rattle.std.specs.Str.Parse.{IsNumeral, AllDigits, digits_value, ParsesSigned}
use Rattle.cip_values.specs.Values.{IsUnsignedOf}
use Rattle.cip_values.specs.Parsing.{ParsesAsInteger, ParsesAsSized, ParsesAsUnsigned, ParsesAsBits, Clamps}
use Rattle.cip_values.specs.declared.parsing.ParseFault.{ParseFault}
use Rattle.cip_values.specs.declared.parsing.ParseFault.TheVariants as parse_faults

-- ---- digits

pub digits-from_all : (radix : ℕ) (ds : List ℕ) → list_all (λ c. is_digit c radix) ds ≡ true → AllDigits radix ds
digits-from_all radix [] h = tt
digits-from_all radix (c ∷ cs) h =
    let parts = and_parts (is_digit c radix) (list_all (λ c. is_digit c radix) cs) h in
    let below : nat_lt (digit_value c) radix ≡ true = parts.0 in
    (grind arith, digits-from_all radix cs parts.1)

pub all-from_digits : (radix : ℕ) (ds : List ℕ) → AllDigits radix ds → list_all (λ c. is_digit c radix) ds ≡ true
all-from_digits radix [] h = refl
all-from_digits radix (c ∷ cs) h =
    let below : digit_value c < radix = h.0 in
    let first : is_digit c radix ≡ true = grind arith in
    rw (first, all-from_digits radix cs h.1) refl

-- a numeral does not begin with a sign
first_digit : (radix c : ℕ) (cs : List ℕ) → radix ≤ 16 → IsNumeral radix (c ∷ cs) → (c ≢ 43) × (c ≢ 45) × (c ≢ 120)
first_digit radix c cs high h =
    let below : digit_value c < radix = h.1.0 in (
      (λ e. let at : digit_value c ≡ 36 = ap digit_value e in omega (arith, below, at)),
      (λ e. let at : digit_value c ≡ 36 = ap digit_value e in omega (arith, below, at)),
      (λ e. let at : digit_value c ≡ 33 = ap digit_value e in omega (arith, below, at)),
    )

clamped : {E : Type 0} (radix : ℕ) (ds : List ℕ) (r : Result ℤ E) → IsNumeral radix ds
    → OkIff r (IsNumeral radix ds × FitsSigned w128 (pos (digits_value radix ds))) (pos (digits_value radix ds))
    → result_unwrap_or r (pos (2 ^ 127 - 1)) ≡ pos (min (digits_value radix ds) (2 ^ 127 - 1))
clamped radix ds (Ok n) h p =
    let fits : digits_value radix ds < 2 ^ 127 = p.0.1.sfits in
    p.1 ∙ ap pos (omega arith)
clamped radix ds (Err x) h p =
    elim (cases_lt (digits_value radix ds) (2 ^ 127)) [
      | inl lt ↦ absurd (p (h, record { sfits = lt }))
      | inr le ↦ ap pos (omega arith)
    ]

-- what a numeral parses as, or the greatest number of 127 bits
pub parsed : {E : Type 0} (radix : ℕ) (ds : List ℕ) (r : Result ℤ E) → radix ≤ 16 → IsNumeral radix ds → ParsesSigned w128 radix ds r
    → result_unwrap_or r (pos (2 ^ 127 - 1)) ≡ pos (min (digits_value radix ds) (2 ^ 127 - 1))
parsed radix [] r high h p = absurd (omega (arith, h.0))
parsed {E} radix (c ∷ cs) r high h p =
    let first = first_digit radix c cs high h in
    let plus : (c == 43) ≡ false = grind arith in
    let minus : (c == 45) ≡ false = grind arith in
    let plain : OkIff r (IsNumeral radix (c ∷ cs) × FitsSigned w128 (pos (digits_value radix (c ∷ cs)))) (pos (digits_value radix (c ∷ cs))) =
    rw (minus, plus) at p in
    clamped radix (c ∷ cs) r h plain

-- ---- dates and times

-- the text after eleven characters
pub behind_separator : (text : List ℕ) → take (length text - 11) (drop 11 text) ≡ drop 11 text
behind_separator text = take_all (length text - 11) (drop 11 text) (omega (arith, length-drop 11 text))

-- ---- integers

-- the greatest number of 127 bits
abbrev most : ℕ
most = 2 ^ 127 - 1

-- what is returned for a number, clamped to 127 bits
near : (v : ℕ) (Told : ℤ → Type 0) → Told (pos v) → Clamps Told (pos (min v most))
near v Told h = elim (cases_lt most v) [
  | inl past ↦
      let e : min v most ≡ most = omega arith in
      rw e (pos v, (h, inr (omega arith, omega arith)))
  | inr within ↦
      let e : min v most ≡ v = omega arith in
      rw e (pos v, (h, inl refl))
]

-- the same below 0
near_below : (v : ℕ) (Told : ℤ → Type 0) → Told (neg_ℤ (pos v)) → Clamps Told (neg_ℤ (pos (min v most)))
near_below v Told h = elim (cases_lt most v) [
  | inl past ↦
      let e : min v most ≡ most = omega arith in
      rw e (neg_ℤ (pos v), (h, inr (far v (omega arith), omega arith)))
  | inr within ↦
      let e : min v most ≡ v = omega arith in
      rw e (neg_ℤ (pos v), (h, inl refl))
]
  where
    far : (v : ℕ) → 2 ^ 64 ≤ v → 2 ^ 64 ≤ unsigned_abs (neg_ℤ (pos v))
    far zero h = h
    far (suc v) h = h

fits_most : (v : ℕ) → FitsSigned w128 (pos (min v most))
fits_most v = record { sfits = omega arith }

-- a minus sign is not a digit
not_numeral : (c : ℕ) (cs : List ℕ) → (c ≡ 45) ⊎ ((d : ℕ) × ((ds : List ℕ) × ((cs ≡ d ∷ ds) × (d ≡ 120)))) → IsNumeral 10 (c ∷ cs) → ⊥
not_numeral c cs (inl e) h = (first_digit 10 c cs (omega arith) h).1 e
not_numeral c cs (inr (d, (ds, (e, x)))) h =
    let rest : AllDigits 10 (d ∷ ds) = rw e at h.1.1 in
    (first_digit 10 d ds (omega arith) (omega arith, rest)).2 x

-- what the digits after a minus sign parse as
pub negative_told : (word digits : List ℕ) (n : ℤ) → word ≡ codes "-" ++ digits → IsNumeral 10 digits
    → n ≡ pos (min (digits_value 10 digits) most)
    → Clamps (ParsesAsInteger word) (to_z w128 (of_z w128 (pos 0 -ℤ to_z w128 (of_z w128 n))))
negative_told word digits n e numeral value =
    let v = digits_value 10 digits in
    let parses : ParsesAsInteger word (neg_ℤ (pos v)) = inr (digits, (e, numeral, refl)) in
    let fits : FitsSigned w128 n = rw value (fits_most v) in
    let is : to_z w128 (of_z w128 n) ≡ pos (min v most) = to_z-of_z w128 n fits ∙ value in
    let minus : to_z w128 (of_z w128 (pos 0 -ℤ pos (min v most))) ≡ neg_ℤ (pos (min v most)) = omega (arith, ints) in
    rw (is, minus) (near_below v (ParsesAsInteger word) parses)

pub plain_told : (word : List ℕ) (n : ℤ) → IsNumeral 10 word → n ≡ pos (min (digits_value 10 word) most) → Clamps (ParsesAsInteger word) n
plain_told word n numeral value = rw value (near (digits_value 10 word) (ParsesAsInteger word) (inl (numeral, refl)))

pub plain_untold : (word : List ℕ) → ((rest : List ℕ) → word ≢ codes "-" ++ rest) → (IsNumeral 10 word → ⊥) → (z : ℤ) → ParsesAsInteger word z → ⊥
plain_untold word sign none z (inl (numeral, _)) = none numeral
plain_untold word sign none z (inr (ds, (f, numeral, _))) = sign ds f

pub hexadecimal_told : (word digits : List ℕ) (n : ℤ) → word ≡ codes "0x" ++ digits → IsNumeral 16 digits
    → n ≡ pos (min (digits_value 16 digits) most) → Clamps (ParsesAsBits word) n
hexadecimal_told word digits n e numeral value =
    rw value (near (digits_value 16 digits) (ParsesAsBits word) (inr (digits, (e, numeral, refl))))

pub hexadecimal_untold : (word digits : List ℕ) → word ≡ codes "0x" ++ digits → (IsNumeral 16 digits → ⊥) → (z : ℤ) → ParsesAsBits word z → ⊥
hexadecimal_untold word digits e none z (inl (inl (numeral, _))) =
    not_numeral 48 (120 ∷ digits) (inr (120, (digits, (refl, refl)))) (rw e at numeral)
hexadecimal_untold word digits e none z (inl (inr (ds, (f, _, _)))) =
    let first : 48 ≡ 45 = ap (λ (t : List ℕ). get_or t 0 0) (sym e ∙ f) in absurd (omega (arith, first))
hexadecimal_untold word digits e none z (inr (ds, (f, numeral, _))) =
    let same : digits ≡ ds = ap (drop 2) (sym e ∙ f) in
    none (rw same numeral)

pub bits_told : (word : List ℕ) (n : ℤ) → Clamps (ParsesAsInteger word) n → Clamps (ParsesAsBits word) n
bits_told word n (z, (parses, same)) = (z, (inl parses, same))

pub bits_untold : (word : List ℕ) → ((rest : List ℕ) → word ≢ codes "0x" ++ rest) → ((z : ℤ) → ParsesAsInteger word z → ⊥) → (z : ℤ) → ParsesAsBits word z → ⊥
bits_untold word mark none z (inl parses) = none z parses
bits_untold word mark none z (inr (ds, (f, _, _))) = mark ds f

-- ---- ranges

power_le : (n : ℕ) → n ≤ 8 → (2 ^ (8 * n - 1) ≤ 2 ^ 63) × (2 ^ (8 * n) ≤ 2 ^ 64)
power_le n high = (
  pow-le-pow_right {n = 2} (omega arith) {i = 8 * n - 1} {j = 63} (omega arith),
  pow-le-pow_right {n = 2} (omega arith) {i = 8 * n} {j = 64} (omega arith),
)

unsigned_near : (n : ℕ) (z : ℤ) → n ≤ 8 → IsUnsignedOf n z → unsigned_abs z < 2 ^ 64
unsigned_near n (pos k) high h = let below : k < 2 ^ (8 * n) = h in let p = (power_le n high).1 in omega arith
unsigned_near n (negsuc k) high h = absurd h

told_out : (Told In : ℤ → Type 0) → ((z : ℤ) → In z → unsigned_abs z < 2 ^ 64) → (n : ℤ) → Clamps Told n → (In n → ⊥)
    → (z : ℤ) × (Told z × (In z → ⊥))
told_out Told In small n (z, (parses, inl e)) h = (z, (parses, rw e at h))
told_out Told In small n (z, (parses, inr far)) h = (z, (parses, λ k. let near = small z k in omega (arith, near, far.0)))

pub unsigned_out : (Told : ℤ → Type 0) (size : ℕ) (n : ℤ) → size ≤ 8 → Clamps Told n → (IsUnsignedOf size n → ⊥) → (z : ℤ) × (Told z × (IsUnsignedOf size z → ⊥))
unsigned_out Told size n high = told_out Told (IsUnsignedOf size) (λ z. unsigned_near size z high) n

-- ---- what the parsers return

-- a parser returns what the word parses as, clamped, or the word does not parse
abbrev pub Reads : (ℤ → Type 0) → Result ℤ ParseFault → Type 0
Reads Told r = MatchResult r (Clamps Told) (λ miss. (miss ≡ parse_faults.Form) × ((z : ℤ) → Told z → ⊥))

abbrev pub ReadsDigits : ℕ → List ℕ → Result ℤ ParseFault → Type 0
ReadsDigits radix ds r =
    MatchResult r (λ n. IsNumeral radix ds × (n ≡ pos (min (digits_value radix ds) (2 ^ 127 - 1))))
    (λ miss. (miss ≡ parse_faults.Form) × ¬ IsNumeral radix ds)

pub plain : (word : List ℕ) (r : Result ℤ ParseFault) → ((rest : List ℕ) → word ≢ codes "-" ++ rest) → ReadsDigits 10 word r → Reads (ParsesAsInteger word) r
plain word (Ok n) sign h = plain_told word n h.0 h.1
plain word (Err miss) sign h = (h.0, plain_untold word sign h.1)

pub hexadecimal : (word digits : List ℕ) (r : Result ℤ ParseFault) → word ≡ codes "0x" ++ digits → ReadsDigits 16 digits r → Reads (ParsesAsBits word) r
hexadecimal word digits (Ok n) e h = hexadecimal_told word digits n e h.0 h.1
hexadecimal word digits (Err miss) e h = (h.0, hexadecimal_untold word digits e h.1)

pub bits : (word : List ℕ) (r : Result ℤ ParseFault) → ((rest : List ℕ) → word ≢ codes "0x" ++ rest) → Reads (ParsesAsInteger word) r → Reads (ParsesAsBits word) r
bits word (Ok n) mark h = bits_told word n h
bits word (Err miss) mark h = (h.0, bits_untold word mark h.1)

-- an unsigned number, by whether it has 8 bytes
pub sized_wide : (size : ℕ) (word : List ℕ) (r : Result ℤ ParseFault) → size ≡ 8 → Reads (ParsesAsBits word) r → Reads (ParsesAsUnsigned size word) r
sized_wide size word r e h = subst (λ b. Reads (ParsesAsSized b word) r) (sym (eq-eqb size 8 e)) h

pub sized_plain : (size : ℕ) (word : List ℕ) (r : Result ℤ ParseFault) → (size ≡ 8 → ⊥) → Reads (ParsesAsInteger word) r → Reads (ParsesAsUnsigned size word) r
sized_plain size word r e h = subst (λ b. Reads (ParsesAsSized b word) r) (sym (ne_eqb size 8 e)) h

-- of one that does not fit
pub unsigned_beyond : (size : ℕ) (word : List ℕ) (n m : ℤ) → size ≤ 8 → Clamps (ParsesAsUnsigned size word) n → m ≡ n → (IsUnsignedOf size m → ⊥)
    → (z : ℤ) × (ParsesAsUnsigned size word z × (IsUnsignedOf size z → ⊥))
unsigned_beyond size word n m high clamps same out = unsigned_out (ParsesAsUnsigned size word) size n high clamps (λ fits. out (subst (IsUnsignedOf size) (sym same) fits))
