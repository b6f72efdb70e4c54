-- Which texts are hexadecimal.
use Rattle.std.proofs.Common.{◌≡◌, ◌≢◌, ◌<◌, ℕ, ◌+◌, ◌*◌, ◌%◌, ◌==◌, get_or, Bool, true, false, ◌&&◌, not, if◌then◌else◌, List, [], ◌∷◌, length, refl, sym, ap, ◌∙◌, Option, Some, None, is_some, Result, Ok, Err, arith}
use Rattle.std.proofs.lemmas.Bool.{eqb-true}
use Rattle.std.specs.Result.{result_ok}
use Rattle.hex.specs.Hex.{hex_digit_value, is_hex_digit, digit_or_error, ◌>>=◌, decode_pairs, decode_of}
use Rattle.hex.specs.declared.error.FromHexError.{FromHexError}
use Rattle.hex.specs.declared.error.FromHexError.TheVariants.{OddLength}
use Rattle.enip_lines.specs.Digits.{without_spaces, bytes_spelled}

-- Pairs of digits.
abbrev pub are_pairs : List ℕ → Bool
are_pairs [] = true
are_pairs (high ∷ []) = false
are_pairs (high ∷ low ∷ rest) = is_hex_digit high && (is_hex_digit low && are_pairs rest)

-- The same with spaces anywhere, before or after the first digit of a pair.
abbrev pub spells : Bool → List ℕ → Bool
spells is_half [] = not is_half
spells is_half (byte ∷ text) =
    if byte == 32 then spells is_half text else (is_hex_digit byte && spells (not is_half) text)

pair_decoded : (high low : Option ℕ) (rest : Result (List ℕ) FromHexError) (c d i j : ℕ)
    → is_some (result_ok ((digit_or_error c i high >>= (λ h. digit_or_error d j low >>= (λ l. Ok (h * 16 + l))))
    >>= (λ byte. rest >>= (λ bytes. Ok (byte ∷ bytes))))) ≡ (is_some high && (is_some low && is_some (result_ok rest)))
pair_decoded None low rest c d i j = refl
pair_decoded (Some h) None rest c d i j = refl
pair_decoded (Some h) (Some l) (Ok bytes) c d i j = refl
pair_decoded (Some h) (Some l) (Err e) c d i j = refl

pairs_decoded : (i : ℕ) (text : List ℕ) → is_some (result_ok (decode_pairs i text)) ≡ are_pairs text
unfolding decode_pairs
pairs_decoded i [] = refl
pairs_decoded i (high ∷ []) = refl
pairs_decoded i (high ∷ low ∷ rest) =
    pair_decoded (hex_digit_value high) (hex_digit_value low) (decode_pairs (i + 2) rest) high low i (i + 1)
    ∙ ap (λ b. is_hex_digit high && (is_hex_digit low && b)) (pairs_decoded (i + 2) rest)

and_never : (a b : Bool) → (a && (b && false)) ≡ false
and_never true true = refl
and_never true false = refl
and_never false b = refl

odd_pairs : (text : List ℕ) → length text % 2 ≡ 1 → are_pairs text ≡ false
odd_pairs [] odd = absurd (omega (arith, odd))
odd_pairs (high ∷ []) odd = refl
odd_pairs (high ∷ low ∷ rest) odd =
    let less : length rest % 2 ≡ 1 = omega (arith, odd) in
    ap (λ b. is_hex_digit high && (is_hex_digit low && b)) (odd_pairs rest less) ∙ and_never (is_hex_digit high) (is_hex_digit low)

by_parity : (text : List ℕ) (odd : Bool) → (odd ≡ true → length text % 2 ≡ 1)
    → is_some (result_ok (if odd then Err OddLength else decode_pairs 0 text)) ≡ are_pairs text
by_parity text true is = sym (odd_pairs text (is refl))
by_parity text false is = pairs_decoded 0 text

decoded : (text : List ℕ) → is_some (result_ok (decode_of text)) ≡ are_pairs text
decoded text = by_parity text (length text % 2 == 1) (λ odd. eqb-true (length text % 2) 1 odd)

no_pair : (high : ℕ) (rest : List ℕ) → is_hex_digit high ≡ false → are_pairs (high ∷ rest) ≡ false
no_pair high [] is = refl
no_pair high (low ∷ rest) is = ap (λ b. b && (is_hex_digit low && are_pairs rest)) is

even_digit : (digit : Bool) (byte : ℕ) (text kept : List ℕ) → is_hex_digit byte ≡ digit
    → (is_hex_digit byte ≡ true → spells true text ≡ are_pairs (byte ∷ kept)) → (digit && spells true text) ≡ are_pairs (byte ∷ kept)
even_digit true byte text kept is more = more is
even_digit false byte text kept is more = sym (no_pair byte kept is)

even_step : (space : Bool) (byte : ℕ) (text kept : List ℕ) → spells false text ≡ are_pairs kept
    → (is_hex_digit byte ≡ true → spells true text ≡ are_pairs (byte ∷ kept))
    → (if space then spells false text else (is_hex_digit byte && spells true text)) ≡ are_pairs (if not space then byte ∷ kept else kept)
even_step true byte text kept even odd = even
even_step false byte text kept even odd = even_digit (is_hex_digit byte) byte text kept refl odd

odd_step : (space : Bool) (high byte : ℕ) (text kept : List ℕ) → is_hex_digit high ≡ true → spells false text ≡ are_pairs kept
    → spells true text ≡ are_pairs (high ∷ kept)
    → (if space then spells true text else (is_hex_digit byte && spells false text)) ≡ are_pairs (high ∷ (if not space then byte ∷ kept else kept))
odd_step true high byte text kept is even odd = odd
odd_step false high byte text kept is even odd =
    ap (λ b. is_hex_digit byte && b) even ∙ ap (λ b. b && (is_hex_digit byte && are_pairs kept)) (sym is)

-- The text alone, and the text after the first digit of a pair.
both_spell : (text : List ℕ) → (spells false text ≡ are_pairs (without_spaces text))
    × ((high : ℕ) → is_hex_digit high ≡ true → spells true text ≡ are_pairs (high ∷ without_spaces text))
both_spell [] = (refl, λ high is. refl)
both_spell (byte ∷ text) =
    let both = both_spell text in (
      even_step (byte == 32) byte text (without_spaces text) both.0 (both.1 byte),
      λ high is. odd_step (byte == 32) high byte text (without_spaces text) is both.0 (both.1 high is),
    )

pub spelled : (text : List ℕ) → spells false text ≡ is_some (bytes_spelled text)
spelled text = (both_spell text).0 ∙ sym (decoded (without_spaces text))

-- No digit comes next.
pub stopped : (is_half : Bool) (rest : List ℕ) → 0 < length rest → get_or rest 0 0 ≢ 32 → is_hex_digit (get_or rest 0 0) ≡ false
    → spells is_half rest ≡ false
stopped is_half [] some other no_digit = absurd (omega (arith, some))
stopped is_half (byte ∷ text) some other no_digit = go (byte == 32) refl
  where
    go : (space : Bool) → (byte == 32) ≡ space → spells is_half (byte ∷ text) ≡ false
    go true is = absurd (other (eqb-true byte 32 is))
    go false is = rw (is, no_digit) refl

-- Nothing comes next.
pub ended : (is_half : Bool) (rest : List ℕ) → length rest ≡ 0 → spells is_half rest ≡ not is_half
ended is_half [] none = refl
ended is_half (byte ∷ text) none = absurd (omega (arith, none))
