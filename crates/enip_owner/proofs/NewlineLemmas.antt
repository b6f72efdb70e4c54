-- The text of a JSON value has no newline.
use Rattle.std.proofs.Common.{◌≡◌, ℕ, zero, suc, ◌+◌, ◌<◌, ◌≤◌, ◌==◌, ◌&&◌, ◌||◌, not, nat_lt, cond, Bool, true, false, List, [], ◌∷◌, ◌++◌, drop, Option, Some, None, inl, inr, ◌⊎◌, refl, sym, ap, subst, ◌∙◌, arith}
use Rattle.std.specs.Prelude.{⊤}
use Rattle.std.specs.Char.{is_ascii_digit}
use Rattle.std.specs.List.{prefix_len}
use Rattle.std.specs.Option.{option_and_then}
use Rattle.std.proofs.lemmas.Bool.{and_parts, or_cases, or_from, eqb-true, leb-true, le-ltb, ne_eqb, cases_eq, cases_lt}
use Rattle.std.proofs.lemmas.List.Folds.{list_any-append}
use Rattle.json.specs.Print.{escape_byte, escape, quoted, token_text, ends, begins, separator, print_from, IsNumber, IsPrintableOrBad, ArePrintableOrBad}
use Rattle.json.specs.Token.{Token, begin_object, end_object, begin_array, end_array, key, string, number, boolean, null, bad}
use Rattle.json.specs.Word.{head, after_digits, after_minus, after_sign, after_whole, after_fraction, after_exponent, after_number}
use Rattle.enip_lines.specs.InputLines.{has_newline}

joined : (front back : List ℕ) → has_newline front ≡ false → has_newline back ≡ false → has_newline (front ++ back) ≡ false
joined front back none none_behind =
    list_any-append (λ byte. byte == 10) front back ∙ or_from (has_newline front) (has_newline back) none none_behind

-- ---- numbers

-- A part of a number leaves a newline exactly if there was one, so there was none in the part.
abbrev Passes : List ℕ → Option (List ℕ) → Type 0
Passes text None = ⊤
Passes text (Some rest) = has_newline text ≡ has_newline rest

pass_from : (text behind : List ℕ) (left : Option (List ℕ)) → has_newline text ≡ has_newline behind → Passes behind left → Passes text left
pass_from text behind None same passes = tt
pass_from text behind (Some rest) same passes = same ∙ passes

pass_by : (text : List ℕ) (test : Bool) (one other : Option (List ℕ)) → (test ≡ true → Passes text one) → Passes text other
    → Passes text (cond test one other)
pass_by text true one other here there = here refl
pass_by text false one other here there = there

pass_then : (text : List ℕ) (part : List ℕ → Option (List ℕ)) → ((behind : List ℕ) → Passes behind (part behind)) → (left : Option (List ℕ))
    → Passes text left → Passes text (option_and_then part left)
pass_then text part each None passes = tt
pass_then text part each (Some rest) passes = pass_from text rest (part rest) passes (each rest)

first_passed : (byte : ℕ) (text : List ℕ) → (byte == 10) ≡ false → (head text == byte) ≡ true → has_newline text ≡ has_newline (drop 1 text)
first_passed byte [] other is = refl
first_passed byte (first ∷ text) other is =
    let none : (first == 10) ≡ false = ap (λ (b : ℕ). b == 10) (eqb-true first byte is) ∙ other in rw none refl

maybe_passed : (text : List ℕ) (test : Bool) → (test ≡ true → has_newline text ≡ has_newline (drop 1 text))
    → has_newline text ≡ has_newline (cond test (drop 1 text) text)
maybe_passed text true passed = passed refl
maybe_passed text false passed = refl

either_passed : (one other : ℕ) (text : List ℕ) → (one == 10) ≡ false → (other == 10) ≡ false
    → ((head text == one) || (head text == other)) ≡ true → has_newline text ≡ has_newline (drop 1 text)
either_passed one other text one_is other_is is =
    elim (or_cases (head text == one) (head text == other) is) [
      | inl here ↦ first_passed one text one_is here
      | inr later ↦ first_passed other text other_is later
    ]

digit_is_other : (byte : ℕ) → is_ascii_digit byte ≡ true → (byte == 10) ≡ false
digit_is_other byte is =
    let least : 48 ≤ byte = leb-true 48 byte (and_parts _ _ is).0 in ne_eqb byte 10 (λ same. omega (arith, same, least))

digits_at : (byte : ℕ) (text : List ℕ) (count : ℕ) (is : Bool) → is_ascii_digit byte ≡ is → has_newline text ≡ has_newline (drop count text)
    → has_newline (byte ∷ text) ≡ has_newline (drop (cond is (1 + count) 0) (byte ∷ text))
digits_at byte text count false is more = refl
digits_at byte text count true is more =
    let next : suc count ≡ 1 + count = omega arith in
    subst (λ (n : ℕ). has_newline (byte ∷ text) ≡ has_newline (drop n (byte ∷ text))) next
    (let none : (byte == 10) ≡ false = digit_is_other byte is in rw none more)

digits_passed : (text : List ℕ) → has_newline text ≡ has_newline (drop (prefix_len is_ascii_digit text) text)
digits_passed [] = refl
digits_passed (byte ∷ text) =
    digits_at byte text (prefix_len is_ascii_digit text) (is_ascii_digit byte) refl (digits_passed text)

pass-digits : (text : List ℕ) → Passes text (after_digits text)
pass-digits text =
    pass_by text (prefix_len is_ascii_digit text == 0) None (Some (drop (prefix_len is_ascii_digit text) text)) (λ is. tt) (digits_passed text)

pass-whole : (text : List ℕ) → Passes text (after_whole text)
pass-whole text =
    pass_by text (head text == 48) (Some (drop 1 text)) (after_digits text) (λ is. first_passed 48 text refl is) (pass-digits text)

pass-fraction : (text : List ℕ) → Passes text (after_fraction text)
pass-fraction text =
    pass_by text (head text == 46) (after_digits (drop 1 text)) (Some text)
    (λ is. pass_from text (drop 1 text) (after_digits (drop 1 text)) (first_passed 46 text refl is) (pass-digits (drop 1 text))) refl

pass-signed : (text : List ℕ) → Passes text (after_digits (after_sign text))
pass-signed text =
    pass_from text (after_sign text) (after_digits (after_sign text))
    (maybe_passed text ((head text == 45) || (head text == 43)) (λ is. either_passed 45 43 text refl refl is))
    (pass-digits (after_sign text))

pass-exponent : (text : List ℕ) → Passes text (after_exponent text)
pass-exponent text =
    pass_by text ((head text == 101) || (head text == 69)) (after_digits (after_sign (drop 1 text))) (Some text)
    (λ is. pass_from text (drop 1 text) (after_digits (after_sign (drop 1 text))) (either_passed 101 69 text refl refl is) (pass-signed (drop 1 text)))
    refl

pass-number : (text : List ℕ) → Passes text (after_number text)
unfolding after_number
pass-number text =
    let minus : has_newline text ≡ has_newline (after_minus text) =
    maybe_passed text (head text == 45) (λ is. first_passed 45 text refl is) in
    pass_then text after_exponent pass-exponent (option_and_then after_fraction (after_whole (after_minus text)))
    (pass_then text after_fraction pass-fraction (after_whole (after_minus text))
    (pass_from text (after_minus text) (after_whole (after_minus text)) minus (pass-whole (after_minus text))))

none_in_number : (text : List ℕ) → IsNumber text → has_newline text ≡ false
none_in_number text is = subst (Passes text) is (pass-number text)

-- ---- strings

abbrev none_escaped_below : ℕ → Bool
none_escaped_below zero = true
none_escaped_below (suc byte) = not (has_newline (escape_byte byte)) && none_escaped_below byte

negated : (b : Bool) → not b ≡ true → b ≡ false
negated true is = sym is
negated false is = refl

none_escaped_at : (most : ℕ) → none_escaped_below most ≡ true → (byte : ℕ) → byte < most → has_newline (escape_byte byte) ≡ false
none_escaped_at zero all byte below = absurd (omega (arith, below))
none_escaped_at (suc most) all byte below =
    let (here, later) = and_parts (not (has_newline (escape_byte most))) (none_escaped_below most) all in
    elim (cases_eq byte most) [
      | inl same ↦ ap (λ (b : ℕ). has_newline (escape_byte b)) same ∙ negated (has_newline (escape_byte most)) here
      | inr apart ↦ none_escaped_at most later byte (omega (arith, below, apart))
    ]

few_escaped : none_escaped_below 93 ≡ true
unfolding escape_byte
few_escaped = refl

no_other : (byte other : ℕ) → 93 ≤ byte → other < 93 → (byte == other) ≡ false
no_other byte other least below = ne_eqb byte other (λ same. omega (arith, same, least, below))

-- A byte that has no escape.
unescaped : (byte : ℕ) → 93 ≤ byte → has_newline (escape_byte byte) ≡ false
unfolding escape_byte
unescaped byte least =
    let no10 : (byte == 10) ≡ false = no_other byte 10 least (omega arith) in
    rw (
      no_other byte 34 least (omega arith),
      no_other byte 92 least (omega arith),
      no_other byte 8 least (omega arith),
      no_other byte 12 least (omega arith),
      no10,
      no_other byte 13 least (omega arith),
      no_other byte 9 least (omega arith),
      le-ltb byte 32 (omega (arith, least)),
    ) (or_from (byte == 10) false no10 refl)

none_in_byte : (byte : ℕ) → has_newline (escape_byte byte) ≡ false
none_in_byte byte =
    elim (cases_lt byte 93) [
      | inl below ↦ none_escaped_at 93 few_escaped byte below
      | inr least ↦ unescaped byte least
    ]

none_in_escaped : (text : List ℕ) → has_newline (escape text) ≡ false
none_in_escaped [] = refl
none_in_escaped (byte ∷ text) = joined (escape_byte byte) (escape text) (none_in_byte byte) (none_in_escaped text)

none_in_quoted : (text : List ℕ) → has_newline (quoted text) ≡ false
none_in_quoted text = joined (escape text) (34 ∷ []) (none_in_escaped text) refl

-- ---- tokens

none_in_token : (t : Token) → IsPrintableOrBad t → has_newline (token_text t) ≡ false
none_in_token begin_object is = refl
none_in_token end_object is = refl
none_in_token begin_array is = refl
none_in_token end_array is = refl
none_in_token (key text) is = joined (quoted text) (58 ∷ []) (none_in_quoted text) refl
none_in_token (string text) is = none_in_quoted text
none_in_token (number text) is = none_in_number text is
none_in_token (boolean true) is = refl
none_in_token (boolean false) is = refl
none_in_token null is = refl
none_in_token bad is = refl

none_in_separator : (is : Bool) → has_newline (cond is (44 ∷ []) []) ≡ false
none_in_separator true = refl
none_in_separator false = refl

pub none_in_print : (after_value : Bool) (ts : List Token) → ArePrintableOrBad ts → has_newline (print_from after_value ts) ≡ false
unfolding print_from
none_in_print after_value [] are = refl
none_in_print after_value (t ∷ ts) are =
    joined (separator after_value t) (token_text t ++ print_from (ends t) ts) (none_in_separator (after_value && begins t))
    (joined (token_text t) (print_from (ends t) ts) (none_in_token t are.0) (none_in_print (ends t) ts are.1))
