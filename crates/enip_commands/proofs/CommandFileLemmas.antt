-- The texts of two commanders are told apart, and none is the front of another.
use Rattle.std.proofs.Common.{◌≡◌, ◌≢◌, ℕ, zero, suc, ◌+◌, ◌*◌, ◌/◌, ◌%◌, ◌^◌, ◌<◌, ◌≤◌, ◌==◌, Bool, true, false, List, [], ◌∷◌, ◌++◌, codes, length}
use Rattle.std.proofs.Common.{◌-◌, take, drop, slice_index, get_or, Option, Some, None, Result, Ok, Err, refl, sym, ap, ◌∙◌, arith, rules}
use Rattle.std.proofs.Common.{add-zero, add-one, inl, inr, length-append, length-drop, length-take-le, drop-cons}
use Rattle.std.specs.Prelude.{IfOk, IfErr, IfSome, IsOkAnd, IsErr, MatchResult}
use Rattle.std.specs.Result.{is_err}
use Rattle.std.specs.Option.{SomeIff}
use Rattle.std.specs.Str.{bytes_eq}
use Rattle.std.proofs.lemmas.Slice.Eq.{bytes_eq-Decides}
use Rattle.std.specs.Char.{digit_value}
use Rattle.std.specs.Fmt.{decimal}
use Rattle.std.specs.Int.{to_be_bytes, from_be_bytes, w64, bytes_high_first, byte_at}
use Rattle.std.specs.List.{list_any}
use Rattle.std.specs.Str.Parse.{AllDigits, IsNumeral, digits_value}
use Rattle.std.proofs.lemmas.Bool.Decides.{nat_tests}
use Rattle.std.proofs.lemmas.Bool.{or_parts, or_from, false_from_ne_true, eqb-true, cases_lt}
use Rattle.std.proofs.lemmas.Fmt.{decimal_is_IsNumeral, decimal_injective, decimal_digit, first_decimal, decimal-digits_value}
use Rattle.std.proofs.lemmas.List.{append_cancel_left, append-nil, get_or-append-add, take_all, take-append-drop}
use Rattle.std.proofs.lemmas.Nat.{from_be_bytes-to_be_bytes_8}
use Rattle.std.proofs.lemmas.Str.Parse.{IsNumeralModel, digit_from_value, numerals_by_value, tells_digits}
use mathlib.Core.List.{append_assoc}
use Rattle.hex.specs.Hex.{encode_lower, encode_with, decode_of, decode_sized, decode_pairs, lower_digits}
use Rattle.hex.specs.declared.error.FromHexError.{FromHexError}
use Rattle.hex.proofs.HexLemmas.{decode_of-encode_lower, decode_sized-encode_lower, length-encode_with}
use Rattle.cip_bytes.specs.Numbers.{AreBytes}
use Rattle.cip_commander.specs.declared.refusal.CommandRefused.{CommandRefused}
use Rattle.cip_commander.specs.CommanderRule.{CommanderState, IsInRange, commander_at, embedded_refusal, resume_refusal}
use Rattle.enip_faults.specs.declared.command_file_fault.CommandFileFault.{CommandFileFault}
use Rattle.enip_faults.specs.declared.command_file_fault.CommandFileFault.TheVariants.{Head, Originator, Life, Number}
use Rattle.enip_faults.specs.declared.command_file_fault.CommandFileFault.TheVariants.{Pending, End}
use Rattle.enip_commands.specs.CommandFiles.{line, head_line, originator_line, life_line, number_line, pending_line, pending_digits}
use Rattle.enip_commands.specs.CommandFiles.{file_text, IsKept, IsPending, IsLong, IsShort, IsFault, IsLine, IsSpelling, LacksLine}

-- ---- one line

-- A value without a line feed.
abbrev pub HasNoLineFeed : List ℕ → Type 0
HasNoLineFeed value = list_any (λ byte. byte == 10) value ≡ false

-- A value ends at the first line feed.
pub values_agree : (v w r s : List ℕ) → HasNoLineFeed v → HasNoLineFeed w → v ++ (10 ∷ r) ≡ w ++ (10 ∷ s) → (v ≡ w) × (r ≡ s)
values_agree [] [] r s none_v none_w e = let t : r ≡ s = cc in (refl, t)
values_agree [] (b ∷ w) r s none_v none_w e =
    let here = (or_parts (b == 10) (list_any (λ x. x == 10) w) none_w).0 in
    let same : b ≡ 10 = cc in
    absurd (grind (arith, here, same))
values_agree (a ∷ v) [] r s none_v none_w e =
    let here = (or_parts (a == 10) (list_any (λ x. x == 10) v) none_v).0 in
    let same : a ≡ 10 = cc in
    absurd (grind (arith, here, same))
values_agree (a ∷ v) (b ∷ w) r s none_v none_w e =
    let rest : v ++ (10 ∷ r) ≡ w ++ (10 ∷ s) = cc in
    let first : a ≡ b = cc in
    let in_v = (or_parts (a == 10) (list_any (λ x. x == 10) v) none_v).1 in
    let in_w = (or_parts (b == 10) (list_any (λ x. x == 10) w) none_w).1 in
    let (same, after) = values_agree v w r s in_v in_w rest in
    let whole : a ∷ v ≡ b ∷ w = cc in
    (whole, after)

pub line-append : (key value rest : List ℕ) → line key value ++ rest ≡ key ++ (value ++ (10 ∷ rest))
line-append key value rest = simp append_assoc

-- Two lines with the same key have the same value, and the same follows.
pub lines_agree : (key v w r s : List ℕ) → HasNoLineFeed v → HasNoLineFeed w → line key v ++ r ≡ line key w ++ s → (v ≡ w) × (r ≡ s)
lines_agree key v w r s none_v none_w e =
    values_agree v w r s none_v none_w (append_cancel_left key (v ++ (10 ∷ r)) (w ++ (10 ∷ s)) (sym (line-append key v r) ∙ e ∙ line-append key w s))

-- ---- the parts of a line

pub lacks_key : (key text : List ℕ) → ((rest : List ℕ) → text ≢ key ++ rest) → (value rest : List ℕ) → IsLine key value rest text → ⊥
lacks_key key text lacks value rest is = lacks (value ++ (10 ∷ rest)) (is.whole ∙ line-append key value rest)

-- Without a line feed behind its key, a text has no line.
pub lacks_feed : (key text behind : List ℕ) → text ≡ key ++ behind
    → ((k : ℕ) → 0 ≤ k → k < length behind → (slice_index behind k == 10) ≡ true → ⊥) → (value rest : List ℕ) → IsLine key value rest text → ⊥
lacks_feed key text behind e nowhere value rest is =
    let same : behind ≡ value ++ (10 ∷ rest) = append_cancel_left key behind (value ++ (10 ∷ rest)) (sym e ∙ is.whole ∙ line-append key value rest) in
    let here : get_or (value ++ (10 ∷ rest)) (length value + 0) 0 ≡ 10 = get_or-append-add value (10 ∷ rest) 0 0 in
    let inside : length value < length behind = rw same (omega (arith, length-append value (10 ∷ rest))) in
    let at : slice_index behind (length value) ≡ 10 = rw same (rw add-zero at here) in
    nowhere (length value) (omega arith) inside (rw at refl)

-- Before the first line feed there is none.
feedless : (text : List ℕ) (end : ℕ) → ((k : ℕ) → k < end → (get_or text k 0 == 10) ≡ true → ⊥) → HasNoLineFeed (take end text)
feedless [] zero nowhere = refl
feedless [] (suc end) nowhere = refl
feedless (x ∷ text) zero nowhere = refl
feedless (x ∷ text) (suc end) nowhere =
    or_from (x == 10) (list_any (λ b. b == 10) (take end text))
    (false_from_ne_true (x == 10) (nowhere 0 (omega arith)))
    (feedless text end (λ k below feed. nowhere (suc k) (omega arith) feed))

pub is_line : (key text behind : List ℕ) (end : ℕ) → text ≡ key ++ behind → end < length behind → (slice_index behind end == 10) ≡ true
    → ((k : ℕ) → 0 ≤ k → k < end → (slice_index behind k == 10) ≡ true → ⊥)
    → IsLine key (take end behind) (take (length behind - (end + 1)) (drop (end + 1) behind)) text
is_line key text behind end e inside feed nowhere =
    let byte : get_or behind end 0 ≡ 10 = eqb-true (get_or behind end 0) 10 feed in
    let left : take (length behind - (end + 1)) (drop (end + 1) behind) ≡ drop (end + 1) behind = take_all _ _ (omega (arith, length-drop (end + 1) behind)) in
    let parts : take end behind ++ drop end behind ≡ take end behind ++ (get_or behind end 0 ∷ drop (end + 1) behind) = rw (add-one, drop-cons behind end 0) in
    let cut : behind ≡ take end behind ++ (10 ∷ drop (end + 1) behind) =
    sym (take-append-drop end behind) ∙ parts ∙ ap (λ (x : ℕ). take end behind ++ (x ∷ drop (end + 1) behind)) byte in
    let whole : text ≡ line key (take end behind) ++ drop (end + 1) behind =
    e ∙ ap (λ (xs : List ℕ). key ++ xs) cut ∙ sym (line-append key (take end behind) (drop (end + 1) behind)) in
    record {
      whole = rw left whole;
      one = feedless behind end (λ k below here. nowhere k (omega arith) below here);
    }

-- ---- decimal digits

model : IsNumeralModel (AllDigits 10) (digits_value 10)
model = numerals_by_value (AllDigits 10) tells_digits

-- The digits of a number have no leading zero.
pub leading_zero : (digits : List ℕ) (n : ℕ) → 1 < length digits → get_or digits 0 0 ≡ 48 → n < 2 ^ 64 → digits ≡ decimal n → ⊥
leading_zero digits n long zero_first fits e = elim (cases_lt 0 n) [
  | inl above ↦
      let first : 48 < get_or digits 0 0 = rw e (first_decimal n above fits) in
      omega arith
  | inr none ↦
      let is_zero : n ≡ 0 = omega arith in
      let one : length digits ≡ 1 = rw (e, is_zero, decimal_digit 0 (omega arith)) refl in
      omega arith
]

spelled : (digits : List ℕ) → IsNumeral 10 digits → digits_value 10 digits < 2 ^ 64 → (1 < length digits → get_or digits 0 0 ≡ 48 → ⊥) → digits ≡ decimal (digits_value 10 digits)
spelled digits is fits plain =
    sym (decimal-digits_value model digits (search (rules, is)) (search (rules, is)) (λ zero_first. elim (cases_lt 1 (length digits)) [
      | inl long ↦ absurd (plain long zero_first)
      | inr short ↦ let some : 0 < length digits = search (rules, is) in omega arith
    ]) fits)

pub decimal_read : (digits : List ℕ) (r : Option ℕ) → SomeIff r (IsNumeral 10 digits × (digits_value 10 digits < 2 ^ 64)) (digits_value 10 digits)
    → (1 < length digits → get_or digits 0 0 ≡ 48 → ⊥) → IfSome r (λ n. digits ≡ decimal n)
decimal_read digits None is plain = tt
decimal_read digits (Some n) is plain = rw is.1 (spelled digits is.0.0 is.0.1 plain)

pub decimal_lacking : (digits : List ℕ) (r : Option ℕ) → SomeIff r (IsNumeral 10 digits × (digits_value 10 digits < 2 ^ 64)) (digits_value 10 digits)
    → r ≡ None → (n : ℕ) → n < 2 ^ 64 → digits ≡ decimal n → ⊥
decimal_lacking digits (Some m) is none n fits e = absurd cc
decimal_lacking digits None is none n fits e =
    let (numeral, value) = decimal_is_IsNumeral n fits in
    is (rw e (numeral, rw value fits))

-- ---- hexadecimal digits

pub lower_decoded : (digits given out : List ℕ) (n : ℕ) (r : Result (Unit {0}) FromHexError) → AreBytes given → length given ≡ n → digits ≡ encode_lower given
    → MatchResult (decode_sized digits n) (λ bytes. (r ≡ Ok tt) × (out ≡ bytes)) (λ e. r ≡ Err e) → (r ≡ Ok tt) × (out ≡ given)
lower_decoded digits given out n r bytes same e decoded =
    let read : decode_sized digits n ≡ Ok given = rw e (decode_sized-encode_lower given n same bytes) in
    rw read at decoded

pub err_not_ok : (r : Result (Unit {0}) FromHexError) (b : Bool) → b ≡ is_err r → b ≡ true → r ≡ Ok tt → ⊥
err_not_ok (Ok x) b is found ok = let no : true ≡ false = sym found ∙ is in absurd cc
err_not_ok (Err why) b is found ok = absurd cc

pub lower_lacking : (digits given out again : List ℕ) → digits ≡ encode_lower given → out ≡ given → again ≡ encode_lower out → bytes_eq digits again ≡ false → ⊥
lower_lacking digits given out again e same written differs =
    let equal : digits ≡ again = e ∙ sym (ap encode_lower same) ∙ sym written in
    let found = (bytes_eq-Decides digits again).1 equal in
    absurd cc

-- ---- the values

digits_no_feed : (digits : List ℕ) → AllDigits 10 digits → HasNoLineFeed digits
digits_no_feed [] all = refl
digits_no_feed (c ∷ digits) all =
    let range = digit_from_value c all.0 in
    let here : (c == 10) ≡ false = grind (arith, range) in
    or_from (c == 10) (list_any (λ x. x == 10) digits) here (digits_no_feed digits all.1)

pub decimal_no_feed : (n : ℕ) → n < 2 ^ 64 → HasNoLineFeed (decimal n)
decimal_no_feed n fits = digits_no_feed (decimal n) (search (rules, (decimal_is_IsNumeral n fits).0))

get_no_feed : (xs : List ℕ) (n : ℕ) → HasNoLineFeed xs → (get_or xs n 0 == 10) ≡ false
get_no_feed [] n none = refl
get_no_feed (x ∷ xs) zero none = (or_parts (x == 10) (list_any (λ b. b == 10) xs) none).0
get_no_feed (x ∷ xs) (suc n) none = get_no_feed xs n (or_parts (x == 10) (list_any (λ b. b == 10) xs) none).1

pub lower_no_feed : (bytes : List ℕ) → HasNoLineFeed (encode_lower bytes)
unfolding encode_with
lower_no_feed [] = refl
lower_no_feed (b ∷ bytes) =
    let high = get_no_feed lower_digits (b / 16) refl in
    let low = get_no_feed lower_digits (b % 16) refl in
    let more = lower_no_feed bytes in
    or_from _ _ high (or_from _ _ low more)

pub lower_injective : (xs ys : List ℕ) → AreBytes xs → AreBytes ys → encode_lower xs ≡ encode_lower ys → xs ≡ ys
lower_injective xs ys of_xs of_ys e =
    let x : decode_of (encode_lower xs) ≡ Ok xs = decode_of-encode_lower xs of_xs in
    let y : decode_of (encode_lower ys) ≡ Ok ys = decode_of-encode_lower ys of_ys in
    let d : decode_of (encode_lower xs) ≡ decode_of (encode_lower ys) = ap decode_of e in
    cc

high_first_bytes : (k n : ℕ) → AreBytes (bytes_high_first k n)
high_first_bytes zero n i = omega arith
high_first_bytes (suc zero) n zero = omega arith
high_first_bytes (suc (suc k)) n zero = omega arith
high_first_bytes (suc k) n (suc i) = high_first_bytes k n i

pub number_bytes : (n : ℕ) → AreBytes (to_be_bytes w64 n)
number_bytes n = high_first_bytes 8 n

pub originator_injective : (m n : ℕ) → IsLong m → IsLong n
    → encode_lower (to_be_bytes w64 m) ≡ encode_lower (to_be_bytes w64 n) → m ≡ n
originator_injective m n long_m long_n e =
    let bytes : to_be_bytes w64 m ≡ to_be_bytes w64 n = lower_injective (to_be_bytes w64 m) (to_be_bytes w64 n) (number_bytes m) (number_bytes n) e in
    sym (from_be_bytes-to_be_bytes_8 m long_m) ∙ ap (from_be_bytes w64) bytes ∙ from_be_bytes-to_be_bytes_8 n long_n

-- The bytes that a buffer of 478 has once it is cut to the length of a request's digits.
pub request_length : (digits request zeros bytes : List ℕ) → digits ≡ encode_lower request → length request ≤ 478 → length zeros ≡ 478
    → bytes ≡ take (length digits / 2) zeros → length request ≡ length bytes
request_length digits request zeros bytes e short room cut =
    let spelled : length digits ≡ 2 * length request = ap length e ∙ length-encode_with lower_digits request in
    let half : length digits / 2 ≡ length request = omega (arith, spelled) in
    let taken : length bytes ≡ length (take (length request) zeros) = ap length cut ∙ ap (λ (n : ℕ). length (take n zeros)) half in
    sym (taken ∙ length-take-le (length request) zeros (omega arith))

pub pending_no_feed : (pending : Option (List ℕ)) → HasNoLineFeed (pending_digits pending)
pending_no_feed None = refl
pending_no_feed (Some request) = lower_no_feed request

-- `none` is not hexadecimal.
none_not_lower : (request : List ℕ) → AreBytes request → codes "none" ≡ encode_lower request → ⊥
unfolding decode_pairs
none_not_lower request bytes e =
    let read : decode_of (codes "none") ≡ Ok request = ap decode_of e ∙ decode_of-encode_lower request bytes in
    absurd cc

-- Digits that are neither `none` nor a request's.
pub lacks_pending : (digits : List ℕ) (pending : Option (List ℕ)) → bytes_eq digits (codes "none") ≡ false
    → ((request : List ℕ) → AreBytes request → length request ≤ 478 → digits ≡ encode_lower request → ⊥) → IsSpelling pending → digits ≡ pending_digits pending → ⊥
lacks_pending digits None differs lacks fits e = let found : bytes_eq digits (codes "none") ≡ true = (bytes_eq-Decides digits (codes "none")).1 e in absurd cc
lacks_pending digits (Some request) differs lacks fits e = lacks request fits.0 fits.1 e

-- No request, or bytes.
abbrev pub AreRequestBytes : Option (List ℕ) → Type 0
AreRequestBytes None = Unit {0}
AreRequestBytes (Some request) = AreBytes request

pub pending_injective : (p q : Option (List ℕ)) → AreRequestBytes p → AreRequestBytes q → pending_digits p ≡ pending_digits q → p ≡ q
pending_injective None None of_p of_q e = refl
pending_injective None (Some request) of_p of_q e = absurd (none_not_lower request of_q e)
pending_injective (Some request) None of_p of_q e = absurd (none_not_lower request of_p (sym e))
pending_injective (Some p) (Some q) of_p of_q e = ap (λ (xs : List ℕ). Some xs) (lower_injective p q of_p of_q e)

request_bytes : (p : Option (List ℕ)) → IsPending p → AreRequestBytes p
request_bytes None is = tt
request_bytes (Some request) is = is.0

-- ---- the lines

pub originators_agree : (m n : ℕ) (r s : List ℕ) → IsLong m → IsLong n → originator_line m ++ r ≡ originator_line n ++ s → (m ≡ n) × (r ≡ s)
originators_agree m n r s long_m long_n e =
    let (values, after) = lines_agree (codes "originator ") (encode_lower (to_be_bytes w64 m)) (encode_lower (to_be_bytes w64 n)) r s (lower_no_feed (to_be_bytes w64 m)) (lower_no_feed (to_be_bytes w64 n)) e in
    (originator_injective m n long_m long_n values, after)

decimals_agree : (key : List ℕ) (m n : ℕ) (r s : List ℕ) → IsLong m → IsLong n → line key (decimal m) ++ r ≡ line key (decimal n) ++ s → (m ≡ n) × (r ≡ s)
decimals_agree key m n r s long_m long_n e =
    let (values, after) = lines_agree key (decimal m) (decimal n) r s (decimal_no_feed m long_m) (decimal_no_feed n long_n) e in
    (decimal_injective m n long_m long_n values, after)

pub lives_agree : (m n : ℕ) (r s : List ℕ) → IsLong m → IsLong n → life_line m ++ r ≡ life_line n ++ s → (m ≡ n) × (r ≡ s)
lives_agree m n r s long_m long_n e = decimals_agree (codes "life ") m n r s long_m long_n e

pub numbers_agree : (m n : ℕ) (r s : List ℕ) → IsShort m → IsShort n → number_line m ++ r ≡ number_line n ++ s → (m ≡ n) × (r ≡ s)
numbers_agree m n r s short_m short_n e = decimals_agree (codes "number ") m n r s (omega arith) (omega arith) e

pub pendings_agree : (p q : Option (List ℕ)) (r s : List ℕ) → AreRequestBytes p → AreRequestBytes q → pending_line p ++ r ≡ pending_line q ++ s → (p ≡ q) × (r ≡ s)
pendings_agree p q r s of_p of_q e =
    let (values, after) = lines_agree (codes "pending ") (pending_digits p) (pending_digits q) r s (pending_no_feed p) (pending_no_feed q) e in
    (pending_injective p q of_p of_q values, after)

-- ---- the text

-- A text and what follows it, line by line.
abbrev pub five_lines : ℕ → ℕ → ℕ → Option (List ℕ) → List ℕ → List ℕ
five_lines originator life number pending rest =
    head_line ++ (originator_line originator ++ (life_line life ++ (number_line number ++ (pending_line pending ++ rest))))

pub file_text-append : (c : CommanderState) (rest : List ℕ) → file_text c ++ rest ≡ five_lines c.originator c.life c.last_number c.pending rest
file_text-append c rest = simp append_assoc

pub file_text-lines : (c : CommanderState) → file_text c ≡ five_lines c.originator c.life c.last_number c.pending []
file_text-lines c = sym (append-nil (file_text c)) ∙ file_text-append c []

commanders_agree : (l m o p n k : ℕ) (r s : Option (List ℕ)) → l ≡ m → o ≡ p → n ≡ k → r ≡ s → commander_at l o n r ≡ commander_at m p k s
commanders_agree l m o p n k r s e f g h = cc

-- Two commanders of which one's text is the front of the other's are the same, and so are the texts.
pub texts_agree : (a b : CommanderState) (rest : List ℕ) → IsKept a → IsKept b → file_text a ++ rest ≡ file_text b → (a ≡ b) × (rest ≡ [])
texts_agree a b rest kept_a kept_b e =
    let lines : five_lines a.originator a.life a.last_number a.pending rest ≡ five_lines b.originator b.life b.last_number b.pending [] =
    sym (file_text-append a rest) ∙ e ∙ file_text-lines b in
    let (originators, after_originator) = originators_agree a.originator b.originator _ _ kept_a.originator kept_b.originator (append_cancel_left head_line _ _ lines) in
    let (lives, after_life) = lives_agree a.life b.life _ _ kept_a.life kept_b.life after_originator in
    let (numbers, after_number) = numbers_agree a.last_number b.last_number _ _ kept_a.last_number kept_b.last_number after_life in
    let (pendings, after) = pendings_agree a.pending b.pending _ _ (request_bytes a.pending kept_a.pending) (request_bytes b.pending kept_b.pending) after_number in
    (commanders_agree a.life b.life a.originator b.originator a.last_number b.last_number a.pending b.pending lives originators numbers pendings, after)

-- A text with a fault is not that of a commander.
pub fault_refuses : (text : List ℕ) (fault : CommandFileFault) (kept : CommanderState) → IsFault text fault → IsKept kept → text ≡ file_text kept → ⊥
fault_refuses text Head kept lacks is e =
    lacks _ e
fault_refuses text Originator kept (rest, begins, lacks) is e =
    lacks kept.originator _ is.originator (append_cancel_left head_line rest _ (sym begins ∙ e))
fault_refuses text Life kept (originator, (rest, (long, begins, lacks))) is e =
    let (same, after) = originators_agree originator kept.originator rest _ long is.originator (append_cancel_left head_line _ _ (sym begins ∙ e)) in
    lacks kept.life _ is.life after
fault_refuses text Number kept (originator, (life, (rest, (long, long_life, begins, lacks)))) is e =
    let (same, after) = originators_agree originator kept.originator _ _ long is.originator (append_cancel_left head_line _ _ (sym begins ∙ e)) in
    let (same_life, then) = lives_agree life kept.life rest _ long_life is.life after in
    lacks kept.last_number _ is.last_number then
fault_refuses text Pending kept (originator, (life, (number, (rest, (long, long_life, short, begins, lacks))))) is e =
    let (same, after) = originators_agree originator kept.originator _ _ long is.originator (append_cancel_left head_line _ _ (sym begins ∙ e)) in
    let (same_life, then) = lives_agree life kept.life _ _ long_life is.life after in
    let (same_number, last) = numbers_agree number kept.last_number rest _ short is.last_number then in
    lacks kept.pending [] is.pending (last ∙ sym (append-nil (pending_line kept.pending)))
fault_refuses text End kept (c, (rest, (of_c, begins, more))) is e =
    more (texts_agree c kept rest of_c is (sym begins ∙ e)).1

-- What is read of the text of a commander is that commander.
pub written_is_read : (text : List ℕ) (c kept : CommanderState) → IsKept c → text ≡ file_text c → IsKept kept → text ≡ file_text kept → c ≡ kept
written_is_read text c kept of_c read of_kept written =
    (texts_agree c kept [] of_c of_kept (append-nil (file_text c) ∙ sym read ∙ written)).0

-- A front of the text of a commander is not that of another.
pub cut_is_no_text : (text rest : List ℕ) (c kept : CommanderState) → IsKept c → text ≡ file_text c → IsKept kept → text ++ rest ≡ file_text kept → rest ≡ []
cut_is_no_text text rest c kept of_c read of_kept whole =
    (texts_agree c kept rest of_c of_kept (ap (λ (xs : List ℕ). xs ++ rest) (sym read) ∙ whole)).1

-- ---- the lines that are read

pub two_lines : (text r₁ r₂ : List ℕ) (originator : ℕ) → text ≡ head_line ++ r₁ → r₁ ≡ originator_line originator ++ r₂
    → text ≡ head_line ++ (originator_line originator ++ r₂)
two_lines text r₁ r₂ originator head first = head ∙ ap (λ (xs : List ℕ). head_line ++ xs) first

pub three_lines : (text r₁ r₂ r₃ : List ℕ) (originator life : ℕ) → text ≡ head_line ++ r₁ → r₁ ≡ originator_line originator ++ r₂ → r₂ ≡ life_line life ++ r₃
    → text ≡ head_line ++ (originator_line originator ++ (life_line life ++ r₃))
three_lines text r₁ r₂ r₃ originator life head first second =
    two_lines text r₁ r₂ originator head first ∙ ap (λ (xs : List ℕ). head_line ++ (originator_line originator ++ xs)) second

pub four_lines : (text r₁ r₂ r₃ r₄ : List ℕ) (originator life number : ℕ) → text ≡ head_line ++ r₁ → r₁ ≡ originator_line originator ++ r₂ → r₂ ≡ life_line life ++ r₃
    → r₃ ≡ number_line number ++ r₄ → text ≡ head_line ++ (originator_line originator ++ (life_line life ++ (number_line number ++ r₄)))
four_lines text r₁ r₂ r₃ r₄ originator life number head first second third =
    three_lines text r₁ r₂ r₃ originator life head first second
    ∙ ap (λ (xs : List ℕ). head_line ++ (originator_line originator ++ (life_line life ++ xs))) third

pub whole_text : (text r₁ r₂ r₃ r₄ r₅ : List ℕ) (originator life number : ℕ) (pending : Option (List ℕ)) (c : CommanderState)
    → text ≡ head_line ++ r₁ → r₁ ≡ originator_line originator ++ r₂ → r₂ ≡ life_line life ++ r₃
    → r₃ ≡ number_line number ++ r₄ → r₄ ≡ pending_line pending ++ r₅ → c ≡ commander_at life originator number pending → text ≡ file_text c ++ r₅
whole_text text r₁ r₂ r₃ r₄ r₅ originator life number pending c head first second third fourth is =
    let lines : text ≡ five_lines originator life number pending r₅ =
    four_lines text r₁ r₂ r₃ r₄ originator life number head first second third
    ∙ ap (λ (xs : List ℕ). head_line ++ (originator_line originator ++ (life_line life ++ (number_line number ++ xs)))) fourth in
    lines ∙ sym (file_text-append (commander_at life originator number pending) r₅) ∙ ap (λ (k : CommanderState). file_text k ++ r₅) (sym is)

pub no_more : (text rest : List ℕ) (c : CommanderState) → text ≡ file_text c ++ rest → rest ≡ [] → text ≡ file_text c
no_more text rest c e none = e ∙ ap (λ (xs : List ℕ). file_text c ++ xs) none ∙ append-nil (file_text c)

-- A request that a command can embed has at most 478 bytes.
pub spelling : (p : Option (List ℕ)) → IsPending p → IsSpelling p
spelling None is = tt
spelling (Some request) is = let allowed = is.1 in (is.0, grind (arith, nat_tests))

pub lacks_embedded : (text : List ℕ) → LacksLine pending_line IsSpelling text → LacksLine pending_line IsPending text
lacks_embedded text lacks pending rest is e = lacks pending rest (spelling pending is) e

allowed_pending : (p : Option (List ℕ)) → IsPending p → resume_refusal p ≡ None
allowed_pending None is = refl
allowed_pending (Some request) is = is.1

spelled_bytes : (p : Option (List ℕ)) → IsSpelling p → AreRequestBytes p
spelled_bytes None is = tt
spelled_bytes (Some request) is = is.0

pub lacks_allowed : (text rest : List ℕ) (p : Option (List ℕ)) (why : CommandRefused) → text ≡ pending_line p ++ rest → IsSpelling p → resume_refusal p ≡ Some why
    → LacksLine pending_line IsPending text
lacks_allowed text rest p why begins is refused pending more kept e =
    let (same, after) = pendings_agree p pending rest more (spelled_bytes p is) (request_bytes pending kept) (sym begins ∙ e) in
    let allowed : resume_refusal p ≡ None = ap resume_refusal same ∙ allowed_pending pending kept in
    absurd cc

pending_kept : (p : Option (List ℕ)) → IsSpelling p → resume_refusal p ≡ None → IsPending p
pending_kept None is allowed = tt
pending_kept (Some request) is allowed = (is.0, allowed)

pub commander_kept : (c : CommanderState) (life originator number : ℕ) (p : Option (List ℕ)) → c ≡ commander_at life originator number p → IsInRange c → IsSpelling p
    → resume_refusal p ≡ None → IsKept c
commander_kept c life originator number p is range spelled allowed =
    let same : c.pending ≡ p = ap (λ (k : CommanderState). k.pending) is in
    record {
      originator = range.originator;
      life = range.life;
      last_number = range.last_number;
      pending = rw same (pending_kept p spelled allowed);
    }

pub is_nothing : (xs : List ℕ) (b : Bool) → b ≡ (length xs == 0) → b ≡ true → xs ≡ []
is_nothing [] b is found = refl
is_nothing (x ∷ xs) b is found =
    let zero : length (x ∷ xs) ≡ 0 = eqb-true (length (x ∷ xs)) 0 (sym is ∙ found) in
    absurd (omega (arith, zero))

pub is_something : (xs : List ℕ) (b : Bool) → b ≡ (length xs == 0) → b ≡ false → xs ≡ [] → ⊥
is_something [] b is found e = let no : false ≡ true = sym found ∙ is in absurd cc
is_something (x ∷ xs) b is found e = absurd cc

-- ---- the reader

-- Its clauses follow from two of them.
pub written_from : (text : List ℕ) (r : Result CommanderState CommandFileFault) → IfOk r (λ c. IsKept c × (text ≡ file_text c)) → IfErr r (IsFault text)
    → (kept : CommanderState) → IsKept kept → text ≡ file_text kept → IsOkAnd r (λ c. c ≡ kept)
written_from text (Ok c) read refused kept is e = written_is_read text c kept read.0 read.1 is e
written_from text (Err fault) read refused kept is e = absurd (fault_refuses text fault kept refused is e)

pub cut_from : (text : List ℕ) (r : Result CommanderState CommandFileFault) → IfOk r (λ c. IsKept c × (text ≡ file_text c))
    → (kept : CommanderState) (rest : List ℕ) → IsKept kept → text ++ rest ≡ file_text kept → rest ≢ [] → IsErr r
cut_from text (Ok c) read kept rest is e more = absurd (more (cut_is_no_text text rest c kept read.0 read.1 is e))
cut_from text (Err fault) read kept rest is e more = search rules
