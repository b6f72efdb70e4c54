-- Another byte in place of one byte of an entry.
use Rattle.std.proofs.Common.{ℕ, ◌≡◌, ◌<◌, ◌+◌, List, [], ◌∷◌, ◌++◌, Bool, true, false, refl, sym, ap, ◌∙◌, arith, suc}
use Rattle.std.proofs.Common.{lit<, length, length-append, append_assoc, if◌then◌else◌, ◌&&◌, eqb, eqb-true, drop}
use Rattle.std.proofs.Common.{◌≤◌, ◌-◌, ◌^◌, take, zero, append-nil, length-drop, inl, inr, nat_le}
use Rattle.std.proofs.lemmas.Bool.{ne_eqb, cases_lt}
use Rattle.std.proofs.lemmas.List.{drop_all, drop-drop, take-append-le}
use Rattle.std.proofs.lemmas.Grind.{flat_map-append}
use Rattle.std.specs.List.{AllByRecursion, flat_map}
use Rattle.byteorder.specs.Endian.{little_bytes, little_number}
use Rattle.cip_bytes.specs.Numbers.{AreBytes}
use Rattle.cip_bytes.proofs.Bytes.{AreBytes-tail, AreBytes-second, AreBytes-append, AreBytes-take, AreBytes-drop}
use Rattle.saved_state.specs.Checksum.{checksum}
use Rattle.saved_state.proofs.ChangeLemmas.{same_checksum, same_ulint, first_of_rest, in_body, behind_body}
use Rattle.saved_state.proofs.NumberLemmas.{AreBytes-le_from, ulint_part}
use Rattle.saved_state.proofs.SpelledLemmas.{checksum-lt}
use Rattle.saved_state.specs.Numbers.{ulint, ulint_at}
use Rattle.enip_keep.specs.Kept.{Kept}
use Rattle.enip_keep.specs.Rounds.{round_bytes_in, round_of_bytes, entry_bytes, checksum_of, has_checksum, is_whole}
use Rattle.enip_keep.specs.WholeLaws.{byte_law, round_byte_law}

-- ---- bytes

-- an entry of the device
own_bytes : (key : ℕ) (bytes : List ℕ) → 0 < key
    → entry_bytes (key, bytes) ≡ little_bytes 8 key ++ (little_bytes 8 (length bytes) ++ bytes)
own_bytes key bytes own =
    ap (λ b. if b then [] else little_bytes 8 key ++ (little_bytes 8 (length bytes) ++ bytes))
    (ne_eqb key 0 (λ none. omega (arith, none)))

entry_are : (entry : ℕ × List ℕ) → AreBytes entry.1 → AreBytes (entry_bytes entry)
entry_are entry fits = by (eqb entry.0 0)
  where
    all : AreBytes (little_bytes 8 entry.0 ++ (little_bytes 8 (length entry.1) ++ entry.1))
    all =
        AreBytes-append (little_bytes 8 entry.0) (little_bytes 8 (length entry.1) ++ entry.1)
        (AreBytes-le_from 0 8 entry.0)
        (AreBytes-append (little_bytes 8 (length entry.1)) entry.1 (AreBytes-le_from 0 8 (length entry.1)) fits)

    by : (none : Bool)
        → AreBytes (if none then [] else little_bytes 8 entry.0 ++ (little_bytes 8 (length entry.1) ++ entry.1))
    by true = λ i. lit< tt
    by false = all

entries_are : (kept : Kept) → AllByRecursion (λ entry. AreBytes entry.1) kept → AreBytes (flat_map entry_bytes kept)
entries_are [] fit = λ i. lit< tt
entries_are (entry ∷ kept) fit =
    AreBytes-append (entry_bytes entry) (flat_map entry_bytes kept) (entry_are entry fit.0) (entries_are kept fit.1)

-- ---- the entry of the round is another one

same_round : (before after : Kept) (key : ℕ) (xs ys : List ℕ) → 0 < key
    → round_bytes_in (before ++ (key, xs) ∷ after) ≡ round_bytes_in (before ++ (key, ys) ∷ after)
same_round [] after key xs ys own =
    let other : eqb key 0 ≡ false = ne_eqb key 0 (λ none. omega (arith, none)) in
    ap (λ b. if b then xs else round_bytes_in after) other
    ∙ sym (ap (λ b. if b then ys else round_bytes_in after) other)
same_round (entry ∷ before) after key xs ys own =
    ap (λ r. if eqb entry.0 0 then entry.1 else r) (same_round before after key xs ys own)

-- ---- the byte in the bytes of which the checksum is

front : ℕ → Kept → ℕ → List ℕ → ℕ → List ℕ
front round before key first size =
    little_bytes 8 round ++ (flat_map entry_bytes before ++ (little_bytes 8 key ++ (little_bytes 8 size ++ first)))

spread : (a b c d e f g : List ℕ)
    → a ++ (b ++ ((c ++ (d ++ (e ++ f))) ++ g)) ≡ (a ++ (b ++ (c ++ (d ++ e)))) ++ (f ++ g)
spread a b c d e f g = simp append_assoc

summed : (round : ℕ) (before after : Kept) (key : ℕ) (first last : List ℕ) (byte : ℕ) → 0 < key
    → checksum_of round (before ++ (key, first ++ byte ∷ last) ∷ after)
    ≡ checksum
    (front round before key first (length first + suc (length last)) ++ byte ∷ (last ++ flat_map entry_bytes after))
unfolding front checksum_of
summed round before after key first last byte own =
    let size : length (first ++ byte ∷ last) ≡ length first + suc (length last) = length-append first (byte ∷ last) in
    let entry : entry_bytes (key, first ++ byte ∷ last)
    ≡ little_bytes 8 key ++ (little_bytes 8 (length first + suc (length last)) ++ (first ++ byte ∷ last))
    = own_bytes key (first ++ byte ∷ last) own
    ∙ ap (λ n. little_bytes 8 key ++ (little_bytes 8 n ++ (first ++ byte ∷ last))) size in
    ap (λ bytes. checksum (little_bytes 8 round ++ bytes))
    (flat_map-append entry_bytes before ((key, first ++ byte ∷ last) ∷ after)
    ∙ ap (λ bytes. flat_map entry_bytes before ++ (bytes ++ flat_map entry_bytes after)) entry)
    ∙ ap checksum
    (spread (little_bytes 8 round) (flat_map entry_bytes before) (little_bytes 8 key)
    (little_bytes 8 (length first + suc (length last))) first (byte ∷ last) (flat_map entry_bytes after))

-- ---- what is whole

whole_in : (before after : Kept) (entry : ℕ × List ℕ) → is_whole (before ++ entry ∷ after)
    ≡ has_checksum (round_bytes_in (before ++ entry ∷ after)) (before ++ entry ∷ after)
whole_in [] after entry = refl
whole_in (first ∷ before) after entry = refl

second_is : (a b : Bool) → (a && b) ≡ true → b ≡ true
second_is true b both = both
second_is false b both = cc

-- the checksum is the one that is kept
sum_is : (bytes : List ℕ) (kept : Kept) → has_checksum bytes kept ≡ true
    → little_number 8 (drop 8 bytes) ≡ checksum_of (round_of_bytes bytes) kept
sum_is bytes kept has =
    eqb-true (little_number 8 (drop 8 bytes)) (checksum_of (round_of_bytes bytes) kept)
    (second_is (eqb (length bytes) 16)
    (eqb (little_number 8 (drop 8 bytes)) (checksum_of (round_of_bytes bytes) kept)) has)

never : (b : Bool) → (b ≡ true → ⊥) → b ≡ false
never true isnt = absurd (isnt refl)
never false isnt = refl

pub byte_shows : byte_law
byte_shows before after key first last byte other own differs fits small after_fits whole =
    let one = before ++ (key, first ++ byte ∷ last) ∷ after in
    let two = before ++ (key, first ++ other ∷ last) ∷ after in
    let bytes = round_bytes_in one in
    let round = round_of_bytes bytes in
    let here : AreBytes (byte ∷ last) = AreBytes-second first (byte ∷ last) fits in
    let behind : AreBytes (last ++ flat_map entry_bytes after)
    = AreBytes-append last (flat_map entry_bytes after) (AreBytes-tail byte last here) (entries_are after after_fits) in
    let kept : little_number 8 (drop 8 bytes) ≡ checksum_of round one
    = sum_is bytes one (sym (whole_in before after (key, first ++ byte ∷ last)) ∙ whole) in
    never (is_whole two)
    (λ also.
    let again : little_number 8 (drop 8 bytes) ≡ checksum_of round two
    = sum_is bytes two
    (ap (λ b. has_checksum b two) (same_round before after key (first ++ byte ∷ last) (first ++ other ∷ last) own)
    ∙ sym (whole_in before after (key, first ++ other ∷ last)) ∙ also) in
    differs
    (same_checksum byte other (front round before key first (length first + suc (length last)))
    (last ++ flat_map entry_bytes after) (here 0) small behind
    (sym (summed round before after key first last byte own) ∙ sym kept ∙ again
    ∙ summed round before after key first last other own)))

-- ---- a byte of the entry of the round

-- the bytes of a number, and their checksum with others
abbrev with_sum : List ℕ → List ℕ → List ℕ
with_sum number others = number ++ little_bytes 8 (checksum (number ++ others))

-- 16 bytes are a number and a checksum
written : (bytes behind : List ℕ) → AreBytes bytes → length bytes ≡ 16
    → little_number 8 (drop 8 bytes) ≡ checksum (little_bytes 8 (little_number 8 bytes) ++ behind)
    → bytes ≡ with_sum (little_bytes 8 (little_number 8 bytes)) behind
unfolding ulint ulint_at
written bytes behind fits long sum =
    let all : drop 16 bytes ≡ [] = drop_all 16 bytes (omega (arith, long)) in
    let rest : drop 8 bytes ≡ little_bytes 8 (little_number 8 (drop 8 bytes)) ++ drop 16 bytes
    = ulint_part 0 (drop 8 bytes) (AreBytes-drop 8 bytes fits) (omega (arith, length-drop 8 bytes, long))
    ∙ ap (λ xs. little_bytes 8 (little_number 8 (drop 8 bytes)) ++ xs) (drop-drop 8 8 bytes) in
    ulint_part 0 bytes fits (omega (arith, long))
    ∙ ap (λ xs. little_bytes 8 (little_number 8 bytes) ++ xs)
    (rest ∙ ap (λ xs. little_bytes 8 (little_number 8 (drop 8 bytes)) ++ xs) all
    ∙ append-nil (little_bytes 8 (little_number 8 (drop 8 bytes))) ∙ ap (little_bytes 8) sum)

module _ (first last behind : List ℕ) (byte other n m : ℕ) (fits : AreBytes last) (small : byte < 2 ^ 8)
    (also : other < 2 ^ 8) (behind_fits : AreBytes behind)
    (one : first ++ byte ∷ last ≡ with_sum (little_bytes 8 n) behind)
    (two : first ++ other ∷ last ≡ with_sum (little_bytes 8 m) behind) where
  -- a byte of the number
  in_number : (k : ℕ) → 8 ≡ length first + suc k → byte ≡ other
  unfolding ulint
  in_number k place =
      let number : little_bytes 8 n ≡ first ++ byte ∷ take k last
      = ap (take 8) (sym one) ∙ in_body first last byte 8 k place in
      let another : little_bytes 8 m ≡ first ++ other ∷ take k last
      = ap (take 8) (sym two) ∙ in_body first last other 8 k place in
      let sums : little_bytes 8 (checksum (little_bytes 8 n ++ behind))
      ≡ little_bytes 8 (checksum (little_bytes 8 m ++ behind))
      = ap (drop 8) (sym one) ∙ behind_body first last byte 8 k place
      ∙ sym (behind_body first last other 8 k place) ∙ ap (drop 8) two in
      let same : checksum (little_bytes 8 n ++ behind) ≡ checksum (little_bytes 8 m ++ behind)
      = same_ulint (checksum (little_bytes 8 n ++ behind)) (checksum (little_bytes 8 m ++ behind))
      (checksum-lt (little_bytes 8 n ++ behind)) (checksum-lt (little_bytes 8 m ++ behind)) sums in
      same_checksum byte other first (take k last ++ behind) small also
      (AreBytes-append (take k last) behind (AreBytes-take k last fits) behind_fits)
      (ap checksum (sym (append_assoc first (byte ∷ take k last) behind) ∙ ap (λ xs. xs ++ behind) (sym number)) ∙ same
      ∙ ap checksum (ap (λ xs. xs ++ behind) another ∙ append_assoc first (other ∷ take k last) behind))

  -- a byte of the checksum
  in_sum : 8 ≤ length first → byte ≡ other
  in_sum late =
      let number : little_bytes 8 n ≡ little_bytes 8 m
      = ap (take 8) (sym one) ∙ take-append-le 8 first (byte ∷ last) late
      ∙ sym (take-append-le 8 first (other ∷ last) late) ∙ ap (take 8) two in
      first_of_rest first last byte other
      (one ∙ ap (λ xs. with_sum xs behind) number ∙ sym two)

  pub same_byte_of_round : byte ≡ other
  same_byte_of_round =
      elim (cases_lt (length first) 8) [
        | inl early ↦ in_number (7 - length first) (omega (arith, early))
        | inr late ↦ in_sum (omega (arith, late))
      ]

first_is : (a b : Bool) → (a && b) ≡ true → a ≡ true
first_is true b both = refl
first_is false b both = both

-- what is whole begins with the entry of the round
begins : (bytes : List ℕ) (after : Kept) → AreBytes bytes → is_whole ((0, bytes) ∷ after) ≡ true
    → bytes ≡ with_sum (little_bytes 8 (little_number 8 bytes)) (flat_map entry_bytes after)
unfolding checksum_of
begins bytes after fits whole =
    let long : length bytes ≡ 16
    = eqb-true (length bytes) 16
    (first_is (eqb (length bytes) 16)
    (eqb (little_number 8 (drop 8 bytes)) (checksum_of (round_of_bytes bytes) ((0, bytes) ∷ after))) whole) in
    let number : round_of_bytes bytes ≡ little_number 8 bytes
    = ap (λ n. if nat_le 8 n then little_number 8 bytes else 0) long in
    written bytes (flat_map entry_bytes after) fits long
    (sum_is bytes ((0, bytes) ∷ after) whole
    ∙ ap (λ n. checksum (little_bytes 8 n ++ flat_map entry_bytes after)) number)

other_fits : (first last : List ℕ) (other byte : ℕ) → AreBytes (first ++ byte ∷ last) → other < 2 ^ 8
    → AreBytes (first ++ other ∷ last)
other_fits [] last other byte fits small zero = small
other_fits [] last other byte fits small (suc i) = fits (suc i)
other_fits (x ∷ first) last other byte fits small zero = fits 0
other_fits (x ∷ first) last other byte fits small (suc i) =
    other_fits first last other byte (AreBytes-tail x (first ++ byte ∷ last) fits) small i

pub round_byte_shows : round_byte_law
round_byte_shows after first last byte other differs fits small after_fits whole =
    let here : AreBytes (byte ∷ last) = AreBytes-second first (byte ∷ last) fits in
    let tail : AreBytes last = AreBytes-tail byte last here in
    never (is_whole ((0, first ++ other ∷ last) ∷ after))
    (λ also.
    differs
    (same_byte_of_round first last (flat_map entry_bytes after) byte other (little_number 8 (first ++ byte ∷ last))
    (little_number 8 (first ++ other ∷ last)) tail (here 0) small (entries_are after after_fits)
    (begins (first ++ byte ∷ last) after fits whole)
    (begins (first ++ other ∷ last) after (other_fits first last other byte fits small) also)))
