-- A reply that is read is the one spelled, and what is spelled is read, whatever its reserved byte.
use Rattle.std.proofs.Common.{◌≡◌, ◌↔◌, ℕ, zero, suc, ◌+◌, ◌*◌, ◌/◌, ◌%◌, ◌<◌, ◌≤◌, Bool, true, false, cond, ltb, List, [], ◌∷◌, ◌++◌, length, slice_index, take, drop, Result, Ok, Err, refl, sym, ap, subst, ◌∙◌, arith, inl, inr}
use Rattle.std.proofs.lemmas.Bool.{ltb-true, ltb-false, le-ltb, lt-ltb}
use Rattle.std.proofs.lemmas.List.{take_at, drop_at, take-append-drop, length-take}
use Rattle.byteorder.specs.Endian.{little_number}
use Rattle.std.proofs.Common.{Some, None}
use Rattle.std.specs.Prelude.{slice_get}
use Rattle.std.specs.List.{flat_map}
use Rattle.std.proofs.lemmas.List.{length-append}
use Rattle.std.proofs.lemmas.List.Concat.{flat_map-cons}
use Rattle.cip_bytes.specs.Numbers.{le, AreWords, words_of, AreBytes}
use Rattle.cip_message.specs.declared.reply.ReplyView.{ReplyView}
use Rattle.cip_message.specs.declared.reply.ReplyFault.{ReplyFault}
use Rattle.cip_message.specs.declared.reply.ReplyFault.TheVariants.{Short, NotReply, Extra}
use Rattle.cip_bytes.specs.Reading.{Gives}
use Rattle.cip_message.specs.Reply.{Reply, IsReply, SpellsReply, reply_with, reply_of_fields, view, reply_of}
use Rattle.cip_bytes.proofs.Bytes.{AreBytes-drop, AreBytes-take, AreBytes-tail, le2_back}
use Rattle.cip_bytes.proofs.Steps.{gives_iff, iff_then, guarded_ok, chosen}

pub length_flat_words : (words : List ℕ) → length (flat_map (le 2) words) ≡ 2 * length words
length_flat_words [] = refl
length_flat_words (w ∷ ws) =
    let more = length_flat_words ws in
    ap length (flat_map-cons (le 2) w ws) ∙ omega (arith, more)

pub length_words : (words bytes : List ℕ) → length (flat_map (le 2) words ++ bytes) ≡ 2 * length words + length bytes
length_words words bytes =
    omega (arith, length-append (flat_map (le 2) words) bytes, length_flat_words words)

-- ---- words and their bytes

words_fit : (b : List ℕ) → AreBytes b → AreWords (words_of b)
words_fit [] fits i = omega arith
words_fit (a ∷ []) fits i = omega arith
words_fit (a ∷ b ∷ rest) fits zero = omega (arith, fits 0, fits 1)
words_fit (a ∷ b ∷ rest) fits (suc i) = words_fit rest (AreBytes-tail b rest (AreBytes-tail a (b ∷ rest) fits)) i

length_words_of : (n : ℕ) (b : List ℕ) → length b ≡ 2 * n → length (words_of b) ≡ n
length_words_of n [] e = omega arith
length_words_of n (a ∷ []) e = absurd (omega arith)
length_words_of zero (a ∷ b ∷ rest) e = absurd (omega arith)
length_words_of (suc n) (a ∷ b ∷ rest) e = ap suc (length_words_of n rest (omega arith))

words_back : (n : ℕ) (b : List ℕ) → length b ≡ 2 * n → AreBytes b → flat_map (le 2) (words_of b) ≡ b
words_back n [] e fits = refl
words_back n (a ∷ []) e fits = absurd (omega arith)
words_back zero (a ∷ b ∷ rest) e fits = absurd (omega arith)
words_back (suc n) (a ∷ b ∷ rest) e fits =
    let more = words_back n rest (omega arith) (AreBytes-tail b rest (AreBytes-tail a (b ∷ rest) fits)) in
    flat_map-cons (le 2) (a + 256 * b) (words_of rest)
    ∙ ap (λ (t : List ℕ). t ++ flat_map (le 2) (words_of rest)) (le2_back a b (fits 0) (fits 1)) ∙ ap (λ (t : List ℕ). a ∷ b ∷ t) more

words_again : (ws : List ℕ) → AreWords ws → words_of (flat_map (le 2) ws) ≡ ws
words_again [] fits = refl
words_again (w ∷ ws) fits =
    let more = words_again ws (λ i. fits (suc i)) in
    let first : w % 256 + 256 * (w / 256 % 256) ≡ w = omega (arith, fits 0) in
    ap words_of (flat_map-cons (le 2) w ws) ∙ rw (first, more) refl

-- ---- reading

-- the two tests after the four bytes
abbrev tested : ℕ → ℕ → List ℕ → Reply → Result Reply ReplyFault
tested service words rest a = cond (ltb service 128) (Err NotReply) (cond (ltb (length rest) (2 * words)) (Err Extra) (Ok a))

reply_taken : (b : List ℕ) (a : Reply) → AreBytes b → reply_of b ≡ Ok a → SpellsReply a b
unfolding reply_of
reply_taken [] a fits e = absurd cc
reply_taken (s ∷ []) a fits e = absurd cc
reply_taken (s ∷ r ∷ []) a fits e = absurd cc
reply_taken (s ∷ r ∷ t ∷ []) a fits e = absurd cc
reply_taken (s ∷ r ∷ t ∷ n ∷ rest) a fits e =
    let front = take (2 * n) rest in
    let all = drop (2 * n) rest in
    let made : Reply = reply_of_fields s t (words_of front) all in
    elim (chosen (ltb s 128) (Err NotReply) (cond (ltb (length rest) (2 * n)) (Err Extra) (Ok made)) (Ok a) e) [
      | inl h ↦ absurd (let f = h.1 in cc)
      | inr h ↦
          let g = guarded_ok (ltb (length rest) (2 * n)) Extra made a h.1 in
          let bit : 128 ≤ s = ltb-false _ _ h.0 in
          let long : 2 * n ≤ length rest = ltb-false _ _ g.0 in
          let len : length front ≡ 2 * n = omega (arith, length-take (2 * n) rest) in
          let fits_rest : AreBytes rest = AreBytes-tail n rest (AreBytes-tail t (n ∷ rest) (AreBytes-tail r (t ∷ n ∷ rest) (AreBytes-tail s (r ∷ t ∷ n ∷ rest) fits))) in
          let fits_front = AreBytes-take (2 * n) rest fits_rest in
          let count : length (words_of front) ≡ n = length_words_of n front len in
          let words = words_back n front len fits_front in
          let is : IsReply made = record { service = fits 0; bit7 = bit; status = fits 2; counted = omega (arith, fits 3); additional = words_fit front fits_front; «data» = AreBytes-drop (2 * n) rest fits_rest } in
          let text : s ∷ r ∷ t ∷ n ∷ rest ≡ reply_with r made =
          ap (λ (x : List ℕ). s ∷ r ∷ t ∷ n ∷ x) (sym (take-append-drop (2 * n) rest))
          ∙ ap (λ (x : List ℕ). s ∷ r ∷ t ∷ n ∷ (x ++ all)) (sym words)
          ∙ ap (λ (k : ℕ). s ∷ r ∷ t ∷ k ∷ (flat_map (le 2) (words_of front) ++ all)) (sym count) in
          subst (λ (x : Reply). SpellsReply x (s ∷ r ∷ t ∷ n ∷ rest)) g.1 (record { reserved = r; is_reply = is; spelled = text })
    ]

reply_again : (r : ℕ) (a : Reply) → IsReply a → reply_of (reply_with r a) ≡ Ok a
unfolding reply_of
reply_again r a h =
    let bit : ltb a.service 128 ≡ false = le-ltb _ _ h.bit7 in
    let len : length (flat_map (le 2) a.additional) ≡ 2 * length a.additional = length_flat_words a.additional in
    let long : ltb (length (flat_map (le 2) a.additional ++ a.data)) (2 * length a.additional) ≡ false = le-ltb _ _ (omega (arith, length_words a.additional a.data)) in
    let front = take_at (flat_map (le 2) a.additional) a.data (2 * length a.additional) len in
    let rest = drop_at (flat_map (le 2) a.additional) a.data (2 * length a.additional) len in
    let words = words_again a.additional h.additional in
    rw (bit, long, front, rest, words) refl

-- what is written is read as the reply that it is
pub read_back : (a : Reply) → SpellsReply a (reply_with 0 a) → reply_of (reply_with 0 a) ≡ Ok a
read_back a h = reply_again 0 a h.is_reply

reply_iff : (b : List ℕ) (a : Reply) → AreBytes b → (reply_of b ≡ Ok a) ↔ SpellsReply a b
reply_iff b a fits = (reply_taken b a fits, (λ h. ap reply_of h.spelled ∙ reply_again h.reserved a h.is_reply))

short_iff : (b : List ℕ) → (reply_of b ≡ Err Short) ↔ (length b < 4)
unfolding reply_of
short_iff [] = ((λ e. omega arith), (λ h. refl))
short_iff (s ∷ []) = ((λ e. omega arith), (λ h. refl))
short_iff (s ∷ r ∷ []) = ((λ e. omega arith), (λ h. refl))
short_iff (s ∷ r ∷ t ∷ []) = ((λ e. omega arith), (λ h. refl))
short_iff (s ∷ r ∷ t ∷ n ∷ rest) = ((λ e. absurd (never (ltb s 128) (ltb (length rest) (2 * n)) _ e)), (λ h. absurd (omega arith)))
  where
    never : (x y : Bool) (a : Reply) → cond x (Err NotReply) (cond y (Err Extra) (Ok a)) ≡ Err Short → ⊥
    never true y a e = cc
    never false true a e = cc
    never false false a e = cc

not_reply_iff : (b : List ℕ) → (reply_of b ≡ Err NotReply) ↔ ((4 ≤ length b) × (slice_index b 0 < 128))
unfolding reply_of
not_reply_iff [] = ((λ e. absurd cc), (λ h. absurd (omega (arith, h.0))))
not_reply_iff (s ∷ []) = ((λ e. absurd cc), (λ h. absurd (omega (arith, h.0))))
not_reply_iff (s ∷ r ∷ []) = ((λ e. absurd cc), (λ h. absurd (omega (arith, h.0))))
not_reply_iff (s ∷ r ∷ t ∷ []) = ((λ e. absurd cc), (λ h. absurd (omega (arith, h.0))))
not_reply_iff (s ∷ r ∷ t ∷ n ∷ rest) =
    ((λ e. (omega arith, ltb-true _ _ (clear (ltb s 128) (ltb (length rest) (2 * n)) _ e))), (λ h. rw (lt-ltb _ _ h.1) refl))
  where
    clear : (x y : Bool) (a : Reply) → cond x (Err NotReply) (cond y (Err Extra) (Ok a)) ≡ Err NotReply → x ≡ true
    clear true y a e = refl
    clear false true a e = absurd cc
    clear false false a e = absurd cc

extra_iff : (b : List ℕ) → (reply_of b ≡ Err Extra) ↔ ((4 ≤ length b) × (128 ≤ slice_index b 0) × (length b < 4 + 2 * slice_index b 3))
unfolding reply_of
extra_iff [] = ((λ e. absurd cc), (λ h. absurd (omega (arith, h.0))))
extra_iff (s ∷ []) = ((λ e. absurd cc), (λ h. absurd (omega (arith, h.0))))
extra_iff (s ∷ r ∷ []) = ((λ e. absurd cc), (λ h. absurd (omega (arith, h.0))))
extra_iff (s ∷ r ∷ t ∷ []) = ((λ e. absurd cc), (λ h. absurd (omega (arith, h.0))))
extra_iff (s ∷ r ∷ t ∷ n ∷ rest) = (
  (λ e. let p = past (ltb s 128) (ltb (length rest) (2 * n)) _ e in
      let lt : length rest < 2 * n = ltb-true _ _ p.1 in (omega arith, ltb-false _ _ p.0, omega arith)),
  (λ h. let lt : length rest < 2 * n = omega (arith, h.2) in rw (le-ltb _ _ h.1, lt-ltb _ _ lt) refl),
)
  where
    past : (x y : Bool) (a : Reply) → cond x (Err NotReply) (cond y (Err Extra) (Ok a)) ≡ Err Extra → (x ≡ false) × (y ≡ true)
    past true y a e = absurd cc
    past false true a e = (refl, refl)
    past false false a e = absurd cc

-- ---- what a reader returned

pub reads_reply : (b : List ℕ) (r : Result ReplyView ReplyFault) → AreBytes b → Gives view r (reply_of b) → (a : Reply) → Gives view r (Ok a) ↔ SpellsReply a b
reads_reply b r fits e a = iff_then (gives_iff view r (reply_of b) (Ok a) e) (reply_iff b a fits)

pub reads_short : (b : List ℕ) (r : Result ReplyView ReplyFault) → Gives view r (reply_of b) → Gives view r (Err Short) ↔ (length b < 4)
reads_short b r e = iff_then (gives_iff view r (reply_of b) (Err Short) e) (short_iff b)

pub reads_not_reply : (b : List ℕ) (r : Result ReplyView ReplyFault) → Gives view r (reply_of b) → Gives view r (Err NotReply) ↔ ((4 ≤ length b) × (slice_index b 0 < 128))
reads_not_reply b r e = iff_then (gives_iff view r (reply_of b) (Err NotReply) e) (not_reply_iff b)

pub reads_extra : (b : List ℕ) (r : Result ReplyView ReplyFault) → Gives view r (reply_of b) → Gives view r (Err Extra) ↔ ((4 ≤ length b) × (128 ≤ slice_index b 0) × (length b < 4 + 2 * slice_index b 3))
reads_extra b r e = iff_then (gives_iff view r (reply_of b) (Err Extra) e) (extra_iff b)

-- ---- one word

pub word_at : (b : List ℕ) (i : ℕ) → i < length b / 2 → slice_get (words_of b) i ≡ Some (little_number 2 (drop (2 * i) b))
word_at [] i lt = absurd (omega arith)
word_at (x ∷ []) i lt = absurd (omega arith)
word_at (x ∷ y ∷ rest) zero lt =
    let number : x + 256 * y ≡ little_number 2 (x ∷ y ∷ rest) = omega arith in
    ap (λ (n : ℕ). Some n) number
word_at (x ∷ y ∷ rest) (suc i) lt =
    let twice : 2 * suc i ≡ suc (suc (2 * i)) = omega arith in
    word_at rest i (omega arith) ∙ ap (λ (k : ℕ). Some (little_number 2 (drop k (x ∷ y ∷ rest)))) (sym twice)

pub no_word : (b : List ℕ) (i : ℕ) → length b / 2 ≤ i → slice_get (words_of b) i ≡ None
no_word [] i le_ = refl
no_word (x ∷ []) i le_ = refl
no_word (x ∷ y ∷ rest) zero le_ = absurd (omega arith)
no_word (x ∷ y ∷ rest) (suc i) le_ = no_word rest i (omega arith)

-- a prefix of whole words
pub even_front : (n : ℕ) (rest : List ℕ) → 2 * n ≤ length rest → length (take (2 * n) rest) % 2 ≡ 0
even_front n rest h = omega (arith, length-take (2 * n) rest)
