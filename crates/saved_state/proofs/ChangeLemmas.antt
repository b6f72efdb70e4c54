-- No two states differ in one byte: each step of the checksum can be undone.
use Rattle.std.proofs.Common.{◌≡◌, inl, inr, ℕ, suc, ◌+◌, ◌-◌, ◌*◌, ◌%◌, ◌^◌, ◌<◌, ◌≤◌, List, [], ◌∷◌, ◌++◌, length, take, drop, fold, bit_xor, refl, sym, ap, subst, ◌∙◌, arith, length-append, lit<}
use Rattle.std.proofs.Math.Nat.{mod-lt, mod-eq_of_lt, mul_assoc, mul-one}
use Rattle.std.proofs.Math.Seq.{take-append-add, drop-append-add}
use Rattle.std.proofs.lemmas.List.{take-append-le, take_at, drop_at}
use Rattle.std.proofs.lemmas.Bool.{cases_lt}
use Rattle.std.proofs.lemmas.Nat.{mul-mod_first, mul-mod_second, xor_comm, xor_lt}
use Rattle.std.specs.Int.Bits.{xor_self, xor_assoc, xor_zero_r}
use Rattle.cip_bytes.specs.Numbers.{AreBytes}
use Rattle.cip_bytes.proofs.Bytes.{AreBytes-tail, AreBytes-second, AreBytes-take}
use Rattle.saved_state.specs.Checksum.{hashed, checksum}
use Rattle.saved_state.specs.Numbers.{ulint, ulint_at}
use Rattle.saved_state.specs.States.{State, body, spelled}
use Rattle.saved_state.proofs.NumberLemmas.{length-ulint, ulint_again}
use Rattle.saved_state.proofs.SpelledLemmas.{checksum-lt}

-- ---- a product with the prime, modulo 2^64

-- the prime times this number is 1, modulo 2^64
INVERSE : ℕ
INVERSE = 0xce965057aff6957b

undone : (x : ℕ) → x < 2 ^ 64 → ((x * 0x100000001b3) % 2 ^ 64 * INVERSE) % 2 ^ 64 ≡ x
unfolding INVERSE
undone x small =
    mul-mod_first (x * 0x100000001b3) 0xce965057aff6957b (2 ^ 64)
    ∙ ap (λ p. p % 2 ^ 64) (mul_assoc x 0x100000001b3 0xce965057aff6957b)
    ∙ sym (mul-mod_second x (0x100000001b3 * 0xce965057aff6957b) (2 ^ 64))
    ∙ ap (λ p. p % 2 ^ 64) (mul-one x) ∙ mod-eq_of_lt small

same_factor : (x y : ℕ) → x < 2 ^ 64 → y < 2 ^ 64 → (x * 0x100000001b3) % 2 ^ 64 ≡ (y * 0x100000001b3) % 2 ^ 64 → x ≡ y
same_factor x y p q e = sym (undone x p) ∙ ap (λ r. (r * INVERSE) % 2 ^ 64) e ∙ undone y q

-- ---- a step of the checksum

xor_back : (a b : ℕ) → bit_xor (bit_xor a b) b ≡ a
xor_back a b = xor_assoc a b b ∙ ap (bit_xor a) (xor_self b) ∙ xor_zero_r a

xor_small : (h b : ℕ) → h < 2 ^ 64 → b < 2 ^ 8 → bit_xor h b < 2 ^ 64
xor_small h b p q = xor_lt 64 h b p (omega arith)

same_hash : (h k b : ℕ) → h < 2 ^ 64 → k < 2 ^ 64 → b < 2 ^ 8 → hashed h b ≡ hashed k b → h ≡ k
same_hash h k b p q r e =
    sym (xor_back h b)
    ∙ ap (λ x. bit_xor x b) (same_factor (bit_xor h b) (bit_xor k b) (xor_small h b p r) (xor_small k b q r) e)
    ∙ xor_back k b

same_byte : (h a b : ℕ) → h < 2 ^ 64 → a < 2 ^ 8 → b < 2 ^ 8 → hashed h a ≡ hashed h b → a ≡ b
same_byte h a b p q r e =
    sym (xor_back a h)
    ∙ ap (λ x. bit_xor x h) (xor_comm a h
    ∙ same_factor (bit_xor h a) (bit_xor h b) (xor_small h a p q) (xor_small h b p r) e ∙ xor_comm h b)
    ∙ xor_back b h

hashed-lt : (h b : ℕ) → hashed h b < 2 ^ 64
hashed-lt h b = mod-lt (bit_xor h b * 0x100000001b3) (lit< tt)

same_start : (h k : ℕ) (bytes : List ℕ) → h < 2 ^ 64 → k < 2 ^ 64 → AreBytes bytes
    → fold hashed h bytes ≡ fold hashed k bytes → h ≡ k
same_start h k [] p q fits e = e
same_start h k (b ∷ bytes) p q fits e =
    same_hash h k b p q (fits 0)
    (same_start (hashed h b) (hashed k b) bytes (hashed-lt h b) (hashed-lt k b) (AreBytes-tail b bytes fits) e)

same_folded : (h a b : ℕ) (before behind : List ℕ) → h < 2 ^ 64 → a < 2 ^ 8 → b < 2 ^ 8 → AreBytes behind
    → fold hashed h (before ++ a ∷ behind) ≡ fold hashed h (before ++ b ∷ behind) → a ≡ b
same_folded h a b [] behind p q r fits e =
    same_byte h a b p q r (same_start (hashed h a) (hashed h b) behind (hashed-lt h a) (hashed-lt h b) fits e)
same_folded h a b (x ∷ before) behind p q r fits e =
    same_folded (hashed h x) a b before behind (hashed-lt h x) q r fits e

pub same_checksum : (a b : ℕ) (before behind : List ℕ) → a < 2 ^ 8 → b < 2 ^ 8 → AreBytes behind
    → checksum (before ++ a ∷ behind) ≡ checksum (before ++ b ∷ behind) → a ≡ b
unfolding checksum
same_checksum a b before behind q r fits e = same_folded 0xcbf29ce484222325 a b before behind (lit< tt) q r fits e

-- ---- a byte of a state

pub same_ulint : (v w : ℕ) → v < 2 ^ 64 → w < 2 ^ 64 → ulint v ≡ ulint w → v ≡ w
same_ulint v w p q e =
    sym (ulint_again v [] p) ∙ ap (λ t. ulint_at 0 (t ++ [])) e ∙ ulint_again w [] q

pub first_of_rest : (before behind : List ℕ) (a b : ℕ) → before ++ a ∷ behind ≡ before ++ b ∷ behind → a ≡ b
first_of_rest before behind a b e =
    let rests : a ∷ behind ≡ b ∷ behind
    = sym (drop_at before (a ∷ behind) (length before) refl) ∙ ap (drop (length before)) e
    ∙ drop_at before (b ∷ behind) (length before) refl in
    cc

-- the bytes before the checksum, and the checksum
body_front : (s : State) → take (length (body s)) (spelled s) ≡ body s
body_front s = take_at (body s) (ulint (checksum (body s))) (length (body s)) refl

sum_rest : (s : State) → drop (length (body s)) (spelled s) ≡ ulint (checksum (body s))
sum_rest s = drop_at (body s) (ulint (checksum (body s))) (length (body s)) refl

pub in_body : (before behind : List ℕ) (a n k : ℕ) → n ≡ length before + suc k → take n (before ++ a ∷ behind) ≡ before ++ a ∷ take k behind
in_body before behind a n k e = ap (λ m. take m (before ++ a ∷ behind)) e ∙ take-append-add before (a ∷ behind) (suc k)

pub behind_body : (before behind : List ℕ) (a n k : ℕ) → n ≡ length before + suc k → drop n (before ++ a ∷ behind) ≡ drop k behind
behind_body before behind a n k e = ap (λ m. drop m (before ++ a ∷ behind)) e ∙ drop-append-add before (a ∷ behind) (suc k)

changed_body : (s t : State) (before behind : List ℕ) (a b k : ℕ) → a < 2 ^ 8 → b < 2 ^ 8 → AreBytes behind
    → length (body s) ≡ length before + suc k → length (body t) ≡ length before + suc k
    → spelled s ≡ before ++ a ∷ behind → spelled t ≡ before ++ b ∷ behind → a ≡ b
changed_body s t before behind a b k p q fits long also is this =
    let one : body s ≡ before ++ a ∷ take k behind
    = sym (body_front s) ∙ ap (take (length (body s))) is ∙ in_body before behind a (length (body s)) k long in
    let other : body t ≡ before ++ b ∷ take k behind
    = sym (body_front t) ∙ ap (take (length (body t))) this ∙ in_body before behind b (length (body t)) k also in
    let sums : ulint (checksum (body s)) ≡ ulint (checksum (body t))
    = sym (sum_rest s) ∙ ap (drop (length (body s))) is ∙ behind_body before behind a (length (body s)) k long
    ∙ sym (behind_body before behind b (length (body t)) k also) ∙ ap (drop (length (body t))) (sym this) ∙ sum_rest t in
    same_checksum a b before (take k behind) p q (AreBytes-take k behind fits)
    (ap checksum (sym one) ∙ same_ulint (checksum (body s)) (checksum (body t)) (checksum-lt (body s)) (checksum-lt (body t)) sums
    ∙ ap checksum other)

changed_sum : (s t : State) (before behind : List ℕ) (a b : ℕ) → length (body s) ≡ length (body t)
    → length (body s) ≤ length before → spelled s ≡ before ++ a ∷ behind → spelled t ≡ before ++ b ∷ behind → a ≡ b
changed_sum s t before behind a b same late is this =
    let bodies : body s ≡ body t
    = sym (body_front s) ∙ ap (take (length (body s))) is
    ∙ take-append-le (length (body s)) before (a ∷ behind) late
    ∙ sym (take-append-le (length (body s)) before (b ∷ behind) late)
    ∙ ap (take (length (body s))) (sym this) ∙ ap (λ n. take n (spelled t)) same ∙ body_front t in
    first_of_rest before behind a b (sym is ∙ ap (λ m. m ++ ulint (checksum m)) bodies ∙ this)

pub changed_lem : (s t : State) (before behind : List ℕ) (a b : ℕ) → AreBytes (spelled s) → AreBytes (spelled t)
    → spelled s ≡ before ++ a ∷ behind → spelled t ≡ before ++ b ∷ behind → a ≡ b
changed_lem s t before behind a b fits also is this =
    let one : length (body s) + 8 ≡ length before + suc (length behind)
    = omega (
      arith,
      ap length is,
      length-append (body s) (ulint (checksum (body s))),
      length-ulint (checksum (body s)),
      length-append before (a ∷ behind),
    ) in
    let other : length (body t) + 8 ≡ length before + suc (length behind)
    = omega (
      arith,
      ap length this,
      length-append (body t) (ulint (checksum (body t))),
      length-ulint (checksum (body t)),
      length-append before (b ∷ behind),
    ) in
    let first : AreBytes (a ∷ behind) = AreBytes-second before (a ∷ behind) (subst AreBytes is fits) in
    let second : AreBytes (b ∷ behind) = AreBytes-second before (b ∷ behind) (subst AreBytes this also) in
    elim (cases_lt (length before) (length (body s))) [
      | inl early ↦ changed_body s t before behind a b (length (body s) - suc (length before)) (first 0) (second 0)
          (AreBytes-tail a behind first) (omega arith) (omega arith) is this
      | inr late ↦ changed_sum s t before behind a b (omega arith) late is this
    ]
