-- Lists of bytes, the bytes that spell a number, and numbers at an offset.
use Rattle.std.proofs.Common.{◌≡◌, ℕ, zero, suc, ◌+◌, ◌-◌, ◌*◌, ◌/◌, ◌%◌, ◌^◌, ◌<◌, ◌≤◌, List, [], ◌∷◌, ◌++◌, length, get_or, take, drop, refl, sym, ap, ◌∙◌, arith, inl, inr, add-zero, append_assoc}
use Rattle.std.proofs.Math.Seq.{drop-cons}
use Rattle.std.proofs.lemmas.Bool.{cases_lt}
use Rattle.std.proofs.lemmas.List.{length-drop, length-take, take_all, get_or-drop, get_or-take, get_or_past}
use Rattle.byteorder.specs.Endian.{little_from, little_number}
use Rattle.byteorder.specs.Numbers.{little_number-reads_back}
use Rattle.cip_bytes.specs.Numbers.{le, number_at, AreBytes}

-- ---- lists of bytes

pub AreBytes-drop : (n : ℕ) (b : List ℕ) → AreBytes b → AreBytes (drop n b)
AreBytes-drop n b h i = rw get_or-drop (h (n + i))

pub AreBytes-tail : (x : ℕ) (b : List ℕ) → AreBytes (x ∷ b) → AreBytes b
AreBytes-tail x b h i = h (suc i)

pub AreBytes-second : (a b : List ℕ) → AreBytes (a ++ b) → AreBytes b
AreBytes-second [] b h = h
AreBytes-second (x ∷ a) b h = AreBytes-second a b (AreBytes-tail x (a ++ b) h)

pub AreBytes-append : (xs ys : List ℕ) → AreBytes xs → AreBytes ys → AreBytes (xs ++ ys)
AreBytes-append [] ys f g i = g i
AreBytes-append (x ∷ xs) ys f g zero = f zero
AreBytes-append (x ∷ xs) ys f g (suc i) = AreBytes-append xs ys (λ k. f (suc k)) g i

pub AreBytes-take : (n : ℕ) (b : List ℕ) → AreBytes b → AreBytes (take n b)
AreBytes-take n b h i =
    elim (cases_lt i n) [
      | inl lt ↦ rw (get_or-take n b i 0 lt) (h i)
      | inr le ↦ rw (get_or_past (take n b) i 0 (omega (arith, length-take n b))) (omega arith)
    ]

-- ---- single bytes

-- n elements of a list from an offset on
abbrev pub cells : ℕ → ℕ → List ℕ → List ℕ
cells zero i xs = []
cells (suc n) i xs = get_or xs i 0 ∷ cells n (suc i) xs

pub drop-cells : (n i : ℕ) (xs : List ℕ) → i + n ≤ length xs → drop i xs ≡ cells n i xs ++ drop (i + n) xs
drop-cells zero i xs h = rw add-zero refl
drop-cells (suc n) i xs h =
    let below : i < length xs = omega arith in
    let next : suc i + n ≤ length xs = omega arith in
    let place : suc i + n ≡ i + suc n = omega arith in
    drop-cons xs i 0 below ∙ ap (λ r. get_or xs i 0 ∷ r) (drop-cells n (suc i) xs next)
    ∙ ap (λ k. (get_or xs i 0 ∷ cells n (suc i) xs) ++ drop k xs) place

-- two, three and four bytes, and the number that they spell
pub le_two : (a b : ℕ) → a < 256 → b < 256 → le 2 (a + 256 * (b + 256 * 0)) ≡ a ∷ b ∷ []
le_two a b p q =
    let first : (a + 256 * (b + 256 * 0)) % 256 ≡ a = omega arith in
    let second : (a + 256 * (b + 256 * 0)) / 256 % 256 ≡ b = omega arith in
    rw (first, second) refl

pub le_three : (a b c : ℕ) → a < 256 → b < 256 → c < 256 → le 3 (a + 256 * (b + 256 * (c + 256 * 0))) ≡ a ∷ b ∷ c ∷ []
le_three a b c p q r =
    let first : (a + 256 * (b + 256 * (c + 256 * 0))) % 256 ≡ a = omega arith in
    let second : (a + 256 * (b + 256 * (c + 256 * 0))) / 256 % 256 ≡ b = omega arith in
    let third : (a + 256 * (b + 256 * (c + 256 * 0))) / 65536 % 256 ≡ c = omega arith in
    rw (first, second, third) refl

pub le_four : (a b c d : ℕ) → a < 256 → b < 256 → c < 256 → d < 256
    → le 4 (a + 256 * (b + 256 * (c + 256 * (d + 256 * 0)))) ≡ a ∷ b ∷ c ∷ d ∷ []
le_four a b c d p q r s =
    let x : ℕ = a + 256 * (b + 256 * (c + 256 * (d + 256 * 0))) in
    let first : (a + 256 * (b + 256 * (c + 256 * (d + 256 * 0)))) % 256 ≡ a = omega arith in
    let second : (a + 256 * (b + 256 * (c + 256 * (d + 256 * 0)))) / 256 % 256 ≡ b = omega arith in
    let third : (a + 256 * (b + 256 * (c + 256 * (d + 256 * 0)))) / 65536 % 256 ≡ c = omega arith in
    let fourth : (a + 256 * (b + 256 * (c + 256 * (d + 256 * 0)))) / 16777216 % 256 ≡ d = omega arith in
    rw (first, second, third, fourth) refl

pub le-number_at_2 : (place : ℕ) (bytes : List ℕ) → AreBytes bytes → le 2 (number_at place 2 bytes) ≡ cells 2 place bytes
le-number_at_2 i xs fits = le_two (get_or xs i 0) (get_or xs (suc i) 0) (fits i) (fits (suc i))

pub le-number_at_3 : (place : ℕ) (bytes : List ℕ) → AreBytes bytes → le 3 (number_at place 3 bytes) ≡ cells 3 place bytes
le-number_at_3 i xs fits =
    le_three (get_or xs i 0) (get_or xs (suc i) 0) (get_or xs (suc (suc i)) 0) (fits i) (fits (suc i)) (fits (suc (suc i)))

pub le-number_at_4 : (place : ℕ) (bytes : List ℕ) → AreBytes bytes → le 4 (number_at place 4 bytes) ≡ cells 4 place bytes
le-number_at_4 i xs fits =
    le_four (get_or xs i 0) (get_or xs (suc i) 0) (get_or xs (suc (suc i)) 0) (get_or xs (suc (suc (suc i))) 0)
    (fits i) (fits (suc i)) (fits (suc (suc i))) (fits (suc (suc (suc i))))

-- a number of two or four bytes is what its bytes spell
pub of_two : (v : ℕ) → v < 2 ^ 16 → v % 256 + 256 * (v / 256 % 256 + 256 * 0) ≡ v
of_two v h = omega arith

pub of_four : (v : ℕ) → v < 2 ^ 32
    → v % 256 + 256 * (v / 256 % 256 + 256 * (v / 65536 % 256 + 256 * (v / 16777216 % 256 + 256 * 0))) ≡ v
of_four v h = omega arith

-- two bytes are the spelling of their number, and so are four
pub le2_back : (a b : ℕ) → a < 256 → b < 256 → le 2 (a + 256 * b) ≡ a ∷ b ∷ []
le2_back a b ha hb =
    let number : a + 256 * b ≡ a + 256 * (b + 256 * 0) = omega arith in
    ap (le 2) number ∙ le_two a b ha hb

pub le4_back : (a b c d : ℕ) → a < 256 → b < 256 → c < 256 → d < 256 → le 4 (a + 256 * (b + 256 * (c + 256 * d))) ≡ a ∷ b ∷ c ∷ d ∷ []
le4_back a b c d ha hb hc hd =
    let number : a + 256 * (b + 256 * (c + 256 * d)) ≡ a + 256 * (b + 256 * (c + 256 * (d + 256 * 0))) = omega arith in
    ap (le 4) number ∙ le_four a b c d ha hb hc hd

-- the number of two bytes, and of four, read back
pub le2_again : (v : ℕ) → v < 2 ^ 16 → (rest : List ℕ) → little_from 0 2 (le 2 v ++ rest) ≡ v
le2_again v h rest = little_number-reads_back 2 v rest h

pub le4_again : (v : ℕ) → v < 2 ^ 32 → (rest : List ℕ) → little_from 0 4 (le 4 v ++ rest) ≡ v
le4_again v h rest = little_number-reads_back 4 v rest h

-- ---- a number at an offset

-- the list that `&b[k..]` lends
pub rest_slice : (k : ℕ) (b : List ℕ) → take (length b - k) (drop k b) ≡ drop k b
rest_slice k b = take_all (length b - k) (drop k b) (omega (arith, length-drop k b))

little_from-drop : (n i k : ℕ) (b : List ℕ) → little_from i n (drop k b) ≡ little_from (k + i) n b
little_from-drop zero i k b = refl
little_from-drop (suc n) i k b =
    let place : k + suc i ≡ suc (k + i) = omega arith in
    let rest = little_from-drop n (suc i) k b ∙ ap (λ p. little_from p n b) place in
    rw (get_or-drop, rest) refl

-- the number read from `&b[k..]` is the one at offset k
pub number_behind : (n k : ℕ) (b : List ℕ) → little_number n (take (length b - k) (drop k b)) ≡ number_at k n b
number_behind n k b = ap (little_number n) (rest_slice k b) ∙ little_from-drop n 0 k b ∙ ap (λ p. little_from p n b) (add-zero k)

-- ---- the fields of a message, one after another

-- b is these bytes and then the rest
pub record Parts (b text rest : List ℕ) : Type 0 where
  pub is : b ≡ text ++ rest

pub at1 : (k : ℕ) (b : List ℕ) → k < length b → Parts (drop k b) (get_or b k 0 ∷ []) (drop (suc k) b)
at1 k b h = record { is = drop-cons b k 0 h }

pub at2 : (k : ℕ) (b : List ℕ) → AreBytes b → k + 2 ≤ length b → Parts (drop k b) (le 2 (number_at k 2 b)) (drop (k + 2) b)
at2 k b fits h = record { is = drop-cells 2 k b h ∙ ap (λ (t : List ℕ). t ++ drop (k + 2) b) (sym (le-number_at_2 k b fits)) }

pub at3 : (k : ℕ) (b : List ℕ) → AreBytes b → k + 3 ≤ length b → Parts (drop k b) (le 3 (number_at k 3 b)) (drop (k + 3) b)
at3 k b fits h = record { is = drop-cells 3 k b h ∙ ap (λ (t : List ℕ). t ++ drop (k + 3) b) (sym (le-number_at_3 k b fits)) }

pub at4 : (k : ℕ) (b : List ℕ) → AreBytes b → k + 4 ≤ length b → Parts (drop k b) (le 4 (number_at k 4 b)) (drop (k + 4) b)
at4 k b fits h = record { is = drop-cells 4 k b h ∙ ap (λ (t : List ℕ). t ++ drop (k + 4) b) (sym (le-number_at_4 k b fits)) }

pub parts_then : {b t r u s : List ℕ} → Parts b t r → Parts r u s → Parts b (t ++ u) s
parts_then {b} {t} {r} {u} {s} p q = record { is = p.is ∙ ap (λ (x : List ℕ). t ++ x) q.is ∙ sym (append_assoc t u s) }
