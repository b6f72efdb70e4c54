-- Numbers of four and of eight bytes, and their bytes.
use Rattle.std.proofs.Common.{◌≡◌, ℕ, zero, suc, ◌+◌, ◌-◌, ◌*◌, ◌/◌, ◌^◌, ◌<◌, ◌≤◌, List, [], ◌∷◌, ◌++◌, length, take, drop, codes, refl, sym, ap, ◌∙◌, arith, length-take, length-drop, append-nil, lit<}
use Rattle.std.proofs.Math.Nat.{mod-lt}
use Rattle.std.proofs.Math.Seq.{take-append_seam}
use Rattle.std.proofs.lemmas.List.{drop-drop, drop_at, take-append-drop}
use Rattle.std.specs.Int.{byte_at, bytes_low_first}
use Rattle.byteorder.specs.Endian.{little_from, little_number}
use Rattle.byteorder.specs.Numbers.{length-bytes_low_first, little_number-reads_back, little_from-lt, little_from-cons, little_from-append, little_from-take}
use Rattle.cip_bytes.specs.Numbers.{le, number_at, AreBytes}
use Rattle.cip_bytes.proofs.Bytes.{number_behind, rest_slice, AreBytes-drop, AreBytes-take, AreBytes-tail}
use Rattle.saved_state.specs.Numbers.{udint, ulint, udint_at, ulint_at}

-- ---- how many bytes a number has

pub length-udint : (v : ℕ) → length (udint v) ≡ 4
unfolding udint
length-udint v = length-bytes_low_first 0 4 v

pub length-ulint : (v : ℕ) → length (ulint v) ≡ 8
unfolding ulint
length-ulint v = length-bytes_low_first 0 8 v

-- ---- a number at an offset

-- what is read from `&bytes[offset..]`
pub udint_behind : (offset : ℕ) (bytes : List ℕ)
    → little_number 4 (take (length bytes - offset) (drop offset bytes)) ≡ udint_at offset bytes
unfolding udint_at
udint_behind offset bytes = number_behind 4 offset bytes

pub ulint_behind : (offset : ℕ) (bytes : List ℕ)
    → little_number 8 (take (length bytes - offset) (drop offset bytes)) ≡ ulint_at offset bytes
unfolding ulint_at
ulint_behind offset bytes = number_behind 8 offset bytes

-- the number at the front of the rest
number_at_front : (n k : ℕ) (b : List ℕ) → little_from 0 n (drop k b) ≡ little_from k n b
number_at_front n k b = ap (little_from 0 n) (sym (rest_slice k b)) ∙ number_behind n k b

pub udint_at_front : (k : ℕ) (b : List ℕ) → udint_at 0 (drop k b) ≡ udint_at k b
unfolding udint_at
udint_at_front k b = number_at_front 4 k b

pub ulint_at_front : (k : ℕ) (b : List ℕ) → ulint_at 0 (drop k b) ≡ ulint_at k b
unfolding ulint_at
ulint_at_front k b = number_at_front 8 k b

-- ---- a number is read as it was written

udint_again : (v : ℕ) (rest : List ℕ) → v < 2 ^ 32 → udint_at 0 (udint v ++ rest) ≡ v
unfolding udint udint_at
udint_again v rest h = little_number-reads_back 4 v rest h

pub ulint_again : (v : ℕ) (rest : List ℕ) → v < 2 ^ 64 → ulint_at 0 (ulint v ++ rest) ≡ v
unfolding ulint ulint_at
ulint_again v rest h = little_number-reads_back 8 v rest h

pub udint_field : (k v : ℕ) (text before behind : List ℕ) → text ≡ before ++ (udint v ++ behind) → length before ≡ k
    → v < 2 ^ 32 → udint_at k text ≡ v
udint_field k v text before behind is long h =
    sym (udint_at_front k text) ∙ ap (λ t. udint_at 0 (drop k t)) is
    ∙ ap (udint_at 0) (drop_at before (udint v ++ behind) k long) ∙ udint_again v behind h

pub ulint_field : (k v : ℕ) (text before behind : List ℕ) → text ≡ before ++ (ulint v ++ behind) → length before ≡ k
    → v < 2 ^ 64 → ulint_at k text ≡ v
ulint_field k v text before behind is long h =
    sym (ulint_at_front k text) ∙ ap (λ t. ulint_at 0 (drop k t)) is
    ∙ ap (ulint_at 0) (drop_at before (ulint v ++ behind) k long) ∙ ulint_again v behind h

-- ---- bytes are those of the number that they spell

pub udint_at-lt : (i : ℕ) (b : List ℕ) → AreBytes b → udint_at i b < 2 ^ 32
unfolding udint_at
udint_at-lt i b fits = little_from-lt i 4 b fits

pub ulint_at-lt : (i : ℕ) (b : List ℕ) → AreBytes b → ulint_at i b < 2 ^ 64
unfolding ulint_at
ulint_at-lt i b fits = little_from-lt i 8 b fits

byte_at-lt : (k x : ℕ) → byte_at k x < 256
byte_at-lt zero x = mod-lt x (lit< tt)
byte_at-lt (suc k) x = mod-lt (x / 256 ^ suc k) (lit< tt)

pub AreBytes-le_from : (j n v : ℕ) → AreBytes (bytes_low_first j n v)
AreBytes-le_from j zero v i = lit< tt
AreBytes-le_from j (suc n) v zero = byte_at-lt j v
AreBytes-le_from j (suc n) v (suc i) = AreBytes-le_from (suc j) n v i

-- as many bytes that spell the same number are the same
same_bytes : (n : ℕ) (xs ys : List ℕ) → length xs ≡ n → length ys ≡ n → AreBytes xs → AreBytes ys
    → little_from 0 n xs ≡ little_from 0 n ys → xs ≡ ys
same_bytes zero [] [] p q f g e = refl
same_bytes zero (x ∷ xs) ys p q f g e = absurd (omega arith)
same_bytes zero [] (y ∷ ys) p q f g e = absurd (omega arith)
same_bytes (suc n) [] ys p q f g e = absurd (omega arith)
same_bytes (suc n) (x ∷ xs) [] p q f g e = absurd (omega arith)
same_bytes (suc n) (x ∷ xs) (y ∷ ys) p q f g e =
    let a : x < 256 = f 0 in
    let b : y < 256 = g 0 in
    let digits : x + 256 * little_from 0 n xs ≡ y + 256 * little_from 0 n ys
    = ap (λ m. x + 256 * m) (sym (little_from-cons 0 n x xs)) ∙ e ∙ ap (λ m. y + 256 * m) (little_from-cons 0 n y ys) in
    let first : x ≡ y = omega arith in
    let rest : xs ≡ ys
    = same_bytes n xs ys (omega arith) (omega arith) (AreBytes-tail x xs f) (AreBytes-tail y ys g) (omega arith) in
    cc

spelled_number : (n k : ℕ) (b : List ℕ) → AreBytes b → k + n ≤ length b → le n (number_at k n b) ≡ take n (drop k b)
spelled_number n k b fits long =
    let front : AreBytes (take n (drop k b)) = AreBytes-take n (drop k b) (AreBytes-drop k b fits) in
    let size : length (take n (drop k b)) ≡ n = simp (length-take, length-drop) (omega arith) in
    let small : number_at k n b < 256 ^ n = little_from-lt k n b fits in
    same_bytes n (le n (number_at k n b)) (take n (drop k b)) (length-bytes_low_first 0 n (number_at k n b)) size
    (AreBytes-le_from 0 n (number_at k n b)) front
    (ap (little_from 0 n) (sym (append-nil (le n (number_at k n b)))) ∙ little_number-reads_back n (number_at k n b) [] small
    ∙ sym (number_at_front n k b) ∙ ap (little_from 0 n) (sym (take-append-drop n (drop k b)))
    ∙ little_from-append n (take n (drop k b)) (drop n (drop k b)) (omega arith))

-- a field at the front of the rest
pub udint_part : (k : ℕ) (b : List ℕ) → AreBytes b → k + 4 ≤ length b → drop k b ≡ udint (udint_at k b) ++ drop (k + 4) b
unfolding udint udint_at
udint_part k b fits long =
    sym (take-append-drop 4 (drop k b)) ∙ ap (λ t. take 4 (drop k b) ++ t) (drop-drop 4 k b)
    ∙ ap (λ t. t ++ drop (k + 4) b) (sym (spelled_number 4 k b fits long))

pub ulint_part : (k : ℕ) (b : List ℕ) → AreBytes b → k + 8 ≤ length b → drop k b ≡ ulint (ulint_at k b) ++ drop (k + 8) b
unfolding ulint ulint_at
ulint_part k b fits long =
    sym (take-append-drop 8 (drop k b)) ∙ ap (λ t. take 8 (drop k b) ++ t) (drop-drop 8 k b)
    ∙ ap (λ t. t ++ drop (k + 8) b) (sym (spelled_number 8 k b fits long))

-- the mark
pub mark_spelled : ulint 0x54504b49424d4f53 ≡ codes "SOMBIKPT"
unfolding ulint
mark_spelled = refl

-- bytes behind a number do not change it
number_at-append : (n k : ℕ) (xs ys : List ℕ) → k + n ≤ length xs → little_from k n (xs ++ ys) ≡ little_from k n xs
number_at-append n k xs ys h =
    sym (little_from-take k n (length xs) (xs ++ ys) h) ∙ ap (little_from k n) (take-append_seam xs ys)

pub udint_at-append : (k : ℕ) (xs ys : List ℕ) → k + 4 ≤ length xs → udint_at k (xs ++ ys) ≡ udint_at k xs
unfolding udint_at
udint_at-append k xs ys h = number_at-append 4 k xs ys h

pub ulint_at-append : (k : ℕ) (xs ys : List ℕ) → k + 8 ≤ length xs → ulint_at k (xs ++ ys) ≡ ulint_at k xs
unfolding ulint_at
ulint_at-append k xs ys h = number_at-append 8 k xs ys h
