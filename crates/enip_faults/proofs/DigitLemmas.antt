use Rattle.std.proofs.Common.{◌≡◌, ℕ, ◌+◌, ◌*◌, ◌/◌, ◌%◌, ◌<◌, List, [], ◌∷◌, ◌++◌, length, take, get_or, slice_index, true, false, Result, Ok, Err, IsOk, OnOk, refl, ap, sym}
use Rattle.std.proofs.lemmas.List.{take_more}
use Rattle.hex.specs.Hex.{encode_with, encode_lower, lower_digits}

pub encode_lower-nil : encode_lower [] ≡ []
unfolding encode_with
encode_lower-nil = refl

-- The digits of some bytes, followed by those of more bytes.
encode_with-append : (t xs ys : List ℕ) → encode_with t (xs ++ ys) ≡ encode_with t xs ++ encode_with t ys
unfolding encode_with
encode_with-append t [] ys = refl
encode_with-append t (x ∷ xs) ys =
    ap (λ rest. slice_index t (x / 16) ∷ slice_index t (x % 16) ∷ rest) (encode_with-append t xs ys)

-- One more byte is spelled.
pub encode_lower-more : (bytes : List ℕ) (place : ℕ) (pair : List ℕ) → place < length bytes
    → pair ≡ encode_lower (get_or bytes place 0 ∷ []) → encode_lower (take place bytes) ++ pair ≡ encode_lower (take (place + 1) bytes)
encode_lower-more bytes place pair inside is =
    rw (is, take_more bytes place 0 inside) (sym (encode_with-append lower_digits (take place bytes) (get_or bytes place 0 ∷ [])))

-- Digits encoded into a buffer of exactly their length.
pub encoded_in_room : {E : Type 0} (r : Result (Unit {0}) E) (bytes room new : List ℕ)
    → (IsOk r → length room ≡ 2 * length bytes) × (length room ≡ 2 * length bytes → IsOk r)
    → length room ≡ 2 * length bytes → OnOk r (new ≡ encode_lower bytes) → new ≡ encode_lower bytes
encoded_in_room (Ok x) bytes room new fits same written = written
encoded_in_room (Err e) bytes room new fits same written = let no : false ≡ true = fits.1 same in cc
