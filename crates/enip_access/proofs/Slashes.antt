-- Where the first slash of a text is.
use Rattle.std.proofs.Common.{◌≡◌, ℕ, ◌<◌, false, true, eqb, List, length, get_or, sym, arith}
use Rattle.std.specs.List.{position_or_len}
use Rattle.std.proofs.lemmas.List.Sums.{position_or_len_is}

pub found_at : (xs : List ℕ) (i : ℕ) → i < length xs → ((k : ℕ) → k < i → eqb (get_or xs k 0) 47 ≡ false) → eqb (get_or xs i 0) 47 ≡ true
    → i ≡ position_or_len (λ byte. eqb byte 47) xs
found_at xs i below before here = sym (position_or_len_is (λ byte. eqb byte 47) xs i 0 (omega arith) before (λ _. here))

pub found_nowhere : (xs : List ℕ) (i : ℕ) → i ≡ length xs → ((k : ℕ) → k < i → eqb (get_or xs k 0) 47 ≡ false)
    → i ≡ position_or_len (λ byte. eqb byte 47) xs
found_nowhere xs i end before = sym (position_or_len_is (λ byte. eqb byte 47) xs i 0 (omega arith) before (λ below. absurd (omega arith)))
