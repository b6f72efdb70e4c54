use Rattle.std.proofs.Common.{ℕ, ◌+◌, ◌*◌, ◌<◌, ◌≤◌, List, [], ◌∷◌, length, drop, get_or, arith}
use Rattle.std.specs.Str.Parse.{digits_value_after}
use Rattle.std.specs.Char.{digit_value}
use Rattle.std.proofs.lemmas.List.{drop_more}

after_least : (n : ℕ) (ds : List ℕ) → n ≤ digits_value_after 10 n ds
after_least n [] = omega arith
after_least n (c ∷ cs) = omega (arith, after_least (n * 10 + digit_value c) cs)

-- A numeral with one more digit is not less.
pub next_least : (n i : ℕ) (ds : List ℕ) → i < length ds → n * 10 + digit_value (get_or ds i 0) ≤ digits_value_after 10 n (drop i ds)
next_least n i ds inside = rw (drop_more ds i 0 inside) (after_least (n * 10 + digit_value (get_or ds i 0)) (drop (i + 1) ds))
