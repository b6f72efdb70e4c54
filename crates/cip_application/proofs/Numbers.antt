-- The numbers of a value, one after another.
use Rattle.std.proofs.Common.{◌≡◌, ℕ, suc, ◌+◌, ◌-◌, ◌*◌, ◌/◌, ◌%◌, ◌<◌, ◌≤◌, ◌&&◌, Bool, true, List, [], ◌∷◌, length, drop, sym, ap, ◌∙◌, arith}
use Rattle.std.specs.List.{list_all}
use Rattle.std.proofs.Math.Nat.{mod-lt}
use Rattle.std.proofs.lemmas.Nat.{div-add-mod', div-mul-add, div_below}
use Rattle.std.proofs.lemmas.List.{length-drop}
use Rattle.byteorder.specs.Endian.{little_number}
use Rattle.cip_application.specs.declared.number.NumberRange.{NumberRange}
use Rattle.cip_application.specs.Numbers.{width_of, first_numbers, numbers_of, is_within, are_within}

div_step : (n w : ℕ) → 0 < w → w ≤ n → n / w ≡ suc ((n - w) / w)
div_step n w some le =
    let a = (n - w) / w in
    let b = (n - w) % w in
    let e : a * w + b ≡ n - w = div-add-mod' (n - w) w in
    let f : suc a * w + b ≡ n = omega (arith, e) in
    ap (λ x. x / w) (sym f) ∙ div-mul-add (suc a) w b (mod-lt (n - w) some)

numbers_step : (w : ℕ) (bytes : List ℕ) → 0 < w → w ≤ length bytes → numbers_of w bytes ≡ little_number w bytes ∷ numbers_of w (drop w bytes)
unfolding numbers_of
numbers_step w bytes some le =
    ap (λ n. first_numbers w n bytes) (div_step (length bytes) w some le)
    ∙ ap (λ n. little_number w bytes ∷ first_numbers w (n / w) (drop w bytes)) (sym (length-drop w bytes))

numbers_end : (w : ℕ) (bytes : List ℕ) → length bytes < w → numbers_of w bytes ≡ []
unfolding numbers_of
numbers_end w bytes short =
    let below : length bytes / w < 1 = div_below (length bytes) w 1 (omega arith) (omega arith) in
    let none : length bytes / w ≡ 0 = omega arith in
    ap (λ n. first_numbers w n bytes) none

-- the first number, then the others
pub within_step : (r : NumberRange) (bytes : List ℕ) → 0 < width_of r.number → width_of r.number ≤ length bytes → are_within r bytes ≡ is_within r (little_number (width_of r.number) bytes) && are_within r (drop (width_of r.number) bytes)
within_step r bytes some le = ap (list_all (is_within r)) (numbers_step (width_of r.number) bytes some le)

-- fewer bytes than one number has
pub within_end : (r : NumberRange) (bytes : List ℕ) → length bytes < width_of r.number → are_within r bytes ≡ true
within_end r bytes short = ap (list_all (is_within r)) (numbers_end (width_of r.number) bytes short)

-- the same of a front that was read
pub within_front : (r : NumberRange) (bytes : List ℕ) (w bits : ℕ) (t : Bool) → w ≡ width_of r.number → 1 ≤ w → w ≤ length bytes → bits ≡ little_number w bytes → t ≡ is_within r bits → are_within r bytes ≡ t && are_within r (drop w bytes)
within_front r bytes w bits t e some le b h =
    within_step r bytes (omega arith) (omega arith)
    ∙ ap (λ n. is_within r (little_number n bytes) && are_within r (drop n bytes)) (sym e)
    ∙ ap (λ u. u && are_within r (drop w bytes)) (ap (is_within r) (sym b) ∙ sym h)
