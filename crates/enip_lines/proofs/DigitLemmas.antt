use Rattle.std.proofs.Common.{◌≡◌, ℕ, List, [], ◌∷◌, ◌==◌, false, refl, ap}
use Rattle.std.specs.List.{list_any}
use Rattle.std.proofs.lemmas.Bool.{or_parts}
use Rattle.enip_lines.specs.Digits.{without_spaces}

-- A text without spaces stays as it is.
pub without_none : (text : List ℕ) → list_any (λ byte. byte == 32) text ≡ false → without_spaces text ≡ text
without_none [] none = refl
without_none (byte ∷ text) none =
    let (here, more) = or_parts (byte == 32) (list_any (λ b. b == 32) text) none in
    rw here (ap (λ rest. byte ∷ rest) (without_none text more))
