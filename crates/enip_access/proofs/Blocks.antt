-- The addresses of a prefix are a block.
use Rattle.std.proofs.Common.{◌≡◌, ℕ, ◌+◌, ◌-◌, ◌*◌, ◌/◌, ◌%◌, ◌<◌, ◌≤◌, ◌^◌, true, eqb, sym, ap, ◌∙◌, arith, zero}
use Rattle.std.specs.Prelude.{◌↔◌}
use Rattle.std.proofs.lemmas.Bool.{eq-eqb, eqb-true}
use Rattle.std.proofs.lemmas.Nat.{pow_pos, div-add-mod', div-mul-add}
use Rattle.std.proofs.Math.Nat.{mod-lt}
use Rattle.enip_access.specs.declared.prefix.Prefix.{Prefix}
use Rattle.enip_access.specs.Prefix.{AreBlocks}

into_block : (b f a : ℕ) → 0 < b → f % b ≡ 0 → a / b ≡ f / b → (f ≤ a) × (a < f + b)
into_block b f a some whole same =
    let first = div-add-mod' f b in
    let other = div-add-mod' a b in
    let quotient : a / b * b ≡ f / b * b = ap (λ q. q * b) same in
    let rest : a % b < b = mod-lt a some in
    (omega arith, omega arith)

from_block : (b f a : ℕ) → 0 < b → f % b ≡ 0 → f ≤ a → a < f + b → a / b ≡ f / b
from_block b f a some whole low high =
    let first = div-add-mod' f b in
    let is : a ≡ f / b * b + (a - f) = omega arith in
    ap (λ n. n / b) is ∙ div-mul-add (f / b) b (a - f) (omega arith)

pub are_blocks : AreBlocks
are_blocks p a h = (
  λ same. into_block (2 ^ (128 - p.bits)) p.first a (pow_pos (128 - p.bits)) h.after (eqb-true _ _ same),
  λ within. eq-eqb _ _ (from_block (2 ^ (128 - p.bits)) p.first a (pow_pos (128 - p.bits)) h.after within.0 within.1),
)
