use Rattle.std.proofs.Common.{arith, take, ◌≡◌}
use Rattle.byteorder.proofs.Bytes.{take-bytes_low_first}
use Rattle.std.proofs.lemmas.Grind.{common_steps}
use Rattle.cip_bytes.specs.Numbers.{le}
use Rattle.attribute_types.proofs.elements.append_bits.Goals as goal

pub returns : goal.returns
returns c =
    let low : take c.args.width (le 8 c.args.bits) ≡ le c.args.width c.args.bits =
    take-bytes_low_first 0 8 c.args.width c.args.bits c.requires in
    grind (arith, common_steps, low)
