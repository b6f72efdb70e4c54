use Rattle.std.proofs.Common.{arith, take, ◌≡◌}
use Rattle.byteorder.proofs.Bytes.{take-bytes_low_first}
use Rattle.std.proofs.lemmas.Grind.{common_steps}
use Rattle.cip_bytes.specs.Numbers.{le}
use Rattle.cip_values.proofs.value.append_number.Goals as goal

pub returns : goal.returns
returns c =
    let low : take c.args.size (le 8 c.args.number) ≡ le c.args.size c.args.number =
    take-bytes_low_first 0 8 c.args.size c.args.number c.requires in
    grind (arith, common_steps, low)
