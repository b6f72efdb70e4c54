use Rattle.std.proofs.Common.{◌≡◌, false, length}
use Rattle.enip_commands.proofs.HexLemmas.{spells}
use Rattle.enip_commands.proofs.hexadecimal.is_hexadecimal.Given as goal

abbrev pub invariant-loop-rest : goal.invariant-loop-rest
invariant-loop-rest l = spells l.is_half l.rest ≡ spells false l.fn.text

abbrev pub decreases-loop-rest : goal.decreases-loop-rest
decreases-loop-rest l = length l.rest
