use Rattle.std.proofs.Common.{◌≡◌, ◌++◌, drop}
use Rattle.enip_lines.specs.Digits.{without_spaces}
use Rattle.enip_lines.proofs.digits.copy_digits.Given as goal

abbrev pub invariant-loop-byte : goal.invariant-loop-byte
invariant-loop-byte l = l.digits.items ++ without_spaces (drop l.byte-index l.text) ≡ without_spaces l.text
