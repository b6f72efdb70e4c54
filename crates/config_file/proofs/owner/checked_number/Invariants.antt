use Rattle.std.proofs.Common.{◌≡◌, drop}
use Rattle.config_file.specs.Owner.{checked_number}
use Rattle.config_file.proofs.owner.checked_number.Given as goal

abbrev pub invariant-loop-attribute : goal.invariant-loop-attribute
invariant-loop-attribute l = checked_number (drop l.attribute-index l.attributes) ≡ checked_number l.attributes
