use Rattle.std.proofs.Common.{◌≡◌, drop}
use Rattle.cip_application.specs.Configuration.{are_invalid_attributes}
use Rattle.cip_application.proofs.config.are_invalid_attributes.Given as goal

abbrev pub invariant-loop-i : goal.invariant-loop-i
invariant-loop-i l = are_invalid_attributes (drop l.i l.attributes) ≡ are_invalid_attributes l.attributes
