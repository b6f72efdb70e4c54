use Rattle.std.proofs.Common.{◌≡◌, drop}
use Rattle.config_file.specs.Owner.{first_checked}
use Rattle.config_file.proofs.owner.first_checked.Given as goal

abbrev pub invariant-loop-object : goal.invariant-loop-object
invariant-loop-object l = first_checked (drop l.object-index l.objects) ≡ first_checked l.objects
