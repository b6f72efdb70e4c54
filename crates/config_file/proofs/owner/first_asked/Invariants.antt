use Rattle.std.proofs.Common.{◌≡◌, drop}
use Rattle.config_file.specs.Owner.{first_asked}
use Rattle.config_file.proofs.owner.first_asked.Given as goal

abbrev pub invariant-loop-object : goal.invariant-loop-object
invariant-loop-object l = first_asked (drop l.object-index l.objects) ≡ first_asked l.objects
