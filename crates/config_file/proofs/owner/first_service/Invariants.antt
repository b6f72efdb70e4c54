use Rattle.std.proofs.Common.{◌≡◌, drop}
use Rattle.config_file.specs.Owner.{first_service}
use Rattle.config_file.proofs.owner.first_service.Given as goal

abbrev pub invariant-loop-object : goal.invariant-loop-object
invariant-loop-object l = first_service (drop l.object-index l.objects) ≡ first_service l.objects
