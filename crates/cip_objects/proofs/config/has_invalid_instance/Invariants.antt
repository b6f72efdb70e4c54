use Rattle.std.proofs.Common.{◌≡◌, drop}
use Rattle.cip_objects.specs.Configuration.{are_invalid_instances, instances}
use Rattle.cip_objects.proofs.config.has_invalid_instance.Given as goal

abbrev pub invariant-loop-i : goal.invariant-loop-i
invariant-loop-i l = are_invalid_instances (instances (drop l.i l.assemblies)) ≡ are_invalid_instances (instances l.assemblies)
