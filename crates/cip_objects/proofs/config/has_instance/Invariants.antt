use Rattle.std.proofs.Common.{◌≡◌, ◌==◌, drop}
use Rattle.std.specs.List.{list_any}
use Rattle.cip_objects.specs.Configuration.{instances}
use Rattle.cip_objects.proofs.config.has_instance.Given as goal

abbrev pub invariant-loop-assembly : goal.invariant-loop-assembly
invariant-loop-assembly l = list_any (λ n. n == l.instance) (instances (drop l.assembly-index l.assemblies)) ≡ list_any (λ n. n == l.instance) (instances l.assemblies)
