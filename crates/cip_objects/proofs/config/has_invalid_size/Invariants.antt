use Rattle.std.proofs.Common.{◌≡◌, drop}
use Rattle.std.specs.List.{list_any}
use Rattle.cip_objects.specs.Configuration.{is_invalid_size}
use Rattle.cip_objects.proofs.config.has_invalid_size.Given as goal

abbrev pub invariant-loop-assembly : goal.invariant-loop-assembly
invariant-loop-assembly l = list_any is_invalid_size (drop l.assembly-index l.assemblies) ≡ list_any is_invalid_size l.assemblies
