use Rattle.std.proofs.Common.{◌≡◌, drop}
use Rattle.std.specs.List.{list_any}
use Rattle.cip_objects.specs.Configuration.{are_invalid_members}
use Rattle.cip_objects.proofs.config.has_invalid_members.Given as goal

abbrev pub invariant-loop-assembly : goal.invariant-loop-assembly
invariant-loop-assembly l = list_any are_invalid_members (drop l.assembly-index l.assemblies) ≡ list_any are_invalid_members l.assemblies
