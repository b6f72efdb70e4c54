use Rattle.std.proofs.Common.{◌≡◌, max, drop}
use Rattle.cip_objects.specs.Entries.{greatest_of}
use Rattle.cip_objects.proofs.assembly.greatest.Given as goal

abbrev pub invariant-loop-assembly : goal.invariant-loop-assembly
invariant-loop-assembly l = max l.most (greatest_of (drop l.assembly-index l.assemblies)) ≡ greatest_of l.assemblies
