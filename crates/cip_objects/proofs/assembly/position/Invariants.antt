use Rattle.std.proofs.Common.{◌≡◌, ◌<◌, ℕ, get_or}
use Rattle.cip_objects.specs.Entries.{AssemblyValues}
use Rattle.cip_objects.proofs.assembly.position.Given as goal

abbrev pub invariant-loop-i : goal.invariant-loop-i
invariant-loop-i l = (k : ℕ) (d : AssemblyValues) → k < l.i → (get_or l.assemblies k d).instance ≡ l.instance → ⊥
