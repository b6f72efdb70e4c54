use Rattle.std.proofs.Common.{◌≡◌, ◌++◌, drop}
use Rattle.cip_owner.specs.Reset.{settable_data}
use Rattle.cip_owner.proofs.reset.add_settable_data.Given as goal

abbrev pub invariant-loop-assembly : goal.invariant-loop-assembly
invariant-loop-assembly l =
    l.names.items ++ settable_data (drop l.assembly-index l.assemblies) ≡ l.fn.names.items ++ settable_data l.assemblies
