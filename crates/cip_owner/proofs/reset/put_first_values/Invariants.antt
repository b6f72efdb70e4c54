use Rattle.std.proofs.Common.{◌≡◌, drop}
use Rattle.cip_owner.specs.Reset.{with_first_values}
use Rattle.cip_owner.proofs.reset.put_first_values.Given as goal

abbrev pub invariant-loop-name : goal.invariant-loop-name
invariant-loop-name l =
    with_first_values l.first (drop l.name-index l.names) l.objects ≡ with_first_values l.first l.names l.fn.objects
