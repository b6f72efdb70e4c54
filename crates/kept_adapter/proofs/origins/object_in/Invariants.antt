use Rattle.std.proofs.Common.{◌≡◌, drop}
use Rattle.kept_adapter.specs.Origins.{object_in}
use Rattle.kept_adapter.proofs.origins.object_in.Given as goal

abbrev pub invariant-loop-object : goal.invariant-loop-object
invariant-loop-object l =
    object_in l.class l.instance (drop l.object-index l.objects) ≡ object_in l.class l.instance l.objects
