use Rattle.std.proofs.Common.{◌≡◌, ◌++◌, drop}
use Rattle.cip_owner.specs.Reset.{settable_in_objects, settable_names}
use Rattle.cip_owner.proofs.reset.settable_names.Given as goal

abbrev pub invariant-loop-object : goal.invariant-loop-object
invariant-loop-object l =
    l.names.items ++ settable_in_objects (drop l.object-index l.config.objects.items) ≡ settable_names l.config
