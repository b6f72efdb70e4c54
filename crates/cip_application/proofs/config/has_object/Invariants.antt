use Rattle.std.proofs.Common.{◌≡◌, drop}
use Rattle.cip_application.specs.Configuration.{has_object}
use Rattle.cip_application.proofs.config.has_object.Given as goal

abbrev pub invariant-loop-object : goal.invariant-loop-object
invariant-loop-object l = has_object l.class l.instance (drop l.object-index l.objects) ≡ has_object l.class l.instance l.objects
