use Rattle.std.proofs.Common.{◌≡◌, drop}
use Rattle.enip_eds.specs.Profile.{has_class}
use Rattle.enip_eds.proofs.profile.has_class.Given as goal

abbrev pub invariant-loop-object : goal.invariant-loop-object
invariant-loop-object l = has_class l.class (drop l.object-index l.objects) ≡ has_class l.class l.objects
