use Rattle.std.proofs.Common.{◌≡◌, drop}
use Rattle.std.specs.List.{list_any}
use Rattle.cip_application.specs.Configuration.{has_invalid_services}
use Rattle.cip_application.proofs.config.any_has_invalid_services.Given as goal

abbrev pub invariant-loop-object : goal.invariant-loop-object
invariant-loop-object l = list_any has_invalid_services (drop l.object-index l.objects) ≡ list_any has_invalid_services l.objects
