use Rattle.std.proofs.Common.{◌≡◌, drop}
use Rattle.cip_application.specs.Configuration.{are_invalid_services}
use Rattle.cip_application.proofs.config.are_invalid_services.Given as goal

abbrev pub invariant-loop-i : goal.invariant-loop-i
invariant-loop-i l = are_invalid_services (drop l.i l.services) ≡ are_invalid_services l.services
