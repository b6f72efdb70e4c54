use Rattle.std.proofs.Common.{◌≡◌, drop}
use Rattle.cip_application.specs.Objects.{service_in}
use Rattle.cip_application.proofs.object.Object.service.Given as goal

abbrev pub invariant-loop-service : goal.invariant-loop-service
invariant-loop-service l = service_in l.number (drop l.service-index l.service-items) ≡ service_in l.number l.service-items
