use Rattle.std.proofs.Common.{◌≡◌, drop}
use Rattle.cip_objects.specs.Service.{service_in}
use Rattle.cip_objects.proofs.object_ref.service_in.Given as goal

abbrev pub invariant-loop-service : goal.invariant-loop-service
invariant-loop-service l = service_in l.code (drop l.service-index l.services) ≡ service_in l.code l.services
