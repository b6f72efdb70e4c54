use Rattle.std.proofs.Common.{◌≡◌, drop, ◌==◌}
use Rattle.std.specs.List.{list_any}
use Rattle.cip_application.proofs.config.has_service.Given as goal

abbrev pub invariant-loop-service : goal.invariant-loop-service
invariant-loop-service l = list_any (λ s. s.number == l.number) (drop l.service-index l.services) ≡ list_any (λ s. s.number == l.number) l.services
