use Rattle.std.proofs.Common.{◌≡◌, drop}
use Rattle.kept_adapter.specs.Hindrances.{service_in}
use Rattle.kept_adapter.proofs.hindrances.service_in.Given as goal

abbrev pub invariant-loop-service : goal.invariant-loop-service
invariant-loop-service l =
    service_in l.number (drop l.service-index l.services) ≡ service_in l.number l.services
