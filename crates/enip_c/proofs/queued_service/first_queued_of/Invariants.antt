use Rattle.std.proofs.Common.{◌≡◌, drop}
use Rattle.enip_c.specs.ExplainCalls.{first_queued_of}
use Rattle.enip_c.proofs.queued_service.first_queued_of.Given as goal

abbrev pub invariant-loop-service : goal.invariant-loop-service
invariant-loop-service l = first_queued_of (drop l.service-index l.services) ≡ first_queued_of l.services
