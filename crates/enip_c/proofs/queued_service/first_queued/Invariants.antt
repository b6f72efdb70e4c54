use Rattle.std.proofs.Common.{◌≡◌, drop}
use Rattle.enip_c.specs.ExplainCalls.{first_queued}
use Rattle.enip_c.proofs.queued_service.first_queued.Given as goal

abbrev pub invariant-loop-object : goal.invariant-loop-object
invariant-loop-object l = first_queued (drop l.object-index l.objects) ≡ first_queued l.objects
