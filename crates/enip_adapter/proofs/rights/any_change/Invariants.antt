use Rattle.std.proofs.Common.{◌≡◌}
use Rattle.enip_adapter.specs.Rights.{any_change}
use Rattle.enip_adapter.proofs.rights.any_change.Given as goal

abbrev pub invariant-loop-request : goal.invariant-loop-request
invariant-loop-request l = record { left : any_change l.fn.requests ≡ any_change l.request-iterator }
