use Rattle.std.proofs.Common.{◌≡◌, nat_lt, drop}
use Rattle.cip_application.specs.Configuration.{total_capacity}
use Rattle.cip_application.proofs.config.is_over_capacity.Given as goal

abbrev pub invariant-loop-object : goal.invariant-loop-object
invariant-loop-object l = nat_lt l.room (total_capacity (drop l.object-index l.objects)) ≡ nat_lt 16384 (total_capacity l.objects)
