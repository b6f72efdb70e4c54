use Rattle.std.proofs.Common.{◌≡◌, drop}
use Rattle.cip_application.specs.Configuration.{are_invalid_objects}
use Rattle.cip_application.proofs.config.are_invalid_objects.Given as goal

abbrev pub invariant-loop-i : goal.invariant-loop-i
invariant-loop-i l = are_invalid_objects l.counter (drop l.i l.objects) ≡ are_invalid_objects l.counter l.objects
