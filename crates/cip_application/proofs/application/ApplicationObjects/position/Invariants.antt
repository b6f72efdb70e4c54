use Rattle.std.proofs.Common.{◌≡◌, ◌+◌, drop, option_map}
use Rattle.cip_application.specs.Objects.{position_of}
use Rattle.cip_application.proofs.application.ApplicationObjects.position.Given as goal

abbrev pub invariant-loop-i : goal.invariant-loop-i
invariant-loop-i l = option_map (λ k. k + l.i) (position_of l.class l.instance (drop l.i l.object-items)) ≡ position_of l.class l.instance l.object-items
