use Rattle.std.proofs.Common.{◌≡◌, ◌+◌, ◌≤◌, drop}
use Rattle.cip_application.specs.Configuration.{capacity_of}
use Rattle.cip_application.proofs.config.room_after.Given as goal

abbrev pub invariant-loop-attribute : goal.invariant-loop-attribute
invariant-loop-attribute l = (l.room + capacity_of l.attributes ≡ l.fn.room + capacity_of (drop l.attribute-index l.attributes)) × (l.room ≤ l.fn.room)
