use Rattle.std.proofs.Common.{◌≡◌, ◌≤◌, map, drop, length}
use Rattle.cip_application.specs.Attributes.{in_order}
use Rattle.cip_application.specs.Configuration.{attribute_of_config}
use Rattle.cip_application.proofs.object.attributes_of.Given as goal

abbrev pub invariant-loop-left : goal.invariant-loop-left
invariant-loop-left l = record {
  made : l.attributes.items ≡ in_order (map attribute_of_config (drop l.left l.configs));
  within : l.left ≤ length l.configs;
}

abbrev pub decreases-loop-left : goal.decreases-loop-left
decreases-loop-left l = l.left
