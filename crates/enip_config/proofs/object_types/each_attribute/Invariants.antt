use Rattle.std.proofs.Common.{◌≡◌, ◌++◌, drop}
use Rattle.toml.specs.View.{items_view}
use Rattle.enip_config.specs.ObjectTypes.{map_items, type_of_attribute}
use Rattle.enip_config.proofs.object_types.each_attribute.Given as goal

abbrev pub invariant-loop-value : goal.invariant-loop-value
invariant-loop-value l =
    l.types.items ++ map_items type_of_attribute (items_view (drop l.value-index l.values))
    ≡ map_items type_of_attribute (items_view l.values)
