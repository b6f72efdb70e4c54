use Rattle.std.proofs.Common.{◌≡◌, ◌++◌, drop, map}
use Rattle.toml.specs.View.{items_view}
use Rattle.enip_config.specs.ObjectTypes.{map_items, types_of_object, types_seen}
use Rattle.enip_config.proofs.object_types.each_object.Given as goal

abbrev pub invariant-loop-value : goal.invariant-loop-value
invariant-loop-value l =
    map types_seen l.types.items ++ map_items types_of_object (items_view (drop l.value-index l.values))
    ≡ map_items types_of_object (items_view l.values)
