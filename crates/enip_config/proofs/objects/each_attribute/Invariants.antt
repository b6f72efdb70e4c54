use Rattle.std.proofs.Common.{◌≡◌, ◌++◌, drop, map, option_map}
use Rattle.toml.specs.View.{items_view}
use Rattle.enip_config.specs.Keys.{each}
use Rattle.enip_config.specs.Objects.{attribute_in, attribute_seen}
use Rattle.enip_config.proofs.objects.each_attribute.Given as goal

abbrev pub invariant-loop-value : goal.invariant-loop-value
invariant-loop-value l =
    option_map (λ rest. map attribute_seen l.attributes.items ++ rest) (each attribute_in (items_view (drop l.value-index l.values)))
    ≡ each attribute_in (items_view l.values)
