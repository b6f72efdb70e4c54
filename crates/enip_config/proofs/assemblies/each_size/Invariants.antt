use Rattle.std.proofs.Common.{◌≡◌, ◌++◌, drop, option_map}
use Rattle.toml.specs.View.{items_view}
use Rattle.attribute_types.specs.Values.{number_in}
use Rattle.enip_config.specs.Keys.{each}
use Rattle.enip_config.proofs.assemblies.each_size.Given as goal

abbrev pub invariant-loop-value : goal.invariant-loop-value
invariant-loop-value l =
    option_map (λ rest. l.sizes.items ++ rest) (each (number_in 0 0xffff) (items_view (drop l.value-index l.values)))
    ≡ each (number_in 0 0xffff) (items_view l.values)
