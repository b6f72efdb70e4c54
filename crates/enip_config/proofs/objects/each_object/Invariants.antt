use Rattle.std.proofs.Common.{◌≡◌, ◌++◌, drop, map, option_map}
use Rattle.toml.specs.View.{items_view}
use Rattle.enip_config.specs.Keys.{each}
use Rattle.enip_config.specs.Objects.{object_in, object_seen}
use Rattle.enip_config.proofs.objects.each_object.Given as goal

abbrev pub invariant-loop-value : goal.invariant-loop-value
invariant-loop-value l =
    option_map (λ rest. map object_seen l.objects.items ++ rest) (each object_in (items_view (drop l.value-index l.values)))
    ≡ each object_in (items_view l.values)
