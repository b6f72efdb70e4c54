use Rattle.std.proofs.Common.{◌≡◌, ◌++◌, drop, option_map}
use Rattle.toml.specs.View.{items_view}
use Rattle.attribute_types.specs.Types.{all_bytes}
use Rattle.attribute_types.proofs.elements.all_bytes.Given as goal

abbrev pub invariant-loop-value : goal.invariant-loop-value
invariant-loop-value l =
    option_map (λ rest. l.bytes.items ++ rest) (all_bytes l.element (items_view (drop l.value-index l.values)))
    ≡ all_bytes l.element (items_view l.values)
