use Rattle.std.proofs.Common.{◌≡◌, ◌++◌, drop, map, option_map}
use Rattle.toml.specs.View.{items_view}
use Rattle.enip_config.specs.Keys.{each, assembly_in}
use Rattle.enip_config.specs.Documents.{assembly_seen}
use Rattle.enip_config.proofs.assemblies.each_assembly.Given as goal

abbrev pub invariant-loop-value : goal.invariant-loop-value
invariant-loop-value l =
    option_map (λ rest. map assembly_seen l.assemblies.items ++ rest) (each assembly_in (items_view (drop l.value-index l.values)))
    ≡ each assembly_in (items_view l.values)
