use Rattle.std.proofs.Common.{◌≡◌, ◌≤◌, ◌++◌, length, drop, option_map}
use Rattle.toml.specs.View.{items_view}
use Rattle.enip_config.specs.Keys.{each}
use Rattle.enip_config.specs.Access.{rule_in}
use Rattle.enip_config.proofs.access.each_rule.Given as goal

abbrev pub invariant-loop-value : goal.invariant-loop-value
invariant-loop-value l =
    (length l.rules.items ≤ 64)
    × (option_map (λ rest. l.rules.items ++ rest) (each rule_in (items_view (drop l.value-index l.values)))
    ≡ each rule_in (items_view l.values))
