use Rattle.std.proofs.Common.{arith}
use Rattle.toml.specs.View.{items_view}
use Rattle.enip_config.specs.Keys.{each}
use Rattle.enip_config.specs.Access.{rule_in}
use Rattle.enip_config.proofs.ListLemmas.{few_rules, at_end}
use Rattle.enip_config.proofs.access.each_rule.Goals as goal

pub returns-clause-read : goal.returns-clause-read
returns-clause-read c =
    let all = at_end c.args.values.now c.loop-value.value-index c.loop-value.rules.items (omega arith) c.loop-value.invariant.1 in
    few_rules (each rule_in (items_view c.args.values.now)) c.loop-value.rules.items all c.loop-value.invariant.0
