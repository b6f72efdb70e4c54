use Rattle.std.proofs.Common.{◌≡◌}
use Rattle.toml.specs.View.{members_view}
use Rattle.enip_config.specs.Known.{has_unknown_key}
use Rattle.enip_config.proofs.known.has_unknown_key.Given as goal

abbrev pub invariant-loop-key : goal.invariant-loop-key
invariant-loop-key l =
    (goal.iterator-loop-key).can_next l.key-iterator
    × (goal.iterator-loop-key).is_finite l.key-iterator
    × (has_unknown_key (members_view l.key-iterator) ≡ has_unknown_key (members_view l.table.entries))
