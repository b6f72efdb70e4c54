use Rattle.std.proofs.Common.{◌≡◌}
use Rattle.toml.specs.View.{members_view}
use Rattle.enip_config.specs.Known.{are_other_object_keys}
use Rattle.enip_config.proofs.known.are_other_object_keys.Given as goal

abbrev pub invariant-loop-key : goal.invariant-loop-key
invariant-loop-key l =
    (goal.iterator-loop-key).can_next l.key-iterator
    × (goal.iterator-loop-key).is_finite l.key-iterator
    × (are_other_object_keys (members_view l.key-iterator) ≡ are_other_object_keys (members_view l.table.entries))
