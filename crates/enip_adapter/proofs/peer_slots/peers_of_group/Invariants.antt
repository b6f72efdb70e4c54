use Rattle.std.proofs.Common.{◌≡◌, ◌≤◌, length, take}
use Rattle.std.specs.Prelude.{filter}
use Rattle.enip_adapter.proofs.MapLemmas.{is_at_group}
use Rattle.enip_adapter.proofs.peer_slots.peers_of_group.Given as goal

-- it counts those so far
abbrev pub invariant-loop-index : goal.invariant-loop-index
invariant-loop-index l =
    (l.count ≡ length (filter (is_at_group l.group) (take l.index l.places))) × (l.count ≤ l.index)
