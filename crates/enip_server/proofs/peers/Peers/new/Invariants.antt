use Rattle.std.proofs.Common.{◌≡◌, ◌≤◌, None, replicate, vec_len, vec_capacity}
use Rattle.enip_server.proofs.peers.Peers.new.Given as goal

abbrev pub invariant-loop : goal.invariant-loop
invariant-loop g l = (l.places ≤ vec_capacity l.slots) × (vec_len l.slots ≡ l.counter) × (l.slots.items ≡ replicate l.counter None)
