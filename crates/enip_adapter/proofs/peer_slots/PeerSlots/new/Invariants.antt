use Rattle.std.proofs.Common.{◌≡◌, ◌≤◌, [], All, vec_len, vec_capacity}
use Rattle.enip_adapter.proofs.peer_slots.PeerSlots.new.Given as goal

abbrev pub invariant-loop : goal.invariant-loop
invariant-loop l = (l.limit ≤ vec_capacity l.free) × (vec_len l.free ≡ l.counter) × All (λ held. held ≡ []) l.free.items
