use Rattle.std.proofs.Common.{arith}
use Rattle.enip_adapter.proofs.peer_slots.PeerSlots.free.Goals as goal

pub overflow_cast-result : goal.overflow_cast-result
overflow_cast-result c = omega (arith, c.self.invariant.all, c.self.invariant.few, c.len.ensures)
