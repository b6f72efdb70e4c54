use Rattle.std.proofs.Common.{◌≡◌, ◌*◌, drop}
use Rattle.cip_bytes.specs.Numbers.{words_of}
use Rattle.cip_objects.specs.Packets.{are_in_order}
use Rattle.cip_objects.proofs.packet.are_in_order.Given as goal

abbrev pub invariant-loop-index : goal.invariant-loop-index
invariant-loop-index l =
    record { left : are_in_order l.data (words_of (drop (2 * l.index) l.offsets)) ≡ are_in_order l.data (words_of l.offsets) }
