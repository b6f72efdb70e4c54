use Rattle.std.proofs.Common.{◌≡◌, ◌+◌, length, take}
use Rattle.enip_wire.proofs.WriteLemmas.{texts}
use Rattle.enip_wire.proofs.writing.items_fit.Given as goal

abbrev pub invariant-loop-item : goal.invariant-loop-item
invariant-loop-item l = record { left : l.capacity + length (texts (take l.item-index l.list)) ≡ l.initial.capacity }
