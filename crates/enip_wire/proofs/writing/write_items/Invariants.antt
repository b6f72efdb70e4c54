use Rattle.std.proofs.Common.{◌≡◌, ◌++◌, length, take}
use Rattle.cip_bytes.specs.Numbers.{le}
use Rattle.enip_wire.proofs.WriteLemmas.{texts}
use Rattle.enip_wire.proofs.writing.write_items.Given as goal

abbrev pub invariant-loop-item : goal.invariant-loop-item
invariant-loop-item g l = record {
  written : l.out.items ≡ (l.fn.out.items ++ le 2 (length l.list)) ++ texts (take l.item-index l.list);
}
