use Rattle.std.proofs.Common.{◌≡◌, length}
use Rattle.enip_client.specs.Lists.{entries_left}
use Rattle.enip_client.proofs.lists.ListEntriesIterator.next.Given as goal

abbrev pub invariant-loop-item : goal.invariant-loop-item
invariant-loop-item l = record { left : entries_left l.fn.self ≡ entries_left l.self }

abbrev pub decreases-loop-item : goal.decreases-loop-item
decreases-loop-item l = length l.self.items
