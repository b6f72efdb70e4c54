use Rattle.std.proofs.Common.{◌≡◌, ◌≤◌, ◌+◌, ◌++◌, take, length, true}
use Rattle.enip_keep.specs.Kept.{pairs_of}
use Rattle.kept_server.specs.Changes.{are_small}
use Rattle.kept_adapter.specs.Saved.{first_queue_entries}
use Rattle.kept_adapter.proofs.saving.save_queue.Given as goal

abbrev pub invariant-loop-number : goal.invariant-loop-number
invariant-loop-number l =
    (take l.count (pairs_of l.into.items) ≡ take l.fn.start (pairs_of l.fn.into.items) ++ first_queue_entries l.queue l.number)
    × (are_small (take l.count (pairs_of l.into.items)) ≡ true)
    × (l.count ≤ length l.into.items)
    × (l.count ≡ l.fn.start + l.number)
