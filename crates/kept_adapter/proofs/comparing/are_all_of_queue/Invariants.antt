use Rattle.std.proofs.Common.{◌≡◌, take}
use Rattle.enip_keep.specs.Kept.{pairs_of}
use Rattle.kept_adapter.specs.Saved.{first_queue_entries}
use Rattle.kept_adapter.proofs.comparing.are_all_of_queue.Given as goal

abbrev pub invariant-loop-number : goal.invariant-loop-number
invariant-loop-number l = take l.number (pairs_of l.entries) ≡ first_queue_entries l.queue l.number
