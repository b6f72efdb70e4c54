use Rattle.std.proofs.Common.{◌≡◌, ◌++◌, drop}
use Rattle.enip_keep.specs.Kept.{pairs_of}
use Rattle.kept_adapter.specs.Started.{unused_queue_keys}
use Rattle.kept_adapter.proofs.queue_progress.QueueProgress.unused_keys.Given as goal

abbrev pub invariant-loop-entry : goal.invariant-loop-entry
invariant-loop-entry l =
    l.keys.items ++ unused_queue_keys l.self (pairs_of (drop l.entry-index l.entries))
    ≡ l.fn.keys.items ++ unused_queue_keys l.fn.self (pairs_of l.entries)
