use Rattle.std.proofs.Common.{◌≡◌, drop}
use Rattle.enip_keep.specs.Kept.{pairs_of}
use Rattle.kept_adapter.specs.Started.{put_queue_all_back}
use Rattle.kept_adapter.proofs.queue_progress.QueueProgress.put_all_back.Given as goal

abbrev pub invariant-loop-entry : goal.invariant-loop-entry
invariant-loop-entry l =
    put_queue_all_back l.self (pairs_of (drop l.entry-index l.entries))
    ≡ put_queue_all_back l.fn.self (pairs_of l.entries)
