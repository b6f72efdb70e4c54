use Rattle.std.proofs.Common.{◌++◌, ◌+◌, drop, ap, ◌∙◌}
use Rattle.enip_keep.specs.Kept.{pairs_of}
use Rattle.kept_server.specs.Changes.{still_waiting}
use Rattle.kept_server.proofs.ChangeLemmas.{still_more}
use Rattle.kept_server.proofs.waits.mark_still_waiting.Goals as goal

pub loop-index-preserved : goal.loop-index-preserved
loop-index-preserved c =
    ap (λ ms. ms ++ still_waiting (drop (c.loop-index.index + 1) c.args.waits.now)
    (pairs_of (drop (c.loop-index.index + 1) c.args.old.now)) (pairs_of (drop (c.loop-index.index + 1) c.args.new.now)))
    c.in_ok-push.ensures.items
    ∙ still_more c.args.waits.now c.loop-index.marks.items _ c.args.old.now c.args.new.now c.loop-index.index _
    c.waits_on-waits.result c.loop-index-test.true c.waits_on-waits.ensures c.loop-index.invariant
