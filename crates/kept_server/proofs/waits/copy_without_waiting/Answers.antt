use Rattle.std.proofs.Common.{sym}
use Rattle.enip_keep.specs.Kept.{pairs_of}
use Rattle.kept_server.proofs.ChangeLemmas.{written_more}
use Rattle.kept_server.proofs.waits.copy_without_waiting.Goals as goal

pub loop-index-preserved : goal.loop-index-preserved
loop-index-preserved c =
    written_more c.args.waits.now c.args.entries.now (pairs_of c.loop-index.copies.items)
    (pairs_of c.copy_unless.new.copies.items) _ c.loop-index.index c.index-entries-index.result c.is_marked-waits.result
    c.loop-index-test.true (sym c.index-entries-index.is) c.is_marked-waits.ensures c.in_ok-copy_unless.ensures
    c.loop-index.invariant
