use Rattle.std.proofs.Common.{sym, ◌∙◌}
use Rattle.kept_server.proofs.ChangeLemmas.{marked_more}
use Rattle.kept_server.proofs.waits.mark_waiting.Goals as goal

pub loop-entry-preserved : goal.loop-entry-preserved
loop-entry-preserved c =
    c.in_ok-push.ensures.items
    ∙ marked_more c.args.keys.now c.args.entries.now c.loop-entry.marks.items c.loop-entry.entry-index c.entry-item.result
    c.has_key.result c.loop-entry-test.true (sym c.entry-item.is) c.has_key.ensures c.loop-entry.invariant
