use Rattle.std.proofs.Common.{not, ap, ◌∙◌}
use Rattle.saved_adapter.proofs.EntryLemmas.{one_more, all_values}
use Rattle.saved_adapter.proofs.entries.value_count.Goals as goal

pub returns-then-is_none : goal.returns-then-is_none
returns-then-is_none c =
    all_values c.args.objects.now c.object_entry.result c.object_entry.new.bytes.items c.loop-count.count
    c.object_entry.ensures.entry (c.is_none.ensures ∙ ap not c.if-is_none.true) c.loop-count.invariant

pub loop-count-preserved : goal.loop-count-preserved
loop-count-preserved c =
    one_more c.args.objects.now c.object_entry.result c.object_entry.new.bytes.items c.loop-count.count
    c.object_entry.ensures.entry (c.is_none.ensures ∙ ap not c.if-is_none.false)
