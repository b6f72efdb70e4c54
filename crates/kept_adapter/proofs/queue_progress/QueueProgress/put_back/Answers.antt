use Rattle.std.proofs.Common.{sym, ◌∙◌}
use Rattle.kept_adapter.proofs.QueuePuts.{was_put, was_lost, to_queue}
use Rattle.kept_adapter.proofs.queue_progress.QueueProgress.put_back.Goals as goal

pub returns-then-not-is_put_back-clause-after : goal.returns-then-not-is_put_back-clause-after
returns-then-not-is_put_back-clause-after c =
    was_lost c.args.self.now c.in-Some.queue c.restore_queue_entry-is_put_back.new.queue c.queue_number-number.result
    c.as_slice.result.now c.in-Some.is c.restore_queue_entry-is_put_back.ensures.state
    (sym c.restore_queue_entry-is_put_back.ensures.reported ∙ c.if-not-is_put_back.true)
    ∙ to_queue c.args.self.now c.args.entry.now.key c.queue_number-number.result c.as_slice.result.now
    c.args.entry.now.bytes.items (sym c.is_queue_key.ensures ∙ c.if-not-is_queue_key.false) c.queue_number-number.ensures
    c.as_slice.ensures.value

pub returns-else-not-is_put_back-clause-after : goal.returns-else-not-is_put_back-clause-after
returns-else-not-is_put_back-clause-after c =
    was_put c.args.self.now c.in-Some.queue c.restore_queue_entry-is_put_back.new.queue c.queue_number-number.result
    c.as_slice.result.now c.in-Some.is c.restore_queue_entry-is_put_back.ensures.state
    (sym c.restore_queue_entry-is_put_back.ensures.reported ∙ c.if-not-is_put_back.false)
    ∙ to_queue c.args.self.now c.args.entry.now.key c.queue_number-number.result c.as_slice.result.now
    c.args.entry.now.bytes.items (sym c.is_queue_key.ensures ∙ c.if-not-is_queue_key.false) c.queue_number-number.ensures
    c.as_slice.ensures.value
