use Rattle.std.proofs.Common.{Some, None, arith}
use Rattle.std.specs.Borrow.{Bor}
use Rattle.cip_owner.specs.Queue.{QueueState}
use Rattle.device_state.specs.QueueEntries.{QUEUE_ENTRIES, queue_bytes}
use Rattle.kept_adapter.specs.Keys.{queue_key}
use Rattle.saved_adapter.specs.Entries.{entry_in}
use Rattle.saved_adapter.proofs.EntryLemmas.{in_queue, numbered, past_numbered}
use Rattle.saved_adapter.proofs.entries.queue_entry.Goals as goal

pub returns-then-number-from : goal.returns-then-number-from
returns-then-number-from c =
    in_queue (λ (q : Bor QueueState). q.now) c.args.queue c.in-Some.queue None c.args.number c.in-Some.is
    (past_numbered queue_key (queue_bytes c.in-Some.queue.now) QUEUE_ENTRIES c.args.number
    (omega (arith, c.if-number-from.true, c.from.ensures)))

pub returns : goal.returns
returns c =
    in_queue (λ (q : Bor QueueState). q.now) c.args.queue c.in-Some.queue
    (entry_in (Some c.queue_key.result) c.write_queue_entry.new.bytes.items) c.args.number c.in-Some.is
    (numbered queue_key (queue_bytes c.in-Some.queue.now) QUEUE_ENTRIES c.args.number c.queue_key.result
    c.write_queue_entry.new.bytes.items (omega (arith, c.if-number-from.false, c.from.ensures)) c.queue_key.ensures.key
    c.write_queue_entry.ensures)
