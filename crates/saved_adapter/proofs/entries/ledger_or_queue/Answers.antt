use Rattle.std.proofs.Common.{◌+◌, ◌-◌, ◌∙◌, arith}
use Rattle.std.specs.Prelude.{option_map}
use Rattle.kept_adapter.specs.Keys.{ledger_key}
use Rattle.kept_adapter.specs.Saved.{ledger_bytes, saved_queue, ENTRIES}
use Rattle.saved_adapter.proofs.EntryLemmas.{numbered_first, behind_numbered}
use Rattle.saved_adapter.proofs.entries.ledger_or_queue.Goals as goal

pub returns-then-number-slots : goal.returns-then-number-slots
returns-then-number-slots c =
    numbered_first ledger_key (ledger_bytes c.args.ledger.now) ENTRIES c.args.number c.ledger_key.result
    c.write.new.bytes.items (saved_queue (option_map (λ q. q.now) c.args.queue))
    (omega (arith, c.if-number-slots.true, c.from-slots.ensures)) c.ledger_key.ensures.key c.write.ensures

pub returns : goal.returns
returns c =
    c.queue_entry.ensures
    ∙ behind_numbered ledger_key (ledger_bytes c.args.ledger.now) ENTRIES c.args.number
    (c.args.number - (c.from-slots.result + 1))
    (saved_queue (option_map (λ q. q.now) c.args.queue)) (omega (arith, c.if-number-slots.false, c.from-slots.ensures))
