use Rattle.std.proofs.Common.{◌∙◌, arith}
use Rattle.device_state.specs.Saved.{value_entries}
use Rattle.device_state.proofs.EntryLists.{in_ledger, behind_ledger}
use Rattle.device_state.proofs.saving.entry_with_ledger.Goals as goal

pub returns-then-index-own-clause-entry : goal.returns-then-index-own-clause-entry
returns-then-index-own-clause-entry c =
    c.ledger_entry.ensures.entry
    ∙ in_ledger c.args.ledger.now (value_entries c.args.objects.now) c.args.index c.slot_count-own.result c.slot_count-own.ensures.count c.if-index-own.true

pub returns-clause-entry : goal.returns-clause-entry
returns-clause-entry c =
    c.value_entry.ensures.entry
    ∙ behind_ledger c.args.ledger.now (value_entries c.args.objects.now) c.args.index c.slot_count-own.result c.slot_count-own.ensures.count (omega (arith, c.if-index-own.false))
