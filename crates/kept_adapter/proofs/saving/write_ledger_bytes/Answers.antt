use Rattle.std.proofs.Common.{Some, ◌+◌, ap, ◌∙◌, arith}
use Rattle.std.specs.Prelude.{slice_get}
use Rattle.device_state.specs.Saved.{saved, state_of}
use Rattle.kept_adapter.proofs.SavingLemmas.{ledger_bytes_at}
use Rattle.kept_adapter.proofs.saving.write_ledger_bytes.Goals as goal

pub returns : goal.returns
returns c =
    ledger_bytes_at c.args.objects.now c.args.ledger.now c.args.number c.saved_entry.result c.saved_entry.new.bytes.items
    (omega (arith, c.if-from-slot_count.false, c.slot_count.ensures.count, c.from.ensures))
    (c.saved_entry.ensures.entry
    ∙ ap (λ n. slice_get (saved (state_of c.args.objects.now (Some c.args.ledger.now))) (1 + n)) c.from-2.ensures)
