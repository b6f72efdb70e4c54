use Rattle.std.proofs.Common.{Some, option_map, sym, ap, ◌∙◌, arith}
use Rattle.cip_message.specs.declared.ledger_services.TheConstants.{LEDGER}
use Rattle.device_state.specs.Keys.{key_of}
use Rattle.device_state.specs.Saved.{entry_in, entry_of}
use Rattle.device_state.proofs.EntryLists.{slot_entry, slot_entry_at, past_ledger}
use Rattle.device_state.proofs.ledger.ledger_entry.Goals as goal

pub returns-then-index-slot_count-clause-entry : goal.returns-then-index-slot_count-clause-entry
returns-then-index-slot_count-clause-entry c =
    past_ledger c.args.ledger.now c.args.index c.slot_count.result c.slot_count.ensures.count c.if-index-slot_count.true

pub returns-in_err-slot-clause-entry : goal.returns-in_err-slot-clause-entry
returns-in_err-slot-clause-entry c =
    ap (λ r. entry_in r c.args.bytes.now.items) c.from_residual.ensures
    ∙ ap (option_map (slot_entry c.args.index)) c.in_err-slot.ensures.kept
    ∙ sym (slot_entry_at c.args.ledger.now c.args.index (omega (arith, c.if-index-eq0.false)))

pub returns-clause-entry : goal.returns-clause-entry
returns-clause-entry c =
    ap (λ k. Some (entry_of k c.write_slot.new.bytes.items)) c.key_of-2.ensures.key
    ∙ ap (λ b. Some (entry_of (key_of LEDGER c.args.index 0) b)) c.write_slot.ensures
    ∙ ap (option_map (slot_entry c.args.index)) c.in_ok-slot.ensures.kept
    ∙ sym (slot_entry_at c.args.ledger.now c.args.index (omega (arith, c.if-index-eq0.false)))
