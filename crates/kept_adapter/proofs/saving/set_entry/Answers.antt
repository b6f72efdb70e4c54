use Rattle.enip_keep.specs.Kept.{pairs_of}
use Rattle.kept_adapter.proofs.SavingLemmas.{entry_set, small_entry_set}
use Rattle.kept_adapter.proofs.saving.set_entry.Goals as goal

pub returns-clause-entry : goal.returns-clause-entry
returns-clause-entry c =
    entry_set c.write_entry.result c.add_if_missing.new.into.items (pairs_of c.args.into.now.items) c.args.index
    c.write_entry.new.entry (c.args.key, c.args.bytes.now) c.in_ok-add_if_missing.ensures.within
    c.in_ok-add_if_missing.ensures.front c.write_entry.ensures

pub returns-clause-small : goal.returns-clause-small
returns-clause-small c =
    small_entry_set c.write_entry.result c.add_if_missing.new.into.items (pairs_of c.args.into.now.items) c.args.index
    c.write_entry.new.entry c.args.key c.args.bytes.now c.in_ok-add_if_missing.ensures.within
    c.in_ok-add_if_missing.ensures.front c.write_entry.ensures c.requires.small c.requires.key c.requires.bytes
