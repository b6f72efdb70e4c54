use Rattle.std.proofs.Common.{◌≡◌, ◌++◌, rules}
use Rattle.cip_bytes.specs.Numbers.{le}
use Rattle.cip_ledger.proofs.SlotListLemmas.{entry_text}
use Rattle.cip_ledger.proofs.ledger.listing.append_entry.Goals as goal

pub returns-clause-text : goal.returns-clause-text
returns-clause-text c =
    let first : c.append.new.out.items ≡ c.args.reply.now.items ++ le 8 c.args.slot.now.originator = search rules in
    let second : c.append_u32.new.out.items ≡ c.append.new.out.items ++ le 4 c.args.slot.now.number = search rules in
    entry_text c.args.reply.now.items c.append.new.out.items c.append_u32.new.out.items c.append_u8.new.out.items
    c.args.slot.now c.state_of.result first second c.append_u8.ensures.text c.state_of.ensures
