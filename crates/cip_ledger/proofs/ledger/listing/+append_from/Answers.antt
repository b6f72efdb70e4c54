use Rattle.std.proofs.Common.{sym}
use Rattle.cip_ledger.proofs.SlotListLemmas.{listed_more}
use Rattle.cip_ledger.proofs.ledger.listing.+append_from.Goals as goal

pub returns : goal.returns
returns t c =
    listed_more c.args.reply.now.items c.append_entry.new.reply.items c.append_from.new.reply.items
    c.args.slots.now.taken c.args.index c.args.space c.in-Some.slot.now (sym c.in-Some.ensures) c.if-space-lt-ENTRY_SIZE.false c.append_entry.ensures.text
    c.append_from.ensures
