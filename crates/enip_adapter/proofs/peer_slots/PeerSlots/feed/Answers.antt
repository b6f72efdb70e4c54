use Rattle.std.proofs.Common.{length, arith, ap}
use Rattle.std.specs.Vec.{with_items}
use Rattle.std.proofs.lemmas.List.{with_items_is}
use Rattle.enip_adapter.proofs.FeedLemmas.{fed_at}
use Rattle.enip_adapter.proofs.peer_slots.PeerSlots.feed.Goals as goal

pub returns-clause-fed : goal.returns-clause-fed
returns-clause-fed c next_handle =
    fed_at c.args.self.now c.self.inside.limit next_handle c.args.shared.now c.feed_taken.new.shared c.self.inside.taken.items
    c.deref_mut.result.now c.feed_taken.new.places (with_items c.self.inside.taken c.feed_taken.new.places).items c.args.handle
    c.args.piece.now c.feed_taken.new.answer.items c.feed_taken.result c.self.view_is c.deref_mut.ensures.value
    (with_items_is c.self.inside.taken c.feed_taken.new.places
    (omega (arith, c.feed_taken.ensures.size, ap length c.deref_mut.ensures.value, c.self.inside.taken.ok.0)))
    (c.feed_taken.ensures.fed c.self.inside.limit next_handle)
