use Rattle.std.proofs.Common.{sym, ◌∙◌, get_or}
use Rattle.std.proofs.lemmas.List.Elements.{All-set}
use Rattle.enip_adapter.specs.Adapter.{IsWaiting}
use Rattle.enip_adapter.proofs.FeedLemmas.{none_found, closed_found, open_found, found_item, alive_there}
use Rattle.enip_adapter.proofs.peer_slots.feed_taken.Goals as goal

pub returns-in_default-2-clause-fed : goal.returns-in_default-2-clause-fed
returns-in_default-2-clause-fed c limit next_handle =
    none_found limit next_handle c.args.shared.now c.args.places.now c.args.handle c.args.piece.now c.args.answer.now.items (sym c.index_of.ensures ∙ c.in_default.is)

pub returns-in_default-clause-fed : goal.returns-in_default-clause-fed
returns-in_default-clause-fed c limit next_handle =
    closed_found limit next_handle c.args.shared.now c.args.places.now c.args.handle c.in-Some.index c.args.piece.now c.args.answer.now.items c.index-places-index.result
    (sym c.index_of.ensures ∙ c.in-Some.is) c.if-not-places-index.false

pub returns-in-Some-clause-fed : goal.returns-in-Some-clause-fed
returns-in-Some-clause-fed c limit next_handle =
    open_found limit next_handle c.args.shared.now c.feed.new.shared c.args.places.now c.args.handle c.in-Some.index c.args.piece.now c.feed.new.answer.items c.feed.result
    (get_or c.args.places.now c.in-Some.index c.index-places-index-in-Some.result) c.feed.new.self (sym c.index_of.ensures ∙ c.in-Some.is)
    (found_item c.args.places.now c.args.handle c.in-Some.index c.index-places-index-in-Some.result (sym c.index_of.ensures ∙ c.in-Some.is))
    (alive_there c.args.places.now c.args.handle c.in-Some.index c.index-places-index.result c.index-places-index-in-Some.result
    (sym c.index_of.ensures ∙ c.in-Some.is) c.if-not-places-index.true)
    c.feed.ensures.session c.feed.ensures.reader c.feed.ensures.shared c.feed.ensures.taken c.feed.ensures.answer c.feed.ensures.close

pub returns-in-Some-clause-waiting : goal.returns-in-Some-clause-waiting
returns-in-Some-clause-waiting c =
    All-set IsWaiting c.args.places.now c.in-Some.index c.feed.new.self c.feed.ensures.waiting c.requires
