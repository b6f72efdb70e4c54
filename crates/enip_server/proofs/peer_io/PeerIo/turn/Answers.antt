use Rattle.std.proofs.Common.{sym, ◌∙◌, subst}
use Rattle.enip_server.specs.PeerStates.{peer_state_of, AreFed, is_closed_now}
use Rattle.enip_server.proofs.TurnLemmas.{turn_waits, turn_thrown, turn_served}
use Rattle.enip_server.proofs.TurnLemmas.{told_fed, told_unsent, told_fetched, told_all_fed, told_cut_short}
use Rattle.enip_server.proofs.FeedLemmas.{none_fed, none_there, some_there, some_left, none_left}
use Rattle.enip_server.proofs.peer_io.PeerIo.turn.Goals as goal

pub returns-in-Some-clause-turn : goal.returns-in-Some-clause-turn
returns-in-Some-clause-turn g c =
    turn_waits g.O.Owner.answer g.O.Owner.after c.args.now c.args.self.now.peer c.args.owner.now _ _ (c.in-Some.ensures.flushed c.args.adapter.now) c.in-Some.ensures.waits.0

pub returns-in-Some-clause-fits_counts : goal.returns-in-Some-clause-fits_counts
returns-in-Some-clause-fits_counts g c =
    told_unsent c.args.self.now.end_reported (is_closed_now c.args.self.now.closed c.flush.new.self.closed) c.flush.new.self.closed
    c.in-Some.waits (g.W.Wire.counts c.args.self.now.wire)
    (g.W.Wire.counts c.flush.new.self.wire) c.in-Some.ensures.waits.1 c.in-Some.ensures.fits_counts

pub returns-then-is_some-clause-turn : goal.returns-then-is_some-clause-turn
returns-then-is_some-clause-turn g c =
    turn_thrown g.O.Owner.answer g.O.Owner.after c.args.now c.args.self.now.peer c.args.owner.now _
    (peer_state_of g.W.Wire.left g.W.Wire.written g.W.Wire.known g.W.Wire.counts c.args.adapter.now c.flush.new.self) _
    (c.in_default.ensures.flushed c.args.adapter.now) c.in_default.ensures.out
    (some_there _ (sym c.if-is_some.ensures))
    (c.discard_input.ensures.discarded c.args.adapter.now)

pub returns-then-is_some-clause-fits_buffers : goal.returns-then-is_some-clause-fits_buffers
returns-then-is_some-clause-fits_buffers g c = c.discard_input.ensures.fits_buffers c.args.adapter.now

pub returns-then-is_some-clause-fits_counts : goal.returns-then-is_some-clause-fits_counts
returns-then-is_some-clause-fits_counts g c =
    told_fetched c.args.self.now.end_reported c.flush.new.self.end_reported
    (is_closed_now c.args.self.now.closed c.discard_input.new.self.closed) c.discard_input.result
    (g.W.Wire.counts c.args.self.now.wire) (g.W.Wire.counts c.flush.new.self.wire)
    (g.W.Wire.counts c.discard_input.new.self.wire) c.in_default.ensures.end_reported c.in_default.ensures.goes_on
    c.discard_input.ensures.fits_counts

pub returns-then-is_empty-clause-turn : goal.returns-then-is_empty-clause-turn
returns-then-is_empty-clause-turn g c =
    turn_served g.O.Owner.answer g.O.Owner.after c.args.now c.args.self.now.peer c.args.owner.now c.args.owner.now _
    (peer_state_of g.W.Wire.left g.W.Wire.written g.W.Wire.known g.W.Wire.counts c.args.adapter.now c.flush.new.self)
    (peer_state_of g.W.Wire.left g.W.Wire.written g.W.Wire.known g.W.Wire.counts c.args.adapter.now c.fetch-turn.new.self) _
    (c.in_default.ensures.flushed c.args.adapter.now) c.in_default.ensures.out
    (none_there _ (sym c.if-is_some.ensures))
    (c.fetch-turn.ensures.fetched c.args.adapter.now) (none_fed g.O.Owner.answer g.O.Owner.after c.args.now c.args.self.now.peer c.args.owner.now _)

pub returns-then-is_empty-clause-fits_buffers : goal.returns-then-is_empty-clause-fits_buffers
returns-then-is_empty-clause-fits_buffers g c =
    told_fed (peer_state_of g.W.Wire.left g.W.Wire.written g.W.Wire.known g.W.Wire.counts c.args.adapter.now c.fetch-turn.new.self) c.fetch-turn.result
    (c.fetch-turn.ensures.outbox ∙ c.in_default.ensures.out) (none_left c.fetch-turn.new.self.inbox (sym c.if-is_empty.ensures))
    c.fetch-turn.ensures.by_read

pub returns-then-is_empty-clause-fits_counts : goal.returns-then-is_empty-clause-fits_counts
returns-then-is_empty-clause-fits_counts g c =
    told_fetched c.args.self.now.end_reported c.flush.new.self.end_reported
    (is_closed_now c.args.self.now.closed c.fetch-turn.new.self.closed) c.fetch-turn.result
    (g.W.Wire.counts c.args.self.now.wire) (g.W.Wire.counts c.flush.new.self.wire)
    (g.W.Wire.counts c.fetch-turn.new.self.wire) c.in_default.ensures.end_reported c.in_default.ensures.goes_on
    c.fetch-turn.ensures.fits_counts

pub returns-in-Some-feed_all-clause-turn : goal.returns-in-Some-feed_all-clause-turn
returns-in-Some-feed_all-clause-turn g c =
    turn_served g.O.Owner.answer g.O.Owner.after c.args.now c.args.self.now.peer c.args.owner.now c.feed_all.new.owner _
    (peer_state_of g.W.Wire.left g.W.Wire.written g.W.Wire.known g.W.Wire.counts c.args.adapter.now c.flush.new.self)
    (peer_state_of g.W.Wire.left g.W.Wire.written g.W.Wire.known g.W.Wire.counts c.args.adapter.now c.fetch-turn.new.self) _
    (c.in_default.ensures.flushed c.args.adapter.now) c.in_default.ensures.out
    (none_there _ (sym c.if-is_some.ensures))
    (c.fetch-turn.ensures.fetched c.args.adapter.now)
    (subst (λ p. AreFed g.O.Owner.answer g.O.Owner.after c.args.now p c.args.owner.now
    (peer_state_of g.W.Wire.left g.W.Wire.written g.W.Wire.known g.W.Wire.counts c.args.adapter.now c.fetch-turn.new.self)
    c.feed_all.new.owner
    (peer_state_of g.W.Wire.left g.W.Wire.written g.W.Wire.known g.W.Wire.counts c.feed_all.new.adapter c.feed_all.new.self))
    (c.fetch-turn.ensures.peer ∙ c.in_default.ensures.peer) c.in-Some-feed_all.ensures.fed)

pub returns-in-Some-feed_all-clause-fits_counts : goal.returns-in-Some-feed_all-clause-fits_counts
returns-in-Some-feed_all-clause-fits_counts g c =
    told_cut_short c.args.self.now.end_reported c.args.self.now.closed c.feed_all.new.self.closed
    c.in-Some-feed_all.cut_short
    (g.W.Wire.counts c.args.self.now.wire) (g.W.Wire.counts c.flush.new.self.wire)
    (g.W.Wire.counts c.fetch-turn.new.self.wire) (g.W.Wire.counts c.feed_all.new.self.wire)
    (sym c.in_default.ensures.closed ∙ none_there _ (sym c.if-is_some.ensures)) c.in_default.ensures.goes_on
    (c.fetch-turn.ensures.some (some_left c.fetch-turn.new.self.inbox (sym c.if-is_empty.ensures)))
    c.in-Some-feed_all.ensures.fits_counts

pub returns-clause-turn : goal.returns-clause-turn
returns-clause-turn g c =
    turn_served g.O.Owner.answer g.O.Owner.after c.args.now c.args.self.now.peer c.args.owner.now c.feed_all.new.owner _
    (peer_state_of g.W.Wire.left g.W.Wire.written g.W.Wire.known g.W.Wire.counts c.args.adapter.now c.flush.new.self)
    (peer_state_of g.W.Wire.left g.W.Wire.written g.W.Wire.known g.W.Wire.counts c.args.adapter.now c.fetch-turn.new.self) _
    (c.in_default.ensures.flushed c.args.adapter.now) c.in_default.ensures.out
    (none_there _ (sym c.if-is_some.ensures))
    (c.fetch-turn.ensures.fetched c.args.adapter.now)
    (subst (λ p. AreFed g.O.Owner.answer g.O.Owner.after c.args.now p c.args.owner.now
    (peer_state_of g.W.Wire.left g.W.Wire.written g.W.Wire.known g.W.Wire.counts c.args.adapter.now c.fetch-turn.new.self)
    c.feed_all.new.owner
    (peer_state_of g.W.Wire.left g.W.Wire.written g.W.Wire.known g.W.Wire.counts c.feed_all.new.adapter c.feed_all.new.self))
    (c.fetch-turn.ensures.peer ∙ c.in_default.ensures.peer) c.in_default-feed_all.ensures.fed)

pub returns-clause-fits_buffers : goal.returns-clause-fits_buffers
returns-clause-fits_buffers g c =
    told_fed (peer_state_of g.W.Wire.left g.W.Wire.written g.W.Wire.known g.W.Wire.counts c.feed_all.new.adapter c.feed_all.new.self)
    c.fetch-turn.result c.in_default-feed_all.ensures.out.0 c.in_default-feed_all.ensures.out.1 c.fetch-turn.ensures.by_read

pub returns-clause-fits_counts : goal.returns-clause-fits_counts
returns-clause-fits_counts g c =
    told_all_fed c.args.self.now.end_reported c.flush.new.self.end_reported
    (is_closed_now c.args.self.now.closed c.feed_all.new.self.closed) c.fetch-turn.result
    (g.W.Wire.counts c.args.self.now.wire) (g.W.Wire.counts c.flush.new.self.wire)
    (g.W.Wire.counts c.fetch-turn.new.self.wire) (g.W.Wire.counts c.feed_all.new.self.wire) c.in_default.ensures.end_reported
    c.in_default.ensures.goes_on c.fetch-turn.ensures.fits_counts c.in_default-feed_all.ensures.goes_on

pub returns-in-Some-feed_all-clause-watched : goal.returns-in-Some-feed_all-clause-watched
returns-in-Some-feed_all-clause-watched g c = c.in-Some-feed_all.ensures.watched

pub returns-clause-watched : goal.returns-clause-watched
returns-clause-watched g c = c.in_default-feed_all.ensures.watched
