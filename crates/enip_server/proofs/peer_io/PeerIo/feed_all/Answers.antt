use Rattle.std.proofs.Common.{refl, sym, ◌∙◌}
use Rattle.enip_server.specs.PeerStates.{peer_state_of}
use Rattle.enip_server.proofs.TurnLemmas.{still_same, still_after, cut_after}
use Rattle.enip_server.proofs.FeedLemmas.{none_fed, one_more, none_there, some_there}
use Rattle.enip_server.specs.declared.peer_io.Turn.TheVariants.{More}
use Rattle.enip_server.proofs.peer_io.PeerIo.feed_all.Goals as goal

pub loop-self-init : goal.loop-self-init
loop-self-init g c = record {
  peer = refl;
  out = c.requires.out;
  served = c.requires.open;
  end_reported = refl;
  fits_buffers = still_same (g.W.Wire.counts c.args.self.now.wire) (g.W.Wire.counts c.args.self.now.wire) refl;
  fed = none_fed g.O.Owner.answer g.O.Owner.after c.args.now c.args.self.now.peer c.args.owner.now _;
  watched = λ seen. seen;
}

pub returns-in-Some-clause-fed : goal.returns-in-Some-clause-fed
returns-in-Some-clause-fed g c =
    one_more g.O.Owner.answer g.O.Owner.after c.args.now c.args.self.now.peer c.loop-self.self.peer
    c.args.owner.now c.loop-self.owner c.feed_watched.new.owner _
    (peer_state_of g.W.Wire.left g.W.Wire.written g.W.Wire.known g.W.Wire.counts c.loop-self.adapter c.loop-self.self) _
    c.loop-self.invariant.peer c.loop-self.invariant.fed c.loop-self.invariant.out
    c.loop-self.invariant.served c.in-Some.ensures.fed c.in-Some.ensures.owner

pub returns-then-is_some-clause-fed : goal.returns-then-is_some-clause-fed
returns-then-is_some-clause-fed g c =
    one_more g.O.Owner.answer g.O.Owner.after c.args.now c.args.self.now.peer c.loop-self.self.peer
    c.args.owner.now c.loop-self.owner c.feed_watched.new.owner _
    (peer_state_of g.W.Wire.left g.W.Wire.written g.W.Wire.known g.W.Wire.counts c.loop-self.adapter c.loop-self.self) _
    c.loop-self.invariant.peer c.loop-self.invariant.fed c.loop-self.invariant.out
    c.loop-self.invariant.served c.in_default.ensures.fed c.in_default.ensures.owner

pub loop-self-preserved : goal.loop-self-preserved
loop-self-preserved g c = record {
  peer = c.in_default.ensures.peer ∙ c.loop-self.invariant.peer;
  out = c.in_default.ensures.out;
  served = none_there c.feed_watched.new.self.closed (sym c.if-is_some.ensures);
  end_reported = c.in_default.ensures.end_reported ∙ c.loop-self.invariant.end_reported;
  fits_buffers = still_after (g.W.Wire.counts c.args.self.now.wire) (g.W.Wire.counts c.loop-self.self.wire)
      (g.W.Wire.counts c.feed_watched.new.self.wire) c.loop-self.invariant.fits_buffers c.in_default.ensures.goes_on;
  fed =
      one_more g.O.Owner.answer g.O.Owner.after c.args.now c.args.self.now.peer c.loop-self.self.peer
      c.args.owner.now c.loop-self.owner c.feed_watched.new.owner _
      (peer_state_of g.W.Wire.left g.W.Wire.written g.W.Wire.known g.W.Wire.counts c.loop-self.adapter c.loop-self.self) _
      c.loop-self.invariant.peer c.loop-self.invariant.fed c.loop-self.invariant.out
      c.loop-self.invariant.served c.in_default.ensures.fed c.in_default.ensures.owner;
  watched = λ seen. c.in_default.ensures.watched (c.loop-self.invariant.watched seen);
}

pub returns-in-Some-clause-watched : goal.returns-in-Some-clause-watched
returns-in-Some-clause-watched g c = λ seen. c.in-Some.ensures.watched (c.loop-self.invariant.watched seen)

pub returns-then-is_some-clause-watched : goal.returns-then-is_some-clause-watched
returns-then-is_some-clause-watched g c = λ seen. c.in_default.ensures.watched (c.loop-self.invariant.watched seen)

pub returns-in-Some-clause-fits_counts : goal.returns-in-Some-clause-fits_counts
returns-in-Some-clause-fits_counts g c =
    cut_after c.feed_watched.new.self.closed c.in-Some.unsent (g.W.Wire.counts c.args.self.now.wire)
    (g.W.Wire.counts c.loop-self.self.wire) (g.W.Wire.counts c.feed_watched.new.self.wire)
    c.loop-self.invariant.fits_buffers c.in-Some.ensures.fits_counts

pub returns-then-is_some-clause-fits_counts : goal.returns-then-is_some-clause-fits_counts
returns-then-is_some-clause-fits_counts g c =
    cut_after c.feed_watched.new.self.closed More (g.W.Wire.counts c.args.self.now.wire)
    (g.W.Wire.counts c.loop-self.self.wire) (g.W.Wire.counts c.feed_watched.new.self.wire)
    c.loop-self.invariant.fits_buffers (
      some_there c.feed_watched.new.self.closed (sym c.if-is_some.ensures),
      c.in_default.ensures.goes_on.1,
      c.in_default.ensures.goes_on.2,
    )
