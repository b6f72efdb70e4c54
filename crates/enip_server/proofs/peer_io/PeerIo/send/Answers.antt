use Rattle.std.proofs.Common.{refl, sym, ◌∙◌}
use Rattle.enip_server.proofs.FlushLemmas.{from_index, flushed_by, all_gone, out_by, waits_by, cut_by}
use Rattle.enip_server.proofs.FeedLemmas.{none_there}
use Rattle.enip_server.proofs.peer_io.PeerIo.send.Goals as goal

pub returns-then-is_some-clause-sent : goal.returns-then-is_some-clause-sent
returns-then-is_some-clause-sent g c = λ adapter.
    flushed_by _ _ c.write_front-written.result.0 c.write_front-written.ensures.written (c.put.ensures ∙ from_index c.args.frame.now c.write_front-written.result.0) refl refl refl refl
    c.write_front-written.ensures.left c.write_front-written.ensures.known c.write_front-written.ensures.reads

pub returns-then-is_some-clause-out : goal.returns-then-is_some-clause-out
returns-then-is_some-clause-out g c =
    out_by c.write_front-written.result.1 c.write_front-written.result.0 c.args.frame.now _ c.write_front-written.ensures.all
    (c.put.ensures ∙ from_index c.args.frame.now c.write_front-written.result.0)

pub returns-then-is_some-clause-waits : goal.returns-then-is_some-clause-waits
returns-then-is_some-clause-waits g c =
    waits_by c.write_front-written.result.1 c.write_front-written.result.0 c.args.frame.now _ c.write_front-written.ensures.some
    (c.put.ensures ∙ from_index c.args.frame.now c.write_front-written.result.0)

pub returns-then-is_some-clause-fits_counts : goal.returns-then-is_some-clause-fits_counts
returns-then-is_some-clause-fits_counts g c =
    cut_by c.write_front-written.result.1 c.args.self.now.closed (g.W.Wire.counts c.args.self.now.wire)
    (g.W.Wire.counts c.write_front-written.new.wire) c.write_front-written.ensures.fits_counts

pub returns-else-is_some-clause-sent : goal.returns-else-is_some-clause-sent
returns-else-is_some-clause-sent g c = λ adapter.
    flushed_by _ _ c.write_front-written.result.0 c.write_front-written.ensures.written (c.requires.out ∙ sym (all_gone c.write_front-written.result.1 c.write_front-written.result.0 c.args.frame.now
    (none_there _ (sym c.if-is_some.ensures)) c.write_front-written.ensures.all)) refl refl refl refl
    c.write_front-written.ensures.left c.write_front-written.ensures.known c.write_front-written.ensures.reads

pub returns-else-is_some-clause-out : goal.returns-else-is_some-clause-out
returns-else-is_some-clause-out g c =
    out_by c.write_front-written.result.1 c.write_front-written.result.0 c.args.frame.now _ c.write_front-written.ensures.all
    (c.requires.out ∙ sym (all_gone c.write_front-written.result.1 c.write_front-written.result.0 c.args.frame.now
    (none_there _ (sym c.if-is_some.ensures)) c.write_front-written.ensures.all))

pub returns-else-is_some-clause-waits : goal.returns-else-is_some-clause-waits
returns-else-is_some-clause-waits g c =
    waits_by c.write_front-written.result.1 c.write_front-written.result.0 c.args.frame.now _ c.write_front-written.ensures.some
    (c.requires.out ∙ sym (all_gone c.write_front-written.result.1 c.write_front-written.result.0 c.args.frame.now
    (none_there _ (sym c.if-is_some.ensures)) c.write_front-written.ensures.all))

pub returns-else-is_some-clause-fits_counts : goal.returns-else-is_some-clause-fits_counts
returns-else-is_some-clause-fits_counts g c =
    cut_by c.write_front-written.result.1 c.args.self.now.closed (g.W.Wire.counts c.args.self.now.wire)
    (g.W.Wire.counts c.write_front-written.new.wire) c.write_front-written.ensures.fits_counts
