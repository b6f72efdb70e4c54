use Rattle.std.proofs.Common.{◌≡◌, ◌<◌, length, take, refl, subst}
use Rattle.std.specs.Prelude.{IfSome, IfNone}
use Rattle.std.specs.Io.KnownBytes.{Appends}
use Rattle.enip_server.specs.PeerStates.{IsWaiting}
use Rattle.enip_server.proofs.FlushLemmas.{flushed_by, out_by, waits_by, cut_by}
use Rattle.enip_server.proofs.peer_io.PeerIo.flush.Goals as goal

pub returns-clause-flushed : goal.returns-clause-flushed
returns-clause-flushed g c = λ adapter.
    flushed_by _ _ c.write_front-written.result.0
    (subst (λ bytes. Appends (g.W.Wire.written c.args.self.now.wire) (g.W.Wire.written c.write_front-written.new.wire)
    (take c.write_front-written.result.0 bytes)) c.as_slice.ensures c.write_front-written.ensures.written)
    c.drop_front.ensures refl refl refl refl c.write_front-written.ensures.left c.write_front-written.ensures.known
    c.write_front-written.ensures.reads

pub returns-clause-out : goal.returns-clause-out
returns-clause-out g c =
    out_by c.write_front-written.result.1 c.write_front-written.result.0 c.args.self.now.outbox c.drop_front.new.self
    (subst (λ bytes. IfNone c.write_front-written.result.1 (c.write_front-written.result.0 ≡ length bytes)) c.as_slice.ensures
    c.write_front-written.ensures.all) c.drop_front.ensures

pub returns-clause-waits : goal.returns-clause-waits
returns-clause-waits g c =
    waits_by c.write_front-written.result.1 c.write_front-written.result.0 c.args.self.now.outbox c.drop_front.new.self
    (subst (λ bytes. IfSome c.write_front-written.result.1 (λ turn. (c.write_front-written.result.0 < length bytes) × IsWaiting turn))
    c.as_slice.ensures c.write_front-written.ensures.some) c.drop_front.ensures

pub returns-clause-fits_counts : goal.returns-clause-fits_counts
returns-clause-fits_counts g c =
    cut_by c.write_front-written.result.1 c.args.self.now.closed (g.W.Wire.counts c.args.self.now.wire)
    (g.W.Wire.counts c.write_front-written.new.wire) c.write_front-written.ensures.fits_counts
