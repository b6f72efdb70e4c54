use Rattle.std.proofs.Common.{◌<◌, length, take, subst, None, refl}
use Rattle.std.specs.Io.KnownBytes.{Appends}
use Rattle.std.specs.Prelude.{IfSome}
use Rattle.enip_server.specs.PeerStates.{IsCutShort, IsWaiting}
use Rattle.enip_server.proofs.ReleaseLemmas.{released_not, released_some}
use Rattle.enip_server.proofs.held_wire.HeldWire.release.Goals as goal

pub returns-then-self : goal.returns-then-self
returns-then-self g c =
    released_not g.W.Wire.left g.W.Wire.written g.W.Wire.known g.W.Wire.counts c.args.self.now c.if-self.true

pub returns-in-Some : goal.returns-in-Some
returns-in-Some g c =
    released_some g.W.Wire.left g.W.Wire.written g.W.Wire.known g.W.Wire.counts c.args.self.now _
    c.write_front-size.result.0 c.in-Some.unsent c.eq-self.result c.if-self.false refl c.drop_front.ensures
    (subst (λ bytes. c.write_front-size.result.0 < length bytes) c.as_slice.ensures
    (subst (λ o. IfSome o (λ turn. (c.write_front-size.result.0 < length c.as_slice.result.now) × IsWaiting turn))
    c.in-Some.is c.write_front-size.ensures.some).0)
    (subst (λ bytes. Appends (g.W.Wire.written c.args.self.now.wire) (g.W.Wire.written c.write_front-size.new.wire)
    (take c.write_front-size.result.0 bytes)) c.as_slice.ensures c.write_front-size.ensures.written)
    c.write_front-size.ensures.left c.write_front-size.ensures.known c.write_front-size.ensures.reads c.eq-self.ensures
    (subst (λ o. IfSome o (λ turn. IsCutShort None turn (g.W.Wire.counts c.args.self.now.wire)
    (g.W.Wire.counts c.write_front-size.new.wire))) c.in-Some.is c.write_front-size.ensures.fits_counts)
