use Rattle.std.proofs.Common.{rules, ◌≡◌, [], true, false, length, sym, subst}
use Rattle.std.specs.Io.KnownBytes.{prepend_known}
use Rattle.enip_server.specs.FrameWires.{frame_left}
use Rattle.enip_server.specs.Wires.{IsRead, has_given}
use Rattle.enip_server.proofs.FrameLemmas.{after_fill, is_filled, filled_and_given, filled_alone}
use Rattle.enip_server.proofs.frame_wire.FrameWire.fill_and_give.Goals as goal

pub returns-then-has_given-clause-read : goal.returns-then-has_given-clause-read
returns-then-has_given-clause-read g c =
    let left = g.W.Wire.left in
    let old = left c.args.self.now.wire in
    let mid = left c.fill-received.new.wire in
    let rest = c.give.new.self.held in
    let given =
    after_fill old mid c.fill-received.new.self (prepend_known rest mid) c.give.result c.give.new.into
    c.fill-received.ensures.read (c.give.ensures.read mid) in
    subst (λ h. IsRead (prepend_known h old) (frame_left left c.give.new.self) c.give.result c.give.new.into)
    (sym c.requires.empty)
    (subst (λ w. IsRead (prepend_known [] old) (prepend_known rest (left w)) c.give.result c.give.new.into)
    (sym c.give.ensures.wire) given)

pub returns-then-has_given-clause-filled : goal.returns-then-has_given-clause-filled
returns-then-has_given-clause-filled g c =
    let has : has_given c.fill-received.result ≡ true = search rules in
    filled_and_given g.W.Wire.left g.W.Wire.known g.W.Wire.counts (length c.args.into.now) c.args.self.now
    (record c.args.self.now { wire = c.fill-received.new.wire; held = c.fill-received.new.self }) c.give.new.self
    c.fill-received.result c.give.result c.give.new.into
    (is_filled g.W.Wire.left g.W.Wire.known g.W.Wire.counts c.args.self.now c.fill-received.new.wire
    c.fill-received.new.self c.fill-received.result c.fill-received.ensures.read c.fill-received.ensures.bytes
    c.fill-received.ensures.known c.fill-received.ensures.counts)
    has c.give.ensures.given

pub returns-else-has_given-clause-filled : goal.returns-else-has_given-clause-filled
returns-else-has_given-clause-filled g c =
    let none : has_given c.fill-received.result ≡ false = search rules in
    filled_alone g.W.Wire.left g.W.Wire.known g.W.Wire.counts (length c.args.into.now) c.args.self.now
    (record c.args.self.now { wire = c.fill-received.new.wire; held = c.fill-received.new.self }) c.fill-received.result
    (is_filled g.W.Wire.left g.W.Wire.known g.W.Wire.counts c.args.self.now c.fill-received.new.wire
    c.fill-received.new.self c.fill-received.result c.fill-received.ensures.read c.fill-received.ensures.bytes
    c.fill-received.ensures.known c.fill-received.ensures.counts)
    none
