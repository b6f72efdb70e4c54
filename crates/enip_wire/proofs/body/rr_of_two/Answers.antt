use Rattle.std.proofs.Common.{arith}
use Rattle.enip_wire.proofs.PlainLemmas.{rr_read}
use Rattle.enip_wire.proofs.body.rr_of_two.Goals as goal

pub returns-then-from-text : goal.returns-then-from-text
returns-then-from-text c =
    rr_read c.args.text.now (λ i. omega (arith, c.type_inv.text i))
    (omega (arith, c.if-text-ge-RR_FRONT.true)) (omega (arith, c.u32_at.ensures, c.if-u32_at-eq0.true))
    (omega (arith, c.u16_at.ensures, c.if-u16_at-eq2.true))
    (omega (arith, c.u32_at-then-u16_at-eq2.ensures, c.if-u32_at-eq-NULL_HEAD.true))
    (omega (arith, c.u16_at-then-u32_at-eq-NULL_HEAD.ensures, c.if-u16_at-eq-UNCONNECTED_DATA.true))
    (omega (arith, c.u16_at-then-u16_at-eq-UNCONNECTED_DATA.ensures, c.from.ensures, c.if-from-text.true))
