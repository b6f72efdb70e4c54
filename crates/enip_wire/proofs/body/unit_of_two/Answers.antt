use Rattle.std.proofs.Common.{arith}
use Rattle.enip_wire.proofs.PlainLemmas.{unit_read}
use Rattle.enip_wire.proofs.body.unit_of_two.Goals as goal

pub returns-then-from-text : goal.returns-then-from-text
returns-then-from-text c =
    unit_read c.args.text.now c.u32_at-then-from-text.result (λ i. omega (arith, c.type_inv.text i))
    (omega (arith, c.if-text-ge-UNIT_FRONT.true)) (omega (arith, c.u32_at.ensures, c.if-u32_at-eq0.true))
    (omega (arith, c.u16_at.ensures, c.if-u16_at-eq2.true))
    (omega (arith, c.u32_at-then-u16_at-eq2.ensures, c.if-u32_at-eq-CONNECTED_HEAD.true))
    (omega (arith, c.u16_at-then-u32_at-eq-CONNECTED_HEAD.ensures, c.if-u16_at-eq-CONNECTED_DATA.true))
    (omega (arith, c.u16_at-then-u16_at-eq-CONNECTED_DATA.ensures, c.from.ensures, c.if-from-text.true)) c.u32_at-then-from-text.ensures
