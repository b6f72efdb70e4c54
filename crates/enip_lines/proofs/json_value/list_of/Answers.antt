use Rattle.enip_lines.proofs.JsonLemmas.{told_more, told_all}
use Rattle.enip_lines.proofs.json_value.list_of.Goals as goal

pub loop-value-preserved : goal.loop-value-preserved
loop-value-preserved c =
    rw c.in_ok-push.ensures.items
    (told_more c.args.values.now c.loop-value.value-index _ c.loop-value.list.items c.in_ok-json_of.field-0 c.loop-value-test.true
    c.loop-value.invariant c.in_ok-json_of.ensures)

pub returns : goal.returns
returns c = told_all c.args.values.now c.loop-value.value-index c.loop-value.list c.loop-value-test.false c.loop-value.invariant
