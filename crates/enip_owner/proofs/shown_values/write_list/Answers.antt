use Rattle.std.proofs.Common.{map, take}
use Rattle.cip_values.specs.Values.{value_in}
use Rattle.enip_owner.proofs.ShownLemmas.{list_begun, value_listed, list_ended, list_failed}
use Rattle.enip_owner.proofs.shown_values.write_list.Goals as goal

pub loop-value-init : goal.loop-value-init
loop-value-init c =
    list_begun c.args.writer.now c.key.new.self c.begin_array.new.self c.in_ok-key.ensures.ok c.key.ensures.room.0
    c.in_ok-begin_array.ensures.ok c.begin_array.ensures.room.0

pub loop-value-preserved : goal.loop-value-preserved
loop-value-preserved c =
    value_listed c.args.values.now c.loop-value.value-index _ c.args.writer.now c.loop-value.writer c.write_one.new.writer c.loop-value-test.true
    c.loop-value.invariant c.write_one.ensures.before c.in_ok-write_one.ensures.ok

pub returns-in_err-write_one : goal.returns-in_err-write_one
returns-in_err-write_one c =
    list_failed c.from_residual-in_err-write_one.result c.args.writer.now c.loop-value.writer c.write_one.new.writer
    (map value_in (take c.loop-value.value-index c.args.values.now)) (map value_in c.args.values.now) c.from_residual-in_err-write_one.ensures.0
    c.loop-value.invariant c.write_one.ensures.before

pub returns : goal.returns
returns c =
    list_ended c.end_array.result c.args.values.now c.loop-value.value-index c.args.writer.now c.loop-value.writer c.end_array.new.self
    c.loop-value-test.false c.loop-value.invariant c.end_array.ensures
