use Rattle.std.proofs.Common.{take}
use Rattle.std.specs.List.{flat_map}
use Rattle.enip_owner.specs.Parts.{part_tokens}
use Rattle.enip_owner.proofs.PartLemmas.{none_added, more_added, done_adding, failed_adding}
use Rattle.enip_owner.proofs.part.write_parts.Goals as goal

pub loop-part-init : goal.loop-part-init
loop-part-init c = none_added c.args.writer.now

pub loop-part-preserved : goal.loop-part-preserved
loop-part-preserved c =
    more_added part_tokens c.args.parts.now c.loop-part.part-index _ c.args.writer.now c.loop-part.writer c.write_part.new.writer
    c.loop-part-test.true c.loop-part.invariant c.in_ok-write_part.ensures.ok c.write_part.ensures.before

pub returns-in_err-write_part : goal.returns-in_err-write_part
returns-in_err-write_part c =
    failed_adding c.from_residual.result c.args.writer.now c.loop-part.writer c.write_part.new.writer
    (flat_map part_tokens (take c.loop-part.part-index c.args.parts.now)) (flat_map part_tokens c.args.parts.now)
    c.from_residual.ensures.0 c.loop-part.invariant c.write_part.ensures.before

pub returns : goal.returns
returns c =
    done_adding part_tokens c.args.parts.now c.loop-part.part-index c.args.writer.now c.loop-part.writer c.loop-part-test.false
    c.loop-part.invariant
