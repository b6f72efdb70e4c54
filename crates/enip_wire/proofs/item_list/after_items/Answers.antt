use Rattle.std.proofs.Common.{◌∙◌}
use Rattle.enip_wire.proofs.ItemLemmas.{after_step}
use Rattle.enip_wire.proofs.item_list.after_items.Goals as goal

pub loop-index-preserved : goal.loop-index-preserved
loop-index-preserved c =
    record {
      left = after_step c.args.count c.loop-index.index c.loop-index.rest.now c.in-Some.next.now c.loop-index-test.true c.in-Some.ensures.0 c.in-Some.ensures.2
          ∙ c.loop-index.invariant.left;
    }
