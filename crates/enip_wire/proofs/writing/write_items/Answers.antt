use Rattle.std.proofs.Common.{rules, refl}
use Rattle.enip_wire.proofs.WriteLemmas.{room_for, counted_at}
use Rattle.enip_wire.proofs.writing.write_items.Goals as goal

pub append_item-requires : goal.append_item-requires
append_item-requires g c = (
  search rules,
  (
    room_for c.args.out.now.items c.loop-item.out.items c.args.list.now c.loop-item.item-index _ c.remaining_capacity-capacity.result _
        c.loop-item.invariant.written c.loop-item-test.true (c.if-not-items_fit.ensures.0 refl) c.if-capacity-lt-COUNT.false c.remaining_capacity-capacity.ensures,
    counted_at c.args.list.now c.loop-item.item-index _ c.loop-item-test.true c.requires.each,
  ),
)
