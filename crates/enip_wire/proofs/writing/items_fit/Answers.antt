use Rattle.std.proofs.Common.{◌≡◌, ◌+◌, ◌≤◌, length, take, get_or, [], arith}
use Rattle.enip_wire.proofs.WriteLemmas.{texts, length-texts}
use Rattle.enip_wire.proofs.writing.items_fit.Goals as goal
use Rattle.enip_wire.proofs.writing.items_fit.Goals.{then-capacity-lt-ITEM_HEAD-via-then-capacity-lt-ITEM_HEAD, then-capacity-lt-ITEM_HEAD-via-else-capacity-lt-ITEM_HEAD+then-capacity-item}

pub returns-then-capacity-lt-ITEM_HEAD : goal.returns-then-capacity-lt-ITEM_HEAD
returns-then-capacity-lt-ITEM_HEAD c =
    let bound : length (texts (take c.loop-item.item-index c.args.list.now)) + (4 + length (get_or c.args.list.now c.loop-item.item-index (record { kind = 0; bytes = record { ref_ptr = (0, 0); now = [] } })).bytes.now)
    ≤ length (texts c.args.list.now)
    = length-texts c.args.list.now c.loop-item.item-index _ c.loop-item-test.true in
    let left : c.loop-item.capacity + length (texts (take c.loop-item.item-index c.args.list.now)) ≡ c.args.capacity = c.loop-item.invariant.left in (
      λ wrong. cc,
      λ fits. elim c.then-capacity-lt-ITEM_HEAD.branch [
        | then-capacity-lt-ITEM_HEAD-via-then-capacity-lt-ITEM_HEAD w ↦ absurd (omega (arith, w.if-capacity-lt-ITEM_HEAD.true, bound, left, fits))
        | then-capacity-lt-ITEM_HEAD-via-else-capacity-lt-ITEM_HEAD+then-capacity-item w ↦ absurd (omega (arith, w.if-capacity-item.true, bound, left, fits))
      ],
    )
