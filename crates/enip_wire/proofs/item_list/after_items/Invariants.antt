use Rattle.std.proofs.Common.{◌≡◌, ◌-◌}
use Rattle.enip_wire.specs.Items.{after}
use Rattle.enip_wire.proofs.item_list.after_items.Given as goal

abbrev pub invariant-loop-index : goal.invariant-loop-index
invariant-loop-index l = record { left : after (l.count - l.index) l.rest ≡ after l.count l.text }
