use Rattle.std.proofs.Common.{◌≡◌}
use Rattle.std.specs.List.{list_all}
use Rattle.enip_client.specs.Lists.{is_sound}
use Rattle.enip_client.proofs.lists.are_sound.Given as goal

abbrev pub invariant-loop-item : goal.invariant-loop-item
invariant-loop-item l =
    record { left : list_all (is_sound l.command) l.fn.items ≡ list_all (is_sound l.command) l.item-iterator }
