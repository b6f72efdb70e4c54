use Rattle.std.proofs.Common.{◌≡◌, ◌≤◌, ◌+◌, ◌*◌, ◌++◌, drop}
use Rattle.std.specs.List.{flat_map}
use Rattle.arrayvec.specs.ArrayVec.{array_vec_len}
use Rattle.cip_objects.specs.Contents.{bytes_at}
use Rattle.enip_adapter.specs.ListIdentity.{identity_bytes}
use Rattle.enip_adapter.proofs.commands.lists.append_identity.Given as goal

abbrev pub invariant-loop-attribute : goal.invariant-loop-attribute
invariant-loop-attribute l =
    (l.item.items ++ flat_map (bytes_at l.objects 1 1) (drop l.attribute-index l.attribute-items)
    ≡ l.initial.item.items ++ identity_bytes l.objects)
    × (array_vec_len l.item ≤ 18 + 33 * l.attribute-index)
