use Rattle.std.proofs.Common.{◌≡◌, ◌++◌, drop}
use Rattle.cip_owner.specs.Reset.{settable_attributes}
use Rattle.cip_owner.proofs.reset.add_settable_attributes.Given as goal

abbrev pub invariant-loop-attribute : goal.invariant-loop-attribute
invariant-loop-attribute l =
    l.names.items ++ settable_attributes l.object.class l.object.instance (drop l.attribute-index l.object.attributes.items)
    ≡ l.fn.names.items ++ settable_attributes l.object.class l.object.instance l.object.attributes.items
