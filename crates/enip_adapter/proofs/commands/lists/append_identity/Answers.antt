use Rattle.std.proofs.Common.{arith, ◌++◌}
use Rattle.cip_objects.specs.Contents.{bytes_at}
use Rattle.enip_adapter.specs.ListIdentity.{identity_attributes, identity_bytes}
use Rattle.enip_adapter.proofs.IdentityLemmas.{joined_more}
use Rattle.enip_adapter.proofs.commands.lists.append_identity.Goals as goal

pub loop-attribute-preserved : goal.loop-attribute-preserved
loop-attribute-preserved c = (
  joined_more (bytes_at c.args.objects.now 1 1) identity_attributes c.loop-attribute.item.items c.append_attribute.new.item.items
      (c.args.item.now.items ++ identity_bytes c.args.objects.now) c.loop-attribute.attribute-index 0
      c.loop-attribute-test.true c.append_attribute.ensures.text c.loop-attribute.invariant.0,
  omega (arith, c.append_attribute.ensures.size, c.loop-attribute.invariant.1),
)
