use Rattle.std.proofs.Common.{◌≡◌, sym, ap, ◌∙◌, eqb, false}
use Rattle.std.specs.Box.{boxed_slice_items}
use Rattle.cip_objects.specs.Counter.{counter_values}
use Rattle.cip_objects.specs.Changes.{changes_at}
use Rattle.cip_objects.specs.ObjectMap.{key}
use Rattle.cip_objects.proofs.ObjectLemmas.{changes_here, other_number}
use Rattle.cip_objects.proofs.Shapes.{object_changes-contents, no_other-contents}
use Rattle.cip_objects.proofs.objects.Objects.attribute_changes.Goals as goal

pub returns-then-class-ne-ASSEMBLY : goal.returns-then-class-ne-ASSEMBLY
returns-then-class-ne-ASSEMBLY c =
    let o = c.self.inside in
    let other : eqb 4 c.args.class ≡ false = other_number 4 c.args.class (λ e. c.if-class-ne-ASSEMBLY.true (sym e)) in
    c.changes.ensures ∙ changes_here c.args.class c.args.instance c.args.attribute o.application
    ∙ sym (object_changes-contents o.identity (boxed_slice_items o.assemblies) (counter_values o.counter) o.application c.args.self.now
    c.args.class c.args.instance c.args.attribute c.self.view_is c.self.invariant.free other)

pub returns-then-attribute-ne3 : goal.returns-then-attribute-ne3
returns-then-attribute-ne3 c =
    let o = c.self.inside in
    let other : eqb 3 c.args.attribute ≡ false = other_number 3 c.args.attribute (λ e. c.if-attribute-ne3.true (sym e)) in
    sym (ap (λ n. changes_at (key n c.args.instance c.args.attribute) c.args.self.now.changes) c.if-class-ne-ASSEMBLY.false
    ∙ no_other-contents o.identity (boxed_slice_items o.assemblies) (counter_values o.counter) o.application c.args.self.now
    c.args.instance c.args.attribute c.self.view_is c.self.invariant.free other)
