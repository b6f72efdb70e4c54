use Rattle.std.proofs.Common.{◌≡◌, false, true, is_some, Some, sym, ap, ◌∙◌, subst, refl}
use Rattle.std.specs.Box.{boxed_slice_items}
use Rattle.cip_objects.specs.Counter.{counter_values}
use Rattle.cip_objects.specs.ObjectRef.{Exists, IsObjectIndex, class_at, instance_at, object_in}
use Rattle.cip_objects.specs.Tables.{kind_in, settable_kind}
use Rattle.cip_objects.proofs.ObjectLemmas.{found_index, can_be_set_here, kind_set, kind_unset}
use Rattle.cip_objects.proofs.objects.Objects.settable.Goals as goal

pub is_settable-requires-in-Application-default : goal.is_settable-requires-in-Application-default
is_settable-requires-in-Application-default c =
    let o = c.self.inside in
    let m = c.args.self.now in
    let there : IsObjectIndex m.shapes c.in-Application-default.object_index = subst (Exists m.shapes) c.in-Application-default.is-0 c.requires in
    (found_index o.identity (boxed_slice_items o.assemblies) (counter_values o.counter) o.application m
    c.in-Application-default.object_index c.self.view_is c.self.invariant.free there).within

pub returns-then-not-is_settable-2-clause-kind : goal.returns-then-not-is_settable-2-clause-kind
returns-then-not-is_settable-2-clause-kind c =
    let o = c.self.inside in
    let m = c.args.self.now in
    let there : IsObjectIndex m.shapes c.in-Application-default.object_index = subst (Exists m.shapes) c.in-Application-default.is-0 c.requires in
    let none : is_some (kind_in c.args.attribute (Some (object_in m.shapes c.in-Application-default.object_index))) ≡ false =
    sym (can_be_set_here o.identity (boxed_slice_items o.assemblies) (counter_values o.counter) o.application m
    c.in-Application-default.object_index c.args.attribute c.self.view_is) ∙ sym c.is_settable-in-Application-default.ensures
    ∙ c.if-not-is_settable-2.true in
    sym (ap (λ d. settable_kind m.shapes (class_at m.shapes d) (instance_at m.shapes d) c.args.attribute) c.in-Application-default.is-0
    ∙ kind_unset m.shapes c.in-Application-default.object_index c.args.attribute there none)

pub returns-else-not-is_settable-2-clause-kind : goal.returns-else-not-is_settable-2-clause-kind
returns-else-not-is_settable-2-clause-kind c =
    let o = c.self.inside in
    let m = c.args.self.now in
    let there : IsObjectIndex m.shapes c.in-Application-default.object_index = subst (Exists m.shapes) c.in-Application-default.is-0 c.requires in
    let some : is_some (kind_in c.args.attribute (Some (object_in m.shapes c.in-Application-default.object_index))) ≡ true =
    sym (can_be_set_here o.identity (boxed_slice_items o.assemblies) (counter_values o.counter) o.application m
    c.in-Application-default.object_index c.args.attribute c.self.view_is) ∙ sym c.is_settable-in-Application-default.ensures
    ∙ c.if-not-is_settable-2.false in
    kind_set m.shapes c.in-Application-default.object_index c.args.attribute there some
    ∙ sym (ap (λ d. settable_kind m.shapes (class_at m.shapes d) (instance_at m.shapes d) c.args.attribute) c.in-Application-default.is-0)

pub returns-else-not-is_settable-2-clause-names : goal.returns-else-not-is_settable-2-clause-names
returns-else-not-is_settable-2-clause-names c =
    let o = c.self.inside in
    let m = c.args.self.now in
    record {
      of_object = c.in-Application-default.is-0;
      of_attribute = refl;
      whole = sym (can_be_set_here o.identity (boxed_slice_items o.assemblies) (counter_values o.counter) o.application m
          c.in-Application-default.object_index c.args.attribute c.self.view_is) ∙ sym c.is_settable-in-Application-default.ensures
          ∙ c.if-not-is_settable-2.false;
    }
