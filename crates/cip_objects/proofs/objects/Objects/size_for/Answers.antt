use Rattle.std.proofs.Common.{sym, ap, ◌∙◌, subst, option_map, option_and_then}
use Rattle.cip_application.specs.declared.kind.AttributeKind.{AttributeKind}
use Rattle.cip_application.specs.Values.{size_for}
use Rattle.cip_objects.specs.ObjectRef.{Exists, class_at, instance_at}
use Rattle.cip_objects.specs.Tables.{kind_in_assembly, value_kind}
use Rattle.cip_objects.proofs.ObjectLemmas.{value_kind_at}
use Rattle.cip_objects.proofs.objects.Objects.size_for.Goals as goal

pub returns-in-Assembly : goal.returns-in-Assembly
unfolding value_kind
returns-in-Assembly c =
    let m = c.args.self.now in
    let size = λ (kind : AttributeKind). size_for kind c.args.data.now in
    c.value_size.ensures c.args.data.now
    ∙ sym (ap (λ s. option_map size (option_and_then (kind_in_assembly c.args.attribute) s)) c.assembly.ensures.shape)
    ∙ sym (ap (λ o. option_map size (value_kind m.shapes (class_at m.shapes o) (instance_at m.shapes o) c.args.attribute)) c.in-Assembly.is)

pub returns-in-Application : goal.returns-in-Application
returns-in-Application c =
    let m = c.args.self.now in
    let size = λ (kind : AttributeKind). size_for kind c.args.data.now in
    c.object_size_for.ensures
    ∙ sym (ap (option_map size) (value_kind_at m.shapes c.in-Application.object_index c.args.attribute
    (subst (Exists m.shapes) c.in-Application.is c.requires.there)))
    ∙ sym (ap (λ o. option_map size (value_kind m.shapes (class_at m.shapes o) (instance_at m.shapes o) c.args.attribute)) c.in-Application.is)
