use Rattle.std.proofs.Common.{◌++◌, sym, subst}
use Rattle.std.specs.List.{flat_map}
use Rattle.cip_objects.specs.declared.object_ref.ObjectRef.TheVariants as object_refs
use Rattle.cip_objects.specs.ObjectRef.{Exists, IsObjectIndex, bytes_to, class_at, instance_at}
use Rattle.cip_objects.specs.ReadServices.{all_attributes}
use Rattle.cip_objects.specs.ReplyWriting.{Writes}
use Rattle.cip_objects.proofs.ObjectLemmas.{all_of_object}
use Rattle.cip_objects.proofs.objects.Objects.append_all.Goals as goal

pub returns-in-Application : goal.returns-in-Application
returns-in-Application c =
    let m = c.args.self.now in
    let k = c.in-Application.object_index in
    let there : IsObjectIndex m.shapes k = subst (Exists m.shapes) c.in-Application.is c.requires.there in
    let front = c.args.reply.now.items in
    subst (λ d. Writes c.args.max_size (front ++ flat_map (bytes_to m d) (all_attributes m.shapes (class_at m.shapes d) (instance_at m.shapes d))) c.append_object.result c.append_object.new.reply.items)
    (sym c.in-Application.is)
    (subst (λ ns. Writes c.args.max_size (front ++ flat_map (bytes_to m (object_refs.Application k)) ns) c.append_object.result c.append_object.new.reply.items)
    (sym (all_of_object m.shapes k there)) c.append_object.ensures)
