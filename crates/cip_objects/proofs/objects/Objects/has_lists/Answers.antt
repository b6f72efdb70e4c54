use Rattle.std.proofs.Common.{sym, ap, ◌∙◌, subst}
use Rattle.cip_objects.specs.Entries.{shape_of}
use Rattle.cip_objects.specs.ObjectRef.{Exists, has_lists}
use Rattle.cip_objects.proofs.ObjectRefs.{lists_here}
use Rattle.cip_objects.proofs.objects.Objects.has_lists.Goals as goal

pub returns-in-Assembly : goal.returns-in-Assembly
returns-in-Assembly c =
    let m = c.args.self.now in
    c.has_lists.ensures
    ∙ lists_here m.shapes c.in-Assembly.assembly_index (shape_of c.assembly.result.now)
    (subst (Exists m.shapes) c.in-Assembly.is c.requires) c.assembly.ensures.shape
    ∙ sym (ap (has_lists m.shapes) c.in-Assembly.is)
