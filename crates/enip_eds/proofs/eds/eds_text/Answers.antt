use Rattle.std.proofs.Common.{◌++◌, string_bytes, subst}
use Rattle.enip_eds.specs.Eds.{assembly_heading, assembly_step, head}
use Rattle.enip_eds.specs.Params.{assembly_params, object_params}
use Rattle.enip_eds.specs.Steps.{Steps, written}
use Rattle.enip_eds.proofs.eds.eds_text.Goals as goal

pub returns : goal.returns
returns c =
    let s = c.args.source.now in
    let o = s.configuration.now.objects in
    let members_end = written c.in_ok-members_end.members_end (string_bytes c.add_assembly_params.new.text) in
    let objects_end = written c.in_ok-add_object_params.field-0 (string_bytes c.add_object_params.new.text) in
    let assemblies_end = written c.in_ok-add_assemblies.field-0 (string_bytes c.add_assemblies.new.text) in
    record {
      members_end = members_end;
      objects_end = objects_end;
      assemblies_end = assemblies_end;
      members =
          subst (λ l. Steps assembly_params (written 1 (head s)) l members_end) c.deref.ensures.value
          (subst (λ t. Steps assembly_params (written 1 t) c.deref.result.now members_end) c.in_ok-text.ensures c.in_ok-members_end.ensures);
      objects =
          subst (λ l. Steps (object_params l) members_end o.objects.items objects_end) c.deref-3.ensures.value
          (subst (λ l. Steps (object_params c.deref-3.result.now) members_end l objects_end) c.deref-2.ensures.value
          c.in_ok-add_object_params.ensures);
      assemblies =
          subst (λ l. Steps assembly_step (written 1 (string_bytes c.add_object_params.new.text ++ assembly_heading)) l assemblies_end)
          c.deref-4.ensures.value
          (subst (λ t. Steps assembly_step (written 1 t) c.deref-4.result.now assemblies_end) c.in_ok-add_assembly_heading.ensures
          c.in_ok-add_assemblies.ensures);
      whole = c.in_ok-add_tail.ensures;
    }
