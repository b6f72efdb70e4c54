use Rattle.std.proofs.Common.{◌++◌, string_bytes, ap, subst}
use Rattle.enip_eds.specs.Eds.{assembly_fields, reference_step}
use Rattle.enip_eds.specs.Steps.{Steps, written}
use Rattle.enip_eds.proofs.eds.add_assembly.Goals as goal

pub returns : goal.returns
returns c =
    let last = written c.in_ok-next.next (string_bytes c.add_references.new.text) in
    record {
      last = last;
      members =
          subst (λ l. Steps reference_step (written c.args.number (string_bytes c.args.text.now ++ assembly_fields c.args.assembly.now)) l last)
          c.deref.ensures.value
          (subst (λ t. Steps reference_step (written c.args.number t) c.deref.result.now last) c.in_ok-add_fields.ensures c.in_ok-next.ensures);
      ended = ap (written c.in_ok-next.next) c.in_ok-push_str.ensures.bytes;
    }
