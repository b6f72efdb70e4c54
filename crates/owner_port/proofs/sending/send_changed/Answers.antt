use Rattle.std.proofs.Common.{ap, ◌∙◌, refl, rules}
use Rattle.enip_owner.specs.declared.event.ChangedEvent.{ChangedEvent}
use Rattle.owner_port.proofs.sending.send_changed.Goals as goal

pub returns : goal.returns
returns c =
    let e : ChangedEvent =
    record { attribute = c.args.attribute; value_type = c.type_at.result; «data» = c.as_slice.result; by = c.args.by } in record {
      while_open = λ is. (
        c.write_changed-line.result,
        (
          e,
          record {
            attribute_is = refl;
            value_type = c.type_at.ensures;
            bytes = c.as_slice.ensures.value ∙ c.value_of-bytes.ensures;
            by_is = refl;
          },
          c.write_changed-line.ensures,
        ),
        c.send.ensures,
      );
      while_closed = λ is. search rules;
    }
