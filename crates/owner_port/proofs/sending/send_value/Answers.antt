use Rattle.std.proofs.Common.{ap, ◌∙◌, refl}
use Rattle.enip_owner.specs.declared.event.ValueEvent.{ValueEvent}
use Rattle.owner_port.specs.declared.session.Session.{Session}
use Rattle.owner_port.proofs.SessionLemmas.{sent-number}
use Rattle.owner_port.proofs.sending.send_value.Goals as goal

pub returns-clause-sent : goal.returns-clause-sent
returns-clause-sent c =
    let e : ValueEvent =
    record { attribute = c.args.attribute; value_type = c.type_at.result; «data» = c.as_slice.result } in (
      c.write_value-line.result,
      (
        e,
        record {
          attribute_is = refl;
          value_type = c.type_at.ensures;
          bytes = c.as_slice.ensures.value ∙ c.value_of-bytes.ensures;
        },
        c.write_value-line.ensures,
      ),
      c.send.ensures,
    )

pub returns-clause-line : goal.returns-clause-line
returns-clause-line c =
    ap (λ (s : Session). s.line) c.send.ensures ∙ sent-number c.args.session.now c.write_value-line.result
