use Rattle.std.proofs.Common.{refl, rules}
use Rattle.enip_owner.specs.declared.event.ResetEvent.{ResetEvent}
use Rattle.owner_port.proofs.sending.send_reset.Goals as goal

pub returns : goal.returns
returns c =
    let e : ResetEvent = record { reset_type = c.last_type.result; by = c.args.by } in record {
      while_open = λ is. (c.write_reset-line.result, (e, record { type_is = c.last_type.ensures; by_is = refl }, c.write_reset-line.ensures), c.send.ensures);
      while_closed = λ is. search rules;
    }
