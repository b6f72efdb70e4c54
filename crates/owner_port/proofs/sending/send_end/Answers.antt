use Rattle.std.proofs.Common.{refl, rules}
use Rattle.enip_owner.specs.declared.event.EndedEvent.{EndedEvent}
use Rattle.owner_port.proofs.sending.send_end.Goals as goal

pub returns : goal.returns
returns c =
    let e : EndedEvent = record { connection = c.args.connection.id; reason = c.reason_of.result } in record {
      while_open = λ is. (c.write_ended-line.result, (e, record { connection_is = refl; reason_is = c.reason_of.ensures }, c.write_ended-line.ensures), c.send.ensures);
      while_closed = λ is. search rules;
    }
