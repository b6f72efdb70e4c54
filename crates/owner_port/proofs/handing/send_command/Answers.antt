use Rattle.std.proofs.Common.{refl}
use Rattle.enip_owner.specs.declared.event.CommandEvent.{CommandEvent}
use Rattle.owner_port.proofs.handing.send_command.Goals as goal

pub returns : goal.returns
returns c =
    let command = c.args.command in
    let e : CommandEvent = record {
      ticket = command.ticket;
      class = command.class;
      instance = command.instance;
      service = command.service;
      «data» = command.«data»;
      by = c.address.result;
      again = c.args.again;
    } in (
      c.write_command-line.result,
      (
        e,
        record {
          ticket = refl;
          class = refl;
          instance = refl;
          service = refl;
          content = refl;
          by = c.address.ensures;
          again_is = refl;
        },
        c.write_command-line.ensures,
      ),
      c.send.ensures,
    )
