use Rattle.std.proofs.Common.{refl}
use Rattle.enip_wire.specs.Bodies.{unit_body_bytes}
use Rattle.enip_wire.proofs.WriteLemmas.{joined}
use Rattle.enip_wire.proofs.writing.write_unit_body.Goals as goal

pub returns-clause-ok : goal.returns-clause-ok
returns-clause-ok g c =
    joined c.args.out.now.items c.unit_body_head.result c.args.data.now c.append.new.out.items c.append-2.new.out.items
    (unit_body_bytes c.args.id c.args.data.now) c.append.ensures.text c.append-2.ensures.text (c.unit_body_head.ensures c.args.data.now refl)
