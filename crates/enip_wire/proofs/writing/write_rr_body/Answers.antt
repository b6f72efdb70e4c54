use Rattle.std.proofs.Common.{refl}
use Rattle.enip_wire.specs.Bodies.{rr_body_bytes}
use Rattle.enip_wire.proofs.WriteLemmas.{joined}
use Rattle.enip_wire.proofs.writing.write_rr_body.Goals as goal

pub returns-clause-ok : goal.returns-clause-ok
returns-clause-ok g c =
    joined c.args.out.now.items c.rr_body_head.result c.args.data.now c.append.new.out.items c.append-2.new.out.items
    (rr_body_bytes c.args.data.now) c.append.ensures.text c.append-2.ensures.text (c.rr_body_head.ensures c.args.data.now refl)
