use Rattle.std.proofs.Common.{Ok, Err, arith}
use Rattle.cip_bytes.specs.Reading.{map_ok}
use Rattle.enip_wire.proofs.BodyLemmas.{rr_iff}
use Rattle.enip_wire.proofs.body.rr_body.Goals as goal

pub returns-clause-spelled : goal.returns-clause-spelled
returns-clause-spelled c bytes =
    rr_iff c.args.text.now (map_ok (λ lent. lent.now) c.read_rr_body.result) (Ok bytes) (λ i. omega (arith, c.type_inv.text i)) c.read_rr_body.ensures

pub returns-clause-faulty : goal.returns-clause-faulty
returns-clause-faulty c fault =
    rr_iff c.args.text.now (map_ok (λ lent. lent.now) c.read_rr_body.result) (Err fault) (λ i. omega (arith, c.type_inv.text i)) c.read_rr_body.ensures
