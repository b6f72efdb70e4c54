use Rattle.std.proofs.Common.{ℕ, List, Ok, Err, arith}
use Rattle.cip_bytes.specs.Reading.{map_ok}
use Rattle.enip_wire.proofs.BodyLemmas.{unit_iff}
use Rattle.enip_wire.proofs.body.unit_body.Goals as goal

pub returns-clause-spelled : goal.returns-clause-spelled
returns-clause-spelled c id bytes =
    unit_iff c.args.text.now (map_ok {B = ℕ × List ℕ} (λ found. (found.0, found.1.now)) c.read_unit_body.result) (Ok (id, bytes))
    (λ i. omega (arith, c.type_inv.text i)) c.read_unit_body.ensures

pub returns-clause-faulty : goal.returns-clause-faulty
returns-clause-faulty c fault =
    unit_iff c.args.text.now (map_ok {B = ℕ × List ℕ} (λ found. (found.0, found.1.now)) c.read_unit_body.result) (Err fault)
    (λ i. omega (arith, c.type_inv.text i)) c.read_unit_body.ensures
