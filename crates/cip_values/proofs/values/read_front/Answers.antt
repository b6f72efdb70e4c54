use Rattle.std.proofs.Common.{rules, arith, map}
use Rattle.cip_values.specs.Types.{form_of}
use Rattle.cip_values.specs.Values.{value_in}
use Rattle.cip_values.proofs.OneSpelling.{front_fault}
use Rattle.cip_values.proofs.values.read_front.Goals as goal

pub returns-in-Err-clause-refused : goal.returns-in-Err-clause-refused
returns-in-Err-clause-refused c =
    front_fault (form_of c.args.element) c.args.count c.args.bytes.now (map value_in c.loop-index.values.items) c.loop-index.rest.now
    c.in-Err.fault (rw c.form-form.ensures.form at c.loop-index.invariant.begins) (omega (arith, c.loop-index.invariant.counted))
    (rw c.form-form.ensures.form at c.in-Err.ensures.refused)
