use Rattle.std.proofs.Common.{map}
use Rattle.cip_values.specs.Values.{value_in}
use Rattle.cip_values.proofs.OneSpelling.{list_values, one_value}
use Rattle.cip_values.proofs.values.read_values.Goals as goal

pub returns-then-value_type-clause-read : goal.returns-then-value_type-clause-read
returns-then-value_type-clause-read c =
    list_values (λ values. map value_in values.items) c.args.value_type c.args.bytes.now c.read_list.result c.if-value_type.true
    (rw c.form-form.ensures.form at c.read_list.ensures.read)

pub returns-else-value_type-clause-read : goal.returns-else-value_type-clause-read
returns-else-value_type-clause-read c =
    one_value (λ values. map value_in values.items) c.args.value_type c.args.bytes.now c.read_one.result
    (rw c.form-form.ensures.form at c.read_one.ensures.read) c.read_one.ensures.one
