use Rattle.std.proofs.Common.{map, rules, arith}
use Rattle.cip_values.specs.Values.{value_in}
use Rattle.cip_layouts.proofs.ReadLemmas.{read_more, all_read}
use Rattle.cip_layouts.proofs.reading.read_fields.Goals as goal

pub loop-index-preserved : goal.loop-index-preserved
loop-index-preserved c =
    read_more c.args.fields.now c.args.bytes.now c.loop-index.index c.index-fields-index.result (map value_in c.loop-index.values.items)
    (map value_in c.read_field.new.values.items) c.loop-index.rest.now c.in-Ok.behind.now c.loop-index-test.true c.index-fields-index.is
    c.loop-index.invariant c.in-Ok.ensures.read

pub returns-clause-read : goal.returns-clause-read
returns-clause-read c =
    all_read c.args.fields.now c.args.bytes.now c.loop-index.index (map value_in c.loop-index.values.items) c.loop-index.rest.now
    (omega arith) (search rules) c.loop-index.invariant
