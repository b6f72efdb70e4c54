use Rattle.std.proofs.Common.{◌≤◌, map, arith}
use Rattle.serde_json.specs.Read.{max_depth}
use Rattle.serde_json.specs.Data.{depth}
use Rattle.serde_json.specs.View.{view}
use Rattle.cip_values.specs.Values.{value_in}
use Rattle.enip_commands.proofs.JsonLemmas.{values_nest, values_line_from}
use Rattle.enip_commands.proofs.json_text.reply.values_line.Goals as goal

pub returns : goal.returns
returns c =
    let rendered = c.in_ok-values_object.ensures in
    let flat : depth (view c.in_ok-values_object.field-0) ≤ max_depth =
    rw (values_nest c.args.bytes.now c.args.value_type (map value_in c.args.values.now) (view c.in_ok-values_object.field-0) rendered) (omega arith) in
    values_line_from (view c.in_ok-values_object.field-0) c.args.bytes.now c.args.value_type (map value_in c.args.values.now) c.to_string.result
    rendered flat c.to_string.ensures.reads_back c.to_string.ensures.compact
