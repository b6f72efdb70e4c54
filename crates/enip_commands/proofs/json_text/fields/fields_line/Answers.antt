use Rattle.std.proofs.Common.{◌≤◌, map, arith}
use Rattle.serde_json.specs.Read.{max_depth}
use Rattle.serde_json.specs.Data.{depth}
use Rattle.serde_json.specs.View.{view}
use Rattle.cip_values.specs.Values.{value_in}
use Rattle.enip_commands.proofs.LayoutJsonLemmas.{fields_nest, fields_line_from}
use Rattle.enip_commands.proofs.json_text.fields.fields_line.Goals as goal

pub returns : goal.returns
returns c =
    let shown = c.in_ok-fields_object.ensures in
    let nests = fields_nest c.args.bytes.now c.args.layout.now (map value_in c.args.values.now) (view c.in_ok-fields_object.field-0) shown in
    let flat : depth (view c.in_ok-fields_object.field-0) ≤ max_depth = omega (arith, nests) in
    fields_line_from (view c.in_ok-fields_object.field-0) c.args.bytes.now c.args.layout.now (map value_in c.args.values.now) c.to_string.result
    shown flat c.to_string.ensures.reads_back c.to_string.ensures.compact
