use Rattle.std.proofs.Common.{map, take}
use Rattle.cip_values.specs.Values.{value_in}
use Rattle.enip_lines.specs.JsonValues.{EachJsonOf}
use Rattle.serde_json.specs.View.{items_view}
use Rattle.enip_lines.proofs.json_value.list_of.Given as goal

abbrev pub invariant-loop-value : goal.invariant-loop-value
invariant-loop-value l = EachJsonOf (map value_in (take l.value-index l.values)) (items_view l.list.items)
