use Rattle.std.proofs.Common.{take, map}
use Rattle.enip_owner.specs.Requests.{given_in}
use Rattle.enip_owner.specs.Values.{EachIsBytes}
use Rattle.enip_owner.proofs.written_values.values_as_bytes.Given as goal

abbrev pub invariant-loop-value : goal.invariant-loop-value
invariant-loop-value l = EachIsBytes l.value_type.element (map given_in (take l.value-index l.values)) l.bytes.items
