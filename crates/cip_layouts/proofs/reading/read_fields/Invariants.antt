use Rattle.std.proofs.Common.{map}
use Rattle.cip_values.specs.Values.{value_in}
use Rattle.cip_layouts.proofs.ReadLemmas.{ReadSoFar}
use Rattle.cip_layouts.proofs.reading.read_fields.Given as goal

abbrev pub invariant-loop-index : goal.invariant-loop-index
invariant-loop-index l = ReadSoFar l.fields l.bytes l.index (map value_in l.values.items) l.rest
