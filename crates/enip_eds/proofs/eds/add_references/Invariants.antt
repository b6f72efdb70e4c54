use Rattle.std.proofs.Common.{take, string_bytes}
use Rattle.enip_eds.specs.Eds.{reference_step}
use Rattle.enip_eds.specs.Steps.{Steps, written}
use Rattle.enip_eds.proofs.eds.add_references.Given as goal

abbrev pub invariant-loop-index : goal.invariant-loop-index
invariant-loop-index l =
    Steps reference_step (written l.first (string_bytes l.fn.text)) (take l.index l.members) (written l.number (string_bytes l.text))
