use Rattle.std.proofs.Common.{take, string_bytes}
use Rattle.enip_eds.specs.Params.{object_params}
use Rattle.enip_eds.specs.Steps.{Steps, written}
use Rattle.enip_eds.proofs.params.add_object_params.Given as goal

abbrev pub invariant-loop-index : goal.invariant-loop-index
invariant-loop-index l =
    Steps (object_params l.types) (written l.first (string_bytes l.fn.text)) (take l.index l.objects) (written l.number (string_bytes l.text))
