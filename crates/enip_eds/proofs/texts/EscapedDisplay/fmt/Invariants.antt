use Rattle.std.proofs.Common.{take, true}
use Rattle.std.specs.Fmt.{HasWritten, IsPlainFormatter}
use Rattle.cip_values.specs.Texts.{escaped}
use Rattle.enip_eds.proofs.texts.EscapedDisplay.fmt.Given as goal

abbrev pub invariant-loop-byte : goal.invariant-loop-byte
invariant-loop-byte g l =
    IsPlainFormatter l.initial.f → HasWritten g.W.Write.write_str_gives l.initial.f (escaped true (take l.byte-index l.byte-items)) l.f
