use Rattle.std.proofs.Common.{take}
use Rattle.std.specs.Fmt.{HasWritten, IsPlainFormatter}
use Rattle.std.specs.List.{flat_map}
use Rattle.enip_eds.specs.Profile.{object_line}
use Rattle.enip_eds.proofs.profile.ObjectLinesDisplay.fmt.Given as goal

abbrev pub invariant-loop-object : goal.invariant-loop-object
invariant-loop-object g l =
    IsPlainFormatter l.initial.f → HasWritten g.W.Write.write_str_gives l.initial.f (flat_map object_line (take l.object-index l.object-items)) l.f
