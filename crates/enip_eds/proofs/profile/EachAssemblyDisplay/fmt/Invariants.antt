use Rattle.std.proofs.Common.{take}
use Rattle.std.specs.Fmt.{HasWritten, IsPlainFormatter}
use Rattle.std.specs.List.{flat_map}
use Rattle.enip_eds.specs.Profile.{assembly_line}
use Rattle.enip_eds.proofs.profile.EachAssemblyDisplay.fmt.Given as goal

abbrev pub invariant-loop-assembly : goal.invariant-loop-assembly
invariant-loop-assembly g l =
    IsPlainFormatter l.initial.f → HasWritten g.W.Write.write_str_gives l.initial.f (flat_map assembly_line (take l.assembly-index l.assembly-items)) l.f
