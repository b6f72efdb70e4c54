use Rattle.std.proofs.Common.{◌-◌}
use Rattle.std.specs.Io.KnownBytes.{Appends}
use Rattle.enip_replay.specs.Replay.{assemblies_printed}
use Rattle.enip_replay.proofs.replaying.print_assemblies.Given as goal

abbrev pub invariant-loop-instance : goal.invariant-loop-instance
invariant-loop-instance g l =
    Appends (g.W.Write.contents l.initial.output) (g.W.Write.contents l.output) (assemblies_printed l.objects (l.instance - 1))
