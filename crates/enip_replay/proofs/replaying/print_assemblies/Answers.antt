use Rattle.std.proofs.Common.{List, ℕ, subst}
use Rattle.std.proofs.KnownBytes.{Appends-nil, Appends-trans}
use Rattle.std.specs.Io.KnownBytes.{Appends}
use Rattle.enip_replay.proofs.ReplayLemmas.{assemblies_printed-more, assemblies_printed-none}
use Rattle.enip_replay.proofs.replaying.print_assemblies.Goals as goal

pub loop-instance-init : goal.loop-instance-init
loop-instance-init g c =
    let contents = g.W.Write.contents c.args.output.now in
    rw (assemblies_printed-none c.args.objects.now) (Appends-nil contents)

pub loop-instance-preserved : goal.loop-instance-preserved
loop-instance-preserved g c =
    let before = g.W.Write.contents c.args.output.now in
    let between = g.W.Write.contents c.loop-instance.output in
    let after = g.W.Write.contents c.print_assembly.new.output in
    subst (λ (printed : List ℕ). Appends before after printed) (assemblies_printed-more c.args.objects.now c.loop-instance.instance c.loop-instance.auto.instance)
    (Appends-trans before between after _ _ c.loop-instance.invariant c.in_ok-print_assembly.ensures.printed)
