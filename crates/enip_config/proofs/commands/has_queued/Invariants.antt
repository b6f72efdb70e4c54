use Rattle.std.proofs.Common.{◌≡◌, drop}
use Rattle.enip_config.specs.Commands.{has_queued}
use Rattle.enip_config.proofs.commands.has_queued.Given as goal

abbrev pub invariant-loop-object : goal.invariant-loop-object
invariant-loop-object l = has_queued (drop l.object-index l.objects) ≡ has_queued l.objects
