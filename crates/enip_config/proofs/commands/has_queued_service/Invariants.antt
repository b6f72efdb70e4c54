use Rattle.std.proofs.Common.{◌≡◌, drop}
use Rattle.std.specs.List.{list_any}
use Rattle.enip_config.specs.Commands.{is_queued}
use Rattle.enip_config.proofs.commands.has_queued_service.Given as goal

abbrev pub invariant-loop-service : goal.invariant-loop-service
invariant-loop-service l = list_any is_queued (drop l.service-index l.services) ≡ list_any is_queued l.services
