use Rattle.std.proofs.Common.{◌≡◌, drop}
use Rattle.config_file.specs.Owner.{asked_number}
use Rattle.config_file.proofs.owner.asked_number.Given as goal

abbrev pub invariant-loop-service : goal.invariant-loop-service
invariant-loop-service l = asked_number (drop l.service-index l.services) ≡ asked_number l.services
