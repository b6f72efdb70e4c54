use Rattle.std.proofs.Common.{◌≡◌, map, take}
use Rattle.cip_application.specs.Configuration.{object_of_config}
use Rattle.cip_application.proofs.application.objects_of.Given as goal

abbrev pub invariant-loop-config : goal.invariant-loop-config
invariant-loop-config l = l.objects.items ≡ map object_of_config (take l.config-index l.configs)
