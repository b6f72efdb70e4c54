use Rattle.std.proofs.Common.{◌≡◌, map, take}
use Rattle.cip_objects.specs.Configuration.{assembly_of_config}
use Rattle.cip_objects.proofs.objects.assemblies_of.Given as goal

abbrev pub invariant-loop-config : goal.invariant-loop-config
invariant-loop-config l = l.assemblies.items ≡ map assembly_of_config (take l.config-index l.configs)
