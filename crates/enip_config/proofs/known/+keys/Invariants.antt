use Rattle.std.proofs.Common.{◌≡◌, drop}
use Rattle.std.specs.List.{list_any}
use Rattle.toml.specs.View.{view}
use Rattle.enip_config.specs.Known.{has_key}
use Rattle.enip_config.proofs.known.+keys.Given as goal

abbrev pub invariant-any_has_key-loop-value : goal.invariant-any_has_key-loop-value
invariant-any_has_key-loop-value l = list_any (λ v. has_key (view v)) (drop l.value-index l.values) ≡ list_any (λ v. has_key (view v)) l.values
