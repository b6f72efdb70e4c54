use Rattle.std.proofs.Common.{◌≡◌, drop}
use Rattle.std.specs.List.{list_any}
use Rattle.toml.specs.View.{view}
use Rattle.enip_config.specs.Known.{has_other_keys, keys_of}
use Rattle.enip_config.proofs.known.any_has_other_keys.Given as goal

abbrev pub invariant-loop-value : goal.invariant-loop-value
invariant-loop-value l =
    list_any (λ v. has_other_keys (keys_of l.kind) (view v)) (drop l.value-index l.values) ≡ list_any (λ v. has_other_keys (keys_of l.kind) (view v)) l.values
