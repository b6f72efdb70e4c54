use Rattle.std.proofs.Common.{◌≡◌, drop}
use Rattle.std.specs.List.{list_any}
use Rattle.toml.specs.View.{view}
use Rattle.enip_config.specs.Known.{object_has_other_keys}
use Rattle.enip_config.proofs.known.any_object_has_other_keys.Given as goal

abbrev pub invariant-loop-value : goal.invariant-loop-value
invariant-loop-value l =
    list_any (λ v. object_has_other_keys (view v)) (drop l.value-index l.values) ≡ list_any (λ v. object_has_other_keys (view v)) l.values
