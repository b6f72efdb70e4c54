use Rattle.std.proofs.Common.{ap, ◌∙◌}
use Rattle.std.specs.List.{list_any}
use Rattle.toml.specs.View.{view}
use Rattle.enip_config.specs.Known.{object_has_other_keys}
use Rattle.enip_config.proofs.KeyLemmas.{array_object_keys}
use Rattle.enip_config.proofs.known.has_other_keys_in_objects.Goals as goal

pub returns-in-Array : goal.returns-in-Array
returns-in-Array c =
    c.any_object_has_other_keys.ensures ∙ ap (list_any (λ v. object_has_other_keys (view v))) c.as_slice.ensures.value ∙ array_object_keys c.args.value.now c.in-Array.values c.in-Array.is
