use Rattle.std.proofs.Common.{ap, ◌∙◌}
use Rattle.std.specs.List.{list_any}
use Rattle.toml.specs.View.{view}
use Rattle.enip_config.specs.Known.{keys_of, has_other_keys}
use Rattle.enip_config.proofs.KeyLemmas.{array_other_keys}
use Rattle.enip_config.proofs.known.has_other_keys_within.Goals as goal

pub returns-in-Array : goal.returns-in-Array
returns-in-Array c =
    let known = keys_of c.args.kind in
    c.any_has_other_keys.ensures ∙ ap (list_any (λ v. has_other_keys known (view v))) c.as_slice.ensures.value ∙ array_other_keys known c.args.value.now c.in-Array.values c.in-Array.is
