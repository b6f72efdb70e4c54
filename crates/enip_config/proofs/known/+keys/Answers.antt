use Rattle.std.proofs.Common.{ap, ◌∙◌}
use Rattle.std.specs.List.{list_any}
use Rattle.toml.specs.View.{view}
use Rattle.enip_config.specs.Known.{has_key}
use Rattle.enip_config.proofs.KeyLemmas.{array_key, table_key, some_member}
use Rattle.enip_config.proofs.known.+keys.Goals as goal

pub has_key-returns-in-Table : goal.has_key-returns-in-Table
has_key-returns-in-Table n c =
    some_member c.is_empty.result c.in-Table.table.entries c.is_empty.ensures ∙ table_key c.args.value.now c.in-Table.table c.in-Table.is

pub has_key-returns-in-Array : goal.has_key-returns-in-Array
has_key-returns-in-Array n c =
    c.any_has_key.ensures ∙ ap (list_any (λ v. has_key (view v))) c.as_slice.ensures.value ∙ array_key c.args.value.now c.in-Array.values c.in-Array.is
