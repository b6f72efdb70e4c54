use Rattle.std.proofs.Common.{List, option_map, sym, ap, ◌∙◌}
use Rattle.std.specs.List.{list_any}
use Rattle.cip_layouts.specs.Layouts.{Field, fields_of, field_in, is_same, name_of}
use Rattle.cip_layouts.specs.declared.field.Field.{Field as FieldInCode}
use Rattle.cip_layouts.proofs.ParseLemmas.{any_map}
use Rattle.cip_layouts.proofs.layout.Layout.has_name.Goals as goal

pub returns : goal.returns
returns c =
    c.any_named.ensures
    ∙ ap (λ (fields : List FieldInCode). list_any (λ (field : FieldInCode). is_same (option_map name_of field.name) (name_of c.args.name)) fields)
    c.fields.ensures.fields
    ∙ sym (any_map (λ (field : Field). is_same field.name (name_of c.args.name)) field_in (fields_of c.args.self.now))
