-- What of the application objects is kept over a restart: each attribute, but of an object of the standard only what
-- peers can set. What they only read there is as the configuration has it.
use Rattle.std.specs.Prelude.{ℕ, Bool, false, not, ◌||◌, List, Option, Some, None, option_map, unwrap_or, map, filter}
use Rattle.std.specs.List.{flat_map}
use Rattle.cip_application.specs.declared.object.AttributeName.{AttributeName}
use Rattle.cip_application.specs.Attributes.{AttributeValues, attribute_at}
use Rattle.cip_application.specs.Configuration.{is_standard_class}
use Rattle.cip_application.specs.Objects.{ObjectValues, object_in, position_of}

-- Whether an attribute of an object of this class is kept.
abbrev pub is_kept : ℕ → AttributeValues → Bool
is_kept class a = not (is_standard_class class) || a.settable

-- The same, of an attribute that is looked for. One that does not exist is not kept.
abbrev pub is_found_kept : ℕ → Option AttributeValues → Bool
is_found_kept class None = false
is_found_kept class (Some a) = is_kept class a

-- Whether the attribute of this name is kept.
abbrev pub is_kept_in : ObjectValues → ℕ → Bool
is_kept_in o number = is_found_kept o.class (attribute_at number o.attributes)

abbrev pub is_kept_at : List ObjectValues → ℕ → ℕ → ℕ → Bool
is_kept_at objects class instance number =
    unwrap_or (option_map (λ k. is_kept_in (object_in objects k) number) (position_of class instance objects)) false

-- The names of the kept attributes of an object, in the order of their numbers.
abbrev pub kept_names_in : ObjectValues → List AttributeName
kept_names_in o =
    map (λ a. record { class = o.class; instance = o.instance; attribute = a.number })
    (filter (is_kept o.class) o.attributes)

-- The names of all kept attributes, object by object.
abbrev pub kept_names_of : List ObjectValues → List AttributeName
kept_names_of objects = flat_map kept_names_in objects
