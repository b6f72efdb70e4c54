-- What is kept of the objects over a restart: the data of each assembly, the counter, and the attributes of the
-- application objects. Identity comes from the configuration alone, and so does what peers only read of an object of the
-- standard.
use Rattle.std.specs.Prelude.{ℕ, ◌==◌, ◌&&◌, ◌||◌, not, Bool, List, [], ◌∷◌, ◌++◌, sum, map, filter, if◌then◌else◌}
use Rattle.std.specs.Prelude.{Option, Some, None}
use Rattle.std.specs.List.{flat_map}
use Rattle.std.specs.Option.{option_and_then}
use Rattle.cip_application.specs.declared.kind.AttributeKind.{AttributeKind}
use Rattle.cip_application.specs.declared.kind.AttributeKind.TheVariants.{Fixed}
use Rattle.cip_application.specs.Configuration.{is_standard_class}
use Rattle.cip_application.specs.Values.{is_whole}
use Rattle.cip_application.specs.declared.object.AttributeName.{AttributeName}
use Rattle.cip_bytes.specs.declared.protocol.TheConstants.{ASSEMBLY, COUNTER}
use Rattle.cip_objects.specs.Contents.{Contents, with_value}
use Rattle.cip_objects.specs.Tables.{Shape, AttributeShape, ObjectShape, Shapes, shape_at, object_at, attribute_at}
use Rattle.cip_objects.specs.Tables.{is_counter_class}

abbrev pub name_of : ℕ → ℕ → ℕ → AttributeName
name_of class instance attribute = record { class = class; instance = instance; attribute = attribute }

-- The data of an assembly are its attribute 3.
abbrev pub data_names : List Shape → List AttributeName
data_names assemblies = map (λ s. name_of ASSEMBLY s.instance 3) assemblies

-- The counter's value, limit and additions.
abbrev pub counter_names : Bool → List AttributeName
counter_names has_counter =
    if has_counter then name_of COUNTER 1 1 ∷ name_of COUNTER 1 2 ∷ name_of COUNTER 1 3 ∷ [] else []

-- Whether an attribute of an application object of this class is kept.
abbrev pub is_kept : ℕ → AttributeShape → Bool
is_kept class a = not (is_standard_class class) || a.settable

abbrev pub object_names : ObjectShape → List AttributeName
object_names o = map (λ a. name_of o.class o.instance a.number) (filter (is_kept o.class) o.attributes)

-- The names of what is kept behind the assemblies.
abbrev pub names_behind_assemblies : Shapes → List AttributeName
names_behind_assemblies shapes = counter_names shapes.has_counter ++ flat_map object_names shapes.objects

-- The names of all values that are kept, in the order of the configuration: the assemblies, the counter, and the
-- application objects, each with its kept attributes in the order of their numbers.
abbrev pub kept_names : Shapes → List AttributeName
kept_names shapes = data_names shapes.assemblies ++ names_behind_assemblies shapes

-- The kind of an assembly's data.
abbrev pub kind_of_data : Option Shape → Option AttributeKind
kind_of_data None = None
kind_of_data (Some s) = Some (Fixed (sum s.members) None)

abbrev pub kept_data_kind : Shapes → ℕ → ℕ → Option AttributeKind
kept_data_kind shapes instance attribute =
    if attribute == 3 then kind_of_data (shape_at instance shapes.assemblies) else None

-- The kind of a number of the counter.
abbrev pub kept_number_kind : ℕ → ℕ → Option AttributeKind
kept_number_kind instance attribute =
    if (instance == 1) && ((attribute == 1) || (attribute == 2) || (attribute == 3)) then Some (Fixed 4 None) else None

-- The kind of an attribute of an application object of this class, if it is kept.
abbrev pub kind_if_kept : ℕ → Option AttributeShape → Option AttributeKind
kind_if_kept class None = None
kind_if_kept class (Some a) = if is_kept class a then Some a.kind else None

abbrev pub kept_object_kind : Shapes → ℕ → ℕ → ℕ → Option AttributeKind
kept_object_kind shapes class instance attribute =
    kind_if_kept class
    (option_and_then (λ o. attribute_at attribute o.attributes) (object_at class instance shapes.objects))

-- The kind of a value that is kept. None if no value of this name is kept.
abbrev pub kept_kind : Shapes → ℕ → ℕ → ℕ → Option AttributeKind
kept_kind shapes class instance attribute =
    if class == ASSEMBLY then kept_data_kind shapes instance attribute
    else (if is_counter_class shapes class then kept_number_kind instance attribute
    else kept_object_kind shapes class instance attribute)

-- The contents with these bytes as a value, if they are one of this kind.
abbrev pub with_kept : Contents → ℕ → ℕ → ℕ → List ℕ → Option AttributeKind → Option Contents
with_kept m class instance attribute bytes None = None
with_kept m class instance attribute bytes (Some kind) =
    if is_whole kind bytes then Some (with_value m class instance attribute bytes) else None

-- The contents once a value is as it was kept. None if no value of this name is kept, or if it cannot be these bytes.
unfoldable pub restored : Contents → AttributeName → List ℕ → Option Contents
restored m name bytes =
    with_kept m name.class name.instance name.attribute bytes
    (kept_kind m.shapes name.class name.instance name.attribute)
