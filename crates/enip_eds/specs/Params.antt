-- The section Params: what an EDS says of the members of assemblies and of the attributes of own objects.
use Rattle.std.specs.Prelude.{◌≡◌, ◌+◌, ◌==◌, ℕ, Bool, true, false, if◌then◌else◌, List, [], ◌∷◌, ◌++◌, length, replicate, codes, decimal}
use Rattle.std.specs.Prelude.{Option, Some, None, option_map, Vec}
use Rattle.std.specs.List.{slice_get}
use Rattle.std.specs.String.{string_bytes}
use Rattle.std.specs.declared.alloc.Global.{Global}
use Rattle.cip_values.specs.Texts.{escaped}
use Rattle.cip_values.specs.declared.element.ElementaryType.{ElementaryType}
use Rattle.cip_values.specs.declared.element.ElementaryType.TheVariants as types
use Rattle.cip_application.specs.declared.config.AttributeConfig.{AttributeConfig}
use Rattle.cip_application.specs.declared.config.ObjectConfig.{ObjectConfig}
use Rattle.cip_application.specs.declared.kind.AttributeKind.{AttributeKind}
use Rattle.cip_application.specs.declared.kind.AttributeKind.TheVariants as kinds
use Rattle.cip_objects.specs.declared.config.AssemblyConfig.{AssemblyConfig}
use Rattle.attribute_types.specs.declared.attribute_type.AttributeType.{AttributeType}
use Rattle.attribute_types.specs.declared.attribute_type.AttributeType.TheVariants as attribute_types
use Rattle.enip_eds.specs.declared.param.Param.{Param}
use Rattle.enip_eds.specs.declared.param.Subject.{Subject}
use Rattle.enip_eds.specs.declared.param.Subject.TheVariants as subjects
use Rattle.enip_eds.specs.Texts.{joined, capitals, path, path_size, text_in}
use Rattle.enip_eds.specs.Types.{bit_string, code_of, greatest_of, least_of}
use Rattle.enip_eds.specs.Numbers.{IsBoundText, IsStartText}
use Rattle.enip_eds.specs.Steps.{Written, written, Steps}

-- ---- one Param

-- What a Param is about: a member of an assembly, from 1, or an attribute of an object, whose name may be known.
pub data About : Type 0 where
  Member : (assembly member : ℕ) → About
  Attribute : (class instance attribute : ℕ) (name : Option (List ℕ)) → About

-- A Param. `least` and `greatest` are bits, and `start` is the bytes of the value at the start.
pub record Described : Type 0 where
  pub about : About
  pub element : ElementaryType
  pub size : ℕ
  pub settable : Bool
  pub least : Option ℕ
  pub greatest : Option ℕ
  pub start : List ℕ

abbrev pub about_in : Subject → About
about_in (subjects.Member assembly member) = Member assembly member
about_in (subjects.Attribute class instance attribute name) = Attribute class instance attribute (text_in name)

-- A Param of the code.
abbrev pub described_in : Param → Described
described_in p = record {
  about = about_in p.subject;
  element = p.element;
  size = p.size;
  settable = p.settable;
  least = p.least;
  greatest = p.greatest;
  start = p.start.now;
}

-- The size of the path and the path. A member has none.
abbrev pub path_fields : About → List ℕ
path_fields (Member assembly member) = codes ","
path_fields (Attribute class instance attribute name) =
    decimal (path_size class instance attribute) ++ (codes "," ++ path class instance attribute)

-- An attribute by its numbers.
abbrev pub numbered : ℕ → ℕ → ℕ → List ℕ
numbered class instance attribute =
    joined (codes "\"Class " ∷ decimal class ∷ codes ", instance " ∷ decimal instance ∷ codes ", attribute " ∷ decimal attribute ∷ codes "\"" ∷ [])

-- The name of a Param, in quotes.
abbrev pub name_field : About → List ℕ
name_field (Member assembly member) =
    joined (codes "\"Assembly " ∷ decimal assembly ∷ codes ", member " ∷ decimal member ∷ codes "\"" ∷ [])
name_field (Attribute class instance attribute None) = numbered class instance attribute
name_field (Attribute class instance attribute (Some name)) =
    joined (codes "\"" ∷ escaped true name ∷ codes ", attribute " ∷ decimal attribute ∷ codes "\"" ∷ [])

-- The help of a Param, in quotes.
abbrev pub help_field : About → List ℕ
help_field (Member assembly member) = codes "\"\""
help_field (Attribute class instance attribute name) = numbered class instance attribute

-- The descriptor of a Param: bit 4 says that it is read-only.
abbrev pub descriptor : Bool → List ℕ
descriptor true = codes "0x0000"
descriptor false = codes "0x0010"

-- The heading of the section stands before its first Param.
abbrev pub heading : ℕ → List ℕ
heading number = if number == 1 then codes "\n[Params]\n" else []

-- The first fields of a Param: up to its size. Its flags are a descriptor.
abbrev pub fields_to_size : ℕ → About → List ℕ → ℕ → ℕ → List ℕ
fields_to_size number about flags code size =
    joined (codes "        Param" ∷ decimal number ∷ codes " =\n                0,\n                " ∷ path_fields about
    ∷ codes ",\n                " ∷ flags ∷ codes ",\n                0x" ∷ capitals 2 code ∷ codes ",\n                " ∷ decimal size
    ∷ codes ",\n" ∷ [])

abbrev pub first_fields : ℕ → Described → List ℕ
first_fields number p = fields_to_size number p.about (descriptor p.settable) (code_of p.element) p.size

-- The other fields: its name, no unit, its help, its range, its value at the start, no scaling and no decimal places.
abbrev pub other_fields : Described → List ℕ → List ℕ → List ℕ → List ℕ
other_fields p least greatest start =
    joined (codes "                " ∷ name_field p.about ∷ codes ",\n                \"\",\n                " ∷ help_field p.about
    ∷ codes ",\n                " ∷ least ∷ codes "," ∷ greatest ∷ codes "," ∷ start
    ∷ codes ",\n                ,,,,\n                ,,,,\n                ;\n" ∷ [])

-- A Param was written after the old text.
pub record IsParamAdded (number : ℕ) (p : Described) (old new : List ℕ) : Type 0 where
  pub least : List ℕ
  pub greatest : List ℕ
  pub start : List ℕ
  pub least_is : IsBoundText p.element p.least (least_of p.element) least
  pub greatest_is : IsBoundText p.element p.greatest (greatest_of p.element) greatest
  pub start_is : IsStartText p.element p.start start
  pub text : new ≡ ((old ++ heading number) ++ first_fields number p) ++ other_fields p least greatest start

-- The next Param was written.
pub record IsNextParam (p : Described) (before after : Written) : Type 0 where
  pub next : after.next ≡ before.next + 1
  pub added : IsParamAdded before.next p before.text after.text

-- The next Param was written, or nothing.
abbrev pub IsNextIfAny : Option Described → Written → Written → Type 0
IsNextIfAny None before after = after ≡ before
IsNextIfAny (Some p) before after = IsNextParam p before after

-- ---- the members of assemblies

-- The bytes of a member at the start.
abbrev pub zeros : ℕ → List ℕ
zeros size =
    if size == 1 then replicate 1 0 else (if size == 2 then replicate 2 0
    else (if size == 4 then replicate 4 0 else (if size == 8 then replicate 8 0 else [])))

-- A member of 1, 2, 4 or 8 bytes is a bit string. Its index is from 0.
abbrev pub described_member : AssemblyConfig → ℕ → ℕ → ElementaryType → Described
described_member a index size element = record {
  about = Member a.instance (index + 1);
  element = element;
  size = size;
  settable = a.settable;
  least = None;
  greatest = None;
  start = zeros size;
}

abbrev pub member_step : AssemblyConfig → ℕ → ℕ → Written → Written → Type 0
member_step a index size before after = IsNextIfAny (option_map (described_member a index size) (bit_string size)) before after

abbrev pub assembly_params : ℕ → AssemblyConfig → Written → Written → Type 0
assembly_params index a before after = Steps (member_step a) before a.members.items after

-- ---- the attributes of own objects

abbrev pub least_in : AttributeKind → Option ℕ
least_in (kinds.Fixed size range) = option_map (λ r. r.least) range
least_in (kinds.ShortString room) = None

abbrev pub greatest_in : AttributeKind → Option ℕ
greatest_in (kinds.Fixed size range) = option_map (λ r. r.greatest) range
greatest_in (kinds.ShortString room) = None

abbrev pub described_attribute : ObjectConfig → AttributeConfig → ElementaryType → ℕ → Described
described_attribute o a element size = record {
  about = Attribute o.class o.instance a.number (option_map string_bytes o.name);
  element = element;
  size = size;
  settable = a.settable;
  least = least_in a.kind;
  greatest = greatest_in a.kind;
  start = a.value.items;
}

-- A comment for an attribute that no Param describes.
abbrev pub comment : ObjectConfig → AttributeConfig → List ℕ
comment o a =
    joined (codes "$ No Param: class " ∷ decimal o.class ∷ codes ", instance " ∷ decimal o.instance ∷ codes ", attribute " ∷ decimal a.number
    ∷ codes " is an array.\n" ∷ [])

-- One value of an elementary type is a Param, an array or bytes of any meaning are none.
abbrev pub IsAttributeAdded : ObjectConfig → AttributeConfig → AttributeType → Written → Written → Type 0
IsAttributeAdded o a (attribute_types.One element) before after =
    IsNextParam (described_attribute o a element (length a.value.items)) before after
IsAttributeAdded o a (attribute_types.ShortString room) before after =
    IsNextParam (described_attribute o a types.ShortString (room + 1)) before after
IsAttributeAdded o a (attribute_types.Array element count) before after = after ≡ written before.next (before.text ++ comment o a)
IsAttributeAdded o a (attribute_types.Bytes count) before after = after ≡ written before.next (before.text ++ comment o a)

abbrev pub type_or_bytes : Option AttributeType → AttributeType
type_or_bytes None = attribute_types.Bytes 0
type_or_bytes (Some of_type) = of_type

-- The type of the attribute with an index, from 0.
abbrev pub type_at : List AttributeType → ℕ → AttributeType
type_at types index = type_or_bytes (slice_get types index)

abbrev pub items_or_none : Option (Vec AttributeType Global) → List AttributeType
items_or_none None = []
items_or_none (Some types) = types.items

-- The types of the attributes of the object with an index, from 0.
abbrev pub types_at : List (Vec AttributeType Global) → ℕ → List AttributeType
types_at lists index = items_or_none (slice_get lists index)

abbrev pub attribute_step : ObjectConfig → List AttributeType → ℕ → AttributeConfig → Written → Written → Type 0
attribute_step o types index a before after = IsAttributeAdded o a (type_at types index) before after

-- The TCP/IP Interface and the Ethernet Link have no Param: a tool knows them from the standard.
abbrev pub attributes_if_own : Bool → List AttributeConfig → List AttributeConfig
attributes_if_own standard attributes = if standard then [] else attributes

abbrev pub own_attributes : ObjectConfig → List AttributeConfig
own_attributes o = attributes_if_own o.standard o.attributes.items

abbrev pub object_params : List (Vec AttributeType Global) → ℕ → ObjectConfig → Written → Written → Type 0
object_params lists index o before after = Steps (attribute_step o (types_at lists index)) before (own_attributes o) after
