-- Where the values of a device come from. With each value its origin is kept: how the configuration described it at the last
-- start, and which value it had there. A value that is as it was configured then follows the configuration. Any other one was
-- written, and goes on.
use Rattle.std.specs.Prelude.{ℕ, ◌+◌, ◌/◌, ◌%◌, ◌^◌, ◌==◌, ◌&&◌, ◌||◌, Bool, is_ok, if◌then◌else◌}
use Rattle.std.specs.Prelude.{List, [], ◌∷◌, ◌++◌, length, take, drop, bytes_eq, Option, Some, None, option_map}
use Rattle.std.specs.Option.{option_and_then}
use Rattle.cip_application.specs.declared.config.AttributeConfig.{AttributeConfig}
use Rattle.cip_application.specs.declared.config.ObjectConfig.{ObjectConfig}
use Rattle.cip_application.specs.declared.kind.AttributeKind.{AttributeKind}
use Rattle.cip_application.specs.declared.kind.AttributeKind.TheVariants.{Fixed, ShortString}
use Rattle.cip_application.specs.declared.number.NumberRange.{NumberRange}
use Rattle.cip_application.specs.declared.number.NumberType.{NumberType}
use Rattle.cip_application.specs.declared.number.NumberType.TheVariants.{Usint, Uint, Udint, Ulint, Sint, Int, Dint, Lint, Real, Lreal}
use Rattle.cip_application.specs.Values.{check_value, is_whole}
use Rattle.cip_bytes.specs.Numbers.{le}
use Rattle.cip_objects.specs.declared.config.Config.{Config}
use Rattle.enip_keep.specs.Kept.{Kept}
use Rattle.kept_adapter.specs.declared.origins.ValueState.{ValueState}
use Rattle.kept_adapter.specs.declared.origins.ValueState.TheVariants.{Missing, Configured, Written, Unfit}

-- ---- what is configured

-- The object of this class with this instance number: the first, if there are two.
abbrev pub object_in : ℕ → ℕ → List ObjectConfig → Option ObjectConfig
object_in class instance [] = None
object_in class instance (o ∷ objects) =
    if (o.class == class) && (o.instance == instance) then Some o else object_in class instance objects

abbrev pub attribute_in : ℕ → List AttributeConfig → Option AttributeConfig
attribute_in number [] = None
attribute_in number (a ∷ attributes) = if a.number == number then Some a else attribute_in number attributes

-- The kind of the attribute with this number, of an object.
abbrev pub kind_of : ℕ → ObjectConfig → Option AttributeKind
kind_of number o = option_map (λ a. a.kind) (attribute_in number o.attributes.items)

-- The kind of a value of an application object, by its key. None for the data of an assembly and for the counter.
abbrev pub kind_under : Config → ℕ → Option AttributeKind
kind_under config key =
    option_and_then (kind_of (key % 2 ^ 16)) (object_in (key / 2 ^ 32) (key / 2 ^ 16 % 2 ^ 16) config.objects.items)

-- ---- an origin

abbrev pub number_code : NumberType → ℕ
number_code Usint = 1
number_code Uint = 2
number_code Udint = 3
number_code Ulint = 4
number_code Sint = 5
number_code Int = 6
number_code Dint = 7
number_code Lint = 8
number_code Real = 9
number_code Lreal = 10

-- How a kind is described: the type of the numbers in its range, the bytes of a value, and the ends of the range. Without
-- a range the type is 0. That of a text is 11, and the size is that of its room.
abbrev pub described_range : ℕ → Option NumberRange → List ℕ
described_range size None = 0 ∷ le 2 size ++ (le 8 0 ++ le 8 0)
described_range size (Some r) = number_code r.number ∷ le 2 size ++ (le 8 r.least ++ le 8 r.greatest)

abbrev pub described_kind : AttributeKind → List ℕ
described_kind (Fixed size range) = described_range size range
described_kind (ShortString room) = 11 ∷ le 2 room ++ (le 8 0 ++ le 8 0)

-- The data of an assembly and the numbers of the counter have no description.
abbrev pub description : Option AttributeKind → List ℕ
description None = []
description (Some kind) = described_kind kind

-- What is kept of an origin: the size of the description, the description, and the configured value.
abbrev pub origin_bytes : List ℕ → List ℕ → List ℕ
origin_bytes described configured = length described ∷ described ++ configured

abbrev pub description_in : List ℕ → List ℕ
description_in [] = []
description_in (size ∷ rest) = take size rest

abbrev pub configured_in : List ℕ → List ℕ
configured_in [] = []
configured_in (size ∷ rest) = drop size rest

-- ---- what a start makes of a value

-- The bytes can be this value. Those of an assembly or of the counter have as many as are configured.
abbrev pub has_size : Option AttributeKind → List ℕ → List ℕ → Bool
has_size None configured bytes = length bytes == length configured
has_size (Some kind) configured bytes = is_whole kind bytes

-- A peer could set them: they are in the range, too.
abbrev pub is_allowed : Option AttributeKind → List ℕ → List ℕ → Bool
is_allowed None configured bytes = length bytes == length configured
is_allowed (Some kind) configured bytes = is_ok (check_value kind bytes)

-- The value is allowed, or the configuration describes it as before. For an owner may write beyond a range.
abbrev pub goes_on : Option AttributeKind → List ℕ → List ℕ → List ℕ → Bool
goes_on kind configured bytes origin =
    is_allowed kind configured bytes
    || (bytes_eq (description_in origin) (description kind) && has_size kind configured bytes)

abbrev pub written_if : Bool → ValueState
written_if fits = if fits then Written else Unfit

abbrev pub state_by : Option AttributeKind → List ℕ → List ℕ → Option (List ℕ) → ValueState
state_by kind configured bytes None = written_if (has_size kind configured bytes)
state_by kind configured bytes (Some origin) =
    if bytes_eq (configured_in origin) bytes then Configured else written_if (goes_on kind configured bytes origin)

-- What a start makes of a value of this kind with this configured value, if these bytes of it are kept, and this origin.
-- Without an origin it counts as written under the present configuration.
abbrev pub value_state : Option AttributeKind → List ℕ → Option (List ℕ) → Option (List ℕ) → ValueState
value_state kind configured None origin = Missing
value_state kind configured (Some bytes) origin = state_by kind configured bytes origin

-- What is kept under a key.
abbrev pub kept_at : ℕ → Kept → Option (List ℕ)
kept_at key [] = None
kept_at key (entry ∷ entries) = if entry.0 == key then Some entry.1 else kept_at key entries
