-- Worked examples of Set_Attribute_List: how its data are read, and what it sets.
use Rattle.std.specs.Prelude.{◌≡◌, ℕ, List, [], ◌∷◌, Some, None, true, false, Ok, Err, refl}
use Rattle.cip_application.specs.declared.kind.AttributeKind.TheVariants.{Fixed, ShortString}
use Rattle.cip_objects.specs.declared.service.Service.TheVariants.{GetAttributesAll, SetAttributeList}
use Rattle.cip_objects.specs.declared.status.Refusal.TheVariants.{NotEnoughData, TooMuchData, AttributeNotSupported}
use Rattle.cip_objects.specs.ChangesRun.{sets_in}
use Rattle.cip_objects.specs.Service.{service_in}
use Rattle.cip_objects.specs.SetLists.{Setting, first_setting, settings_of}
use Rattle.cip_objects.specs.Tables.{AttributeShape, ObjectShape, Shape, Shapes, value_kind, services_of_assembly}
use Rattle.cip_objects.specs.Tables.{services_of_object}

-- Assembly 100 with 3 bytes of data. Instance 1 of class 768 with a UINT that can be set, a text of up to 8 bytes and a
-- UINT that cannot be set.
abbrev pub outputs : Shape
outputs = record { instance = 100; settable = true; members = 1 ∷ 2 ∷ []; lists = true }

abbrev pub speed : AttributeShape
speed = record { number = 1; kind = Fixed 2 None; settable = true; checked = false }

abbrev pub label : AttributeShape
label = record { number = 2; kind = ShortString 8; settable = true; checked = false }

abbrev pub position : AttributeShape
position = record { number = 3; kind = Fixed 2 None; settable = false; checked = false }

abbrev pub conveyor : ObjectShape
conveyor = record { class = 768; instance = 1; attributes = speed ∷ label ∷ position ∷ []; services = []; lists = true }

abbrev pub line : Shapes
line = record { assemblies = outputs ∷ []; has_counter = true; objects = conveyor ∷ [] }

abbrev pub to : ℕ → List ℕ → Setting
to attribute value = record { attribute = attribute; value = value }

-- The size of a value is that of its kind: two bytes, and a length and so much text.
pub two_of_an_object : settings_of line 768 1 2 (1 ∷ 0 ∷ 0xe8 ∷ 0x03 ∷ 2 ∷ 0 ∷ 2 ∷ 0x4f ∷ 0x4b ∷ [])
    ≡ Ok (to 1 (0xe8 ∷ 0x03 ∷ []) ∷ to 2 (2 ∷ 0x4f ∷ 0x4b ∷ []) ∷ [])
unfolding first_setting value_kind
two_of_an_object = refl

-- The data of the assembly, and their size. That an attribute cannot be set is found when it is set.
pub two_of_an_assembly : settings_of line 4 100 2 (3 ∷ 0 ∷ 0xaa ∷ 0xbb ∷ 0xcc ∷ 4 ∷ 0 ∷ 3 ∷ 0 ∷ [])
    ≡ Ok (to 3 (0xaa ∷ 0xbb ∷ 0xcc ∷ []) ∷ to 4 (3 ∷ 0 ∷ []) ∷ [])
unfolding first_setting value_kind
two_of_an_assembly = refl

pub none_at_all : settings_of line 4 100 0 [] ≡ Ok []
none_at_all = refl

-- A list that ends within a number, within a value, or before the last.
pub half_a_number : settings_of line 768 1 1 (1 ∷ []) ≡ Err NotEnoughData
unfolding first_setting value_kind
half_a_number = refl

pub half_a_value : settings_of line 768 1 1 (1 ∷ 0 ∷ 0xe8 ∷ []) ≡ Err NotEnoughData
unfolding first_setting value_kind
half_a_value = refl

pub half_a_text : settings_of line 768 1 1 (2 ∷ 0 ∷ 3 ∷ 0x4f ∷ 0x4b ∷ []) ≡ Err NotEnoughData
unfolding first_setting value_kind
half_a_text = refl

pub no_text : settings_of line 768 1 1 (2 ∷ 0 ∷ []) ≡ Err NotEnoughData
unfolding first_setting value_kind
no_text = refl

pub one_too_few : settings_of line 768 1 2 (1 ∷ 0 ∷ 0xe8 ∷ 0x03 ∷ []) ≡ Err NotEnoughData
unfolding first_setting value_kind
one_too_few = refl

-- A byte behind the last.
pub one_too_many : settings_of line 768 1 1 (1 ∷ 0 ∷ 0xe8 ∷ 0x03 ∷ 2 ∷ []) ≡ Err TooMuchData
unfolding first_setting value_kind
one_too_many = refl

pub more_than_none : settings_of line 768 1 0 (1 ∷ []) ≡ Err TooMuchData
more_than_none = refl

-- An attribute that the object does not have. What comes first is reported.
pub unknown_attribute : settings_of line 768 1 2 (9 ∷ 0 ∷ 1 ∷ []) ≡ Err AttributeNotSupported
unfolding first_setting value_kind
unknown_attribute = refl

pub unknown_in_an_assembly : settings_of line 4 100 1 (2 ∷ 0 ∷ 1 ∷ 0 ∷ []) ≡ Err AttributeNotSupported
unfolding first_setting value_kind
unknown_in_an_assembly = refl

pub short_before_unknown : settings_of line 768 1 2 (1 ∷ 0 ∷ 0xe8 ∷ []) ≡ Err NotEnoughData
unfolding first_setting value_kind
short_before_unknown = refl

-- What `lists` adds to the services.
pub assembly_sets_a_list : service_in 0x04 (services_of_assembly outputs) ≡ Some SetAttributeList
assembly_sets_a_list = refl

pub assembly_reads_all : service_in 0x01 (services_of_assembly outputs) ≡ Some GetAttributesAll
assembly_reads_all = refl

pub assembly_without_lists : service_in 0x04 (services_of_assembly (record outputs { lists = false })) ≡ None
assembly_without_lists = refl

pub assembly_without_all : service_in 0x01 (services_of_assembly (record outputs { lists = false })) ≡ None
assembly_without_all = refl

pub object_sets_a_list : service_in 0x04 (services_of_object conveyor) ≡ Some SetAttributeList
object_sets_a_list = refl

pub object_without_lists : service_in 0x04 (services_of_object (record conveyor { lists = false })) ≡ None
object_without_lists = refl

-- A list that sets attribute 1 twice and attribute 2 once. The second set of 1 is refused with 0x09.
pub one_of_two_counts :
    sets_in 1 (to 1 (5 ∷ 0 ∷ []) ∷ to 2 (0 ∷ []) ∷ to 1 (9 ∷ 9 ∷ []) ∷ []) (1 ∷ 0 ∷ 2 ∷ 0 ∷ 1 ∷ 9 ∷ []) ≡ 1
one_of_two_counts = refl
