-- Worked examples: which requests are a Reset, and of which type (Volume 1, Identity object).
use Rattle.std.specs.Prelude.{◌≡◌, ℕ, List, [], ◌∷◌, Some, None, refl}
use Rattle.cip_message.specs.PathReading.{path_of, class_of, instance_of, attribute_of, member_of, whole_of, segment_of}
use Rattle.cip_message.specs.Request.{request_of}
use Rattle.cip_owner.specs.declared.reset.ResetType.TheVariants.{PowerCycle, FirstValues}
use Rattle.cip_owner.specs.Reset.{reset_data, reset_type}

-- Service 0x05 to class 1, instance 1.
abbrev pub reset : List ℕ → List ℕ
reset content = 0x05 ∷ 2 ∷ 0x20 ∷ 0x01 ∷ 0x24 ∷ 0x01 ∷ content

pub no_data : reset_data (reset []) ≡ Some []
unfolding reset_data request_of path_of class_of instance_of attribute_of member_of whole_of segment_of
no_data = refl

pub one_byte : reset_data (reset (1 ∷ [])) ≡ Some (1 ∷ [])
unfolding reset_data request_of path_of class_of instance_of attribute_of member_of whole_of segment_of
one_byte = refl

-- Another service, class or instance, and a path that goes past the end.
pub another_service : reset_data (0x06 ∷ 2 ∷ 0x20 ∷ 0x01 ∷ 0x24 ∷ 0x01 ∷ []) ≡ None
unfolding reset_data request_of path_of class_of instance_of attribute_of member_of whole_of segment_of
another_service = refl

pub another_class : reset_data (0x05 ∷ 2 ∷ 0x20 ∷ 0x04 ∷ 0x24 ∷ 0x01 ∷ []) ≡ None
unfolding reset_data request_of path_of class_of instance_of attribute_of member_of whole_of segment_of
another_class = refl

pub the_class_itself : reset_data (0x05 ∷ 2 ∷ 0x20 ∷ 0x01 ∷ 0x24 ∷ 0x00 ∷ []) ≡ None
unfolding reset_data request_of path_of class_of instance_of attribute_of member_of whole_of segment_of
the_class_itself = refl

pub cut_off : reset_data (0x05 ∷ 2 ∷ 0x20 ∷ 0x01 ∷ 0x24 ∷ []) ≡ None
unfolding reset_data request_of path_of class_of instance_of attribute_of member_of whole_of segment_of
cut_off = refl

-- No data are type 0. There are no other types, and the type is one byte.
pub type_of_none : reset_type [] ≡ Some PowerCycle
type_of_none = refl

pub type_0 : reset_type (0 ∷ []) ≡ Some PowerCycle
type_0 = refl

pub type_1 : reset_type (1 ∷ []) ≡ Some FirstValues
type_1 = refl

pub type_2 : reset_type (2 ∷ []) ≡ None
type_2 = refl

pub type_255 : reset_type (255 ∷ []) ≡ None
type_255 = refl

pub two_bytes : reset_type (1 ∷ 0 ∷ []) ≡ None
two_bytes = refl
