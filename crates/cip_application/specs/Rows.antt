-- Worked examples: each order of numbers at its limits, the sizes of a SHORT_STRING, and the order of attributes.
use Rattle.std.specs.Prelude.{◌≡◌, ℕ, Bool, [], ◌∷◌, Some, None, true, false, Ok, Err, refl}
use Rattle.cip_application.specs.declared.attribute.SetFault.TheVariants.{NotEnoughData, TooMuchData}
use Rattle.cip_application.specs.declared.attribute.SetFault.TheVariants.{InvalidAttributeValue, AttributeNotSettable}
use Rattle.cip_application.specs.declared.attribute.SetFault.TheVariants.{AttributeNotSupported}
use Rattle.cip_application.specs.declared.config.ObjectConfig.{ObjectConfig}
use Rattle.cip_application.specs.declared.config.ServiceConfig.{ServiceConfig}
use Rattle.cip_application.specs.declared.config.ServiceKind.TheVariants as kinds
use Rattle.cip_application.specs.declared.kind.AttributeKind.{AttributeKind}
use Rattle.cip_application.specs.declared.kind.AttributeKind.TheVariants.{Fixed, ShortString}
use Rattle.cip_application.specs.declared.number.NumberRange.{NumberRange}
use Rattle.cip_application.specs.declared.number.NumberType.{NumberType}
use Rattle.cip_application.specs.declared.number.NumberType.TheVariants.{Uint, Sint, Int, Lint, Real, Lreal}
use Rattle.cip_application.specs.Attributes.{AttributeValues, check_before_asking, in_order}
use Rattle.cip_application.specs.MessageRouter.{classes_of, object_list}
use Rattle.cip_application.specs.Configuration.{is_taken_class, is_invalid_object, is_invalid_name, is_invalid_kind, is_invalid_service}
use Rattle.cip_application.specs.Numbers.{is_at_most, is_within, are_within, numbers_of}
use Rattle.cip_application.specs.Objects.{ObjectValues, object_set, object_write, objects_set, objects_approved}
use Rattle.cip_application.specs.Objects.{position_of, class_of}
use Rattle.cip_application.specs.Standard.{address_bytes, string_value, timeout}
use Rattle.cip_application.specs.Values.{check_value, written_value}

abbrev pub range : NumberType → ℕ → ℕ → NumberRange
range number least greatest = record { number = number; least = least; greatest = greatest }

-- A SINT from -5 to 3: -6, -5, 3 and 4. As unsigned numbers they would be 250, 251, 3 and 4.
pub sint_below : is_within (range Sint 0xfb 3) 0xfa ≡ false
unfolding is_at_most
sint_below = refl

pub sint_least : is_within (range Sint 0xfb 3) 0xfb ≡ true
unfolding is_at_most
sint_least = refl

pub sint_greatest : is_within (range Sint 0xfb 3) 3 ≡ true
unfolding is_at_most
sint_greatest = refl

pub sint_above : is_within (range Sint 0xfb 3) 4 ≡ false
unfolding is_at_most
sint_above = refl

-- An INT of -1 is less than 0, and a UINT of 65,535 is not.
pub int_below_zero : is_at_most Int 0xffff 0 ≡ true
unfolding is_at_most
int_below_zero = refl

pub uint_not_below_zero : is_at_most Uint 0xffff 0 ≡ false
unfolding is_at_most
uint_not_below_zero = refl

-- The least LINT is less than the greatest.
pub lint_limits : is_at_most Lint 0x8000_0000_0000_0000 0x7fff_ffff_ffff_ffff ≡ true
unfolding is_at_most
lint_limits = refl

-- A REAL from 0.0 to 3.0 (0x40400000): -0.0 is 0.0, -1.0 (0xbf800000) is below, and 3.0 is the greatest.
pub real_negative_zero : is_within (range Real 0 0x4040_0000) 0x8000_0000 ≡ true
unfolding is_at_most
real_negative_zero = refl

pub real_below : is_within (range Real 0 0x4040_0000) 0xbf80_0000 ≡ false
unfolding is_at_most
real_below = refl

pub real_greatest : is_within (range Real 0 0x4040_0000) 0x4040_0000 ≡ true
unfolding is_at_most
real_greatest = refl

pub real_above : is_within (range Real 0 0x4040_0000) 0x4040_0001 ≡ false
unfolding is_at_most
real_above = refl

-- -2.0 is less than -1.0.
pub real_negatives : is_at_most Real 0xc000_0000 0xbf80_0000 ≡ true
unfolding is_at_most
real_negatives = refl

-- NaN, of either sign, is not even between the infinities. Infinity is.
pub real_nan : is_within (range Real 0xff80_0000 0x7f80_0000) 0x7fc0_0000 ≡ false
unfolding is_at_most
real_nan = refl

pub real_negative_nan : is_within (range Real 0xff80_0000 0x7f80_0000) 0xffc0_0000 ≡ false
unfolding is_at_most
real_negative_nan = refl

pub real_infinity : is_within (range Real 0xff80_0000 0x7f80_0000) 0x7f80_0000 ≡ true
unfolding is_at_most
real_infinity = refl

-- The same of an LREAL.
pub lreal_nan : is_within (range Lreal 0xfff0_0000_0000_0000 0x7ff0_0000_0000_0000) 0x7ff8_0000_0000_0000 ≡ false
unfolding is_at_most
lreal_nan = refl

pub lreal_infinity : is_within (range Lreal 0xfff0_0000_0000_0000 0x7ff0_0000_0000_0000) 0xfff0_0000_0000_0000 ≡ true
unfolding is_at_most
lreal_infinity = refl

-- A UINT[3] from 0 to 3,000: each element counts, also the last.
pub elements : numbers_of 2 (0xb8 ∷ 0x0b ∷ 0 ∷ 0 ∷ 1 ∷ 2 ∷ []) ≡ 3000 ∷ 0 ∷ 513 ∷ []
unfolding numbers_of
elements = refl

pub elements_within : are_within (range Uint 0 3000) (0xb8 ∷ 0x0b ∷ 0 ∷ 0 ∷ 1 ∷ 2 ∷ []) ≡ true
unfolding numbers_of is_at_most
elements_within = refl

pub last_element_above : are_within (range Uint 0 3000) (0 ∷ 0 ∷ 0 ∷ 0 ∷ 0xb9 ∷ 0x0b ∷ []) ≡ false
unfolding numbers_of is_at_most
last_element_above = refl

-- A UINT from 0 to 3,000, its size first.
abbrev pub speed : AttributeKind
speed = Fixed 2 (Some (range Uint 0 3000))

pub speed_of_one_byte : check_value speed (0xff ∷ []) ≡ Err NotEnoughData
speed_of_one_byte = refl

pub speed_of_three_bytes : check_value speed (0xff ∷ 0xff ∷ 0xff ∷ []) ≡ Err TooMuchData
speed_of_three_bytes = refl

pub speed_too_great : check_value speed (0xff ∷ 0xff ∷ []) ≡ Err InvalidAttributeValue
unfolding numbers_of is_at_most
speed_too_great = refl

pub speed_greatest : check_value speed (0xb8 ∷ 0x0b ∷ []) ≡ Ok tt
unfolding numbers_of is_at_most
speed_greatest = refl

-- A SHORT_STRING of at most 2 bytes: without its length, too short, too long, over its room, full, and empty.
pub text_without_length : check_value (ShortString 2) [] ≡ Err NotEnoughData
text_without_length = refl

pub text_too_short : check_value (ShortString 2) (2 ∷ 0x61 ∷ []) ≡ Err NotEnoughData
text_too_short = refl

pub text_too_long : check_value (ShortString 2) (1 ∷ 0x61 ∷ 0x62 ∷ []) ≡ Err TooMuchData
text_too_long = refl

pub text_over_its_room : check_value (ShortString 2) (3 ∷ 0x61 ∷ 0x62 ∷ 0x63 ∷ []) ≡ Err InvalidAttributeValue
text_over_its_room = refl

pub text_full : check_value (ShortString 2) (2 ∷ 0x61 ∷ 0x62 ∷ []) ≡ Ok tt
text_full = refl

pub text_empty : check_value (ShortString 2) (0 ∷ []) ≡ Ok tt
text_empty = refl

-- The device writes a part of a value, not past its end, and a SHORT_STRING as a whole alone. Its range does not
-- bind the device.
pub part_written : written_value (Fixed 3 None) (1 ∷ 2 ∷ 3 ∷ []) 1 (9 ∷ []) ≡ Some (1 ∷ 9 ∷ 3 ∷ [])
part_written = refl

pub written_past_the_end : written_value (Fixed 3 None) (1 ∷ 2 ∷ 3 ∷ []) 2 (9 ∷ 9 ∷ []) ≡ None
written_past_the_end = refl

pub written_out_of_range : written_value speed (0 ∷ 0 ∷ []) 0 (0xff ∷ 0xff ∷ []) ≡ Some (0xff ∷ 0xff ∷ [])
written_out_of_range = refl

pub text_written : written_value (ShortString 2) (0 ∷ []) 0 (1 ∷ 0x61 ∷ []) ≡ Some (1 ∷ 0x61 ∷ [])
text_written = refl

pub text_written_in_part : written_value (ShortString 2) (1 ∷ 0x61 ∷ []) 1 (0x62 ∷ []) ≡ None
text_written_in_part = refl

-- Two attributes, and the object that has them.
abbrev pub limit : AttributeValues
limit = record { number = 7; kind = speed; settable = false; checked = false; value = 1 ∷ 0 ∷ []; changes = 0 }

abbrev pub setpoint : AttributeValues
setpoint = record { number = 2; kind = speed; settable = true; checked = false; value = 0 ∷ 0 ∷ []; changes = 4 }

abbrev pub conveyor : ObjectValues
conveyor = record { class = 768; instance = 1; attributes = setpoint ∷ limit ∷ []; services = []; lists = false }

pub rising : in_order (limit ∷ setpoint ∷ []) ≡ setpoint ∷ limit ∷ []
rising = refl

-- A set changes one attribute, and counts.
pub set_of_two : object_set conveyor 2 (5 ∷ 0 ∷ []) ≡
    Ok (record conveyor { attributes = record setpoint { value = 5 ∷ 0 ∷ []; changes = 5 } ∷ limit ∷ [] })
unfolding numbers_of is_at_most
set_of_two = refl

pub set_of_seven : object_set conveyor 7 [] ≡ Err AttributeNotSettable
set_of_seven = refl

pub set_of_three : object_set conveyor 3 [] ≡ Err AttributeNotSupported
set_of_three = refl

-- A write by the device changes one attribute, settable or not, and does not count.
pub write_of_seven : object_write conveyor 7 1 (3 ∷ []) ≡
    Some (record conveyor { attributes = setpoint ∷ record limit { value = 1 ∷ 3 ∷ [] } ∷ [] })
write_of_seven = refl

-- A checked setpoint: the data must have its size and a value in its range before the owner is asked.
abbrev pub approved : AttributeValues
approved = record setpoint { checked = true }

pub asked_short : check_before_asking (Some approved) (0xff ∷ []) ≡ Some (Err NotEnoughData)
asked_short = refl

pub asked_long : check_before_asking (Some approved) (0xff ∷ 0xff ∷ 0xff ∷ []) ≡ Some (Err TooMuchData)
asked_long = refl

pub asked_above : check_before_asking (Some approved) (0xb9 ∷ 0x0b ∷ []) ≡ Some (Err InvalidAttributeValue)
unfolding numbers_of is_at_most
asked_above = refl

pub asked_greatest : check_before_asking (Some approved) (0xb8 ∷ 0x0b ∷ []) ≡ Some (Ok tt)
unfolding numbers_of is_at_most
asked_greatest = refl

-- Of a checked UINT[2], the last element counts. Of a checked SHORT_STRING, the size comes before the room.
abbrev pub approved_two : AttributeValues
approved_two = record approved { kind = Fixed 4 (Some (range Uint 0 3000)) }

abbrev pub approved_text : AttributeValues
approved_text = record approved { kind = ShortString 2 }

pub asked_array : check_before_asking (Some approved_two) (0 ∷ 0 ∷ 0xb9 ∷ 0x0b ∷ []) ≡
    Some (Err InvalidAttributeValue)
unfolding numbers_of is_at_most
asked_array = refl

pub asked_text_over_its_room : check_before_asking (Some approved_text) (3 ∷ 0x61 ∷ 0x62 ∷ 0x63 ∷ []) ≡
    Some (Err InvalidAttributeValue)
asked_text_over_its_room = refl

pub asked_text_too_short : check_before_asking (Some approved_text) (3 ∷ 0x61 ∷ 0x62 ∷ []) ≡
    Some (Err NotEnoughData)
asked_text_too_short = refl

-- Nobody is asked about an attribute that is not checked, not settable, or not there.
pub asked_unchecked : check_before_asking (Some setpoint) (0 ∷ 0 ∷ []) ≡ None
asked_unchecked = refl

pub asked_unsettable : check_before_asking (Some (record approved { settable = false })) (0 ∷ 0 ∷ []) ≡ None
asked_unsettable = refl

pub asked_nowhere : check_before_asking None (0 ∷ 0 ∷ []) ≡ None
asked_nowhere = refl

-- An approved set changes one attribute, and counts. It stores no value that the attribute may not have, and none in an
-- attribute that needs no approval.
abbrev pub line : ObjectValues
line = record conveyor { attributes = approved ∷ limit ∷ [] }

pub approved_set : objects_approved (line ∷ []) 0 2 (5 ∷ 0 ∷ []) ≡
    record line { attributes = record approved { value = 5 ∷ 0 ∷ []; changes = 5 } ∷ limit ∷ [] } ∷ []
unfolding objects_approved objects_set numbers_of is_at_most
approved_set = refl

pub approved_above : objects_approved (line ∷ []) 0 2 (0xb9 ∷ 0x0b ∷ []) ≡ line ∷ []
unfolding objects_approved objects_set numbers_of is_at_most
approved_above = refl

pub approved_unchecked : objects_approved (conveyor ∷ []) 0 2 (5 ∷ 0 ∷ []) ≡ conveyor ∷ []
unfolding objects_approved
approved_unchecked = refl

pub approved_unsettable : objects_approved (line ∷ []) 0 7 (5 ∷ 0 ∷ []) ≡ line ∷ []
unfolding objects_approved
approved_unsettable = refl

-- Objects of two classes.
abbrev pub second : ObjectValues
second = record conveyor { instance = 5 }

pub second_position : position_of 768 5 (conveyor ∷ second ∷ []) ≡ Some 1
second_position = refl

pub no_position : position_of 769 5 (conveyor ∷ second ∷ []) ≡ None
no_position = refl

pub summary : class_of 768 (conveyor ∷ second ∷ []) ≡ Some (record { greatest = 5; instances = 2 })
summary = refl

pub no_class : class_of 1 (conveyor ∷ second ∷ []) ≡ None
no_class = refl

-- The counter's class is free without the counter. The Identity object's never is.
pub counter_taken : is_taken_class true 100 ≡ true
counter_taken = refl

pub counter_free : is_taken_class false 100 ≡ false
counter_free = refl

pub identity_taken : is_taken_class false 1 ≡ true
identity_taken = refl

-- The TCP/IP Interface has class 0xf5 and instance 1. No object of a device's own has class 0xf5 or 0xf6.
abbrev pub placed : Bool → ℕ → ℕ → ObjectConfig → ObjectConfig
placed standard class instance o =
    record o { class = class; instance = instance; standard = standard; name = None; lists = false }

pub standard_allowed : (o : ObjectConfig) → is_invalid_object true (placed true 0xf5 1 o) ≡ false
standard_allowed o = refl

pub standard_of_another_class : (o : ObjectConfig) → is_invalid_object true (placed true 768 1 o) ≡ true
standard_of_another_class o = refl

pub standard_second : (o : ObjectConfig) → is_invalid_object true (placed true 0xf6 2 o) ≡ true
standard_second o = refl

pub standard_with_lists : (o : ObjectConfig) → is_invalid_object true (record (placed true 0xf6 1 o) { lists = true }) ≡ true
standard_with_lists o = refl

pub own_interface : (o : ObjectConfig) → is_invalid_object true (placed false 0xf5 1 o) ≡ true
own_interface o = refl

pub own_link : (o : ObjectConfig) → is_invalid_object true (placed false 0xf6 1 o) ≡ true
own_link o = refl

-- The Message Router has class 2. No object of a device's own has it.
pub router_allowed : (o : ObjectConfig) → is_invalid_object true (placed true 2 1 o) ≡ false
router_allowed o = refl

pub own_router : (o : ObjectConfig) → is_invalid_object true (placed false 2 1 o) ≡ true
own_router o = refl

-- The classes of a device with a counter and a TCP/IP Interface, and of one with a ledger and two own objects of a class.
pub classes_with_a_counter : classes_of true false (0xf5 ∷ []) ≡ 1 ∷ 2 ∷ 4 ∷ 6 ∷ 0x64 ∷ 0xf5 ∷ []
classes_with_a_counter = refl

pub classes_with_a_ledger : classes_of false true (768 ∷ 0x64 ∷ 768 ∷ []) ≡ 1 ∷ 2 ∷ 4 ∷ 6 ∷ 0x64 ∷ 0x65 ∷ 768 ∷ []
classes_with_a_ledger = refl

-- Three classes: the count, then each, its least byte first.
pub listed_classes : object_list (1 ∷ 0x64 ∷ 0x300 ∷ []) ≡ 3 ∷ 0 ∷ 1 ∷ 0 ∷ 0x64 ∷ 0 ∷ 0 ∷ 3 ∷ []
listed_classes = refl

pub own_of_a_vendor : (o : ObjectConfig) → is_invalid_object true (placed false 768 1 o) ≡ false
own_of_a_vendor o = refl

-- 10.0.0.9 is the UDINT 0x0a000009, whose least byte goes first.
pub address_on_the_wire : address_bytes (10 ∷ 0 ∷ 0 ∷ 9 ∷ []) ≡ 9 ∷ 0 ∷ 0 ∷ 10 ∷ []
address_on_the_wire = refl

-- A STRING of no byte, of an even length and of an odd one.
pub string_empty : string_value [] ≡ 0 ∷ 0 ∷ []
string_empty = refl

pub string_even : string_value (0x61 ∷ 0x62 ∷ []) ≡ 2 ∷ 0 ∷ 0x61 ∷ 0x62 ∷ []
string_even = refl

pub string_odd : string_value (0x61 ∷ 0x62 ∷ 0x63 ∷ []) ≡ 3 ∷ 0 ∷ 0x61 ∷ 0x62 ∷ 0x63 ∷ 0 ∷ []
string_odd = refl

-- The encapsulation inactivity timeout: 120 seconds as bytes, the greatest, and one second more.
pub timeout_on_the_wire : (timeout 120).value ≡ 120 ∷ 0 ∷ []
timeout_on_the_wire = refl

pub timeout_greatest : check_value (timeout 120).kind (0x10 ∷ 0x0e ∷ []) ≡ Ok tt
unfolding numbers_of is_at_most
timeout_greatest = refl

pub timeout_above : check_value (timeout 120).kind (0x11 ∷ 0x0e ∷ []) ≡ Err InvalidAttributeValue
unfolding numbers_of is_at_most
timeout_above = refl

-- A UINT[3] has 6 bytes, and no UINT array has 5. A range whose bounds do not rise, or of NaN, is none.
pub kind_of_an_array : is_invalid_kind (Fixed 6 (Some (range Uint 0 1))) ≡ false
unfolding is_at_most
kind_of_an_array = refl

pub kind_of_five_bytes : is_invalid_kind (Fixed 5 (Some (range Uint 0 1))) ≡ true
unfolding is_at_most
kind_of_five_bytes = refl

pub kind_of_falling_bounds : is_invalid_kind (Fixed 1 (Some (range Sint 1 0xff))) ≡ true
unfolding is_at_most
kind_of_falling_bounds = refl

pub kind_of_nan : is_invalid_kind (Fixed 4 (Some (range Real 0 0x7fc0_0000))) ≡ true
unfolding is_at_most
kind_of_nan = refl

pub kind_of_no_byte : is_invalid_kind (Fixed 0 None) ≡ true
kind_of_no_byte = refl

pub kind_of_501_bytes : is_invalid_kind (Fixed 501 None) ≡ true
kind_of_501_bytes = refl

-- The limits of a service, and one byte beyond each.
abbrev pub loaded : ServiceConfig
loaded = record { number = 0x63; least = 480; most = 480; reply = 480; kind = kinds.Asked }

pub service_limits : is_invalid_service loaded ≡ false
service_limits = refl

pub service_of_the_standard : is_invalid_service (record loaded { number = 0x31 }) ≡ true
service_of_the_standard = refl

pub service_of_falling_sizes : is_invalid_service (record loaded { least = 480; most = 479 }) ≡ true
service_of_falling_sizes = refl

pub service_reply_too_large : is_invalid_service (record loaded { reply = 481 }) ≡ true
service_reply_too_large = refl

-- The limit of a queued service's reply, and one byte beyond it.
pub queued_limits : is_invalid_service (record loaded { reply = 476; kind = kinds.Queued }) ≡ false
queued_limits = refl

pub queued_reply_too_large : is_invalid_service (record loaded { reply = 477; kind = kinds.Queued }) ≡ true
queued_reply_too_large = refl

-- Get_Result, with another number, and with a ticket that is too short or too long.
abbrev pub get_result : ServiceConfig
get_result = record { number = 0x4e; least = 4; most = 4; reply = 478; kind = kinds.Result }

pub result_of_a_ticket : is_invalid_service get_result ≡ false
result_of_a_ticket = refl

pub result_of_another_number : is_invalid_service (record get_result { number = 0x4d }) ≡ true
result_of_another_number = refl

pub result_of_a_short_ticket : is_invalid_service (record get_result { least = 3 }) ≡ true
result_of_a_short_ticket = refl

pub result_of_a_long_ticket : is_invalid_service (record get_result { most = 5 }) ≡ true
result_of_a_long_ticket = refl

pub name_empty : is_invalid_name [] ≡ true
name_empty = refl

pub name_of_a_tab : is_invalid_name (0x61 ∷ 9 ∷ []) ≡ true
name_of_a_tab = refl
