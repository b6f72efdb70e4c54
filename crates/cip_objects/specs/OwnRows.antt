-- Worked examples: what a conveyor's requests ask the owner of the device, and which are refused before.
use Rattle.std.specs.Prelude.{◌≡◌, ℕ, List, [], ◌∷◌, replicate, Option, Some, None, true, false, Ok, Err, refl}
use Rattle.std.specs.Prelude.{option_map}
use Rattle.std.proofs.Common.{ap}
use Rattle.cip_application.specs.declared.config.ServiceConfig.{ServiceConfig}
use Rattle.cip_application.specs.declared.config.ServiceKind.TheVariants as kinds
use Rattle.cip_application.specs.declared.kind.AttributeKind.TheVariants.{Fixed, ShortString}
use Rattle.cip_application.specs.declared.number.NumberRange.{NumberRange}
use Rattle.cip_application.specs.declared.number.NumberType.TheVariants.{Uint}
use Rattle.cip_application.specs.Numbers.{is_at_most, numbers_of}
use Rattle.cip_message.specs.declared.path.Path.{Path}
use Rattle.cip_message.specs.Request.{Request}
use Rattle.cip_objects.specs.declared.status.Refusal.TheVariants.{NotEnoughData, TooMuchData, InvalidAttributeValue}
use Rattle.cip_objects.specs.Contents.{Contents}
use Rattle.cip_objects.specs.OwnRequests.{own_object, own_service, is_own_service, if_checked, check_set}
use Rattle.cip_objects.specs.OwnRequests.{check_service, ask_set, ask_service, asked_of, stored_in}
use Rattle.cip_objects.specs.Tables.{AttributeShape, ObjectShape, Shapes}

abbrev pub speeds : NumberRange
speeds = record { number = Uint; least = 0; greatest = 3000 }

-- A UINT from 0 to 3,000, settable and checked.
abbrev pub speed : AttributeShape
speed = record { number = 3; kind = Fixed 2 (Some speeds); settable = true; checked = true }

-- Own services: 0x32 takes 4 bytes and answers up to 4, and 0x63 takes up to 480 bytes and answers up to 480. 0x40 is
-- queued, and 0x4e answers the results of what was queued.
abbrev pub move : ServiceConfig
move = record { number = 0x32; least = 4; most = 4; reply = 4; kind = kinds.Asked }

abbrev pub load : ServiceConfig
load = record { number = 0x63; least = 0; most = 480; reply = 480; kind = kinds.Asked }

abbrev pub home : ServiceConfig
home = record { number = 0x40; least = 0; most = 1; reply = 2; kind = kinds.Queued }

abbrev pub get_result : ServiceConfig
get_result = record { number = 0x4e; least = 4; most = 4; reply = 478; kind = kinds.Result }

-- A service of the standard, which no configuration gives an object.
abbrev pub standard : ServiceConfig
standard = record { number = 0x31; least = 0; most = 0; reply = 0; kind = kinds.Asked }

abbrev pub conveyor : ObjectShape
conveyor = record { class = 768; instance = 1; attributes = speed ∷ []; services = move ∷ load ∷ standard ∷ []; lists = false }

abbrev pub line : Shapes
line = record { assemblies = []; has_counter = true; objects = conveyor ∷ [] }

-- The object at a class and an instance: not another instance, not the class itself, and none of the adapter's own.
pub object_there : own_object line 768 1 ≡ Some conveyor
object_there = refl

pub other_instance : own_object line 768 2 ≡ None
other_instance = refl

pub class_itself : own_object (record line { objects = record conveyor { instance = 0 } ∷ [] }) 768 0 ≡ None
class_itself = refl

pub class_of_the_adapter : own_object (record line { objects = record conveyor { class = 4 } ∷ [] }) 4 1 ≡ None
class_of_the_adapter = refl

-- The counter's class is free without the counter.
abbrev pub with_counter_class : Shapes
with_counter_class = record line { objects = record conveyor { class = 100 } ∷ [] }

pub class_of_the_counter : own_object with_counter_class 100 1 ≡ None
class_of_the_counter = refl

pub class_without_counter :
    own_object (record with_counter_class { has_counter = false }) 100 1 ≡ Some (record conveyor { class = 100 })
class_without_counter = refl

-- Own services are 0x32 to 0x63. An object has those of its configuration.
pub first_service : own_service line 768 1 0x32 ≡ Some move
first_service = refl

pub last_service : own_service line 768 1 0x63 ≡ Some load
last_service = refl

pub no_such_service : own_service line 768 1 0x33 ≡ None
no_such_service = refl

pub service_below : own_service line 768 1 0x31 ≡ None
service_below = refl

pub service_above : is_own_service 0x64 ≡ false
service_above = refl

-- The size of a service's data, at both ends.
pub move_short : check_service move (1 ∷ 2 ∷ 3 ∷ []) ≡ Err NotEnoughData
move_short = refl

pub move_exact : check_service move (1 ∷ 2 ∷ 3 ∷ 4 ∷ []) ≡ Ok tt
move_exact = refl

pub move_long : check_service move (1 ∷ 2 ∷ 3 ∷ 4 ∷ 5 ∷ []) ≡ Err TooMuchData
move_long = refl

pub load_empty : check_service load [] ≡ Ok tt
load_empty = refl

pub load_full : check_service load (replicate 480 0) ≡ Ok tt
load_full = refl

pub load_long : check_service load (replicate 481 0) ≡ Err TooMuchData
load_long = refl

-- The attributes whose sets are asked about.
pub checked_speed : if_checked (Some speed) ≡ Some speed
checked_speed = refl

pub unchecked_speed : if_checked (Some (record speed { checked = false })) ≡ None
unchecked_speed = refl

pub unsettable_speed : if_checked (Some (record speed { settable = false })) ≡ None
unsettable_speed = refl

-- The checks of a set: the size, then the range of each element, or the room of a text.
pub speed_short : check_set speed.kind (0xff ∷ []) ≡ Err NotEnoughData
speed_short = refl

pub speed_long : check_set speed.kind (0xff ∷ 0xff ∷ 0xff ∷ []) ≡ Err TooMuchData
speed_long = refl

pub speed_above : check_set speed.kind (0xb9 ∷ 0x0b ∷ []) ≡ Err InvalidAttributeValue
unfolding numbers_of is_at_most
speed_above = refl

pub speed_greatest : check_set speed.kind (0xb8 ∷ 0x0b ∷ []) ≡ Ok tt
unfolding numbers_of is_at_most
speed_greatest = refl

pub second_element_above : check_set (Fixed 4 (Some speeds)) (0 ∷ 0 ∷ 0xb9 ∷ 0x0b ∷ []) ≡ Err InvalidAttributeValue
unfolding numbers_of is_at_most
second_element_above = refl

pub text_short : check_set (ShortString 2) (3 ∷ 0x61 ∷ 0x62 ∷ []) ≡ Err NotEnoughData
text_short = refl

pub text_over_its_room : check_set (ShortString 2) (3 ∷ 0x61 ∷ 0x62 ∷ 0x63 ∷ []) ≡ Err InvalidAttributeValue
text_over_its_room = refl

pub text_full : check_set (ShortString 2) (2 ∷ 0x61 ∷ 0x62 ∷ []) ≡ Ok tt
text_full = refl

-- What the owner is asked. The reply to a set has no data.
abbrev pub to_conveyor : Option ℕ → Path
to_conveyor attribute = record { class = 768; instance = 1; attribute = attribute; member = None }

abbrev pub with_service : ℕ → List ℕ → Request
with_service service content = record { service = service; path = []; «data» = content }

pub asked_to_move : ask_service (with_service 0x32 (1 ∷ 0 ∷ 0 ∷ 0 ∷ [])) (to_conveyor None) move ≡
    Ok (record {
      class = 768;
      instance = 1;
      service = 0x32;
      attribute = None;
      content = 1 ∷ 0 ∷ 0 ∷ 0 ∷ [];
      reply_limit = 4;
      kind = kinds.Asked;
    })
asked_to_move = refl

pub queued_to_home : ask_service (with_service 0x40 (1 ∷ [])) (to_conveyor None) home ≡
    Ok (record {
      class = 768;
      instance = 1;
      service = 0x40;
      attribute = None;
      content = 1 ∷ [];
      reply_limit = 2;
      kind = kinds.Queued;
    })
queued_to_home = refl

pub asked_for_a_result : ask_service (with_service 0x4e (7 ∷ 0 ∷ 0 ∷ 0 ∷ [])) (to_conveyor None) get_result ≡
    Ok (record {
      class = 768;
      instance = 1;
      service = 0x4e;
      attribute = None;
      content = 7 ∷ 0 ∷ 0 ∷ 0 ∷ [];
      reply_limit = 478;
      kind = kinds.Result;
    })
asked_for_a_result = refl

pub result_of_a_short_ticket : ask_service (with_service 0x4e (7 ∷ 0 ∷ 0 ∷ [])) (to_conveyor None) get_result ≡
    Err NotEnoughData
result_of_a_short_ticket = refl

pub result_of_a_long_ticket : ask_service (with_service 0x4e (7 ∷ 0 ∷ 0 ∷ 0 ∷ 0 ∷ [])) (to_conveyor None) get_result ≡
    Err TooMuchData
result_of_a_long_ticket = refl

pub asked_to_set : ask_set (with_service 0x10 (0xb8 ∷ 0x0b ∷ [])) (to_conveyor (Some 3)) speed ≡
    Ok (record {
      class = 768;
      instance = 1;
      service = 0x10;
      attribute = Some 3;
      content = 0xb8 ∷ 0x0b ∷ [];
      reply_limit = 0;
      kind = kinds.Asked;
    })
unfolding numbers_of is_at_most
asked_to_set = refl

pub refused_to_move : ask_service (with_service 0x32 []) (to_conveyor None) move ≡ Err NotEnoughData
refused_to_move = refl

-- A request with this path, by its service: an own service, one that the object does not have, and one of the standard.
pub asked_of_an_own_service : (m : Contents) → m.shapes ≡ line
    → asked_of m (with_service 0x32 []) (to_conveyor None) ≡ Some (Err NotEnoughData)
asked_of_an_own_service m e =
    ap (λ s. option_map (ask_service (with_service 0x32 []) (to_conveyor None)) (own_service s 768 1 0x32)) e

pub asked_of_no_service : (m : Contents) → m.shapes ≡ line
    → asked_of m (with_service 0x33 []) (to_conveyor None) ≡ None
asked_of_no_service m e =
    ap (λ s. option_map (ask_service (with_service 0x33 []) (to_conveyor None)) (own_service s 768 1 0x33)) e

pub asked_without_attribute : (m : Contents) → asked_of m (with_service 0x10 []) (to_conveyor None) ≡ None
asked_without_attribute m = refl

-- An approved value that the attribute may not have is not stored, and none is if there is no such attribute.
pub stored_above : (m : Contents) → stored_in m 768 1 3 (0xb9 ∷ 0x0b ∷ []) (Some speed) ≡ m
unfolding numbers_of is_at_most
stored_above m = refl

pub stored_nowhere : (m : Contents) → stored_in m 768 1 4 [] None ≡ m
stored_nowhere m = refl
