-- Worked examples: which requests are changes, and what a reader gets for one.
use Rattle.std.specs.Prelude.{◌≡◌, [], ◌∷◌, true, false, refl}
use Rattle.cip_message.specs.PathReading.{path_of, class_of, instance_of, attribute_of, member_of, whole_of, segment_of}
use Rattle.cip_message.specs.Request.{request_of}
use Rattle.cip_objects.specs.Packets.{packet_of, requests_of}
use Rattle.enip_adapter.specs.declared.peer.Rights.TheVariants.{Write}
use Rattle.enip_adapter.specs.Rights.{is_change_service, is_single_change, is_change, is_refused, refusal}

-- The services that change what they are sent to, and their neighbours.
pub get_attributes_all : is_change_service 0x01 ≡ false
get_attributes_all = refl

pub set_attributes_all : is_change_service 0x02 ≡ true
set_attributes_all = refl

pub get_attribute_list : is_change_service 0x03 ≡ false
get_attribute_list = refl

pub set_attribute_list : is_change_service 0x04 ≡ true
set_attribute_list = refl

pub reset : is_change_service 0x05 ≡ true
reset = refl

pub start : is_change_service 0x06 ≡ false
start = refl

pub get_attribute_single : is_change_service 0x0e ≡ false
get_attribute_single = refl

pub before_set_single : is_change_service 0x0f ≡ false
before_set_single = refl

pub set_attribute_single : is_change_service 0x10 ≡ true
set_attribute_single = refl

pub behind_set_single : is_change_service 0x11 ≡ false
behind_set_single = refl

pub get_member : is_change_service 0x18 ≡ false
get_member = refl

pub set_member : is_change_service 0x19 ≡ true
set_member = refl

pub insert_member : is_change_service 0x1a ≡ false
insert_member = refl

-- Vendor and class specific services: both ends of their range, and what is next to them.
pub before_own : is_change_service 0x31 ≡ false
before_own = refl

pub add : is_change_service 0x32 ≡ true
add = refl

pub clear : is_change_service 0x33 ≡ true
clear = refl

pub do_once : is_change_service 0x4b ≡ true
do_once = refl

pub forget : is_change_service 0x4d ≡ true
forget = refl

pub last_own : is_change_service 0x63 ≡ true
last_own = refl

pub behind_own : is_change_service 0x64 ≡ false
behind_own = refl

-- A service with bit 7 set is that of a reply.
pub reply : is_change_service 0x90 ≡ false
reply = refl

-- Get_Last of the command ledger, class 0x65, instance 1, however its class is spelled.
pub get_last : is_change (0x4c ∷ 2 ∷ 0x20 ∷ 0x65 ∷ 0x24 ∷ 1 ∷ []) ≡ false
unfolding is_change is_single_change packet_of request_of path_of class_of instance_of attribute_of member_of whole_of segment_of
get_last = refl

pub get_last_in_16_bits : is_change (0x4c ∷ 3 ∷ 0x21 ∷ 0 ∷ 0x65 ∷ 0 ∷ 0x24 ∷ 1 ∷ []) ≡ false
unfolding is_change is_single_change packet_of request_of path_of class_of instance_of attribute_of member_of whole_of segment_of
get_last_in_16_bits = refl

-- The same service of another class, and of a path that cannot be read.
pub get_last_elsewhere : is_change (0x4c ∷ 2 ∷ 0x20 ∷ 0x64 ∷ 0x24 ∷ 1 ∷ []) ≡ true
unfolding is_change is_single_change packet_of request_of path_of class_of instance_of attribute_of member_of whole_of segment_of
get_last_elsewhere = refl

pub get_last_of_a_half_path : is_change (0x4c ∷ 1 ∷ 0x20 ∷ 0x65 ∷ []) ≡ true
unfolding is_change is_single_change packet_of request_of path_of class_of instance_of attribute_of member_of whole_of segment_of
get_last_of_a_half_path = refl

pub get_last_without_a_path : is_change (0x4c ∷ 2 ∷ 0x20 ∷ []) ≡ true
unfolding is_change is_single_change packet_of request_of
get_last_without_a_path = refl

-- Get_Slots reads too, and is a change elsewhere.
pub get_slots : is_change (0x50 ∷ 2 ∷ 0x20 ∷ 0x65 ∷ 0x24 ∷ 1 ∷ 0 ∷ 0 ∷ []) ≡ false
unfolding is_change is_single_change packet_of request_of path_of class_of instance_of attribute_of member_of whole_of segment_of
get_slots = refl

pub get_slots_elsewhere : is_change (0x50 ∷ 2 ∷ 0x20 ∷ 0x64 ∷ 0x24 ∷ 1 ∷ 0 ∷ 0 ∷ []) ≡ true
unfolding is_change is_single_change packet_of request_of path_of class_of instance_of attribute_of member_of whole_of segment_of
get_slots_elsewhere = refl

-- The services next to it are none that only read.
pub before_get_slots : is_change (0x4f ∷ 2 ∷ 0x20 ∷ 0x65 ∷ 0x24 ∷ 1 ∷ []) ≡ true
unfolding is_change is_single_change packet_of request_of path_of class_of instance_of attribute_of member_of whole_of segment_of
before_get_slots = refl

-- The ledger's other services are changes, and so is an own service of its class.
pub do_once_of_the_ledger : is_change (0x4b ∷ 2 ∷ 0x20 ∷ 0x65 ∷ 0x24 ∷ 1 ∷ []) ≡ true
unfolding is_change is_single_change packet_of request_of path_of class_of instance_of attribute_of member_of whole_of segment_of
do_once_of_the_ledger = refl

-- A packet is a change if one of its requests is. These are a Get_Attribute_Single and a Set_Attribute_Single.
pub packet_of_a_get : is_change (0x0a ∷ 2 ∷ 0x20 ∷ 2 ∷ 0x24 ∷ 1 ∷ 1 ∷ 0 ∷ 4 ∷ 0 ∷ 0x0e ∷ 3 ∷ 0x20 ∷ 4 ∷ 0x24 ∷ 100 ∷ 0x30 ∷ 3 ∷ []) ≡ false
unfolding is_change is_single_change packet_of requests_of request_of path_of class_of instance_of attribute_of member_of whole_of segment_of
packet_of_a_get = refl

pub packet_of_a_set : is_change (0x0a ∷ 2 ∷ 0x20 ∷ 2 ∷ 0x24 ∷ 1 ∷ 1 ∷ 0 ∷ 4 ∷ 0 ∷ 0x10 ∷ 3 ∷ 0x20 ∷ 4 ∷ 0x24 ∷ 100 ∷ 0x30 ∷ 3 ∷ 1 ∷ []) ≡ true
unfolding is_change is_single_change packet_of requests_of request_of path_of class_of instance_of attribute_of member_of whole_of segment_of
packet_of_a_set = refl

-- Nothing of a packet is executed that cannot be read: this one ends before its offset.
pub packet_cut_short : is_change (0x0a ∷ 2 ∷ 0x20 ∷ 2 ∷ 0x24 ∷ 1 ∷ 1 ∷ 0 ∷ 4 ∷ []) ≡ false
unfolding is_change is_single_change packet_of requests_of request_of path_of class_of instance_of attribute_of member_of whole_of segment_of
packet_cut_short = refl

-- The same service of another class is no packet.
pub packet_elsewhere : is_change (0x0a ∷ 2 ∷ 0x20 ∷ 4 ∷ 0x24 ∷ 1 ∷ 1 ∷ 0 ∷ 4 ∷ 0 ∷ 0x10 ∷ 0 ∷ []) ≡ false
unfolding is_change is_single_change packet_of requests_of request_of path_of class_of instance_of attribute_of member_of whole_of segment_of
packet_elsewhere = refl

-- Nothing is refused to a writer.
pub writer_sets : is_refused Write (0x10 ∷ 3 ∷ 0x20 ∷ 4 ∷ 0x24 ∷ 100 ∷ 0x30 ∷ 3 ∷ 1 ∷ []) ≡ false
writer_sets = refl

-- What a reader gets: the service with bit 7 set, and 0x0f.
pub set_is_refused : refusal (0x10 ∷ 3 ∷ 0x20 ∷ 4 ∷ 0x24 ∷ 100 ∷ 0x30 ∷ 3 ∷ 1 ∷ []) ≡ 0x90 ∷ 0 ∷ 0x0f ∷ 0 ∷ []
set_is_refused = refl
