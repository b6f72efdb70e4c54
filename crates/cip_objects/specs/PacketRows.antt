-- The requests of packets, and the form of their replies, row by row.
use Rattle.std.specs.Prelude.{◌≡◌, [], ◌∷◌, Ok, Err, Some, None, refl}
use Rattle.cip_message.specs.PathReading.{path_of, class_of, instance_of, attribute_of, member_of, whole_of, segment_of}
use Rattle.cip_message.specs.Request.{request_of}
use Rattle.cip_objects.specs.declared.status.Refusal.TheVariants.{NotEnoughData, TooMuchData}
use Rattle.cip_objects.specs.Packets.{packet_of, requests_of, packet_content, packet_reply}

-- ---- which requests are packets

pub packet : packet_of (0x0a ∷ 2 ∷ 0x20 ∷ 2 ∷ 0x24 ∷ 1 ∷ 0 ∷ 0 ∷ []) ≡ Some (0 ∷ 0 ∷ [])
unfolding packet_of request_of path_of class_of instance_of attribute_of member_of whole_of segment_of
packet = refl

-- An attribute that the path names is ignored.
pub packet_with_attribute : packet_of (0x0a ∷ 3 ∷ 0x20 ∷ 2 ∷ 0x24 ∷ 1 ∷ 0x30 ∷ 1 ∷ 0 ∷ 0 ∷ []) ≡ Some (0 ∷ 0 ∷ [])
unfolding packet_of request_of path_of class_of instance_of attribute_of member_of whole_of segment_of
packet_with_attribute = refl

pub another_service : packet_of (0x0b ∷ 2 ∷ 0x20 ∷ 2 ∷ 0x24 ∷ 1 ∷ 0 ∷ 0 ∷ []) ≡ None
unfolding packet_of request_of path_of class_of instance_of attribute_of member_of whole_of segment_of
another_service = refl

pub another_class : packet_of (0x0a ∷ 2 ∷ 0x20 ∷ 6 ∷ 0x24 ∷ 1 ∷ 0 ∷ 0 ∷ []) ≡ None
unfolding packet_of request_of path_of class_of instance_of attribute_of member_of whole_of segment_of
another_class = refl

-- The class itself.
pub another_instance : packet_of (0x0a ∷ 2 ∷ 0x20 ∷ 2 ∷ 0x24 ∷ 0 ∷ 0 ∷ 0 ∷ []) ≡ None
unfolding packet_of request_of path_of class_of instance_of attribute_of member_of whole_of segment_of
another_instance = refl

-- ---- the requests

pub no_data : requests_of [] ≡ Err NotEnoughData
unfolding requests_of
no_data = refl

pub half_a_count : requests_of (1 ∷ []) ≡ Err NotEnoughData
unfolding requests_of
half_a_count = refl

pub no_requests : requests_of (0 ∷ 0 ∷ []) ≡ Ok []
unfolding requests_of
no_requests = refl

pub bytes_of_no_request : requests_of (0 ∷ 0 ∷ 7 ∷ []) ≡ Err TooMuchData
unfolding requests_of
bytes_of_no_request = refl

pub no_offset : requests_of (1 ∷ 0 ∷ []) ≡ Err NotEnoughData
unfolding requests_of
no_offset = refl

pub half_an_offset : requests_of (1 ∷ 0 ∷ 4 ∷ []) ≡ Err NotEnoughData
unfolding requests_of
half_an_offset = refl

pub no_request : requests_of (1 ∷ 0 ∷ 4 ∷ 0 ∷ []) ≡ Err NotEnoughData
unfolding requests_of
no_request = refl

pub half_a_request : requests_of (1 ∷ 0 ∷ 4 ∷ 0 ∷ 0x0e ∷ []) ≡ Err NotEnoughData
unfolding requests_of
half_a_request = refl

pub one_request : requests_of (1 ∷ 0 ∷ 4 ∷ 0 ∷ 0x0e ∷ 0 ∷ []) ≡ Ok ((0x0e ∷ 0 ∷ []) ∷ [])
unfolding requests_of
one_request = refl

-- Its offset is one less, and one greater, than where the offsets end.
pub within_the_offsets : requests_of (1 ∷ 0 ∷ 3 ∷ 0 ∷ 0x0e ∷ 0 ∷ []) ≡ Err NotEnoughData
unfolding requests_of
within_the_offsets = refl

pub gap : requests_of (1 ∷ 0 ∷ 5 ∷ 0 ∷ 7 ∷ 0x0e ∷ 0 ∷ []) ≡ Err TooMuchData
unfolding requests_of
gap = refl

-- The second byte of an offset counts 256.
pub far_offset : requests_of (1 ∷ 0 ∷ 4 ∷ 1 ∷ 0x0e ∷ 0 ∷ []) ≡ Err TooMuchData
unfolding requests_of
far_offset = refl

pub two_requests : requests_of (2 ∷ 0 ∷ 6 ∷ 0 ∷ 9 ∷ 0 ∷ 1 ∷ 0 ∷ 5 ∷ 2 ∷ 0 ∷ []) ≡ Ok ((1 ∷ 0 ∷ 5 ∷ []) ∷ (2 ∷ 0 ∷ []) ∷ [])
unfolding requests_of
two_requests = refl

-- The second begins one byte behind the first, in the same place, before it, and behind the end.
pub overlap : requests_of (2 ∷ 0 ∷ 6 ∷ 0 ∷ 7 ∷ 0 ∷ 1 ∷ 0 ∷ 5 ∷ 2 ∷ 0 ∷ []) ≡ Err NotEnoughData
unfolding requests_of
overlap = refl

pub same_place : requests_of (2 ∷ 0 ∷ 6 ∷ 0 ∷ 6 ∷ 0 ∷ 1 ∷ 0 ∷ 5 ∷ 2 ∷ 0 ∷ []) ≡ Err NotEnoughData
unfolding requests_of
same_place = refl

pub falling : requests_of (2 ∷ 0 ∷ 6 ∷ 0 ∷ 4 ∷ 0 ∷ 1 ∷ 0 ∷ 5 ∷ 2 ∷ 0 ∷ []) ≡ Err NotEnoughData
unfolding requests_of
falling = refl

pub behind_the_end : requests_of (2 ∷ 0 ∷ 6 ∷ 0 ∷ 12 ∷ 0 ∷ 1 ∷ 0 ∷ 5 ∷ 2 ∷ 0 ∷ []) ≡ Err NotEnoughData
unfolding requests_of
behind_the_end = refl

-- The last one begins one byte before the end.
pub last_too_short : requests_of (2 ∷ 0 ∷ 6 ∷ 0 ∷ 10 ∷ 0 ∷ 1 ∷ 0 ∷ 5 ∷ 2 ∷ 0 ∷ []) ≡ Err NotEnoughData
unfolding requests_of
last_too_short = refl

-- ---- replies

pub reply_to_nothing : packet_content [] ≡ 0 ∷ 0 ∷ []
reply_to_nothing = refl

-- A value of two bytes, and a refusal.
pub two_replies : packet_reply (0x0a ∷ []) ((0x8e ∷ 0 ∷ 0 ∷ 0 ∷ 0x34 ∷ 0x12 ∷ []) ∷ (0x8e ∷ 0 ∷ 0x14 ∷ 0 ∷ []) ∷ [])
    ≡ 0x8a ∷ 0 ∷ 0x1e ∷ 0 ∷ 2 ∷ 0 ∷ 6 ∷ 0 ∷ 12 ∷ 0 ∷ 0x8e ∷ 0 ∷ 0 ∷ 0 ∷ 0x34 ∷ 0x12 ∷ 0x8e ∷ 0 ∷ 0x14 ∷ 0 ∷ []
two_replies = refl

-- Both succeed.
pub two_values : packet_reply (0x0a ∷ []) ((0x8e ∷ 0 ∷ 0 ∷ 0 ∷ 0x34 ∷ 0x12 ∷ []) ∷ (0x90 ∷ 0 ∷ 0 ∷ 0 ∷ []) ∷ [])
    ≡ 0x8a ∷ 0 ∷ 0 ∷ 0 ∷ 2 ∷ 0 ∷ 6 ∷ 0 ∷ 12 ∷ 0 ∷ 0x8e ∷ 0 ∷ 0 ∷ 0 ∷ 0x34 ∷ 0x12 ∷ 0x90 ∷ 0 ∷ 0 ∷ 0 ∷ []
two_values = refl
