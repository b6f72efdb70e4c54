-- The data of an Unconnected_Send request (Volume 1, Connection Manager).
use Rattle.std.specs.Prelude.{◌≡◌, ℕ, ◌+◌, ◌*◌, ◌/◌, ◌%◌, ◌<◌, ◌≤◌, ◌^◌, List, [], ◌∷◌, ◌++◌, length, slice_index, take, drop}
use Rattle.std.specs.Prelude.{Result, Ok, Err, nat_lt, ◌==◌, if◌then◌else◌}
use Rattle.cip_bytes.specs.Numbers.{le, AreBytes, number_at}
use Rattle.cip_message.specs.declared.open.LengthFault.{LengthFault}
use Rattle.cip_message.specs.declared.open.LengthFault.TheVariants.{Short, Long}
use Rattle.cip_route.specs.declared.send.UnconnectedSend.{UnconnectedSend}

-- A message to send over a route, without where it lies in memory.
pub record Send : Type 0 where
  pub priority_and_tick_time : ℕ
  pub timeout_ticks : ℕ
  pub message : List ℕ
  pub route : List ℕ

-- Those that have a spelling: the size of the message fits its field, and the route is whole words, at most 255.
pub record IsSend (s : Send) : Type 0 where
  pub priority_and_tick_time : s.priority_and_tick_time < 2 ^ 8
  pub timeout_ticks : s.timeout_ticks < 2 ^ 8
  pub counted_message : length s.message < 2 ^ 16
  pub whole_words : length s.route % 2 ≡ 0
  pub counted : length s.route ≤ 510
  pub message : AreBytes s.message
  pub route : AreBytes s.route

-- A pad byte follows a message of an odd size.
abbrev pub pad_after : ℕ → ℕ → List ℕ
pad_after pad size = if size % 2 == 0 then [] else pad ∷ []

-- The spellings, one for each value of the pad byte and the reserved byte: priority and tick time, timeout ticks, size of
-- the message, message, pad byte, size of the route in words, reserved byte, route.
abbrev pub send_with : ℕ → ℕ → Send → List ℕ
send_with pad reserved s =
    s.priority_and_tick_time ∷ s.timeout_ticks ∷ [] ++ le 2 (length s.message) ++ s.message
    ++ pad_after pad (length s.message) ++ (length s.route / 2) ∷ reserved ∷ [] ++ s.route

-- b is a spelling of s.
pub record SpellsSend (s : Send) (b : List ℕ) : Type 0 where
  pub pad : ℕ
  pub reserved : ℕ
  pub is_send : IsSend s
  pub spelled : b ≡ send_with pad reserved s

-- The spelling that is written: both bytes are 0.
abbrev pub send_bytes : Send → List ℕ
send_bytes s = send_with 0 0 s

-- A request of the code, as one of the specification.
abbrev pub view : UnconnectedSend → Send
view v = record {
  priority_and_tick_time = v.priority_and_tick_time;
  timeout_ticks = v.timeout_ticks;
  message = v.message.now;
  route = v.route.now;
}

-- A size with the pad byte.
abbrev pub even : ℕ → ℕ
even size = size + size % 2

-- Where the size of the route is.
abbrev pub route_size_at : List ℕ → ℕ
route_size_at b = 4 + even (number_at 2 2 b)

-- The length that the bytes should have. A size is 0 if the bytes end before it.
abbrev pub expected_length : List ℕ → ℕ
expected_length b = route_size_at b + 2 + 2 * slice_index b (route_size_at b)

-- The fields, each at its offset.
unfoldable pub send_fields : List ℕ → Send
send_fields b = record {
  priority_and_tick_time = slice_index b 0;
  timeout_ticks = slice_index b 1;
  message = take (number_at 2 2 b) (drop 4 b);
  route = drop (route_size_at b + 2) b;
}

-- Reads an Unconnected_Send.
unfoldable pub send_of : List ℕ → Result Send LengthFault
send_of b =
    if nat_lt (length b) (expected_length b) then Err Short
    else if nat_lt (expected_length b) (length b) then Err Long
    else Ok (send_fields b)
