-- The data of a Forward_Close request (Volume 1, Connection Manager).
use Rattle.std.specs.Prelude.{◌≡◌, ℕ, ◌+◌, ◌*◌, ◌/◌, ◌%◌, ◌<◌, ◌≤◌, ◌^◌, List, [], ◌∷◌, ◌++◌, length, slice_index, drop}
use Rattle.std.specs.Prelude.{Result, Ok, Err, nat_lt, if◌then◌else◌}
use Rattle.cip_bytes.specs.Numbers.{le, AreBytes, number_at}
use Rattle.cip_message.specs.declared.close.CloseRequest.{CloseRequest}
use Rattle.cip_message.specs.declared.open.LengthFault.{LengthFault}
use Rattle.cip_message.specs.declared.open.LengthFault.TheVariants.{Short, Long}

-- A close request, without where its path lies in memory.
pub record Close : Type 0 where
  pub priority_and_tick_time : ℕ
  pub timeout_ticks : ℕ
  pub connection_serial : ℕ
  pub originator_vendor : ℕ
  pub originator_serial : ℕ
  pub path : List ℕ

-- The close requests that have a spelling: each number fits its field, and the path is whole words, at most 255.
pub record IsClose (c : Close) : Type 0 where
  pub priority_and_tick_time : c.priority_and_tick_time < 2 ^ 8
  pub timeout_ticks : c.timeout_ticks < 2 ^ 8
  pub connection_serial : c.connection_serial < 2 ^ 16
  pub originator_vendor : c.originator_vendor < 2 ^ 16
  pub originator_serial : c.originator_serial < 2 ^ 32
  pub whole_words : length c.path % 2 ≡ 0
  pub counted : length c.path ≤ 510
  pub path : AreBytes c.path

-- The spellings of a close request, one for each value of the reserved byte: priority and tick time, timeout ticks,
-- connection serial, originator vendor, originator serial, path size in words, reserved byte, path.
abbrev pub close_with : ℕ → Close → List ℕ
close_with reserved c =
    c.priority_and_tick_time ∷ c.timeout_ticks ∷ [] ++ le 2 c.connection_serial ++ le 2 c.originator_vendor
    ++ le 4 c.originator_serial
    ++ (length c.path / 2) ∷ reserved ∷ [] ++ c.path

-- b is a spelling of the close request c.
pub record SpellsClose (c : Close) (b : List ℕ) : Type 0 where
  pub reserved : ℕ
  pub is_close : IsClose c
  pub spelled : b ≡ close_with reserved c

-- The spelling that is written: its reserved byte is 0.
abbrev pub close : Close → List ℕ
close c = close_with 0 c

-- A close request of the code, as one of the specification.
abbrev pub view : CloseRequest → Close
view v = record {
  priority_and_tick_time = v.priority_and_tick_time;
  timeout_ticks = v.timeout_ticks;
  connection_serial = v.connection_serial;
  originator_vendor = v.originator_vendor;
  originator_serial = v.originator_serial;
  path = v.path.now;
}

-- The length that the bytes should have: 12, and the path, whose size in words is byte 10 (0 if the bytes end
-- before it).
abbrev pub expected_length : List ℕ → ℕ
expected_length b = 12 + 2 * slice_index b 10

-- The fields, each at its offset.
unfoldable pub close_fields : List ℕ → Close
close_fields b = record {
  priority_and_tick_time = slice_index b 0;
  timeout_ticks = slice_index b 1;
  connection_serial = number_at 2 2 b;
  originator_vendor = number_at 4 2 b;
  originator_serial = number_at 6 4 b;
  path = drop 12 b;
}

-- Reads a close request.
unfoldable pub close_of : List ℕ → Result Close LengthFault
close_of b =
    if nat_lt (length b) (expected_length b) then Err Short
    else if nat_lt (expected_length b) (length b) then Err Long
    else Ok (close_fields b)
