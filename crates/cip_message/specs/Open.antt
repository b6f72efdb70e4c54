-- The data of a Forward_Open and of a Large_Forward_Open request (Volume 1, Connection Manager).
--
-- The two layouts differ in the size of the parameters of a direction, and so in the offsets of the fields after
-- them. Each definition is written once, over the layout, and then named for each layout.
use Rattle.std.specs.Prelude.{◌≡◌, ℕ, ◌+◌, ◌*◌, ◌/◌, ◌%◌, ◌<◌, ◌≤◌, ◌^◌, Bool, List, [], ◌∷◌, ◌++◌, length, slice_index}
use Rattle.std.specs.Prelude.{drop, Result, Ok, Err, nat_lt, nat_le, if◌then◌else◌}
use Rattle.cip_bytes.specs.Numbers.{le, AreBytes, number_at}
use Rattle.cip_message.specs.declared.open.OpenRequest.{OpenRequest}
use Rattle.cip_message.specs.declared.parameters.Parameters.{Parameters}
use Rattle.cip_message.specs.declared.parameters.LargeParameters.{LargeParameters}
use Rattle.cip_message.specs.declared.open.LengthFault.{LengthFault}
use Rattle.cip_message.specs.declared.open.LengthFault.TheVariants.{Short, Long}

-- The layouts of a Forward_Open and of a Large_Forward_Open.
pub data Layout : Type 0 where
  small : Layout
  large : Layout

-- The size of the parameters of a direction, in bytes.
abbrev pub width : Layout → ℕ
width small = 2
width large = 4

-- How many bytes come before the path: 36, in the large layout 40.
abbrev pub before_path : Layout → ℕ
before_path layout = 32 + 2 * width layout

-- An open request, without its layout and where its path lies in memory.
pub record Open : Type 0 where
  pub priority_and_tick_time : ℕ
  pub timeout_ticks : ℕ
  pub o_to_t_id : ℕ
  pub t_to_o_id : ℕ
  pub connection_serial : ℕ
  pub originator_vendor : ℕ
  pub originator_serial : ℕ
  pub timeout_multiplier : ℕ
  pub o_to_t_rpi : ℕ
  pub o_to_t_parameters : ℕ
  pub t_to_o_rpi : ℕ
  pub t_to_o_parameters : ℕ
  pub transport : ℕ
  pub path : List ℕ

-- Each number in the first half fits its field.
pub record FrontFits (o : Open) : Type 0 where
  pub priority_and_tick_time : o.priority_and_tick_time < 2 ^ 8
  pub timeout_ticks : o.timeout_ticks < 2 ^ 8
  pub o_to_t_id : o.o_to_t_id < 2 ^ 32
  pub t_to_o_id : o.t_to_o_id < 2 ^ 32
  pub connection_serial : o.connection_serial < 2 ^ 16
  pub originator_vendor : o.originator_vendor < 2 ^ 16
  pub originator_serial : o.originator_serial < 2 ^ 32

-- Each number in the second half fits its field.
pub record BackFitsIn (layout : Layout) (o : Open) : Type 0 where
  pub timeout_multiplier : o.timeout_multiplier < 2 ^ 8
  pub o_to_t_rpi : o.o_to_t_rpi < 2 ^ 32
  pub o_to_t_parameters : o.o_to_t_parameters < 2 ^ (8 * width layout)
  pub t_to_o_rpi : o.t_to_o_rpi < 2 ^ 32
  pub t_to_o_parameters : o.t_to_o_parameters < 2 ^ (8 * width layout)
  pub transport : o.transport < 2 ^ 8

-- The open requests that have a spelling: the numbers fit, and the path is whole words, at most 255.
pub record IsOpenIn (layout : Layout) (o : Open) : Type 0 where
  pub front : FrontFits o
  pub back : BackFitsIn layout o
  pub whole_words : length o.path % 2 ≡ 0
  pub counted : length o.path ≤ 510
  pub path : AreBytes o.path

-- The fields up to connection serial, originator vendor and originator serial, which name the connection.
abbrev pub front : Open → List ℕ
front o =
    o.priority_and_tick_time ∷ o.timeout_ticks ∷ [] ++ le 4 o.o_to_t_id ++ le 4 o.t_to_o_id
    ++ le 2 o.connection_serial ++ le 2 o.originator_vendor ++ le 4 o.originator_serial

-- The fields from the timeout multiplier on. Three reserved bytes follow the multiplier.
abbrev pub back_in : Layout → ℕ → Open → List ℕ
back_in layout reserved o =
    o.timeout_multiplier ∷ [] ++ le 3 reserved ++ le 4 o.o_to_t_rpi ++ le (width layout) o.o_to_t_parameters
    ++ le 4 o.t_to_o_rpi ++ le (width layout) o.t_to_o_parameters
    ++ o.transport ∷ (length o.path / 2) ∷ []

-- The spellings of an open request, one for each value of the reserved bytes: the fields, then the path.
abbrev pub open_with_in : Layout → ℕ → Open → List ℕ
open_with_in layout reserved o = front o ++ back_in layout reserved o ++ o.path

-- b is a spelling of the open request o.
pub record SpellsIn (layout : Layout) (o : Open) (b : List ℕ) : Type 0 where
  pub reserved : ℕ
  pub is_open : IsOpenIn layout o
  pub spelled : b ≡ open_with_in layout reserved o

-- At most one open request spells a prefix of some bytes.
abbrev pub OneOpenIn : Layout → Type 0
OneOpenIn layout = (o q : Open) (a b x y : List ℕ) → SpellsIn layout o a → SpellsIn layout q b → a ++ x ≡ b ++ y
    → (o ≡ q) × (a ≡ b) × (x ≡ y)

-- The length that the bytes should have: those before the path, and the path, whose size in words is the last byte
-- before it (0 if the bytes end there).
abbrev pub expected_length_in : Layout → List ℕ → ℕ
expected_length_in layout b = before_path layout + 2 * slice_index b (31 + 2 * width layout)

-- The fields, each at its offset.
abbrev pub open_fields_in : Layout → List ℕ → Open
open_fields_in layout b = record {
  priority_and_tick_time = slice_index b 0;
  timeout_ticks = slice_index b 1;
  o_to_t_id = number_at 2 4 b;
  t_to_o_id = number_at 6 4 b;
  connection_serial = number_at 10 2 b;
  originator_vendor = number_at 12 2 b;
  originator_serial = number_at 14 4 b;
  timeout_multiplier = slice_index b 18;
  o_to_t_rpi = number_at 22 4 b;
  o_to_t_parameters = number_at 26 (width layout) b;
  t_to_o_rpi = number_at (26 + width layout) 4 b;
  t_to_o_parameters = number_at (30 + width layout) (width layout) b;
  transport = slice_index b (30 + 2 * width layout);
  path = drop (before_path layout) b;
}

-- Reads an open request.
abbrev pub open_of_in : Layout → List ℕ → Result Open LengthFault
open_of_in layout b =
    if nat_lt (length b) (expected_length_in layout b) then Err Short
    else if nat_lt (expected_length_in layout b) (length b) then Err Long
    else Ok (open_fields_in layout b)

-- An open request of the code, as one of the specification. `bits` gives its parameters as a number.
abbrev pub view_by : {P : Type 0} → (P → ℕ) → OpenRequest P → Open
view_by bits v = record {
  priority_and_tick_time = v.priority_and_tick_time;
  timeout_ticks = v.timeout_ticks;
  o_to_t_id = v.o_to_t_id;
  t_to_o_id = v.t_to_o_id;
  connection_serial = v.connection_serial;
  originator_vendor = v.originator_vendor;
  originator_serial = v.originator_serial;
  timeout_multiplier = v.timeout_multiplier;
  o_to_t_rpi = v.o_to_t_rpi;
  o_to_t_parameters = bits v.o_to_t_parameters;
  t_to_o_rpi = v.t_to_o_rpi;
  t_to_o_parameters = bits v.t_to_o_parameters;
  transport = v.transport.bits;
  path = v.path.now;
}

-- ---- Forward_Open

-- The requests that have a spelling, and their spellings.
abbrev pub IsOpen : Open → Type 0
IsOpen o = IsOpenIn small o

abbrev pub SpellsOpen : Open → List ℕ → Type 0
SpellsOpen o b = SpellsIn small o b

abbrev pub OneOpen : Type 0
OneOpen = OneOpenIn small

-- The spelling that is written: its reserved bytes are 0.
abbrev pub «open» : Open → List ℕ
«open» o = open_with_in small 0 o

abbrev pub view : OpenRequest Parameters → Open
view v = view_by (λ (parameters : Parameters). parameters.bits) v

-- 36 bytes, and the path, whose size in words is byte 35.
abbrev pub expected_length : List ℕ → ℕ
expected_length b = expected_length_in small b

unfoldable pub open_fields : List ℕ → Open
open_fields b = open_fields_in small b

-- Reads an open request.
unfoldable pub open_of : List ℕ → Result Open LengthFault
open_of b = open_of_in small b

-- ---- Large_Forward_Open: the same in the large layout

abbrev pub IsLargeOpen : Open → Type 0
IsLargeOpen o = IsOpenIn large o

abbrev pub SpellsLarge : Open → List ℕ → Type 0
SpellsLarge o b = SpellsIn large o b

abbrev pub OneLargeOpen : Type 0
OneLargeOpen = OneOpenIn large

abbrev pub large_open : Open → List ℕ
large_open o = open_with_in large 0 o

abbrev pub large_view : OpenRequest LargeParameters → Open
large_view v = view_by (λ (parameters : LargeParameters). parameters.bits) v

-- 40 bytes, and the path, whose size in words is byte 39.
abbrev pub large_expected_length : List ℕ → ℕ
large_expected_length b = expected_length_in large b

unfoldable pub large_open_fields : List ℕ → Open
large_open_fields b = open_fields_in large b

unfoldable pub large_open_of : List ℕ → Result Open LengthFault
large_open_of b = open_of_in large b

-- The number of a fault, as printed.
abbrev pub length_fault_number : LengthFault → ℕ
length_fault_number Short = 1
length_fault_number Long = 2

-- ---- the bits of the parameters, and of the transport

-- In the parameters of a direction, bits 14 and 13 are the connection type. 2 is point to point.
abbrev pub connection_type : ℕ → ℕ
connection_type bits = bits / 2 ^ 13 % 4

-- Bits 8 to 0 are the size of an item in bytes, including its sequence count.
abbrev pub size_of : ℕ → ℕ
size_of bits = bits % 2 ^ 9

-- In the large layout, bits 30 and 29 are the connection type.
abbrev pub large_connection_type : ℕ → ℕ
large_connection_type bits = bits / 2 ^ 29 % 4

-- In the large layout, bits 15 to 0 are the size.
abbrev pub large_size_of : ℕ → ℕ
large_size_of bits = bits % 2 ^ 16

-- In the transport, bit 7 is set if the target is the server.
abbrev pub is_server_of : ℕ → Bool
is_server_of bits = nat_le (2 ^ 7) bits

-- Bits 3 to 0 are the transport class.
abbrev pub class_of_transport : ℕ → ℕ
class_of_transport bits = bits % 2 ^ 4
