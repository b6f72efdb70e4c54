use Rattle.std.specs.Prelude.{if◌then◌else◌, nat_lt, ◌==◌, ◌&&◌, ℕ, List, [], ◌∷◌, ◌≡◌, ◌≢◌, ◌<◌, ◌≤◌, ◌^◌, ◌++◌, ◌⊎◌}
use Rattle.std.specs.Prelude.{length, drop, Option, Some, None, Result, Ok, Err, refl}
use Rattle.enip_wire.specs.declared.item_list.CpfFault.{CpfFault}
use Rattle.enip_wire.specs.declared.item_list.CpfFault.TheVariants.{Short, Trailing, Interface, Address, Data}
use Rattle.cip_bytes.specs.Numbers.{le, number_at}
use Rattle.cip_bytes.specs.Reading.{◌>>=◌, map_ok}
use Rattle.enip_wire.specs.Items.{Item, items, AreItems, IsShort, IsTrailing, items_of, Two}

-- The null address item, and the connected address item with its connection ID.
-- (Volume 2, common packet format, address items.)
abbrev pub null_address : Item
null_address = record { kind = 0; bytes = [] }

abbrev pub connected_address : ℕ → Item
connected_address id = record { kind = 0xa1; bytes = le 4 id }

-- The unconnected and the connected data item. (Volume 2, common packet format, data items.)
abbrev pub unconnected_data : List ℕ → Item
unconnected_data bytes = record { kind = 0xb2; bytes = bytes }

abbrev pub connected_data : List ℕ → Item
connected_data bytes = record { kind = 0xb1; bytes = bytes }

-- The bytes begin as a body does, with interface 0 and any timeout, and then the rest. (Volume 2, SendRRData and
-- SendUnitData.)
pub record BeginsBody (text rest : List ℕ) : Type 0 where
  pub timeout : ℕ
  pub two_bytes : timeout < 2 ^ 16
  pub spelled : text ≡ le 4 0 ++ le 2 timeout ++ rest

-- A body with these items.
pub record IsBody (text : List ℕ) (l : List Item) : Type 0 where
  pub are_items : AreItems l
  pub begins_body : BeginsBody text (items l)

-- A SendRRData with this data: its first two items are the null address and the unconnected data. Further items do
-- not matter.
pub record IsRrBody (text bytes : List ℕ) : Type 0 where
  pub further : List Item
  pub body : IsBody text (null_address ∷ unconnected_data bytes ∷ further)

-- A SendUnitData with this connection ID and data: its first two items are the connected address and the connected
-- data. Further items do not matter.
pub record IsUnitBody (text : List ℕ) (id : ℕ) (bytes : List ℕ) : Type 0 where
  pub four_bytes : id < 2 ^ 32
  pub further : List Item
  pub body : IsBody text (connected_address id ∷ connected_data bytes ∷ further)

-- When each fault of a body is returned. `IsAddress` holds of the right first item, and `kind` is the type of the
-- second.
abbrev pub IsBodyFault : (Item → Type 0) → ℕ → List ℕ → CpfFault → Type 0
IsBodyFault IsAddress kind text Short = (length text < 6) ⊎ ((rest : List ℕ) × BeginsBody text rest × IsShort rest)
IsBodyFault IsAddress kind text Interface = (6 ≤ length text) × (number_at 0 4 text ≢ 0)
IsBodyFault IsAddress kind text Trailing = (rest : List ℕ) × BeginsBody text rest × IsTrailing rest
IsBodyFault IsAddress kind text Address =
    (l : List Item) × IsBody text l × ((a : Item) (others : List Item) → l ≡ a ∷ others → IsAddress a → ⊥)
IsBodyFault IsAddress kind text Data =
    (a : Item) × (others : List Item) × IsAddress a × IsBody text (a ∷ others)
    × ((d : Item) (further : List Item) → others ≡ d ∷ further → d.kind ≡ kind → ⊥)

-- An item that is the null address, and one that is a connected address.
abbrev pub IsNullAddress : Item → Type 0
IsNullAddress a = a ≡ null_address

abbrev pub IsConnectedAddress : Item → Type 0
IsConnectedAddress a = (a.kind ≡ 0xa1) × (length a.bytes ≡ 4)

-- The bytes of a SendRRData and of a SendUnitData that are written, with timeout 0.
abbrev pub rr_body_bytes : List ℕ → List ℕ
rr_body_bytes bytes = le 4 0 ++ le 2 0 ++ items (null_address ∷ unconnected_data bytes ∷ [])

abbrev pub unit_body_bytes : ℕ → List ℕ → List ℕ
unit_body_bytes id bytes = le 4 0 ++ le 2 0 ++ items (connected_address id ∷ connected_data bytes ∷ [])

-- The rest states the same by numbers alone, to compute with.

-- The items of a body.
abbrev pub body_items_of : List ℕ → Result (List Item) CpfFault
body_items_of text =
    if nat_lt (length text) 6
    then Err Short
    else if number_at 0 4 text == 0 then items_of (drop 6 text) else Err Interface

-- The data of the item after the address.
abbrev pub data_of : ℕ → List Item → Result (List ℕ) CpfFault
data_of kind [] = Err Data
data_of kind (d ∷ further) = if d.kind == kind then Ok d.bytes else Err Data

abbrev pub rr_items_of : List Item → Result (List ℕ) CpfFault
rr_items_of [] = Err Address
rr_items_of (a ∷ others) = if (a.kind == 0) && (length a.bytes == 0) then data_of 0xb2 others else Err Address

abbrev pub with_id : ℕ → List ℕ → ℕ × List ℕ
with_id id bytes = (id, bytes)

abbrev pub unit_items_of : List Item → Result (ℕ × List ℕ) CpfFault
unit_items_of [] = Err Address
unit_items_of (a ∷ others) =
    if (a.kind == 0xa1) && (length a.bytes == 4)
    then map_ok (with_id (number_at 0 4 a.bytes)) (data_of 0xb1 others)
    else Err Address

-- The same for the first two items alone, as further ones do not matter.
abbrev pub data_in : ℕ → Option Item → Result (List ℕ) CpfFault
data_in kind None = Err Data
data_in kind (Some d) = if d.kind == kind then Ok d.bytes else Err Data

abbrev pub rr_in : Option Item → Option Item → Result (List ℕ) CpfFault
rr_in None second = Err Address
rr_in (Some a) second = if (a.kind == 0) && (length a.bytes == 0) then data_in 0xb2 second else Err Address

abbrev pub rr_two_of : Two → Result (List ℕ) CpfFault
rr_two_of two = rr_in two.first two.second

abbrev pub unit_in : Option Item → Option Item → Result (ℕ × List ℕ) CpfFault
unit_in None second = Err Address
unit_in (Some a) second =
    if (a.kind == 0xa1) && (length a.bytes == 4)
    then map_ok (with_id (number_at 0 4 a.bytes)) (data_in 0xb1 second)
    else Err Address

abbrev pub unit_two_of : Two → Result (ℕ × List ℕ) CpfFault
unit_two_of two = unit_in two.first two.second

-- The data of a SendRRData, or its fault. The connection ID and the data of a SendUnitData, or its fault.
unfoldable pub rr_body_of : List ℕ → Result (List ℕ) CpfFault
rr_body_of text = body_items_of text >>= rr_items_of

unfoldable pub unit_body_of : List ℕ → Result (ℕ × List ℕ) CpfFault
unit_body_of text = body_items_of text >>= unit_items_of

-- A SendRRData with eight bytes of data, one with a byte after its items, and one that is cut short.
rr_row : rr_body_of
    (0 ∷ 0 ∷ 0 ∷ 0 ∷ 0 ∷ 0 ∷ 2 ∷ 0 ∷ 0 ∷ 0 ∷ 0 ∷ 0 ∷ 0xb2 ∷ 0 ∷ 8 ∷ 0
    ∷ 0x0e ∷ 3 ∷ 0x20 ∷ 1 ∷ 0x24 ∷ 1 ∷ 0x30 ∷ 1 ∷ [])
    ≡ Ok (0x0e ∷ 3 ∷ 0x20 ∷ 1 ∷ 0x24 ∷ 1 ∷ 0x30 ∷ 1 ∷ [])
unfolding rr_body_of
rr_row = refl

rr_row_trailing : rr_body_of (0 ∷ 0 ∷ 0 ∷ 0 ∷ 0 ∷ 0 ∷ 2 ∷ 0 ∷ 0 ∷ 0 ∷ 0 ∷ 0 ∷ 0xb2 ∷ 0 ∷ 1 ∷ 0 ∷ 5 ∷ 6 ∷ [])
    ≡ Err Trailing
unfolding rr_body_of
rr_row_trailing = refl

rr_row_short : rr_body_of (0 ∷ 0 ∷ 0 ∷ 0 ∷ 0 ∷ []) ≡ Err Short
unfolding rr_body_of
rr_row_short = refl

-- A SendUnitData on connection 0x01020304.
unit_row : unit_body_of
    (0 ∷ 0 ∷ 0 ∷ 0 ∷ 0 ∷ 0 ∷ 2 ∷ 0 ∷ 0xa1 ∷ 0 ∷ 4 ∷ 0 ∷ 4 ∷ 3 ∷ 2 ∷ 1 ∷ 0xb1 ∷ 0 ∷ 2 ∷ 0 ∷ 7 ∷ 9 ∷ [])
    ≡ Ok (0x01020304, 7 ∷ 9 ∷ [])
unfolding unit_body_of
unit_row = refl
