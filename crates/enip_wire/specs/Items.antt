use Rattle.std.specs.Prelude.{if◌then◌else◌, nat_lt, ◌+◌, ℕ, zero, suc, List, [], ◌∷◌, ◌≡◌, ◌<◌, ◌^◌, ◌++◌, length}
use Rattle.std.specs.Prelude.{Bool, true, false, Option, Some, None, take, drop, Result, Ok, Err, refl}
use Rattle.std.specs.List.{flat_map, AllByRecursion}
use Rattle.std.specs.Coded.{Coded, code_by, coded×, coded_ℕ, coded_list}
use Rattle.std.specs.Option.{option_map}
use Rattle.enip_wire.specs.declared.item_list.ItemView.{ItemView}
use Rattle.enip_wire.specs.declared.item_list.Pair.{Pair}
use Rattle.enip_wire.specs.declared.item_list.CpfFault.{CpfFault}
use Rattle.enip_wire.specs.declared.item_list.CpfFault.TheVariants.{Short, Trailing, Interface, Address, Data}
use Rattle.cip_bytes.specs.Numbers.{le, number_at}

-- An item of the common packet format: its type, and its data. (Volume 2, common packet format.)
pub record Item : Type 0 where
  pub kind : ℕ
  pub bytes : List ℕ

-- The bytes of an item: type, length, data.
abbrev pub item : Item → List ℕ
item i = le 2 i.kind ++ le 2 (length i.bytes) ++ i.bytes

-- The bytes of a list of items: the item count, then each item. (Volume 2, common packet format.)
abbrev pub items : List Item → List ℕ
items l = le 2 (length l) ++ flat_map item l

-- The type and the length have two bytes each on the wire.
pub record IsItem (i : Item) : Type 0 where
  pub kind : i.kind < 2 ^ 16
  pub counted : length i.bytes < 2 ^ 16

-- So has the item count.
pub record AreItems (l : List Item) : Type 0 where
  pub count : length l < 2 ^ 16
  pub each : AllByRecursion IsItem l

-- The bytes are cut short: with at least one byte more they would spell a list of items.
pub record IsShort (text : List ℕ) : Type 0 where
  pub of : List Item
  pub more : List ℕ
  pub are_items : AreItems of
  pub some : 0 < length more
  pub spelled : text ++ more ≡ items of

-- The bytes go on: at least one byte follows a list of items.
pub record IsTrailing (text : List ℕ) : Type 0 where
  pub of : List Item
  pub more : List ℕ
  pub are_items : AreItems of
  pub some : 0 < length more
  pub spelled : text ≡ items of ++ more

-- An item of the code, as one of the specification.
abbrev pub item_of : ItemView → Item
item_of view = record { kind = view.kind; bytes = view.bytes.now }

-- An item is stored as the pair of its fields.
abbrev pub item_code : Coded Item
item_code =
    code_by (ℕ × List ℕ) (coded× coded_ℕ (coded_list coded_ℕ)) (λ i. (i.kind, i.bytes))
    (λ p. record { kind = p.0; bytes = p.1 }) (λ _. refl)

-- The number of a fault, as printed.
abbrev pub cpf_fault_number : CpfFault → ℕ
cpf_fault_number Short = 1
cpf_fault_number Trailing = 2
cpf_fault_number Interface = 3
cpf_fault_number Address = 4
cpf_fault_number Data = 5

-- The rest states the same by numbers alone, to compute with.

-- The item at the front of the bytes, and its size.
abbrev pub item_at : List ℕ → Item
item_at text = record { kind = number_at 0 2 text; bytes = take (number_at 2 2 text) (drop 4 text) }

abbrev pub size_at : List ℕ → ℕ
size_at text = 4 + number_at 2 2 text

-- The first n items, as far as they are whole.
abbrev pub first_items : ℕ → List ℕ → List Item
first_items zero text = []
first_items (suc n) text =
    if nat_lt (length text) (size_at text) then [] else item_at text ∷ first_items n (drop (size_at text) text)

-- The bytes after the first n items.
abbrev pub after : ℕ → List ℕ → Result (List ℕ) CpfFault
after zero text = Ok text
after (suc n) text =
    if nat_lt (length text) (size_at text) then Err Short else after n (drop (size_at text) text)

-- The items, if nothing follows them.
abbrev pub whole : List Item → Result (List ℕ) CpfFault → Result (List Item) CpfFault
whole l (Ok []) = Ok l
whole l (Ok (b ∷ rest)) = Err Trailing
whole l (Err fault) = Err fault

-- Reads a list of items, all of the bytes.
abbrev pub items_of : List ℕ → Result (List Item) CpfFault
items_of text =
    if nat_lt (length text) 2
    then Err Short
    else whole (first_items (number_at 0 2 text) (drop 2 text)) (after (number_at 0 2 text) (drop 2 text))

-- The first two items of a list, as far as there are so many.
pub record Two : Type 0 where
  pub first : Option Item
  pub second : Option Item

abbrev pub two_of : List Item → Two
two_of [] = record { first = None; second = None }
two_of (a ∷ []) = record { first = Some a; second = None }
two_of (a ∷ (b ∷ further)) = record { first = Some a; second = Some b }

-- A pair of the code, as one of the specification.
abbrev pub two_in : Pair → Two
two_in pair = record { first = option_map item_of pair.first; second = option_map item_of pair.second }

-- The next item, if there should be one, and the rest.
pub record Next : Type 0 where
  pub item : Option Item
  pub rest : List ℕ

abbrev pub next_of : Bool → List ℕ → Result Next CpfFault
next_of false text = Ok (record { item = None; rest = text })
next_of true text =
    if nat_lt (length text) (size_at text)
    then Err Short
    else Ok (record { item = Some (item_at text); rest = drop (size_at text) text })
