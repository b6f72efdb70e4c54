-- How a run is drawn: the lines of a ladder.
use Rattle.std.specs.Prelude.{ℕ, ◌+◌, ◌-◌, ◌*◌, ◌^◌, min, nat_le, Bool, List, [], ◌∷◌, ◌++◌, length, take, replicate, codes}
use Rattle.std.specs.Prelude.{Option, Some, None, false, if◌then◌else◌}
use Rattle.std.specs.Fmt.{decimal, padded, padded_integral, format_spec}
use Rattle.hex.specs.Hex.{encode_lower}
use Rattle.enip_replay.specs.declared.rungs.Arrow.{Arrow}
use Rattle.enip_replay.specs.declared.rungs.Field.{Field}
use Rattle.enip_replay.specs.declared.rungs.Field.TheVariants as fields
use Rattle.enip_replay.specs.declared.rungs.Rung.{Rung}
use Rattle.enip_replay.specs.declared.rungs.Direction.{Direction}
use Rattle.enip_replay.specs.declared.rungs.Direction.TheVariants as ways

-- A request or a reply in hexadecimal. One of more than six bytes is cut.
abbrev pub message_text : List ℕ → List ℕ
message_text bytes =
    if nat_le (length bytes) 6 then encode_lower bytes else encode_lower (take 5 bytes) ++ codes ".."

-- How many digits a count has.
abbrev pub digits_of : ℕ → ℕ
digits_of count =
    if nat_le count 9 then 1
    else (if nat_le count 99 then 2 else (if nat_le count 999 then 3 else (if nat_le count 9999 then 4 else 5)))

-- How many of the 22 characters of a column a count and a message leave for dashes.
abbrev pub dashes_of : Arrow → ℕ
dashes_of a = 22 - (5 + digits_of a.count + 2 * min (length a.message.now) 6)

-- A sequence count and its message.
abbrev pub item_text : Arrow → List ℕ
item_text a = codes "-" ++ decimal a.count ++ codes ": " ++ message_text a.message.now ++ codes " "

abbrev pub head_of : List ℕ → Bool → List ℕ
head_of head arrives = if arrives then head else codes "x"

-- An arrow. If the item is lost, its head is a cross.
abbrev pub arrow_by : Direction → Arrow → List ℕ
arrow_by ways.ToAdapter a =
    item_text a ++ replicate (dashes_of a) 45 ++ head_of (codes ">") a.arrives
arrow_by ways.ToClient a = head_of (codes "<") a.arrives ++ item_text a ++ replicate (dashes_of a) 45

abbrev pub arrow_text : Arrow → List ℕ
arrow_text a = arrow_by a.way a

-- What is drawn between an end and the wire: 22 characters.
abbrev pub field_text : Field → List ℕ
field_text fields.Blank = replicate 22 32
field_text (fields.Words words) = codes " " ++ words.now ++ replicate (22 - length words.now - 1) 32
field_text (fields.Arrow arrow) = arrow_text arrow

-- A text and a number, padded on the right to this width. A number, padded on the left.
abbrev pub text_in : ℕ → List ℕ → List ℕ
text_in width text = padded (format_spec 32 1 0 width (2 ^ 64 - 1)) text

abbrev pub number_in : ℕ → ℕ → List ℕ
number_in width n = padded_integral (format_spec 32 1 0 width (2 ^ 64 - 1)) false [] (decimal n)

abbrev pub number_behind : ℕ → ℕ → List ℕ
number_behind width n = padded_integral (format_spec 32 3 0 width (2 ^ 64 - 1)) false [] (decimal n)

-- The note next to the client: 13 characters, and a bar.
abbrev pub client_text : List ℕ → Option ℕ → List ℕ
client_text words (Some number) = text_in 8 words ++ number_in 5 number ++ codes "|"
client_text words None = text_in 13 words ++ codes "|"

-- The position on the wire: 5 characters.
abbrev pub position_text : Option ℕ → List ℕ
position_text (Some position) = number_behind 4 position ++ codes " "
position_text None = codes "     "

-- The note next to the adapter.
abbrev pub adapter_text : List ℕ → Option ℕ → List ℕ
adapter_text [] number = []
adapter_text (first ∷ more) (Some number) = codes " " ++ (first ∷ more) ++ codes " " ++ decimal number
adapter_text (first ∷ more) None = codes " " ++ (first ∷ more)

-- A line of the ladder.
abbrev pub rung_text : Rung → List ℕ
rung_text r =
    client_text r.client.words.now r.client.number ++ field_text r.near ++ position_text r.position
    ++ field_text r.far ++ codes "|" ++ adapter_text r.adapter.words.now r.adapter.number
