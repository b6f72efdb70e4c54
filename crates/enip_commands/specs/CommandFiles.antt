-- The file of a commander, and why a text is not one.
use Rattle.std.specs.Prelude.{⊤, ◌≡◌, ◌≢◌, ◌==◌, ◌<◌, ◌≤◌, ◌^◌, ℕ, false, Option, Some, None}
use Rattle.std.specs.Prelude.{List, [], ◌++◌, codes, length}
use Rattle.std.specs.Fmt.{decimal}
use Rattle.std.specs.Option.{option_map}
use Rattle.std.specs.List.{list_any}
use Rattle.std.specs.Int.{to_be_bytes, w64}
use Rattle.arrayvec.specs.ArrayVec.{ArrayVec}
use Rattle.hex.specs.Hex.{encode_lower}
use Rattle.cip_bytes.specs.Numbers.{AreBytes}
use Rattle.cip_commander.specs.CommanderRule.{CommanderState, embedded_refusal}
use Rattle.enip_faults.specs.declared.command_file_fault.CommandFileFault.{CommandFileFault}
use Rattle.enip_faults.specs.declared.command_file_fault.CommandFileFault.TheVariants.{Head, Originator, Life, Number}
use Rattle.enip_faults.specs.declared.command_file_fault.CommandFileFault.TheVariants.{Pending, End}

-- ---- the text

-- A line: a key, a space, a value, a line feed.
abbrev pub line : List ℕ → List ℕ → List ℕ
line key value = key ++ (value ++ codes "\n")

abbrev pub head_line : List ℕ
head_line = codes "enip commands 1\n"

-- eight bytes, the highest first, in lower-case hexadecimal
abbrev pub originator_line : ℕ → List ℕ
originator_line originator = line (codes "originator ") (encode_lower (to_be_bytes w64 originator))

abbrev pub life_line : ℕ → List ℕ
life_line life = line (codes "life ") (decimal life)

abbrev pub number_line : ℕ → List ℕ
number_line number = line (codes "number ") (decimal number)

abbrev pub pending_digits : Option (List ℕ) → List ℕ
pending_digits None = codes "none"
pending_digits (Some request) = encode_lower request

abbrev pub pending_line : Option (List ℕ) → List ℕ
pending_line pending = line (codes "pending ") (pending_digits pending)

abbrev pub file_text : CommanderState → List ℕ
file_text c =
    head_line ++ (originator_line c.originator ++ (life_line c.life
    ++ (number_line c.last_number ++ pending_line c.pending)))

-- ---- what a file can hold

abbrev pub IsLong : ℕ → Type 0
IsLong n = n < 2 ^ 64

abbrev pub IsShort : ℕ → Type 0
IsShort n = n < 2 ^ 32

-- No request, or bytes that a command can embed.
abbrev pub IsPending : Option (List ℕ) → Type 0
IsPending None = ⊤
IsPending (Some request) = AreBytes request × (embedded_refusal request ≡ None)

-- A commander whose numbers have their sizes, and whose pending request a command can embed.
pub record IsKept (c : CommanderState) : Type 0 where
  pub originator : IsLong c.originator
  pub life : IsLong c.life
  pub last_number : IsShort c.last_number
  pub pending : IsPending c.pending

-- ---- a text that is not one

-- A text begins with no line of this kind.
abbrev pub LacksLine : {A : Type 0} → (A → List ℕ) → (A → Type 0) → List ℕ → Type 0
LacksLine line_of fits text = (value : _) (rest : List ℕ) → fits value → text ≡ line_of value ++ rest → ⊥

-- The lines before are as they should be, and the fault's own is not.
abbrev pub IsFault : List ℕ → CommandFileFault → Type 0
IsFault text Head = (rest : List ℕ) → text ≡ head_line ++ rest → ⊥
IsFault text Originator = (rest : List ℕ) × (text ≡ head_line ++ rest) × LacksLine originator_line IsLong rest
IsFault text Life = (originator : ℕ) × ((rest : List ℕ) × (IsLong originator
    × (text ≡ head_line ++ (originator_line originator ++ rest)) × LacksLine life_line IsLong rest))
IsFault text Number = (originator : ℕ) × ((life : ℕ) × ((rest : List ℕ) × (IsLong originator × IsLong life
    × (text ≡ head_line ++ (originator_line originator ++ (life_line life ++ rest)))
    × LacksLine number_line IsShort rest)))
IsFault text Pending = (originator : ℕ) × ((life : ℕ) × ((number : ℕ) × ((rest : List ℕ)
    × (IsLong originator × IsLong life × IsShort number
    × (text ≡ head_line ++ (originator_line originator ++ (life_line life ++ (number_line number ++ rest))))
    × LacksLine pending_line IsPending rest))))
IsFault text End = (c : CommanderState) × ((rest : List ℕ) × (IsKept c × (text ≡ file_text c ++ rest) × (rest ≢ [])))

-- ---- the reader's parts

-- A text begins with the line of this key and this value, and the rest follows.
pub record IsLine (key value rest text : List ℕ) : Type 0 where
  pub whole : text ≡ line key value ++ rest
  pub one : list_any (λ byte. byte == 10) value ≡ false

-- What a buffer holds, if there is one.
abbrev pub bytes_in : Option (ArrayVec ℕ) → Option (List ℕ)
bytes_in held = option_map (λ bytes. bytes.items) held

-- Bytes that fit a command's buffer, if there are any.
abbrev pub IsSpelling : Option (List ℕ) → Type 0
IsSpelling None = ⊤
IsSpelling (Some request) = AreBytes request × (length request ≤ 478)
