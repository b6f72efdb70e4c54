-- The input lines of `enip answer`.
use Rattle.std.specs.Prelude.{◌≡◌, ◌⊎◌, ◌+◌, ◌<◌, ◌^◌, ℕ, Bool, false, List, [], ◌∷◌, ◌++◌, codes, slice_index, length}
use Rattle.std.specs.Prelude.{take, nat_lt, ◌-◌, ◌==◌, ◌&&◌, if◌then◌else◌}
use Rattle.std.specs.Option.{option_map_or}
use Rattle.std.specs.Str.Parse.{IsNumeral, digits_value}
use Rattle.enip_lines.specs.Digits.{bytes_spelled}
use Rattle.enip_answer.specs.declared.peer_number.PeerNumber.{PeerNumber}
use Rattle.enip_answer.specs.declared.lines.Line.{Line}
use Rattle.enip_answer.specs.declared.lines.Line.TheVariants.{Nothing, Piece, End, Now}

-- The index of a peer among the nine, from 0, and its digit.
abbrev pub index_of : PeerNumber → ℕ
index_of number = number.index

abbrev pub digit : PeerNumber → ℕ
digit number = 49 + index_of number

-- A line is empty or a comment.
abbrev pub IsSkipped : List ℕ → Type 0
IsSkipped text = (text ≡ []) ⊎ ((0 < length text) × (slice_index text 0 ≡ 35))

-- What a line means.
abbrev pub Says : List ℕ → Line → Type 0
Says text Nothing = IsSkipped text
Says text (Piece number piece) = text ≡ digit number ∷ 32 ∷ piece.now
Says text (End number) = text ≡ codes "end " ++ digit number ∷ []
Says text (Now moment) = (digits : List ℕ) × (text ≡ codes "now " ++ digits) × IsNumeral 10 digits
    × (digits_value 10 digits ≡ moment) × (moment < 2 ^ 64)

-- Whether a text spells at least one byte.
abbrev pub spells_bytes : List ℕ → Bool
spells_bytes text = option_map_or (λ bytes. nat_lt 0 (length bytes)) (bytes_spelled text) false

-- A line has no meaning, or it is a piece that spells no byte.
abbrev pub IsRefusedLine : List ℕ → Type 0
IsRefusedLine text =
    ((line : Line) → Says text line → ⊥)
    ⊎ ((number : PeerNumber) × ((piece : List ℕ) × ((text ≡ digit number ∷ 32 ∷ piece) × (spells_bytes piece ≡ false))))
