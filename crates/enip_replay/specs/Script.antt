-- The lines of a script.
use Rattle.std.specs.Prelude.{◌≡◌, ◌<◌, ◌≤◌, ◌+◌, ◌^◌, ℕ, Bool, true, false, List, [], ◌∷◌, ◌++◌, length, Some, None}
use Rattle.std.specs.Prelude.{codes, ◌==◌, Option, take, drop}
use Rattle.std.specs.List.{position}
use Rattle.std.specs.Str.Parse.{IsNumeral, digits_value}
use Rattle.cip_owner.specs.Replies.{Reply}
use Rattle.enip_adapter.specs.OwnWrites.{OwnWrite, WritesData, WritesAttribute, SetsStatus, SetsState, Prepares, Settles, Finishes, Marks, Withdraws}
use Rattle.enip_bench.specs.Events.{Event, Submit, Resend, Reach, Back, Other, Write, Shut, GiveUp}
use Rattle.enip_lines.specs.Digits.{bytes_spelled}

-- An empty line or a comment.
abbrev pub is_skipped : List ℕ → Bool
is_skipped [] = true
is_skipped (first ∷ more) = first == 35

-- This word, followed by a decimal number.
abbrev pub IsNumbered : List ℕ → ℕ → List ℕ → Type 0
IsNumbered word number text = (digits : List ℕ) × (text ≡ word ++ digits) × IsNumeral 10 digits
    × (digits_value 10 digits ≡ number) × (number < 2 ^ 64)

-- This word, followed by bytes in hexadecimal, perhaps none, with spaces anywhere.
abbrev pub IsSpelled : List ℕ → List ℕ → List ℕ → Type 0
IsSpelled word bytes text = (digits : List ℕ) × (text ≡ word ++ digits) × (bytes_spelled digits ≡ Some bytes)

-- A general status that an owner can give: one byte, and not "reply data too large".
abbrev pub IsStatus : ℕ → Type 0
IsStatus status = (status < 256) × (status ≡ 17 → ⊥)

-- What is before the first space of a text, and what is after it. Without a space, the text and nothing.
abbrev pub before_at : List ℕ → Option ℕ → List ℕ
before_at text None = text
before_at text (Some index) = take index text

abbrev pub after_at : List ℕ → Option ℕ → List ℕ
after_at text None = []
after_at text (Some index) = drop (index + 1) text

abbrev pub first_space : List ℕ → Option ℕ
first_space text = position (λ byte. byte == 32) text

abbrev pub before_space : List ℕ → List ℕ
before_space text = before_at text (first_space text)

abbrev pub after_space : List ℕ → List ℕ
after_space text = after_at text (first_space text)

-- A reply of the owner: a general status in decimal, a space, and up to 480 bytes in hexadecimal. Without data the
-- space may be left out.
pub record IsReplySpelled (reply : Reply) (text : List ℕ) : Type 0 where
  pub numeral : IsNumeral 10 (before_space text)
  pub status : digits_value 10 (before_space text) ≡ reply.status
  pub allowed : IsStatus reply.status
  pub content : bytes_spelled (after_space text) ≡ Some reply.content
  pub short : length reply.content ≤ 480

-- The text does not spell a reply of the owner.
abbrev pub SpellsNoReply : List ℕ → Type 0
SpellsNoReply text = (reply : Reply) → IsReplySpelled reply text → ⊥

-- The write that a line means: the owner of the device prepares a reply. No line means another write of the device.
abbrev pub MeansWrite : List ℕ → OwnWrite → Type 0
MeansWrite text (WritesData instance offset bytes) = ⊥
MeansWrite text (WritesAttribute class instance attribute offset bytes) = ⊥
MeansWrite text (SetsStatus status) = ⊥
MeansWrite text (SetsState state) = ⊥
MeansWrite text (Settles originator number reply) = ⊥
MeansWrite text (Finishes ticket reply) = ⊥
MeansWrite text (Marks ticket) = ⊥
MeansWrite text (Withdraws request) = ⊥
MeansWrite text (Prepares None) = ⊥
MeansWrite text (Prepares (Some reply)) = (rest : List ℕ) × (text ≡ codes "owner " ++ rest) × IsReplySpelled reply rest

-- The event that a line means.
abbrev pub Means : List ℕ → Event → Type 0
Means text (Submit request) = IsSpelled (codes "submit ") request text
Means text Resend = text ≡ codes "resend"
Means text (Reach position) = IsNumbered (codes "reach ") position text
Means text (Back position) = IsNumbered (codes "back ") position text
Means text (Other request) = IsSpelled (codes "other ") request text
Means text (Write write) = MeansWrite text write
Means text Shut = text ≡ codes "shut"
Means text GiveUp = text ≡ codes "giveup"

-- The line does not start with this word.
abbrev pub BeginsOtherwise : List ℕ → List ℕ → Type 0
BeginsOtherwise word text = (rest : List ℕ) → text ≡ word ++ rest → ⊥

-- The line is none of the three events without an argument.
pub record IsNotAKeyword (text : List ℕ) : Type 0 where
  pub no_resend : text ≡ codes "resend" → ⊥
  pub no_shut : text ≡ codes "shut" → ⊥
  pub no_giveup : text ≡ codes "giveup" → ⊥

-- The line means no event.
abbrev pub IsMeaningless : List ℕ → Type 0
IsMeaningless text = (event : Event) → Means text event → ⊥

-- The line is not skipped, and it means no event.
pub record IsRefusedLine (text : List ℕ) : Type 0 where
  pub unskipped : is_skipped text ≡ false
  pub meaningless : IsMeaningless text

-- The events that a line says: none if it is skipped, or the one that it means.
abbrev pub Says : List ℕ → List Event → Type 0
Says text [] = is_skipped text ≡ true
Says text (event ∷ []) = Means text event
Says text (event ∷ another ∷ more) = ⊥

-- The events that lines say, in order.
abbrev pub Say : List (List ℕ) → List Event → Type 0
Say [] events = events ≡ []
Say (line ∷ lines) events = (first : List Event) × (more : List Event) × Says line first × Say lines more
    × (events ≡ first ++ more)

-- The line with this number, from 1, is the first that is refused. The lines before it say these events.
pub record IsRefusedAt (number : ℕ) (lines : List (List ℕ)) (events : List Event) : Type 0 where
  pub earlier : List (List ℕ)
  pub line : List ℕ
  pub later : List (List ℕ)
  pub split : lines ≡ earlier ++ line ∷ later
  pub counted : number ≡ length earlier + 1
  pub said : Say earlier events
  pub refused : IsRefusedLine line
