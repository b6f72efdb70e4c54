-- An input that is read line by line, and what its lines do.
use Rattle.std.specs.Prelude.{◌≡◌, ◌+◌, ◌==◌, if◌then◌else◌, ℕ, List, [], ◌∷◌, ◌++◌, map, length, ⊤, Bool, false}
use Rattle.std.specs.Prelude.{Option, Some, None, Result, Ok, Err}
use Rattle.std.specs.List.{list_any}
use Rattle.std.specs.Io.KnownBytes.{Keeps}
use Rattle.enip_lines.specs.Lines.{without_return}
use Rattle.enip_faults.specs.Statuses.{IsOfDevices}
use Rattle.enip_faults.specs.declared.fault.ProgramFault.{ProgramFault}
use Rattle.enip_faults.specs.declared.fault.ProgramFault.TheVariants.{Line}

-- ---- the lines of an input

-- A byte, and then the first of these texts.
abbrev pub in_first : ℕ → List (List ℕ) → List (List ℕ)
in_first byte [] = (byte ∷ []) ∷ []
in_first byte (text ∷ texts) = (byte ∷ text) ∷ texts

-- The texts of an input: each ends at a newline, the last one maybe at the end of the input. No empty text follows the
-- last newline.
unfoldable pub texts_of : List ℕ → List (List ℕ)
texts_of [] = []
texts_of (byte ∷ bytes) = if byte == 10 then [] ∷ texts_of bytes else in_first byte (texts_of bytes)

-- The lines of an input, which end in `\n` or `\r\n`.
abbrev pub lines_of : List ℕ → List (List ℕ)
lines_of bytes = map without_return (texts_of bytes)

-- These bytes are those of an input, if they are known.
abbrev pub IsInput : Option (List ℕ) → List ℕ → Type 0
IsInput None bytes = ⊤
IsInput (Some known) bytes = bytes ≡ known

-- ---- what the lines do

-- The fault is of the line with this number, which may be refused, or a device or memory failed.
abbrev pub EndsAt : Type 0 → ℕ → ProgramFault → Type 0
EndsAt refused number (Line n why) = (n ≡ number) × refused
EndsAt refused number fault = IsOfDevices fault

-- What a line does: its text, the state of a command before and after it, and what the output holds before and after it,
-- if that is known.
abbrev pub LineEffect : Type 0 → Type 1
LineEffect S = List ℕ → S → S → Option (List ℕ) → Option (List ℕ) → Type 0

-- These lines were run in order. Between them the output stays as it is.
abbrev pub AreRun : {S : Type 0} → LineEffect S → List (List ℕ) → S → S → Option (List ℕ) → Option (List ℕ) → Type 0
AreRun does [] old new before after = (new ≡ old) × Keeps before after
AreRun {S} does (line ∷ lines) old new before after =
    (between : S) × (from to : Option (List ℕ)) × Keeps before from × does line old between from to
    × AreRun does lines between new to after

-- All lines of an input were run.
pub record AreAllRun {S : Type 0} (does : LineEffect S) (input : Option (List ℕ)) (old new : S)
    (before after : Option (List ℕ)) : Type 0 where
  pub bytes : List ℕ
  pub input_is : IsInput input bytes
  pub run : AreRun does (lines_of bytes) old new before after

-- The line with this number, from 1, is refused. The lines before it were run, and nothing else was printed.
pub record IsLineRefused {S : Type 0} (does : LineEffect S) (refuses : List ℕ → Type 0) (input : Option (List ℕ))
    (old : S) (before after : Option (List ℕ)) (number : ℕ) : Type 0 where
  pub bytes : List ℕ
  pub input_is : IsInput input bytes
  pub earlier : List (List ℕ)
  pub line : List ℕ
  pub later : List (List ℕ)
  pub lines_are : lines_of bytes ≡ earlier ++ line ∷ later
  pub number_is : number ≡ length earlier + 1
  pub new : S
  pub run : AreRun does earlier old new before after
  pub refused : refuses line

-- Why not all lines of an input were run: one is refused, or a device or memory failed.
abbrev pub StopsAtLine : {S : Type 0} → LineEffect S → (List ℕ → Type 0) → Option (List ℕ) → S
    → Option (List ℕ) → Option (List ℕ) → ProgramFault → Type 0
StopsAtLine does refuses input old before after (Line number why) =
    IsLineRefused does refuses input old before after number
StopsAtLine does refuses input old before after fault = IsOfDevices fault

-- All lines of an input were run, or why not.
abbrev pub IsTakenToEnd : {S : Type 0} → LineEffect S → (List ℕ → Type 0) → Option (List ℕ) → S → S
    → Option (List ℕ) → Option (List ℕ) → Result (Unit {0}) ProgramFault → Type 0
IsTakenToEnd does refuses input old new before after (Ok done) = AreAllRun does input old new before after
IsTakenToEnd does refuses input old new before after (Err fault) =
    StopsAtLine does refuses input old before after fault

-- ---- how an input is taken, chunk by chunk

abbrev pub has_newline : List ℕ → Bool
has_newline bytes = list_any (λ byte. byte == 10) bytes

-- These texts have ended in some bytes, and the next one has begun. Whatever follows is split with that beginning.
pub record AreCut (bytes : List ℕ) (texts : List (List ℕ)) (begun : List ℕ) : Type 0 where
  pub split : (more : List ℕ) → texts_of (bytes ++ more) ≡ texts ++ texts_of (begun ++ more)
  pub unended : has_newline begun ≡ false

-- The lines that ended in some bytes were run. The next one has this number, and has begun.
pub record AreTaken {S : Type 0} (does : LineEffect S) (bytes begun : List ℕ) (number : ℕ) (old new : S)
    (before after : Option (List ℕ)) : Type 0 where
  pub texts : List (List ℕ)
  pub cut : AreCut bytes texts begun
  pub run : AreRun does (map without_return texts) old new before after
  pub number_is : number ≡ length texts + 1

-- Of the lines that ended in some bytes, the one with this number is refused, whatever follows these bytes.
pub record IsRefusedIn {S : Type 0} (does : LineEffect S) (refuses : List ℕ → Type 0) (bytes : List ℕ) (old : S)
    (before after : Option (List ℕ)) (number : ℕ) : Type 0 where
  pub texts : List (List ℕ)
  pub text : List ℕ
  pub begun : List ℕ
  pub split : (more : List ℕ) → texts_of (bytes ++ more) ≡ texts ++ text ∷ texts_of (begun ++ more)
  pub number_is : number ≡ length texts + 1
  pub new : S
  pub run : AreRun does (map without_return texts) old new before after
  pub refused : refuses (without_return text)

-- The lines that end in a chunk were run, after those before it: all of them, or those before a refused one.
abbrev pub IsChunkTaken : {S : Type 0} → LineEffect S → (List ℕ → Type 0) → List ℕ → List ℕ → S → S
    → Option (List ℕ) → Option (List ℕ) → Result ℕ ProgramFault → Type 0
IsChunkTaken does refuses bytes begun old new before after (Ok number) =
    AreTaken does bytes begun number old new before after
IsChunkTaken does refuses bytes begun old new before after (Err (Line number why)) =
    IsRefusedIn does refuses bytes old before after number
IsChunkTaken does refuses bytes begun old new before after (Err fault) = IsOfDevices fault
