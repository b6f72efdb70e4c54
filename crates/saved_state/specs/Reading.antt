-- Reading a state: the same by numbers, to compute with, and why bytes are not a state.
use Rattle.std.specs.Prelude.{◌+◌, ◌-◌, ◌^◌, ◌==◌, ◌||◌, not, nat_lt, if◌then◌else◌, ℕ, zero, suc}
use Rattle.std.specs.Prelude.{List, [], ◌∷◌, length, take, drop, Option, Some, None, Result, Ok, Err}
use Rattle.saved_state.specs.Numbers.{udint_at, ulint_at}
use Rattle.saved_state.specs.declared.fault.StateFault.{StateFault}
use Rattle.saved_state.specs.declared.fault.StateFault.TheVariants.{NotAState, Version, Cut, TooLong, Checksum, Layout, Order}
use Rattle.saved_state.specs.Checksum.{checksum}
use Rattle.saved_state.specs.States.{Entry, State}

-- ---- entries

-- The entry at the front of the bytes, and its size.
abbrev pub entry_at : List ℕ → Entry
entry_at text = record { key = ulint_at 0 text; bytes = take (udint_at 8 text) (drop 12 text) }

abbrev pub size_at : List ℕ → ℕ
size_at text = 12 + udint_at 8 text

-- The first n entries, as far as they are whole.
abbrev pub first_entries : ℕ → List ℕ → List Entry
first_entries zero text = []
first_entries (suc n) text =
    if nat_lt (length text) (size_at text) then [] else entry_at text ∷ first_entries n (drop (size_at text) text)

-- Why the bytes are not n entries whose keys rise from `least` on: the first fault from the front.
abbrev pub entries_fault : ℕ → ℕ → List ℕ → Option StateFault
entries_fault zero least [] = None
entries_fault zero least (b ∷ rest) = Some Layout
entries_fault (suc n) least text =
    if nat_lt (length text) (size_at text) then Some Layout
    else (if nat_lt (ulint_at 0 text) least || not (nat_lt (ulint_at 0 text) (2 ^ 63)) then Some Order
    else entries_fault n (ulint_at 0 text + 1) (drop (size_at text) text))

-- ---- a state

-- The mark, as a number.
abbrev pub MARK : ℕ
MARK = 0x54504b49424d4f53

-- The fields of the head.
abbrev pub version_in : List ℕ → ℕ
version_in text = udint_at 8 text

abbrev pub size_in : List ℕ → ℕ
size_in text = udint_at 12 text

abbrev pub generation_in : List ℕ → ℕ
generation_in text = ulint_at 16 text

abbrev pub count_in : List ℕ → ℕ
count_in text = udint_at 24 text

-- All but the last eight bytes, the bytes of the entries, and the last eight bytes as a number.
abbrev pub body_in : List ℕ → List ℕ
body_in text = take (length text - 8) text

abbrev pub entries_in : List ℕ → List ℕ
entries_in text = drop 28 (body_in text)

abbrev pub checksum_in : List ℕ → ℕ
checksum_in text = ulint_at (length text - 8) text

abbrev pub state_in : List ℕ → State
state_in text =
    record { generation = generation_in text; entries = first_entries (count_in text) (entries_in text) }

-- What the head shows, in the order of the checks: the bytes do not begin with the mark, they have another version,
-- or there are fewer or more of them than the head says. The smallest state has 36 bytes.
abbrev pub head_fault : List ℕ → Option StateFault
head_fault text =
    if nat_lt (length text) 8 || not (ulint_at 0 text == MARK) then Some NotAState
    else (if nat_lt (length text) 12 then Some Cut
    else (if not (version_in text == 1) then Some (Version (version_in text))
    else (if nat_lt (length text) 36 || nat_lt (length text) (size_in text) then Some Cut
    else (if nat_lt (size_in text) (length text) then Some TooLong
    else None))))

-- What shows if the head is right: the last eight bytes are not the checksum of those before, or the rest is not the
-- entries of a state.
abbrev pub content_fault : List ℕ → Option StateFault
content_fault text =
    if not (checksum (body_in text) == checksum_in text) then Some Checksum
    else entries_fault (count_in text) 0 (entries_in text)

abbrev pub first_of : Option StateFault → Option StateFault → Option StateFault
first_of (Some fault) later = Some fault
first_of None later = later

-- Why the bytes are not a state, if they are not.
abbrev pub fault_of : List ℕ → Option StateFault
fault_of text = first_of (head_fault text) (content_fault text)

-- The value, unless there is a fault.
abbrev pub unless : {A : Type 0} → Option StateFault → A → Result A StateFault
unless None value = Ok value
unless (Some fault) value = Err fault

-- Reads a state: all of the bytes.
abbrev pub state_of : List ℕ → Result State StateFault
state_of text = unless (fault_of text) (state_in text)
