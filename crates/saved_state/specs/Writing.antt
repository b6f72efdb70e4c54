-- Writing a state.
use Rattle.std.specs.Prelude.{◌^◌, not, nat_lt, if◌then◌else◌, ℕ, List, [], get_or, length, Option, Some, None}
use Rattle.saved_state.specs.declared.fault.WriteFault.{WriteFault}
use Rattle.saved_state.specs.declared.fault.WriteFault.TheVariants.{Order, TooLong, Full}
use Rattle.saved_state.specs.declared.writing.EntryHead.{EntryHead}
use Rattle.saved_state.specs.States.{Entry, size, rise_from}

-- The entry at an index.
abbrev pub entry_number : ℕ → List Entry → Entry
entry_number index es = get_or es index (record { key = 0; bytes = [] })

-- What an entry begins with: its key, and how many bytes it has.
abbrev pub head_of : Entry → EntryHead
head_of e = record { key = e.key; len = length e.bytes }

-- Why no state has these entries: the keys do not rise, or it has more bytes than four bytes can count.
abbrev pub entries_refusal : List Entry → Option WriteFault
entries_refusal es =
    if not (rise_from 0 es) then Some Order
    else (if nat_lt (size es) (2 ^ 32) then None
    else Some TooLong)

-- Why they are not written to a buffer of this size.
abbrev pub write_refusal : ℕ → List Entry → Option WriteFault
write_refusal capacity es =
    if not (rise_from 0 es) then Some Order
    else (if not (nat_lt (size es) (2 ^ 32)) then Some TooLong
    else (if nat_lt capacity (size es) then Some Full
    else None))
