-- What is kept of an adapter, as the entries of a saved state.
use Rattle.std.specs.Prelude.{◌≡◌, ◌⊎◌, ℕ, ◌≤◌, ◌+◌, ◌==◌, ◌&&◌, ◌%◌, ◌^◌, Bool, true, false, if◌then◌else◌, bytes_eq}
use Rattle.std.specs.Prelude.{List, [], ◌∷◌, length, map, Option, Some, None, option_map, Result, Ok, Err}
use Rattle.cip_ledger.specs.declared.doubt.DoubtfulCommand.{DoubtfulCommand}
use Rattle.cip_ledger.specs.Executing.{doubted_by, IsDoubtedAt}
use Rattle.cip_ledger.specs.Ledger.{LedgerState}
use Rattle.cip_objects.specs.Contents.{Contents}
use Rattle.cip_owner.specs.Queue.{QueueState}
use Rattle.enip_adapter.specs.Calls.{AdapterState}
use Rattle.enip_keep.specs.Kept.{Kept}
use Rattle.kept_adapter.specs.Saved.{saved_device, saved_objects}
use Rattle.saved_state.specs.declared.fault.StateFault.{StateFault}
use Rattle.saved_state.specs.Reading.{state_of}
use Rattle.saved_state.specs.States.{Entry, State}

-- An entry that is kept, as one of a state, and back.
abbrev pub entry_of : ℕ × List ℕ → Entry
entry_of pair = record { key = pair.0; bytes = pair.1 }

abbrev pub pair_in : Entry → ℕ × List ℕ
pair_in entry = (entry.key, entry.bytes)

abbrev pub entries_of : Kept → List Entry
entries_of kept = map entry_of kept

abbrev pub kept_in : List Entry → Kept
kept_in entries = map pair_in entries

-- The entries of a device whose ledger, if it has one, has this command in doubt, if there is one.
abbrev pub entries_with : Option DoubtfulCommand → Contents → Option LedgerState → Option QueueState → List Entry
entries_with doubt objects ledger queue =
    entries_of (saved_device objects (option_map (doubted_by doubt) ledger) queue)

abbrev pub entries_in_doubt : Option DoubtfulCommand → AdapterState → List Entry
entries_in_doubt doubt a =
    let device = a.state.shared.objects in
    entries_with doubt device.router.objects device.ledger device.router.queue

-- An entry, if there is one: its key, and the bytes that were written.
abbrev pub entry_in : Option ℕ → List ℕ → Option Entry
entry_in None bytes = None
entry_in (Some key) bytes = Some (record { key = key; bytes = bytes })

-- How many values the objects have that are kept, as far as a number of 64 bits can count them.
abbrev pub IsCounted : Contents → ℕ → Type 0
IsCounted objects count =
    (count ≤ length (saved_objects objects))
    × ((count ≡ length (saved_objects objects)) ⊎ (2 ^ 64 ≤ count + 1))

-- Where a command would be in doubt in a ledger. Without a command there is no such index.
abbrev pub IsMarkedAt : LedgerState → Option DoubtfulCommand → Option ℕ → Type 0
IsMarkedAt ledger None index = index ≡ None
IsMarkedAt ledger (Some command) index = IsDoubtedAt ledger command index

-- ---- generations

abbrev pub are_same : List Entry → List Entry → Bool
are_same [] [] = true
are_same [] (f ∷ fs) = false
are_same (e ∷ es) [] = false
are_same (e ∷ es) (f ∷ fs) = (e.key == f.key) && (bytes_eq e.bytes f.bytes && are_same es fs)

-- No bytes are the state of a device that starts for the first time: nothing was kept, in generation 0.
abbrev pub nothing_kept : State
nothing_kept = record { generation = 0; entries = [] }

abbrev pub last_state : List ℕ → Result State StateFault
last_state [] = Ok nothing_kept
last_state (b ∷ bytes) = state_of (b ∷ bytes)

-- The generation of these entries: that of the last state if it has the same ones, otherwise the next.
abbrev pub generation_after : State → List Entry → ℕ
generation_after last entries =
    if are_same entries last.entries then last.generation else (last.generation + 1) % 2 ^ 64

abbrev pub generation_of : Result State StateFault → List Entry → Result ℕ StateFault
generation_of (Ok last) entries = Ok (generation_after last entries)
generation_of (Err fault) entries = Err fault
