-- The list of the slots that are taken, as Get_Slots answers it.
use Rattle.std.specs.Prelude.{ℕ, ◌-◌, nat_lt, if◌then◌else◌, Option, Some, None, List, [], ◌∷◌, ◌++◌, length, drop}
use Rattle.cip_bytes.specs.Numbers.{le}
use Rattle.cip_ledger.specs.Ledger.{SlotState}

-- the bytes of a slot in the list
abbrev pub ENTRY_SIZE : ℕ
ENTRY_SIZE = 13

-- the state of a command by what is kept of it, its reply or its ticket or both: done, withdrawn, pending, or in doubt
abbrev pub state_byte : Option (List ℕ) → Option ℕ → ℕ
state_byte (Some reply) None = 0
state_byte (Some reply) (Some ticket) = 3
state_byte None (Some ticket) = 1
state_byte None None = 2

-- the originator, and the number and the state of its last command
abbrev pub entry : SlotState → List ℕ
entry slot = le 8 slot.originator ++ le 4 slot.number ++ state_byte slot.reply slot.ticket ∷ []

-- the first of these slots, as many as fit into this space
abbrev pub entries_within : ℕ → List SlotState → List ℕ
entries_within space [] = []
entries_within space (slot ∷ slots) =
    if nat_lt space ENTRY_SIZE then [] else entry slot ++ entries_within (space - ENTRY_SIZE) slots

-- how many slots are taken, and then the slots from this index on, as many as fit into this space with the count
abbrev pub slot_list : ℕ → ℕ → List SlotState → List ℕ
slot_list space first taken = le 2 (length taken) ++ entries_within (space - 2) (drop first taken)
