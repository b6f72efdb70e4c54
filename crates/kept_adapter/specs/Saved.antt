-- What is kept of an adapter: the entries of device_state, under keys that stay the same.
use Rattle.std.specs.Prelude.{ℕ, zero, suc, ◌-◌, ◌==◌, ◌&&◌, not, nat_lt, nat_le, if◌then◌else◌, Bool, List, [], ◌∷◌, ◌++◌, length, map, Option, Some, None, slice_get}
use Rattle.cip_bytes.specs.Numbers.{le}
use Rattle.cip_ledger.specs.Ledger.{SlotState, LedgerState}
use Rattle.cip_objects.specs.Contents.{Contents}
use Rattle.cip_owner.specs.Queue.{QueueState}
use Rattle.device_state.specs.QueueEntries.{PLACES, QUEUE_ENTRIES, queue_bytes}
use Rattle.device_state.specs.Saved.{Entry, saved, object_entries, needs_version_2, slot_bytes, state_of}
use Rattle.enip_adapter.specs.Calls.{AdapterState}
use Rattle.enip_keep.specs.Kept.{Kept}
use Rattle.kept_server.specs.Changes.{keys_of}
use Rattle.kept_adapter.specs.Keys.{ledger_key, queue_key}

abbrev pub pair_of : Entry → ℕ × List ℕ
pair_of entry = (entry.key, entry.content)

-- The objects, and which device it is.
abbrev pub saved_objects : Contents → Kept
saved_objects objects = map pair_of (saved (state_of objects None))

-- The same, with the version of the state behind which device it is if it is 2.
abbrev pub versioned_objects : Contents → Bool → Kept
versioned_objects objects is_version_2 = map pair_of (object_entries objects is_version_2)

-- The content of a slot. A free slot has no bytes.
abbrev pub bytes_of_slot : Option SlotState → List ℕ
bytes_of_slot None = []
bytes_of_slot (Some slot) = slot_bytes slot

-- The content of an entry of the ledger: of the life, or of a slot.
abbrev pub ledger_bytes : LedgerState → ℕ → List ℕ
ledger_bytes ledger zero = le 8 ledger.life
ledger_bytes ledger (suc index) = bytes_of_slot (slice_get ledger.taken index)

-- The first numbered entries, so many, by the key and the content of each number.
abbrev pub first_of : (ℕ → ℕ) → (ℕ → List ℕ) → ℕ → Kept
first_of key content zero = []
first_of key content (suc count) = first_of key content count ++ (key count, content count) ∷ []

-- Those of the ledger.
abbrev pub first_entries : LedgerState → ℕ → Kept
first_entries ledger count = first_of ledger_key (ledger_bytes ledger) count

-- The life, and each of the 64 slots that a ledger has at most.
abbrev pub ENTRIES : ℕ
ENTRIES = 65

abbrev pub saved_ledger : Option LedgerState → Kept
saved_ledger None = []
saved_ledger (Some ledger) = first_entries ledger ENTRIES

-- The first entries of the queue, so many.
abbrev pub first_queue_entries : QueueState → ℕ → Kept
first_queue_entries queue count = first_of queue_key (queue_bytes queue) count

-- Whether the entry with this number is that of a place that no command and no result has.
abbrev pub is_free : QueueState → ℕ → Bool
is_free q number =
    not (number == 0)
    && (if nat_lt (number - 1) PLACES then nat_le (length q.waiting) (number - 1)
    else nat_le (length q.results) (number - 1 - PLACES))

-- The next ticket, and each of the places that a queue has at most.
abbrev pub saved_queue : Option QueueState → Kept
saved_queue None = []
saved_queue (Some queue) = first_queue_entries queue QUEUE_ENTRIES

abbrev pub saved_device : Contents → Option LedgerState → Option QueueState → Kept
saved_device objects ledger queue =
    versioned_objects objects (needs_version_2 queue ledger) ++ (saved_ledger ledger ++ saved_queue queue)

abbrev pub saved_adapter : AdapterState → Kept
saved_adapter a =
    let device = a.state.shared.objects in saved_device device.router.objects device.ledger device.router.queue

abbrev pub adapter_keys : AdapterState → List ℕ
adapter_keys a = keys_of (saved_adapter a)
