-- The adapter that starts from what was kept.
use Rattle.std.specs.Prelude.{ℕ, ◌≡◌, ⊤, ◌==◌, nat_lt, Bool, IsTrue, true, false, not, ◌&&◌, ◌||◌, if◌then◌else◌}
use Rattle.std.specs.Prelude.{List, [], ◌∷◌, ◌++◌, length, filter, Option, Some, None, option_map, is_some}
use Rattle.cip_ledger.specs.Device.{Device, queued_device, with_reset}
use Rattle.cip_ledger.specs.Ledger.{SlotState, LedgerState, empty_ledger}
use Rattle.cip_objects.specs.Configuration.{contents_of_config}
use Rattle.cip_owner.specs.Queue.{QueueState, empty_queue}
use Rattle.cip_owner.specs.Reset.{ResetState, resettable}
use Rattle.device_state.specs.QueueEntries.{queue_put}
use Rattle.device_state.specs.declared.restoring.Outcome.{Outcome}
use Rattle.device_state.specs.declared.restoring.Outcome.TheVariants.{Used, Unknown, Unfit, OtherDevice}
use Rattle.device_state.specs.Restored.{Done, done, restored_entry}
use Rattle.device_state.specs.Saved.{State, state_of, entry_of}
use Rattle.enip_adapter.specs.Adapter.{shared_adapter}
use Rattle.enip_adapter.specs.Calls.{AdapterState}
use Rattle.enip_keep.specs.Kept.{Kept}
use Rattle.kept_server.specs.Changes.{rise}
use Rattle.kept_adapter.specs.declared.adapter_start.AdapterStart.{AdapterStart}
use Rattle.kept_adapter.specs.declared.adapter_start.LedgerStart.{LedgerStart}
use Rattle.kept_adapter.specs.declared.fault.StartFault.{StartFault}
use Rattle.kept_adapter.specs.declared.fault.StartFault.TheVariants.{Memory, OtherDevice as Another, Order}
use Rattle.kept_adapter.specs.declared.progress.Progress.{Progress}
use Rattle.kept_adapter.specs.declared.queue_progress.QueueProgress.{QueueProgress}
use Rattle.kept_adapter.specs.Keys.{ledger_key, is_ledger_key, is_value_key, device_key, is_queue_key, queue_number}
use Rattle.kept_adapter.specs.Saved.{adapter_keys}

-- ---- one entry

-- No bytes under the key of a slot: the slot is free.
abbrev pub is_free_slot : ℕ → List ℕ → Bool
is_free_slot key content = is_ledger_key key && not (key == ledger_key 0) && (length content == 0)

abbrev pub by_device_key : State → List ℕ → Option ℕ → Done State
by_device_key s content None = done s Unknown
by_device_key s content (Some key) = restored_entry s (entry_of key content)

-- The device after an entry, and what became of the entry. There is nothing to do for a slot that is free.
abbrev pub after_entry : State → ℕ → List ℕ → Done State
after_entry s key content =
    if is_free_slot key content then done s Used else by_device_key s content (device_key key)

abbrev pub is_used : Outcome → Bool
is_used Used = true
is_used Unknown = false
is_used Unfit = false
is_used OtherDevice = false

abbrev pub is_of_other_device : Outcome → Bool
is_of_other_device OtherDevice = true
is_of_other_device Used = false
is_of_other_device Unknown = false
is_of_other_device Unfit = false

-- ---- all entries

-- Nothing has been put back into a device with these objects and this ledger.
abbrev pub beginning : State → Progress
beginning s = record {
  objects = s.objects;
  ledger = s.ledger;
  has_life = false;
  has_lost = false;
  is_other_device = false;
}

abbrev pub progressed : Progress → ℕ → Done State → Progress
progressed p key d = record {
  objects = d.after.objects;
  ledger = d.after.ledger;
  has_life = p.has_life || (key == ledger_key 0);
  has_lost = p.has_lost || (is_ledger_key key && not (is_used d.outcome));
  is_other_device = p.is_other_device || is_of_other_device d.outcome;
}

abbrev pub put_back : Progress → ℕ × List ℕ → Progress
put_back p entry = progressed p entry.0 (after_entry (state_of p.objects p.ledger) entry.0 entry.1)

-- These entries are put back, one after another.
abbrev pub put_all_back : Progress → Kept → Progress
put_all_back p [] = p
put_all_back p (entry ∷ entries) = put_all_back (put_back p entry) entries

-- ---- the queue

-- Nothing has been put back into this queue, if there is one.
abbrev pub empty_progress : Option QueueState → QueueProgress
empty_progress queue = record { queue = queue; has_lost = false }

abbrev pub queue_progressed : QueueProgress → Option QueueState → QueueProgress
queue_progressed p None = record p { has_lost = true }
queue_progressed p (Some after) = record p { queue = Some after }

abbrev pub entry_to_queue : QueueProgress → ℕ → List ℕ → Option QueueState → QueueProgress
entry_to_queue p number content None = p
entry_to_queue p number content (Some queue) = queue_progressed p (queue_put queue number content)

-- An entry of the queue is put back, or is lost. If there is no queue, it stays kept for a configuration that has one.
abbrev pub put_queue_back : QueueProgress → ℕ × List ℕ → QueueProgress
put_queue_back p entry =
    if is_queue_key entry.0 then entry_to_queue p (queue_number entry.0) entry.1 p.queue else p

abbrev pub put_queue_all_back : QueueProgress → Kept → QueueProgress
put_queue_all_back p [] = p
put_queue_all_back p (entry ∷ entries) = put_queue_all_back (put_queue_back p entry) entries

-- ---- the tickets of pending commands

-- The queue has given this ticket.
abbrev pub has_given : Option ℕ → Option QueueState → Bool
has_given None queue = true
has_given (Some ticket) None = false
has_given (Some ticket) (Some queue) = nat_lt ticket queue.next

-- The ticket of a command that is pending. That of one that was withdrawn is none of a queue.
abbrev pub ticket_by : Option (List ℕ) → Option ℕ → Option ℕ
ticket_by None ticket = ticket
ticket_by (Some reply) ticket = None

abbrev pub pending_ticket : SlotState → Option ℕ
pending_ticket slot = ticket_by slot.reply slot.ticket

abbrev pub has_given_each : List SlotState → Option QueueState → Bool
has_given_each [] queue = true
has_given_each (slot ∷ slots) queue = has_given (pending_ticket slot) queue && has_given_each slots queue

-- The queue has given the ticket of each command that is pending in the ledger, so it gives none of them again.
abbrev pub has_given_all : Option LedgerState → Option QueueState → Bool
has_given_all None queue = true
has_given_all (Some ledger) queue = has_given_each ledger.taken queue

-- ---- the start

abbrev pub new_queue : Option ℕ → Option QueueState
new_queue limit = option_map empty_queue limit

abbrev pub queue_back_in : AdapterStart → Kept → QueueProgress
queue_back_in start kept = put_queue_all_back (empty_progress (new_queue start.queue)) kept

-- The queue as it was kept. If an entry of it is lost, or if a new life is wanted, it is empty.
abbrev pub trusted_queue : AdapterStart → QueueProgress → Option QueueState
trusted_queue start q = if q.has_lost || start.begins_life then new_queue start.queue else q.queue

abbrev pub new_ledger : Option LedgerStart → Option LedgerState
new_ledger ledger = option_map (λ l. empty_ledger l.originators l.life) ledger

-- The device as it is configured.
abbrev pub configured : AdapterStart → State
configured start = state_of (contents_of_config start.objects) (new_ledger start.ledger)

abbrev pub put_back_in : AdapterStart → Kept → Progress
put_back_in start kept = put_all_back (beginning (configured start)) kept

-- No entry of the ledger or of the queue is lost, and each command that is pending in the ledger has a ticket of the queue.
abbrev pub is_trusted : AdapterStart → Progress → QueueProgress → Bool
is_trusted start p q =
    p.has_life && (not p.has_lost && (not q.has_lost && (has_given_all p.ledger q.queue && not start.begins_life)))

-- The ledger as it was kept, in the life in which it was kept. If it is not trusted, or if a new life is wanted, the
-- ledger is empty, in a life of its own.
abbrev pub trusted_ledger : AdapterStart → Progress → QueueProgress → Option LedgerState
trusted_ledger start p q = if is_trusted start p q then p.ledger else new_ledger start.ledger

-- What the device needs to be reset, if its configuration lets peers do so. No Reset was executed yet.
abbrev pub reset_from : AdapterStart → Option ResetState
reset_from start = if start.reset then Some (resettable start.objects) else None

abbrev pub started_device : AdapterStart → Progress → QueueProgress → Device
started_device start p q =
    with_reset (reset_from start)
    (queued_device (trusted_ledger start p q) p.objects (trusted_queue start q))

abbrev pub started_from : AdapterStart → Progress → QueueProgress → AdapterState
started_from start p q = shared_adapter (started_device start p q) start.listen start.limits start.shares

abbrev pub started : AdapterStart → Kept → AdapterState
started start kept = started_from start (put_back_in start kept) (queue_back_in start kept)

-- The entries are refused if they are of another device, or if the keys of the adapter do not rise in the order of its
-- entries. They rise if the assemblies and the application objects are configured in rising order.
abbrev pub is_refused : AdapterStart → Kept → Bool
is_refused start kept =
    (put_back_in start kept).is_other_device || not (rise (adapter_keys (started start kept)))

abbrev pub Refuses : AdapterStart → Kept → Type 0
Refuses start kept = IsTrue (is_refused start kept)

-- When each fault comes.
abbrev pub IsStartFault : AdapterStart → Kept → StartFault → Type 0
IsStartFault start kept Memory = ⊤
IsStartFault start kept Another = (put_back_in start kept).is_other_device ≡ true
IsStartFault start kept Order =
    ((put_back_in start kept).is_other_device ≡ false) × (rise (adapter_keys (started start kept)) ≡ false)

-- ---- what is not used

-- The keys of the entries that are not used, in order. Those of the queue are apart.
abbrev pub unused_keys : Progress → Kept → List ℕ
unused_keys p [] = []
unused_keys p (entry ∷ entries) =
    let later = unused_keys (put_back p entry) entries in
    if is_used (after_entry (state_of p.objects p.ledger) entry.0 entry.1).outcome || is_queue_key entry.0 then later
    else entry.0 ∷ later

-- The queue takes its entry with this number. Without a queue there is nothing to take of a free place.
abbrev pub is_taken : Option QueueState → ℕ → List ℕ → Bool
is_taken None number content = length content == 0
is_taken (Some queue) number content = is_some (queue_put queue number content)

-- The entry is used, if it is one of the queue.
abbrev pub is_queue_used : QueueProgress → ℕ × List ℕ → Bool
is_queue_used p entry = not (is_queue_key entry.0) || is_taken p.queue (queue_number entry.0) entry.1

abbrev pub unused_queue_keys : QueueProgress → Kept → List ℕ
unused_queue_keys p [] = []
unused_queue_keys p (entry ∷ entries) =
    let later = unused_queue_keys (put_queue_back p entry) entries in
    if is_queue_used p entry then later else entry.0 ∷ later

-- Those of all entries, those of the queue last.
abbrev pub all_unused_keys : AdapterStart → Kept → List ℕ
all_unused_keys start kept =
    unused_keys (beginning (configured start)) kept ++ unused_queue_keys (empty_progress (new_queue start.queue)) kept

-- Those of values. What is kept under them stays until the value changes. If an entry of the ledger or of the queue is
-- not used, the ledger starts empty, and all its entries are new. If the identity is another one, nothing starts.
abbrev pub waiting_keys : AdapterStart → Kept → List ℕ
waiting_keys start kept = filter is_value_key (unused_keys (beginning (configured start)) kept)
