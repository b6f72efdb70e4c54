-- What the calls for the state of an adapter return to C.
use Rattle.std.specs.Prelude.{ℕ, ◌≡◌, ◌⊎◌, ⊤, Bool, false, if◌then◌else◌, Option, Some, None, Result, Ok, Err}
use Rattle.std.specs.Prelude.{List, [], ◌++◌, map, drop, length, option_map}
use Rattle.cip_ledger.specs.declared.doubt.DoubtfulCommand.{DoubtfulCommand}
use Rattle.cip_ledger.specs.Doubt.{command_name, doubtful_in, settled}
use Rattle.cip_ledger.specs.Ledger.{LedgerState}
use Rattle.enip_adapter.specs.Calls.{AdapterState}
use Rattle.enip_adapter.specs.Device.{with_ledger}
use Rattle.enip_adapter.specs.Executing.{executing}
use Rattle.enip_adapter.specs.OwnWrites.{can_settle_in}
use Rattle.enip_config.specs.declared.configuration.Configuration.{Configuration}
use Rattle.enip_config.specs.declared.ledger.LedgerConfig.{LedgerConfig}
use Rattle.configured_adapter.specs.Configured.{listen_of, limits_of, shares_from}
use Rattle.enip_config.specs.Commands.{queue_limit}
use Rattle.enip_config.specs.Documents.{IsDescribed, IsRefused}
use Rattle.enip_c.specs.AdapterCalls.{check_number, IsQueuedText}
use Rattle.kept_adapter.specs.declared.adapter_start.AdapterStart.{AdapterStart}
use Rattle.kept_adapter.specs.declared.adapter_start.LedgerStart.{LedgerStart}
use Rattle.saved_adapter.specs.declared.starting.RestoreFault.{RestoreFault}
use Rattle.saved_adapter.specs.declared.starting.RestoreFault.TheVariants as fault
use Rattle.saved_adapter.specs.Entries.{entries_in_doubt, generation_after, last_state}
use Rattle.saved_adapter.specs.Starting.{IsRestoreFault, IsStartedFrom}
use Rattle.saved_state.specs.declared.fault.StateFault.{StateFault}
use Rattle.saved_state.specs.declared.fault.StateFault.TheVariants as state_fault
use Rattle.saved_state.specs.declared.fault.WriteFault.{WriteFault}
use Rattle.saved_state.specs.declared.fault.WriteFault.TheVariants.{Order, TooLong, Full}
use Rattle.saved_state.specs.States.{Entry, State, size, spelled}
use Rattle.saved_state.specs.Writing.{write_refusal}
use Rattle.enip_c.specs.declared.starting.CRefusal.{CRefusal}
use Rattle.enip_c.specs.declared.starting.KeptFault.{KeptFault}
use Rattle.enip_c.specs.declared.starting.KeptFault.TheVariants as kept_fault
use Rattle.enip_c.specs.declared.status.Status.{Status}
use Rattle.enip_c.specs.declared.status.Status.TheVariants as status
use Rattle.enip_c.specs.Buffer.{status_number, Returned, returned}

-- ---- commands

-- The command that the piece of a peer would execute.
abbrev pub command_kept : Option AdapterState → ℕ → List ℕ → Option DoubtfulCommand
command_kept None peer piece = None
command_kept (Some a) peer piece = executing a peer piece

-- The commands in doubt.
abbrev pub doubtful_of : Option LedgerState → List DoubtfulCommand
doubtful_of None = []
doubtful_of (Some ledger) = map command_name (doubtful_in ledger)

abbrev pub doubtful_kept : Option AdapterState → List DoubtfulCommand
doubtful_kept None = []
doubtful_kept (Some a) = doubtful_of a.state.shared.objects.ledger

-- The status, and the originator and the number of a command if there is one.
abbrev pub ReturnsCommand : Option DoubtfulCommand → ℕ → ℕ → ℕ → ℕ → ℕ → Type 0
ReturnsCommand None originator_old number_old originator_new number_new result =
    (result ≡ status_number status.Absent) × ((originator_new ≡ originator_old) × (number_new ≡ number_old))
ReturnsCommand (Some command) originator_old number_old originator_new number_new result =
    (result ≡ status_number status.Done)
    × ((originator_new ≡ command.originator) × (number_new ≡ command.number))

-- Settling a command, and its status.
abbrev pub settle_status : Bool → Status
settle_status is_settled = if is_settled then status.Done else status.Absent

pub record IsSettled (old new : AdapterState) (originator number : ℕ) (reply : List ℕ) (result : ℕ) : Type 0 where
  pub state : new ≡ with_ledger old
      (option_map (λ ledger. settled ledger originator number reply) old.state.shared.objects.ledger)
  pub status : result
      ≡ status_number (settle_status (can_settle_in old.state.shared.objects.ledger originator number reply))

abbrev pub IsSettledKept : Option AdapterState → Option AdapterState → ℕ → ℕ → List ℕ → ℕ → Type 0
IsSettledKept (Some old) (Some new) originator number reply result = IsSettled old new originator number reply result
IsSettledKept old new originator number reply result = ⊥

-- ---- the state

-- What is kept of an adapter, with the command in doubt that the piece of a peer would execute.
abbrev pub entries_kept : Option AdapterState → ℕ → List ℕ → List Entry
entries_kept None peer piece = []
entries_kept (Some a) peer piece = entries_in_doubt (executing a peer piece) a

-- The state is written if it fits, and `count` is its size. If it does not fit, `count` is the size that it needs. If
-- the keys do not rise, nothing changes.
abbrev pub state_by : Option WriteFault → List Entry → ℕ → ℕ → List ℕ → Returned
state_by None entries generation count buffer =
    returned status.Done (size entries)
    (spelled (record { generation = generation; entries = entries }) ++ drop (size entries) buffer)
state_by (Some Full) entries generation count buffer = returned status.Room (size entries) buffer
state_by (Some Order) entries generation count buffer = returned status.State count buffer
state_by (Some TooLong) entries generation count buffer = returned status.State count buffer

abbrev pub returned_state : List Entry → ℕ → ℕ → List ℕ → Returned
returned_state entries generation count buffer =
    state_by (write_refusal (length buffer) entries) entries generation count buffer

-- The status, and the generation if the last state is one.
abbrev pub generation_by : Result State StateFault → List Entry → ℕ → ℕ → ℕ → Type 0
generation_by (Ok last) entries old new result =
    (result ≡ status_number status.Done) × (new ≡ generation_after last entries)
generation_by (Err fault) entries old new result = (result ≡ status_number status.SavedState) × (new ≡ old)

abbrev pub ReturnsGeneration : List ℕ → List Entry → ℕ → ℕ → ℕ → Type 0
ReturnsGeneration last entries old new result = generation_by (last_state last) entries old new result

-- ---- the start

abbrev pub ledger_start : ℕ → LedgerConfig → LedgerStart
ledger_start life ledger = record { originators = ledger.originators; life = life }

-- What the adapter of a configuration starts from. A ledger that starts empty is in this life.
pub record IsStartOf (life : ℕ) (c : Configuration) (start : AdapterStart) : Type 0 where
  pub objects : start.objects ≡ c.objects
  pub ledger : start.ledger ≡ option_map (ledger_start life) c.ledger
  pub no_queue : start.queue ≡ None
  pub goes_on : start.begins_life ≡ false
  pub reset : start.reset ≡ c.reset
  pub listen : start.listen ≡ listen_of c
  pub limits : start.limits ≡ limits_of c
  pub shares : start.shares ≡ shares_from c.access
  pub no_timeout : start.idle_timeout ≡ 0

-- A text describes an adapter that starts from this. None of its services is queued.
abbrev pub IsStartOfText : List ℕ → ℕ → AdapterStart → Type 0
IsStartOfText text life start =
    (c : Configuration) × (IsDescribed text c × ((queue_limit c ≡ None) × IsStartOf life c start))

-- The adapter that a text describes, as it starts from a state.
abbrev pub IsKeptAdapterOf : List ℕ → List ℕ → ℕ → AdapterState → Type 0
IsKeptAdapterOf text state life adapter =
    (start : AdapterStart) × (IsStartOfText text life start × IsStartedFrom start state adapter)

-- The number of a fault in enip.h: a check of the state, or, if the assemblies or the objects are not in rising order,
-- one of the configuration. With it, the version of the state if that is the fault.
abbrev pub state_number : StateFault → ℕ
state_number state_fault.NotAState = 1
state_number state_fault.Cut = 2
state_number (state_fault.Version version) = 3
state_number state_fault.TooLong = 4
state_number state_fault.Checksum = 5
state_number state_fault.Layout = 6
state_number state_fault.Order = 7

abbrev pub fault_number : RestoreFault → ℕ
fault_number fault.Memory = 0
fault_number (fault.Malformed why) = state_number why
fault_number fault.OtherDevice = 8
fault_number fault.Order = 13

abbrev pub state_version : StateFault → ℕ
state_version (state_fault.Version version) = version
state_version other = 0

abbrev pub fault_version : RestoreFault → ℕ
fault_version (fault.Malformed why) = state_version why
fault_version other = 0

abbrev pub restore_status : RestoreFault → Status
restore_status fault.Memory = status.Memory
restore_status (fault.Malformed why) = status.SavedState
restore_status fault.OtherDevice = status.SavedState
restore_status fault.Order = status.Configuration

abbrev pub kept_status : KeptFault → Status
kept_status kept_fault.Memory = status.Memory
kept_status (kept_fault.Configuration refusal) = status.Configuration
kept_status kept_fault.Queued = status.Configuration
kept_status (kept_fault.State why) = restore_status why

abbrev pub refusal_with : ℕ → ℕ → CRefusal
refusal_with number version = record { number = number; version = version }

abbrev pub kept_refusal : KeptFault → CRefusal
kept_refusal kept_fault.Memory = refusal_with 0 0
kept_refusal (kept_fault.Configuration refusal) = refusal_with (check_number refusal) 0
kept_refusal kept_fault.Queued = refusal_with 16 0
kept_refusal (kept_fault.State why) = refusal_with (fault_number why) (fault_version why)

-- When each fault comes: the configuration is checked first.
abbrev pub IsKeptFault : List ℕ → List ℕ → ℕ → KeptFault → Type 0
IsKeptFault text state life kept_fault.Memory = ⊤
IsKeptFault text state life (kept_fault.Configuration refusal) = IsRefused text refusal
IsKeptFault text state life kept_fault.Queued = IsQueuedText text
IsKeptFault text state life (kept_fault.State why) =
    (start : AdapterStart) × (IsStartOfText text life start × IsRestoreFault start state why)

-- The status and the refusal of making an adapter: a fault, unless it is made.
abbrev pub IsKeptOutcome : List ℕ → List ℕ → ℕ → CRefusal → ℕ → Type 0
IsKeptOutcome text state life refusal result =
    (result ≡ status_number status.Done)
    ⊎ ((why : KeptFault) × (IsKeptFault text state life why
    × ((result ≡ status_number (kept_status why)) × (refusal ≡ kept_refusal why))))
