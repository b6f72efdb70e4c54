-- A device over restarts: its steps, and starts from what is kept of it.
use Rattle.std.specs.Prelude.{◌≡◌, ◌≢◌, ◌⊎◌, ⊤, length, is_some, map, ℕ, ◌<◌, ◌≤◌, ◌^◌, Bool, true, false, Option, Some, None}
use Rattle.std.specs.Prelude.{option_map, IfSome, List, [], ◌∷◌, ◌++◌}
use Rattle.std.specs.List.{AllByRecursion}
use Rattle.cip_application.specs.declared.object.AttributeName.{AttributeName}
use Rattle.cip_application.specs.Values.{is_whole}
use Rattle.cip_bytes.specs.Numbers.{AreBytes}
use Rattle.cip_bytes.specs.declared.protocol.TheConstants.{IDENTITY, ASSEMBLY, COUNTER}
use Rattle.cip_ledger.specs.Device.{Device}
use Rattle.cip_ledger.specs.Kept.{IsLedger}
use Rattle.cip_ledger.specs.Ledger.{LedgerState}
use Rattle.cip_ledger.specs.Laws.{UntilFreed}
use Rattle.cip_message.specs.LedgerCommand.{Command}
use Rattle.cip_ledger.specs.Runs.{Event as LedgerEvent, Executed as CommandExecuted, Freed}
use Rattle.cip_objects.specs.Configuration.{contents_of_config}
use Rattle.cip_objects.specs.Contents.{Contents, bytes_at}
use Rattle.cip_objects.specs.Kept.{kept_names, kept_kind}
use Rattle.cip_objects.specs.Members.{AreWhole}
use Rattle.cip_objects.specs.Tables.{Shapes, object_at}
use Rattle.cip_owner.specs.Queue.{QueueState, IsQueue}
use Rattle.cip_owner.specs.QueueRuns.{QueueStep}
use Rattle.device_state.specs.Laws.{IsName}
use Rattle.device_state.specs.Saved.{identity_bytes}
use Rattle.enip_adapter.specs.Calls.{AdapterState, Call, Held}
use Rattle.enip_adapter.specs.Calls.Call.{Begins_peer, Feeds, Ends_peer, Ticks, Writes}
use Rattle.enip_adapter.specs.DeviceRuns.{DeviceStep, Requested, WrittenBy, device_after_step, journal_by_step}
use Rattle.enip_adapter.specs.DeviceRuns.{steps_of_calls}
use Rattle.enip_adapter.specs.OwnWrites.{OwnWrite, Settles, Withdraws}
use Rattle.enip_adapter.specs.QueueLaws.{queue_steps_by_step}
use Rattle.enip_adapter.specs.Runs.{after_calls}
use Rattle.enip_keep.specs.declared.lives.Event.{Event}
use Rattle.enip_keep.specs.declared.lives.Event.TheVariants.{Round, Restart}
use Rattle.enip_keep.specs.Kept.{Kept}
use Rattle.enip_keep.specs.Lives.{Step, Executed, Restarted, after, AreStepsOf, IsKeptAfter}
use Rattle.kept_server.specs.Changes.{keys_of, rise}
use Rattle.kept_server.specs.declared.round.RoundInput.{RoundInput}
use Rattle.kept_server.specs.Rounds.{DeviceContents, RoundRequests, after_round, contents_with, kept_of}
use Rattle.kept_adapter.specs.declared.adapter_start.AdapterStart.{AdapterStart}
use Rattle.kept_adapter.specs.Hindrances.{slots_in, places_in, of_commands}
use Rattle.kept_adapter.specs.Saved.{saved_device, saved_adapter, adapter_keys}
use Rattle.kept_adapter.specs.Started.{started, new_ledger, new_queue, has_given_all, waiting_keys}

-- ---- runs

-- What happens to a device: a step, or a restart with this configuration.
pub data LifeStep : Type 0 where
  Does : (step : DeviceStep) → LifeStep
  Restarts : (start : AdapterStart) → LifeStep

-- The device that starts from what is kept of a device.
abbrev pub restarted : AdapterStart → Device → Device
restarted start device =
    (started start (saved_device device.router.objects device.ledger device.router.queue)).state.shared.objects

abbrev pub after_life_step : Device → LifeStep → Device
after_life_step device (Does step) = device_after_step device step
after_life_step device (Restarts start) = restarted start device

-- The device after these steps, from left to right.
abbrev pub after_life_steps : Device → List LifeStep → Device
after_life_steps device [] = device
after_life_steps device (step ∷ steps) = after_life_steps (after_life_step device step) steps

abbrev pub journal_by_life_step : Device → LifeStep → List LedgerEvent
journal_by_life_step device (Does step) = journal_by_step device step
journal_by_life_step device (Restarts start) = []

-- The commands that the ledger executes in these steps, and the slots that it frees. A restart does neither.
abbrev pub journal_over_restarts : Device → List LifeStep → List LedgerEvent
journal_over_restarts device [] = []
journal_over_restarts device (step ∷ steps) =
    journal_by_life_step device step ++ journal_over_restarts (after_life_step device step) steps

abbrev pub queue_steps_by : Device → LifeStep → List QueueStep
queue_steps_by device (Does step) = queue_steps_by_step device step
queue_steps_by device (Restarts start) = []

-- The commands that are put into the queue in these steps, and those that are marked or finished. One that is withdrawn
-- leaves the queue as if it were finished. A restart does none of that.
abbrev pub queue_steps_over_restarts : Device → List LifeStep → List QueueStep
queue_steps_over_restarts device [] = []
queue_steps_over_restarts device (step ∷ steps) =
    queue_steps_by device step ++ queue_steps_over_restarts (after_life_step device step) steps

-- ---- runs of the adapter

-- What happens to an adapter: calls, or a restart with a configuration.
abbrev pub AdapterStep : Type 0
AdapterStep = Step (List Call) AdapterStart

-- The adapter after these steps, from left to right.
abbrev pub adapter_after : List AdapterStep → AdapterState → AdapterState
adapter_after steps a = after after_calls saved_adapter started steps a

-- What happens to its device in these steps.
abbrev pub steps_over_restarts : AdapterState → List AdapterStep → List LifeStep
steps_over_restarts a [] = []
steps_over_restarts a (Executed calls ∷ steps) =
    map Does (steps_of_calls a calls) ++ steps_over_restarts (after_calls a calls) steps
steps_over_restarts a (Restarted start ∷ steps) =
    Restarts start ∷ steps_over_restarts (started start (saved_adapter a)) steps

-- ---- runs of a server that keeps its state

-- The contents of a server that starts with this configuration from what is found.
abbrev pub started_contents : AdapterStart → Kept → DeviceContents
started_contents start found = contents_with saved_adapter (waiting_keys start found) found (started start found)

-- The contents after rounds and starts, from left to right.
abbrev pub contents_after : {W : Type 0} → List (Step (RoundRequests W) AdapterStart) → DeviceContents → DeviceContents
contents_after steps c = after (after_round saved_adapter) kept_of started_contents steps c

abbrev pub adapter_step : {W : Type 0} → Step (RoundRequests W) AdapterStart → AdapterStep
adapter_step (Executed requests) = Executed requests.calls
adapter_step (Restarted start) = Restarted start

-- Each value is one that it can have: its bytes have the size of its kind, and a text is not longer than its room. The
-- data of an assembly have its size. No application object has the class of the counter.
pub record HasValues (m : Contents) : Type 0 where
  pub data_whole : AreWhole m
  pub others : (class instance attribute : ℕ) → class ≢ IDENTITY → class ≢ ASSEMBLY
      → IfSome (kept_kind m.shapes class instance attribute)
      (λ kind. is_whole kind (bytes_at m class instance attribute) ≡ true)
  pub counter_apart : m.shapes.has_counter ≡ true → (instance : ℕ)
      → object_at COUNTER instance m.shapes.objects ≡ None

-- A name under which a value is kept: there is a value of this name, and it is none of Identity or of the ledger.
pub record IsValueName (shapes : Shapes) (name : AttributeName) : Type 0 where
  pub is_name : IsName name
  pub has_kind : is_some (kept_kind shapes name.class name.instance name.attribute) ≡ true

abbrev pub AreValueNames : Shapes → Type 0
AreValueNames shapes = AllByRecursion (IsValueName shapes) (kept_names shapes)

-- The contents are those of a server once it serves: the entries of its adapter are saved, in rising order, and none of
-- them waits. What it found has the same keys, or nothing was found. Each value is one that it can have.
pub record IsServing (c : DeviceContents) : Type 0 where
  pub saved : c.saved ≡ saved_adapter c.adapter
  pub rising : rise (adapter_keys c.adapter) ≡ true
  pub found : (c.found ≡ []) ⊎ (keys_of c.found ≡ adapter_keys c.adapter)
  pub none_waits : AllByRecursion (λ waits. waits ≡ false) c.waits
  pub names : AreValueNames c.adapter.state.shared.objects.router.objects.shapes
  pub values : HasValues c.adapter.state.shared.objects.router.objects

-- The configuration has the objects, a ledger and a queue as the device has, and values that these can have.
pub record HasTables (device : Device) (start : AdapterStart) : Type 0 where
  pub shapes : (contents_of_config start.objects).shapes ≡ device.router.objects.shapes
  pub ledger : is_some start.ledger ≡ is_some device.ledger
  pub queue : is_some start.queue ≡ is_some device.router.queue
  pub values : HasValues (contents_of_config start.objects)

-- The configuration is of the same device, with the same objects.
pub record HasObjects (device : Device) (start : AdapterStart) : Type 0 where
  pub shapes : (contents_of_config start.objects).shapes ≡ device.router.objects.shapes
  pub identity : identity_bytes (contents_of_config start.objects) ≡ identity_bytes device.router.objects

abbrev pub KeepsTables : {W : Type 0} → Device → Step (RoundRequests W) AdapterStart → Type 0
KeepsTables device (Executed requests) = ⊤
KeepsTables device (Restarted start) = HasTables device start

abbrev pub RestartsTables : {W : Type 0} → Device → Event (RoundInput W) AdapterStart → Type 0
RestartsTables device (Round input) = ⊤
RestartsTables device (Restart start) = HasTables device start

abbrev pub brings_input : {W : Type 0} → RoundInput W → RoundRequests W → Type 0
brings_input input requests = requests.input ≡ input

-- These events may leave these entries: the clause of `live_peers`.
abbrev pub MayBeLeft : {W : Type 0} → DeviceContents → List (Event (RoundInput W) AdapterStart) → List Bool → Kept
    → Type 0
MayBeLeft c events went left =
    IsKeptAfter brings_input (after_round saved_adapter) kept_of started_contents events went c left

-- These entries are what is kept of the adapter after steps of these events.
abbrev pub IsKeptOfAdapter : {W : Type 0} → DeviceContents → List (Event (RoundInput W) AdapterStart) → List Bool → Kept
    → Type 0
IsKeptOfAdapter {W} c events went left =
    (steps : List (Step (RoundRequests W) AdapterStart)) × AreStepsOf brings_input events went steps
    × (left ≡ saved_adapter (adapter_after (map adapter_step steps) c.adapter))

-- ---- what holds of every device, configuration and step

-- Each part of a name has 16 bits.
pub record IsNarrow (name : AttributeName) : Type 0 where
  pub class : name.class < 2 ^ 16
  pub instance : name.instance < 2 ^ 16
  pub attribute : name.attribute < 2 ^ 16

-- The queue has given the ticket of each pending command.
pub record IsRestartable (device : Device) : Type 0 where
  pub names : AllByRecursion IsNarrow (kept_names device.router.objects.shapes)
  pub ledger : IfSome device.ledger IsLedger
  pub queue : IfSome device.router.queue IsQueue
  pub given : has_given_all device.ledger device.router.queue ≡ true

pub record IsConfiguration (start : AdapterStart) : Type 0 where
  pub names : AllByRecursion IsNarrow (kept_names (contents_of_config start.objects).shapes)
  pub life : IfSome start.ledger (λ l. l.life < 2 ^ 64)
  pub few : IfSome start.ledger (λ l. l.originators ≤ 64)
  pub places : IfSome start.queue (λ n. n ≤ 256)

-- A request consists of bytes, and so does one that withdraws a command.
abbrev pub IsWriteOfBytes : OwnWrite → Type 0
IsWriteOfBytes (Withdraws request) = AreBytes request
IsWriteOfBytes other = ⊤

abbrev pub IsOfBytes : DeviceStep → Type 0
IsOfBytes (Requested request) = AreBytes request.1
IsOfBytes (WrittenBy write) = IsWriteOfBytes write

abbrev pub IsStep : LifeStep → Type 0
IsStep (Does step) = IsOfBytes step
IsStep (Restarts start) = IsConfiguration start

-- The pieces of a peer's stream consist of bytes, and so does a request that withdraws a command.
abbrev pub FeedsBytes : Call → Type 0
FeedsBytes (Begins_peer rights group) = ⊤
FeedsBytes (Feeds now peer piece) = AreBytes piece
FeedsBytes (Ends_peer peer) = ⊤
FeedsBytes (Ticks now) = ⊤
FeedsBytes (Writes write) = IsWriteOfBytes write

abbrev pub IsAdapterStep : AdapterStep → Type 0
IsAdapterStep (Executed calls) = AllByRecursion FeedsBytes calls
IsAdapterStep (Restarted start) = IsConfiguration start

-- What is held of the peers' next frames consists of bytes.
abbrev pub IsHeldInBytes : Held → Type 0
IsHeldInBytes held = AreBytes held.bytes

abbrev pub HoldsBytes : AdapterState → Type 0
HoldsBytes a = AllByRecursion IsHeldInBytes a.held

-- ---- restarts that go on with the ledger and the queue

abbrev pub slots_of : Option LedgerState → Option ℕ
slots_of ledger = option_map (λ l. l.slots) ledger

abbrev pub places_of : Option QueueState → Option ℕ
places_of queue = option_map (λ q. q.limit) queue

-- How many slots the ledger has, and how many commands may wait.
pub record Sizes : Type 0 where
  pub slots : Option ℕ
  pub places : Option ℕ

abbrev pub sizes_of : Device → Sizes
sizes_of device = record { slots = slots_of device.ledger; places = places_of device.router.queue }

abbrev pub configured_sizes : AdapterStart → Sizes
configured_sizes start = record { slots = option_map (λ l. l.originators) start.ledger; places = start.queue }

-- The configuration has a ledger of so many slots and a queue of so many places, and wants no new life.
pub record GoesOn (sizes : Sizes) (start : AdapterStart) : Type 0 where
  pub same : configured_sizes start ≡ sizes
  pub same_life : start.begins_life ≡ false

abbrev pub IsGoingOn : Sizes → LifeStep → Type 0
IsGoingOn sizes (Does step) = ⊤
IsGoingOn sizes (Restarts start) = GoesOn sizes start

abbrev pub RestartsGoOn : Sizes → AdapterStep → Type 0
RestartsGoOn sizes (Executed calls) = ⊤
RestartsGoOn sizes (Restarted start) = GoesOn sizes start

-- The configuration has room for all that is kept, and wants no new life: it has a ledger and a queue exactly if the device
-- has them, at least as many slots as are taken, and at least as many places as commands wait.
pub record Fits (start : AdapterStart) (device : Device) : Type 0 where
  pub same_life : start.begins_life ≡ false
  pub ledger : is_some start.ledger ≡ is_some device.ledger
  pub queue : is_some start.queue ≡ is_some device.router.queue
  pub slots : IfSome device.ledger (λ l. length l.taken ≤ slots_in start)
  pub places : IfSome device.router.queue (λ q. length q.waiting ≤ places_in start)

-- The configuration has a ledger and a queue exactly if the device has them, wants no new life, and nothing hinders it from
-- going on with the commands.
pub record IsUnhindered (start : AdapterStart) (device : Device) : Type 0 where
  pub same_life : start.begins_life ≡ false
  pub ledger : is_some start.ledger ≡ is_some device.ledger
  pub queue : is_some start.queue ≡ is_some device.router.queue
  pub none : of_commands start (saved_device device.router.objects device.ledger device.router.queue) ≡ []

abbrev pub with_slots : ℕ → LedgerState → LedgerState
with_slots slots l = record l { slots = slots }

-- The ledger with as many slots as are configured.
abbrev pub resized_ledger : AdapterStart → Option LedgerState → Option LedgerState
resized_ledger start ledger = option_map (with_slots (slots_in start)) ledger

abbrev pub with_places : ℕ → QueueState → QueueState
with_places places q = record q { limit = places }

-- The queue with as many places as are configured.
abbrev pub resized_queue : AdapterStart → Option QueueState → Option QueueState
resized_queue start queue = option_map (with_places (places_in start)) queue

-- The ledger after a restart: a new one, or that before, with as many slots as are configured.
abbrev pub IsLedgerAfter : AdapterStart → Option LedgerState → Option LedgerState → Type 0
IsLedgerAfter start old new =
    (new ≡ new_ledger start.ledger)
    ⊎ ((l : LedgerState) × (slots : ℕ) × (old ≡ Some l) × (length l.taken ≤ slots) × (slots ≤ 64)
    × (new ≡ Some (record l { slots = slots })))

-- The queue after a restart: a new one, or that before, with as many places as are configured.
abbrev pub IsQueueAfter : AdapterStart → Option QueueState → Option QueueState → Type 0
IsQueueAfter start old new =
    (new ≡ new_queue start.queue)
    ⊎ ((q : QueueState) × (places : ℕ) × (old ≡ Some q) × (start.queue ≡ Some places)
    × (length q.waiting ≤ places) × (new ≡ Some (record q { limit = places })))

-- ---- facts on runs

-- No command of this originator is settled.
abbrev pub SettlesOthers : ℕ → OwnWrite → Type 0
SettlesOthers originator (Settles by number reply) = by ≢ originator
SettlesOthers originator other = ⊤

abbrev pub IsForOthers : ℕ → DeviceStep → Type 0
IsForOthers originator (Requested request) = ⊤
IsForOthers originator (WrittenBy write) = SettlesOthers originator write

abbrev pub SettlesNothingOf : ℕ → LifeStep → Type 0
SettlesNothingOf originator (Does step) = IsForOthers originator step
SettlesNothingOf originator (Restarts start) = ⊤

-- ---- lives

abbrev pub life_of : Option LedgerState → Option ℕ
life_of ledger = option_map (λ l. l.life) ledger

-- The command isn't one of this life with this number.
abbrev pub IsNotAgain : Command → Command → Type 0
IsNotAgain command other = other.life ≡ command.life → command.number ≢ other.number

-- No number of an originator is executed twice in one life, unless the originator's slot is freed in between.
abbrev pub IsOnceInEachLife : List LedgerEvent → Type 0
IsOnceInEachLife [] = ⊤
IsOnceInEachLife (CommandExecuted command reply ∷ later) =
    UntilFreed command.originator (IsNotAgain command) later × IsOnceInEachLife later
IsOnceInEachLife (Freed originator ∷ later) = IsOnceInEachLife later

-- The life that a configuration begins, if it begins one, is not this one.
abbrev pub BeginsOther : ℕ → LifeStep → Type 0
BeginsOther life (Does step) = ⊤
BeginsOther life (Restarts start) = IfSome start.ledger (λ l. l.life ≢ life)

-- Each configuration has a life that no later one has.
abbrev pub HaveOwnLives : List LifeStep → Type 0
HaveOwnLives [] = ⊤
HaveOwnLives (Does step ∷ steps) = HaveOwnLives steps
HaveOwnLives (Restarts start ∷ steps) =
    IfSome start.ledger (λ l. AllByRecursion (BeginsOther l.life) steps) × HaveOwnLives steps

-- Nor is it that of the device at the beginning.
pub record BeginNewLives (device : Device) (steps : List LifeStep) : Type 0 where
  pub first : IfSome (life_of device.ledger) (λ life. AllByRecursion (BeginsOther life) steps)
  pub others : HaveOwnLives steps
