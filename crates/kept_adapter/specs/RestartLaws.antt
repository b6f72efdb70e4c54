-- What holds of a device over restarts.
use Rattle.std.specs.Prelude.{option_map, Option, Some, None, ◌≡◌, ◌≢◌, ◌⊎◌, ℕ, ◌-◌, ◌<◌, ◌^◌, List, [], ◌∷◌, map, Bool, true, false}
use Rattle.std.specs.Prelude.{is_some, IfSome}
use Rattle.std.specs.List.{AllByRecursion}
use Rattle.cip_ledger.specs.Device.{Device}
use Rattle.cip_ledger.specs.Laws.{HasNoDoubles, Rises, IsNotFreed, Succeeds}
use Rattle.cip_message.specs.declared.ledger_services.TheConstants.{DO_ONCE}
use Rattle.cip_ledger.specs.Device.{owned_standing}
use Rattle.cip_ledger.specs.Ledger.{SlotState}
use Rattle.cip_ledger.specs.Runs.{Request, slot_in, answer_to}
use Rattle.cip_ledger.specs.Services.{PENDING, reply_to, success}
use Rattle.cip_objects.specs.Configuration.{contents_of_config}
use Rattle.cip_objects.specs.Contents.{value_at}
use Rattle.cip_objects.specs.Kept.{name_of, kept_names}
use Rattle.cip_owner.specs.QueueRuns.{after_steps}
use Rattle.device_state.specs.Laws.{IsKept}
use Rattle.enip_adapter.specs.Adapter.{shared_adapter}
use Rattle.enip_adapter.specs.Calls.{AdapterState, Call}
use Rattle.enip_adapter.specs.DeviceRuns.{Requested, objects_after, objects_answer}
use Rattle.enip_adapter.specs.QueueLaws.{IsNoFinish}
use Rattle.enip_adapter.specs.Runs.{after_calls}
use Rattle.enip_keep.specs.declared.lives.Event.{Event}
use Rattle.enip_keep.specs.Kept.{Kept, set_all}
use Rattle.enip_keep.specs.Lives.{Step}
use Rattle.kept_server.specs.Changes.{keys_of, rise, is_small}
use Rattle.kept_server.specs.declared.round.RoundInput.{RoundInput}
use Rattle.kept_server.specs.Rounds.{DeviceContents, RoundRequests, kept_of}
use Rattle.kept_adapter.specs.declared.adapter_start.AdapterStart.{AdapterStart}
use Rattle.kept_adapter.specs.declared.adapter_start.LedgerStart.{LedgerStart}
use Rattle.kept_adapter.specs.declared.origins.ValueState.{ValueState}
use Rattle.kept_adapter.specs.declared.origins.ValueState.TheVariants.{Missing, Configured, Written, Unfit}
use Rattle.kept_adapter.specs.declared.preparing.Wishes.{Wishes}
use Rattle.kept_adapter.specs.Keys.{ledger_key}
use Rattle.kept_adapter.specs.Origins.{kept_at}
use Rattle.kept_adapter.specs.Preparing.{is_reset, is_of_value, state_in, configured_values, preparation}
use Rattle.kept_adapter.specs.Preparing.{life_of, ledger_in_later_life}
use Rattle.kept_adapter.specs.Restarts.{LifeStep, Does, restarted, after_life_step, after_life_steps}
use Rattle.kept_adapter.specs.Restarts.{journal_over_restarts}
use Rattle.kept_adapter.specs.Restarts.{AdapterStep, adapter_after, steps_over_restarts, contents_after, adapter_step}
use Rattle.kept_adapter.specs.Restarts.{RestartsTables, IsKeptOfAdapter, MayBeLeft, HoldsBytes, IsAdapterStep}
use Rattle.kept_adapter.specs.Restarts.{RestartsGoOn}
use Rattle.kept_adapter.specs.Restarts.{HasValues, IsServing, KeepsTables, HasObjects, IsRestartable, IsConfiguration, IsStep}
use Rattle.kept_adapter.specs.Restarts.{sizes_of, configured_sizes, GoesOn, IsGoingOn, queue_steps_over_restarts}
use Rattle.kept_adapter.specs.Restarts.{IsLedgerAfter, IsQueueAfter, SettlesNothingOf, IsOnceInEachLife, BeginNewLives}
use Rattle.kept_adapter.specs.Restarts.{Fits, IsUnhindered, resized_ledger, resized_queue}
use Rattle.kept_adapter.specs.Saved.{saved_adapter, saved_device, saved_objects}
use Rattle.kept_adapter.specs.Started.{started, new_ledger}

-- ---- one restart

-- The adapter that starts has the restarted device, and neither sessions nor connections.
abbrev pub new_adapter_law : Type 0
new_adapter_law = (start : AdapterStart) (a : AdapterState) →
    started start (saved_adapter a)
    ≡ shared_adapter (restarted start a.state.shared.objects) start.listen start.limits start.shares

-- With as many slots and places, and if no new life is wanted, the ledger goes on: it is in the same life, and each slot
-- has its originator, number and reply, or its ticket, or is in doubt.
abbrev pub ledger_goes_on_law : Type 0
ledger_goes_on_law =
    (start : AdapterStart) (device : Device) → IsRestartable device → GoesOn (sizes_of device) start →
    (restarted start device).ledger ≡ device.ledger

-- And the queue goes on: it has the same next ticket, the same commands wait and were handed over, and it has the same
-- results.
abbrev pub queue_goes_on_law : Type 0
queue_goes_on_law =
    (start : AdapterStart) (device : Device) → IsRestartable device → GoesOn (sizes_of device) start →
    (restarted start device).router.queue ≡ device.router.queue

-- With any configuration the ledger goes on, with as many slots as are configured, or it is new.
abbrev pub ledger_or_new_law : Type 0
ledger_or_new_law = (start : AdapterStart) (device : Device) → IsRestartable device → IsConfiguration start →
    IsLedgerAfter start device.ledger (restarted start device).ledger

-- So does the queue, with as many places as are configured.
abbrev pub queue_or_new_law : Type 0
queue_or_new_law = (start : AdapterStart) (device : Device) → IsRestartable device → IsConfiguration start →
    IsQueueAfter start device.router.queue (restarted start device).router.queue

-- With room for all that is kept, the ledger goes on: in the same life, with as many slots as are configured.
abbrev pub fitting_ledger_law : Type 0
fitting_ledger_law =
    (start : AdapterStart) (device : Device) → IsRestartable device → IsConfiguration start → Fits start device →
    (restarted start device).ledger ≡ resized_ledger start device.ledger

-- And so does the queue, with as many places as are configured.
abbrev pub fitting_queue_law : Type 0
fitting_queue_law =
    (start : AdapterStart) (device : Device) → IsRestartable device → IsConfiguration start → Fits start device →
    (restarted start device).router.queue ≡ resized_queue start device.router.queue

-- A configuration that nothing hinders has room for all that is kept.
abbrev pub no_hindrance_law : Type 0
no_hindrance_law =
    (start : AdapterStart) (device : Device) → IsRestartable device → IsUnhindered start device → Fits start device

-- So a start that nothing hinders goes on with the ledger and the queue: no command is lost.
abbrev pub unhindered_goes_on_law : Type 0
unhindered_goes_on_law =
    (start : AdapterStart) (device : Device) → IsRestartable device → IsConfiguration start →
    IsUnhindered start device →
    ((restarted start device).ledger ≡ resized_ledger start device.ledger)
    × ((restarted start device).router.queue ≡ resized_queue start device.router.queue)

-- With any configuration that has a queue exactly if the device has one, the queue goes on, or the ledger is new, in the
-- configured life. So a queue that begins again with its first ticket comes with a new ledger.
abbrev pub new_queue_new_life_law : Type 0
new_queue_new_life_law =
    (start : AdapterStart) (device : Device) → IsRestartable device →
    is_some start.queue ≡ is_some device.router.queue →
    ((restarted start device).router.queue ≡ resized_queue start device.router.queue)
    ⊎ ((restarted start device).ledger ≡ new_ledger start.ledger)

-- A ledger that starts empty has a life with a greater number than the one that is kept, unless that has the greatest of
-- all.
abbrev pub later_life_law : Type 0
later_life_law =
    (ledger : Option LedgerStart) (kept : Kept) → life_of (kept_at (ledger_key 0) kept) ≢ 2 ^ 64 - 1 →
    IfSome (ledger_in_later_life ledger kept) (λ l. life_of (kept_at (ledger_key 0) kept) < l.life)

-- What is kept of a device has the number of its life. So such a ledger has a later life than the device had.
abbrev pub later_device_life_law : Type 0
later_device_life_law =
    (ledger : Option LedgerStart) (device : Device) → IsRestartable device →
    IfSome device.ledger (λ old. old.life ≢ 2 ^ 64 - 1 → IfSome
    (ledger_in_later_life ledger (saved_device device.router.objects device.ledger device.router.queue))
    (λ l. old.life < l.life))

-- Each value that is kept is as it was, if it is one that it can have.
abbrev pub values_go_on_law : Type 0
values_go_on_law = (start : AdapterStart) (device : Device) → HasObjects device start →
    AllByRecursion (IsKept device.router.objects) (kept_names device.router.objects.shapes) →
    saved_objects (restarted start device).router.objects ≡ saved_objects device.router.objects

-- Each other value is as it is configured.
abbrev pub others_begin_again_law : Type 0
others_begin_again_law =
    (start : AdapterStart) (device : Device) (class instance attribute : ℕ) → HasObjects device start →
    AllByRecursion (IsKept device.router.objects) (kept_names device.router.objects.shapes) →
    AllByRecursion (λ name. name ≢ name_of class instance attribute) (kept_names device.router.objects.shapes) →
    value_at (restarted start device).router.objects class instance attribute
    ≡ value_at (contents_of_config start.objects) class instance attribute

-- Each value stays one that it can have, whatever calls there are.
abbrev pub values_stay_law : Type 0
values_stay_law = (a : AdapterState) (calls : List Call) → HasValues a.state.shared.objects.router.objects →
    HasValues (after_calls a calls).state.shared.objects.router.objects

-- ---- what holds of every device

-- It holds of a device that starts from nothing.
abbrev pub first_device_law : Type 0
first_device_law = (start : AdapterStart) → IsConfiguration start →
    IsRestartable (started start []).state.shared.objects

-- It still holds after each step.
abbrev pub device_stays_law : Type 0
device_stays_law = (device : Device) (step : LifeStep) → IsStep step → IsRestartable device →
    IsRestartable (after_life_step device step)

-- What is assumed of steps holds of those of an adapter, if what its peers send consists of bytes, and so do the requests
-- that withdraw commands.
abbrev pub steps_fit_law : Type 0
steps_fit_law = (a : AdapterState) (steps : List AdapterStep) → HoldsBytes a → AllByRecursion IsAdapterStep steps →
    AllByRecursion IsStep (steps_over_restarts a steps)

-- ---- many restarts

-- The objects and the ledger of an adapter are those after the requests that reach them, the device's own writes and
-- the restarts, in order.
abbrev pub device_over_restarts_law : Type 0
device_over_restarts_law = (a : AdapterState) (steps : List AdapterStep) →
    (adapter_after steps a).state.shared.objects ≡ after_life_steps a.state.shared.objects (steps_over_restarts a steps)

-- If each configuration has the same tables, the adapter of a server that keeps its state is that after the calls of
-- its rounds and its restarts, in order.
abbrev pub server_law : Type 0 → Type 0
server_law W = (c : DeviceContents) (steps : List (Step (RoundRequests W) AdapterStart)) → IsServing c →
    AllByRecursion (KeepsTables c.adapter.state.shared.objects) steps →
    (contents_after steps c).adapter ≡ adapter_after (map adapter_step steps) c.adapter

-- And what is kept of the contents is what is kept of that adapter: no more, and no less.
abbrev pub server_kept_law : Type 0 → Type 0
server_kept_law W = (c : DeviceContents) (steps : List (Step (RoundRequests W) AdapterStart)) → IsServing c →
    AllByRecursion (KeepsTables c.adapter.state.shared.objects) steps →
    kept_of (contents_after steps c) ≡ saved_adapter (adapter_after (map adapter_step steps) c.adapter)

-- Whatever rounds, crashes and starts may leave is what is kept of the adapter after steps of these events: the calls
-- of each round whose answers left, and each restart that went well, are among them.
abbrev pub crash_law : Type 0 → Type 0
crash_law W =
    (c : DeviceContents) (events : List (Event (RoundInput W) AdapterStart)) (went : List Bool) (left : Kept) →
    IsServing c → AllByRecursion (RestartsTables c.adapter.state.shared.objects) events → MayBeLeft c events went left →
    IsKeptOfAdapter c events went left

-- Each restart goes on with the ledger and the queue of the device.
pub record GoOn (device : Device) (steps : List LifeStep) : Type 0 where
  pub is : IsRestartable device
  pub fit : AllByRecursion IsStep steps
  pub on : AllByRecursion (IsGoingOn (sizes_of device)) steps

-- Over restarts, the queue is that after the commands that were put into it and those that were marked, finished or
-- withdrawn, in order. So what holds of a queue over every list of such steps holds over restarts, too: each command waits until it is
-- finished, and never again after that, none is lost or made up, no ticket is given twice, and what was handed over stays
-- so.
abbrev pub queue_over_restarts_law : Type 0
queue_over_restarts_law = (device : Device) (steps : List LifeStep) → GoOn device steps →
    (after_life_steps device steps).router.queue
    ≡ option_map (λ queue. after_steps queue (queue_steps_over_restarts device steps)) device.router.queue

-- No number of an originator is executed twice over all restarts, unless its slot is freed in between.
abbrev pub once_over_restarts_law : Type 0
once_over_restarts_law = (device : Device) (steps : List LifeStep) → GoOn device steps →
    HasNoDoubles (journal_over_restarts device steps)

-- So it is of an adapter that starts from nothing, over any calls and any restarts with as many slots and places.
abbrev pub adapter_once_law : Type 0
adapter_once_law = (start : AdapterStart) (steps : List AdapterStep) → IsConfiguration start →
    AllByRecursion IsAdapterStep steps →
    AllByRecursion (RestartsGoOn (configured_sizes start)) steps →
    HasNoDoubles
    (journal_over_restarts (started start []).state.shared.objects (steps_over_restarts (started start []) steps))

-- The numbers that are executed for one originator rise over all restarts, unless its slot is freed in between.
abbrev pub rising_over_restarts_law : Type 0
rising_over_restarts_law = (device : Device) (steps : List LifeStep) → GoOn device steps →
    Rises (journal_over_restarts device steps)

-- Every two success answers to a number have the same bytes, whatever restarts came between them, or the first of them
-- says that the command is pending. The premise is that the originator's slot was not freed and none of its commands
-- settled in between. So an answer with a reply is the answer for good.
abbrev pub same_bytes_over_restarts_law : Type 0
same_bytes_over_restarts_law =
    (device : Device) (first again : Request) (between : List LifeStep) (originator number : ℕ) →
    GoOn device (Does (Requested first) ∷ between) → AllByRecursion (SettlesNothingOf originator) between →
    Succeeds objects_after objects_answer owned_standing device first originator number →
    Succeeds objects_after objects_answer owned_standing
    (after_life_steps device (Does (Requested first) ∷ between)) again originator number →
    IsNotFreed originator (journal_over_restarts (after_life_step device (Does (Requested first))) between) →
    (answer_to objects_after objects_answer owned_standing
    (after_life_steps device (Does (Requested first) ∷ between)) again
    ≡ answer_to objects_after objects_answer owned_standing device first)
    ⊎ (answer_to objects_after objects_answer owned_standing device first
    ≡ reply_to DO_ONCE (success (PENDING ∷ [])))

-- A command of the ledger that is pending keeps its slot until it leaves the queue, whatever restarts come between: until
-- the owner finishes it, or it is withdrawn, no later one of its originator is taken, and no Forget frees the slot.
abbrev pub keeps_slot_over_restarts_law : Type 0
keeps_slot_over_restarts_law =
    (device : Device) (steps : List LifeStep) (originator ticket : ℕ) (slot : SlotState) → GoOn device steps →
    slot_in originator device.ledger ≡ Some slot → slot.reply ≡ None → slot.ticket ≡ Some ticket →
    AllByRecursion (IsNoFinish ticket) (queue_steps_over_restarts device steps) →
    slot_in originator (after_life_steps device steps).ledger ≡ Some slot

-- A device without a queue never says that a command is pending, so the bytes are the same.
abbrev pub final_bytes_over_restarts_law : Type 0
final_bytes_over_restarts_law =
    (device : Device) (first again : Request) (between : List LifeStep) (originator number : ℕ) →
    device.router.queue ≡ None → GoOn device (Does (Requested first) ∷ between) →
    AllByRecursion (SettlesNothingOf originator) between →
    Succeeds objects_after objects_answer owned_standing device first originator number →
    Succeeds objects_after objects_answer owned_standing
    (after_life_steps device (Does (Requested first) ∷ between)) again originator number →
    IsNotFreed originator (journal_over_restarts (after_life_step device (Does (Requested first))) between) →
    answer_to objects_after objects_answer owned_standing
    (after_life_steps device (Does (Requested first) ∷ between)) again
    ≡ answer_to objects_after objects_answer owned_standing device first

-- Whichever restarts go on and whichever begin a life: no number of an originator is executed twice in one life, unless
-- its slot is freed in between. The premise is that no life has the number of an earlier one.
abbrev pub each_life_once_law : Type 0
each_life_once_law = (device : Device) (steps : List LifeStep) → IsRestartable device → AllByRecursion IsStep steps →
    BeginNewLives device steps → IsOnceInEachLife (journal_over_restarts device steps)

-- ---- what a start changes before

-- A value that is kept, after the changes: one that is as it was configured has the value that is configured now, and so
-- has one that is reset. One that was written stays. One that is not allowed any more stays, too, unless the configuration
-- is accepted.
pub record IsPrepared (wishes : Wishes) (kept after : Kept) (value : ℕ × List ℕ) (state : ValueState) : Type 0 where
  pub configured : state ≡ Configured → is_small value ≡ true → kept_at value.0 after ≡ Some value.1
  pub written : state ≡ Written → is_reset wishes value.0 ≡ false → kept_at value.0 after ≡ kept_at value.0 kept
  pub unfit : state ≡ Unfit → is_reset wishes value.0 ≡ false → wishes.accepts_config ≡ false →
      kept_at value.0 after ≡ kept_at value.0 kept
  pub accepted : state ≡ Unfit → wishes.accepts_config ≡ true → is_small value ≡ true →
      kept_at value.0 after ≡ Some value.1
  pub reset : state ≢ Missing → is_reset wishes value.0 ≡ true → is_small value ≡ true →
      kept_at value.0 after ≡ Some value.1

-- Each value is so, if the objects are configured in rising order, whatever else is kept or dropped.
abbrev pub prepared_values_law : Type 0
prepared_values_law =
    (start : AdapterStart) (wishes : Wishes) (kept : Kept) → rise (keys_of (configured_values start)) ≡ true →
    AllByRecursion
    (λ value. is_of_value value.0 ≡ true → IsPrepared wishes kept (set_all (preparation start wishes kept) kept) value
    (state_in start.objects kept value)) (configured_values start)
