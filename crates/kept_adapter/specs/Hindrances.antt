-- Why a device does not start from what is kept: something of it would be lost.
use Rattle.std.specs.Prelude.{ℕ, suc, ◌==◌, ◌&&◌, not, Bool, true, false, nat_lt, nat_le, if◌then◌else◌, unwrap_or}
use Rattle.std.specs.Prelude.{List, [], ◌∷◌, ◌++◌, length, Option, Some, None, option_map}
use Rattle.std.specs.Option.{option_and_then}
use Rattle.cip_application.specs.declared.config.ObjectConfig.{ObjectConfig}
use Rattle.cip_application.specs.declared.config.ServiceConfig.{ServiceConfig}
use Rattle.cip_application.specs.declared.config.ServiceKind.{ServiceKind}
use Rattle.cip_application.specs.declared.config.ServiceKind.TheVariants.{Asked, Queued, Result as OfResult}
use Rattle.cip_objects.specs.declared.config.Config.{Config}
use Rattle.cip_owner.specs.Queue.{QueuedCommand}
use Rattle.device_state.specs.QueueEntries.{PLACES, spelled_command}
use Rattle.enip_keep.specs.Kept.{Kept}
use Rattle.kept_adapter.specs.declared.adapter_start.AdapterStart.{AdapterStart}
use Rattle.kept_adapter.specs.declared.hindrances.Hindrance.{Hindrance}
use Rattle.kept_adapter.specs.declared.hindrances.Hindrance.TheVariants.{OtherDevice, TooFewPlaces, TooFewSlots, NoService, Disallowed}
use Rattle.kept_adapter.specs.declared.origins.ValueState.{ValueState}
use Rattle.kept_adapter.specs.declared.origins.ValueState.TheVariants.{Missing, Configured, Written, Unfit}
use Rattle.kept_adapter.specs.Keys.{is_ledger_key, ledger_key, is_queue_key, queue_number}
use Rattle.kept_adapter.specs.Origins.{object_in}
use Rattle.kept_adapter.specs.Preparing.{configured_values, is_of_value, state_in}
use Rattle.kept_adapter.specs.Started.{put_back_in}

-- ---- what is kept of commands

-- The entry is that of a command that waits.
abbrev pub is_waiting : ℕ × List ℕ → Bool
is_waiting entry =
    is_queue_key entry.0 && not (queue_number entry.0 == 0) && nat_le (queue_number entry.0) PLACES
    && not (length entry.1 == 0)

-- The entry is that of a slot that is taken.
abbrev pub is_taken : ℕ × List ℕ → Bool
is_taken entry = is_ledger_key entry.0 && not (entry.0 == ledger_key 0) && not (length entry.1 == 0)

abbrev pub count_of : (ℕ × List ℕ → Bool) → Kept → ℕ
count_of test [] = 0
count_of test (entry ∷ entries) = if test entry then suc (count_of test entries) else count_of test entries

abbrev pub places_in : AdapterStart → ℕ
places_in start = unwrap_or start.queue 0

abbrev pub slots_in : AdapterStart → ℕ
slots_in start = unwrap_or (option_map (λ l. l.originators) start.ledger) 0

-- ---- services

abbrev pub is_queued : ServiceKind → Bool
is_queued Asked = false
is_queued Queued = true
is_queued OfResult = false

abbrev pub service_in : ℕ → List ServiceConfig → Option ServiceConfig
service_in number [] = None
service_in number (s ∷ services) = if s.number == number then Some s else service_in number services

abbrev pub service_of : ℕ → ObjectConfig → Option ServiceConfig
service_of number o = service_in number o.services.items

abbrev pub service_at : Config → ℕ → ℕ → ℕ → Option ServiceConfig
service_at config class instance number =
    option_and_then (service_of number) (object_in class instance config.objects.items)

-- The service takes a command whose data have this size, and whose reply may have as many bytes: it is queued, and it has
-- these sizes.
abbrev pub takes : Option ServiceConfig → ℕ → ℕ → Bool
takes None size reply = false
takes (Some s) size reply =
    is_queued s.kind && nat_le s.least size && nat_le size s.most && (reply == s.reply)

abbrev pub is_taken_by : Config → Option QueuedCommand → Bool
is_taken_by config None = false
is_taken_by config (Some c) =
    takes (service_at config c.class c.instance c.service) (length c.content) c.reply_limit

-- ---- hindrances

-- Commands of which the configuration has no such service.
abbrev pub without_service : Config → Kept → List Hindrance
without_service config [] = []
without_service config (entry ∷ entries) =
    if is_waiting entry && not (is_taken_by config (spelled_command entry.1))
    then NoService entry.0 ∷ without_service config entries
    else without_service config entries

abbrev pub is_unfit : ValueState → Bool
is_unfit Missing = false
is_unfit Configured = false
is_unfit Written = false
is_unfit Unfit = true

-- Values that their type or range does not allow any more.
abbrev pub disallowed : Config → Kept → Kept → List Hindrance
disallowed config kept [] = []
disallowed config kept (value ∷ values) =
    if is_of_value value.0 && is_unfit (state_in config kept value)
    then Disallowed value.0 ∷ disallowed config kept values
    else disallowed config kept values

abbrev pub too_few_places : AdapterStart → Kept → List Hindrance
too_few_places start kept =
    if nat_lt (places_in start) (count_of is_waiting kept)
    then TooFewPlaces (count_of is_waiting kept) (places_in start) ∷ [] else []

abbrev pub too_few_slots : AdapterStart → Kept → List Hindrance
too_few_slots start kept =
    if nat_lt (slots_in start) (count_of is_taken kept)
    then TooFewSlots (count_of is_taken kept) (slots_in start) ∷ [] else []

-- A start in a new life drops all commands anyway.
abbrev pub of_commands : AdapterStart → Kept → List Hindrance
of_commands start kept =
    if start.begins_life then []
    else too_few_places start kept ++ (too_few_slots start kept ++ without_service start.objects kept)

-- Nothing else is looked at of the state of another device.
abbrev pub hindrances : AdapterStart → Kept → List Hindrance
hindrances start kept =
    if (put_back_in start kept).is_other_device then OtherDevice ∷ []
    else of_commands start kept ++ disallowed start.objects kept (configured_values start)
