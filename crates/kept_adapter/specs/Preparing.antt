-- What a start changes of what is kept before a device is made from it.
use Rattle.std.specs.Prelude.{ℕ, ◌+◌, ◌-◌, ◌^◌, ◌==◌, ◌&&◌, ◌||◌, not, Bool, true, false, nat_lt, if◌then◌else◌}
use Rattle.std.specs.Prelude.{List, [], ◌∷◌, ◌++◌, length, take, bytes_eq, Option, Some, None, option_map}
use Rattle.std.specs.List.{list_any}
use Rattle.cip_application.specs.declared.kind.AttributeKind.{AttributeKind}
use Rattle.cip_bytes.specs.Numbers.{le, number_at}
use Rattle.cip_objects.specs.Configuration.{contents_of_config}
use Rattle.cip_objects.specs.declared.config.Config.{Config}
use Rattle.enip_keep.specs.Kept.{Kept}
use Rattle.kept_server.specs.Changes.{is_small}
use Rattle.kept_adapter.specs.declared.adapter_start.AdapterStart.{AdapterStart}
use Rattle.kept_adapter.specs.declared.adapter_start.LedgerStart.{LedgerStart}
use Rattle.kept_adapter.specs.declared.origins.ValueState.{ValueState}
use Rattle.kept_adapter.specs.declared.origins.ValueState.TheVariants.{Missing, Configured, Written, Unfit}
use Rattle.kept_adapter.specs.declared.preparing.Wishes.{Wishes}
use Rattle.kept_adapter.specs.Keys.{ledger_key, is_ledger_key, is_queue_key, is_value_key, queue_number, origin_key}
use Rattle.kept_adapter.specs.Origins.{description, origin_bytes, kind_under, value_state, kept_at}
use Rattle.kept_adapter.specs.Saved.{versioned_objects}

-- ---- one change

abbrev pub are_these : List ℕ → Option (List ℕ) → Bool
are_these bytes None = false
are_these bytes (Some others) = bytes_eq others bytes

-- The change that puts these bytes under a key. There is none if they are there, or if they are too long to be kept.
abbrev pub change_to : ℕ → List ℕ → Kept → Kept
change_to key bytes kept =
    if not (are_these bytes (kept_at key kept)) && is_small (key, bytes) then (key, bytes) ∷ [] else []

-- ---- commands that are dropped

abbrev pub cleared : ℕ × List ℕ → Kept
cleared entry = if (length entry.1 == 0) || not (is_small entry) then [] else (entry.0, []) ∷ []

-- The next ticket stays, and there is no mark.
abbrev pub unmarked : ℕ × List ℕ → Kept
unmarked entry = if (length entry.1 == 12) && is_small entry then (entry.0, take 8 entry.1) ∷ [] else []

-- The number of the next life. No bytes if there is none.
abbrev pub life_after : List ℕ → List ℕ
life_after content =
    if (length content == 8) && nat_lt (number_at 0 8 content) (2 ^ 64 - 1) then le 8 (number_at 0 8 content + 1) else []

abbrev pub next_life : ℕ × List ℕ → Kept
next_life entry = if is_small entry then (entry.0, life_after entry.1) ∷ [] else []

-- The ledger has the number of another life, and no slot is taken. The queue goes on with its next ticket, and nothing waits.
abbrev pub drop_of : ℕ × List ℕ → Kept
drop_of entry =
    if entry.0 == ledger_key 0 then next_life entry
    else (if is_ledger_key entry.0 then cleared entry
    else (if is_queue_key entry.0 then
    (if queue_number entry.0 == 0 then unmarked entry else cleared entry)
    else []))

abbrev pub drops : Kept → Kept
drops [] = []
drops (entry ∷ entries) = drop_of entry ++ drops entries

-- ---- values

-- Somebody asks for the configured value of this key.
abbrev pub is_reset : Wishes → ℕ → Bool
is_reset wishes key = list_any (λ k. k == key) wishes.resets.items

-- The value becomes the configured one: it was as configured before, or that is wanted.
abbrev pub becomes_configured : Wishes → ℕ → ValueState → Bool
becomes_configured wishes key Missing = false
becomes_configured wishes key Configured = true
becomes_configured wishes key Written = is_reset wishes key
becomes_configured wishes key Unfit = wishes.accepts_config || is_reset wishes key

-- The value is not allowed any more, and nobody says what to do. So its origin stays, too.
abbrev pub stays_unfit : Wishes → ℕ → ValueState → Bool
stays_unfit wishes key Missing = false
stays_unfit wishes key Configured = false
stays_unfit wishes key Written = false
stays_unfit wishes key Unfit = not (wishes.accepts_config || is_reset wishes key)

abbrev pub value_changes : Wishes → Kept → Option AttributeKind → ℕ × List ℕ → ValueState → Kept
value_changes wishes kept kind value state =
    (if becomes_configured wishes value.0 state then change_to value.0 value.1 kept else [])
    ++ (if stays_unfit wishes value.0 state then []
    else change_to (origin_key value.0) (origin_bytes (description kind) value.1) kept)

-- An entry with this key is a value of the device.
abbrev pub is_of_value : ℕ → Bool
is_of_value key = is_value_key key && nat_lt key (2 ^ 48)

-- What a start makes of the value of an entry that is as configured.
abbrev pub state_in : Config → Kept → ℕ × List ℕ → ValueState
state_in config kept value =
    value_state (kind_under config value.0) value.1 (kept_at value.0 kept) (kept_at (origin_key value.0) kept)

abbrev pub changes_of_value : Config → Wishes → Kept → ℕ × List ℕ → Kept
changes_of_value config wishes kept value =
    if is_of_value value.0 then
    value_changes wishes kept (kind_under config value.0) value (state_in config kept value)
    else []

abbrev pub changes_of_values : Config → Wishes → Kept → Kept → Kept
changes_of_values config wishes kept [] = []
changes_of_values config wishes kept (value ∷ values) =
    changes_of_value config wishes kept value ++ changes_of_values config wishes kept values

-- The values that are kept, as they are configured, behind the entry that says which device it is.
abbrev pub configured_values : AdapterStart → Kept
configured_values start = versioned_objects (contents_of_config start.objects) false

-- All changes before a start: commands that are dropped, then the values.
abbrev pub preparation : AdapterStart → Wishes → Kept → Kept
preparation start wishes kept =
    (if wishes.drops_commands then drops kept else [])
    ++ changes_of_values start.objects wishes kept (configured_values start)

-- ---- a life that was not before

abbrev pub life_of : Option (List ℕ) → ℕ
life_of None = 0
life_of (Some content) = if length content == 8 then number_at 0 8 content else 0

-- The number of a life is greater than that of the life that is kept. There is none above 2^64 - 1.
abbrev pub greater_life : ℕ → ℕ → ℕ
greater_life life kept = if nat_lt kept life || (kept == 2 ^ 64 - 1) then life else kept + 1

abbrev pub later : ℕ → LedgerStart → LedgerStart
later kept ledger = record ledger { life = greater_life ledger.life kept }

-- The ledger that starts if it starts empty: the number of its life is such a one.
abbrev pub ledger_in_later_life : Option LedgerStart → Kept → Option LedgerStart
ledger_in_later_life ledger kept = option_map (later (life_of (kept_at (ledger_key 0) kept))) ledger
