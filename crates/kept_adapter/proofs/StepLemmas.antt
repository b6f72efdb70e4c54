-- The device of an adapter over restarts, and the adapter of a server that keeps its state.
use Rattle.std.proofs.Common.{◌≡◌, ℕ, ◌<◌, ◌≤◌, ◌==◌, ◌&&◌, ◌||◌, nat_lt, Bool, true, false, if◌then◌else◌, Option, Some}
use Rattle.std.proofs.Common.{None, List, [], ◌∷◌, ◌++◌, drop, map, refl, ap, sym, ◌∙◌, subst, arith, ◌⊎◌, inl, inr}
use Rattle.std.specs.Prelude.{is_some, Result, Ok, Err, OnOk}
use Rattle.std.specs.List.{AllByRecursion}
use Rattle.std.proofs.lemmas.Bool.{eq-eqb, ne_eqb, ltb-true, le-ltb, and_parts}
use Rattle.cip_application.specs.declared.object.AttributeName.{AttributeName}
use Rattle.cip_bytes.specs.declared.protocol.TheConstants.{IDENTITY}
use Rattle.cip_message.specs.declared.ledger_services.TheConstants.{LEDGER}
use Rattle.cip_ledger.specs.Device.{Device}
use Rattle.cip_ledger.specs.Ledger.{LedgerState}
use Rattle.cip_objects.specs.Contents.{Contents}
use Rattle.cip_owner.specs.Queue.{QueueState}
use Rattle.device_state.specs.QueueEntries.{queue_put}
use Rattle.device_state.specs.Keys.{name_in}
use Rattle.device_state.specs.Restored.{Done, to_ledger, by_name}
use Rattle.device_state.specs.Saved.{State, state_of}
use Rattle.enip_adapter.specs.Calls.{AdapterState, Call}
use Rattle.enip_adapter.specs.DeviceRuns.{DeviceStep, device_after, device_after_step, steps_of_calls}
use Rattle.enip_adapter.specs.Runs.{after_calls}
use Rattle.enip_adapter.proofs.DeviceLemmas.{calls-end}
use Rattle.enip_keep.specs.Kept.{Kept, set, set_all}
use Rattle.enip_keep.specs.declared.lives.Event.{Event}
use Rattle.enip_keep.specs.declared.lives.Event.TheVariants.{Round, Restart}
use Rattle.enip_keep.specs.Lives.{Step, Executed, Restarted, IsStepOf, AreStepsOf}
use Rattle.kept_server.specs.Changes.{is_marked, keys_of, rise, rise_above, same_first, still_waiting, waiting_for}
use Rattle.kept_server.specs.Changes.{without_waiting}
use Rattle.kept_server.specs.declared.round.RoundInput.{RoundInput}
use Rattle.kept_server.specs.Rounds.{DeviceContents, RoundRequests, after_round, contents_after_calls, kept_of}
use Rattle.kept_adapter.specs.declared.adapter_start.AdapterStart.{AdapterStart}
use Rattle.kept_adapter.specs.declared.adapter_start.LedgerStart.{LedgerStart}
use Rattle.kept_adapter.specs.declared.progress.Progress.{Progress}
use Rattle.kept_adapter.specs.declared.queue_progress.QueueProgress.{QueueProgress}
use Rattle.kept_adapter.specs.Keys.{device_key, is_queue_key, queue_number}
use Rattle.kept_adapter.specs.Restarts.{LifeStep, Does, after_life_steps}
use Rattle.kept_adapter.specs.Restarts.{AdapterStep, adapter_after, steps_over_restarts, contents_after, adapter_step}
use Rattle.kept_adapter.specs.Restarts.{IsServing, HasTables, KeepsTables, RestartsTables, brings_input, MayBeLeft}
use Rattle.kept_adapter.specs.Restarts.{IsKeptOfAdapter, AreValueNames, started_contents}
use Rattle.kept_adapter.specs.SameKeys.{device_keys, keys_stay, steps_alike}
use Rattle.kept_adapter.specs.Saved.{saved_adapter, adapter_keys}
use Rattle.kept_adapter.specs.Started.{is_free_slot, by_device_key, beginning, put_back, put_all_back}
use Rattle.kept_adapter.specs.Started.{new_ledger, new_queue, configured, put_back_in, queue_back_in, is_trusted}
use Rattle.kept_adapter.specs.Started.{trusted_ledger, trusted_queue, empty_progress, queue_progressed, entry_to_queue}
use Rattle.kept_adapter.specs.Started.{put_queue_back, put_queue_all_back, started, waiting_keys}
use Rattle.kept_adapter.proofs.NothingWaits.{nothing_waits}
use Rattle.kept_adapter.proofs.PutBack.{shapes_back}
use Rattle.kept_adapter.proofs.ValuesStay.{calls_values, values_back}

-- ---- the device of an adapter

after_both : (device : Device) (steps : List DeviceStep) (more : List LifeStep)
    → after_life_steps device (map Does steps ++ more) ≡ after_life_steps (device_after device steps) more
after_both device [] more = refl
after_both device (step ∷ steps) more = after_both (device_after_step device step) steps more

pub device_end : (a : AdapterState) (steps : List AdapterStep)
    → (adapter_after steps a).state.shared.objects
    ≡ after_life_steps a.state.shared.objects (steps_over_restarts a steps)
device_end a [] = refl
device_end a (Executed calls ∷ steps) =
    device_end (after_calls a calls) steps
    ∙ ap (λ device. after_life_steps device (steps_over_restarts (after_calls a calls) steps)) (calls-end a calls)
    ∙ sym (after_both a.state.shared.objects (steps_of_calls a calls) (steps_over_restarts (after_calls a calls) steps))
device_end a (Restarted start ∷ steps) = device_end (started start (saved_adapter a)) steps

-- ---- entries over those of the same keys

passes : (c d : ℕ × List ℕ) (kept : Kept) → c.0 < d.0 → set d.0 d.1 (c ∷ kept) ≡ c ∷ set d.0 d.1 kept
passes c d kept h =
    let other : (c.0 == d.0) ≡ false = ne_eqb c.0 d.0 (λ same. omega (arith, same, h)) in
    let below : nat_lt d.0 c.0 ≡ false = le-ltb d.0 c.0 (omega (arith, h)) in
    ap (λ t. if t then (d.0, d.1) ∷ kept
    else (if nat_lt d.0 c.0 then (d.0, d.1) ∷ c ∷ kept else c ∷ set d.0 d.1 kept)) other
    ∙ ap (λ t. if t then (d.0, d.1) ∷ c ∷ kept else c ∷ set d.0 d.1 kept) below

all_pass : (c : ℕ × List ℕ) (entries kept : Kept) → AllByRecursion (λ (d : ℕ × List ℕ). c.0 < d.0) entries
    → set_all entries (c ∷ kept) ≡ c ∷ set_all entries kept
all_pass c [] kept above = refl
all_pass c (d ∷ entries) kept above =
    ap (set_all entries) (passes c d kept above.0) ∙ all_pass c entries (set d.0 d.1 kept) above.1

all_above : (low key : ℕ) (entries : Kept) → low ≤ key → rise_above key (keys_of entries) ≡ true
    → AllByRecursion (λ (d : ℕ × List ℕ). low < d.0) entries
all_above low key [] h rises = tt
all_above low key (d ∷ entries) h rises =
    let both = and_parts (nat_lt key d.0) (rise_above d.0 (keys_of entries)) rises in
    let more = ltb-true key d.0 both.0 in
    (omega (arith, h, more), all_above low d.0 entries (omega (arith, h, more)) both.1)

rises_on : (key : ℕ) (entries : Kept) → rise_above key (keys_of entries) ≡ true → rise (keys_of entries) ≡ true
rises_on key [] rises = refl
rises_on key (d ∷ entries) rises = (and_parts (nat_lt key d.0) (rise_above d.0 (keys_of entries)) rises).1

over_none : (entries : Kept) → rise (keys_of entries) ≡ true → set_all entries [] ≡ entries
over_none [] rises = refl
over_none (c ∷ entries) rises =
    all_pass c entries [] (all_above c.0 c.0 entries (omega arith) rises)
    ∙ ap (λ kept. c ∷ kept) (over_none entries (rises_on c.0 entries rises))

same_head : (a b : ℕ) (xs ys : List ℕ) → a ∷ xs ≡ b ∷ ys → (a ≡ b) × (xs ≡ ys)
same_head a b xs ys e = (cc, cc)

no_key : (a : ℕ) (xs : List ℕ) → ◌≡◌ {A = List ℕ} [] (a ∷ xs) → ⊥
no_key a xs e = absurd (cc)

over_same : (entries kept : Kept) → rise (keys_of entries) ≡ true → keys_of kept ≡ keys_of entries
    → set_all entries kept ≡ entries
over_same [] [] rises same = refl
over_same [] (o ∷ kept) rises same = absurd (no_key o.0 (keys_of kept) (sym same))
over_same (c ∷ entries) [] rises same = absurd (no_key c.0 (keys_of entries) same)
over_same (c ∷ entries) (o ∷ kept) rises same =
    let heads = same_head o.0 c.0 (keys_of kept) (keys_of entries) same in
    ap (λ t. set_all entries (if t then (c.0, c.1) ∷ kept
    else (if nat_lt c.0 o.0 then (c.0, c.1) ∷ o ∷ kept else o ∷ set c.0 c.1 kept))) (eq-eqb o.0 c.0 heads.0)
    ∙ all_pass c entries kept (all_above c.0 c.0 entries (omega arith) rises)
    ∙ ap (λ all. c ∷ all) (over_same entries kept (rises_on c.0 entries rises) heads.1)

by_found : (entries found : Kept) → rise (keys_of entries) ≡ true
    → (found ≡ []) ⊎ (keys_of found ≡ keys_of entries) → set_all entries found ≡ entries
by_found entries found rises (inl none) = ap (set_all entries) none ∙ over_none entries rises
by_found entries found rises (inr same) = over_same entries found rises same

-- ---- if no entry waits

abbrev NoneWaits : List Bool → Type 0
NoneWaits waits = AllByRecursion (λ waits. waits ≡ false) waits

first_none : (waits : List Bool) → NoneWaits waits → is_marked waits ≡ false
first_none [] none = refl
first_none (w ∷ waits) none = none.0

others_none : (waits : List Bool) → NoneWaits waits → NoneWaits (drop 1 waits)
others_none [] none = tt
others_none (w ∷ waits) none = none.1

all_written : (waits : List Bool) (entries : Kept) → NoneWaits waits → without_waiting waits entries ≡ entries
all_written waits [] none = refl
all_written waits (e ∷ entries) none =
    ap (λ t. if t then without_waiting (drop 1 waits) entries else e ∷ without_waiting (drop 1 waits) entries)
    (first_none waits none)
    ∙ ap (λ es. e ∷ es) (all_written (drop 1 waits) entries (others_none waits none))

none_still : (waits : List Bool) (old new : Kept) → NoneWaits waits → NoneWaits (still_waiting waits old new)
none_still [] old new none = tt
none_still (w ∷ waits) old new none =
    (ap (λ t. t && same_first old new) none.0, none_still waits (drop 1 old) (drop 1 new) none.1)

none_for : (keys : List ℕ) (entries : Kept) → keys ≡ [] → NoneWaits (waiting_for keys entries)
none_for keys entries no_key = subst (λ ks. NoneWaits (waiting_for ks entries)) (sym no_key) (for_none entries)
  where
    for_none : (entries : Kept) → NoneWaits (waiting_for [] entries)
    for_none [] = tt
    for_none (e ∷ entries) = (refl, for_none entries)

kept_is_saved : (c : DeviceContents) → IsServing c → kept_of c ≡ saved_adapter c.adapter
kept_is_saved c is =
    ap (λ entries. set_all entries c.found) (all_written c.waits c.saved is.none_waits ∙ is.saved)
    ∙ by_found (saved_adapter c.adapter) c.found is.rising is.found

-- ---- whether there is a ledger

some_if : (own : Bool) (t : Bool) (a b : Done State) → is_some a.after.ledger ≡ own → is_some b.after.ledger ≡ own
    → is_some (if t then a else b).after.ledger ≡ own
some_if own true a b one other = one
some_if own false a b one other = other

some_to_ledger : (m : Contents) (name : AttributeName) (content : List ℕ) (l : Option LedgerState)
    → is_some (to_ledger m name content l).after.ledger ≡ is_some l
some_to_ledger m name content None = refl
some_to_ledger m name content (Some l) = refl

some_named : (s : State) (content : List ℕ) (name : Option AttributeName)
    → is_some (by_name s content name).after.ledger ≡ is_some s.ledger
some_named s content None = refl
some_named s content (Some name) =
    some_if (is_some s.ledger) (name.class == IDENTITY) _ _ refl
    (some_if (is_some s.ledger) (name.class == LEDGER) _ _ (some_to_ledger s.objects name content s.ledger) refl)

some_keyed : (s : State) (content : List ℕ) (key : Option ℕ)
    → is_some (by_device_key s content key).after.ledger ≡ is_some s.ledger
some_keyed s content None = refl
some_keyed s content (Some key) = some_named s content (name_in key)

some_back : (p : Progress) (entries : Kept) → is_some (put_all_back p entries).ledger ≡ is_some p.ledger
some_back p [] = refl
some_back p (entry ∷ entries) =
    let s = state_of p.objects p.ledger in
    some_back (put_back p entry) entries
    ∙ some_if (is_some p.ledger) (is_free_slot entry.0 entry.1) _ _ refl (some_keyed s entry.1 (device_key entry.0))

some_new : (ledger : Option LedgerStart) → is_some (new_ledger ledger) ≡ is_some ledger
some_new None = refl
some_new (Some l) = refl

some_trusted : (start : AdapterStart) (p : Progress) (q : QueueProgress) → is_some p.ledger ≡ is_some start.ledger
    → is_some (trusted_ledger start p q) ≡ is_some start.ledger
some_trusted start p q own = by (is_trusted start p q)
  where
    by : (t : Bool) → is_some (if t then p.ledger else new_ledger start.ledger) ≡ is_some start.ledger
    by true = own
    by false = some_new start.ledger

-- ---- whether there is a queue

some_put : (p : QueueProgress) (queue : QueueState) (after : Option QueueState) → p.queue ≡ Some queue
    → is_some (queue_progressed p after).queue ≡ is_some p.queue
some_put p queue None own = refl
some_put p queue (Some after) own = sym (ap is_some own)

some_entry : (p : QueueProgress) (number : ℕ) (content : List ℕ) (queue : Option QueueState) → p.queue ≡ queue
    → is_some (entry_to_queue p number content queue).queue ≡ is_some p.queue
some_entry p number content None own = refl
some_entry p number content (Some queue) own = some_put p queue (queue_put queue number content) own

some_queue_back : (p : QueueProgress) (entries : Kept) → is_some (put_queue_all_back p entries).queue ≡ is_some p.queue
some_queue_back p [] = refl
some_queue_back p (entry ∷ entries) = some_queue_back (put_queue_back p entry) entries ∙ by (is_queue_key entry.0)
  where
    by : (t : Bool) → is_some (if t then entry_to_queue p (queue_number entry.0) entry.1 p.queue else p).queue
        ≡ is_some p.queue
    by true = some_entry p (queue_number entry.0) entry.1 p.queue refl
    by false = refl

some_new_queue : (places : Option ℕ) → is_some (new_queue places) ≡ is_some places
some_new_queue None = refl
some_new_queue (Some n) = refl

some_trusted_queue : (start : AdapterStart) (q : QueueProgress) → is_some q.queue ≡ is_some start.queue
    → is_some (trusted_queue start q) ≡ is_some start.queue
some_trusted_queue start q own = by (q.has_lost || start.begins_life)
  where
    by : (t : Bool) → is_some (if t then new_queue start.queue else q.queue) ≡ is_some start.queue
    by true = some_new_queue start.queue
    by false = own

-- ---- the keys after a start

abbrev SameTables : Device → Device → Type 0
SameTables device other =
    (other.router.objects.shapes ≡ device.router.objects.shapes) × (is_some other.ledger ≡ is_some device.ledger)
    × (is_some other.router.queue ≡ is_some device.router.queue)

started_tables : (device : Device) (start : AdapterStart) (found : Kept) → HasTables device start
    → SameTables device (started start found).state.shared.objects
started_tables device start found has = (
  shapes_back (beginning (configured start)) found ∙ has.shapes,
  some_trusted start (put_back_in start found) (queue_back_in start found)
      (some_back (beginning (configured start)) found ∙ some_new start.ledger) ∙ has.ledger,
  some_trusted_queue start (queue_back_in start found)
      (some_queue_back (empty_progress (new_queue start.queue)) found ∙ some_new_queue start.queue) ∙ has.queue,
)

both_tables : (a b c : Device) → SameTables a b → SameTables b c → SameTables a c
both_tables a b c first second = (second.0 ∙ first.0, second.1 ∙ first.1, second.2 ∙ first.2)

tables_back : (a b : Device) → SameTables a b → SameTables b a
tables_back a b same = (sym same.0, sym same.1, sym same.2)

same_keys : (a b : AdapterState) → SameTables a.state.shared.objects b.state.shared.objects
    → adapter_keys b ≡ adapter_keys a
same_keys a b same =
    let old = a.state.shared.objects in
    let new = b.state.shared.objects in
    device_keys old.router.objects new.router.objects old.ledger new.ledger old.router.queue new.router.queue same.0
    same.1 same.2

-- ---- the adapter of a server

-- The contents of a server, with an adapter of the device's tables.
record IsOf (device : Device) (c : DeviceContents) : Type 0 where
  is : IsServing c
  same : SameTables device c.adapter.state.shared.objects

calls_alike : (a : AdapterState) (calls : List Call)
    → SameTables a.state.shared.objects (after_calls a calls).state.shared.objects
calls_alike a calls =
    let old = a.state.shared.objects in
    let alike = steps_alike old (steps_of_calls a calls) in (
      ap (λ (d : Device). d.router.objects.shapes) (calls-end a calls) ∙ alike.shapes,
      ap (λ (d : Device). is_some d.ledger) (calls-end a calls) ∙ alike.ledger,
      ap (λ (d : Device). is_some d.router.queue) (calls-end a calls) ∙ alike.queue,
    )

after_a_round : (device : Device) (c : DeviceContents) (calls : List Call) → IsOf device c
    → IsOf device (contents_after_calls saved_adapter c calls)
after_a_round device c calls of =
    let keys = keys_stay c.adapter calls in
    let alike = calls_alike c.adapter calls in
    record {
      is = record {
        saved = refl;
        rising = ap rise keys ∙ of.is.rising;
        found = same_found c.found (adapter_keys c.adapter) (adapter_keys (after_calls c.adapter calls)) (sym keys)
            of.is.found;
        none_waits = none_still c.waits c.saved (saved_adapter (after_calls c.adapter calls)) of.is.none_waits;
        names = subst AreValueNames (sym alike.0) of.is.names;
        values = calls_values c.adapter calls of.is.values;
      };
      same = both_tables device c.adapter.state.shared.objects (after_calls c.adapter calls).state.shared.objects of.same
          alike;
    }
  where
    same_found : (found : Kept) (old new : List ℕ) → old ≡ new → (found ≡ []) ⊎ (keys_of found ≡ old)
        → (found ≡ []) ⊎ (keys_of found ≡ new)
    same_found found old new e (inl none) = inl none
    same_found found old new e (inr same) = inr (same ∙ e)

after_a_start : (device : Device) (c : DeviceContents) (start : AdapterStart) → HasTables device start → IsOf device c
    → IsOf device (started_contents start (kept_of c))
after_a_start device c start has of =
    let new = started start (kept_of c) in
    let tables = started_tables device start (kept_of c) has in
    let own = c.adapter.state.shared.objects in
    let shapes = tables.0 ∙ sym of.same.0 in
    let keys = same_keys c.adapter new
    (both_tables own device new.state.shared.objects (tables_back device own of.same) tables) in
    record {
      is = record {
        saved = refl;
        rising = ap rise keys ∙ of.is.rising;
        found = inr (ap keys_of (kept_is_saved c of.is) ∙ sym keys);
        none_waits = none_for (waiting_keys start (kept_of c)) (saved_adapter new)
            (ap (waiting_keys start) (kept_is_saved c of.is)
            ∙ nothing_waits start c.adapter (has.shapes ∙ sym of.same.0) of.is.names of.is.values);
        names = subst AreValueNames (sym shapes) of.is.names;
        values = values_back (beginning (configured start)) (kept_of c) has.values;
      };
      same = tables;
    }

ends_by : {W : Type 0} (device : Device) (c : DeviceContents) (steps : List (Step (RoundRequests W) AdapterStart))
    → IsOf device c → AllByRecursion (KeepsTables device) steps
    → (contents_after steps c).adapter ≡ adapter_after (map adapter_step steps) c.adapter
ends_by device c [] of keep = refl
ends_by device c (Executed requests ∷ steps) of keep =
    ends_by device (after_round saved_adapter c requests) steps (after_a_round device c requests.calls of) keep.1
ends_by device c (Restarted start ∷ steps) of keep =
    ends_by device (started_contents start (kept_of c)) steps
    (after_a_start device c start keep.0 of) keep.1
    ∙ ap (λ kept. adapter_after (map adapter_step steps) (started start kept)) (kept_is_saved c of.is)

pub adapter_end : {W : Type 0} (c : DeviceContents) (steps : List (Step (RoundRequests W) AdapterStart))
    → IsServing c → AllByRecursion (KeepsTables c.adapter.state.shared.objects) steps
    → (contents_after steps c).adapter ≡ adapter_after (map adapter_step steps) c.adapter
adapter_end c steps is keep =
    ends_by c.adapter.state.shared.objects c steps (record { is = is; same = (refl, refl, refl) }) keep

-- ---- what such a server keeps

served_by : {W : Type 0} (device : Device) (c : DeviceContents) (steps : List (Step (RoundRequests W) AdapterStart))
    → IsOf device c → AllByRecursion (KeepsTables device) steps → IsServing (contents_after steps c)
served_by device c [] of keep = of.is
served_by device c (Executed requests ∷ steps) of keep =
    served_by device (after_round saved_adapter c requests) steps (after_a_round device c requests.calls of) keep.1
served_by device c (Restarted start ∷ steps) of keep =
    served_by device (started_contents start (kept_of c)) steps
    (after_a_start device c start keep.0 of) keep.1

pub kept_end : {W : Type 0} (c : DeviceContents) (steps : List (Step (RoundRequests W) AdapterStart)) → IsServing c
    → AllByRecursion (KeepsTables c.adapter.state.shared.objects) steps
    → kept_of (contents_after steps c) ≡ saved_adapter (adapter_after (map adapter_step steps) c.adapter)
kept_end c steps is keep =
    kept_is_saved (contents_after steps c)
    (served_by c.adapter.state.shared.objects c steps (record { is = is; same = (refl, refl, refl) }) keep)
    ∙ ap saved_adapter (adapter_end c steps is keep)

-- ---- the steps of events

tables_of : {W : Type 0} (device : Device) (event : Event (RoundInput W) AdapterStart)
    (step : Step (RoundRequests W) AdapterStart) → RestartsTables device event → IsStepOf brings_input event step
    → KeepsTables device step
tables_of device (Round input) (Executed requests) keeps is = tt
tables_of device (Round input) (Restarted start) keeps is = absurd is
tables_of device (Restart start) (Executed requests) keeps is = absurd is
tables_of device (Restart start) (Restarted with) keeps is = subst (HasTables device) (sym is) keeps

all_tables : {W : Type 0} (device : Device) (events : List (Event (RoundInput W) AdapterStart)) (went : List Bool)
    (steps : List (Step (RoundRequests W) AdapterStart)) → AllByRecursion (RestartsTables device) events
    → AreStepsOf brings_input events went steps → AllByRecursion (KeepsTables device) steps
all_tables device [] went steps keep none = subst (AllByRecursion (KeepsTables device)) (sym none) tt
all_tables device (event ∷ events) [] steps keep none = subst (AllByRecursion (KeepsTables device)) (sym none) tt
all_tables device (event ∷ events) (true ∷ went) steps keep (step, others, same, is, rest) =
    subst (AllByRecursion (KeepsTables device)) (sym same)
    (tables_of device event step keep.0 is, all_tables device events went others keep.1 rest)
all_tables device (event ∷ events) (false ∷ went) steps keep (inl rest) =
    all_tables device events went steps keep.1 rest
all_tables device (event ∷ events) (false ∷ went) steps keep (inr (step, others, same, is, rest)) =
    subst (AllByRecursion (KeepsTables device)) (sym same)
    (tables_of device event step keep.0 is, all_tables device events went others keep.1 rest)

pub left_end : {W : Type 0} (c : DeviceContents) (events : List (Event (RoundInput W) AdapterStart)) (went : List Bool)
    (left : Kept) → IsServing c → AllByRecursion (RestartsTables c.adapter.state.shared.objects) events
    → MayBeLeft c events went left
    → (steps : List (Step (RoundRequests W) AdapterStart)) × AreStepsOf brings_input events went steps
    × (left ≡ saved_adapter (adapter_after (map adapter_step steps) c.adapter))
left_end c events went left is keep (steps, of, same) =
    (steps, of, same ∙ kept_end c steps is (all_tables c.adapter.state.shared.objects events went steps keep of))

pub left_if : {W X E : Type 0} (result : Result X E) (may_leave : Kept → Type 0) (c : DeviceContents)
    (events : List (Event (RoundInput W) AdapterStart)) (went : List Bool) → IsServing c
    → AllByRecursion (RestartsTables c.adapter.state.shared.objects) events
    → OnOk result ((left : Kept) → may_leave left → MayBeLeft c events went left)
    → OnOk result ((left : Kept) → may_leave left → IsKeptOfAdapter c events went left)
left_if (Ok x) may_leave c events went is keep lives =
    λ left leaves. left_end c events went left is keep (lives left leaves)
left_if (Err e) may_leave c events went is keep lives = tt
