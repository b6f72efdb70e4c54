-- A device after a restart.
use Rattle.std.proofs.Common.{◌≡◌, ℕ, suc, ◌<◌, ◌≤◌, ◌^◌, ◌==◌, ◌&&◌, ◌||◌, not, Bool, true, false, if◌then◌else◌, Option}
use Rattle.std.proofs.Common.{Some, None, List, [], ◌∷◌, length, refl, ap, sym, ◌∙◌, subst, arith, inl, inr}
use Rattle.std.specs.Prelude.{option_map, IfSome}
use Rattle.std.specs.List.{AllByRecursion}
use Rattle.std.proofs.lemmas.Bool.{and_parts}
use Rattle.cip_application.specs.declared.object.AttributeName.{AttributeName}
use Rattle.cip_bytes.specs.declared.protocol.TheConstants.{IDENTITY}
use Rattle.cip_message.specs.declared.ledger_services.TheConstants.{LEDGER}
use Rattle.cip_ledger.specs.Device.{Device}
use Rattle.cip_ledger.specs.Kept.{IsLedger}
use Rattle.cip_ledger.specs.Ledger.{LedgerState}
use Rattle.cip_objects.specs.Contents.{Contents}
use Rattle.cip_objects.specs.Kept.{kept_names}
use Rattle.cip_owner.specs.Queue.{QueueState, IsQueue}
use Rattle.device_state.specs.Keys.{name_in}
use Rattle.device_state.specs.Restored.{Done, by_name}
use Rattle.device_state.specs.Saved.{State, state_of, needs_version_2}
use Rattle.enip_keep.specs.Kept.{Kept}
use Rattle.kept_adapter.specs.declared.adapter_start.AdapterStart.{AdapterStart}
use Rattle.kept_adapter.specs.declared.adapter_start.LedgerStart.{LedgerStart}
use Rattle.kept_adapter.specs.declared.progress.Progress.{Progress}
use Rattle.kept_adapter.specs.declared.queue_progress.QueueProgress.{QueueProgress}
use Rattle.kept_adapter.specs.Keys.{device_key}
use Rattle.kept_adapter.specs.Restarts.{LifeStep, Does, Restarts, restarted, after_life_step, IsNarrow, IsRestartable}
use Rattle.kept_adapter.specs.Restarts.{IsConfiguration, IsStep, GoesOn, Sizes, sizes_of, slots_of, IsLedgerAfter}
use Rattle.kept_adapter.specs.Restarts.{IsQueueAfter}
use Rattle.kept_adapter.specs.SameKeys.{step_alike}
use Rattle.kept_adapter.specs.Saved.{versioned_objects, saved_device, first_entries, ENTRIES}
use Rattle.kept_adapter.specs.Started.{is_free_slot, by_device_key, after_entry, beginning, put_back, put_all_back}
use Rattle.kept_adapter.specs.Started.{new_ledger, new_queue, configured, put_back_in, queue_back_in, empty_progress, has_given_all}
use Rattle.kept_adapter.specs.Started.{is_trusted, trusted_ledger, trusted_queue, started}
use Rattle.kept_adapter.proofs.LedgerStays.{step_stays}
use Rattle.kept_adapter.proofs.LedgerBack.{part, IsAt, IsAtOrLost, first_at, first_or_lost, take_all}
use Rattle.kept_adapter.proofs.PutBack.{shapes_back, LeavesLedger, objects_leave}
use Rattle.kept_adapter.proofs.QueueBack.{queue_kept, queue_after, after_is_queue, new_is_queue, trusted_new}
use Rattle.kept_adapter.proofs.QueueLeaves.{all_entries}
use Rattle.kept_adapter.proofs.GivenTickets.{step_given, step_queue}

-- ---- which ledger is trusted

abbrev trusted_by : AdapterStart → Option LedgerState → Bool → Option LedgerState
trusted_by start own trusted = if trusted then own else new_ledger start.ledger

five : (a b c d e : Bool) → a ≡ true → b ≡ false → c ≡ false → d ≡ true → e ≡ false
    → a && (not b && (not c && (d && not e))) ≡ true
five a b c d e ea eb ec ed ee = rw (ea, eb, ec, ed, ee) refl

and_false : (a : Bool) → a && false ≡ false
and_false true = refl
and_false false = refl

first_fails : (a b c d e : Bool) → a ≡ false → a && (not b && (not c && (d && not e))) ≡ false
first_fails a b c d e f = rw f refl

second_fails : (a b c d e : Bool) → b ≡ true → a && (not b && (not c && (d && not e))) ≡ false
second_fails a b c d e f = rw f (and_false a)

third_fails : (a b c d e : Bool) → c ≡ true → a && (not b && (not c && (d && not e))) ≡ false
third_fails a b c d e f = rw f (ap (λ t. a && t) (and_false (not b)) ∙ and_false a)

fourth_fails : (a b c d e : Bool) → d ≡ false → a && (not b && (not c && (d && not e))) ≡ false
fourth_fails a b c d e f =
    rw f (ap (λ t. a && (not b && t)) (and_false (not c)) ∙ ap (λ t. a && t) (and_false (not b)) ∙ and_false a)

last_fails : (a b c d e : Bool) → e ≡ true → a && (not b && (not c && (d && not e))) ≡ false
last_fails a b c d e f =
    rw f (ap (λ t. a && (not b && (not c && t))) (and_false d) ∙ ap (λ t. a && (not b && t)) (and_false (not c))
    ∙ ap (λ t. a && t) (and_false (not b)) ∙ and_false a)

module _ (start : AdapterStart) (p : Progress) (q : QueueProgress) where
  trusted_all : p.has_life ≡ true → p.has_lost ≡ false → q.has_lost ≡ false → has_given_all p.ledger q.queue ≡ true
      → start.begins_life ≡ false → trusted_ledger start p q ≡ p.ledger
  trusted_all life lost queue given same =
      ap (trusted_by start p.ledger)
      (five p.has_life p.has_lost q.has_lost (has_given_all p.ledger q.queue) start.begins_life life lost queue given same)

  new_without_life : p.has_life ≡ false → trusted_ledger start p q ≡ new_ledger start.ledger
  new_without_life none =
      ap (trusted_by start p.ledger)
      (first_fails p.has_life p.has_lost q.has_lost (has_given_all p.ledger q.queue) start.begins_life none)

  new_if_lost : p.has_lost ≡ true → trusted_ledger start p q ≡ new_ledger start.ledger
  new_if_lost lost =
      ap (trusted_by start p.ledger)
      (second_fails p.has_life p.has_lost q.has_lost (has_given_all p.ledger q.queue) start.begins_life lost)

  pub new_if_queue_lost : q.has_lost ≡ true → trusted_ledger start p q ≡ new_ledger start.ledger
  new_if_queue_lost lost =
      ap (trusted_by start p.ledger)
      (third_fails p.has_life p.has_lost q.has_lost (has_given_all p.ledger q.queue) start.begins_life lost)

  new_if_not_given : has_given_all p.ledger q.queue ≡ false → trusted_ledger start p q ≡ new_ledger start.ledger
  new_if_not_given other =
      ap (trusted_by start p.ledger)
      (fourth_fails p.has_life p.has_lost q.has_lost (has_given_all p.ledger q.queue) start.begins_life other)

  pub new_if_wanted : start.begins_life ≡ true → trusted_ledger start p q ≡ new_ledger start.ledger
  new_if_wanted wanted =
      ap (trusted_by start p.ledger)
      (last_fails p.has_life p.has_lost q.has_lost (has_given_all p.ledger q.queue) start.begins_life wanted)

  new_anyway : p.ledger ≡ new_ledger start.ledger → trusted_ledger start p q ≡ new_ledger start.ledger
  new_anyway own = by (is_trusted start p q)
    where
      by : (t : Bool) → trusted_by start p.ledger t ≡ new_ledger start.ledger
      by true = own
      by false = refl

  -- The queue has given each ticket of the ledger that is trusted.
  given_after : has_given_all (trusted_ledger start p q) (trusted_queue start q) ≡ true
  given_after = by (is_trusted start p q) refl
    where
      none_pending : (ledger : Option LedgerStart) (queue : Option QueueState)
          → has_given_all (new_ledger ledger) queue ≡ true
      none_pending None queue = refl
      none_pending (Some l) queue = refl

      not_lost : q.has_lost ≡ false → start.begins_life ≡ false → trusted_queue start q ≡ q.queue
      not_lost e f =
          ap (λ t. if t || start.begins_life then new_queue start.queue else q.queue) e
          ∙ ap (λ t. if t then new_queue start.queue else q.queue) f

      parts : is_trusted start p q ≡ true
          → (q.has_lost ≡ false) × (has_given_all p.ledger q.queue ≡ true) × (start.begins_life ≡ false)
      parts e =
          let first = and_parts p.has_life _ e in
          let second = and_parts (not p.has_lost) _ first.1 in
          let third = and_parts (not q.has_lost) _ second.1 in
          let fourth = and_parts (has_given_all p.ledger q.queue) _ third.1 in
          (not_true q.has_lost third.0, fourth.0, not_true start.begins_life fourth.1)
        where
          not_true : (b : Bool) → not b ≡ true → b ≡ false
          not_true true e = absurd (cc)
          not_true false e = refl

      by : (t : Bool) → is_trusted start p q ≡ t
          → has_given_all (trusted_by start p.ledger t) (trusted_queue start q) ≡ true
      by true e =
          let all = parts e in ap (has_given_all p.ledger) (not_lost all.0 all.2) ∙ all.1
      by false e = none_pending start.ledger (trusted_queue start q)

-- ---- a device without a ledger

ledger_none : (t : Bool) (a b : Done State) → a.after.ledger ≡ None → b.after.ledger ≡ None
    → (if t then a else b).after.ledger ≡ None
ledger_none true a b one other = one
ledger_none false a b one other = other

named_none : (m : Contents) (content : List ℕ) (name : Option AttributeName)
    → (by_name (state_of m None) content name).after.ledger ≡ None
named_none m content None = refl
named_none m content (Some name) =
    ledger_none (name.class == IDENTITY) _ _ refl (ledger_none (name.class == LEDGER) _ _ refl refl)

keyed_none : (m : Contents) (content : List ℕ) (key : Option ℕ)
    → (by_device_key (state_of m None) content key).after.ledger ≡ None
keyed_none m content None = refl
keyed_none m content (Some key) = named_none m content (name_in key)

stays_none : (p : Progress) (entries : Kept) → p.ledger ≡ None → (put_all_back p entries).ledger ≡ None
stays_none p [] none = none
stays_none p (entry ∷ entries) none =
    stays_none (put_back p entry) entries
    (ap (λ o. (after_entry (state_of p.objects o) entry.0 entry.1).after.ledger) none
    ∙ ledger_none (is_free_slot entry.0 entry.1) _ _ refl (keyed_none p.objects entry.1 (device_key entry.0)))

-- ---- the ledger after a restart

-- the configured ledger is empty
empty_by : (ledger : Option LedgerStart) (slots : ℕ) → option_map (λ l. l.originators) ledger ≡ Some slots
    → (life : ℕ) × (new_ledger ledger ≡ Some (part slots life []))
empty_by None slots same = absurd (cc)
empty_by (Some l) slots same =
    let own : l.originators ≡ slots = cc in (l.life, ap (λ n. Some (part n l.life [])) own)

none_by : (ledger : Option LedgerStart) → option_map (λ l. l.originators) ledger ≡ None → new_ledger ledger ≡ None
none_by None same = refl
none_by (Some l) same = absurd (cc)

few_taken : (l : LedgerState) → IsLedger l → length l.taken ≤ 64
few_taken l is = let within = is.within in let few = is.few in omega (arith, within, few)

-- with as many slots, after so many entries
back_by : (start : AdapterStart) (l : LedgerState) (p : Progress) (q : QueueProgress) (count n : ℕ) → count ≡ suc n
    → n < 2 ^ 16 → length l.taken ≤ n → IsLedger l → option_map (λ l. l.originators) start.ledger ≡ Some l.slots
    → start.begins_life ≡ false → p.ledger ≡ new_ledger start.ledger → p.has_lost ≡ false → q.has_lost ≡ false
    → has_given_all (Some l) q.queue ≡ true → trusted_ledger start (put_all_back p (first_entries l count)) q ≡ Some l
back_by start l p q count n more h few is slots same_life own lost queue given =
    let empty = empty_by start.ledger l.slots slots in
    let r = put_all_back p (first_entries l (suc n)) in
    let at : IsAt l l.slots n r = first_at l empty.0 n p is h (own ∙ empty.1) lost in
    let back : r.ledger ≡ Some l
    = at.ledger ∙ ap (λ taken. Some (part l.slots l.life taken)) (take_all l.taken n few) in
    ap (λ k. trusted_ledger start (put_all_back p (first_entries l k)) q) more
    ∙ trusted_all start r q at.life at.lost queue (ap (λ o. has_given_all o q.queue) back ∙ given) same_life
    ∙ back

-- the device before the entries of the ledger
abbrev behind_objects : AdapterStart → Contents → Bool → Progress
behind_objects start m is_version_2 = put_all_back (beginning (configured start)) (versioned_objects m is_version_2)

goes_on_by : (start : AdapterStart) (m : Contents) (ledger : Option LedgerState) (queue : Option QueueState)
    (q : QueueProgress) → AllByRecursion IsNarrow (kept_names m.shapes) → IfSome ledger IsLedger
    → option_map (λ l. l.originators) start.ledger ≡ slots_of ledger → start.begins_life ≡ false → q.has_lost ≡ false
    → has_given_all ledger q.queue ≡ true → trusted_ledger start (put_back_in start (saved_device m ledger queue)) q ≡ ledger
goes_on_by start m None queue q names is slots same_life lost given =
    let is_version_2 = needs_version_2 queue None in
    let p = behind_objects start m is_version_2 in
    let left : LeavesLedger (beginning (configured start)) p
    = objects_leave (beginning (configured start)) m is_version_2 names in
    ap (λ x. trusted_ledger start x q) (all_entries (beginning (configured start)) m None queue)
    ∙ new_without_life start p q left.life ∙ none_by start.ledger slots
goes_on_by start m (Some l) queue q names is slots same_life lost given =
    let is_version_2 = needs_version_2 queue (Some l) in
    let p = behind_objects start m is_version_2 in
    let left : LeavesLedger (beginning (configured start)) p
    = objects_leave (beginning (configured start)) m is_version_2 names in
    ap (λ x. trusted_ledger start x q) (all_entries (beginning (configured start)) m (Some l) queue)
    ∙ back_by start l p q ENTRIES 64 refl (omega arith) (few_taken l is) is slots same_life left.ledger left.lost lost given

-- the queue that is put back
kept : (start : AdapterStart) (device : Device) → IsRestartable device → GoesOn (sizes_of device) start
    → queue_back_in start (saved_device device.router.objects device.ledger device.router.queue)
    ≡ record { queue = device.router.queue; has_lost = false }
kept start device is on =
    queue_kept start device.router.objects device.ledger device.router.queue is.names is.queue
    (ap (λ (s : Sizes). s.places) on.same)

pub goes_on : (start : AdapterStart) (device : Device) → IsRestartable device → GoesOn (sizes_of device) start
    → (restarted start device).ledger ≡ device.ledger
goes_on start device is on =
    let q : QueueProgress = record { queue = device.router.queue; has_lost = false } in
    ap (trusted_ledger start
    (put_back_in start (saved_device device.router.objects device.ledger device.router.queue)))
    (kept start device is on)
    ∙ goes_on_by start device.router.objects device.ledger device.router.queue q is.names is.ledger
    (ap (λ (s : Sizes). s.slots) on.same) on.same_life refl is.given

pub queue_goes_on : (start : AdapterStart) (device : Device) → IsRestartable device → GoesOn (sizes_of device) start
    → (restarted start device).router.queue ≡ device.router.queue
queue_goes_on start device is on =
    ap (trusted_queue start) (kept start device is on)
    ∙ ap (λ t. if t then new_queue start.queue else device.router.queue) on.same_life

-- with any number of slots, after so many entries
after_by : (start : AdapterStart) (own : Option LedgerStart) (l : LedgerState) (p : Progress) (q : QueueProgress)
    (count n : ℕ) → start.ledger ≡ own → IfSome own (λ s. s.originators ≤ 64) → count ≡ suc n → n < 2 ^ 16
    → length l.taken ≤ n → IsLedger l → p.ledger ≡ new_ledger start.ledger → p.has_lost ≡ false
    → IsLedgerAfter start (Some l) (trusted_ledger start (put_all_back p (first_entries l count)) q)
after_by start None l p q count n configured few more h all is own lost =
    let none : new_ledger start.ledger ≡ None = ap new_ledger configured in
    inl (new_anyway start (put_all_back p (first_entries l count)) q
    (stays_none p (first_entries l count) (own ∙ none) ∙ sym none))
after_by start (Some s) l p q count n configured few more h all is own lost =
    subst (λ k. IsLedgerAfter start (Some l) (trusted_ledger start (put_all_back p (first_entries l k)) q)) (sym more)
    (by (put_all_back p (first_entries l (suc n))) start.begins_life refl
    (first_or_lost l s.originators s.life n p is h (own ∙ ap new_ledger configured) lost))
  where
    by_queue : (r : Progress) (queue given : Bool) → q.has_lost ≡ queue → has_given_all r.ledger q.queue ≡ given
        → start.begins_life ≡ false → IsAt l s.originators n r
        → IsLedgerAfter start (Some l) (trusted_ledger start r q)
    by_queue r true given e f same at = inl (new_if_queue_lost start r q e)
    by_queue r false false e f same at = inl (new_if_not_given start r q f)
    by_queue r false true e f same at =
        let all_taken = take_all l.taken n all in
        inr (
          l,
          s.originators,
          refl,
          subst (λ taken. length taken ≤ s.originators) all_taken at.within,
          few,
          trusted_all start r q at.life at.lost e f same ∙ at.ledger
              ∙ ap (λ taken. Some (part s.originators l.life taken)) all_taken,
        )

    by : (r : Progress) (wanted : Bool) → start.begins_life ≡ wanted → IsAtOrLost l s.originators n r
        → IsLedgerAfter start (Some l) (trusted_ledger start r q)
    by r true e at = inl (new_if_wanted start r q e)
    by r false e (inl lost) = inl (new_if_lost start r q lost)
    by r false e (inr at) = by_queue r q.has_lost (has_given_all r.ledger q.queue) refl refl e at

ledger_after_by : (start : AdapterStart) (m : Contents) (ledger : Option LedgerState) (queue : Option QueueState)
    (q : QueueProgress) → AllByRecursion IsNarrow (kept_names m.shapes) → IfSome ledger IsLedger
    → IsConfiguration start
    → IsLedgerAfter start ledger (trusted_ledger start (put_back_in start (saved_device m ledger queue)) q)
ledger_after_by start m None queue q names is configuration =
    let is_version_2 = needs_version_2 queue None in
    let p = behind_objects start m is_version_2 in
    let left : LeavesLedger (beginning (configured start)) p
    = objects_leave (beginning (configured start)) m is_version_2 names in
    inl (ap (λ x. trusted_ledger start x q) (all_entries (beginning (configured start)) m None queue)
    ∙ new_without_life start p q left.life)
ledger_after_by start m (Some l) queue q names is configuration =
    let is_version_2 = needs_version_2 queue (Some l) in
    let p = behind_objects start m is_version_2 in
    let left : LeavesLedger (beginning (configured start)) p
    = objects_leave (beginning (configured start)) m is_version_2 names in
    subst (λ x. IsLedgerAfter start (Some l) (trusted_ledger start x q))
    (sym (all_entries (beginning (configured start)) m (Some l) queue))
    (after_by start start.ledger l p q ENTRIES 64 refl configuration.few refl (omega arith)
    (few_taken l is) is left.ledger left.lost)

-- the queue that a device starts from
abbrev queue_in : AdapterStart → Device → QueueProgress
queue_in start device =
    queue_back_in start (saved_device device.router.objects device.ledger device.router.queue)

pub ledger_after : (start : AdapterStart) (device : Device) → IsRestartable device → IsConfiguration start
    → IsLedgerAfter start device.ledger (restarted start device).ledger
ledger_after start device is configuration =
    ledger_after_by start device.router.objects device.ledger device.router.queue (queue_in start device) is.names
    is.ledger configuration

pub queue_or_new : (start : AdapterStart) (device : Device) → IsRestartable device → IsConfiguration start
    → IsQueueAfter start device.router.queue (restarted start device).router.queue
queue_or_new start device is configuration =
    queue_after start device.router.objects device.ledger device.router.queue is.names is.queue

-- ---- what holds of every device

new_is_ledger : (ledger : Option LedgerStart) → IfSome ledger (λ l. l.life < 2 ^ 64)
    → IfSome ledger (λ l. l.originators ≤ 64) → IfSome (new_ledger ledger) IsLedger
new_is_ledger None life few = tt
new_is_ledger (Some l) life few = record { life = life; few = few; within = omega arith; apart = tt; sized = tt }

own_ledger : (ledger : Option LedgerState) (l : LedgerState) → ledger ≡ Some l → IfSome ledger IsLedger → IsLedger l
own_ledger ledger l e is = subst (λ o. IfSome o IsLedger) e is

after_is_ledger : (start : AdapterStart) (old new : Option LedgerState) → IsConfiguration start → IfSome old IsLedger
    → IsLedgerAfter start old new → IfSome new IsLedger
after_is_ledger start old new configuration is (inl begun) =
    subst (λ o. IfSome o IsLedger) (sym begun) (new_is_ledger start.ledger configuration.life configuration.few)
after_is_ledger start old new configuration is (inr (l, slots, e, within, few, same)) =
    let all = own_ledger old l e is in
    subst (λ o. IfSome o IsLedger) (sym same)
    (record { life = all.life; few = few; within = within; apart = all.apart; sized = all.sized })

pub device_stays : (device : Device) (step : LifeStep) → IsStep step → IsRestartable device
    → IsRestartable (after_life_step device step)
device_stays device (Does step) fits is = record {
  names = subst (λ shapes. AllByRecursion IsNarrow (kept_names shapes)) (sym (step_alike device step).shapes) is.names;
  ledger = step_stays device step fits is.ledger;
  queue = step_queue device step is.queue;
  given = step_given device step is.given;
}
device_stays device (Restarts start) fits is = record {
  names = subst (λ shapes. AllByRecursion IsNarrow (kept_names shapes))
      (sym (shapes_back (beginning (configured start))
      (saved_device device.router.objects device.ledger device.router.queue))) fits.names;
  ledger = after_is_ledger start device.ledger (restarted start device).ledger fits is.ledger
      (ledger_after start device is fits);
  queue = after_is_queue start device.router.queue (restarted start device).router.queue fits.places is.queue
      (queue_or_new start device is fits);
  given = given_after start
      (put_back_in start (saved_device device.router.objects device.ledger device.router.queue)) (queue_in start device);
}

none_pending : (ledger : Option LedgerStart) (queue : Option QueueState)
    → has_given_all (new_ledger ledger) queue ≡ true
none_pending None queue = refl
none_pending (Some l) queue = refl

pub first_device : (start : AdapterStart) → IsConfiguration start
    → IsRestartable (started start []).state.shared.objects
first_device start configuration = record {
  names = configuration.names;
  ledger = new_is_ledger start.ledger configuration.life configuration.few;
  queue = subst (λ q. IfSome q IsQueue) (sym (trusted_new start)) (new_is_queue start.queue configuration.places);
  given = by (is_trusted start (beginning (configured start)) (empty_progress (new_queue start.queue)));
}
  where
    queue : Option QueueState
    queue = (started start []).state.shared.objects.router.queue

    by : (t : Bool)
        → has_given_all (if t then new_ledger start.ledger else new_ledger start.ledger) queue ≡ true
    by true = none_pending start.ledger queue
    by false = none_pending start.ledger queue
