-- A restart goes on with the queue, or begins a life, and that is a later one.
use Rattle.std.proofs.Common.{◌≡◌, ◌≢◌, ◌⊎◌, inl, inr, ℕ, zero, suc, ◌+◌, ◌-◌, ◌<◌, ◌≤◌, ◌^◌, ◌==◌, ◌||◌, nat_lt, Bool}
use Rattle.std.proofs.Common.{true, false, if◌then◌else◌, Option, Some, None, List, [], ◌∷◌, ◌++◌, append_assoc, refl, ap, sym}
use Rattle.std.proofs.Common.{◌∙◌, subst, arith}
use Rattle.std.specs.List.{AllByRecursion}
use Rattle.std.specs.Prelude.{is_some, unwrap_or, option_map, IfSome}
use Rattle.std.proofs.lemmas.Bool.{eq-eqb, eqb-true}
use Rattle.std.proofs.lemmas.Bool.Decides.{nat_tests}
use Rattle.cip_bytes.specs.Numbers.{le}
use Rattle.cip_ledger.specs.Device.{Device}
use Rattle.cip_ledger.specs.Kept.{IsLedger}
use Rattle.cip_ledger.specs.Ledger.{LedgerState}
use Rattle.cip_objects.specs.Contents.{Contents}
use Rattle.cip_objects.specs.Kept.{kept_names}
use Rattle.cip_owner.specs.Queue.{QueueState, IsQueue, empty_queue}
use Rattle.device_state.specs.QueueEntries.{QUEUE_ENTRIES}
use Rattle.device_state.specs.Saved.{needs_version_2}
use Rattle.device_state.proofs.QueueBack.{all_places}
use Rattle.enip_keep.specs.Kept.{Kept}
use Rattle.kept_adapter.specs.declared.adapter_start.AdapterStart.{AdapterStart}
use Rattle.kept_adapter.specs.declared.adapter_start.LedgerStart.{LedgerStart}
use Rattle.kept_adapter.specs.declared.progress.Progress.{Progress}
use Rattle.kept_adapter.specs.declared.queue_progress.QueueProgress.{QueueProgress}
use Rattle.kept_adapter.specs.Keys.{ledger_key}
use Rattle.kept_adapter.specs.Origins.{kept_at}
use Rattle.kept_adapter.specs.Preparing.{life_of, greater_life, ledger_in_later_life}
use Rattle.kept_adapter.specs.Restarts.{restarted, IsNarrow, IsRestartable, resized_queue, with_places}
use Rattle.kept_adapter.specs.Saved.{ledger_bytes, versioned_objects, saved_ledger, saved_queue, saved_device, first_entries}
use Rattle.kept_adapter.specs.Saved.{first_queue_entries, ENTRIES}
use Rattle.kept_adapter.specs.Started.{empty_progress, put_queue_all_back, new_queue, new_ledger, put_back_in, queue_back_in}
use Rattle.kept_adapter.specs.Started.{trusted_queue, trusted_ledger}
use Rattle.kept_adapter.proofs.LedgerBack.{life_back}
use Rattle.kept_adapter.proofs.PutBack.{not_the_life, values_narrow}
use Rattle.kept_adapter.proofs.QueueBack.{progress_of, IsAtOrLost, first_or_lost}
use Rattle.kept_adapter.proofs.QueueLeaves.{all_queue_entries}
use Rattle.kept_adapter.proofs.Restarted.{new_if_queue_lost, new_if_wanted}

-- ---- the queue is lost, or it has all that was kept

abbrev IsBackOrLost : Option QueueState → QueueProgress → Type 0
IsBackOrLost queue p = (p.has_lost ≡ true) ⊎ (p ≡ progress_of queue false)

counted : (q : QueueState) (places count n : ℕ) → count ≡ suc n → 512 ≤ n → count ≤ 2 ^ 16 → IsQueue q
    → IsBackOrLost (Some (with_places places q))
    (put_queue_all_back (empty_progress (Some (empty_queue places))) (first_queue_entries q count))
counted q places count n more past h is =
    by (subst (λ k. IsAtOrLost q places k
    (put_queue_all_back (empty_progress (Some (empty_queue places))) (first_queue_entries q count))) more
    (first_or_lost q places count is h))
  where
    by : IsAtOrLost q places (suc n)
        (put_queue_all_back (empty_progress (Some (empty_queue places))) (first_queue_entries q count))
        → IsBackOrLost (Some (with_places places q))
        (put_queue_all_back (empty_progress (Some (empty_queue places))) (first_queue_entries q count))
    by (inl lost) = inl lost
    by (inr (at, fits)) = inr (at ∙ ap (λ x. progress_of (Some x) false) (all_places q places n is past))

own_back : (own : Option ℕ) (queue : Option QueueState) → IfSome queue IsQueue → is_some own ≡ is_some queue
    → IsBackOrLost (option_map (with_places (unwrap_or own 0)) queue)
    (put_queue_all_back (empty_progress (new_queue own)) (saved_queue queue))
own_back None None is e = inr refl
own_back None (Some q) is e = absurd (cc)
own_back (Some n) None is e = absurd (cc)
own_back (Some n) (Some q) is e = counted q n QUEUE_ENTRIES 512 refl (omega arith) (omega arith) is

-- ---- the ledger is new if the queue is

abbrev GoesOnOrBegins : AdapterStart → Option QueueState → Progress → QueueProgress → Type 0
GoesOnOrBegins start queue p q =
    (trusted_queue start q ≡ queue) ⊎ (trusted_ledger start p q ≡ new_ledger start.ledger)

by_back : (start : AdapterStart) (queue : Option QueueState) (p : Progress) (q : QueueProgress)
    → IsBackOrLost queue q → GoesOnOrBegins start queue p q
by_back start queue p q (inl lost) = inr (new_if_queue_lost start p q lost)
by_back start queue p q (inr back) = by start.begins_life refl
  where
    by : (wanted : Bool) → start.begins_life ≡ wanted → GoesOnOrBegins start queue p q
    by true e = inr (new_if_wanted start p q e)
    by false e =
        inl (ap (trusted_queue start) back ∙ ap (λ t. if t then new_queue start.queue else queue) e)

pub new_queue_new_life : (start : AdapterStart) (device : Device) → IsRestartable device
    → is_some start.queue ≡ is_some device.router.queue
    → ((restarted start device).router.queue ≡ resized_queue start device.router.queue)
    ⊎ ((restarted start device).ledger ≡ new_ledger start.ledger)
new_queue_new_life start device is tables =
    let m = device.router.objects in
    let l = device.ledger in
    let queue = device.router.queue in
    by_back start (resized_queue start queue) (put_back_in start (saved_device m l queue))
    (queue_back_in start (saved_device m l queue))
    (subst (IsBackOrLost (resized_queue start queue))
    (sym (all_queue_entries (empty_progress (new_queue start.queue)) m l queue is.names))
    (own_back start.queue queue is.queue tables))

-- ---- a later life

greater_by : (life kept : ℕ) → kept ≢ 2 ^ 64 - 1 → kept < greater_life life kept
greater_by life kept apart = by (nat_lt kept life) (kept == 2 ^ 64 - 1) refl refl
  where
    by : (less last : Bool) → nat_lt kept life ≡ less → (kept == 2 ^ 64 - 1) ≡ last
        → kept < (if less || last then life else kept + 1)
    by true last e f = grind (arith, nat_tests)
    by false true e f = absurd (apart (eqb-true kept (2 ^ 64 - 1) f))
    by false false e f = omega arith

pub later_life : (ledger : Option LedgerStart) (kept : Kept) → life_of (kept_at (ledger_key 0) kept) ≢ 2 ^ 64 - 1
    → IfSome (ledger_in_later_life ledger kept) (λ l. life_of (kept_at (ledger_key 0) kept) < l.life)
later_life None kept apart = tt
later_life (Some l) kept apart = greater_by l.life (life_of (kept_at (ledger_key 0) kept)) apart

-- ---- the life that is kept of a device

kept_behind : (key : ℕ) (front behind : Kept) → AllByRecursion (λ (entry : ℕ × List ℕ). (entry.0 == key) ≡ false) front
    → kept_at key (front ++ behind) ≡ kept_at key behind
kept_behind key [] behind are = refl
kept_behind key (entry ∷ front) behind are =
    ap (λ t. if t then Some entry.1 else kept_at key (front ++ behind)) are.0 ∙ kept_behind key front behind are.1

narrow_apart : (entries : Kept) → AllByRecursion (λ (entry : ℕ × List ℕ). entry.0 < 2 ^ 48) entries
    → AllByRecursion (λ (entry : ℕ × List ℕ). (entry.0 == ledger_key 0) ≡ false) entries
narrow_apart [] are = tt
narrow_apart (entry ∷ entries) are = (not_the_life entry.0 are.0, narrow_apart entries are.1)

life_first : (l : LedgerState) (n : ℕ) (behind : Kept)
    → kept_at (ledger_key 0) (first_entries l (suc n) ++ behind) ≡ Some (le 8 l.life)
life_first l zero behind =
    ap (λ t. if t then Some (le 8 l.life) else kept_at (ledger_key 0) behind) (eq-eqb (ledger_key 0) (ledger_key 0) refl)
life_first l (suc n) behind =
    let last : ℕ × List ℕ = (ledger_key (suc n), ledger_bytes l (suc n)) in
    ap (kept_at (ledger_key 0)) (append_assoc (first_entries l (suc n)) (last ∷ []) behind)
    ∙ life_first l n (last ∷ behind)

life_counted : (l : LedgerState) (count n : ℕ) (behind : Kept) → count ≡ suc n
    → kept_at (ledger_key 0) (first_entries l count ++ behind) ≡ Some (le 8 l.life)
life_counted l count n behind more =
    ap (λ k. kept_at (ledger_key 0) (first_entries l k ++ behind)) more ∙ life_first l n behind

life_kept : (m : Contents) (l : LedgerState) (queue : Option QueueState) → AllByRecursion IsNarrow (kept_names m.shapes)
    → l.life < 2 ^ 64 → life_of (kept_at (ledger_key 0) (saved_device m (Some l) queue)) ≡ l.life
life_kept m l queue names h =
    let values = versioned_objects m (needs_version_2 queue (Some l)) in
    ap life_of (kept_behind (ledger_key 0) values (saved_ledger (Some l) ++ saved_queue queue)
    (narrow_apart values (omega arith, values_narrow m (kept_names m.shapes) names)))
    ∙ ap life_of (life_counted l ENTRIES 64 (saved_queue queue) refl)
    ∙ life_back l.life h

later_by : (own : Option LedgerStart) (m : Contents) (ledger : Option LedgerState) (queue : Option QueueState)
    → AllByRecursion IsNarrow (kept_names m.shapes) → IfSome ledger IsLedger
    → IfSome ledger (λ old. old.life ≢ 2 ^ 64 - 1 → IfSome (ledger_in_later_life own (saved_device m ledger queue))
    (λ l. old.life < l.life))
later_by own m None queue names is = tt
later_by own m (Some old) queue names is = λ apart.
    let kept = saved_device m (Some old) queue in
    let same = life_kept m old queue names is.life in
    subst (λ k. IfSome (ledger_in_later_life own kept) (λ l. k < l.life)) same
    (later_life own kept (λ last. apart (sym same ∙ last)))

pub later_device_life : (own : Option LedgerStart) (device : Device) → IsRestartable device
    → IfSome device.ledger (λ old. old.life ≢ 2 ^ 64 - 1
    → IfSome (ledger_in_later_life own (saved_device device.router.objects device.ledger device.router.queue))
    (λ l. old.life < l.life))
later_device_life own device is =
    later_by own device.router.objects device.ledger device.router.queue is.names is.ledger
