-- The queue of a device that starts from what was kept of a device.
use Rattle.std.proofs.Common.{◌≡◌, ◌⊎◌, inl, inr, ℕ, zero, suc, ◌<◌, ◌≤◌, ◌^◌, ◌||◌, Bool, true, false, if◌then◌else◌, Option, Some}
use Rattle.std.proofs.Common.{None, List, [], ◌∷◌, length, refl, ap, sym, ◌∙◌, subst, arith}
use Rattle.std.specs.Prelude.{IfSome}
use Rattle.std.specs.List.{AllByRecursion}
use Rattle.cip_ledger.specs.Ledger.{LedgerState}
use Rattle.cip_objects.specs.Contents.{Contents}
use Rattle.cip_objects.specs.Kept.{kept_names}
use Rattle.cip_owner.specs.Queue.{QueueState, IsQueue, empty_queue}
use Rattle.device_state.specs.QueueEntries.{QUEUE_ENTRIES, queue_bytes, queue_put}
use Rattle.device_state.proofs.QueueBack.{at, before, IsBefore, entry_back, entry_or_lost, all_commands, all_places}
use Rattle.enip_keep.specs.Kept.{Kept}
use Rattle.kept_adapter.specs.declared.adapter_start.AdapterStart.{AdapterStart}
use Rattle.kept_adapter.specs.declared.queue_progress.QueueProgress.{QueueProgress}
use Rattle.kept_adapter.specs.Keys.{queue_key, is_queue_key, queue_number}
use Rattle.kept_adapter.specs.Restarts.{IsNarrow, IsQueueAfter, places_of}
use Rattle.kept_adapter.specs.Saved.{saved_queue, saved_device, first_queue_entries}
use Rattle.kept_adapter.specs.Started.{empty_progress, queue_progressed, entry_to_queue, put_queue_back, put_queue_all_back}
use Rattle.kept_adapter.specs.Started.{new_queue, queue_back_in, trusted_queue}
use Rattle.kept_adapter.proofs.QueueLeaves.{of_queue, number_back, put_queue_two, all_queue_entries}

abbrev pub progress_of : Option QueueState → Bool → QueueProgress
progress_of queue lost = record { queue = queue; has_lost = lost }

-- An entry of the queue goes to the queue.
entry_goes : (q : QueueState) (lost : Bool) (n : ℕ) (content : List ℕ) → n < 2 ^ 16
    → put_queue_back (progress_of (Some q) lost) (queue_key n, content)
    ≡ queue_progressed (progress_of (Some q) lost) (queue_put q n content)
entry_goes q lost n content h =
    let p = progress_of (Some q) lost in
    ap (λ t. if t then entry_to_queue p (queue_number (queue_key n)) content (Some q) else p) (of_queue n h)
    ∙ ap (λ k. entry_to_queue p k content (Some q)) (number_back n h)

-- ---- with as many places

first_back : (q : QueueState) (limit count : ℕ) → IsQueue q → length q.waiting ≤ limit → count ≤ 2 ^ 16
    → put_queue_all_back (empty_progress (Some (empty_queue limit))) (first_queue_entries q count)
    ≡ progress_of (Some (before q limit count)) false
first_back q limit zero is fits h = refl
first_back q limit (suc count) is fits h =
    let p = empty_progress (Some (empty_queue limit)) in
    put_queue_two p (first_queue_entries q count) ((queue_key count, queue_bytes q count) ∷ [])
    ∙ ap (λ x. put_queue_back x (queue_key count, queue_bytes q count))
    (first_back q limit count is fits (omega (arith, h)))
    ∙ entry_goes (before q limit count) false count (queue_bytes q count) (omega (arith, h))
    ∙ ap (queue_progressed (progress_of (Some (before q limit count)) false)) (entry_back q limit count is fits)

counted : (q : QueueState) (limit count n : ℕ) → count ≡ suc n → 512 ≤ n → count ≤ 2 ^ 16 → IsQueue q
    → length q.waiting ≤ limit
    → put_queue_all_back (empty_progress (Some (empty_queue limit))) (first_queue_entries q count)
    ≡ progress_of (Some (record q { limit = limit })) false
counted q limit count n more past h is fits =
    first_back q limit count is fits h ∙ ap (λ k. progress_of (Some (before q limit k)) false) more
    ∙ ap (λ x. progress_of (Some x) false) (all_places q limit n is past)

with_places : (start : AdapterStart) (queue : Option QueueState) → IfSome queue IsQueue
    → start.queue ≡ places_of queue
    → put_queue_all_back (empty_progress (new_queue start.queue)) (saved_queue queue) ≡ progress_of queue false
with_places start None is same = ap (λ o. empty_progress (new_queue o)) same
with_places start (Some q) is same =
    ap (λ o. put_queue_all_back (empty_progress (new_queue o)) (saved_queue (Some q))) same
    ∙ counted q q.limit QUEUE_ENTRIES 512 refl (omega arith) (omega arith) is is.within

pub queue_kept : (start : AdapterStart) (m : Contents) (l : Option LedgerState) (queue : Option QueueState)
    → AllByRecursion IsNarrow (kept_names m.shapes) → IfSome queue IsQueue → start.queue ≡ places_of queue
    → queue_back_in start (saved_device m l queue) ≡ record { queue = queue; has_lost = false }
queue_kept start m l queue names is same =
    all_queue_entries (empty_progress (new_queue start.queue)) m l queue names ∙ with_places start queue is same

-- ---- with any number of places

-- An entry is lost, or the queue is as it was before the entry with this number.
abbrev pub IsAtOrLost : QueueState → ℕ → ℕ → QueueProgress → Type 0
IsAtOrLost q limit n p =
    (p.has_lost ≡ true) ⊎ ((p ≡ progress_of (Some (before q limit n)) false) × IsBefore q limit n)

lost_stays : (p : QueueProgress) (entry : ℕ × List ℕ) → p.has_lost ≡ true → (put_queue_back p entry).has_lost ≡ true
lost_stays p entry lost = by (is_queue_key entry.0)
  where
    by_put : (after : Option QueueState) → (queue_progressed p after).has_lost ≡ true
    by_put None = refl
    by_put (Some q) = lost

    by_queue : (queue : Option QueueState) → (entry_to_queue p (queue_number entry.0) entry.1 queue).has_lost ≡ true
    by_queue None = lost
    by_queue (Some q) = by_put (queue_put q (queue_number entry.0) entry.1)

    by : (t : Bool) → (if t then entry_to_queue p (queue_number entry.0) entry.1 p.queue else p).has_lost ≡ true
    by true = by_queue p.queue
    by false = lost

next_or_lost : (q : QueueState) (limit n : ℕ) (p : QueueProgress) → IsQueue q → n < 2 ^ 16 → IsAtOrLost q limit n p
    → IsAtOrLost q limit (suc n) (put_queue_back p (queue_key n, queue_bytes q n))
next_or_lost q limit n p is h (inl lost) = inl (lost_stays p (queue_key n, queue_bytes q n) lost)
next_or_lost q limit n p is h (inr (at, fits)) =
    let b = queue_bytes q n in
    let now = progress_of (Some (before q limit n)) false in
    let goes : put_queue_back p (queue_key n, b) ≡ queue_progressed now (queue_put (before q limit n) n b)
    = ap (λ x. put_queue_back x (queue_key n, b)) at ∙ entry_goes (before q limit n) false n b h in
    by (queue_put (before q limit n) n b) goes (entry_or_lost q limit n is fits)
  where
    by : (o : Option QueueState)
        → put_queue_back p (queue_key n, queue_bytes q n)
        ≡ queue_progressed (progress_of (Some (before q limit n)) false) o
        → (o ≡ None) ⊎ ((o ≡ Some (before q limit (suc n))) × IsBefore q limit (suc n))
        → IsAtOrLost q limit (suc n) (put_queue_back p (queue_key n, queue_bytes q n))
    by o goes (inl none) =
        let now = progress_of (Some (before q limit n)) false in
        inl (ap (λ (x : QueueProgress). x.has_lost) (goes ∙ ap (queue_progressed now) none))
    by o goes (inr (some, fits)) =
        let now = progress_of (Some (before q limit n)) false in
        inr (goes ∙ ap (queue_progressed now) some, fits)

pub first_or_lost : (q : QueueState) (limit count : ℕ) → IsQueue q → count ≤ 2 ^ 16
    → IsAtOrLost q limit count
    (put_queue_all_back (empty_progress (Some (empty_queue limit))) (first_queue_entries q count))
first_or_lost q limit zero is h = inr (refl, tt)
first_or_lost q limit (suc count) is h =
    let p = empty_progress (Some (empty_queue limit)) in
    subst (IsAtOrLost q limit (suc count))
    (sym (put_queue_two p (first_queue_entries q count) ((queue_key count, queue_bytes q count) ∷ [])))
    (next_or_lost q limit count (put_queue_all_back p (first_queue_entries q count)) is (omega (arith, h))
    (first_or_lost q limit count is (omega (arith, h))))

-- without a queue nothing is put back
none_stays : (p : QueueProgress) (entries : Kept) → p.queue ≡ None → (put_queue_all_back p entries).queue ≡ None
none_stays p [] none = none
none_stays p (entry ∷ entries) none = none_stays (put_queue_back p entry) entries (by (is_queue_key entry.0))
  where
    by : (t : Bool) → (if t then entry_to_queue p (queue_number entry.0) entry.1 p.queue else p).queue ≡ None
    by true = ap (λ o. (entry_to_queue p (queue_number entry.0) entry.1 o).queue) none ∙ none
    by false = none

trusted_if_lost : (start : AdapterStart) (p : QueueProgress) → p.has_lost ≡ true
    → trusted_queue start p ≡ new_queue start.queue
trusted_if_lost start p lost = ap (λ t. if t || start.begins_life then new_queue start.queue else p.queue) lost

trusted_if_wanted : (start : AdapterStart) (p : QueueProgress) → start.begins_life ≡ true
    → trusted_queue start p ≡ new_queue start.queue
trusted_if_wanted start p wanted = by p.has_lost
  where
    by : (t : Bool) → (if t || start.begins_life then new_queue start.queue else p.queue) ≡ new_queue start.queue
    by true = refl
    by false = ap (λ t. if t then new_queue start.queue else p.queue) wanted

trusted_none : (start : AdapterStart) (p : QueueProgress) → start.queue ≡ None → p.queue ≡ None
    → trusted_queue start p ≡ new_queue start.queue
trusted_none start p same none = by (p.has_lost || start.begins_life)
  where
    by : (t : Bool) → (if t then new_queue start.queue else p.queue) ≡ new_queue start.queue
    by true = refl
    by false = none ∙ sym (ap new_queue same)

-- with nothing put back
pub trusted_new : (start : AdapterStart)
    → trusted_queue start (empty_progress (new_queue start.queue)) ≡ new_queue start.queue
trusted_new start = by start.begins_life
  where
    by : (t : Bool) → (if t then new_queue start.queue else new_queue start.queue) ≡ new_queue start.queue
    by true = refl
    by false = refl

after_own : (start : AdapterStart) (queue : Option QueueState) (own : Option ℕ) → start.queue ≡ own
    → IfSome queue IsQueue
    → IsQueueAfter start queue
    (trusted_queue start (put_queue_all_back (empty_progress (new_queue start.queue)) (saved_queue queue)))
after_own start queue None same is =
    let p = empty_progress (new_queue start.queue) in
    inl (trusted_none start (put_queue_all_back p (saved_queue queue)) same
    (none_stays p (saved_queue queue) (ap new_queue same)))
after_own start None (Some places) same is = inl (trusted_new start)
after_own start (Some q) (Some places) same is = by QUEUE_ENTRIES 512 refl (omega arith) (omega arith)
  where
    at_end : (n : ℕ) → 512 ≤ n → IsAtOrLost q places (suc n)
        (put_queue_all_back (empty_progress (Some (empty_queue places))) (first_queue_entries q (suc n)))
        → IsQueueAfter start (Some q) (trusted_queue start
        (put_queue_all_back (empty_progress (Some (empty_queue places))) (first_queue_entries q (suc n))))
    at_end n past (inl lost) =
        inl (trusted_if_lost start
        (put_queue_all_back (empty_progress (Some (empty_queue places))) (first_queue_entries q (suc n))) lost)
    at_end n past (inr (at, fits)) = by_life start.begins_life refl
      where
        by_life : (wanted : Bool) → start.begins_life ≡ wanted → IsQueueAfter start (Some q) (trusted_queue start
            (put_queue_all_back (empty_progress (Some (empty_queue places))) (first_queue_entries q (suc n))))
        by_life true e =
            inl (trusted_if_wanted start
            (put_queue_all_back (empty_progress (Some (empty_queue places))) (first_queue_entries q (suc n))) e)
        by_life false e = inr (
          q,
          places,
          refl,
          same,
          subst (λ w. length w ≤ places) (all_commands q n is past) fits,
          ap (trusted_queue start) at
              ∙ (ap (λ t. if t then new_queue start.queue else Some (before q places (suc n))) e
              ∙ ap (λ x. Some x) (all_places q places n is past)),
        )

    by : (count n : ℕ) → count ≡ suc n → 512 ≤ n → count ≤ 2 ^ 16 → IsQueueAfter start (Some q) (trusted_queue start
        (put_queue_all_back (empty_progress (new_queue start.queue)) (first_queue_entries q count)))
    by count n more past h =
        subst (λ o. IsQueueAfter start (Some q) (trusted_queue start
        (put_queue_all_back (empty_progress (new_queue o)) (first_queue_entries q count)))) (sym same)
        (subst (λ k. IsQueueAfter start (Some q) (trusted_queue start
        (put_queue_all_back (empty_progress (Some (empty_queue places))) (first_queue_entries q k)))) (sym more)
        (at_end n past (first_or_lost q places (suc n) is (subst (λ k. k ≤ 2 ^ 16) more h))))

pub queue_after : (start : AdapterStart) (m : Contents) (l : Option LedgerState) (queue : Option QueueState)
    → AllByRecursion IsNarrow (kept_names m.shapes) → IfSome queue IsQueue
    → IsQueueAfter start queue (trusted_queue start (queue_back_in start (saved_device m l queue)))
queue_after start m l queue names is =
    subst (λ p. IsQueueAfter start queue (trusted_queue start p))
    (sym (all_queue_entries (empty_progress (new_queue start.queue)) m l queue names))
    (after_own start queue start.queue refl is)

-- ---- what holds of every queue

pub new_is_queue : (places : Option ℕ) → IfSome places (λ n. n ≤ 256) → IfSome (new_queue places) IsQueue
new_is_queue None few = tt
new_is_queue (Some n) few =
    record {
      few = few;
      next = omega arith;
      handed = omega arith;
      within = omega arith;
      kept = omega arith;
      commands = tt;
      done = tt;
    }

own_queue : (queue : Option QueueState) (q : QueueState) → queue ≡ Some q → IfSome queue IsQueue → IsQueue q
own_queue queue q e is = subst (λ o. IfSome o IsQueue) e is

few_places : (own : Option ℕ) (places : ℕ) → own ≡ Some places → IfSome own (λ n. n ≤ 256) → places ≤ 256
few_places own places e few = subst (λ o. IfSome o (λ n. n ≤ 256)) e few

pub after_is_queue : (start : AdapterStart) (old new : Option QueueState) → IfSome start.queue (λ n. n ≤ 256)
    → IfSome old IsQueue → IsQueueAfter start old new → IfSome new IsQueue
after_is_queue start old new few is (inl begun) =
    subst (λ o. IfSome o IsQueue) (sym begun) (new_is_queue start.queue few)
after_is_queue start old new few is (inr (q, places, e, own, within, same)) =
    let all = own_queue old q e is in
    subst (λ o. IfSome o IsQueue) (sym same) (record {
      few = few_places start.queue places own few;
      next = all.next;
      handed = all.handed;
      within = within;
      kept = all.kept;
      commands = all.commands;
      done = all.done;
    })
