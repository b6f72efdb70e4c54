-- A restart with room for all that is kept.
use Rattle.std.proofs.Common.{◌≡◌, ℕ, ◌≤◌, ◌&&◌, Option, Some, None, List, [], ◌∷◌, ◌++◌, length, refl, ap, sym, ◌∙◌, arith}
use Rattle.std.specs.Prelude.{option_map, is_some, unwrap_or, IfSome}
use Rattle.cip_ledger.specs.Device.{Device}
use Rattle.cip_ledger.specs.Kept.{IsLedger}
use Rattle.cip_ledger.specs.Ledger.{SlotState, LedgerState}
use Rattle.cip_objects.specs.Contents.{Contents}
use Rattle.cip_owner.specs.Queue.{QueueState, IsQueue}
use Rattle.device_state.specs.QueueEntries.{QUEUE_ENTRIES}
use Rattle.device_state.specs.Saved.{needs_version_2}
use Rattle.kept_adapter.specs.declared.adapter_start.AdapterStart.{AdapterStart}
use Rattle.kept_adapter.specs.declared.adapter_start.LedgerStart.{LedgerStart}
use Rattle.kept_adapter.specs.Hindrances.{slots_in, places_in}
use Rattle.kept_adapter.specs.Restarts.{restarted, IsRestartable, IsConfiguration, Sizes, sizes_of, GoesOn}
use Rattle.kept_adapter.specs.Restarts.{slots_of, places_of, Fits, with_slots, with_places, resized_ledger, resized_queue}
use Rattle.kept_adapter.specs.Saved.{versioned_objects, saved_ledger, saved_queue, saved_device, first_entries}
use Rattle.kept_adapter.specs.Saved.{first_queue_entries, ENTRIES}
use Rattle.kept_adapter.specs.Started.{started, has_given, pending_ticket, has_given_each, has_given_all}
use Rattle.kept_adapter.proofs.Restarted.{goes_on, queue_goes_on}

-- ---- what is kept depends neither on the slots nor on the places

slots_apart : (l : LedgerState) (slots count : ℕ)
    → first_entries (with_slots slots l) count ≡ first_entries l count
slots_apart l slots count = refl

places_apart : (q : QueueState) (places count : ℕ)
    → first_queue_entries (with_places places q) count ≡ first_queue_entries q count
places_apart q places count = refl

ledger_counted : (l : LedgerState) (slots count : ℕ) → count ≡ ENTRIES
    → saved_ledger (Some (with_slots slots l)) ≡ saved_ledger (Some l)
ledger_counted l slots count e =
    ap (first_entries (with_slots slots l)) (sym e) ∙ slots_apart l slots count ∙ ap (first_entries l) e

queue_counted : (q : QueueState) (places count : ℕ) → count ≡ QUEUE_ENTRIES
    → saved_queue (Some (with_places places q)) ≡ saved_queue (Some q)
queue_counted q places count e =
    ap (first_queue_entries (with_places places q)) (sym e) ∙ places_apart q places count
    ∙ ap (first_queue_entries q) e

same_ledger : (start : AdapterStart) (l : Option LedgerState) → saved_ledger (resized_ledger start l) ≡ saved_ledger l
same_ledger start None = refl
same_ledger start (Some l) = ledger_counted l (slots_in start) ENTRIES refl

same_queue : (start : AdapterStart) (q : Option QueueState) → saved_queue (resized_queue start q) ≡ saved_queue q
same_queue start None = refl
same_queue start (Some q) = queue_counted q (places_in start) QUEUE_ENTRIES refl

same_version : (start : AdapterStart) (l : Option LedgerState) (q : Option QueueState)
    → needs_version_2 (resized_queue start q) (resized_ledger start l) ≡ needs_version_2 q l
same_version start None None = refl
same_version start None (Some q) = refl
same_version start (Some l) None = refl
same_version start (Some l) (Some q) = refl

saved_same : (start : AdapterStart) (m : Contents) (l : Option LedgerState) (q : Option QueueState)
    → saved_device m (resized_ledger start l) (resized_queue start q) ≡ saved_device m l q
saved_same start m l q =
    let version = needs_version_2 (resized_queue start q) (resized_ledger start l) in
    ap (λ x. versioned_objects m version ++ (x ++ saved_queue (resized_queue start q))) (same_ledger start l)
    ∙ ap (λ x. versioned_objects m version ++ (saved_ledger l ++ x)) (same_queue start q)
    ∙ ap (λ x. versioned_objects m x ++ (saved_ledger l ++ saved_queue q)) (same_version start l q)

-- ---- the device with as many slots and places as are configured

abbrev resized : AdapterStart → Device → Device
resized start device = record device {
  ledger = resized_ledger start device.ledger;
  router = record device.router { queue = resized_queue start device.router.queue };
}

own_slots : (own : Option LedgerStart) → IfSome own (λ s. s.originators ≤ 64)
    → unwrap_or (option_map (λ (s : LedgerStart). s.originators) own) 0 ≤ 64
own_slots None few = omega arith
own_slots (Some s) few = few

own_places : (own : Option ℕ) → IfSome own (λ n. n ≤ 256) → unwrap_or own 0 ≤ 256
own_places None few = omega arith
own_places (Some n) few = few

ledger_resized : (start : AdapterStart) (l : Option LedgerState) → slots_in start ≤ 64 → IfSome l IsLedger
    → IfSome l (λ l. length l.taken ≤ slots_in start) → IfSome (resized_ledger start l) IsLedger
ledger_resized start None few is fits = tt
ledger_resized start (Some l) few is fits =
    record { life = is.life; few = few; within = fits; apart = is.apart; sized = is.sized }

queue_resized : (start : AdapterStart) (q : Option QueueState) → places_in start ≤ 256 → IfSome q IsQueue
    → IfSome q (λ q. length q.waiting ≤ places_in start) → IfSome (resized_queue start q) IsQueue
queue_resized start None few is fits = tt
queue_resized start (Some q) few is fits = record {
  few = few;
  next = is.next;
  handed = is.handed;
  within = fits;
  kept = is.kept;
  commands = is.commands;
  done = is.done;
}

has_given_resized : (slot : Option ℕ) (places : ℕ) (q : Option QueueState)
    → has_given slot (option_map (with_places places) q) ≡ has_given slot q
has_given_resized None places q = refl
has_given_resized (Some ticket) places None = refl
has_given_resized (Some ticket) places (Some q) = refl

each_resized : (slots : List SlotState) (places : ℕ) (q : Option QueueState)
    → has_given_each slots (option_map (with_places places) q) ≡ has_given_each slots q
each_resized [] places q = refl
each_resized (slot ∷ slots) places q =
    ap (λ t. t && has_given_each slots (option_map (with_places places) q))
    (has_given_resized (pending_ticket slot) places q)
    ∙ ap (λ t. has_given (pending_ticket slot) q && t) (each_resized slots places q)

given_resized : (start : AdapterStart) (l : Option LedgerState) (q : Option QueueState)
    → has_given_all (resized_ledger start l) (resized_queue start q) ≡ has_given_all l q
given_resized start None q = refl
given_resized start (Some l) q = each_resized l.taken (places_in start) q

is_restartable : (start : AdapterStart) (device : Device) → IsRestartable device → IsConfiguration start
    → Fits start device → IsRestartable (resized start device)
is_restartable start device is configuration fits = record {
  names = is.names;
  ledger = ledger_resized start device.ledger (own_slots start.ledger configuration.few) is.ledger fits.slots;
  queue = queue_resized start device.router.queue (own_places start.queue configuration.places) is.queue fits.places;
  given = given_resized start device.ledger device.router.queue ∙ is.given;
}

-- ---- the sizes are those that are configured

slots_by : (own : Option LedgerStart) (l : Option LedgerState) → is_some own ≡ is_some l
    → option_map (λ (s : LedgerStart). s.originators) own
    ≡ slots_of (option_map (with_slots (unwrap_or (option_map (λ (s : LedgerStart). s.originators) own) 0)) l)
slots_by None None e = refl
slots_by None (Some l) e = absurd (cc)
slots_by (Some s) None e = absurd (cc)
slots_by (Some s) (Some l) e = refl

places_by : (own : Option ℕ) (q : Option QueueState) → is_some own ≡ is_some q
    → own ≡ places_of (option_map (with_places (unwrap_or own 0)) q)
places_by None None e = refl
places_by None (Some q) e = absurd (cc)
places_by (Some n) None e = absurd (cc)
places_by (Some n) (Some q) e = refl

abbrev sizes : Option ℕ → Option ℕ → Sizes
sizes slots places = record { slots = slots; places = places }

goes_on_with : (start : AdapterStart) (device : Device) → Fits start device → GoesOn (sizes_of (resized start device)) start
goes_on_with start device fits = record {
  same = ap (λ s. sizes s start.queue) (slots_by start.ledger device.ledger fits.ledger)
      ∙ ap (sizes (slots_of (resized_ledger start device.ledger)))
      (places_by start.queue device.router.queue fits.queue);
  same_life = fits.same_life;
}

pub fitting_ledger : (start : AdapterStart) (device : Device) → IsRestartable device → IsConfiguration start
    → Fits start device → (restarted start device).ledger ≡ resized_ledger start device.ledger
fitting_ledger start device is configuration fits =
    ap (λ kept. (started start kept).state.shared.objects.ledger)
    (sym (saved_same start device.router.objects device.ledger device.router.queue))
    ∙ goes_on start (resized start device) (is_restartable start device is configuration fits)
    (goes_on_with start device fits)

pub fitting_queue : (start : AdapterStart) (device : Device) → IsRestartable device → IsConfiguration start
    → Fits start device → (restarted start device).router.queue ≡ resized_queue start device.router.queue
fitting_queue start device is configuration fits =
    ap (λ kept. (started start kept).state.shared.objects.router.queue)
    (sym (saved_same start device.router.objects device.ledger device.router.queue))
    ∙ queue_goes_on start (resized start device) (is_restartable start device is configuration fits)
    (goes_on_with start device fits)
