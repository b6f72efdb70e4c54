-- A start that nothing hinders has room for all that is kept.
use Rattle.std.proofs.Common.{◌≡◌, ℕ, zero, suc, ◌+◌, ◌-◌, ◌<◌, ◌≤◌, ◌^◌, ◌==◌, ◌&&◌, not, nat_lt, nat_le, Bool, true}
use Rattle.std.proofs.Common.{false, if◌then◌else◌, Option, Some, None, List, [], ◌∷◌, ◌++◌, length, take, refl, ap, sym, ◌∙◌}
use Rattle.std.proofs.Common.{subst, arith}
use Rattle.std.specs.Prelude.{is_some, IfSome, slice_get}
use Rattle.std.specs.List.{AllByRecursion}
use Rattle.std.proofs.lemmas.Bool.{ne_eqb, eq-eqb}
use Rattle.std.proofs.lemmas.Bool.Decides.{nat_tests}
use Rattle.std.proofs.lemmas.List.{length-append}
use Rattle.cip_bytes.specs.Numbers.{le}
use Rattle.cip_ledger.specs.Device.{Device}
use Rattle.cip_ledger.specs.Kept.{IsLedger}
use Rattle.cip_ledger.specs.Ledger.{SlotState, LedgerState}
use Rattle.cip_objects.specs.Contents.{Contents}
use Rattle.cip_objects.specs.Kept.{kept_names}
use Rattle.cip_owner.specs.Queue.{QueuedCommand, QueueState, IsQueue}
use Rattle.device_state.specs.QueueEntries.{PLACES, QUEUE_ENTRIES, command_bytes, bytes_of_command, bytes_of_result}
use Rattle.device_state.specs.QueueEntries.{next_bytes, place_bytes, queue_bytes}
use Rattle.device_state.specs.Saved.{needs_version_2, slot_bytes}
use Rattle.enip_keep.specs.Kept.{Kept}
use Rattle.kept_adapter.specs.declared.adapter_start.AdapterStart.{AdapterStart}
use Rattle.kept_adapter.specs.declared.hindrances.Hindrance.{Hindrance}
use Rattle.kept_adapter.specs.declared.hindrances.Hindrance.TheVariants.{TooFewPlaces, TooFewSlots}
use Rattle.kept_adapter.specs.Hindrances.{is_waiting, is_taken, count_of, places_in, slots_in, too_few_places, too_few_slots}
use Rattle.kept_adapter.specs.Hindrances.{without_service}
use Rattle.kept_adapter.specs.Keys.{ledger_key, is_ledger_key, queue_key, is_queue_key, queue_number}
use Rattle.kept_adapter.specs.Restarts.{restarted, IsNarrow, IsRestartable, IsConfiguration, Fits, IsUnhindered}
use Rattle.kept_adapter.specs.Restarts.{resized_ledger, resized_queue}
use Rattle.kept_adapter.specs.Saved.{bytes_of_slot, ledger_bytes, versioned_objects, saved_ledger, saved_queue, saved_device}
use Rattle.kept_adapter.specs.Saved.{first_entries, first_queue_entries, ENTRIES}
use Rattle.kept_adapter.proofs.Fitting.{fitting_ledger, fitting_queue}
use Rattle.kept_adapter.proofs.LedgerBack.{of_ledger, not_life, not_empty, take_all}
use Rattle.kept_adapter.proofs.PutBack.{not_of_ledger, values_narrow}
use Rattle.kept_adapter.proofs.QueueLeaves.{of_queue, number_back, below_queue, not_of_ledger as queue_not_of_ledger}

abbrev Test : Type 0
Test = ℕ × List ℕ → Bool

-- ---- counting

count_two : (test : Test) (first second : Kept)
    → count_of test (first ++ second) ≡ count_of test first + count_of test second
count_two test [] second = omega arith
count_two test (entry ∷ first) second = by (test entry) (count_two test first second)
  where
    by : (t : Bool)
        → count_of test (first ++ second) ≡ count_of test first + count_of test second
        → (if t then suc (count_of test (first ++ second)) else count_of test (first ++ second))
        ≡ (if t then suc (count_of test first) else count_of test first) + count_of test second
    by true rest = omega (arith, rest)
    by false rest = rest

abbrev one_if : Bool → ℕ
one_if t = if t then 1 else 0

count_more : (test : Test) (entries : Kept) (entry : ℕ × List ℕ)
    → count_of test (entries ++ entry ∷ []) ≡ count_of test entries + one_if (test entry)
count_more test entries entry = count_two test entries (entry ∷ [])

-- no entry counts
none_counted : (test : Test) (entries : Kept) → AllByRecursion (λ entry. test entry ≡ false) entries
    → count_of test entries ≡ 0
none_counted test [] are = refl
none_counted test (entry ∷ entries) are =
    ap (λ t. if t then suc (count_of test entries) else count_of test entries) are.0 ∙ none_counted test entries are.1

take_length : {A : Type 0} (xs : List A) (n : ℕ)
    → length (take (suc n) xs) ≡ length (take n xs) + one_if (is_some (slice_get xs n))
take_length [] zero = refl
take_length [] (suc n) = refl
take_length (x ∷ xs) zero = refl
take_length (x ∷ xs) (suc n) = let rest = take_length xs n in omega (arith, rest)

past_end : {A : Type 0} (xs : List A) (n : ℕ) → length xs ≤ n → is_some (slice_get xs n) ≡ false
past_end [] n h = refl
past_end (x ∷ xs) zero h = absurd (omega (arith, h))
past_end (x ∷ xs) (suc n) h = past_end xs n (omega (arith, h))

and_right : (a : Bool) → a && false ≡ false
and_right true = refl
and_right false = refl

-- ---- the values

module _ (test : Test) (apart : (entry : ℕ × List ℕ) → entry.0 < 2 ^ 48 → test entry ≡ false) where
  narrow_apart : (entries : Kept) → AllByRecursion (λ (entry : ℕ × List ℕ). entry.0 < 2 ^ 48) entries
      → AllByRecursion (λ entry. test entry ≡ false) entries
  narrow_apart [] are = tt
  narrow_apart (entry ∷ entries) are = (apart entry are.0, narrow_apart entries are.1)

  no_values : (m : Contents) (is_version_2 : Bool) → AllByRecursion IsNarrow (kept_names m.shapes)
      → count_of test (versioned_objects m is_version_2) ≡ 0
  no_values m is_version_2 names =
      none_counted test (versioned_objects m is_version_2)
      (narrow_apart (versioned_objects m is_version_2) (omega arith, values_narrow m (kept_names m.shapes) names))

value_not_taken : (entry : ℕ × List ℕ) → entry.0 < 2 ^ 48 → is_taken entry ≡ false
value_not_taken entry h =
    ap (λ t. t && not (entry.0 == ledger_key 0) && not (length entry.1 == 0)) (not_of_ledger entry.0 h)

not_waiting : (entry : ℕ × List ℕ) → entry.0 < 2 ^ 49 → is_waiting entry ≡ false
not_waiting entry h =
    ap (λ t. t && not (queue_number entry.0 == 0) && nat_le (queue_number entry.0) PLACES && not (length entry.1 == 0))
    (below_queue entry.0 h)

value_not_waiting : (entry : ℕ × List ℕ) → entry.0 < 2 ^ 48 → is_waiting entry ≡ false
value_not_waiting entry h = not_waiting entry (omega (arith, h))

-- ---- the slots

life_not_taken : (content : List ℕ) → is_taken (ledger_key 0, content) ≡ false
life_not_taken content =
    ap (λ t. is_ledger_key (ledger_key 0) && not t && not (length content == 0))
    (eq-eqb (ledger_key 0) (ledger_key 0) refl)

slot_taken : (n : ℕ) (found : Option SlotState) → suc n < 2 ^ 16
    → is_taken (ledger_key (suc n), bytes_of_slot found) ≡ is_some found
slot_taken n None h = and_right (is_ledger_key (ledger_key (suc n)) && not (ledger_key (suc n) == ledger_key 0))
slot_taken n (Some slot) h =
    ap (λ t. t && not (ledger_key (suc n) == ledger_key 0) && not (length (slot_bytes slot) == 0)) (of_ledger (suc n) h)
    ∙ ap (λ t. true && not t && not (length (slot_bytes slot) == 0)) (not_life n)
    ∙ ap (λ t. true && true && not t) (not_empty slot)

first_taken : (l : LedgerState) (n : ℕ) → n < 2 ^ 16
    → count_of is_taken (first_entries l (suc n)) ≡ length (take n l.taken)
first_taken l zero h = ap one_if (life_not_taken (le 8 l.life))
first_taken l (suc n) h =
    count_more is_taken (first_entries l (suc n)) (ledger_key (suc n), ledger_bytes l (suc n))
    ∙ ap (λ k. k + one_if (is_taken (ledger_key (suc n), bytes_of_slot (slice_get l.taken n))))
    (first_taken l n (omega (arith, h)))
    ∙ ap (λ t. length (take n l.taken) + one_if t) (slot_taken n (slice_get l.taken n) h)
    ∙ sym (take_length l.taken n)

slots_counted : (l : LedgerState) (count n : ℕ) → count ≡ suc n → n < 2 ^ 16 → length l.taken ≤ n
    → count_of is_taken (first_entries l count) ≡ length l.taken
slots_counted l count n more h few =
    ap (λ k. count_of is_taken (first_entries l k)) more ∙ first_taken l n h ∙ ap (λ xs. length xs) (take_all l.taken n few)

command_not_taken : (q : QueueState) (count : ℕ) → count ≤ 2 ^ 16
    → count_of is_taken (first_queue_entries q count) ≡ 0
command_not_taken q zero h = refl
command_not_taken q (suc count) h =
    let b = queue_bytes q count in
    count_more is_taken (first_queue_entries q count) (queue_key count, b)
    ∙ ap (λ k. k + one_if (is_taken (queue_key count, b))) (command_not_taken q count (omega (arith, h)))
    ∙ ap (λ t. 0 + one_if (t && not (queue_key count == ledger_key 0) && not (length b == 0)))
    (queue_not_of_ledger count (omega (arith, h)))

no_commands_taken : (queue : Option QueueState) (count : ℕ) → count ≡ QUEUE_ENTRIES → count ≤ 2 ^ 16
    → count_of is_taken (saved_queue queue) ≡ 0
no_commands_taken None count e h = refl
no_commands_taken (Some q) count e h =
    ap (λ k. count_of is_taken (first_queue_entries q k)) (sym e) ∙ command_not_taken q count h

-- ---- the commands that wait

slot_not_waiting : (l : LedgerState) (count : ℕ) → count ≤ 2 ^ 15 → count_of is_waiting (first_entries l count) ≡ 0
slot_not_waiting l zero h = refl
slot_not_waiting l (suc count) h =
    let b = ledger_bytes l count in
    count_more is_waiting (first_entries l count) (ledger_key count, b)
    ∙ ap (λ k. k + one_if (is_waiting (ledger_key count, b))) (slot_not_waiting l count (omega (arith, h)))
    ∙ ap (λ t. 0 + one_if t) (not_waiting (ledger_key count, b) (omega (arith, h)))

no_slots_wait : (l : Option LedgerState) (count : ℕ) → count ≡ ENTRIES → count ≤ 2 ^ 15
    → count_of is_waiting (saved_ledger l) ≡ 0
no_slots_wait None count e h = refl
no_slots_wait (Some l) count e h =
    ap (λ k. count_of is_waiting (first_entries l k)) (sym e) ∙ slot_not_waiting l count h

command_not_empty : (c : QueuedCommand) → (length (command_bytes c) == 0) ≡ false
command_not_empty c =
    let rest = le 2 c.class ++ (le 4 c.instance ++ c.service ∷ (le 2 c.reply_limit ++ c.content)) in
    let size = length-append (le 4 c.ticket) rest in
    ne_eqb (length (command_bytes c)) 0 (λ none. omega (arith, size, none))

not_first : (n : ℕ) → (suc n == 0) ≡ false
not_first n = ne_eqb (suc n) 0 (λ same. omega (arith, same))

-- the next ticket is no command
ticket_not_waiting : (content : List ℕ) → is_waiting (queue_key 0, content) ≡ false
ticket_not_waiting content =
    ap (λ k. is_queue_key (queue_key 0) && not (k == 0) && nat_le k PLACES && not (length content == 0))
    (number_back 0 (omega arith))
    ∙ ap (λ t. is_queue_key (queue_key 0) && not t && nat_le 0 PLACES && not (length content == 0)) (eq-eqb 0 0 refl)
    ∙ ap (λ t. t && nat_le 0 PLACES && not (length content == 0)) (and_right (is_queue_key (queue_key 0)))

found_waiting : (found : Option QueuedCommand)
    → (true && true && true && not (length (bytes_of_command found) == 0)) ≡ is_some found
found_waiting None = refl
found_waiting (Some c) = ap (λ t. true && true && true && not t) (command_not_empty c)

place_bytes_of : (q : QueueState) (n : ℕ) → queue_bytes q (suc n) ≡ place_bytes q n
place_bytes_of q n =
    let same : suc n - 1 ≡ n = omega arith in
    ap (λ t. if t then next_bytes q else place_bytes q (suc n - 1)) (not_first n) ∙ ap (place_bytes q) same

place_waiting : (q : QueueState) (n : ℕ) → suc n < 2 ^ 16 → length q.waiting ≤ 256
    → is_waiting (queue_key (suc n), queue_bytes q (suc n)) ≡ is_some (slice_get q.waiting n)
place_waiting q n h few =
    let b = queue_bytes q (suc n) in
    let k = queue_number (queue_key (suc n)) in
    ap (λ t. t && not (k == 0) && nat_le k PLACES && not (length b == 0)) (of_queue (suc n) h)
    ∙ ap (λ x. true && not (x == 0) && nat_le x PLACES && not (length b == 0)) (number_back (suc n) h)
    ∙ ap (λ t. true && not t && nat_le (suc n) PLACES && not (length b == 0)) (not_first n)
    ∙ ap (λ x. true && true && nat_le (suc n) PLACES && not (length x == 0)) (place_bytes_of q n)
    ∙ by (nat_lt n PLACES) refl
  where
    by : (t : Bool) → nat_lt n PLACES ≡ t
        → (true && true && nat_le (suc n) PLACES && not (length (if t then bytes_of_command (slice_get q.waiting n)
        else bytes_of_result (slice_get q.results (n - PLACES))) == 0))
        ≡ is_some (slice_get q.waiting n)
    by true e =
        let within : nat_le (suc n) PLACES ≡ true = grind (arith, nat_tests) in
        ap (λ t. true && true && t && not (length (bytes_of_command (slice_get q.waiting n)) == 0)) within
        ∙ found_waiting (slice_get q.waiting n)
    by false e =
        let past : 256 ≤ n = grind (arith, nat_tests) in
        let beyond : nat_le (suc n) PLACES ≡ false = grind (arith, nat_tests) in
        ap (λ t. true && true && t && not (length (bytes_of_result (slice_get q.results (n - PLACES))) == 0)) beyond
        ∙ sym (past_end q.waiting n (omega (arith, past, few)))

first_waiting : (q : QueueState) (n : ℕ) → n < 2 ^ 16 → length q.waiting ≤ 256
    → count_of is_waiting (first_queue_entries q (suc n)) ≡ length (take n q.waiting)
first_waiting q zero h few = ap one_if (ticket_not_waiting (queue_bytes q 0))
first_waiting q (suc n) h few =
    count_more is_waiting (first_queue_entries q (suc n)) (queue_key (suc n), queue_bytes q (suc n))
    ∙ ap (λ k. k + one_if (is_waiting (queue_key (suc n), queue_bytes q (suc n))))
    (first_waiting q n (omega (arith, h)) few)
    ∙ ap (λ t. length (take n q.waiting) + one_if t) (place_waiting q n h few)
    ∙ sym (take_length q.waiting n)

commands_counted : (q : QueueState) (count n : ℕ) → count ≡ suc n → n < 2 ^ 16 → 256 ≤ n → length q.waiting ≤ 256
    → count_of is_waiting (first_queue_entries q count) ≡ length q.waiting
commands_counted q count n more h past few =
    ap (λ k. count_of is_waiting (first_queue_entries q k)) more ∙ first_waiting q n h few
    ∙ ap (λ xs. length xs) (take_all q.waiting n (omega (arith, past, few)))

-- ---- all entries

module _ (m : Contents) (l : Option LedgerState) (queue : Option QueueState)
    (names : AllByRecursion IsNarrow (kept_names m.shapes)) where
  abbrev values : Kept
  values = versioned_objects m (needs_version_2 queue l)

  all_taken : count_of is_taken (saved_device m l queue) ≡ count_of is_taken (saved_ledger l)
  all_taken =
      let objects = no_values is_taken value_not_taken m (needs_version_2 queue l) names in
      let commands = no_commands_taken queue QUEUE_ENTRIES refl (omega arith) in
      let first = count_two is_taken values (saved_ledger l ++ saved_queue queue) in
      let second = count_two is_taken (saved_ledger l) (saved_queue queue) in
      omega (arith, objects, commands, first, second)

  all_waiting : count_of is_waiting (saved_device m l queue) ≡ count_of is_waiting (saved_queue queue)
  all_waiting =
      let objects = no_values is_waiting value_not_waiting m (needs_version_2 queue l) names in
      let slots = no_slots_wait l ENTRIES refl (omega arith) in
      let first = count_two is_waiting values (saved_ledger l ++ saved_queue queue) in
      let second = count_two is_waiting (saved_ledger l) (saved_queue queue) in
      omega (arith, objects, slots, first, second)

slots_within : (l : Option LedgerState) (slots : ℕ) → IfSome l IsLedger → count_of is_taken (saved_ledger l) ≤ slots
    → IfSome l (λ l. length l.taken ≤ slots)
slots_within None slots is h = tt
slots_within (Some l) slots is h =
    let within = is.within in
    let few = is.few in
    subst (λ k. k ≤ slots) (slots_counted l ENTRIES 64 refl (omega arith) (omega (arith, within, few))) h

places_within : (queue : Option QueueState) (places : ℕ) → IfSome queue IsQueue
    → count_of is_waiting (saved_queue queue) ≤ places → IfSome queue (λ q. length q.waiting ≤ places)
places_within None places is h = tt
places_within (Some q) places is h =
    let within = is.within in
    let few = is.few in
    subst (λ k. k ≤ places)
    (commands_counted q QUEUE_ENTRIES 512 refl (omega arith) (omega arith) (omega (arith, within, few))) h

-- ---- no hindrance

empty_parts : {A : Type 0} (first second : List A) → first ++ second ≡ [] → (first ≡ []) × (second ≡ [])
empty_parts [] second e = (refl, e)
empty_parts (x ∷ first) second e = absurd (cc)

enough : (h : Hindrance) (has wants : ℕ) → (if nat_lt has wants then h ∷ [] else []) ≡ [] → wants ≤ has
enough h has wants e = by (nat_lt has wants) refl e
  where
    by : (t : Bool) → nat_lt has wants ≡ t → (if t then h ∷ [] else []) ≡ [] → wants ≤ has
    by true f e = absurd (cc)
    by false f e = grind (arith, nat_tests)

pub no_hindrance : (start : AdapterStart) (device : Device) → IsRestartable device → IsUnhindered start device
    → Fits start device
no_hindrance start device is un =
    let m = device.router.objects in
    let l = device.ledger in
    let queue = device.router.queue in
    let kept = saved_device m l queue in
    let both = too_few_slots start kept ++ without_service start.objects kept in
    let none : too_few_places start kept ++ both ≡ []
    = sym (ap (λ t. if t then [] else too_few_places start kept ++ both) un.same_life) ∙ un.none in
    let parts = empty_parts (too_few_places start kept) both none in
    let slots = (empty_parts (too_few_slots start kept) (without_service start.objects kept) parts.1).0 in
    record {
      same_life = un.same_life;
      ledger = un.ledger;
      queue = un.queue;
      slots = slots_within l (slots_in start) is.ledger
          (subst (λ k. k ≤ slots_in start) (all_taken m l queue is.names)
          (enough (TooFewSlots (count_of is_taken kept) (slots_in start)) (slots_in start) (count_of is_taken kept)
          slots));
      places = places_within queue (places_in start) is.queue
          (subst (λ k. k ≤ places_in start) (all_waiting m l queue is.names)
          (enough (TooFewPlaces (count_of is_waiting kept) (places_in start)) (places_in start)
          (count_of is_waiting kept) parts.0));
    }

pub unhindered_goes_on : (start : AdapterStart) (device : Device) → IsRestartable device → IsConfiguration start
    → IsUnhindered start device
    → ((restarted start device).ledger ≡ resized_ledger start device.ledger)
    × ((restarted start device).router.queue ≡ resized_queue start device.router.queue)
unhindered_goes_on start device is configuration un =
    let fits = no_hindrance start device is un in
    (fitting_ledger start device is configuration fits, fitting_queue start device is configuration fits)
