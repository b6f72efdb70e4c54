-- The entries of the queue leave the objects and the ledger, and all other entries leave the queue.
use Rattle.std.proofs.Common.{◌≡◌, ℕ, zero, suc, ◌+◌, ◌-◌, ◌/◌, ◌<◌, ◌≤◌, ◌^◌, ◌==◌, ◌&&◌, ◌||◌, nat_le, not, Bool, true}
use Rattle.std.proofs.Common.{false, if◌then◌else◌, Option, Some, None, List, [], ◌∷◌, ◌++◌, length, refl, ap, sym, ◌∙◌, arith}
use Rattle.std.specs.List.{AllByRecursion}
use Rattle.std.proofs.lemmas.Bool.{eq-eqb, ne_eqb}
use Rattle.std.proofs.lemmas.Bool.Decides.{nat_tests}
use Rattle.cip_message.specs.declared.ledger_services.TheConstants.{LEDGER}
use Rattle.cip_ledger.specs.Ledger.{LedgerState}
use Rattle.cip_objects.specs.Contents.{Contents}
use Rattle.cip_objects.specs.Kept.{kept_names}
use Rattle.cip_owner.specs.Queue.{QueueState}
use Rattle.device_state.specs.declared.restoring.Outcome.TheVariants.{Used, Unknown}
use Rattle.device_state.specs.QueueEntries.{QUEUE_ENTRIES, queue_bytes}
use Rattle.device_state.specs.Restored.{done}
use Rattle.device_state.specs.Saved.{State, state_of, needs_version_2}
use Rattle.enip_keep.specs.Kept.{Kept}
use Rattle.kept_adapter.specs.declared.progress.Progress.{Progress}
use Rattle.kept_adapter.specs.declared.queue_progress.QueueProgress.{QueueProgress}
use Rattle.kept_adapter.specs.Keys.{ledger_key, is_ledger_key, device_key, queue_key, is_queue_key, queue_number}
use Rattle.kept_adapter.specs.Restarts.{IsNarrow}
use Rattle.kept_adapter.specs.Saved.{versioned_objects, saved_ledger, saved_queue, saved_device, first_entries, ledger_bytes}
use Rattle.kept_adapter.specs.Saved.{first_queue_entries, ENTRIES}
use Rattle.kept_adapter.specs.Started.{by_device_key, after_entry, progressed, put_back, put_all_back}
use Rattle.kept_adapter.specs.Started.{entry_to_queue, put_queue_back, put_queue_all_back}
use Rattle.kept_adapter.proofs.PutBack.{put_two, values_narrow}

-- ---- the keys

pub of_queue : (n : ℕ) → n < 2 ^ 16 → is_queue_key (queue_key n) ≡ true
of_queue n h = eq-eqb (queue_key n / 2 ^ 16) (2 ^ 33) (omega (arith, h))

pub number_back : (n : ℕ) → n < 2 ^ 16 → queue_number (queue_key n) ≡ n
number_back n h = omega (arith, h)

pub not_of_ledger : (n : ℕ) → n < 2 ^ 16 → is_ledger_key (queue_key n) ≡ false
not_of_ledger n h = ne_eqb (queue_key n / 2 ^ 32) (2 ^ 16 + 101) (λ same. omega (arith, h, same))

not_the_life : (n : ℕ) → n < 2 ^ 16 → (queue_key n == ledger_key 0) ≡ false
not_the_life n h = ne_eqb (queue_key n) (ledger_key 0) (λ same. omega (arith, h, same))

above : (a b : ℕ) → a ≤ b → nat_le a b ≡ true
above a b h = grind (arith, nat_tests)

no_device_key : (n : ℕ) → n < 2 ^ 16 → device_key (queue_key n) ≡ None
no_device_key n h =
    ap (λ t. if t then Some (queue_key n - 2 ^ 48)
    else (if nat_le (2 ^ 48) (queue_key n) || (queue_key n / 2 ^ 32 == LEDGER) then None else Some (queue_key n)))
    (not_of_ledger n h)
    ∙ ap (λ t. if t || (queue_key n / 2 ^ 32 == LEDGER) then None else Some (queue_key n))
    (above (2 ^ 48) (queue_key n) (omega (arith, h)))

pub below_queue : (key : ℕ) → key < 2 ^ 49 → is_queue_key key ≡ false
below_queue key h = ne_eqb (key / 2 ^ 16) (2 ^ 33) (λ same. omega (arith, h, same))

-- ---- the entries of the queue

abbrev progress_with : Progress → Bool → Bool → Bool → Progress
progress_with p life lost other = record {
  objects = p.objects;
  ledger = p.ledger;
  has_life = life;
  has_lost = lost;
  is_other_device = other;
}

or_false : (a : Bool) → a || false ≡ a
or_false true = refl
or_false false = refl

entry_unknown : (s : State) (n : ℕ) (content : List ℕ) → n < 2 ^ 16 → after_entry s (queue_key n) content ≡ done s Unknown
entry_unknown s n content h =
    ap (λ t. if t && not (queue_key n == ledger_key 0) && (length content == 0) then done s Used
    else by_device_key s content (device_key (queue_key n))) (not_of_ledger n h)
    ∙ ap (by_device_key s content) (no_device_key n h)

pub entry_leaves : (p : Progress) (n : ℕ) (content : List ℕ) → n < 2 ^ 16 → put_back p (queue_key n, content) ≡ p
entry_leaves p n content h =
    ap (progressed p (queue_key n)) (entry_unknown (state_of p.objects p.ledger) n content h)
    ∙ ap (λ t. progress_with p (p.has_life || t) (p.has_lost || (is_ledger_key (queue_key n) && true))
    (p.is_other_device || false)) (not_the_life n h)
    ∙ ap (λ t. progress_with p (p.has_life || false) (p.has_lost || (t && true)) (p.is_other_device || false))
    (not_of_ledger n h)
    ∙ ap (λ t. progress_with p t (p.has_lost || false) (p.is_other_device || false)) (or_false p.has_life)
    ∙ ap (λ t. progress_with p p.has_life t (p.is_other_device || false)) (or_false p.has_lost)
    ∙ ap (λ t. progress_with p p.has_life p.has_lost t) (or_false p.is_other_device)

first_leave : (p : Progress) (q : QueueState) (count : ℕ) → count ≤ 2 ^ 16
    → put_all_back p (first_queue_entries q count) ≡ p
first_leave p q zero h = refl
first_leave p q (suc count) h =
    put_two p (first_queue_entries q count) ((queue_key count, queue_bytes q count) ∷ [])
    ∙ ap (λ x. put_back x (queue_key count, queue_bytes q count)) (first_leave p q count (omega (arith, h)))
    ∙ entry_leaves p count (queue_bytes q count) (omega (arith, h))

counted : (p : Progress) (q : QueueState) (count : ℕ) → count ≡ QUEUE_ENTRIES → count ≤ 2 ^ 16
    → put_all_back p (first_queue_entries q QUEUE_ENTRIES) ≡ p
counted p q count e h = ap (λ n. put_all_back p (first_queue_entries q n)) (sym e) ∙ first_leave p q count h

pub queue_leaves : (p : Progress) (queue : Option QueueState) → put_all_back p (saved_queue queue) ≡ p
queue_leaves p None = refl
queue_leaves p (Some q) = counted p q QUEUE_ENTRIES refl (omega arith)

-- The device after all entries is that after those of the objects and of the ledger.
pub all_entries : (p : Progress) (m : Contents) (l : Option LedgerState) (queue : Option QueueState)
    → put_all_back p (saved_device m l queue)
    ≡ put_all_back (put_all_back p (versioned_objects m (needs_version_2 queue l))) (saved_ledger l)
all_entries p m l queue =
    let values = versioned_objects m (needs_version_2 queue l) in
    put_two p values (saved_ledger l ++ saved_queue queue)
    ∙ put_two (put_all_back p values) (saved_ledger l) (saved_queue queue)
    ∙ queue_leaves (put_all_back (put_all_back p values) (saved_ledger l)) queue

-- ---- the other entries

pub put_queue_two : (p : QueueProgress) (first second : Kept)
    → put_queue_all_back p (first ++ second) ≡ put_queue_all_back (put_queue_all_back p first) second
put_queue_two p [] second = refl
put_queue_two p (entry ∷ first) second = put_queue_two (put_queue_back p entry) first second

abbrev IsOther : ℕ × List ℕ → Type 0
IsOther entry = is_queue_key entry.0 ≡ false

others_leave : (p : QueueProgress) (entries : Kept) → AllByRecursion IsOther entries → put_queue_all_back p entries ≡ p
others_leave p [] are = refl
others_leave p (entry ∷ entries) are =
    ap (λ t. put_queue_all_back (if t then entry_to_queue p (queue_number entry.0) entry.1 p.queue else p) entries) are.0
    ∙ others_leave p entries are.1

narrow_others : (entries : Kept) → AllByRecursion (λ (entry : ℕ × List ℕ). entry.0 < 2 ^ 48) entries
    → AllByRecursion IsOther entries
narrow_others [] are = tt
narrow_others (entry ∷ entries) are =
    let below = are.0 in (below_queue entry.0 (omega (arith, below)), narrow_others entries are.1)

objects_apart : (p : QueueProgress) (m : Contents) (is_version_2 : Bool) → AllByRecursion IsNarrow (kept_names m.shapes)
    → put_queue_all_back p (versioned_objects m is_version_2) ≡ p
objects_apart p m is_version_2 names =
    others_leave p (versioned_objects m is_version_2)
    (narrow_others (versioned_objects m is_version_2) (omega arith, values_narrow m (kept_names m.shapes) names))

slots_apart : (p : QueueProgress) (l : LedgerState) (count : ℕ) → count ≤ 2 ^ 15
    → put_queue_all_back p (first_entries l count) ≡ p
slots_apart p l zero h = refl
slots_apart p l (suc count) h =
    put_queue_two p (first_entries l count) ((ledger_key count, ledger_bytes l count) ∷ [])
    ∙ ap (λ x. put_queue_back x (ledger_key count, ledger_bytes l count)) (slots_apart p l count (omega (arith, h)))
    ∙ ap (λ t. if t then entry_to_queue p (queue_number (ledger_key count)) (ledger_bytes l count) p.queue else p)
    (below_queue (ledger_key count) (omega (arith, h)))

slots_counted : (p : QueueProgress) (l : LedgerState) (count : ℕ) → count ≡ ENTRIES → count ≤ 2 ^ 15
    → put_queue_all_back p (first_entries l ENTRIES) ≡ p
slots_counted p l count e h = ap (λ n. put_queue_all_back p (first_entries l n)) (sym e) ∙ slots_apart p l count h

ledger_apart : (p : QueueProgress) (l : Option LedgerState) → put_queue_all_back p (saved_ledger l) ≡ p
ledger_apart p None = refl
ledger_apart p (Some l) = slots_counted p l ENTRIES refl (omega arith)

-- The queue after all entries is that after its own.
pub all_queue_entries : (p : QueueProgress) (m : Contents) (l : Option LedgerState) (queue : Option QueueState)
    → AllByRecursion IsNarrow (kept_names m.shapes)
    → put_queue_all_back p (saved_device m l queue) ≡ put_queue_all_back p (saved_queue queue)
all_queue_entries p m l queue names =
    let is_version_2 = needs_version_2 queue l in
    put_queue_two p (versioned_objects m is_version_2) (saved_ledger l ++ saved_queue queue)
    ∙ ap (λ x. put_queue_all_back x (saved_ledger l ++ saved_queue queue)) (objects_apart p m is_version_2 names)
    ∙ put_queue_two p (saved_ledger l) (saved_queue queue)
    ∙ ap (λ x. put_queue_all_back x (saved_queue queue)) (ledger_apart p l)
