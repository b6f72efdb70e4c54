-- The values after the changes of a start.
use Rattle.std.proofs.Common.{◌≡◌, ◌≢◌, ℕ, ◌<◌, ◌≤◌, ◌^◌, ◌==◌, ◌&&◌, ◌||◌, not, nat_lt, Bool, true, false}
use Rattle.std.proofs.Common.{if◌then◌else◌, Option, Some, None, List, [], ◌∷◌, ◌++◌, length, take, refl, ap, sym, ◌∙◌, subst, arith}
use Rattle.std.specs.List.{AllByRecursion}
use Rattle.std.proofs.lemmas.Bool.{and_parts, eq-eqb, eqb-true, ne_eqb, ltb-true}
use Rattle.std.proofs.lemmas.Bool.Decides.{nat_tests}
use Rattle.std.proofs.lemmas.Slice.Eq.{bytes_eq-Decides}
use Rattle.cip_objects.specs.declared.config.Config.{Config}
use Rattle.enip_keep.specs.Kept.{Kept, set, set_all}
use Rattle.kept_server.specs.Changes.{keys_of, rise, rise_above, is_small}
use Rattle.kept_adapter.specs.declared.adapter_start.AdapterStart.{AdapterStart}
use Rattle.kept_adapter.specs.declared.origins.ValueState.{ValueState}
use Rattle.kept_adapter.specs.declared.origins.ValueState.TheVariants.{Missing, Configured, Written, Unfit}
use Rattle.kept_adapter.specs.declared.preparing.Wishes.{Wishes}
use Rattle.kept_adapter.specs.Keys.{ledger_key, is_ledger_key, is_queue_key, is_value_key, queue_number, origin_key}
use Rattle.kept_adapter.specs.Origins.{description, origin_bytes, kind_under, kept_at}
use Rattle.kept_adapter.specs.Preparing.{are_these, change_to, cleared, unmarked, next_life, life_after, drop_of, drops}
use Rattle.kept_adapter.specs.Preparing.{is_reset, becomes_configured, stays_unfit, is_of_value, state_in}
use Rattle.kept_adapter.specs.Preparing.{changes_of_value, changes_of_values, configured_values, preparation}
use Rattle.kept_adapter.specs.RestartLaws.{IsPrepared}
use Rattle.kept_adapter.proofs.PutBack.{not_of_ledger, not_the_life}
use Rattle.kept_adapter.proofs.QueueLeaves.{below_queue}

-- ---- what is kept under a key after changes

same_key : (key : ℕ) (bytes : List ℕ) (rest : Kept) → kept_at key ((key, bytes) ∷ rest) ≡ Some bytes
same_key key bytes rest = ap (λ t. if t then Some bytes else kept_at key rest) (eq-eqb key key refl)

other_key : (key other : ℕ) (bytes : List ℕ) (rest : Kept) → (other == key) ≡ false
    → kept_at key ((other, bytes) ∷ rest) ≡ kept_at key rest
other_key key other bytes rest e = ap (λ t. if t then Some bytes else kept_at key rest) e

abbrev set_by : ℕ → List ℕ → ℕ × List ℕ → Kept → Bool → Bool → Kept
set_by key bytes p rest same less =
    if same then (key, bytes) ∷ rest else (if less then (key, bytes) ∷ p ∷ rest else p ∷ set key bytes rest)

set_same : (key : ℕ) (bytes : List ℕ) (kept : Kept) → kept_at key (set key bytes kept) ≡ Some bytes
set_same key bytes [] = same_key key bytes []
set_same key bytes (p ∷ rest) = by (p.0 == key) (nat_lt key p.0) refl (set_same key bytes rest)
  where
    by : (same less : Bool) → (p.0 == key) ≡ same → kept_at key (set key bytes rest) ≡ Some bytes
        → kept_at key (set_by key bytes p rest same less) ≡ Some bytes
    by true less e behind = same_key key bytes rest
    by false true e behind = same_key key bytes (p ∷ rest)
    by false false e behind = other_key key p.0 p.1 (set key bytes rest) e ∙ behind

set_other : (key other : ℕ) (bytes : List ℕ) (kept : Kept) → (other == key) ≡ false
    → kept_at key (set other bytes kept) ≡ kept_at key kept
set_other key other bytes [] apart = other_key key other bytes [] apart
set_other key other bytes (p ∷ rest) apart =
    by (p.0 == other) (nat_lt other p.0) refl (set_other key other bytes rest apart)
  where
    by : (same less : Bool) → (p.0 == other) ≡ same → kept_at key (set other bytes rest) ≡ kept_at key rest
        → kept_at key (set_by other bytes p rest same less) ≡ kept_at key (p ∷ rest)
    by true less e behind =
        other_key key other bytes rest apart
        ∙ sym (other_key key p.0 p.1 rest (ap (λ k. k == key) (eqb-true p.0 other e) ∙ apart))
    by false true e behind = other_key key other bytes (p ∷ rest) apart
    by false false e behind = ap (λ x. if p.0 == key then Some p.1 else x) behind

abbrev IsApart : ℕ → ℕ × List ℕ → Type 0
IsApart key change = (change.0 == key) ≡ false

abbrev AreApart : ℕ → Kept → Type 0
AreApart key = AllByRecursion (IsApart key)

others_set : (key : ℕ) (changes kept : Kept) → AreApart key changes
    → kept_at key (set_all changes kept) ≡ kept_at key kept
others_set key [] kept are = refl
others_set key (c ∷ changes) kept are =
    others_set key changes (set c.0 c.1 kept) are.1 ∙ set_other key c.0 c.1 kept are.0

set_two : (first second kept : Kept) → set_all (first ++ second) kept ≡ set_all second (set_all first kept)
set_two [] second kept = refl
set_two (c ∷ first) second kept = set_two first second (set c.0 c.1 kept)

two_apart : (key : ℕ) (first second : Kept) → AreApart key first → AreApart key second → AreApart key (first ++ second)
two_apart key [] second one other = other
two_apart key (c ∷ first) second one other = (one.0, two_apart key first second one.1 other)

if_apart : (key : ℕ) (t : Bool) (first second : Kept) → AreApart key first → AreApart key second
    → AreApart key (if t then first else second)
if_apart key true first second one other = one
if_apart key false first second one other = other

one_apart : (key other : ℕ) (bytes : List ℕ) → (other == key) ≡ false → AreApart key ((other, bytes) ∷ [])
one_apart key other bytes e = (e, tt)

-- ---- what is dropped is no value

drop_apart : (key : ℕ) (entry : ℕ × List ℕ) → key < 2 ^ 48 → AreApart key (drop_of entry)
drop_apart key entry h = by (entry.0 == key) refl
  where
    by : (t : Bool) → (entry.0 == key) ≡ t → AreApart key (drop_of entry)
    by false e =
        let none : AreApart key [] = tt in
        let clears : AreApart key (cleared entry)
        = if_apart key ((length entry.1 == 0) || not (is_small entry)) [] ((entry.0, []) ∷ []) none
        (one_apart key entry.0 [] e) in
        let next : AreApart key (next_life entry)
        = if_apart key (is_small entry) ((entry.0, life_after entry.1) ∷ []) []
        (one_apart key entry.0 (life_after entry.1) e) none in
        let marks : AreApart key (unmarked entry)
        = if_apart key ((length entry.1 == 12) && is_small entry) ((entry.0, take 8 entry.1) ∷ []) []
        (one_apart key entry.0 (take 8 entry.1) e) none in
        let of_queue = if queue_number entry.0 == 0 then unmarked entry else cleared entry in
        let behind = if is_queue_key entry.0 then of_queue else [] in
        if_apart key (entry.0 == ledger_key 0) (next_life entry)
        (if is_ledger_key entry.0 then cleared entry else behind) next
        (if_apart key (is_ledger_key entry.0) (cleared entry) behind clears
        (if_apart key (is_queue_key entry.0) of_queue []
        (if_apart key (queue_number entry.0 == 0) (unmarked entry) (cleared entry) marks clears) none))
    by true e =
        let same = eqb-true entry.0 key e in
        let below : entry.0 < 2 ^ 48 = omega (arith, same, h) in
        let of_queue = if queue_number entry.0 == 0 then unmarked entry else cleared entry in
        let nothing : drop_of entry ≡ []
        = ap (λ t. if t then next_life entry else (if is_ledger_key entry.0 then cleared entry
        else (if is_queue_key entry.0 then of_queue else []))) (not_the_life entry.0 below)
        ∙ ap (λ t. if t then cleared entry else (if is_queue_key entry.0 then of_queue else []))
        (not_of_ledger entry.0 below)
        ∙ ap (λ t. if t then of_queue else []) (below_queue entry.0 (omega (arith, below))) in
        subst (AreApart key) (sym nothing) tt

drops_apart : (key : ℕ) (kept : Kept) → key < 2 ^ 48 → AreApart key (drops kept)
drops_apart key [] h = tt
drops_apart key (entry ∷ kept) h =
    two_apart key (drop_of entry) (drops kept) (drop_apart key entry h) (drops_apart key kept h)

-- ---- the changes of a value

change_apart : (key other : ℕ) (bytes : List ℕ) (kept : Kept) → (other == key) ≡ false
    → AreApart key (change_to other bytes kept)
change_apart key other bytes kept e =
    if_apart key (not (are_these bytes (kept_at other kept)) && is_small (other, bytes)) ((other, bytes) ∷ []) []
    (one_apart key other bytes e) tt

origin_apart : (key other : ℕ) → key < 2 ^ 48 → (origin_key other == key) ≡ false
origin_apart key other h = ne_eqb (origin_key other) key (λ same. omega (arith, same, h))

module _ (config : Config) (wishes : Wishes) (kept : Kept) where
  abbrev origins_of : ℕ × List ℕ → ValueState → Kept
  origins_of value state =
      if stays_unfit wishes value.0 state then []
      else change_to (origin_key value.0) (origin_bytes (description (kind_under config value.0)) value.1) kept

  origins_apart : (key : ℕ) (value : ℕ × List ℕ) (state : ValueState) → key < 2 ^ 48
      → AreApart key (origins_of value state)
  origins_apart key value state h =
      if_apart key (stays_unfit wishes value.0 state) [] _ tt
      (change_apart key (origin_key value.0) _ kept (origin_apart key value.0 h))

  value_apart : (key : ℕ) (value : ℕ × List ℕ) → key < 2 ^ 48 → (value.0 == key) ≡ false
      → AreApart key (changes_of_value config wishes kept value)
  value_apart key value h e =
      let state = state_in config kept value in
      if_apart key (is_of_value value.0) _ []
      (two_apart key (if becomes_configured wishes value.0 state then change_to value.0 value.1 kept else [])
      (origins_of value state)
      (if_apart key (becomes_configured wishes value.0 state) (change_to value.0 value.1 kept) []
      (change_apart key value.0 value.1 kept e) tt)
      (origins_apart key value state h)) tt

  values_apart : (key : ℕ) (values : Kept) → key < 2 ^ 48 → AreApart key values
      → AreApart key (changes_of_values config wishes kept values)
  values_apart key [] h are = tt
  values_apart key (value ∷ values) h are =
      two_apart key (changes_of_value config wishes kept value) (changes_of_values config wishes kept values)
      (value_apart key value h are.0) (values_apart key values h are.1)

  -- A value follows the configuration, or it stays.
  record IsDone (after : Kept) (value : ℕ × List ℕ) (follows : Bool) : Type 0 where
    to : follows ≡ true → is_small value ≡ true → kept_at value.0 after ≡ Some value.1
    stays : follows ≡ false → kept_at value.0 after ≡ kept_at value.0 kept

  these_kept : (bytes : List ℕ) (found : Option (List ℕ)) → are_these bytes found ≡ true → found ≡ Some bytes
  these_kept bytes None e = absurd (cc)
  these_kept bytes (Some others) e = ap (λ b. Some b) ((bytes_eq-Decides others bytes).0 e)

  changed : (value : ℕ × List ℕ) (before : Kept) → is_small value ≡ true
      → kept_at value.0 before ≡ kept_at value.0 kept
      → kept_at value.0 (set_all (change_to value.0 value.1 kept) before) ≡ Some value.1
  changed value before small same = by (are_these value.1 (kept_at value.0 kept)) refl
    where
      by : (t : Bool) → are_these value.1 (kept_at value.0 kept) ≡ t
          → kept_at value.0 (set_all (if not t && is_small (value.0, value.1) then (value.0, value.1) ∷ [] else []) before)
          ≡ Some value.1
      by true e = same ∙ these_kept value.1 (kept_at value.0 kept) e
      by false e =
          ap (λ t. kept_at value.0 (set_all (if true && t then (value.0, value.1) ∷ [] else []) before)) small
          ∙ set_same value.0 value.1 before

  abbrev follows_in : ℕ × List ℕ → Bool
  follows_in value = becomes_configured wishes value.0 (state_in config kept value)

  own_changes : (value : ℕ × List ℕ) (before : Kept) (follows : Bool)
      → kept_at value.0 before ≡ kept_at value.0 kept
      → IsDone (set_all (if follows then change_to value.0 value.1 kept else []) before) value follows
  own_changes value before true same =
      record { to = λ _ small. changed value before small same; stays = λ e. absurd (cc) }
  own_changes value before false same = record { to = λ e _. absurd (cc); stays = λ _. same }

  is_below : (key : ℕ) → is_of_value key ≡ true → key < 2 ^ 48
  is_below key e = let less = (and_parts (is_value_key key) (nat_lt key (2 ^ 48)) e).1 in grind (arith, nat_tests)

  -- with its origin, and with the changes of other values behind
  value_done : (value : ℕ × List ℕ) (values before : Kept) → is_of_value value.0 ≡ true
      → AreApart value.0 values → kept_at value.0 before ≡ kept_at value.0 kept
      → IsDone (set_all (changes_of_values config wishes kept values)
      (set_all (changes_of_value config wishes kept value) before)) value (follows_in value)
  value_done value values before is apart same =
      let key = value.0 in
      let state = state_in config kept value in
      let h = is_below key is in
      let own = if follows_in value then change_to key value.1 kept else [] in
      let done = own_changes value before (follows_in value) same in
      let alone : kept_at key (set_all (changes_of_values config wishes kept values)
      (set_all (changes_of_value config wishes kept value) before)) ≡ kept_at key (set_all own before)
      = others_set key (changes_of_values config wishes kept values)
      (set_all (changes_of_value config wishes kept value) before) (values_apart key values h apart)
      ∙ ap (λ t. kept_at key (set_all (if t then own ++ origins_of value state else []) before)) is
      ∙ ap (kept_at key) (set_two own (origins_of value state) before)
      ∙ others_set key (origins_of value state) (set_all own before) (origins_apart key value state h) in
      record { to = λ e small. alone ∙ done.to e small; stays = λ e. alone ∙ done.stays e }

  -- ---- all values

  -- The values from this key on are as they were.
  abbrev AgreesFrom : ℕ → Kept → Type 0
  AgreesFrom low before = (key : ℕ) → key < 2 ^ 48 → low ≤ key → kept_at key before ≡ kept_at key kept

  above_apart : (low least : ℕ) (values : Kept) → low ≤ least → rise_above least (keys_of values) ≡ true
      → AreApart low values
  above_apart low least [] h e = tt
  above_apart low least (value ∷ values) h e =
      let parts = and_parts (nat_lt least value.0) (rise_above value.0 (keys_of values)) e in
      let less : least < value.0 = ltb-true least value.0 parts.0 in (
        ne_eqb value.0 low (λ same. omega (arith, same, less, h)),
        above_apart low value.0 values (omega (arith, less, h)) parts.1,
      )

  abbrev AreDone : Kept → Kept → Type 0
  AreDone after values =
      AllByRecursion (λ value. is_of_value value.0 ≡ true → IsDone after value (follows_in value)) values

  each_done : (value : ℕ × List ℕ) (values before : Kept) → rise_above value.0 (keys_of values) ≡ true
      → AgreesFrom value.0 before
      → AreDone (set_all (changes_of_values config wishes kept (value ∷ values)) before) (value ∷ values)
  each_done value [] before e agrees =
      subst (λ after. AreDone after (value ∷ []))
      (sym (set_two (changes_of_value config wishes kept value) [] before))
      (λ is. value_done value [] before is tt (agrees value.0 (is_below value.0 is) (omega arith)), tt)
  each_done value (next ∷ values) before e agrees =
      let own = changes_of_value config wishes kept value in
      let parts = and_parts (nat_lt value.0 next.0) (rise_above next.0 (keys_of values)) e in
      let less : value.0 < next.0 = ltb-true value.0 next.0 parts.0 in
      subst (λ after. AreDone after (value ∷ next ∷ values))
      (sym (set_two own (changes_of_values config wishes kept (next ∷ values)) before)) (
        λ is. value_done value (next ∷ values) before is
            (above_apart value.0 value.0 (next ∷ values) (omega arith) e)
            (agrees value.0 (is_below value.0 is) (omega arith)),
        each_done next values (set_all own before) parts.1
            (λ key h from. others_set key own before
            (value_apart key value h (ne_eqb value.0 key (λ same. omega (arith, same, less, from))))
            ∙ agrees key h (omega (arith, less, from))),
      )

  all_done : (values before : Kept) → rise (keys_of values) ≡ true
      → ((key : ℕ) → key < 2 ^ 48 → kept_at key before ≡ kept_at key kept)
      → AreDone (set_all (changes_of_values config wishes kept values) before) values
  all_done [] before e agrees = tt
  all_done (value ∷ values) before e agrees = each_done value values before e (λ key h from. agrees key h)

  -- ---- by the state of a value

  when_reset : (key : ℕ) (state : ValueState) → state ≢ Missing → is_reset wishes key ≡ true
      → becomes_configured wishes key state ≡ true
  when_reset key Missing there wanted = absurd (there refl)
  when_reset key Configured there wanted = refl
  when_reset key Written there wanted = wanted
  when_reset key Unfit there wanted = by wishes.accepts_config
    where
      by : (t : Bool) → t || is_reset wishes key ≡ true
      by true = refl
      by false = wanted

  by_state : (after : Kept) (value : ℕ × List ℕ) (state : ValueState)
      → IsDone after value (becomes_configured wishes value.0 state) → IsPrepared wishes kept after value state
  by_state after value state done =
      let follows = becomes_configured wishes value.0 in
      let wanted = is_reset wishes value.0 in
      record {
        configured = λ e small. done.to (ap follows e) small;
        written = λ e none. done.stays (ap follows e ∙ none);
        unfit = λ e none other. done.stays (ap follows e ∙ (ap (λ t. t || wanted) other ∙ none));
        accepted = λ e accepts small. done.to (ap follows e ∙ ap (λ t. t || wanted) accepts) small;
        reset = λ there e small. done.to (when_reset value.0 state there e) small;
      }

  all_prepared : (after values : Kept) → AreDone after values
      → AllByRecursion
      (λ value. is_of_value value.0 ≡ true → IsPrepared wishes kept after value (state_in config kept value)) values
  all_prepared after [] are = tt
  all_prepared after (value ∷ values) are =
      (λ is. by_state after value (state_in config kept value) (are.0 is), all_prepared after values are.1)

  first_agrees : (key : ℕ) → key < 2 ^ 48
      → kept_at key (set_all (if wishes.drops_commands then drops kept else []) kept) ≡ kept_at key kept
  first_agrees key h =
      others_set key (if wishes.drops_commands then drops kept else []) kept
      (if_apart key wishes.drops_commands (drops kept) [] (drops_apart key kept h) tt)

pub prepared_values : (start : AdapterStart) (wishes : Wishes) (kept : Kept)
    → rise (keys_of (configured_values start)) ≡ true
    → AllByRecursion
    (λ value. is_of_value value.0 ≡ true → IsPrepared wishes kept (set_all (preparation start wishes kept) kept) value
    (state_in start.objects kept value)) (configured_values start)
prepared_values start wishes kept rising =
    let first = if wishes.drops_commands then drops kept else [] in
    let values = configured_values start in
    let changes = changes_of_values start.objects wishes kept values in
    all_prepared start.objects wishes kept (set_all (first ++ changes) kept) values
    (subst (λ after. AreDone start.objects wishes kept after values) (sym (set_two first changes kept))
    (all_done start.objects wishes kept values (set_all first kept) rising (first_agrees start.objects wishes kept)))
