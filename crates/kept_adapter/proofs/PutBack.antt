-- The ledger that is put back from what is kept of a device.
use Rattle.std.proofs.Common.{◌≡◌, ℕ, ◌+◌, ◌-◌, ◌/◌, ◌%◌, ◌<◌, ◌^◌, ◌==◌, ◌&&◌, ◌||◌, nat_lt, nat_le, not, Bool, true}
use Rattle.std.proofs.Common.{false, if◌then◌else◌, Option, Some, None, List, [], ◌∷◌, ◌++◌, map, refl, ap, ◌∙◌, arith}
use Rattle.std.specs.List.{AllByRecursion}
use Rattle.std.proofs.lemmas.Bool.{eqb-true}
use Rattle.cip_application.specs.declared.kind.AttributeKind.{AttributeKind}
use Rattle.cip_application.specs.declared.object.AttributeName.{AttributeName}
use Rattle.cip_application.specs.Values.{is_whole}
use Rattle.cip_bytes.specs.declared.protocol.TheConstants.{IDENTITY}
use Rattle.cip_message.specs.declared.ledger_services.TheConstants.{LEDGER}
use Rattle.cip_ledger.specs.Ledger.{LedgerState}
use Rattle.cip_objects.specs.Contents.{Contents, with_value}
use Rattle.cip_objects.specs.Kept.{name_of, kept_names, kept_kind, with_kept, restored as value_restored}
use Rattle.device_state.specs.Keys.{name_in}
use Rattle.device_state.specs.Restored.{Done, with_objects, to_ledger, if_value, value_done, by_name}
use Rattle.device_state.specs.Saved.{State, state_of, value_entry}
use Rattle.enip_keep.specs.Kept.{Kept}
use Rattle.kept_adapter.specs.declared.progress.Progress.{Progress}
use Rattle.kept_adapter.specs.Keys.{ledger_key, is_ledger_key, device_key}
use Rattle.kept_adapter.specs.Restarts.{IsNarrow}
use Rattle.kept_adapter.specs.Saved.{pair_of, versioned_objects}
use Rattle.kept_adapter.specs.Started.{is_free_slot, by_device_key, after_entry, is_used, put_back, put_all_back}

pub put_two : (p : Progress) (first second : Kept)
    → put_all_back p (first ++ second) ≡ put_all_back (put_all_back p first) second
put_two p [] second = refl
put_two p (entry ∷ first) second = put_two (put_back p entry) first second

-- ---- the tables of the objects stay

value_shapes : (m : Contents) (name : AttributeName) (content : List ℕ) (kind : Option AttributeKind)
    → (if_value m name (with_kept m name.class name.instance name.attribute content kind)).after.shapes ≡ m.shapes
value_shapes m name content None = refl
value_shapes m name content (Some kind) =
    elim (is_whole kind content) as (λ t. (if_value m name (if t then
    Some (with_value m name.class name.instance name.attribute content) else None)).after.shapes ≡ m.shapes) [
      | true ↦ refl
      | false ↦ refl
    ]

restored_shapes : (m : Contents) (name : AttributeName) (content : List ℕ)
    → (value_done m name content).after.shapes ≡ m.shapes
unfolding value_restored
restored_shapes m name content =
    value_shapes m name content (kept_kind m.shapes name.class name.instance name.attribute)

ledger_shapes : (m : Contents) (name : AttributeName) (content : List ℕ) (l : Option LedgerState)
    → (to_ledger m name content l).after.objects.shapes ≡ m.shapes
ledger_shapes m name content None = refl
ledger_shapes m name content (Some l) = refl

shapes_if : (m : Contents) (t : Bool) (a b : Done State) → a.after.objects.shapes ≡ m.shapes
    → b.after.objects.shapes ≡ m.shapes → (if t then a else b).after.objects.shapes ≡ m.shapes
shapes_if m true a b one other = one
shapes_if m false a b one other = other

named_shapes : (s : State) (content : List ℕ) (name : Option AttributeName)
    → (by_name s content name).after.objects.shapes ≡ s.objects.shapes
named_shapes s content None = refl
named_shapes s content (Some name) =
    shapes_if s.objects (name.class == IDENTITY) _ _ refl
    (shapes_if s.objects (name.class == LEDGER) _ _ (ledger_shapes s.objects name content s.ledger)
    (restored_shapes s.objects name content))

keyed_shapes : (s : State) (content : List ℕ) (key : Option ℕ)
    → (by_device_key s content key).after.objects.shapes ≡ s.objects.shapes
keyed_shapes s content None = refl
keyed_shapes s content (Some key) = named_shapes s content (name_in key)

pub shapes_back : (p : Progress) (entries : Kept) → (put_all_back p entries).objects.shapes ≡ p.objects.shapes
shapes_back p [] = refl
shapes_back p (entry ∷ entries) =
    let s = state_of p.objects p.ledger in
    shapes_back (put_back p entry) entries
    ∙ shapes_if p.objects (is_free_slot entry.0 entry.1) _ _ refl (keyed_shapes s entry.1 (device_key entry.0))

-- ---- the entries of the objects leave the ledger

pub not_of_ledger : (key : ℕ) → key < 2 ^ 48 → is_ledger_key key ≡ false
not_of_ledger key h = by (is_ledger_key key) refl
  where
    by : (is : Bool) → is_ledger_key key ≡ is → is ≡ false
    by false e = refl
    by true e = let same = eqb-true (key / 2 ^ 32) (2 ^ 16 + 101) e in absurd (omega (arith, same, h))

pub not_the_life : (key : ℕ) → key < 2 ^ 48 → (key == ledger_key 0) ≡ false
not_the_life key h = by (key == ledger_key 0) refl
  where
    by : (is : Bool) → (key == ledger_key 0) ≡ is → is ≡ false
    by false e = refl
    by true e = let same = eqb-true key (ledger_key 0) e in absurd (omega (arith, same, h))

ledger_if : (l : Option LedgerState) (t : Bool) (a b : Done State) → a.after.ledger ≡ l → b.after.ledger ≡ l
    → (if t then a else b).after.ledger ≡ l
ledger_if l true a b one other = one
ledger_if l false a b one other = other

named_leaves : (s : State) (content : List ℕ) (name : AttributeName) → (name.class == LEDGER) ≡ false
    → (by_name s content (Some name)).after.ledger ≡ s.ledger
named_leaves s content name other =
    ledger_if s.ledger (name.class == IDENTITY) _ _ refl
    (ap (λ t. (if t then to_ledger s.objects name content s.ledger
    else with_objects s.ledger (value_done s.objects name content)).after.ledger) other)

key_leaves : (s : State) (content : List ℕ) (key : ℕ) → (key / 2 ^ 32 == LEDGER) ≡ false
    → (by_device_key s content (Some key)).after.ledger ≡ s.ledger
key_leaves s content key other = by (nat_lt key (2 ^ 48))
  where
    by : (is : Bool) → (by_name s content (if is then
        Some (name_of (key / 2 ^ 32) (key / 2 ^ 16 % 2 ^ 16) (key % 2 ^ 16)) else None)).after.ledger ≡ s.ledger
    by false = refl
    by true = named_leaves s content (name_of (key / 2 ^ 32) (key / 2 ^ 16 % 2 ^ 16) (key % 2 ^ 16)) other

or_false : (a b : Bool) → a || b ≡ false → b ≡ false
or_false true b e = absurd (cc)
or_false false b e = e

device_leaves : (s : State) (content : List ℕ) (key : ℕ) → key < 2 ^ 48
    → (by_device_key s content (device_key key)).after.ledger ≡ s.ledger
device_leaves s content key h =
    ap (λ t. (by_device_key s content (if t then Some (key - 2 ^ 48)
    else (if nat_le (2 ^ 48) key || (key / 2 ^ 32 == LEDGER) then None else Some key))).after.ledger)
    (not_of_ledger key h)
    ∙ by (nat_le (2 ^ 48) key || (key / 2 ^ 32 == LEDGER)) refl
  where
    by : (none : Bool) → nat_le (2 ^ 48) key || (key / 2 ^ 32 == LEDGER) ≡ none
        → (by_device_key s content (if none then None else Some key)).after.ledger ≡ s.ledger
    by true e = refl
    by false e = key_leaves s content key (or_false (nat_le (2 ^ 48) key) (key / 2 ^ 32 == LEDGER) e)

-- The ledger is as it was, and no entry of it came.
pub record LeavesLedger (p q : Progress) : Type 0 where
  pub ledger : q.ledger ≡ p.ledger
  pub life : q.has_life ≡ p.has_life
  pub lost : q.has_lost ≡ p.has_lost

or_none : (a b : Bool) → b ≡ false → a || b ≡ a
or_none true b e = refl
or_none false b e = e

entry_leaves : (p : Progress) (entry : ℕ × List ℕ) → entry.0 < 2 ^ 48 → LeavesLedger p (put_back p entry)
entry_leaves p entry h =
    let s = state_of p.objects p.ledger in
    let used = is_used (after_entry s entry.0 entry.1).outcome in
    record {
      ledger = ledger_if p.ledger (is_free_slot entry.0 entry.1) _ _ refl (device_leaves s entry.1 entry.0 h);
      life = or_none p.has_life (entry.0 == ledger_key 0) (not_the_life entry.0 h);
      lost = or_none p.has_lost (is_ledger_key entry.0 && not used) (ap (λ t. t && not used) (not_of_ledger entry.0 h));
    }

entries_leave : (p : Progress) (entries : Kept) → AllByRecursion (λ entry. entry.0 < 2 ^ 48) entries
    → LeavesLedger p (put_all_back p entries)
entries_leave p [] h = record { ledger = refl; life = refl; lost = refl }
entries_leave p (entry ∷ entries) h =
    let first = entry_leaves p entry h.0 in
    let rest = entries_leave (put_back p entry) entries h.1 in
    record {
      ledger = rest.ledger ∙ first.ledger;
      life = rest.life ∙ first.life;
      lost = rest.lost ∙ first.lost;
    }

pub values_narrow : (m : Contents) (names : List AttributeName) → AllByRecursion IsNarrow names
    → AllByRecursion (λ (entry : ℕ × List ℕ). entry.0 < 2 ^ 48) (map pair_of (map (value_entry m) names))
values_narrow m [] h = tt
values_narrow m (name ∷ names) h =
    let c = h.0.class in
    let i = h.0.instance in
    let a = h.0.attribute in
    (omega (arith, c, i, a), values_narrow m names h.1)

pub objects_leave : (p : Progress) (m : Contents) (is_version_2 : Bool) → AllByRecursion IsNarrow (kept_names m.shapes)
    → LeavesLedger p (put_all_back p (versioned_objects m is_version_2))
objects_leave p m is_version_2 h =
    entries_leave p (versioned_objects m is_version_2) (omega arith, values_narrow m (kept_names m.shapes) h)
