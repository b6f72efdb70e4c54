-- A device that starts from what was saved.
use Rattle.std.proofs.Common.{rules, ◌≡◌, ℕ, ◌/◌, ◌%◌, ◌^◌, eqb, nat_lt, Bool, true, false, cond, if◌then◌else◌, ◌&&◌, ◌||◌, ◌⊎◌, inl, inr, List, [], ◌∷◌, ◌++◌, length, map, Option, Some, None, option_map, IfSome, refl, sym, ap, ◌∙◌, subst, arith}
use Rattle.std.specs.Str.{bytes_eq}
use Rattle.std.proofs.lemmas.Bool.{eqb-true}
use Rattle.std.proofs.lemmas.Bool.Decides.{nat_tests}
use Rattle.std.proofs.lemmas.List.{length-append}
use Rattle.std.proofs.lemmas.Slice.Eq.{bytes_eq-Decides}
use Rattle.cip_application.specs.declared.kind.AttributeKind.{AttributeKind}
use Rattle.cip_application.specs.declared.object.AttributeName.{AttributeName}
use Rattle.cip_application.specs.Values.{is_whole}
use Rattle.cip_bytes.specs.declared.protocol.TheConstants.{IDENTITY}
use Rattle.cip_ledger.specs.Kept.{IsLedger}
use Rattle.cip_ledger.specs.Ledger.{LedgerState, empty_ledger}
use Rattle.cip_objects.specs.Contents.{Contents, value_at, with_value}
use Rattle.cip_objects.specs.Kept.{kept_names, kept_kind, with_kept, restored as value_restored}
use Rattle.cip_objects.proofs.ReadAfterSet.{value_at-other}
use Rattle.device_state.specs.declared.restoring.Outcome.TheVariants.{Used, OtherDevice}
use Rattle.device_state.specs.Keys.{key_of, name_in}
use Rattle.std.specs.List.{AllByRecursion}
use Rattle.device_state.specs.Laws.{IsName, IsKept, IsFresh, IsRestored, saved_law, used_law, others_law, other_device_law, version_law, version_2_law}
use Rattle.device_state.specs.Restored.{Done, done, by_name, if_value, with_objects, to_ledger, restored_entry, restored}
use Rattle.device_state.specs.Saved.{State, state_of, Entry, entry_of, VERSION_2, identity_bytes, first_entry, has_mark, has_withdrawn, needs_version_2, with_version, value_entry, value_entries, ledger_entries, saved}
use Rattle.device_state.proofs.KeyLemmas.{name_back, key_again}
use Rattle.device_state.proofs.LedgerPuts.{ledger_leads}
use Rattle.device_state.proofs.Puts.{Leads, leads_nowhere, leads_on, leads_further, put_all, shapes_stay, values_lead, used_lead, used_behind, entries_same, identity_stays}

own_name : name_in (key_of IDENTITY 1 0) ≡ Some (record { class = IDENTITY; instance = 1; attribute = 0 })
own_name = name_back IDENTITY 1 0 (omega arith) (omega arith) (omega arith)

same_bytes : (xs ys : List ℕ) → xs ≡ ys → bytes_eq xs ys ≡ true
same_bytes xs ys e = search (rules, bytes_eq-Decides)

-- the entry of the same device is used, and that of another one reported
identity_put : (s : State) (content : List ℕ) → content ≡ identity_bytes s.objects → restored_entry s (entry_of (key_of IDENTITY 1 0) content) ≡ done s Used
identity_put s content e =
    ap (by_name s content) own_name
    ∙ ap (λ t. done s (cond (t || bytes_eq content (identity_bytes s.objects ++ VERSION_2 ∷ [])) Used OtherDevice))
    (same_bytes content (identity_bytes s.objects) e)

or_true : (a : Bool) → a || true ≡ true
or_true true = refl
or_true false = refl

-- so is the one with the version behind it
version_put : (s : State) (content : List ℕ) → content ≡ identity_bytes s.objects ++ VERSION_2 ∷ []
    → restored_entry s (entry_of (key_of IDENTITY 1 0) content) ≡ done s Used
version_put s content e =
    ap (by_name s content) own_name
    ∙ ap (λ t. done s (cond (bytes_eq content (identity_bytes s.objects) || t) Used OtherDevice))
    (same_bytes content (identity_bytes s.objects ++ VERSION_2 ∷ []) e)
    ∙ ap (λ t. done s (cond t Used OtherDevice)) (or_true (bytes_eq content (identity_bytes s.objects)))

version_by : (s : State) (own : List ℕ) (new : Bool) → own ≡ identity_bytes s.objects
    → restored_entry s (entry_of (key_of IDENTITY 1 0) (if new then own ++ VERSION_2 ∷ [] else own)) ≡ done s Used
version_by s own true e = version_put s (own ++ VERSION_2 ∷ []) (ap (λ b. b ++ VERSION_2 ∷ []) e)
version_by s own false e = identity_put s own e

pub version_used : version_law
version_used s is_version_2 = version_by s (identity_bytes s.objects) is_version_2 refl

-- bytes of another length differ
other_bytes : (xs ys : List ℕ) → (xs ≡ ys → ⊥) → bytes_eq xs ys ≡ false
other_bytes xs ys e = search (rules, bytes_eq-Decides)

longer : (xs ys : List ℕ) → length xs ≡ length ys → xs ++ VERSION_2 ∷ [] ≡ ys → ⊥
longer xs ys same e =
    let size = length-append xs (VERSION_2 ∷ []) in
    let whole : length (xs ++ VERSION_2 ∷ []) ≡ length ys = ap length e in
    absurd (omega (arith, size, whole, same))

either_needs : (a b : Bool) → (a ≡ true) ⊎ (b ≡ true) → a || b ≡ true
either_needs a b (inl e) = ap (λ t. t || b) e
either_needs a b (inr e) = ap (λ t. a || t) e ∙ or_true a

pub version_2_refused : version_2_law
version_2_refused m n queue ledger same new =
    ap (λ t. bytes_eq (if t then identity_bytes m ++ VERSION_2 ∷ [] else identity_bytes m) (identity_bytes n))
    (either_needs (has_mark queue) (has_withdrawn ledger) new)
    ∙ other_bytes (identity_bytes m ++ VERSION_2 ∷ []) (identity_bytes n) (longer (identity_bytes m) (identity_bytes n) same)

pub other_device : other_device_law
other_device s content e =
    ap (by_name s content) own_name ∙ ap (λ t. done s (cond t Used OtherDevice)) e

-- the ledger, if there is one
ledgers_lead : (m : Contents) (l : Option LedgerState) (life : ℕ) → IfSome l IsLedger → Leads (state_of m (option_map (λ x. empty_ledger x.slots life) l)) (ledger_entries l) (state_of m l)
ledgers_lead m None life is = leads_nowhere (state_of m None)
ledgers_lead m (Some l) life is = ledger_leads m l life is

names_of_kept : (m : Contents) (names : List AttributeName) → AllByRecursion (IsKept m) names → AllByRecursion IsName names
names_of_kept m [] h = tt
names_of_kept m (n ∷ names) h = (h.0.is_name, names_of_kept m names h.1)

-- the fresh device after the entries before the values
module _ (s fresh : State) (life : ℕ) (new : IsFresh s fresh life) (is : IfSome s.ledger IsLedger) where
  abbrev behind_identity : State
  behind_identity = state_of fresh.objects (option_map (λ x. empty_ledger x.slots life) s.ledger)

  start : fresh ≡ behind_identity
  start = ap (state_of fresh.objects) new.ledger

  abbrev own_version : Bool
  own_version = needs_version_2 None s.ledger

  identity_used : restored_entry fresh (first_entry s.objects own_version) ≡ done fresh Used
  identity_used = version_by fresh (identity_bytes s.objects) own_version (sym new.identity)

  ledger_used : Leads behind_identity (ledger_entries s.ledger) (state_of fresh.objects s.ledger)
  ledger_used = ledgers_lead fresh.objects s.ledger life is

  -- and after the values
  abbrev end : Contents
  end = put_all s.objects fresh.objects (kept_names s.objects.shapes)

  with_values : Leads (state_of fresh.objects s.ledger) (value_entries s.objects) (state_of end s.ledger) → AllByRecursion IsName (kept_names s.objects.shapes) → IsRestored s (restored fresh (saved s))
  with_values put named =
      let m = s.objects in
      let f = fresh.objects in
      let names = kept_names m.shapes in
      let behind : Leads behind_identity (ledger_entries s.ledger ++ value_entries m) (state_of end s.ledger) =
      leads_further behind_identity (ledger_entries s.ledger) (value_entries m) (state_of f s.ledger) (state_of end s.ledger) ledger_used put in
      let all : Leads fresh (saved s) (state_of end s.ledger) =
      leads_on fresh fresh (state_of end s.ledger) (first_entry m own_version) (ledger_entries s.ledger ++ value_entries m) identity_used
      (subst (λ x. Leads x (ledger_entries s.ledger ++ value_entries m) (state_of end s.ledger)) (sym start) behind) in
      let shapes : end.shapes ≡ m.shapes = shapes_stay m f names ∙ new.shapes in
      let values : value_entries end ≡ value_entries m = ap (λ x. map (value_entry end) (kept_names x)) shapes ∙ entries_same m f names in
      let identity : identity_bytes end ≡ identity_bytes m = identity_stays m f names named ∙ new.identity in
      record {
        used = all.used;
        ledger = ap (λ (x : State). x.ledger) all.after;
        saved = ap saved all.after
            ∙ ap (λ b. entry_of (key_of IDENTITY 1 0) (with_version own_version b) ∷ (ledger_entries s.ledger ++ value_entries end)) identity
            ∙ ap (λ es. first_entry m own_version ∷ (ledger_entries s.ledger ++ es)) values;
      }

pub saved_again : saved_law
saved_again s fresh life is new =
    with_values s fresh life new is.ledger
    (values_lead s.objects fresh.objects s.ledger (kept_names s.objects.shapes) new.shapes is.values)
    (names_of_kept s.objects (kept_names s.objects.shapes) is.values)

pub used_again : used_law
used_again s fresh life named is new used =
    let entries = ledger_entries s.ledger ++ value_entries s.objects in
    let first : AllByRecursion (λ outcome. outcome ≡ Used) (restored fresh entries).outcomes =
    subst (λ x. AllByRecursion (λ outcome. outcome ≡ Used) (restored x entries).outcomes) (ap (λ (d : Done State). d.after) (identity_used s fresh life new is)) used.1 in
    let second : AllByRecursion (λ outcome. outcome ≡ Used) (restored (behind_identity s fresh life new is) entries).outcomes =
    subst (λ x. AllByRecursion (λ outcome. outcome ≡ Used) (restored x entries).outcomes) (start s fresh life new is) first in
    with_values s fresh life new is
    (used_lead s.objects fresh.objects s.ledger (kept_names s.objects.shapes) named
    (used_behind (behind_identity s fresh life new is) (state_of fresh.objects s.ledger) (ledger_entries s.ledger) (value_entries s.objects) (ledger_used s fresh life new is).after second))
    named

-- what no entry names
if_kept : (m : Contents) (n : AttributeName) (b : List ℕ) (c i a : ℕ) (kind : Option AttributeKind) → eqb c n.class && (eqb i n.instance && eqb a n.attribute) ≡ false → value_at (if_value m n (with_kept m n.class n.instance n.attribute b kind)).after c i a ≡ value_at m c i a
if_kept m n b c i a None e = refl
if_kept m n b c i a (Some kind) e =
    elim (is_whole kind b) as (λ t. value_at (if_value m n (cond t (Some (with_value m n.class n.instance n.attribute b)) None)).after c i a ≡ value_at m c i a) [
      | true ↦ value_at-other m n.class n.instance n.attribute b c i a e
      | false ↦ refl
    ]

value_elsewhere : (m : Contents) (n : AttributeName) (b : List ℕ) (c i a : ℕ) → eqb c n.class && (eqb i n.instance && eqb a n.attribute) ≡ false → value_at (if_value m n (value_restored m n b)).after c i a ≡ value_at m c i a
unfolding value_restored
value_elsewhere m n b c i a e = if_kept m n b c i a (kept_kind m.shapes n.class n.instance n.attribute) e

ledger_elsewhere : (m : Contents) (n : AttributeName) (b : List ℕ) (l : Option LedgerState) → (to_ledger m n b l).after.objects ≡ m
ledger_elsewhere m n b None = refl
ledger_elsewhere m n b (Some l) = refl

by_class : (s : State) (n : AttributeName) (b : List ℕ) (c i a : ℕ) (t u : Bool) (x : Done State) → x.after.objects ≡ s.objects → eqb c n.class && (eqb i n.instance && eqb a n.attribute) ≡ false
    → value_at (cond t x (cond u (to_ledger s.objects n b s.ledger) (with_objects s.ledger (if_value s.objects n (value_restored s.objects n b))))).after.objects c i a ≡ value_at s.objects c i a
by_class s n b c i a true u x same e = ap (λ m. value_at m c i a) same
by_class s n b c i a false true x same e = ap (λ m. value_at m c i a) (ledger_elsewhere s.objects n b s.ledger)
by_class s n b c i a false false x same e = value_elsewhere s.objects n b c i a e

differ : (c i a d j b : ℕ) → (key_of d j b ≡ key_of c i a → ⊥) → (t : Bool) → eqb c d && (eqb i j && eqb a b) ≡ t → t ≡ false
differ c i a d j b other false e = refl
differ c i a d j b other true e =
    let x : eqb c d ≡ true = grind (arith, nat_tests) in
    let y : eqb i j ≡ true = grind (arith, nat_tests) in
    let z : eqb a b ≡ true = grind (arith, nat_tests) in
    absurd (other (ap (λ k. key_of k j b) (sym (eqb-true c d x)) ∙ ap (λ k. key_of c k b) (sym (eqb-true i j y)) ∙ ap (λ k. key_of c i k) (sym (eqb-true a b z))))

one_stays : (s : State) (entry : Entry) (c i a : ℕ) → (entry.key ≡ key_of c i a → ⊥) → value_at (restored_entry s entry).after.objects c i a ≡ value_at s.objects c i a
one_stays s entry c i a other =
    let k = entry.key in
    let d = k / 2 ^ 32 in
    let j = k / 2 ^ 16 % 2 ^ 16 in
    let b = k % 2 ^ 16 in
    let n : AttributeName = record { class = d; instance = j; attribute = b } in
    let apart = differ c i a d j b (λ e. other (sym (key_again k) ∙ e)) (eqb c d && (eqb i j && eqb a b)) refl in
    elim (nat_lt k (2 ^ 48)) as (λ t. value_at (by_name s entry.content (cond t (Some n) None)).after.objects c i a ≡ value_at s.objects c i a) [
      | true ↦ by_class s n entry.content c i a (eqb d IDENTITY) (eqb d 101) _ refl apart
      | false ↦ refl
    ]

pub others : others_law
others s [] c i a h = refl
others s (entry ∷ entries) c i a h =
    others (restored_entry s entry).after entries c i a h.1 ∙ one_stays s entry c i a h.0
