-- A device that starts from what is kept of a device with the same tables uses every value.
use Rattle.std.proofs.Common.{◌≡◌, ◌≢◌, ℕ, zero, suc, ◌≤◌, ◌^◌, ◌==◌, ◌&&◌, ◌||◌, not, Bool, true, false, if◌then◌else◌, cond}
use Rattle.std.proofs.Common.{Option, Some, None, List, [], ◌∷◌, ◌++◌, length, sum, map, filter, refl, ap, sym, ◌∙◌, subst, arith}
use Rattle.std.specs.Prelude.{is_some, IfSome}
use Rattle.std.specs.List.{AllByRecursion}
use Rattle.std.proofs.lemmas.Bool.{eq-eqb, eqb-true, eqb-false}
use Rattle.cip_application.specs.declared.kind.AttributeKind.{AttributeKind}
use Rattle.cip_application.specs.declared.kind.AttributeKind.TheVariants.{Fixed}
use Rattle.cip_application.specs.declared.object.AttributeName.{AttributeName}
use Rattle.cip_application.specs.Values.{is_whole}
use Rattle.cip_bytes.specs.declared.protocol.TheConstants.{IDENTITY, ASSEMBLY}
use Rattle.cip_ledger.specs.Ledger.{LedgerState}
use Rattle.cip_objects.specs.Configuration.{contents_of_config}
use Rattle.cip_objects.specs.Contents.{Contents, bytes_at, with_value}
use Rattle.cip_objects.specs.Kept.{kept_names, kept_kind, kept_data_kind, kind_of_data, with_kept, restored as value_restored}
use Rattle.cip_objects.specs.Tables.{Shape, shape_at}
use Rattle.cip_owner.specs.Queue.{QueueState}
use Rattle.device_state.specs.QueueEntries.{QUEUE_ENTRIES, queue_bytes}
use Rattle.device_state.specs.Keys.{key_of}
use Rattle.device_state.specs.Laws.{IsKept}
use Rattle.device_state.specs.Restored.{Done}
use Rattle.device_state.specs.Saved.{State, state_of, value_entry, identity_bytes, needs_version_2, with_version}
use Rattle.enip_adapter.specs.Calls.{AdapterState}
use Rattle.enip_keep.specs.Kept.{Kept}
use Rattle.kept_adapter.specs.declared.adapter_start.AdapterStart.{AdapterStart}
use Rattle.kept_adapter.specs.declared.progress.Progress.{Progress}
use Rattle.kept_adapter.specs.Keys.{ledger_key, is_value_key, queue_key, is_queue_key}
use Rattle.kept_adapter.specs.Restarts.{HasValues, IsValueName, AreValueNames}
use Rattle.kept_adapter.specs.Saved.{pair_of, saved_ledger, saved_queue, saved_adapter, first_entries, ledger_bytes}
use Rattle.kept_adapter.specs.Saved.{first_queue_entries, ENTRIES}
use Rattle.kept_adapter.specs.Started.{after_entry, beginning, configured, is_used, put_back, unused_keys, waiting_keys}
use Rattle.kept_adapter.proofs.LedgerBack.{of_ledger}
use Rattle.kept_adapter.proofs.QueueLeaves.{of_queue}
use Rattle.kept_adapter.proofs.ValuesBack.{value_used}

-- the values that wait once these entries are put back
abbrev waiting : Progress → Kept → List ℕ
waiting p entries = filter is_value_key (unused_keys p entries)

-- an entry that was used does not wait
used_apart : (p : Progress) (entry : ℕ × List ℕ) (entries : Kept)
    → is_used (after_entry (state_of p.objects p.ledger) entry.0 entry.1).outcome ≡ true
    → waiting p (entry ∷ entries) ≡ waiting (put_back p entry) entries
used_apart p entry entries used =
    ap (λ t. filter is_value_key (if t || is_queue_key entry.0 then unused_keys (put_back p entry) entries
    else entry.0 ∷ unused_keys (put_back p entry) entries)) used

-- nor does one that is no value
other_apart : (p : Progress) (entry : ℕ × List ℕ) (entries : Kept) → is_value_key entry.0 ≡ false
    → waiting p (entry ∷ entries) ≡ waiting (put_back p entry) entries
other_apart p entry entries other =
    by (is_used (after_entry (state_of p.objects p.ledger) entry.0 entry.1).outcome || is_queue_key entry.0)
  where
    later : List ℕ
    later = unused_keys (put_back p entry) entries

    by : (t : Bool) → filter is_value_key (if t then later else entry.0 ∷ later) ≡ filter is_value_key later
    by true = refl
    by false = ap (λ t. cond t (entry.0 ∷ filter is_value_key later) (filter is_value_key later)) other

-- nor does one of the queue
or_true : (a : Bool) → a || true ≡ true
or_true true = refl
or_true false = refl

queue_apart : (p : Progress) (entry : ℕ × List ℕ) (entries : Kept) → is_queue_key entry.0 ≡ true
    → waiting p (entry ∷ entries) ≡ waiting (put_back p entry) entries
queue_apart p entry entries of =
    let used = is_used (after_entry (state_of p.objects p.ledger) entry.0 entry.1).outcome in
    ap (λ t. filter is_value_key (if t then unused_keys (put_back p entry) entries
    else entry.0 ∷ unused_keys (put_back p entry) entries)) (ap (λ t. used || t) of ∙ or_true used)

-- ---- the values

some_is : {A : Type 0} (x y : A) → ◌≡◌ {A = Option A} (Some x) (Some y) → x ≡ y
some_is x y e = cc

-- each value is one that it can have
data_fits : (m : Contents) (instance attribute : ℕ) (kind : AttributeKind) → HasValues m
    → kept_data_kind m.shapes instance attribute ≡ Some kind
    → is_whole kind (bytes_at m ASSEMBLY instance attribute) ≡ true
data_fits m instance attribute kind have e = by (attribute == 3) refl e
  where
    by_shape : (s : Option Shape) → shape_at instance m.shapes.assemblies ≡ s → kind_of_data s ≡ Some kind
        → attribute ≡ 3 → is_whole kind (bytes_at m ASSEMBLY instance attribute) ≡ true
    by_shape None at e three = absurd (cc)
    by_shape (Some s) at e three =
        subst (λ k. is_whole k (bytes_at m ASSEMBLY instance attribute) ≡ true)
        (some_is (Fixed (sum s.members) None) kind e)
        (eq-eqb (length (bytes_at m ASSEMBLY instance attribute)) (sum s.members)
        (ap (λ a. length (bytes_at m ASSEMBLY instance a)) three ∙ have.data_whole instance s at))

    by : (t : Bool) → (attribute == 3) ≡ t
        → (if t then kind_of_data (shape_at instance m.shapes.assemblies) else None) ≡ Some kind
        → is_whole kind (bytes_at m ASSEMBLY instance attribute) ≡ true
    by true three e = by_shape (shape_at instance m.shapes.assemblies) refl e (eqb-true attribute 3 three)
    by false other e = absurd (cc)

value_fits : (m : Contents) (class instance attribute : ℕ) (kind : AttributeKind) → class ≢ IDENTITY → HasValues m
    → kept_kind m.shapes class instance attribute ≡ Some kind
    → is_whole kind (bytes_at m class instance attribute) ≡ true
value_fits m class instance attribute kind apart have e = by (class == ASSEMBLY) refl
  where
    by : (t : Bool) → (class == ASSEMBLY) ≡ t → is_whole kind (bytes_at m class instance attribute) ≡ true
    by true is =
        let here : class ≡ ASSEMBLY = eqb-true class ASSEMBLY is in
        subst (λ c. is_whole kind (bytes_at m c instance attribute) ≡ true) (sym here)
        (data_fits m instance attribute kind have
        (ap (λ c. kept_kind m.shapes c instance attribute) (sym here) ∙ e))
    by false other =
        subst (λ o. IfSome o (λ kind. is_whole kind (bytes_at m class instance attribute) ≡ true)) e
        (have.others class instance attribute apart (eqb-false class ASSEMBLY other))

kept_if : (m : Contents) (name : AttributeName) (bytes : List ℕ) (kind : Option AttributeKind) → is_some kind ≡ true
    → IfSome kind (λ kind. is_whole kind bytes ≡ true)
    → is_some (with_kept m name.class name.instance name.attribute bytes kind) ≡ true
kept_if m name bytes None there whole = there
kept_if m name bytes (Some kind) there whole =
    ap (λ t. is_some (if t then Some (with_value m name.class name.instance name.attribute bytes) else None)) whole

is_kept : (m : Contents) (name : AttributeName) → IsValueName m.shapes name → HasValues m → IsKept m name
unfolding value_restored
is_kept m name is have =
    let kind = kept_kind m.shapes name.class name.instance name.attribute in
    record {
      is_name = is.is_name;
      value = kept_if m name (bytes_at m name.class name.instance name.attribute) kind is.has_kind (whole kind refl);
    }
  where
    whole : (o : Option AttributeKind) → kept_kind m.shapes name.class name.instance name.attribute ≡ o
        → IfSome o (λ kind. is_whole kind (bytes_at m name.class name.instance name.attribute) ≡ true)
    whole None e = tt
    whole (Some kind) e =
        value_fits m name.class name.instance name.attribute kind (eqb-false name.class IDENTITY is.is_name.not_identity)
        have e

values_apart : (p : Progress) (m : Contents) (names : List AttributeName) (rest : Kept) → p.objects.shapes ≡ m.shapes
    → AllByRecursion (IsValueName m.shapes) names → HasValues m → ((q : Progress) → waiting q rest ≡ [])
    → waiting p (map pair_of (map (value_entry m) names) ++ rest) ≡ []
values_apart p m [] rest same are have none = none p
values_apart p m (name ∷ names) rest same are have none =
    let entry : ℕ × List ℕ = pair_of (value_entry m name) in
    let used = value_used p m name same (is_kept m name are.0 have) in
    used_apart p entry (map pair_of (map (value_entry m) names) ++ rest)
    (ap (λ (d : Done State). is_used d.outcome) used)
    ∙ values_apart (put_back p entry) m names rest (ap (λ (d : Done State). d.after.objects.shapes) used ∙ same) are.1
    have none

-- ---- the ledger and the queue

abbrev IsOther : ℕ × List ℕ → Type 0
IsOther entry = is_value_key entry.0 ≡ false

others_apart : (q : Progress) (entries rest : Kept) → AllByRecursion IsOther entries
    → ((r : Progress) → waiting r rest ≡ []) → waiting q (entries ++ rest) ≡ []
others_apart q [] rest are none = none q
others_apart q (entry ∷ entries) rest are none =
    other_apart q entry (entries ++ rest) are.0 ∙ others_apart (put_back q entry) entries rest are.1 none

one_more : (entries : Kept) (entry : ℕ × List ℕ) → AllByRecursion IsOther entries → IsOther entry
    → AllByRecursion IsOther (entries ++ entry ∷ [])
one_more [] entry are is = (is, tt)
one_more (first ∷ entries) entry are is = (are.0, one_more entries entry are.1 is)

of_slots : (l : LedgerState) (count : ℕ) → count ≤ 2 ^ 16 → AllByRecursion IsOther (first_entries l count)
of_slots l zero h = tt
of_slots l (suc count) h =
    one_more (first_entries l count) (ledger_key count, ledger_bytes l count) (of_slots l count (omega (arith, h)))
    (ap (λ t. not t && not (ledger_key count == key_of IDENTITY 1 0)) (of_ledger count (omega (arith, h))))

counted_apart : (q : Progress) (l : LedgerState) (rest : Kept) (count : ℕ) → count ≡ ENTRIES → count ≤ 2 ^ 16
    → ((r : Progress) → waiting r rest ≡ []) → waiting q (first_entries l ENTRIES ++ rest) ≡ []
counted_apart q l rest count is h none =
    ap (λ n. waiting q (first_entries l n ++ rest)) (sym is)
    ∙ others_apart q (first_entries l count) rest (of_slots l count h) none

abbrev IsOfQueue : ℕ × List ℕ → Type 0
IsOfQueue entry = is_queue_key entry.0 ≡ true

one_more_of_queue : (entries : Kept) (entry : ℕ × List ℕ) → AllByRecursion IsOfQueue entries → IsOfQueue entry
    → AllByRecursion IsOfQueue (entries ++ entry ∷ [])
one_more_of_queue [] entry are is = (is, tt)
one_more_of_queue (first ∷ entries) entry are is = (are.0, one_more_of_queue entries entry are.1 is)

of_places : (queue : QueueState) (count : ℕ) → count ≤ 2 ^ 16
    → AllByRecursion IsOfQueue (first_queue_entries queue count)
of_places queue zero h = tt
of_places queue (suc count) h =
    one_more_of_queue (first_queue_entries queue count) (queue_key count, queue_bytes queue count)
    (of_places queue count (omega (arith, h))) (of_queue count (omega (arith, h)))

all_apart : (q : Progress) (entries : Kept) → AllByRecursion IsOfQueue entries → waiting q entries ≡ []
all_apart q [] are = refl
all_apart q (entry ∷ entries) are =
    queue_apart q entry entries are.0 ∙ all_apart (put_back q entry) entries are.1

counted_places : (q : Progress) (queue : QueueState) (count : ℕ) → count ≡ QUEUE_ENTRIES → count ≤ 2 ^ 16
    → waiting q (first_queue_entries queue QUEUE_ENTRIES) ≡ []
counted_places q queue count is h =
    ap (λ n. waiting q (first_queue_entries queue n)) (sym is)
    ∙ all_apart q (first_queue_entries queue count) (of_places queue count h)

places_apart : (queue : Option QueueState) (q : Progress) → waiting q (saved_queue queue) ≡ []
places_apart None q = refl
places_apart (Some queue) q = counted_places q queue QUEUE_ENTRIES refl (omega arith)

ledger_apart : (l : Option LedgerState) (queue : Option QueueState) (q : Progress)
    → waiting q (saved_ledger l ++ saved_queue queue) ≡ []
ledger_apart None queue q = places_apart queue q
ledger_apart (Some l) queue q =
    counted_apart q l (saved_queue queue) ENTRIES refl (omega arith) (places_apart queue)

-- ---- all entries

pub nothing_waits : (start : AdapterStart) (a : AdapterState)
    → (contents_of_config start.objects).shapes ≡ a.state.shared.objects.router.objects.shapes
    → AreValueNames a.state.shared.objects.router.objects.shapes → HasValues a.state.shared.objects.router.objects
    → waiting_keys start (saved_adapter a) ≡ []
nothing_waits start a same are have =
    let m : Contents = a.state.shared.objects.router.objects in
    let p : Progress = beginning (configured start) in
    let rest : Kept
    = saved_ledger a.state.shared.objects.ledger ++ saved_queue a.state.shared.objects.router.queue in
    let is_version_2 = needs_version_2 a.state.shared.objects.router.queue a.state.shared.objects.ledger in
    let first : ℕ × List ℕ = (key_of IDENTITY 1 0, with_version is_version_2 (identity_bytes m)) in
    other_apart p first (map pair_of (map (value_entry m) (kept_names m.shapes)) ++ rest) refl
    ∙ values_apart (put_back p first) m (kept_names m.shapes) rest same are have
    (ledger_apart a.state.shared.objects.ledger a.state.shared.objects.router.queue)
