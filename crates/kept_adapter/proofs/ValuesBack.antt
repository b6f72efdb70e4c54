-- The objects of a device that starts from what was kept of a device.
use Rattle.std.proofs.Common.{◌≡◌, ◌≢◌, ℕ, zero, suc, ◌-◌, ◌/◌, ◌<◌, ◌≤◌, ◌^◌, ◌==◌, ◌&&◌, ◌||◌, nat_le, not, Bool}
use Rattle.std.proofs.Common.{true, false, if◌then◌else◌, Option, Some, None, List, [], ◌∷◌, length, map, refl, ap, sym}
use Rattle.std.proofs.Common.{◌∙◌, arith}
use Rattle.std.specs.List.{AllByRecursion}
use Rattle.std.proofs.lemmas.Bool.{eqb-true, and_parts}
use Rattle.std.proofs.lemmas.Bool.Decides.{nat_tests}
use Rattle.cip_application.specs.declared.object.AttributeName.{AttributeName}
use Rattle.cip_bytes.specs.declared.protocol.TheConstants.{IDENTITY}
use Rattle.cip_message.specs.declared.ledger_services.TheConstants.{LEDGER}
use Rattle.cip_ledger.specs.Device.{Device}
use Rattle.cip_ledger.specs.Ledger.{LedgerState}
use Rattle.cip_objects.specs.Configuration.{contents_of_config}
use Rattle.cip_objects.specs.Contents.{Contents, value_at}
use Rattle.cip_objects.specs.Kept.{name_of, kept_names}
use Rattle.cip_objects.proofs.ReadAfterSet.{value_at-other}
use Rattle.device_state.specs.declared.restoring.Outcome.TheVariants.{Used}
use Rattle.device_state.specs.Keys.{key_of}
use Rattle.device_state.specs.Laws.{IsName, IsKept}
use Rattle.device_state.specs.Restored.{Done, done, to_ledger, restored_entry}
use Rattle.device_state.specs.Saved.{State, state_of, entry_of, value_entry, identity_bytes, needs_version_2, with_version}
use Rattle.device_state.proofs.Puts.{put, put_all, entry_put, shapes_stay, entries_same, identity_stays, reads}
use Rattle.kept_adapter.specs.declared.adapter_start.AdapterStart.{AdapterStart}
use Rattle.kept_adapter.specs.declared.progress.Progress.{Progress}
use Rattle.kept_adapter.specs.Keys.{ledger_key, device_key}
use Rattle.kept_adapter.specs.Restarts.{restarted, HasObjects}
use Rattle.cip_owner.specs.Queue.{QueueState}
use Rattle.kept_adapter.specs.Saved.{pair_of, saved_objects, versioned_objects, saved_ledger, saved_device, ledger_bytes, first_entries}
use Rattle.kept_adapter.specs.Saved.{ENTRIES}
use Rattle.kept_adapter.specs.Started.{is_free_slot, by_device_key, after_entry, beginning, put_back, put_all_back}
use Rattle.kept_adapter.specs.Started.{configured, put_back_in}
use Rattle.kept_adapter.proofs.LedgerBack.{ledger_goes}
use Rattle.kept_adapter.proofs.PutBack.{put_two, not_of_ledger}
use Rattle.kept_adapter.proofs.QueueLeaves.{all_entries}

-- ---- the entries of the ledger leave the objects

to_ledger_leaves : (m : Contents) (name : AttributeName) (content : List ℕ) (l : Option LedgerState)
    → (to_ledger m name content l).after.objects ≡ m
to_ledger_leaves m name content None = refl
to_ledger_leaves m name content (Some l) = refl

ledger_entry_leaves : (p : Progress) (n : ℕ) (content : List ℕ) → n < 2 ^ 16
    → (put_back p (ledger_key n, content)).objects ≡ p.objects
ledger_entry_leaves p n content h = by (is_free_slot (ledger_key n) content) refl
  where
    by : (free : Bool) → is_free_slot (ledger_key n) content ≡ free
        → (after_entry (state_of p.objects p.ledger) (ledger_key n) content).after.objects ≡ p.objects
    by true e =
        ap (λ t. (if t then done (state_of p.objects p.ledger) Used
        else by_device_key (state_of p.objects p.ledger) content (device_key (ledger_key n))).after.objects) e
    by false e =
        ap (λ (d : Done State). d.after.objects) (ledger_goes (state_of p.objects p.ledger) n content h e)
        ∙ to_ledger_leaves p.objects (name_of LEDGER n 0) content p.ledger

first_leave : (p : Progress) (l : LedgerState) (count : ℕ) → count ≤ 2 ^ 16
    → (put_all_back p (first_entries l count)).objects ≡ p.objects
first_leave p l zero h = refl
first_leave p l (suc count) h =
    ap (λ (q : Progress). q.objects) (put_two p (first_entries l count) ((ledger_key count, ledger_bytes l count) ∷ []))
    ∙ ledger_entry_leaves (put_all_back p (first_entries l count)) count (ledger_bytes l count) (omega (arith, h))
    ∙ first_leave p l count (omega (arith, h))

-- all of them
counted : (p : Progress) (l : LedgerState) (count : ℕ) → count ≡ ENTRIES → count ≤ 2 ^ 16
    → (put_all_back p (first_entries l ENTRIES)).objects ≡ p.objects
counted p l count e h =
    ap (λ n. (put_all_back p (first_entries l n)).objects) (sym e) ∙ first_leave p l count h

ledger_leaves : (p : Progress) (l : Option LedgerState) → (put_all_back p (saved_ledger l)).objects ≡ p.objects
ledger_leaves p None = refl
ledger_leaves p (Some l) = counted p l ENTRIES refl (omega arith)

-- ---- the values are put back

narrow_key : (c i a : ℕ) → c < 2 ^ 16 → i < 2 ^ 16 → a < 2 ^ 16 → key_of c i a < 2 ^ 48
narrow_key c i a hc hi ha = omega (arith, hc, hi, ha)

class_back : (c i a : ℕ) → i < 2 ^ 16 → a < 2 ^ 16 → key_of c i a / 2 ^ 32 ≡ c
class_back c i a hi ha = omega (arith, hi, ha)

not_above : (key : ℕ) → key < 2 ^ 48 → nat_le (2 ^ 48) key ≡ false
not_above key h = grind (arith, nat_tests)

plain_key : (key class : ℕ) → key < 2 ^ 48 → key / 2 ^ 32 ≡ class → (class == LEDGER) ≡ false
    → device_key key ≡ Some key
plain_key key class h own other =
    ap (λ t. if t then Some (key - 2 ^ 48)
    else (if nat_le (2 ^ 48) key || (key / 2 ^ 32 == LEDGER) then None else Some key)) (not_of_ledger key h)
    ∙ ap (λ t. if t || (key / 2 ^ 32 == LEDGER) then None else Some key) (not_above key h)
    ∙ ap (λ n. if n == LEDGER then None else Some key) own
    ∙ ap (λ t. if t then None else Some key) other

plain_entry : (s : State) (key class : ℕ) (content : List ℕ) → key < 2 ^ 48 → key / 2 ^ 32 ≡ class
    → (class == LEDGER) ≡ false → after_entry s key content ≡ restored_entry s (entry_of key content)
plain_entry s key class content h own other =
    ap (λ t. if t && not (key == ledger_key 0) && (length content == 0) then done s Used
    else by_device_key s content (device_key key)) (not_of_ledger key h)
    ∙ ap (by_device_key s content) (plain_key key class h own other)

pub value_used : (p : Progress) (m : Contents) (name : AttributeName) → p.objects.shapes ≡ m.shapes → IsKept m name
    → after_entry (state_of p.objects p.ledger) (key_of name.class name.instance name.attribute) (reads m name)
    ≡ done (state_of (put m p.objects name) p.ledger) Used
value_used p m name same is =
    let n = is.is_name in
    plain_entry (state_of p.objects p.ledger) (key_of name.class name.instance name.attribute) name.class (reads m name)
    (narrow_key name.class name.instance name.attribute n.class n.instance n.attribute)
    (class_back name.class name.instance name.attribute n.instance n.attribute) n.not_ledger
    ∙ entry_put m p.objects p.ledger name same is

value_back : (p : Progress) (m : Contents) (name : AttributeName) → p.objects.shapes ≡ m.shapes → IsKept m name
    → (put_back p (pair_of (value_entry m name))).objects ≡ put m p.objects name
value_back p m name same is = ap (λ (d : Done State). d.after.objects) (value_used p m name same is)

values_back : (p : Progress) (m : Contents) (names : List AttributeName) → p.objects.shapes ≡ m.shapes
    → AllByRecursion (IsKept m) names
    → (put_all_back p (map pair_of (map (value_entry m) names))).objects ≡ put_all m p.objects names
values_back p m [] same are = refl
values_back p m (name ∷ names) same are =
    let back = value_back p m name same are.0 in
    values_back (put_back p (pair_of (value_entry m name))) m names (ap (λ (x : Contents). x.shapes) back ∙ same) are.1
    ∙ ap (λ x. put_all m x names) back

objects_back : (start : AdapterStart) (m : Contents) (l : Option LedgerState) (queue : Option QueueState)
    → (contents_of_config start.objects).shapes ≡ m.shapes
    → AllByRecursion (IsKept m) (kept_names m.shapes)
    → (put_back_in start (saved_device m l queue)).objects
    ≡ put_all m (contents_of_config start.objects) (kept_names m.shapes)
objects_back start m l queue same are =
    let p = beginning (configured start) in
    let is_version_2 = needs_version_2 queue l in
    let q = put_back p (key_of IDENTITY 1 0, with_version is_version_2 (identity_bytes m)) in
    ap (λ (x : Progress). x.objects) (all_entries p m l queue)
    ∙ ledger_leaves (put_all_back p (versioned_objects m is_version_2)) l
    ∙ values_back q m (kept_names m.shapes) same are

-- ---- the objects after a restart

names_of : (m : Contents) (names : List AttributeName) → AllByRecursion (IsKept m) names → AllByRecursion IsName names
names_of m [] are = tt
names_of m (name ∷ names) are = (are.0.is_name, names_of m names are.1)

saved_again : (m f : Contents) → f.shapes ≡ m.shapes → identity_bytes f ≡ identity_bytes m
    → AllByRecursion (IsKept m) (kept_names m.shapes)
    → saved_objects (put_all m f (kept_names m.shapes)) ≡ saved_objects m
saved_again m f same identity are =
    let names = kept_names m.shapes in
    let end = put_all m f names in
    let shapes : end.shapes ≡ m.shapes = shapes_stay m f names ∙ same in
    ap (λ b. (key_of IDENTITY 1 0, b) ∷ map pair_of (map (value_entry end) (kept_names end.shapes)))
    (identity_stays m f names (names_of m names are) ∙ identity)
    ∙ ap (λ es. (key_of IDENTITY 1 0, identity_bytes m) ∷ map pair_of es)
    (ap (λ x. map (value_entry end) (kept_names x)) shapes ∙ entries_same m f names)

pub values_go_on : (start : AdapterStart) (device : Device) → HasObjects device start
    → AllByRecursion (IsKept device.router.objects) (kept_names device.router.objects.shapes)
    → saved_objects (restarted start device).router.objects ≡ saved_objects device.router.objects
values_go_on start device has are =
    let m = device.router.objects in
    ap saved_objects (objects_back start m device.ledger device.router.queue has.shapes are)
    ∙ saved_again m (contents_of_config start.objects) has.shapes has.identity are

differ : (name : AttributeName) (c i a : ℕ) → name ≢ name_of c i a → (t : Bool)
    → (c == name.class) && ((i == name.instance) && (a == name.attribute)) ≡ t → t ≡ false
differ name c i a other false e = refl
differ name c i a other true e =
    let first = and_parts (c == name.class) ((i == name.instance) && (a == name.attribute)) e in
    let more = and_parts (i == name.instance) (a == name.attribute) first.1 in
    absurd (other (ap (λ x. name_of x name.instance name.attribute) (sym (eqb-true c name.class first.0))
    ∙ ap (λ x. name_of c x name.attribute) (sym (eqb-true i name.instance more.0))
    ∙ ap (λ x. name_of c i x) (sym (eqb-true a name.attribute more.1))))

others_as_configured : (m f : Contents) (names : List AttributeName) (c i a : ℕ)
    → AllByRecursion (λ name. name ≢ name_of c i a) names → value_at (put_all m f names) c i a ≡ value_at f c i a
others_as_configured m f [] c i a others = refl
others_as_configured m f (name ∷ names) c i a others =
    others_as_configured m (put m f name) names c i a others.1
    ∙ value_at-other f name.class name.instance name.attribute (reads m name) c i a
    (differ name c i a others.0 ((c == name.class) && ((i == name.instance) && (a == name.attribute))) refl)

pub others_begin_again : (start : AdapterStart) (device : Device) (c i a : ℕ) → HasObjects device start
    → AllByRecursion (IsKept device.router.objects) (kept_names device.router.objects.shapes)
    → AllByRecursion (λ name. name ≢ name_of c i a) (kept_names device.router.objects.shapes)
    → value_at (restarted start device).router.objects c i a ≡ value_at (contents_of_config start.objects) c i a
others_begin_again start device c i a has are others =
    let m = device.router.objects in
    ap (λ x. value_at x c i a) (objects_back start m device.ledger device.router.queue has.shapes are)
    ∙ others_as_configured m (contents_of_config start.objects) (kept_names m.shapes) c i a others
