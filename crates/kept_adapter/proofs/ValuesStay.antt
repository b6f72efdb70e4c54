-- Each value stays one that it can have: no request, no write of the device and no start changes that.
use Rattle.std.proofs.Common.{◌≡◌, ◌≢◌, ℕ, ◌+◌, ◌≤◌, ◌==◌, ◌&&◌, ◌||◌, not, nat_le, nat_lt, Bool, true, false}
use Rattle.std.proofs.Common.{if◌then◌else◌, cond, eqb, List, [], ◌∷◌, length, sum, Option, Some, None, option_map}
use Rattle.std.proofs.Common.{unwrap_or, is_some, Result, Ok, Err, refl, ap, sym, ◌∙◌, subst, arith, ◌⊎◌, inl, inr, drop, take}
use Rattle.std.specs.Prelude.{IfSome, is_ok, slice_index}
use Rattle.std.specs.List.{AllByRecursion, list_any}
use Rattle.std.specs.Option.{option_and_then, ok_or}
use Rattle.std.proofs.lemmas.Bool.{eqb-true, eq-eqb, ne_eqb, and_parts}
use Rattle.std.proofs.lemmas.Bool.Decides.{nat_tests}
use Rattle.byteorder.specs.Endian.{little_number}
use Rattle.cip_application.specs.declared.kind.AttributeKind.{AttributeKind}
use Rattle.cip_application.specs.declared.kind.AttributeKind.TheVariants.{Fixed, ShortString}
use Rattle.cip_application.specs.declared.object.AttributeName.{AttributeName}
use Rattle.cip_application.specs.declared.attribute.SetFault.TheVariants.{InvalidAttributeValue}
use Rattle.cip_application.specs.Check.{check_size as check_size_of_value, demand as demand_of_value}
use Rattle.cip_bytes.specs.Reading.{◌>>◌}
use Rattle.cip_application.specs.Configuration.{is_taken_class, is_standard_class}
use Rattle.cip_application.specs.Values.{size_for, is_allowed as is_allowed_value, check_value, is_whole, from_offset}
use Rattle.cip_application.specs.Values.{written_value}
use Rattle.cip_bytes.specs.declared.protocol.TheConstants.{IDENTITY, ASSEMBLY, CONNECTION_MANAGER, COUNTER}
use Rattle.cip_bytes.specs.Numbers.{le}
use Rattle.cip_message.specs.declared.path.Path.{Path}
use Rattle.cip_objects.specs.declared.status.Refusal.{Refusal}
use Rattle.cip_objects.specs.ChangeServices.{Change, is_allowed_limit, set_attribute_single, set_member, add, clear}
use Rattle.cip_objects.specs.Contents.{Contents, value_at, bytes_at, udint_at, with_value, with_change}
use Rattle.cip_objects.specs.Execution.{Outcome, outcome_of_read, outcome_of_change, outcome_of_list, perform, outcome, exec}
use Rattle.cip_objects.specs.Kept.{kept_kind, kept_data_kind, kept_number_kind, kept_object_kind, kind_if_kept, is_kept}
use Rattle.cip_objects.specs.Members.{AreWhole}
use Rattle.cip_objects.specs.ReadServices.{Answer, service_at, get_attributes_all, get_attribute_list}
use Rattle.cip_objects.specs.ReadServices.{get_attribute_single, get_member}
use Rattle.cip_objects.specs.Service.{service_code, service_in}
use Rattle.cip_objects.specs.Tables.{Shape, Shapes, AttributeShape, ObjectShape, settable_kind, kind_if_settable, kind_in}
use Rattle.cip_objects.specs.Tables.{kind_of_settable, is_counter_class, shape_at, object_at, attribute_at}
use Rattle.cip_objects.specs.Tables.{services_of, object_services, services_of_object, object_list_services}
use Rattle.cip_objects.specs.Tables.{services_of_assembly, assembly_list_services}
use Rattle.cip_objects.specs.SetLists.{set_attribute_list, set_all}
use Rattle.cip_objects.proofs.Effects.{goes, bound, found_some, read_effect, change_effect, set_effect, add_effect, clear_effect, Sets}
use Rattle.cip_objects.proofs.ReadAfterSet.{value_at-with_value}
use Rattle.cip_objects.proofs.ListSets.{list_effect, all_keep, at}
use Rattle.cip_objects.proofs.Refuses.{exec_left}
use Rattle.cip_objects.proofs.Unsettable.{splices}
use Rattle.cip_objects.proofs.Whole.{stays_whole}
use Rattle.cip_objects.specs.Check.{demand, check_size}
use Rattle.cip_objects.specs.declared.status.Refusal.TheVariants.{InvalidAttributeValue as Refused}
use Rattle.cip_objects.specs.ChangeServices.{with_bytes_at}
use Rattle.cip_objects.specs.DeviceWrites.{device_write, object_write, with_data_of, with_attribute_by}
use Rattle.cip_objects.specs.Kept.{kind_of_data, with_kept, restored as value_restored}
use Rattle.cip_objects.specs.OwnRequests.{Asked, own_object, own_request, checked_attribute, check_set, if_checked}
use Rattle.cip_objects.specs.PacketLaws.{exec_routed_keeps}
use Rattle.cip_objects.specs.OwnRequests.{stored_in, with_stored}
use Rattle.cip_message.specs.Router.{REPLY_TOO_LARGE}
use Rattle.cip_objects.proofs.Approved.{stored_shapes, whole_stays}
use Rattle.cip_objects.proofs.Effects.{after_check, demanded}
use Rattle.cip_objects.proofs.Settable.{exact_size}
use Rattle.cip_objects.proofs.Spans.{length-with_bytes_at}
use Rattle.cip_message.specs.declared.ledger_services.TheConstants.{LEDGER}
use Rattle.cip_ledger.specs.Device.{Device, owned_standing}
use Rattle.cip_ledger.specs.Ledger.{LedgerState}
use Rattle.cip_ledger.specs.Requests.{is_barred}
use Rattle.cip_ledger.specs.Services.{Replies, Executes, Queues, Frees}
use Rattle.cip_ledger.specs.Turn.{Fate, Passed, Served, fate, turn_by}
use Rattle.cip_application.specs.declared.config.ServiceKind.{ServiceKind}
use Rattle.cip_application.specs.declared.config.ServiceKind.TheVariants as kinds
use Rattle.cip_owner.specs.Owned.{OwnedState, exec_owned, by_owner, given, refused_with, answered, is_fit, of_kind, queued}
use Rattle.cip_owner.specs.Owned.{by_reset, reset_by}
use Rattle.cip_owner.specs.declared.reset.ResetType.{ResetType}
use Rattle.cip_owner.specs.declared.reset.ResetType.TheVariants.{PowerCycle, FirstValues}
use Rattle.cip_owner.specs.Reset.{ResetState, reset_data, reset_type, with_first_value, with_first_values}
use Rattle.cip_owner.specs.Reset.{objects_after_reset}
use Rattle.cip_owner.specs.Owned.{after_reply, stored_at, answer_with, NOT_PREPARED, RESOURCE_UNAVAILABLE}
use Rattle.cip_owner.specs.Queue.{QueueState, takes, pushed}
use Rattle.cip_owner.specs.Replies.{Reply}
use Rattle.device_state.specs.Keys.{name_in}
use Rattle.device_state.specs.Restored.{Done, to_ledger, if_value, value_done, by_name}
use Rattle.device_state.specs.Saved.{State, state_of}
use Rattle.enip_adapter.specs.Calls.{AdapterState, Call}
use Rattle.enip_adapter.specs.DeviceRuns.{DeviceStep, Requested, WrittenBy, device_after, device_after_step}
use Rattle.enip_adapter.specs.DeviceRuns.{steps_of_calls, objects_after, objects_answer}
use Rattle.enip_adapter.specs.OwnWrites.{OwnWrite, WritesData, WritesAttribute, SetsStatus, SetsState, Prepares, Settles}
use Rattle.enip_adapter.specs.OwnWrites.{Finishes, Marks, Withdraws}
use Rattle.enip_adapter.specs.OwnWrites.{attribute_write, device_written}
use Rattle.enip_adapter.specs.Runs.{after_calls}
use Rattle.enip_adapter.proofs.DeviceLemmas.{calls-end}
use Rattle.enip_keep.specs.Kept.{Kept}
use Rattle.kept_adapter.specs.declared.progress.Progress.{Progress}
use Rattle.kept_adapter.specs.Keys.{device_key}
use Rattle.kept_adapter.specs.Restarts.{HasValues}
use Rattle.kept_adapter.specs.SameKeys.{executed_shapes, found-objects}
use Rattle.kept_adapter.specs.Started.{is_free_slot, by_device_key, put_back, put_all_back}

-- ---- one value is set

-- The bytes are a value of the kind under this name, if there is one.
abbrev Fits : Shapes → ℕ → ℕ → ℕ → List ℕ → Type 0
Fits shapes class instance attribute bytes =
    IfSome (kept_kind shapes class instance attribute) (λ kind. is_whole kind bytes ≡ true)

-- Each value but those of Identity and of assemblies is one that it can have.
abbrev pub HasOthers : Contents → Type 0
HasOthers m = (class instance attribute : ℕ) → class ≢ IDENTITY → class ≢ ASSEMBLY
    → Fits m.shapes class instance attribute (bytes_at m class instance attribute)

module _ (m : Contents) (c i a : ℕ) (v : List ℕ) (fits : c ≢ IDENTITY → c ≢ ASSEMBLY → Fits m.shapes c i a v)
    (have : HasOthers m) where
  at_key : (d j b : ℕ) → d ≢ IDENTITY → d ≢ ASSEMBLY → d ≡ c → j ≡ i → b ≡ a → Fits m.shapes d j b v
  at_key d j b apart other dc ji ba =
      subst (λ x. Fits m.shapes x j b v) (sym dc)
      (subst (λ x. Fits m.shapes c x b v) (sym ji)
      (subst (λ x. Fits m.shapes c i x v) (sym ba)
      (fits (λ e. apart (dc ∙ e)) (λ e. other (dc ∙ e)))))

  read_as : (d j b : ℕ) (t : Bool) → (eqb d c && (eqb j i && eqb b a)) ≡ t
      → bytes_at (with_value m c i a v) d j b ≡ unwrap_or (cond t (Some v) (value_at m d j b)) []
  read_as d j b t e =
      ap (λ o. unwrap_or o []) (value_at-with_value m c i a v d j b
      ∙ ap (λ x. cond x (Some v) (value_at m d j b)) e)

  by_key : (d j b : ℕ) → d ≢ IDENTITY → d ≢ ASSEMBLY → (t : Bool) → (eqb d c && (eqb j i && eqb b a)) ≡ t
      → Fits m.shapes d j b (bytes_at (with_value m c i a v) d j b)
  by_key d j b apart other true e =
      let first = and_parts (eqb d c) (eqb j i && eqb b a) e in
      let more = and_parts (eqb j i) (eqb b a) first.1 in
      subst (Fits m.shapes d j b) (sym (read_as d j b true e))
      (at_key d j b apart other (eqb-true d c first.0) (eqb-true j i more.0) (eqb-true b a more.1))
  by_key d j b apart other false e =
      subst (Fits m.shapes d j b) (sym (read_as d j b false e)) (have d j b apart other)

  pub value_set : (n : Contents) → n ≡ with_value m c i a v → HasOthers n
  value_set n is =
      subst HasOthers (sym is)
      (λ d j b apart other. by_key d j b apart other (eqb d c && (eqb j i && eqb b a)) refl)

  pub value_changed : (n : Contents) → n ≡ with_change m c i a v → HasOthers n
  value_changed n is =
      subst HasOthers (sym is)
      (λ d j b apart other. by_key d j b apart other (eqb d c && (eqb j i && eqb b a)) refl)

same_others : (m n : Contents) → n ≡ m → HasOthers m → HasOthers n
same_others m n is have = subst HasOthers (sym is) have

-- ---- what a set can set

some_is : {A : Type 0} (x y : A) → ◌≡◌ {A = Option A} (Some x) (Some y) → x ≡ y
some_is x y e = cc

if_some : {A : Type 0} (o : Option A) (x : A) (P : A → Type 0) → o ≡ Some x → P x → IfSome o P
if_some o x P is p = subst (λ o. IfSome o P) (sym is) p

kind_of_object : (class : ℕ) (o : Option ObjectShape) (attribute : ℕ) (kind : AttributeKind) → kind_in attribute o ≡ Some kind
    → kind_if_kept class (option_and_then (λ o. attribute_at attribute o.attributes) o) ≡ Some kind
kind_of_object class None attribute kind e = absurd (cc)
kind_of_object class (Some o) attribute kind e = by_attribute (attribute_at attribute o.attributes) e
  where
    by_test : (own s asked : Bool) (k : AttributeKind) → (if s && asked then Some k else None) ≡ Some kind
        → (if own || s then Some k else None) ≡ Some kind
    by_test own false asked k e = absurd (cc)
    by_test own true false k e = absurd (cc)
    by_test true true true k e = e
    by_test false true true k e = e

    by_attribute : (a : Option AttributeShape) → kind_of_settable a ≡ Some kind → kind_if_kept class a ≡ Some kind
    by_attribute None e = absurd (cc)
    by_attribute (Some a) e = by_test (not (is_standard_class class)) a.settable (not a.checked) a.kind e

number_kind : (instance attribute : ℕ) (kind : AttributeKind)
    → (if (instance == 1) && (attribute == 2) then Some (Fixed 4 None) else None) ≡ Some kind
    → kept_number_kind instance attribute ≡ Some kind
number_kind instance attribute kind e = by (instance == 1) (attribute == 1) (attribute == 2) (attribute == 3) e
  where
    by : (n x y z : Bool) → (if n && y then Some (Fixed 4 None) else None) ≡ Some kind
        → (if n && (x || y || z) then Some (Fixed 4 None) else None) ≡ Some kind
    by true true true z e = e
    by true false true z e = e
    by true x false z e = absurd (cc)
    by false x y z e = absurd (cc)

-- what can be set has this kind
settable_is_kept : (shapes : Shapes) (c i a : ℕ) (kind : AttributeKind) → c ≢ ASSEMBLY
    → settable_kind shapes c i a ≡ Some kind → kept_kind shapes c i a ≡ Some kind
unfolding settable_kind
settable_is_kept shapes c i a kind other e =
    by (c == IDENTITY) (c == ASSEMBLY) (c == CONNECTION_MANAGER) (is_counter_class shapes c) refl e
  where
    by : (t u v w : Bool) → (c == ASSEMBLY) ≡ u
        → (if t then None else (if u then
        (if a == 3 then kind_if_settable (shape_at i shapes.assemblies) else None)
        else (if v then None else (if w then
        (if (i == 1) && (a == 2) then Some (Fixed 4 None) else None)
        else kind_in a (object_at c i shapes.objects))))) ≡ Some kind
        → (if u then kept_data_kind shapes i a
        else (if w then kept_number_kind i a else kept_object_kind shapes c i a)) ≡ Some kind
    by true u v w at e = absurd (cc)
    by false true v w at e = absurd (other (eqb-true c ASSEMBLY at))
    by false false true w at e = absurd (cc)
    by false false false true at e = number_kind i a kind e
    by false false false false at e = kind_of_object c (object_at c i shapes.objects) a kind e

-- the numbers of the counter have four bytes
counter_kind : (shapes : Shapes) (c i a : ℕ) (kind : AttributeKind) → is_counter_class shapes c ≡ true
    → settable_kind shapes c i a ≡ Some kind → kind ≡ Fixed 4 None
unfolding settable_kind
counter_kind shapes c i a kind is e =
    let both = and_parts (c == COUNTER) shapes.has_counter is in
    let there : c ≡ 100 = eqb-true c COUNTER both.0 in
    by (shapes.has_counter) ((i == 1) && (a == 2)) both.1
    (subst (λ x. settable_kind shapes x i a ≡ Some kind) there e)
  where
    by : (w t : Bool) → w ≡ true
        → (if w then (if t then Some (Fixed 4 None) else None) else kind_in a (object_at 100 i shapes.objects))
        ≡ Some kind → kind ≡ Fixed 4 None
    by true true is e = sym (some_is (Fixed 4 None) kind e)
    by true false is e = absurd (cc)
    by false t is e = absurd (cc)

-- ---- values that pass their checks

sized : (size : ℕ) (content : List ℕ) → length content ≡ size → check_size_of_value size content ≡ Ok tt
sized size content is = grind (arith, nat_tests)

text_whole : (room : ℕ) (content : List ℕ) → length content ≡ size_for (ShortString room) content
    → is_allowed_value (ShortString room) content ≡ true → is_whole (ShortString room) content ≡ true
text_whole room content size allowed =
    ap (λ r. is_ok (r >> demand_of_value (is_allowed_value (ShortString room) content) InvalidAttributeValue))
    (sized (size_for (ShortString room) content) content size)
    ∙ ap (λ t. is_ok (demand_of_value t InvalidAttributeValue)) allowed

value_whole : (kind : AttributeKind) (content : List ℕ) → length content ≡ size_for kind content
    → is_allowed_value kind content ≡ true → is_whole kind content ≡ true
value_whole (Fixed size range) content is allowed = eq-eqb (length content) size is
value_whole (ShortString room) content is allowed = text_whole room content is allowed

set_others : (m : Contents) (path : Path) (content : List ℕ) (c : Change) (n : Contents) → HasOthers m → n ≡ c.after
    → Sets m path content c → HasOthers n
set_others m path content c n have is x =
    value_changed m path.class path.instance x.attribute content
    (λ apart other. if_some (kept_kind m.shapes path.class path.instance x.attribute) x.kind
    (λ kind. is_whole kind content ≡ true)
    (settable_is_kept m.shapes path.class path.instance x.attribute x.kind other x.can)
    (whole (is_counter_class m.shapes path.class) refl x.allowed)) have n (is ∙ x.leaves)
  where
    whole : (t : Bool) → is_counter_class m.shapes path.class ≡ t
        → (if t then is_allowed_limit m content else is_allowed_value x.kind content) ≡ true
        → is_whole x.kind content ≡ true
    whole true is allowed =
        let kind : x.kind ≡ Fixed 4 None
        = counter_kind m.shapes path.class path.instance x.attribute x.kind is x.can in
        subst (λ k. is_whole k content ≡ true) (sym kind)
        (eq-eqb (length content) 4 (x.fits ∙ ap (λ k. size_for k content) kind))
    whole false is allowed = value_whole x.kind content x.fits allowed

-- ---- the services

counter_fits : (shapes : Shapes) (attribute : ℕ) (v : List ℕ) → shapes.has_counter ≡ true
    → kept_number_kind 1 attribute ≡ Some (Fixed 4 None) → length v ≡ 4 → Fits shapes COUNTER 1 attribute v
counter_fits shapes attribute v has kind size =
    if_some (kept_kind shapes COUNTER 1 attribute) (Fixed 4 None) (λ kind. is_whole kind v ≡ true)
    (ap (λ t. if t then kept_number_kind 1 attribute else kept_object_kind shapes COUNTER 1 attribute) has ∙ kind)
    (eq-eqb (length v) 4 size)

abbrev ServiceOf : {S : Type 0} → (Contents → S → Path → List ℕ → Result Outcome Refusal) → Type 0
ServiceOf {S} how = S

abbrev AnyService : Type 0
AnyService = ServiceOf perform

-- A service keeps the values of objects with these tables.
abbrev Keeps : Shapes → AnyService → Type 0
Keeps shapes s =
    (m : Contents) (path : Path) (content : List ℕ) (o : Outcome) → m.shapes ≡ shapes → HasOthers m
    → perform m s path content ≡ Ok o → HasOthers o.after

abbrev KeepAll : Shapes → List AnyService → Type 0
KeepAll shapes services = AllByRecursion (Keeps shapes) services

read_keeps : {shapes : Shapes} (read : Contents → Path → List ℕ → Result Answer Refusal) (m : Contents) (path : Path)
    (content : List ℕ) (o : Outcome) → m.shapes ≡ shapes → HasOthers m
    → outcome_of_read m (read m path content) ≡ Ok o → HasOthers o.after
read_keeps read m path content o same have e = same_others m o.after (read_effect m (read m path content) o e) have

set_keeps : {shapes : Shapes} (m : Contents) (path : Path) (content : List ℕ) (o : Outcome) → m.shapes ≡ shapes
    → HasOthers m → outcome_of_change (set_attribute_single m path content) ≡ Ok o → HasOthers o.after
set_keeps m path content o same have e =
    let c = change_effect (set_attribute_single m path content) o e in
    set_others m path content c.change o.after have c.after (set_effect m path content c.change c.first)

list_keeps : {shapes : Shapes} (m : Contents) (path : Path) (content : List ℕ) (o : Outcome) → m.shapes ≡ shapes
    → HasOthers m → outcome_of_list (set_attribute_list m path content) ≡ Ok o → HasOthers o.after
list_keeps m path content o same have e =
    let x = list_effect m path content o e in
    same_others (set_all m path x.settings).after o.after x.after
    (all_keep HasOthers path m x.settings
    (λ n attribute value c set kept. set_others n (at path attribute) value c c.after kept refl set) have)

member_keeps : {shapes : Shapes} (m : Contents) (path : Path) (content : List ℕ) (o : Outcome) → m.shapes ≡ shapes
    → HasOthers m → outcome_of_change (set_member m path content) ≡ Ok o → HasOthers o.after
member_keeps m path content o same have e =
    let c = change_effect (set_member m path content) o e in
    let x = splices m path content c.change c.first in
    value_changed m ASSEMBLY path.instance 3 _ (λ apart other. absurd (other refl)) have o.after (c.after ∙ x.leaves)

add_keeps : {shapes : Shapes} → shapes.has_counter ≡ true → (m : Contents) (path : Path) (content : List ℕ)
    (o : Outcome) → m.shapes ≡ shapes → HasOthers m → outcome_of_change (add m content) ≡ Ok o → HasOthers o.after
add_keeps {shapes} counter m path content o same have e =
    let c = change_effect (add m content) o e in
    let x = add_effect m content c.change c.first in
    let has : m.shapes.has_counter ≡ true = ap (λ (x : Shapes). x.has_counter) same ∙ counter in
    let total : ℕ = udint_at m COUNTER 1 1 + little_number 4 content in
    let first : Contents = with_value m COUNTER 1 1 (le 4 total) in
    value_set first COUNTER 1 3 _ (λ apart other. counter_fits m.shapes 3 _ has refl refl)
    (value_set m COUNTER 1 1 (le 4 total) (λ apart other. counter_fits m.shapes 1 (le 4 total) has refl refl) have
    first refl) o.after (c.after ∙ x.leaves)

clear_keeps : {shapes : Shapes} → shapes.has_counter ≡ true → (m : Contents) (path : Path) (content : List ℕ)
    (o : Outcome) → m.shapes ≡ shapes → HasOthers m → outcome_of_change (clear m content) ≡ Ok o → HasOthers o.after
clear_keeps {shapes} counter m path content o same have e =
    let c = change_effect (clear m content) o e in
    let x = clear_effect m content c.change c.first in
    let has : m.shapes.has_counter ≡ true = ap (λ (x : Shapes). x.has_counter) same ∙ counter in
    value_set m COUNTER 1 1 (le 4 0) (λ apart other. counter_fits m.shapes 1 (le 4 0) has refl refl) have o.after
    (c.after ∙ x.leaves)

-- So do all of these services, if there are any.
record AllKeep (shapes : Shapes) (services : Option (List AnyService)) : Type 0 where
  all : IfSome services (KeepAll shapes)

either : {shapes : Shapes} {x y : Option (List AnyService)} (t : Bool) → (t ≡ true → AllKeep shapes x) → AllKeep shapes y
    → AllKeep shapes (if t then x else y)
either true h k = h refl
either false h k = k

each : {shapes : Shapes} {A : Type 0} (services : A → List AnyService) (o : Option A)
    → ((x : A) → KeepAll shapes (services x)) → AllKeep shapes (option_map services o)
each services None h = record { all = tt }
each services (Some x) h = record { all = h x }

-- those that an object may have
if_there : (shapes : Shapes) (there : Bool) (services : List AnyService) → KeepAll shapes services
    → KeepAll shapes (if there then services else [])
if_there shapes true services h = h
if_there shapes false services h = tt

abbrev not_there : Option (List AnyService)
not_there = None

abbrev without_services : Option (List AnyService)
without_services = Some []

-- Each service that an object offers keeps the values.
offered_keep : (shapes : Shapes) (class instance : ℕ) → AllKeep shapes (services_of shapes class instance)
unfolding services_of
offered_keep shapes class instance =
    let whole = read_keeps {shapes = shapes} get_attributes_all in
    let list = read_keeps {shapes = shapes} get_attribute_list in
    let single = read_keeps {shapes = shapes} get_attribute_single in
    let member = read_keeps {shapes = shapes} get_member in
    let set = set_keeps {shapes = shapes} in
    let splice = member_keeps {shapes = shapes} in
    let sets = list_keeps {shapes = shapes} in
    let none : AllKeep shapes not_there = record { all = tt } in
    let empty : AllKeep shapes without_services = record { all = tt } in
    let of_class : AllKeep shapes (Some (take 1 (drop 2 object_services))) = record { all = (single, tt) } in
    let of_identity : AllKeep shapes (Some (take 3 object_services)) = record { all = (whole, (list, (single, tt))) } in
    let counted : is_counter_class shapes class ≡ true
    → AllKeep shapes (services_of (record { assemblies = []; has_counter = true; objects = [] }) COUNTER 1)
    = λ is. let has : shapes.has_counter ≡ true = (and_parts (class == COUNTER) shapes.has_counter is).1 in
    record { all = (add_keeps {shapes = shapes} has, (clear_keeps {shapes = shapes} has, (list, (single, (set, tt))))) } in
    either (class == IDENTITY)
    (λ is. either (instance == 0) (λ is. of_class) (either (instance == 1) (λ is. of_identity) none))
    (either (class == ASSEMBLY)
    (λ is. either (instance == 0) (λ is. of_class)
    (each services_of_assembly (shape_at instance shapes.assemblies)
    (λ s. (
      list,
      (
        single,
        (
          set,
          (
            member,
            (
              splice,
              if_there shapes s.lists assembly_list_services (sets, (whole, tt)),
            ),
          ),
        ),
      ),
    ))))
    (either (class == CONNECTION_MANAGER) (λ is. either (instance == 1) (λ is. empty) none)
    (either (is_counter_class shapes class)
    (λ is. either (instance == 0) (λ zero. of_class) (either (instance == 1) (λ one. counted is) none))
    (either (instance == 0) (λ is. either (list_any (λ o. o.class == class) shapes.objects) (λ is. of_class) none)
    (each services_of_object (object_at class instance shapes.objects)
    (λ s. (whole, (list, (single, (set, if_there shapes s.lists object_list_services (sets, tt)))))))))))

picked : {A : Type 0} (P : A → Type 0) (t : Bool) (x s : A) (rest : Option A) → P x → (rest ≡ Some s → P s)
    → (if t then Some x else rest) ≡ Some s → P s
picked P true x s rest h later e = subst P (some_is x s e) h
picked P false x s rest h later e = later e

found_keeps : (shapes : Shapes) (code : ℕ) (services : List AnyService) (s : AnyService) → KeepAll shapes services
    → service_in code services ≡ Some s → Keeps shapes s
found_keeps shapes code [] s all e = absurd (cc)
found_keeps shapes code (x ∷ services) s all e =
    picked (Keeps shapes) (service_code x == code) x s (service_in code services) all.0
    (found_keeps shapes code services s all.1) e

chosen_keeps : (shapes : Shapes) (class instance code : ℕ) (s : AnyService)
    → service_at shapes class instance code ≡ Ok s → Keeps shapes s
unfolding service_at
chosen_keeps shapes class instance code s e =
    let offered = bound (ok_or (services_of shapes class instance) _) _ s e in
    found_keeps shapes code offered.value s
    (subst (λ o. IfSome o (KeepAll shapes)) (found_some (services_of shapes class instance) _ offered.value offered.first)
    (offered_keep shapes class instance).all)
    (found_some (service_in code offered.value) _ s offered.rest)

left_others : (m n : Contents) (text : List ℕ) → HasOthers m
    → (n ≡ m) ⊎ ((o : Outcome) × (outcome m text ≡ Ok o) × (n ≡ o.after)) → HasOthers n
left_others m n text have (inl same) = same_others m n same have
left_others m n text have (inr x) =
    let g = goes m text x.0 x.1 in
    same_others x.0.after n x.2
    (chosen_keeps m.shapes g.path.class g.path.instance g.request.service g.service g.is_chosen m g.path g.request.data
    x.0 refl have g.is_performed)

executed_values : (m : Contents) (max_size : ℕ) (text : List ℕ) → HasValues m → HasValues (exec m max_size text).after
executed_values m max_size text have = record {
  data_whole = stays_whole m ((max_size, text) ∷ []) have.data_whole;
  others = left_others m (exec m max_size text).after text have.others (exec_left m max_size text);
  counter_apart = λ has instance. ap (λ (x : Shapes). object_at COUNTER instance x.objects) (executed_shapes m max_size text)
      ∙ have.counter_apart (sym (ap (λ (x : Shapes). x.has_counter) (executed_shapes m max_size text)) ∙ has) instance;
}

-- ---- what the owner approved

or_last : (x y : Bool) → (x || y) ≡ false → y ≡ false
or_last true y e = absurd (cc)
or_last false y e = e

or_first : (x y : Bool) → (x || y) ≡ false → x ≡ false
or_first true y e = absurd (cc)
or_first false y e = refl

and_turned : (x y : Bool) → (x && y) ≡ false → (y && x) ≡ false
and_turned true true e = absurd (cc)
and_turned true false e = refl
and_turned false true e = refl
and_turned false false e = refl

not_counter : (shapes : Shapes) (class : ℕ) → is_taken_class shapes.has_counter class ≡ false
    → is_counter_class shapes class ≡ false
not_counter shapes class free =
    and_turned shapes.has_counter (class == COUNTER) (or_last _ (shapes.has_counter && (class == COUNTER)) free)

-- the kind of a value of an application object
object_kind : (shapes : Shapes) (class instance attribute : ℕ) → class ≢ ASSEMBLY
    → is_counter_class shapes class ≡ false
    → kept_kind shapes class instance attribute ≡ kept_object_kind shapes class instance attribute
object_kind shapes class instance attribute other free =
    ap (λ t. if t then kept_data_kind shapes instance attribute
    else (if is_counter_class shapes class then kept_number_kind instance attribute
    else kept_object_kind shapes class instance attribute)) (ne_eqb class ASSEMBLY other)
    ∙ ap (λ t. if t then kept_number_kind instance attribute else kept_object_kind shapes class instance attribute) free

if_checked_kind : (class : ℕ) (o : Option AttributeShape) (a : AttributeShape) → if_checked o ≡ Some a
    → kind_if_kept class o ≡ Some a.kind
if_checked_kind class None a e = absurd (cc)
if_checked_kind class (Some b) a e = by (not (is_standard_class class)) b.settable b.checked e
  where
    by : (own s asked : Bool) → (if s && asked then Some b else None) ≡ Some a
        → (if own || s then Some b.kind else None) ≡ Some a.kind
    by own false asked e = absurd (cc)
    by own true false e = absurd (cc)
    by true true true e = ap (λ (x : AttributeShape). Some x.kind) (some_is b a e)
    by false true true e = ap (λ (x : AttributeShape). Some x.kind) (some_is b a e)

checked_kind : (m : Contents) (class instance attribute : ℕ) (a : AttributeShape) → class ≢ ASSEMBLY
    → checked_attribute m class instance attribute ≡ Some a
    → kept_kind m.shapes class instance attribute ≡ Some a.kind
unfolding checked_attribute
checked_kind m class instance attribute a other e =
    by_value (is_some (value_at m class instance attribute)) e
  where
    at : ObjectShape → Option AttributeShape
    at o = attribute_at attribute o.attributes

    by_object : (t : Bool) → (is_taken_class m.shapes.has_counter class || (instance == 0)) ≡ t
        → if_checked (option_and_then (λ o. attribute_at attribute o.attributes) (if t then None else object_at class instance m.shapes.objects)) ≡ Some a
        → kept_kind m.shapes class instance attribute ≡ Some a.kind
    by_object true is e = absurd (cc)
    by_object false is e =
        object_kind m.shapes class instance attribute other
        (not_counter m.shapes class (or_first (is_taken_class m.shapes.has_counter class) (instance == 0) is))
        ∙ if_checked_kind class (option_and_then (λ o. attribute_at attribute o.attributes) (object_at class instance m.shapes.objects)) a e

    by_value : (t : Bool) → (if t then
        if_checked (option_and_then (λ o. attribute_at attribute o.attributes) (own_object m.shapes class instance))
        else None) ≡ Some a → kept_kind m.shapes class instance attribute ≡ Some a.kind
    by_value true e = by_object (is_taken_class m.shapes.has_counter class || (instance == 0)) refl e
    by_value false e = absurd (cc)

passes : (r : Result (Unit {0}) Refusal) → is_ok r ≡ true → r ≡ Ok tt
passes (Ok x) e = refl
passes (Err s) e = absurd (cc)

le_of : (a b : ℕ) → nat_le a b ≡ true → a ≤ b
le_of a b e = grind (arith, nat_tests)

no_attribute : (a : AttributeShape) → ◌≡◌ {A = Option AttributeShape} None (Some a) → ⊥
no_attribute a e = absurd (cc)

set_whole : (kind : AttributeKind) (content : List ℕ) → is_ok (check_set kind content) ≡ true
    → is_whole kind content ≡ true
set_whole kind content ok =
    let both = after_check (check_size (size_for kind content) content)
    (demand (is_allowed_value kind content) Refused) tt (passes (check_set kind content) ok) in
    value_whole kind content (exact_size (size_for kind content) content both.0)
    (demanded (is_allowed_value kind content) Refused both.1)

stored_others : (m : Contents) (class instance attribute : ℕ) (content : List ℕ) → HasOthers m
    → HasOthers (with_stored m class instance attribute content)
unfolding with_stored
stored_others m class instance attribute content have =
    by (checked_attribute m class instance attribute) refl
  where
    by_test : (a : AttributeShape) → checked_attribute m class instance attribute ≡ Some a → (t : Bool)
        → is_ok (check_set a.kind content) ≡ t
        → HasOthers (if t then with_change m class instance attribute content else m)
    by_test a e true ok =
        value_changed m class instance attribute content
        (λ apart other. if_some (kept_kind m.shapes class instance attribute) a.kind
        (λ kind. is_whole kind content ≡ true) (checked_kind m class instance attribute a other e)
        (set_whole a.kind content ok)) have (with_change m class instance attribute content) refl
    by_test a e false ok = have

    by : (a : Option AttributeShape) → checked_attribute m class instance attribute ≡ a
        → HasOthers (stored_in m class instance attribute content a)
    by None e = have
    by (Some a) e = by_test a e (is_ok (check_set a.kind content)) refl

stored_values : (m : Contents) (class instance attribute : ℕ) (content : List ℕ) → HasValues m
    → HasValues (with_stored m class instance attribute content)
stored_values m class instance attribute content have = record {
  data_whole = whole_stays m class instance attribute content have.data_whole;
  others = stored_others m class instance attribute content have.others;
  counter_apart = λ has number.
      ap (λ (x : Shapes). object_at COUNTER number x.objects) (stored_shapes m class instance attribute content)
      ∙ have.counter_apart
      (sym (ap (λ (x : Shapes). x.has_counter) (stored_shapes m class instance attribute content)) ∙ has) number;
}

stored_at_values : (m : Contents) (asked : Asked) (attribute : Option ℕ) → HasValues m
    → HasValues (stored_at m asked attribute)
stored_at_values m asked None have = have
stored_at_values m asked (Some attribute) have =
    stored_values m asked.class asked.instance attribute asked.content have

reply_values : (m : Contents) (asked : Asked) (status : ℕ) → HasValues m → HasValues (after_reply m asked status)
reply_values m asked status have =
    elim ((asked.service == 0x10) && (status == 0))
    as (λ t. HasValues (if t then stored_at m asked asked.attribute else m)) [
      | true ↦ stored_at_values m asked asked.attribute have
      | false ↦ have
    ]

given_values : (w : OwnedState) (service : ℕ) (asked : Asked) (reply : Option Reply) → HasValues w.objects
    → HasValues (given w service asked reply).after.objects
given_values w service asked None have = have
given_values w service asked (Some reply) have =
    elim (is_fit asked reply) as (λ t. HasValues (if t then
    answered (record w { objects = after_reply w.objects asked reply.status; prepared = None })
    (answer_with service reply.status reply.content)
    else refused_with (record w { prepared = None }) service NOT_PREPARED).after.objects) [
      | true ↦ reply_values w.objects asked reply.status have
      | false ↦ have
    ]

owner_values : (w : OwnedState) (max_size : ℕ) (text : List ℕ) (own : Option (Result Asked Refusal))
    → HasValues w.objects → HasValues (by_owner w max_size text own).after.objects
owner_values w max_size text None have = exec_routed_keeps {P = HasValues} executed_values w.objects max_size text have
owner_values w max_size text (Some (Err refusal)) have = have
owner_values w max_size text (Some (Ok asked)) have = by_kind asked.kind (slice_index text 0)
  where
    by_size : (t : Bool) (service : ℕ) → HasValues (if t then refused_with w service REPLY_TOO_LARGE
        else given w service asked w.prepared).after.objects
    by_size true service = have
    by_size false service = given_values w service asked w.prepared have

    by_queue : (queue : Option QueueState) (service : ℕ) → HasValues (queued w service asked queue).after.objects
    by_queue None service = have
    by_queue (Some q) service =
        elim (takes q asked) as (λ t. HasValues (if t then
        answered (record w { queue = Some (pushed q asked) }) (answer_with service 0 (le 4 q.next))
        else refused_with w service RESOURCE_UNAVAILABLE).after.objects) [
          | true ↦ have
          | false ↦ have
        ]

    by_kind : (kind : ServiceKind) (service : ℕ) → HasValues (of_kind kind w max_size service asked).after.objects
    by_kind kinds.Asked service = by_size (nat_lt max_size (4 + asked.reply_limit)) service
    by_kind kinds.Queued service = by_queue w.queue service
    by_kind kinds.Result service = have

-- ---- a value that is put back

-- the data of assemblies keep their size if a value is set that is none of them, or has that size
whole_set : (m : Contents) (c i a : ℕ) (v : List ℕ)
    → ((s : Shape) → c ≡ ASSEMBLY → a ≡ 3 → shape_at i m.shapes.assemblies ≡ Some s → length v ≡ sum s.members)
    → AreWhole m → AreWhole (with_value m c i a v)
whole_set m c i a v fits whole j s there = by (eqb ASSEMBLY c && (eqb j i && eqb 3 a)) refl
  where
    read : (t : Bool) → (eqb ASSEMBLY c && (eqb j i && eqb 3 a)) ≡ t
        → bytes_at (with_value m c i a v) ASSEMBLY j 3 ≡ unwrap_or (cond t (Some v) (value_at m ASSEMBLY j 3)) []
    read t e =
        ap (λ o. unwrap_or o []) (value_at-with_value m c i a v ASSEMBLY j 3
        ∙ ap (λ x. cond x (Some v) (value_at m ASSEMBLY j 3)) e)

    by : (t : Bool) → (eqb ASSEMBLY c && (eqb j i && eqb 3 a)) ≡ t
        → length (bytes_at (with_value m c i a v) ASSEMBLY j 3) ≡ sum s.members
    by true e =
        let first = and_parts (eqb ASSEMBLY c) (eqb j i && eqb 3 a) e in
        let more = and_parts (eqb j i) (eqb 3 a) first.1 in
        ap length (read true e)
        ∙ fits s (sym (eqb-true ASSEMBLY c first.0)) (sym (eqb-true 3 a more.1))
        (ap (λ n. shape_at n m.shapes.assemblies) (sym (eqb-true j i more.0)) ∙ there)
    by false e = ap length (read false e) ∙ whole j s there

kept_values : (m : Contents) (name : AttributeName) (content : List ℕ) (kind : Option AttributeKind)
    → kept_kind m.shapes name.class name.instance name.attribute ≡ kind → HasValues m
    → HasValues (if_value m name (with_kept m name.class name.instance name.attribute content kind)).after
kept_values m name content None is have = have
kept_values m name content (Some kind) is have = by (is_whole kind content) refl
  where
    data_kind : (s : Shape) → name.class ≡ ASSEMBLY → name.attribute ≡ 3
        → shape_at name.instance m.shapes.assemblies ≡ Some s → kind ≡ Fixed (sum s.members) None
    data_kind s four three there =
        some_is kind (Fixed (sum s.members) None)
        (sym is ∙ ap (λ c. kept_kind m.shapes c name.instance name.attribute) four
        ∙ ap (λ a. kept_kind m.shapes ASSEMBLY name.instance a) three ∙ ap kind_of_data there)

    by : (t : Bool) → is_whole kind content ≡ t → HasValues (if_value m name (if t then
        Some (with_value m name.class name.instance name.attribute content) else None)).after
    by true whole = record {
      data_whole = whole_set m name.class name.instance name.attribute content
          (λ s four three there. eqb-true (length content) (sum s.members)
          (subst (λ k. is_whole k content ≡ true) (data_kind s four three there) whole)) have.data_whole;
      others = value_set m name.class name.instance name.attribute content
          (λ apart other. if_some (kept_kind m.shapes name.class name.instance name.attribute) kind
          (λ kind. is_whole kind content ≡ true) is whole) have.others
          (with_value m name.class name.instance name.attribute content) refl;
      counter_apart = have.counter_apart;
    }
    by false whole = have

restored_values : (m : Contents) (name : AttributeName) (content : List ℕ) → HasValues m
    → HasValues (value_done m name content).after
unfolding value_restored
restored_values m name content have =
    kept_values m name content (kept_kind m.shapes name.class name.instance name.attribute) refl have

-- ---- a Reset

unwrapped_values : (m : Contents) (name : AttributeName) (o : Option Contents) → HasValues (if_value m name o).after
    → HasValues (unwrap_or o m)
unwrapped_values m name None have = have
unwrapped_values m name (Some n) have = have

first_value : (first : Contents) (name : AttributeName) (m : Contents) → HasValues m
    → HasValues (with_first_value first name m)
first_value first name m have =
    let content = bytes_at first name.class name.instance name.attribute in
    unwrapped_values m name (value_restored m name content) (restored_values m name content have)

first_values : (first : Contents) (names : List AttributeName) (m : Contents) → HasValues m
    → HasValues (with_first_values first names m)
first_values first [] m have = have
first_values first (name ∷ names) m have =
    first_values first names (with_first_value first name m) (first_value first name m have)

after_values : (type : ResetType) (r : ResetState) (m : Contents) → HasValues m → HasValues (objects_after_reset type r m)
after_values PowerCycle r m have = have
after_values FirstValues r m have = first_values r.first r.names m have

type_values : (w : OwnedState) (service : ℕ) (r : ResetState) (type : Option ResetType) → HasValues w.objects
    → HasValues (reset_by w service r type).after.objects
type_values w service r None have = have
type_values w service r (Some type) have = after_values type r w.objects have

reset_values : (w : OwnedState) (max_size : ℕ) (text : List ℕ) (reset : Option ResetState) (content : Option (List ℕ))
    → HasValues w.objects → HasValues (by_reset w max_size text reset content).after.objects
reset_values w max_size text None content have = owner_values w max_size text (own_request w.objects text) have
reset_values w max_size text (Some r) None have = owner_values w max_size text (own_request w.objects text) have
reset_values w max_size text (Some r) (Some content) have =
    type_values w (slice_index text 0) r (reset_type content) have

owned_values : (w : OwnedState) (max_size : ℕ) (text : List ℕ) → HasValues w.objects
    → HasValues (exec_owned w max_size text).after.objects
unfolding exec_owned
owned_values w max_size text have = reset_values w max_size text w.reset (reset_data text) have

-- ---- a turn of the ledger

turn_values : (f : Fate) (device : Device) (max_size : ℕ) (text : List ℕ) → HasValues device.router.objects
    → HasValues (turn_by objects_after objects_answer f device.ledger device.router max_size text).router.objects
turn_values Passed device max_size text have = owned_values device.router max_size text have
turn_values (Served service (Replies reply)) device max_size text have = have
turn_values (Served service (Executes command)) device max_size text have =
    elim (is_barred command.request) as (λ t. HasValues (if t then device.router
    else objects_after device.router 480 command.request).objects) [
      | true ↦ have
      | false ↦ owned_values device.router 480 command.request have
    ]
turn_values (Served service (Queues command ticket)) device max_size text have =
    elim (is_barred command.request) as (λ t. HasValues (if t then device.router
    else objects_after device.router 480 command.request).objects) [
      | true ↦ have
      | false ↦ owned_values device.router 480 command.request have
    ]
turn_values (Served service (Frees originator)) device max_size text have = have

-- ---- the device's own writes

data_values : (m : Contents) (instance offset : ℕ) (bytes : List ℕ) → HasValues m
    → HasValues (unwrap_or (device_write m instance offset bytes) m)
unfolding device_write
data_values m instance offset bytes have = by_shape (shape_at instance m.shapes.assemblies)
  where
    old : List ℕ
    old = bytes_at m ASSEMBLY instance 3

    by_fit : (t : Bool) → nat_le (offset + length bytes) (length old) ≡ t
        → HasValues (unwrap_or (if t then
        Some (with_value m ASSEMBLY instance 3 (with_bytes_at old offset bytes)) else None) m)
    by_fit true fits = record {
      data_whole = whole_set m ASSEMBLY instance 3 (with_bytes_at old offset bytes)
          (λ s four three there. length-with_bytes_at old bytes offset (le_of (offset + length bytes) (length old) fits)
          ∙ have.data_whole instance s there) have.data_whole;
      others = value_set m ASSEMBLY instance 3 (with_bytes_at old offset bytes) (λ apart other. absurd (other refl))
          have.others (with_value m ASSEMBLY instance 3 (with_bytes_at old offset bytes)) refl;
      counter_apart = have.counter_apart;
    }
    by_fit false fits = have

    by_shape : (s : Option Shape) → HasValues (unwrap_or (with_data_of m instance offset bytes s) m)
    by_shape None = have
    by_shape (Some s) = by_fit (nat_le (offset + length bytes) (length old)) refl

-- the bytes of a value that is written are one of its kind
written_whole : (kind : AttributeKind) (old new : List ℕ) (offset : ℕ) (bytes : List ℕ)
    → written_value kind old offset bytes ≡ Some new → is_whole kind old ≡ true → is_whole kind new ≡ true
written_whole (Fixed size range) old new offset bytes e whole =
    by (nat_le (offset + length bytes) (length old)) refl e
  where
    by : (t : Bool) → nat_le (offset + length bytes) (length old) ≡ t
        → (if t then Some (with_bytes_at old offset bytes) else None) ≡ Some new → (length new == size) ≡ true
    by true fits e =
        eq-eqb (length new) size
        (ap length (sym (some_is (with_bytes_at old offset bytes) new e))
        ∙ length-with_bytes_at old bytes offset (le_of (offset + length bytes) (length old) fits)
        ∙ eqb-true (length old) size whole)
    by false fits e = absurd (cc)
written_whole (ShortString room) old new offset bytes e whole =
    by ((offset == 0) && is_ok (check_value (ShortString room) bytes)) refl e
  where
    by : (t : Bool) → ((offset == 0) && is_ok (check_value (ShortString room) bytes)) ≡ t
        → (if t then Some bytes else None) ≡ Some new → is_ok (check_value (ShortString room) new) ≡ true
    by true ok e =
        ap (λ b. is_ok (check_value (ShortString room) b)) (sym (some_is bytes new e))
        ∙ (and_parts (offset == 0) (is_ok (check_value (ShortString room) bytes)) ok).1
    by false ok e = absurd (cc)

object_values : (m : Contents) (class instance attribute offset : ℕ) (bytes : List ℕ)
    → ((class == ASSEMBLY) && (attribute == 3)) ≡ false → HasValues m
    → HasValues (unwrap_or (object_write m class instance attribute offset bytes) m)
unfolding object_write
object_values m class instance attribute offset bytes no_data have =
    by_attribute (option_and_then (λ o. attribute_at attribute o.attributes) (object_at class instance m.shapes.objects)) refl
  where
    old : List ℕ
    old = bytes_at m class instance attribute

    not_data : class ≡ ASSEMBLY → attribute ≡ 3 → ⊥
    not_data four three = absurd (grind (arith, nat_tests))

    -- no application object has the counter's class
    free : (a : AttributeShape)
        → option_and_then (λ o. attribute_at attribute o.attributes) (object_at class instance m.shapes.objects) ≡ Some a
        → (t : Bool) → is_counter_class m.shapes class ≡ t → t ≡ false
    free a found false is = refl
    free a found true is =
        let both = and_parts (class == COUNTER) m.shapes.has_counter is in
        let none = have.counter_apart both.1 instance in
        let there = ap (λ n. object_at n instance m.shapes.objects) (eqb-true class COUNTER both.0) ∙ none in
        absurd (no_attribute a (sym (ap (option_and_then (λ o. attribute_at attribute o.attributes)) there) ∙ found))

    kind_is : (a : AttributeShape)
        → option_and_then (λ o. attribute_at attribute o.attributes) (object_at class instance m.shapes.objects) ≡ Some a
        → class ≢ ASSEMBLY → kept_kind m.shapes class instance attribute ≡ kind_if_kept class (Some a)
    kind_is a found other =
        object_kind m.shapes class instance attribute other (free a found (is_counter_class m.shapes class) refl)
        ∙ ap (kind_if_kept class) found

    -- a value that is not kept may have any bytes
    fits : (a : AttributeShape) (v : List ℕ) → written_value a.kind old offset bytes ≡ Some v → class ≢ IDENTITY → class ≢ ASSEMBLY
        → (t : Bool) → kept_kind m.shapes class instance attribute ≡ (if t then Some a.kind else None)
        → Fits m.shapes class instance attribute v
    fits a v e apart other true kind =
        if_some (kept_kind m.shapes class instance attribute) a.kind (λ kind. is_whole kind v ≡ true) kind
        (written_whole a.kind old v offset bytes e
        (subst (λ o. IfSome o (λ kind. is_whole kind old ≡ true)) kind (have.others class instance attribute apart other)))
    fits a v e apart other false kind = subst (λ o. IfSome o (λ kind. is_whole kind v ≡ true)) (sym kind) tt

    by_value : (a : AttributeShape)
        → option_and_then (λ o. attribute_at attribute o.attributes) (object_at class instance m.shapes.objects) ≡ Some a
        → (v : Option (List ℕ)) → written_value a.kind old offset bytes ≡ v
        → HasValues (unwrap_or (option_map (with_value m class instance attribute) v) m)
    by_value a found None e = have
    by_value a found (Some v) e = record {
      data_whole = whole_set m class instance attribute v
          (λ s four three there. absurd (not_data four three)) have.data_whole;
      others = value_set m class instance attribute v
          (λ apart other. fits a v e apart other (is_kept class a) (kind_is a found other))
          have.others (with_value m class instance attribute v) refl;
      counter_apart = have.counter_apart;
    }

    by_attribute : (a : Option AttributeShape)
        → option_and_then (λ o. attribute_at attribute o.attributes) (object_at class instance m.shapes.objects) ≡ a
        → HasValues (unwrap_or (with_attribute_by (from_offset offset bytes) m class instance attribute a) m)
    by_attribute None found = have
    by_attribute (Some a) found = by_value a found (written_value a.kind old offset bytes) refl

attribute_values : (m : Contents) (class instance attribute offset : ℕ) (bytes : List ℕ) → HasValues m
    → HasValues (unwrap_or (attribute_write m class instance attribute offset bytes) m)
attribute_values m class instance attribute offset bytes have =
    by ((class == ASSEMBLY) && (attribute == 3)) refl
  where
    by : (t : Bool) → ((class == ASSEMBLY) && (attribute == 3)) ≡ t
        → HasValues (unwrap_or (if t then device_write m instance offset bytes
        else object_write m class instance attribute offset bytes) m)
    by true is = data_values m instance offset bytes have
    by false is = object_values m class instance attribute offset bytes is have

identity_values : (m : Contents) (attribute : ℕ) (v : List ℕ) → HasValues m
    → HasValues (with_value m IDENTITY 1 attribute v)
identity_values m attribute v have = record {
  data_whole = whole_set m IDENTITY 1 attribute v (λ s four three there. absurd (cc)) have.data_whole;
  others = value_set m IDENTITY 1 attribute v (λ apart other. absurd (apart refl)) have.others
      (with_value m IDENTITY 1 attribute v) refl;
  counter_apart = have.counter_apart;
}

written_values : (write : OwnWrite) (device : Device) → HasValues device.router.objects
    → HasValues (device_written write device).router.objects
written_values (WritesData instance offset bytes) device have =
    data_values device.router.objects instance offset bytes have
written_values (WritesAttribute class instance attribute offset bytes) device have =
    attribute_values device.router.objects class instance attribute offset bytes have
written_values (SetsStatus status) device have = identity_values device.router.objects 5 (le 2 status) have
written_values (SetsState state) device have = identity_values device.router.objects 8 (state ∷ []) have
written_values (Prepares reply) device have = have
written_values (Settles originator number reply) device have = have
written_values (Finishes ticket reply) device have = have
written_values (Marks ticket) device have = have
written_values (Withdraws request) device have = subst HasValues (sym (found-objects request device)) have

-- ---- all steps

step_values : (device : Device) (step : DeviceStep) → HasValues device.router.objects
    → HasValues (device_after_step device step).router.objects
step_values device (Requested request) have =
    turn_values (fate owned_standing device.ledger device.router request.0 request.1) device request.0 request.1 have
step_values device (WrittenBy write) have = written_values write device have

steps_values : (device : Device) (steps : List DeviceStep) → HasValues device.router.objects
    → HasValues (device_after device steps).router.objects
steps_values device [] have = have
steps_values device (step ∷ steps) have =
    steps_values (device_after_step device step) steps (step_values device step have)

pub calls_values : (a : AdapterState) (calls : List Call) → HasValues a.state.shared.objects.router.objects
    → HasValues (after_calls a calls).state.shared.objects.router.objects
calls_values a calls have =
    subst (λ (d : Device). HasValues d.router.objects) (sym (calls-end a calls))
    (steps_values a.state.shared.objects (steps_of_calls a calls) have)

-- ---- a start

ledger_values : (m : Contents) (name : AttributeName) (content : List ℕ) (l : Option LedgerState) → HasValues m
    → HasValues (to_ledger m name content l).after.objects
ledger_values m name content None have = have
ledger_values m name content (Some l) have = have

values_if : (t : Bool) (a b : Done State) → HasValues a.after.objects → HasValues b.after.objects
    → HasValues (if t then a else b).after.objects
values_if true a b one other = one
values_if false a b one other = other

named_values : (s : State) (content : List ℕ) (name : Option AttributeName) → HasValues s.objects
    → HasValues (by_name s content name).after.objects
named_values s content None have = have
named_values s content (Some name) have =
    values_if (name.class == IDENTITY) _ _ have
    (values_if (name.class == LEDGER) _ _ (ledger_values s.objects name content s.ledger have)
    (restored_values s.objects name content have))

keyed_values : (s : State) (content : List ℕ) (key : Option ℕ) → HasValues s.objects
    → HasValues (by_device_key s content key).after.objects
keyed_values s content None have = have
keyed_values s content (Some key) have = named_values s content (name_in key) have

pub values_back : (p : Progress) (entries : Kept) → HasValues p.objects → HasValues (put_all_back p entries).objects
values_back p [] have = have
values_back p (entry ∷ entries) have =
    let s = state_of p.objects p.ledger in
    values_back (put_back p entry) entries
    (values_if (is_free_slot entry.0 entry.1) _ _ have (keyed_values s entry.1 (device_key entry.0) have))
