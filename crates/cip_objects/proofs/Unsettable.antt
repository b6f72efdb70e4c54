-- What is never set does not change, over every list of requests.
use Rattle.std.proofs.Common.{◌≡◌, ℕ, ◌+◌, ◌⊎◌, inl, inr, eqb, true, false, ◌&&◌, ◌||◌, is_some, subst, List, [], ◌∷◌}
use Rattle.std.proofs.Common.{length, Some, None, Result, Ok, refl, sym, ap, ◌∙◌, arith, ◌^◌, ◌%◌}
use Rattle.std.proofs.lemmas.Bool.{both_ways, eq-eqb, or_right}
use Rattle.std.proofs.lemmas.Bool.Decides.{nat_tests}
use Rattle.std.specs.Option.{ok_or}
use Rattle.cip_application.specs.declared.kind.AttributeKind.{AttributeKind}
use Rattle.byteorder.specs.Endian.{little_number}
use Rattle.cip_message.specs.declared.path.Path.{Path}
use Rattle.cip_bytes.specs.Numbers.{le}
use Rattle.cip_objects.specs.declared.assembly.Span.{Span}
use Rattle.cip_objects.specs.declared.service.Service.{Service}
use Rattle.cip_objects.specs.declared.service.Service.TheVariants.{GetAttributesAll, GetAttributeList, SetAttributeList}
use Rattle.cip_objects.specs.declared.service.Service.TheVariants.{GetAttributeSingle, SetAttributeSingle, GetMember}
use Rattle.cip_objects.specs.declared.service.Service.TheVariants.{SetMember, Add, Clear}
use Rattle.cip_objects.specs.declared.status.Refusal.{Refusal}
use Rattle.cip_objects.specs.Check.{check_size}
use Rattle.cip_objects.specs.Contents.{Contents, value_at, bytes_at, udint_at, with_value, with_change}
use Rattle.cip_objects.specs.ReadServices.{service_at, named_member, get_attribute_single, get_attributes_all}
use Rattle.cip_objects.specs.ReadServices.{get_attribute_list, get_member}
use Rattle.cip_objects.specs.ChangeServices.{Change, after_add, with_bytes_at, set_attribute_single, set_member, add}
use Rattle.cip_objects.specs.ChangeServices.{clear}
use Rattle.cip_objects.specs.Execution.{Outcome, perform, outcome, exec}
use Rattle.cip_objects.specs.Laws.{is_add, is_clear, changes_unsettable, unsettable_law}
use Rattle.cip_objects.specs.Service.{service_code}
use Rattle.cip_objects.specs.SetLists.{set_all}
use Rattle.cip_objects.specs.Tables.{Shapes, settable_kind}
use Rattle.cip_objects.proofs.CounterRun.{add_place, clear_place, to_it}
use Rattle.cip_objects.proofs.Effects.{Goes, goes, chosen_code, bound, after_check, found_some, set_effect, add_effect}
use Rattle.cip_objects.proofs.Effects.{clear_effect, read_effect, change_effect}
use Rattle.cip_objects.proofs.ReadAfterSet.{value_at-other}
use Rattle.cip_objects.proofs.Settable.{exact_size}
use Rattle.cip_objects.proofs.ListSets.{list_effect, all_keep}
use Rattle.cip_objects.proofs.Refuses.{exec_left}

-- a Set_Member: the bytes of the member, and the new data of its assembly
pub record Splices (m : Contents) (path : Path) (content : List ℕ) (c : Change) : Type 0 where
  pub span : Span
  pub all : AttributeKind
  pub names : named_member m.shapes path ≡ Ok span
  pub can : settable_kind m.shapes 4 path.instance 3 ≡ Some all
  pub size : length content ≡ span.size
  pub leaves : c.after ≡ with_change m 4 path.instance 3 (with_bytes_at (bytes_at m 4 path.instance 3) span.offset content)

same_ok : {A : Type 0} (x y : A) → ◌≡◌ {A = Result A Refusal} (Ok x) (Ok y) → x ≡ y
same_ok x y e = cc

pub splices : (m : Contents) (path : Path) (content : List ℕ) (c : Change) → set_member m path content ≡ Ok c
    → Splices m path content c
unfolding set_member
splices m path content c e =
    let s = bound (named_member m.shapes path) _ c e in
    let n = bound (ok_or (settable_kind m.shapes 4 path.instance 3) _) _ c s.rest in
    let x = after_check (check_size s.value.size content) _ c n.rest in
    record {
      span = s.value;
      all = n.value;
      names = s.first;
      can = found_some _ _ n.value n.first;
      size = exact_size s.value.size content x.0;
      leaves = sym (ap (λ z. z.after) (same_ok _ c x.1));
    }

-- the counter's value, and its additions
abbrev IsValue : ℕ → ℕ → ℕ → Type 0
IsValue class instance attribute = (class ≡ 100) × (instance ≡ 1) × (attribute ≡ 1)

abbrev IsAdditions : ℕ → ℕ → ℕ → Type 0
IsAdditions class instance attribute = (class ≡ 100) × (instance ≡ 1) × (attribute ≡ 3)

-- this key is not one that the service with this code changes
record IsKept (shapes : Shapes) (class instance attribute code : ℕ) : Type 0 where
  unsettable : settable_kind shapes class instance attribute ≡ None
  not_added : code ≡ 0x32 → IsValue class instance attribute → ⊥
  not_counted : code ≡ 0x32 → IsAdditions class instance attribute → ⊥
  not_cleared : code ≡ 0x33 → IsValue class instance attribute → ⊥

-- the tables and the value at the key are unchanged
record Keeps (m n : Contents) (class instance attribute : ℕ) : Type 0 where
  shapes : n.shapes ≡ m.shapes
  value : value_at n class instance attribute ≡ value_at m class instance attribute

all_kept : (m n : Contents) (d j b : ℕ) → n ≡ m → Keeps m n d j b
all_kept m n d j b e = record { shapes = ap (λ x. x.shapes) e; value = ap (λ x. value_at x d j b) e }

after_kept : (m n k : Contents) (d j b : ℕ) → Keeps m n d j b → Keeps n k d j b → Keeps m k d j b
after_kept m n k d j b x y = record { shapes = y.shapes ∙ x.shapes; value = y.value ∙ x.value }

other_key : (d c j i b a : ℕ) → ((d ≡ c) × (j ≡ i) × (b ≡ a) → ⊥) → eqb d c && (eqb j i && eqb b a) ≡ false
other_key d c j i b a h = grind (arith, nat_tests)

other_kept : (m n : Contents) (c i a : ℕ) (v : List ℕ) (d j b : ℕ) → n ≡ with_change m c i a v
    → ((d ≡ c) × (j ≡ i) × (b ≡ a) → ⊥) → Keeps m n d j b
other_kept m n c i a v d j b e h = record {
  shapes = ap (λ x. x.shapes) e;
  value = ap (λ x. value_at x d j b) e ∙ value_at-other m c i a v d j b (other_key d c j i b a h);
}

value_kept : (m n : Contents) (c i a : ℕ) (v : List ℕ) (d j b : ℕ) → n ≡ with_value m c i a v
    → ((d ≡ c) × (j ≡ i) × (b ≡ a) → ⊥) → Keeps m n d j b
value_kept m n c i a v d j b e h = record {
  shapes = ap (λ x. x.shapes) e;
  value = ap (λ x. value_at x d j b) e ∙ value_at-other m c i a v d j b (other_key d c j i b a h);
}

-- what can be set is at another key
not_settable : (shapes : Shapes) (c i a : ℕ) (n : AttributeKind) (d j b : ℕ) → settable_kind shapes c i a ≡ Some n
    → settable_kind shapes d j b ≡ None → (d ≡ c) × (j ≡ i) × (b ≡ a) → ⊥
not_settable shapes c i a n d j b can stuck k =
    let same : settable_kind shapes d j b ≡ settable_kind shapes c i a = ap (λ x. settable_kind shapes x j b) k.0
    ∙ ap (λ x. settable_kind shapes c x b) k.1 ∙ ap (λ x. settable_kind shapes c i x) k.2 in
    cc

add_kept : (m n : Contents) (total d j b : ℕ) → n ≡ after_add m total → IsKept m.shapes d j b 0x32 → Keeps m n d j b
add_kept m n total d j b e h =
    let first = with_value m 100 1 1 (le 4 total) in
    let more = le 4 ((udint_at m 100 1 3 + 1) % 2 ^ 32) in
    record {
      shapes = ap (λ x. x.shapes) e;
      value = ap (λ x. value_at x d j b) e
          ∙ value_at-other first 100 1 3 more d j b (other_key d 100 j 1 b 3 (h.not_counted refl))
          ∙ value_at-other m 100 1 1 (le 4 total) d j b (other_key d 100 j 1 b 1 (h.not_added refl));
    }

perform_kept : (m : Contents) (s : Service) (path : Path) (content : List ℕ) (o : Outcome) (d j b : ℕ)
    → perform m s path content ≡ Ok o → IsKept m.shapes d j b (service_code s) → Keeps m o.after d j b
perform_kept m GetAttributesAll path content o d j b e h = all_kept m o.after d j b
    (read_effect m (get_attributes_all m path content) o e)
perform_kept m GetAttributeList path content o d j b e h = all_kept m o.after d j b
    (read_effect m (get_attribute_list m path content) o e)
perform_kept m SetAttributeList path content o d j b e h =
    let x = list_effect m path content o e in
    let k = all_keep (λ n. Keeps m n d j b) path m x.settings
    (λ n a v c set kept. after_kept m n c.after d j b kept
    (other_kept n c.after path.class path.instance set.attribute v d j b set.leaves
    (not_settable n.shapes path.class path.instance set.attribute set.kind d j b set.can
    (ap (λ s. settable_kind s d j b) kept.shapes ∙ h.unsettable))))
    (all_kept m m d j b refl) in
    after_kept m (set_all m path x.settings).after o.after d j b k (all_kept (set_all m path x.settings).after o.after d j b x.after)
perform_kept m GetAttributeSingle path content o d j b e h = all_kept m o.after d j b
    (read_effect m (get_attribute_single m path content) o e)
perform_kept m SetAttributeSingle path content o d j b e h =
    let c = change_effect (set_attribute_single m path content) o e in
    let x = set_effect m path content c.change c.first in
    other_kept m o.after path.class path.instance x.attribute content d j b (c.after ∙ x.leaves)
    (not_settable m.shapes path.class path.instance x.attribute x.kind d j b x.can h.unsettable)
perform_kept m GetMember path content o d j b e h = all_kept m o.after d j b
    (read_effect m (get_member m path content) o e)
perform_kept m SetMember path content o d j b e h =
    let c = change_effect (set_member m path content) o e in
    let x = splices m path content c.change c.first in
    other_kept m o.after 4 path.instance 3 _ d j b (c.after ∙ x.leaves)
    (not_settable m.shapes 4 path.instance 3 x.all d j b x.can h.unsettable)
perform_kept m Add path content o d j b e h =
    let c = change_effect (add m content) o e in
    let x = add_effect m content c.change c.first in
    add_kept m o.after (udint_at m 100 1 1 + little_number 4 content) d j b (c.after ∙ x.leaves) h
perform_kept m Clear path content o d j b e h =
    let c = change_effect (clear m content) o e in
    let x = clear_effect m content c.change c.first in
    value_kept m o.after 100 1 1 (le 4 0) d j b (c.after ∙ x.leaves) (h.not_cleared refl)

-- a request that may not change the key spares it
not_added : (d j b : ℕ) (text : List ℕ) → is_add text ≡ true → changes_unsettable d j b text ≡ false → IsValue d j b → ⊥
not_added d j b text adds spared k =
    let changes : changes_unsettable d j b text ≡ true
    = ap (λ x. changes_unsettable x j b text) k.0
    ∙ (ap (λ x. changes_unsettable 100 x b text) k.1
    ∙ (ap (λ x. changes_unsettable 100 1 x text) k.2 ∙ ap (λ t. (t || is_clear text) || false) adds)) in
    both_ways _ spared changes

not_counted : (d j b : ℕ) (text : List ℕ) → is_add text ≡ true → changes_unsettable d j b text ≡ false → IsAdditions d j b → ⊥
not_counted d j b text adds spared k =
    let changes : changes_unsettable d j b text ≡ true
    = ap (λ x. changes_unsettable x j b text) k.0
    ∙ (ap (λ x. changes_unsettable 100 x b text) k.1 ∙ (ap (λ x. changes_unsettable 100 1 x text) k.2 ∙ adds)) in
    both_ways _ spared changes

not_cleared : (d j b : ℕ) (text : List ℕ) → is_clear text ≡ true → changes_unsettable d j b text ≡ false → IsValue d j b → ⊥
not_cleared d j b text clears spared k =
    let changes : changes_unsettable d j b text ≡ true
    = ap (λ x. changes_unsettable x j b text) k.0
    ∙ (ap (λ x. changes_unsettable 100 x b text) k.1
    ∙ (ap (λ x. changes_unsettable 100 1 x text) k.2
    ∙ ap (λ t. t || false) (or_right (is_add text) (is_clear text) clears))) in
    both_ways _ spared changes

-- the request of a service that only the counter has leads to the counter
adds-to : (m : Contents) (text : List ℕ) (o : Outcome) (g : Goes m text o) → service_code g.service ≡ 0x32 → is_add text ≡ true
adds-to m text o g add =
    let code : g.request.service ≡ 0x32 = sym (chosen_code m.shapes g.path.class g.path.instance g.request.service g.service g.is_chosen) ∙ add in
    let place = add_place m.shapes g.path.class g.path.instance g.service
    (subst (λ n. service_at m.shapes g.path.class g.path.instance n ≡ Ok g.service) code g.is_chosen) in
    ap (λ bytes. is_some bytes)
    (to_it 0x32 text g.request g.path g.is_request g.is_path (eq-eqb g.request.service 0x32 code) place.0 place.1)

clears-it : (m : Contents) (text : List ℕ) (o : Outcome) (g : Goes m text o) → service_code g.service ≡ 0x33 → is_clear text ≡ true
clears-it m text o g clear =
    let code : g.request.service ≡ 0x33 = sym (chosen_code m.shapes g.path.class g.path.instance g.request.service g.service g.is_chosen) ∙ clear in
    let place = clear_place m.shapes g.path.class g.path.instance g.service
    (subst (λ n. service_at m.shapes g.path.class g.path.instance n ≡ Ok g.service) code g.is_chosen) in
    ap (λ bytes. is_some bytes)
    (to_it 0x33 text g.request g.path g.is_request g.is_path (eq-eqb g.request.service 0x33 code) place.0 place.1)

kept_by : (m : Contents) (text : List ℕ) (o : Outcome) (d j b : ℕ) (g : Goes m text o) → settable_kind m.shapes d j b ≡ None
    → changes_unsettable d j b text ≡ false → IsKept m.shapes d j b (service_code g.service)
kept_by m text o d j b g fixed spared = record {
  unsettable = fixed;
  not_added = λ add. not_added d j b text (adds-to m text o g add) spared;
  not_counted = λ add. not_counted d j b text (adds-to m text o g add) spared;
  not_cleared = λ clear. not_cleared d j b text (clears-it m text o g clear) spared;
}

either_kept : (m n : Contents) (text : List ℕ) (d j b : ℕ) → settable_kind m.shapes d j b ≡ None
    → changes_unsettable d j b text ≡ false
    → (n ≡ m) ⊎ ((o : Outcome) × (outcome m text ≡ Ok o) × (n ≡ o.after)) → Keeps m n d j b
either_kept m n text d j b fixed spared (inl same) = all_kept m n d j b same
either_kept m n text d j b fixed spared (inr x) =
    let g = goes m text x.0 x.1 in
    let k = perform_kept m g.service g.path g.request.data x.0 d j b g.is_performed (kept_by m text x.0 d j b g fixed spared) in
    record { shapes = ap (λ y. y.shapes) x.2 ∙ k.shapes; value = ap (λ y. value_at y d j b) x.2 ∙ k.value }

exec_kept : (m : Contents) (max_size : ℕ) (text : List ℕ) (d j b : ℕ) → settable_kind m.shapes d j b ≡ None
    → changes_unsettable d j b text ≡ false → Keeps m (exec m max_size text).after d j b
exec_kept m max_size text d j b fixed spared =
    either_kept m (exec m max_size text).after text d j b fixed spared (exec_left m max_size text)

pub unsettable : unsettable_law
unsettable m [] class instance attribute fixed spared = refl
unsettable m (r ∷ requests) class instance attribute fixed spared =
    let k = exec_kept m r.0 r.1 class instance attribute fixed spared.0 in
    unsettable (exec m r.0 r.1).after requests class instance attribute
    (ap (λ s. settable_kind s class instance attribute) k.shapes ∙ fixed) spared.1
    ∙ k.value
