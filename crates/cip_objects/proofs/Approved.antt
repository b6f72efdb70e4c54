-- What a set that the owner approved leaves, and which requests the owner is never asked about.
use Rattle.std.proofs.Common.{◌≡◌, ℕ, ◌⊎◌, inl, inr, eqb, Bool, true, false, cond, ◌&&◌, ◌||◌, List, [], length, unwrap_or, Option, Some, None, option_map, is_some, Result, Ok, Err, refl, sym, ap, ◌∙◌}
use Rattle.std.proofs.lemmas.Bool.{eqb-true}
use Rattle.std.specs.Prelude.{is_ok}
use Rattle.std.specs.Option.{option_and_then}
use Rattle.cip_bytes.specs.Reading.{◌>>◌}
use Rattle.cip_application.specs.declared.config.ServiceKind.TheVariants as kinds
use Rattle.cip_application.specs.Configuration.{is_taken_class}
use Rattle.cip_message.specs.declared.path.Path.{Path}
use Rattle.cip_message.specs.declared.path.PathFault.{PathFault}
use Rattle.cip_message.specs.declared.request.RequestFault.{RequestFault}
use Rattle.cip_message.specs.PathReading.{path_of}
use Rattle.cip_message.specs.Request.{Request, request_of}
use Rattle.cip_objects.specs.declared.status.Refusal.{Refusal}
use Rattle.cip_objects.specs.Contents.{Contents, value_at, with_change}
use Rattle.cip_objects.specs.Members.{AreWhole}
use Rattle.cip_objects.specs.OwnRequests.{Asked, own_object, own_service, if_checked, checked_attribute, check_set, ask_set, ask_service, asked_by_path, asked_by_request, own_request, stored_in, with_stored, approved_is_stored_law, approved_leaves_others_law}
use Rattle.cip_objects.specs.Tables.{AttributeShape, ObjectShape, shape_at, attribute_at}
use Rattle.cip_objects.proofs.OwnRequests.{nothing_asked, read_at}
use Rattle.cip_objects.proofs.ReadAfterSet.{value_at-other}

-- the set is stored in an application object, or nothing changes
pub record Stores (m : Contents) (class instance attribute : ℕ) (content : List ℕ) : Type 0 where
  pub free : is_taken_class m.shapes.has_counter class ≡ false
  pub leaves : with_stored m class instance attribute content ≡ with_change m class instance attribute content

abbrev pub IsStoredOrNot : Contents → ℕ → ℕ → ℕ → List ℕ → Type 0
IsStoredOrNot m class instance attribute content =
    (with_stored m class instance attribute content ≡ m) ⊎ Stores m class instance attribute content

abbrev found : Bool → Bool → Option ObjectShape → ℕ → Option AttributeShape
found value taken object attribute =
    cond value (if_checked (option_and_then (λ o. attribute_at attribute o.attributes) (cond taken None object))) None

only_free : (value t z : Bool) (object : Option ObjectShape) (attribute : ℕ) (a : AttributeShape) → found value (t || z) object attribute ≡ Some a → t ≡ false
only_free true true z object attribute a e = absurd (cc)
only_free true false z object attribute a e = refl
only_free false t z object attribute a e = absurd (cc)

-- a checked attribute has a class that the adapter does not have itself
pub checked_free : (m : Contents) (class instance attribute : ℕ) (a : AttributeShape) → checked_attribute m class instance attribute ≡ Some a → is_taken_class m.shapes.has_counter class ≡ false
unfolding checked_attribute
checked_free m class instance attribute a e = only_free (is_some (value_at m class instance attribute)) (is_taken_class m.shapes.has_counter class) (eqb instance 0) _ attribute a e

by_checks : (t : Bool) (m : Contents) (class instance attribute : ℕ) (content : List ℕ) → is_taken_class m.shapes.has_counter class ≡ false
    → with_stored m class instance attribute content ≡ cond t (with_change m class instance attribute content) m → IsStoredOrNot m class instance attribute content
by_checks true m class instance attribute content free e = inr (record { free = free; leaves = e })
by_checks false m class instance attribute content free e = inl e

by_attribute : (m : Contents) (class instance attribute : ℕ) (content : List ℕ) (a : Option AttributeShape) → checked_attribute m class instance attribute ≡ a
    → with_stored m class instance attribute content ≡ stored_in m class instance attribute content a → IsStoredOrNot m class instance attribute content
by_attribute m class instance attribute content None e f = inl f
by_attribute m class instance attribute content (Some a) e f =
    by_checks (is_ok (check_set a.kind content)) m class instance attribute content (checked_free m class instance attribute a e) f

stored_by : (m : Contents) (class instance attribute : ℕ) (content : List ℕ) → with_stored m class instance attribute content ≡ stored_in m class instance attribute content (checked_attribute m class instance attribute)
unfolding with_stored
stored_by m class instance attribute content = refl

pub stored_or_not : (m : Contents) (class instance attribute : ℕ) (content : List ℕ) → IsStoredOrNot m class instance attribute content
stored_or_not m class instance attribute content =
    by_attribute m class instance attribute content (checked_attribute m class instance attribute) refl (stored_by m class instance attribute content)

-- the tables stay the same
pub stored_shapes : (m : Contents) (class instance attribute : ℕ) (content : List ℕ) → (with_stored m class instance attribute content).shapes ≡ m.shapes
stored_shapes m class instance attribute content = go (stored_or_not m class instance attribute content)
  where
    go : IsStoredOrNot m class instance attribute content → (with_stored m class instance attribute content).shapes ≡ m.shapes
    go (inl e) = ap (λ x. x.shapes) e
    go (inr s) = ap (λ x. x.shapes) s.leaves

-- no other attribute changes
not_same : (a b c d e f : ℕ) → ((a ≡ b) × (c ≡ d) × (e ≡ f) → ⊥) → (t u v : Bool) → eqb a b ≡ t → eqb c d ≡ u → eqb e f ≡ v → t && (u && v) ≡ false
not_same a b c d e f h true true true x y z = absurd (h (eqb-true a b x, eqb-true c d y, eqb-true e f z))
not_same a b c d e f h true true false x y z = refl
not_same a b c d e f h true false v x y z = refl
not_same a b c d e f h false u v x y z = refl

pub leaves_others : approved_leaves_others_law
leaves_others m class instance attribute content c i a h = go (stored_or_not m class instance attribute content)
  where
    go : IsStoredOrNot m class instance attribute content → value_at (with_stored m class instance attribute content) c i a ≡ value_at m c i a
    go (inl e) = ap (λ x. value_at x c i a) e
    go (inr s) =
        ap (λ x. value_at x c i a) s.leaves
        ∙ value_at-other m class instance attribute content c i a
        (not_same c class i instance a attribute h (eqb c class) (eqb i instance) (eqb a attribute) refl refl refl)

-- nor does any of the adapter's own classes
taken_other : (counter : Bool) (c class : ℕ) → is_taken_class counter c ≡ true → is_taken_class counter class ≡ false → c ≡ class → ⊥
taken_other counter c class t f e = let g = sym t ∙ ap (is_taken_class counter) e ∙ f in absurd (cc)

pub leaves_taken : (m : Contents) (class instance attribute : ℕ) (content : List ℕ) (c i a : ℕ) → is_taken_class m.shapes.has_counter c ≡ true → value_at (with_stored m class instance attribute content) c i a ≡ value_at m c i a
leaves_taken m class instance attribute content c i a t = go (stored_or_not m class instance attribute content)
  where
    go : IsStoredOrNot m class instance attribute content → value_at (with_stored m class instance attribute content) c i a ≡ value_at m c i a
    go (inl e) = ap (λ x. value_at x c i a) e
    go (inr s) = leaves_others m class instance attribute content c i a (λ p. taken_other m.shapes.has_counter c class t s.free p.0)

-- the data of the assemblies keep their sizes
pub whole_stays : (m : Contents) (class instance attribute : ℕ) (content : List ℕ) → AreWhole m → AreWhole (with_stored m class instance attribute content)
whole_stays m class instance attribute content w i s e =
    let there : shape_at i m.shapes.assemblies ≡ Some s =
    ap (λ x. shape_at i x.assemblies) (sym (stored_shapes m class instance attribute content)) ∙ e in
    ap (λ o. length (unwrap_or o [])) (leaves_taken m class instance attribute content 4 i 3 refl) ∙ w i s there

-- the owner is not asked about a class that the adapter has itself
taken_none : (t z : Bool) (o : Option ObjectShape) → t ≡ true → ◌≡◌ {A = Option ObjectShape} (cond (t || z) None o) None
taken_none true z o e = refl
taken_none false z o e = absurd (cc)

pub taken_not_asked : (m : Contents) (text : List ℕ) (q : Request) (p : Path) → request_of text ≡ Ok q → path_of q.path ≡ Ok p → is_taken_class m.shapes.has_counter p.class ≡ true → own_request m text ≡ None
taken_not_asked m text q p e f t =
    read_at m text q p e f
    ∙ nothing_asked m q p (taken_none (is_taken_class m.shapes.has_counter p.class) (eqb p.instance 0) _ t)

-- what is asked depends on the tables, and on which attributes there are
checked_alike : (m k : Contents) (class instance attribute : ℕ) → m.shapes ≡ k.shapes → is_some (value_at m class instance attribute) ≡ is_some (value_at k class instance attribute) → checked_attribute m class instance attribute ≡ checked_attribute k class instance attribute
unfolding checked_attribute
checked_alike m k class instance attribute e f =
    ap (λ t. cond t (if_checked (option_and_then (λ o. attribute_at attribute o.attributes) (own_object m.shapes class instance))) None) f
    ∙ ap (λ s. cond (is_some (value_at k class instance attribute)) (if_checked (option_and_then (λ o. attribute_at attribute o.attributes) (own_object s class instance))) None) e

abbrev HaveSameAttributes : Contents → Contents → Type 0
HaveSameAttributes m k = (class instance attribute : ℕ) → is_some (value_at m class instance attribute) ≡ is_some (value_at k class instance attribute)

sets_alike : (m k : Contents) (q : Request) (p : Path) (a : Option ℕ) → m.shapes ≡ k.shapes → HaveSameAttributes m k → option_and_then (checked_attribute m p.class p.instance) a ≡ option_and_then (checked_attribute k p.class p.instance) a
sets_alike m k q p None e f = refl
sets_alike m k q p (Some a) e f = checked_alike m k p.class p.instance a e (f p.class p.instance a)

by_path : (m k : Contents) (q : Request) (r : Result Path PathFault) → m.shapes ≡ k.shapes → HaveSameAttributes m k → asked_by_path m q r ≡ asked_by_path k q r
by_path m k q (Err fault) e f = refl
by_path m k q (Ok p) e f =
    ap (λ x. cond (eqb q.service 0x10) (option_map (ask_set q p) x) (option_map (ask_service q p) (own_service m.shapes p.class p.instance q.service))) (sets_alike m k q p p.attribute e f)
    ∙ ap (λ s. cond (eqb q.service 0x10) (option_map (ask_set q p) (option_and_then (checked_attribute k p.class p.instance) p.attribute)) (option_map (ask_service q p) (own_service s p.class p.instance q.service))) e

by_request : (m k : Contents) (r : Result Request RequestFault) → m.shapes ≡ k.shapes → HaveSameAttributes m k → asked_by_request m r ≡ asked_by_request k r
by_request m k (Err fault) e f = refl
by_request m k (Ok q) e f = by_path m k q (path_of q.path) e f

pub asked_alike : (m k : Contents) (text : List ℕ) → m.shapes ≡ k.shapes → HaveSameAttributes m k → own_request m text ≡ own_request k text
unfolding own_request
asked_alike m k text e f = by_request m k (request_of text) e f

-- a set that the owner was asked about is stored
record IsAskedSet (m : Contents) (asked : Asked) (attribute : ℕ) : Type 0 where
  shape : AttributeShape
  there : checked_attribute m asked.class asked.instance attribute ≡ Some shape
  allowed : check_set shape.kind asked.content ≡ Ok tt

same_some : {A : Type 0} (x y : A) → ◌≡◌ {A = Option A} (Some x) (Some y) → x ≡ y
same_some x y e = cc

same_ok : {A : Type 0} (x y : A) → ◌≡◌ {A = Result A Refusal} (Ok x) (Ok y) → x ≡ y
same_ok x y e = cc

after_passed : (r : Result (Unit {0}) Refusal) (x y : Asked) → (r >> Ok x) ≡ Ok y → (r ≡ Ok tt) × (x ≡ y)
after_passed (Ok u) x y e = (refl, same_ok x y e)
after_passed (Err s) x y e = absurd (cc)

by_shape : (m : Contents) (q : Request) (p : Path) (asked : Asked) (attribute n : ℕ) (a : Option AttributeShape) → p.attribute ≡ Some n → checked_attribute m p.class p.instance n ≡ a → option_map (ask_set q p) a ≡ Some (Ok asked) → asked.attribute ≡ Some attribute → IsAskedSet m asked attribute
by_shape m q p asked attribute n None named e f g = absurd (cc)
by_shape m q p asked attribute n (Some a) named e f g =
    let r = same_some (ask_set q p a) (Ok asked) f in
    let made : Asked = record { class = p.class; instance = p.instance; service = q.service; attribute = p.attribute; content = q.data; reply_limit = 0; kind = kinds.Asked } in
    let b = after_passed (check_set a.kind q.data) made asked r in
    let number : n ≡ attribute = same_some n attribute (sym named ∙ ap (λ x. x.attribute) b.1 ∙ g) in
    record {
      shape = a;
      there = ap (λ x. checked_attribute m x.class x.instance attribute) (sym b.1) ∙ ap (checked_attribute m p.class p.instance) (sym number) ∙ e;
      allowed = ap (λ x. check_set a.kind x.content) (sym b.1) ∙ b.0;
    }

by_name : (m : Contents) (q : Request) (p : Path) (asked : Asked) (attribute : ℕ) (a : Option ℕ) → p.attribute ≡ a → option_map (ask_set q p) (option_and_then (checked_attribute m p.class p.instance) a) ≡ Some (Ok asked) → asked.attribute ≡ Some attribute → IsAskedSet m asked attribute
by_name m q p asked attribute None named f g = absurd (cc)
by_name m q p asked attribute (Some n) named f g = by_shape m q p asked attribute n (checked_attribute m p.class p.instance n) named refl f g

asked_service : (q : Request) (p : Path) (o : Option _) (asked : Asked) → option_map (ask_service q p) o ≡ Some (Ok asked) → asked.service ≡ q.service
asked_service q p None asked e = absurd (cc)
asked_service q p (Some s) asked e =
    let r = same_some (ask_service q p s) (Ok asked) e in
    ap (λ x. x.service) (sym (after_passed _ _ asked r).1)

by_service : (t : Bool) (m : Contents) (q : Request) (p : Path) (asked : Asked) (attribute : ℕ) → eqb q.service 0x10 ≡ t → cond t (option_map (ask_set q p) (option_and_then (checked_attribute m p.class p.instance) p.attribute)) (option_map (ask_service q p) (own_service m.shapes p.class p.instance q.service)) ≡ Some (Ok asked)
    → asked.service ≡ 0x10 → asked.attribute ≡ Some attribute → IsAskedSet m asked attribute
by_service true m q p asked attribute t e s g = by_name m q p asked attribute p.attribute refl e g
by_service false m q p asked attribute t e s g =
    let same = asked_service q p (own_service m.shapes p.class p.instance q.service) asked e in
    let set : eqb q.service 0x10 ≡ true = ap (λ n. eqb n 0x10) (sym same ∙ s) in
    absurd (let f = sym set ∙ t in cc)

set_by_path : (m : Contents) (q : Request) (r : Result Path PathFault) (asked : Asked) (attribute : ℕ) → asked_by_path m q r ≡ Some (Ok asked) → asked.service ≡ 0x10 → asked.attribute ≡ Some attribute → IsAskedSet m asked attribute
set_by_path m q (Err fault) asked attribute e s g = absurd (cc)
set_by_path m q (Ok p) asked attribute e s g = by_service (eqb q.service 0x10) m q p asked attribute refl e s g

set_by_request : (m : Contents) (r : Result Request RequestFault) (asked : Asked) (attribute : ℕ) → asked_by_request m r ≡ Some (Ok asked) → asked.service ≡ 0x10 → asked.attribute ≡ Some attribute → IsAskedSet m asked attribute
set_by_request m (Err fault) asked attribute e s g = absurd (cc)
set_by_request m (Ok q) asked attribute e s g = set_by_path m q (path_of q.path) asked attribute e s g

asked_set : (m : Contents) (text : List ℕ) (asked : Asked) (attribute : ℕ) → own_request m text ≡ Some (Ok asked) → asked.service ≡ 0x10 → asked.attribute ≡ Some attribute → IsAskedSet m asked attribute
unfolding own_request
asked_set m text asked attribute e s g = set_by_request m (request_of text) asked attribute e s g

pub is_stored : approved_is_stored_law
is_stored m text asked attribute e s g =
    let a = asked_set m text asked attribute e s g in
    stored_by m asked.class asked.instance attribute asked.content
    ∙ ap (stored_in m asked.class asked.instance attribute asked.content) a.there
    ∙ ap (λ r. cond (is_ok r) (with_change m asked.class asked.instance attribute asked.content) m) a.allowed
