-- What a request asks the owner of the device, what the owner approves, and what the objects answer themselves.
use Rattle.std.proofs.Common.{◌≡◌, ℕ, ◌⊎◌, inl, inr, eqb, Bool, true, false, cond, ◌&&◌, ◌||◌, not, nat_lt, List, [], ◌∷◌, length, set, map, Option, Some, None, option_map, is_some, Result, Ok, Err, refl, sym, ap, ◌∙◌, arith, subst}
use Rattle.std.proofs.lemmas.Bool.{eqb-true}
use Rattle.std.proofs.lemmas.Bool.Decides.{nat_tests}
use Rattle.std.specs.Prelude.{is_ok}
use Rattle.std.specs.Option.{ok_or, option_and_then}
use Rattle.cip_bytes.specs.Reading.{◌>>=◌, ◌>>◌}
use Rattle.cip_application.specs.declared.attribute.SetFault.{SetFault}
use Rattle.cip_application.specs.declared.attribute.SetFault.TheVariants as faults
use Rattle.cip_application.specs.declared.kind.AttributeKind.{AttributeKind}
use Rattle.cip_application.specs.Attributes.{AttributeValues, attribute_at, needs_approval, check_before_asking}
use Rattle.cip_application.specs.Check.{demand as demand_value}
use Rattle.cip_application.specs.Configuration.{is_taken_class}
use Rattle.cip_application.specs.Objects.{ObjectValues, position_of, object_in, value_in, object_with, objects_set, objects_approved, after_result, service_in}
use Rattle.cip_application.specs.Values.{size_for, check_value, is_allowed}
use Rattle.cip_message.specs.declared.path.Path.{Path}
use Rattle.cip_message.specs.declared.path.PathFault.{PathFault}
use Rattle.cip_message.specs.declared.request.RequestFault.{RequestFault}
use Rattle.cip_message.specs.PathReading.{path_of}
use Rattle.cip_message.specs.Request.{Request, request_of}
use Rattle.cip_objects.specs.declared.service.Service.{Service}
use Rattle.cip_objects.specs.declared.service.Service.TheVariants.{SetAttributeSingle}
use Rattle.cip_objects.specs.declared.status.Refusal.{Refusal}
use Rattle.cip_objects.specs.declared.status.Refusal.TheVariants as refusals
use Rattle.cip_objects.specs.ChangeServices.{set_attribute_single}
use Rattle.cip_objects.specs.Check.{demand}
use Rattle.cip_objects.specs.Contents.{Contents, value_at, with_change}
use Rattle.cip_objects.specs.Entries.{IdentityValues, AssemblyValues, CounterValues, AreApart, NoneIsClass, object_shape_of, attribute_shape_of, contents_of}
use Rattle.cip_objects.specs.Execution.{outcome, outcome_of_change, perform, request_or_refusal, path_or_refusal, exec, reply_to, or_refusal, with_reply}
use Rattle.cip_objects.specs.ObjectRef.{IsFree, IsObjectIndex, object_in as shape_in}
use Rattle.cip_objects.specs.OwnRequests.{Asked, own_object, own_service, is_own_service, if_checked, checked_attribute, check_set, ask_set, ask_service, asked_of, asked_by_path, asked_by_request, own_request, stored_in, with_stored, IsOwnAt, own_is_refused_law}
use Rattle.cip_objects.specs.ReadServices.{service_at}
use Rattle.cip_message.specs.Router.{general_status}
use Rattle.cip_objects.specs.Service.{service_in as offered_in}
use Rattle.cip_objects.specs.Status.{refusal_status, set_refusal}
use Rattle.cip_objects.specs.Tables.{AttributeShape, ObjectShape, Shapes, object_at, attribute_at as shape_at_number, services_of, services_of_object, settable_kind, kind_in, kind_of_settable}
use Rattle.cip_objects.proofs.Lookup.{object_at-map}
use Rattle.cip_objects.proofs.ObjectLemmas.{find_position, attribute_at-map, at_position, found_at, found_index, shape_here, index_found, object_read, of_list, not_taken, not_counter, below_zero, object_checks, checked, set_to, set_contents, apart_after, IsFound, free_services}
use Rattle.cip_objects.proofs.ObjectRefs.{free_kind}
use Rattle.cip_objects.proofs.Shapes.{shapes-contents}

same_some : {A : Type 0} (x y : A) → ◌≡◌ {A = Option A} (Some x) (Some y) → x ≡ y
same_some x y e = cc

neither : {A : Type 0} (t : Bool) → ◌≡◌ {A = Option A} (cond t None None) None
neither true = refl
neither false = refl

or_false : (a b : Bool) → a || b ≡ false → (a ≡ false) × (b ≡ false)
or_false true b e = absurd (cc)
or_false false b e = (refl, e)

-- the bytes as a request and its path
pub read_at : (m : Contents) (text : List ℕ) (q : Request) (p : Path) → request_of text ≡ Ok q → path_of q.path ≡ Ok p → own_request m text ≡ asked_of m q p
unfolding own_request
read_at m text q p e f = ap (asked_by_request m) e ∙ ap (asked_by_path m q) f

pub unread_request : (m : Contents) (text : List ℕ) (fault : RequestFault) → request_of text ≡ Err fault → own_request m text ≡ None
unfolding own_request
unread_request m text fault e = ap (asked_by_request m) e

pub unread_path : (m : Contents) (text : List ℕ) (q : Request) (fault : PathFault) → request_of text ≡ Ok q → path_of q.path ≡ Err fault → own_request m text ≡ None
unfolding own_request
unread_path m text q fault e f = ap (asked_by_request m) e ∙ ap (asked_by_path m q) f

-- a class and an instance that lead to no application object
no_attribute : (m : Contents) (class instance n : ℕ) → own_object m.shapes class instance ≡ None → checked_attribute m class instance n ≡ None
unfolding checked_attribute
no_attribute m class instance n e =
    ap (λ o. cond (is_some (value_at m class instance n)) (if_checked (option_and_then (λ x. shape_at_number n x.attributes) o)) None) e
    ∙ neither (is_some (value_at m class instance n))

no_set : (m : Contents) (q : Request) (p : Path) (a : Option ℕ) → own_object m.shapes p.class p.instance ≡ None → option_map (ask_set q p) (option_and_then (checked_attribute m p.class p.instance) a) ≡ None
no_set m q p None e = refl
no_set m q p (Some n) e = ap (option_map (ask_set q p)) (no_attribute m p.class p.instance n e)

no_service : (shapes : Shapes) (class instance number : ℕ) → own_object shapes class instance ≡ None → own_service shapes class instance number ≡ None
no_service shapes class instance number e =
    ap (λ o. cond (is_own_service number) (option_and_then (λ x. service_in number x.services) o) None) e
    ∙ neither (is_own_service number)

abbrev choice : Request → Option (Result Asked Refusal) → Option (Result Asked Refusal) → Option (Result Asked Refusal)
choice q set service = cond (eqb q.service 0x10) set service

pub nothing_asked : (m : Contents) (q : Request) (p : Path) → own_object m.shapes p.class p.instance ≡ None → asked_of m q p ≡ None
nothing_asked m q p e =
    ap (λ s. choice q s (option_map (ask_service q p) (own_service m.shapes p.class p.instance q.service))) (no_set m q p p.attribute e)
    ∙ ap (λ s. choice q None (option_map (ask_service q p) s)) (no_service m.shapes p.class p.instance q.service e)
    ∙ neither (eqb q.service 0x10)

-- a service that nobody asks the owner for
pub other_service : (m : Contents) (q : Request) (p : Path) → eqb q.service 0x10 || is_own_service q.service ≡ false → asked_of m q p ≡ None
other_service m q p e =
    let b = or_false (eqb q.service 0x10) (is_own_service q.service) e in
    let set = option_map (ask_set q p) (option_and_then (checked_attribute m p.class p.instance) p.attribute) in
    ap (λ t. cond t set (option_map (ask_service q p) (own_service m.shapes p.class p.instance q.service))) b.0
    ∙ ap (λ t. option_map (ask_service q p) (cond t (option_and_then (λ o. service_in q.service o.services) (own_object m.shapes p.class p.instance)) None)) b.1

unread_or_other : (m : Contents) (q : Request) (r : Result Path PathFault) → eqb q.service 0x10 || is_own_service q.service ≡ false → asked_by_path m q r ≡ None
unread_or_other m q (Err fault) e = refl
unread_or_other m q (Ok p) e = other_service m q p e

pub other_request : (m : Contents) (text : List ℕ) (q : Request) → request_of text ≡ Ok q → eqb q.service 0x10 || is_own_service q.service ≡ false → own_request m text ≡ None
unfolding own_request
other_request m text q e f = ap (asked_by_request m) e ∙ unread_or_other m q (path_of q.path) f

-- a device without application objects
no_object : (class instance : ℕ) (ss : List ObjectShape) → length ss ≡ 0 → object_at class instance ss ≡ None
no_object class instance [] e = refl
no_object class instance (s ∷ ss) e = absurd (omega arith)

by_path : (m : Contents) (q : Request) (r : Result Path PathFault) → length m.shapes.objects ≡ 0 → asked_by_path m q r ≡ None
by_path m q (Err fault) e = refl
by_path m q (Ok p) e =
    let taken = is_taken_class m.shapes.has_counter p.class || eqb p.instance 0 in
    nothing_asked m q p (ap (cond taken None) (no_object p.class p.instance m.shapes.objects e) ∙ neither taken)

by_request : (m : Contents) (r : Result Request RequestFault) → length m.shapes.objects ≡ 0 → asked_by_request m r ≡ None
by_request m (Err fault) e = refl
by_request m (Ok q) e = by_path m q (path_of q.path) e

pub none_of : (n : ℕ) → not (eqb n 0) ≡ false → n ≡ 0
none_of n e = grind (arith, nat_tests)

pub no_objects : (m : Contents) (text : List ℕ) → length m.shapes.objects ≡ 0 → own_request m text ≡ None
unfolding own_request
no_objects m text e = by_request m (request_of text) e

-- the object that a class and an instance lead to
objects_at : (d : IdentityValues) (bs : List AssemblyValues) (c : CounterValues) (os : List ObjectValues) (m : Contents) (class instance : ℕ) → contents_of d bs c os ≡ m → object_at class instance m.shapes.objects ≡ option_map object_shape_of (option_map (object_in os) (position_of class instance os))
objects_at d bs c os m class instance is =
    ap (λ x. object_at class instance x.objects) (shapes-contents d bs c os m is)
    ∙ object_at-map class instance os
    ∙ ap (option_map object_shape_of) (find_position class instance os)

pub own_none : (d : IdentityValues) (bs : List AssemblyValues) (c : CounterValues) (os : List ObjectValues) (m : Contents) (class instance : ℕ) → contents_of d bs c os ≡ m → position_of class instance os ≡ None → own_object m.shapes class instance ≡ None
own_none d bs c os m class instance is e =
    let taken = is_taken_class m.shapes.has_counter class || eqb instance 0 in
    ap (cond taken None) (objects_at d bs c os m class instance is ∙ ap (λ p. option_map object_shape_of (option_map (object_in os) p)) e)
    ∙ neither taken

pub own_some : (d : IdentityValues) (bs : List AssemblyValues) (c : CounterValues) (os : List ObjectValues) (m : Contents) (class instance k : ℕ) → contents_of d bs c os ≡ m → AreApart c.enabled (map object_shape_of os) → position_of class instance os ≡ Some k → IsOwnAt m.shapes class instance k
own_some d bs c os m class instance k is h e =
    let at = at_position class instance k os e in
    let l = of_list c.enabled k os h at.within in
    let here = shape_here d bs c os m k is in
    let f = found_at c os class instance k h e in
    let counter : m.shapes.has_counter ≡ c.enabled = ap (λ x. x.has_counter) (shapes-contents d bs c os m is) in
    let free : is_taken_class m.shapes.has_counter class ≡ false =
    ap (λ t. is_taken_class t class) counter ∙ ap (is_taken_class c.enabled) (sym at.of_class) ∙ l.free in
    let above : eqb instance 0 ≡ false = ap (λ n. eqb n 0) (sym at.of_instance) ∙ below_zero (object_in os k).instance l.above in
    let own : is_taken_class m.shapes.has_counter class || eqb instance 0 ≡ false = ap (λ t. t || eqb instance 0) free ∙ above in
    record {
      found = ap (λ t. cond t None (object_at class instance m.shapes.objects)) own
          ∙ objects_at d bs c os m class instance is
          ∙ ap (λ p. option_map object_shape_of (option_map (object_in os) p)) e
          ∙ ap (λ o. Some o) (sym here);
      of_class = ap (λ o. o.class) here ∙ at.of_class;
      of_instance = ap (λ o. o.instance) here ∙ at.of_instance;
      there = index_found d bs c os m k is
          (record {
            identity = f.own.identity;
            assembly = f.own.assembly;
            manager = not_taken (eqb (object_in os k).class 6) c.enabled 6 (object_in os k).class refl refl l.free;
            counter = ap (λ t. eqb (object_in os k).class 100 && t) counter ∙ f.own.counter;
          })
          f;
    }

-- an attribute that needs approval, in the words of the object
with_value_there : (a : Option AttributeValues) → cond (is_some (option_map (λ x. x.value) a)) (if_checked (option_map attribute_shape_of a)) None ≡ if_checked (option_map attribute_shape_of a)
with_value_there None = refl
with_value_there (Some a) = refl

pub checked_here : (d : IdentityValues) (bs : List AssemblyValues) (c : CounterValues) (os : List ObjectValues) (m : Contents) (k n : ℕ) → contents_of d bs c os ≡ m → NoneIsClass bs → AreApart c.enabled (map object_shape_of os) → IsObjectIndex m.shapes k
    → checked_attribute m (shape_in m.shapes k).class (shape_in m.shapes k).instance n ≡ if_checked (option_map attribute_shape_of (attribute_at n (object_in os k).attributes))
unfolding checked_attribute
checked_here d bs c os m k n is h own p =
    let s = shape_in m.shapes k in
    let o = object_in os k in
    let f = found_index d bs c os m k is own p in
    let here = shape_here d bs c os m k is in
    let w = own_some d bs c os m o.class o.instance k is own f.place in
    let found : own_object m.shapes s.class s.instance ≡ Some s =
    ap (λ x. own_object m.shapes x.class x.instance) here ∙ w.found in
    ap (λ v. cond (is_some v) (if_checked (option_and_then (λ x. shape_at_number n x.attributes) (own_object m.shapes s.class s.instance))) None)
    (object_read d bs c os m k n is h own p)
    ∙ ap (λ x. cond (is_some (value_in o n)) (if_checked (option_and_then (λ y. shape_at_number n y.attributes) x)) None) (found ∙ ap (λ x. Some x) here)
    ∙ ap (λ x. cond (is_some (value_in o n)) (if_checked x) None) (attribute_at-map n o.attributes)
    ∙ with_value_there (attribute_at n o.attributes)

-- the checks before the owner is asked, as refusals
abbrev pub as_refusal : Result (Unit {0}) SetFault → Result (Unit {0}) Refusal
as_refusal (Ok u) = Ok tt
as_refusal (Err fault) = Err (set_refusal fault)

checks_by : (l g w : Bool) → as_refusal (cond {A = Result (Unit {0}) SetFault} l (Err faults.NotEnoughData) (cond g (Err faults.TooMuchData) (Ok tt)) >> demand_value w faults.InvalidAttributeValue)
    ≡ (cond {A = Result (Unit {0}) Refusal} l (Err refusals.NotEnoughData) (cond g (Err refusals.TooMuchData) (Ok tt)) >> demand w refusals.InvalidAttributeValue)
checks_by true g w = refl
checks_by false true w = refl
checks_by false false true = refl
checks_by false false false = refl

same_checks : (kind : AttributeKind) (content : List ℕ) → as_refusal (check_value kind content) ≡ check_set kind content
same_checks kind content =
    checks_by (nat_lt (length content) (size_for kind content)) (nat_lt (size_for kind content) (length content)) (is_allowed kind content)

abbrev checks_of : List ℕ → AttributeShape → Result (Unit {0}) Refusal
checks_of content a = check_set a.kind content

by_approval : (t : Bool) (a : AttributeValues) (content : List ℕ) → option_map as_refusal (cond t (Some (check_value a.kind content)) None) ≡ option_map (checks_of content) (cond t (Some (attribute_shape_of a)) None)
by_approval true a content = ap (λ r. Some r) (same_checks a.kind content)
by_approval false a content = refl

checks_alike : (a : Option AttributeValues) (content : List ℕ) → option_map as_refusal (check_before_asking a content) ≡ option_map (checks_of content) (if_checked (option_map attribute_shape_of a))
checks_alike None content = refl
checks_alike (Some a) content = by_approval (a.settable && a.checked) a content

pub checks_here : (d : IdentityValues) (bs : List AssemblyValues) (c : CounterValues) (os : List ObjectValues) (m : Contents) (k n : ℕ) (content : List ℕ) (r : Option (Result (Unit {0}) SetFault)) → contents_of d bs c os ≡ m → NoneIsClass bs → AreApart c.enabled (map object_shape_of os) → IsObjectIndex m.shapes k → r ≡ check_before_asking (attribute_at n (object_in os k).attributes) content
    → option_map as_refusal r ≡ option_map (λ a. check_set a.kind content) (checked_attribute m (shape_in m.shapes k).class (shape_in m.shapes k).instance n)
checks_here d bs c os m k n content r is h own p e =
    ap (option_map as_refusal) e
    ∙ checks_alike (attribute_at n (object_in os k).attributes) content
    ∙ ap (option_map (checks_of content)) (sym (checked_here d bs c os m k n is h own p))

-- the contents after an approved set
pub record IsStored (d : IdentityValues) (bs : List AssemblyValues) (c : CounterValues) (new : List ObjectValues) (after : Contents) : Type 0 where
  pub contents : contents_of d bs c new ≡ after
  pub free : AreApart c.enabled (map object_shape_of new)

same_left : (d : IdentityValues) (bs : List AssemblyValues) (c : CounterValues) (os new : List ObjectValues) (m after : Contents) → contents_of d bs c os ≡ m → AreApart c.enabled (map object_shape_of os) → new ≡ os → after ≡ m → IsStored d bs c new after
same_left d bs c os new m after is own e f = record {
  contents = ap (contents_of d bs c) e ∙ is ∙ sym f;
  free = subst (λ l. AreApart c.enabled (map object_shape_of l)) (sym e) own;
}

abbrev kept : {A : Type 0} → A → Result A SetFault → A
kept x (Ok y) = y
kept x (Err fault) = x

by_checks : (l g w : Bool) (d : IdentityValues) (bs : List AssemblyValues) (c : CounterValues) (os new next : List ObjectValues) (m after changed : Contents) → contents_of d bs c os ≡ m → AreApart c.enabled (map object_shape_of os)
    → contents_of d bs c next ≡ changed → AreApart c.enabled (map object_shape_of next) → new ≡ after_result os (checked l g w next)
    → after ≡ cond (is_ok (cond {A = Result (Unit {0}) Refusal} l (Err refusals.NotEnoughData) (cond g (Err refusals.TooMuchData) (Ok tt)) >> demand w refusals.InvalidAttributeValue)) changed m → IsStored d bs c new after
by_checks true g w d bs c os new next m after changed is own js free e f = same_left d bs c os new m after is own e f
by_checks false true w d bs c os new next m after changed is own js free e f = same_left d bs c os new m after is own e f
by_checks false false false d bs c os new next m after changed is own js free e f = same_left d bs c os new m after is own e f
by_checks false false true d bs c os new next m after changed is own js free e f = same_left d bs c next new changed after js free e f

by_needs : (t : Bool) (d : IdentityValues) (bs : List AssemblyValues) (c : CounterValues) (os new : List ObjectValues) (m after : Contents) (k n : ℕ) (content : List ℕ) (a : AttributeValues) → a.settable && a.checked ≡ t → contents_of d bs c os ≡ m → AreApart c.enabled (map object_shape_of os) → IsFound c os k → attribute_at n (object_in os k).attributes ≡ Some a
    → new ≡ cond t (after_result os (objects_set os k n content)) os → after ≡ stored_in m (object_in os k).class (object_in os k).instance n content (cond t (Some (attribute_shape_of a)) None) → IsStored d bs c new after
by_needs false d bs c os new m after k n content a t is own f found e g = same_left d bs c os new m after is own e g
by_needs true d bs c os new m after k n content a t is own f found e g =
    let o = object_in os k in
    let next = set os k (object_with o (set_to a content)) in
    by_checks (nat_lt (length content) (size_for a.kind content)) (nat_lt (size_for a.kind content) (length content)) (is_allowed a.kind content)
    d bs c os new next m after (with_change m o.class o.instance n content) is own
    (set_contents d bs c os k n content a f found ∙ ap (λ x. with_change x o.class o.instance n content) is)
    (apart_after c.enabled k n os a content found own)
    (e ∙ ap (after_result os) (object_checks k n os a content found (settable a.settable a.checked t))) g
  where
    settable : (x y : Bool) → x && y ≡ true → x ≡ true
    settable true y h = refl
    settable false y h = absurd (cc)

by_attribute : (d : IdentityValues) (bs : List AssemblyValues) (c : CounterValues) (os new : List ObjectValues) (m after : Contents) (k n : ℕ) (content : List ℕ) (a : Option AttributeValues) → contents_of d bs c os ≡ m → AreApart c.enabled (map object_shape_of os) → IsFound c os k → attribute_at n (object_in os k).attributes ≡ a
    → new ≡ cond (needs_approval a) (after_result os (objects_set os k n content)) os → after ≡ stored_in m (object_in os k).class (object_in os k).instance n content (if_checked (option_map attribute_shape_of a)) → IsStored d bs c new after
by_attribute d bs c os new m after k n content None is own f found e g = same_left d bs c os new m after is own e g
by_attribute d bs c os new m after k n content (Some a) is own f found e g =
    by_needs (a.settable && a.checked) d bs c os new m after k n content a refl is own f found e g

pub stored : (d : IdentityValues) (bs : List AssemblyValues) (c : CounterValues) (os new : List ObjectValues) (m : Contents) (class instance k n : ℕ) (content : List ℕ) → contents_of d bs c os ≡ m → NoneIsClass bs → AreApart c.enabled (map object_shape_of os) → position_of class instance os ≡ Some k → new ≡ objects_approved os k n content → IsStored d bs c new (with_stored m class instance n content)
unfolding objects_approved with_stored
stored d bs c os new m class instance k n content is h own place e =
    let o = object_in os k in
    let w = own_some d bs c os m class instance k is own place in
    let at = at_position class instance k os place in
    let asked : checked_attribute m class instance n ≡ if_checked (option_map attribute_shape_of (attribute_at n o.attributes)) =
    ap (λ x. checked_attribute m x instance n) (sym w.of_class)
    ∙ ap (λ x. checked_attribute m (shape_in m.shapes k).class x n) (sym w.of_instance)
    ∙ checked_here d bs c os m k n is h own w.there in
    by_attribute d bs c os new m _ k n content (attribute_at n o.attributes) is own (found_at c os class instance k own place) refl e
    (ap (stored_in m class instance n content) asked
    ∙ ap (λ x. stored_in m x instance n content (if_checked (option_map attribute_shape_of (attribute_at n o.attributes)))) (sym at.of_class)
    ∙ ap (λ x. stored_in m o.class x n content (if_checked (option_map attribute_shape_of (attribute_at n o.attributes)))) (sym at.of_instance))

pub stored_nowhere : (d : IdentityValues) (bs : List AssemblyValues) (c : CounterValues) (os : List ObjectValues) (m : Contents) (class instance n : ℕ) (content : List ℕ) → contents_of d bs c os ≡ m → position_of class instance os ≡ None → m ≡ with_stored m class instance n content
unfolding with_stored
stored_nowhere d bs c os m class instance n content is place =
    sym (ap (stored_in m class instance n content) (no_attribute m class instance n (own_none d bs c os m class instance is place)))

-- the objects themselves refuse what the owner is asked
pub record IsRefused (m : Contents) (text : List ℕ) : Type 0 where
  pub refusal : Refusal
  pub refused : outcome m text ≡ Err refusal
  pub status : (refusal ≡ refusals.ServiceNotSupported) ⊎ (refusal ≡ refusals.AttributeNotSettable)

-- an application object
record IsOwnObject (shapes : Shapes) (class instance : ℕ) (o : ObjectShape) : Type 0 where
  free : IsFree shapes class
  here : object_at class instance shapes.objects ≡ Some o
  offers : services_of shapes class instance ≡ Some (services_of_object o)

not_none : {A : Type 0} (t : Bool) (r : Option A) (x : A) → cond t None r ≡ Some x → (t ≡ false) × (r ≡ Some x)
not_none true r x e = absurd (cc)
not_none false r x e = (refl, e)

own_is : (shapes : Shapes) (class instance : ℕ) (o : ObjectShape) → own_object shapes class instance ≡ Some o → IsOwnObject shapes class instance o
own_is shapes class instance o e =
    let n = not_none (is_taken_class shapes.has_counter class || eqb instance 0) (object_at class instance shapes.objects) o e in
    let b = or_false (is_taken_class shapes.has_counter class) (eqb instance 0) n.0 in
    let free : IsFree shapes class = record {
      identity = not_taken (eqb class 1) shapes.has_counter 1 class refl refl b.0;
      assembly = not_taken (eqb class 4) shapes.has_counter 4 class refl refl b.0;
      manager = not_taken (eqb class 6) shapes.has_counter 6 class refl refl b.0;
      counter = not_counter (eqb class 100) shapes.has_counter class refl b.0;
    } in
    record {
      free = free;
      here = n.1;
      offers = free_services shapes class instance free ∙ rw (b.1, n.1) refl;
    }

pub outcome_at : (m : Contents) (text : List ℕ) (q : Request) (p : Path) (s : Result Service Refusal) → request_of text ≡ Ok q → path_of q.path ≡ Ok p → service_at m.shapes p.class p.instance q.service ≡ s → outcome m text ≡ (s >>= λ x. perform m x p q.data)
unfolding outcome
outcome_at m text q p s e f g =
    ap (λ r. request_or_refusal r >>= λ x. path_or_refusal (path_of x.path) >>= λ y. service_at m.shapes y.class y.instance x.service >>= λ z. perform m z y x.data) e
    ∙ ap (λ r. path_or_refusal r >>= λ y. service_at m.shapes y.class y.instance q.service >>= λ z. perform m z y q.data) f
    ∙ ap (λ r. r >>= λ z. perform m z p q.data) g

service_offered : (shapes : Shapes) (class instance code : ℕ) (o : ObjectShape) → IsOwnObject shapes class instance o → service_at shapes class instance code ≡ ok_or (offered_in code (services_of_object o)) refusals.ServiceNotSupported
unfolding service_at
service_offered shapes class instance code o i =
    ap (λ x. ok_or x refusals.PathDestinationUnknown >>= λ s. ok_or (offered_in code s) refusals.ServiceNotSupported) i.offers

-- an own service is none of the services of the object
not_offered : (code : ℕ) (o : ObjectShape) (lists : Bool) → o.lists ≡ lists → is_own_service code ≡ true → offered_in code (services_of_object o) ≡ None
not_offered code o true e own =
    let one : eqb 0x01 code ≡ false = grind (arith, nat_tests) in
    let three : eqb 0x03 code ≡ false = grind (arith, nat_tests) in
    let four : eqb 0x04 code ≡ false = grind (arith, nat_tests) in
    let fourteen : eqb 0x0e code ≡ false = grind (arith, nat_tests) in
    let sixteen : eqb 0x10 code ≡ false = grind (arith, nat_tests) in
    rw (one, three, fourteen, sixteen, e, four) refl
not_offered code o false e own =
    let one : eqb 0x01 code ≡ false = grind (arith, nat_tests) in
    let three : eqb 0x03 code ≡ false = grind (arith, nat_tests) in
    let fourteen : eqb 0x0e code ≡ false = grind (arith, nat_tests) in
    let sixteen : eqb 0x10 code ≡ false = grind (arith, nat_tests) in
    rw (one, three, fourteen, sixteen, e) refl

service_refused : (m : Contents) (text : List ℕ) (q : Request) (p : Path) (o : Option ObjectShape) (t : Bool) → request_of text ≡ Ok q → path_of q.path ≡ Ok p → own_object m.shapes p.class p.instance ≡ o → is_own_service q.service ≡ t
    → (option_map (ask_service q p) (cond t (option_and_then (λ x. service_in q.service x.services) o) None) ≡ None → ⊥) → IsRefused m text
service_refused m text q p o false e f g t h = absurd (h refl)
service_refused m text q p None true e f g t h = absurd (h refl)
service_refused m text q p (Some o) true e f g t h =
    let i = own_is m.shapes p.class p.instance o g in
    let none = service_offered m.shapes p.class p.instance q.service o i ∙ ap (λ x. ok_or x refusals.ServiceNotSupported) (not_offered q.service o o.lists refl t) in
    record { refusal = refusals.ServiceNotSupported; refused = outcome_at m text q p _ e f none; status = inl refl }

-- a checked attribute is not settable for the objects
unsettable : (a b : Bool) → a && b ≡ true → a && not b ≡ false
unsettable true true e = refl
unsettable true false e = absurd (cc)
unsettable false b e = absurd (cc)

kind_unset : (shapes : Shapes) (class instance n : ℕ) (o : ObjectShape) (a : AttributeShape) → IsOwnObject shapes class instance o → shape_at_number n o.attributes ≡ Some a → a.settable && a.checked ≡ true → settable_kind shapes class instance n ≡ None
kind_unset shapes class instance n o a i e t =
    free_kind shapes class instance n i.free
    ∙ ap (kind_in n) i.here
    ∙ ap kind_of_settable e
    ∙ ap (λ b. cond b (Some a.kind) None) (unsettable a.settable a.checked t)

set_refused : (m : Contents) (p : Path) (content v : List ℕ) (n : ℕ) → p.attribute ≡ Some n → value_at m p.class p.instance n ≡ Some v → settable_kind m.shapes p.class p.instance n ≡ None → set_attribute_single m p content ≡ Err refusals.AttributeNotSettable
unfolding set_attribute_single
set_refused m p content v n e f g = rw (e, f, g) refl

set_code : (m : Contents) (text : List ℕ) (q : Request) (p : Path) (n : ℕ) (v : List ℕ) (o : ObjectShape) (a : AttributeShape) → request_of text ≡ Ok q → path_of q.path ≡ Ok p → q.service ≡ 0x10 → p.attribute ≡ Some n → value_at m p.class p.instance n ≡ Some v → own_object m.shapes p.class p.instance ≡ Some o → shape_at_number n o.attributes ≡ Some a → a.settable && a.checked ≡ true → IsRefused m text
set_code m text q p n v o a e f s at value g there t =
    let i = own_is m.shapes p.class p.instance o g in
    let found : service_at m.shapes p.class p.instance q.service ≡ Ok SetAttributeSingle =
    service_offered m.shapes p.class p.instance q.service o i ∙ ap (λ x. ok_or (offered_in x (services_of_object o)) refusals.ServiceNotSupported) s in
    record {
      refusal = refusals.AttributeNotSettable;
      refused = outcome_at m text q p _ e f found
          ∙ ap outcome_of_change (set_refused m p q.data v n at value (kind_unset m.shapes p.class p.instance n o a i there t));
      status = inr refl;
    }

set_checked : (m : Contents) (text : List ℕ) (q : Request) (p : Path) (n : ℕ) (t : Bool) (v : Option (List ℕ)) (o : Option ObjectShape) (a : AttributeShape) → request_of text ≡ Ok q → path_of q.path ≡ Ok p → q.service ≡ 0x10 → p.attribute ≡ Some n → value_at m p.class p.instance n ≡ v → own_object m.shapes p.class p.instance ≡ o → option_and_then (λ x. shape_at_number n x.attributes) o ≡ Some a → a.settable && a.checked ≡ t
    → (option_map (ask_set q p) (cond (is_some v) (cond t (Some a) None) None) ≡ None → ⊥) → IsRefused m text
set_checked m text q p n t None o a e f s at value g there c h = absurd (h refl)
set_checked m text q p n false (Some v) o a e f s at value g there c h = absurd (h refl)
set_checked m text q p n true (Some v) None a e f s at value g there c h = absurd (cc)
set_checked m text q p n true (Some v) (Some o) a e f s at value g there c h = set_code m text q p n v o a e f s at value g there c

set_found : (m : Contents) (text : List ℕ) (q : Request) (p : Path) (n : ℕ) (o : Option ObjectShape) (a : Option AttributeShape) → request_of text ≡ Ok q → path_of q.path ≡ Ok p → q.service ≡ 0x10 → p.attribute ≡ Some n → own_object m.shapes p.class p.instance ≡ o → option_and_then (λ x. shape_at_number n x.attributes) o ≡ a
    → (option_map (ask_set q p) (cond (is_some (value_at m p.class p.instance n)) (if_checked a) None) ≡ None → ⊥) → IsRefused m text
set_found m text q p n o None e f s at g there h =
    absurd (h (ap (option_map (ask_set q p)) (neither (is_some (value_at m p.class p.instance n)))))
set_found m text q p n o (Some a) e f s at g there h =
    set_checked m text q p n (a.settable && a.checked) (value_at m p.class p.instance n) o a e f s at refl g there refl h

set_named : (m : Contents) (text : List ℕ) (q : Request) (p : Path) (a : Option ℕ) → request_of text ≡ Ok q → path_of q.path ≡ Ok p → q.service ≡ 0x10 → p.attribute ≡ a
    → (option_map (ask_set q p) (option_and_then (checked_attribute m p.class p.instance) a) ≡ None → ⊥) → IsRefused m text
unfolding checked_attribute
set_named m text q p None e f s at h = absurd (h refl)
set_named m text q p (Some n) e f s at h =
    set_found m text q p n (own_object m.shapes p.class p.instance) _ e f s at refl refl h

by_service : (m : Contents) (text : List ℕ) (q : Request) (p : Path) (t : Bool) → request_of text ≡ Ok q → path_of q.path ≡ Ok p → eqb q.service 0x10 ≡ t
    → (cond t (option_map (ask_set q p) (option_and_then (checked_attribute m p.class p.instance) p.attribute)) (option_map (ask_service q p) (own_service m.shapes p.class p.instance q.service)) ≡ None → ⊥) → IsRefused m text
by_service m text q p true e f t h = set_named m text q p p.attribute e f (eqb-true q.service 0x10 t) refl h
by_service m text q p false e f t h = service_refused m text q p (own_object m.shapes p.class p.instance) (is_own_service q.service) e f refl refl h

by_its_path : (m : Contents) (text : List ℕ) (q : Request) (r : Result Path PathFault) → request_of text ≡ Ok q → path_of q.path ≡ r → (asked_by_path m q r ≡ None → ⊥) → IsRefused m text
by_its_path m text q (Err fault) e f h = absurd (h refl)
by_its_path m text q (Ok p) e f h = by_service m text q p (eqb q.service 0x10) e f refl h

by_its_request : (m : Contents) (text : List ℕ) (r : Result Request RequestFault) → request_of text ≡ r → (asked_by_request m r ≡ None → ⊥) → IsRefused m text
by_its_request m text (Err fault) e h = absurd (h refl)
by_its_request m text (Ok q) e h = by_its_path m text q (path_of q.path) e refl h

own_outcome : (m : Contents) (text : List ℕ) → (own_request m text ≡ None → ⊥) → IsRefused m text
unfolding own_request
own_outcome m text h = by_its_request m text (request_of text) refl h

refused_exec : (m : Contents) (max_size : ℕ) (text : List ℕ) (s : Refusal) → outcome m text ≡ Err s → exec m max_size text ≡ record { after = m; answer = reply_to text (refusal_status s) [] }
unfolding exec
refused_exec m max_size text s e = ap (λ r. or_refusal m text (r >>= with_reply max_size text)) e

says : (s : Refusal) (text : List ℕ) → (s ≡ refusals.ServiceNotSupported) ⊎ (s ≡ refusals.AttributeNotSettable) → (general_status (reply_to text (refusal_status s) []) ≡ 0x08) ⊎ (general_status (reply_to text (refusal_status s) []) ≡ 0x0e)
says s text (inl e) = inl (ap (λ x. general_status (reply_to text (refusal_status x) [])) e)
says s text (inr e) = inr (ap (λ x. general_status (reply_to text (refusal_status x) [])) e)

pub own_is_refused : own_is_refused_law
own_is_refused m max_size text h =
    let r = own_outcome m text h in
    let x = refused_exec m max_size text r.refusal r.refused in
    (subst (λ y. (general_status y.answer ≡ 0x08) ⊎ (general_status y.answer ≡ 0x0e)) (sym x) (says r.refusal text r.status), ap (λ y. y.after) x)
