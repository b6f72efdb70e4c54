-- The counter over a list of requests.
use Rattle.std.proofs.Common.{◌≡◌, ℕ, ◌+◌, ◌%◌, ◌^◌, ◌<◌, ◌≤◌, ◌⊎◌, inl, inr, eqb, Bool, true, false, cond, ◌&&◌, nat_le, nat_lt, List, [], ◌∷◌, length, Option, Some, None, is_some, option_map, unwrap_or, Result, Ok, Err, refl, sym, ap, ◌∙◌, arith, subst, suc, take, drop, ◌*◌}
use Rattle.std.proofs.Math.Nat.{mod-eq_of_lt}
use Rattle.std.proofs.lemmas.Bool.Decides.{nat_tests}
use Rattle.std.proofs.lemmas.Bool.Decides.{eqb_tells}
use Rattle.std.proofs.lemmas.List.{get_or-drop}
use Rattle.cip_application.specs.declared.kind.AttributeKind.{AttributeKind}
use Rattle.cip_application.specs.Values.{is_allowed as is_allowed_value}
use Rattle.byteorder.specs.Endian.{little_number}
use Rattle.cip_bytes.specs.Reading.{◌>>=◌}
use Rattle.cip_message.specs.declared.path.Path.{Path}
use Rattle.cip_message.specs.declared.request.RequestFault.{RequestFault}
use Rattle.cip_message.specs.declared.request.RequestFault.TheVariants.{PathSize}
use Rattle.cip_bytes.specs.Numbers.{le, AreBytes}
use Rattle.cip_message.specs.PathReading.{path_of}
use Rattle.cip_message.specs.Request.{Request, request_of}
use Rattle.cip_objects.specs.declared.service.Service.{Service}
use Rattle.cip_objects.specs.declared.service.Service.TheVariants.{GetAttributesAll, GetAttributeList, SetAttributeList, GetAttributeSingle, SetAttributeSingle, GetMember, SetMember, Add, Clear}
use Rattle.cip_objects.specs.declared.status.Refusal.{Refusal}
use Rattle.cip_objects.specs.declared.status.Completion.TheVariants.{Whole}
use Rattle.cip_objects.specs.declared.status.Refusal.TheVariants.{ReplyDataTooLarge}
use Rattle.cip_objects.specs.Contents.{Contents, with_value, with_change}
use Rattle.cip_objects.specs.ReadServices.{service_at, get_attribute_single, get_attributes_all, get_attribute_list, get_member}
use Rattle.cip_objects.specs.ChangeServices.{Change, after_add, is_allowed_limit, is_allowed, set_attribute_single, set_member, add, clear}
use Rattle.cip_objects.specs.Execution.{Outcome, perform, outcome, Executed, with_reply, or_refusal, exec, reply_to, run}
use Rattle.cip_objects.specs.Run.{value_of, limit_of, additions_of, IsCounter, is_counter, to_counter, addition, sum_after, sum_since_cleared, number_of_additions, counter_law}
use Rattle.cip_message.specs.Router.{general_status}
use Rattle.cip_bytes.specs.Protocol.{general_status_number}
use Rattle.cip_objects.specs.Status.{completion_status, refusal_status}
use Rattle.cip_objects.specs.ExecutionLaws.{reply_of_outcome}
use Rattle.cip_objects.proofs.Executed.{answered_by}
use Rattle.cip_objects.proofs.Refuses.{no_success}
use Rattle.cip_objects.specs.Service.{service_code}
use Rattle.std.specs.List.{list_any}
use Rattle.cip_objects.specs.Tables.{assembly_list_services, object_list_services, Shape, shape_at, services_of, ObjectShape, Shapes, object_at, is_counter_class}
use Rattle.cip_objects.proofs.Offers.{table, offered, not_among}
use Rattle.cip_objects.proofs.Effects.{goes, set_effect, Sets, member_effect, SetsMember, add_effect, clear_effect, read_effect, change_effect, chosen_code}
use Rattle.cip_objects.proofs.ReadAfterSet.{udint_at-changed, udint_at-other, udint_at-elsewhere, udint_at-set}
use Rattle.cip_objects.proofs.Blocks.{eqb-other}
use Rattle.cip_objects.proofs.ListSets.{SetsList, list_effect, all_keep, at, list_place}
use Rattle.cip_objects.proofs.Settable.{settable_limit}

table_add : (b1 b4 b6 b100 z o : Bool) (x : Option Shape) (k : Bool) (y : Option ObjectShape) (s : Service) → offered 0x32 (table b1 b4 b6 b100 z o x k y) ≡ Ok s → (b100 ≡ true) × (o ≡ true)
table_add true b4 b6 b100 true o x k y s e = absurd (cc)
table_add true b4 b6 b100 false true x k y s e = absurd (cc)
table_add true b4 b6 b100 false false x k y s e = absurd (cc)
table_add false true b6 b100 true o x k y s e = absurd (cc)
table_add false true b6 b100 false o None k y s e = absurd (cc)
table_add false true b6 b100 false o (Some w) k y s e = absurd (not_among 0x32 w.lists assembly_list_services s refl e)
table_add false false true b100 z true x k y s e = absurd (cc)
table_add false false true b100 z false x k y s e = absurd (cc)
table_add false false false true true o x k y s e = absurd (cc)
table_add false false false true false true x k y s e = (refl, refl)
table_add false false false true false false x k y s e = absurd (cc)
table_add false false false false true o x true y s e = absurd (cc)
table_add false false false false true o x false y s e = absurd (cc)
table_add false false false false false o x k None s e = absurd (cc)
table_add false false false false false o x k (Some w) s e = absurd (not_among 0x32 w.lists object_list_services s refl e)

table_clear : (b1 b4 b6 b100 z o : Bool) (x : Option Shape) (k : Bool) (y : Option ObjectShape) (s : Service) → offered 0x33 (table b1 b4 b6 b100 z o x k y) ≡ Ok s → (b100 ≡ true) × (o ≡ true)
table_clear true b4 b6 b100 true o x k y s e = absurd (cc)
table_clear true b4 b6 b100 false true x k y s e = absurd (cc)
table_clear true b4 b6 b100 false false x k y s e = absurd (cc)
table_clear false true b6 b100 true o x k y s e = absurd (cc)
table_clear false true b6 b100 false o None k y s e = absurd (cc)
table_clear false true b6 b100 false o (Some w) k y s e = absurd (not_among 0x33 w.lists assembly_list_services s refl e)
table_clear false false true b100 z true x k y s e = absurd (cc)
table_clear false false true b100 z false x k y s e = absurd (cc)
table_clear false false false true true o x k y s e = absurd (cc)
table_clear false false false true false true x k y s e = (refl, refl)
table_clear false false false true false false x k y s e = absurd (cc)
table_clear false false false false true o x true y s e = absurd (cc)
table_clear false false false false true o x false y s e = absurd (cc)
table_clear false false false false false o x k None s e = absurd (cc)
table_clear false false false false false o x k (Some w) s e = absurd (not_among 0x33 w.lists object_list_services s refl e)

both_true : (a b : Bool) → a && b ≡ true → (a ≡ true) × (b ≡ true)
both_true true b h = (refl, h)
both_true false b h = absurd (cc)

equal : (a b : ℕ) → eqb a b ≡ true → a ≡ b
equal a b e = grind (arith, nat_tests)

-- only the counter's instance can be added to or cleared
pub add_place : (shapes : Shapes) (class instance : ℕ) (s : Service) → service_at shapes class instance 0x32 ≡ Ok s → (class ≡ 100) × (instance ≡ 1)
unfolding service_at services_of
add_place shapes class instance s e =
    let t = table_add (eqb class 1) (eqb class 4) (eqb class 6) (is_counter_class shapes class) (eqb instance 0) (eqb instance 1) (shape_at instance shapes.assemblies)
    (list_any (λ o. eqb o.class class) shapes.objects) (object_at class instance shapes.objects) s e in
    (equal class 100 (both_true (eqb class 100) _ t.0).0, equal instance 1 t.1)

pub clear_place : (shapes : Shapes) (class instance : ℕ) (s : Service) → service_at shapes class instance 0x33 ≡ Ok s → (class ≡ 100) × (instance ≡ 1)
unfolding service_at services_of
clear_place shapes class instance s e =
    let t = table_clear (eqb class 1) (eqb class 4) (eqb class 6) (is_counter_class shapes class) (eqb instance 0) (eqb instance 1) (shape_at instance shapes.assemblies)
    (list_any (λ o. eqb o.class class) shapes.objects) (object_at class instance shapes.objects) s e in
    (equal class 100 (both_true (eqb class 100) _ t.0).0, equal instance 1 t.1)

abbrev pub added_by : List ℕ → Option ℕ
added_by text = option_map (little_number 4) (to_counter 0x32 (request_of text))

abbrev pub clears_by : List ℕ → Bool
clears_by text = is_some (to_counter 0x33 (request_of text))

-- the effect of a request that succeeded on the counter
pub record Effect (m : Contents) (text : List ℕ) (o : Outcome) : Type 0 where
  pub value : value_of o.after ≡ cond (clears_by text) 0 (value_of m + unwrap_or (added_by text) 0)
  pub additions : additions_of o.after ≡ (additions_of m + cond (is_some (added_by text)) 1 0) % 2 ^ 32
  pub counter : IsCounter o.after
  pub done : (o.status ≡ Whole) ⊎ ((added_by text ≡ None) × (clears_by text ≡ false))

to_other : (code : ℕ) (text : List ℕ) (q : Request) → request_of text ≡ Ok q → eqb q.service code ≡ false → to_counter code (request_of text) ≡ None
to_other code text q e h = ap (to_counter code) e ∙ ap (λ t. cond (t && is_counter (path_of q.path)) (Some q.data) None) h

pub to_it : (code : ℕ) (text : List ℕ) (q : Request) (p : Path) → request_of text ≡ Ok q → path_of q.path ≡ Ok p → eqb q.service code ≡ true → p.class ≡ 100 → p.instance ≡ 1 → to_counter code (request_of text) ≡ Some q.data
to_it code text q p e f h c i =
    ap (to_counter code) e
    ∙ ap (λ r. cond (eqb q.service code && is_counter r) (Some q.data) None) f
    ∙ ap (λ t. cond (t && (eqb p.class 100 && eqb p.instance 1)) (Some q.data) None) h
    ∙ ap (λ n. cond (eqb n 100 && eqb p.instance 1) (Some q.data) None) c
    ∙ ap (λ n. cond (eqb n 1) (Some q.data) None) i

small : (n : ℕ) → n < 2 ^ 32 → n ≡ (n + 0) % 2 ^ 32
small n h = let e : n + 0 ≡ n = omega arith in sym (ap (λ k. k % 2 ^ 32) e ∙ mod-eq_of_lt h)

-- a request that was not for the counter's value
quiet : (m : Contents) (text : List ℕ) (o : Outcome) → to_counter 0x32 (request_of text) ≡ None → to_counter 0x33 (request_of text) ≡ None → value_of o.after ≡ value_of m → additions_of o.after ≡ additions_of m → additions_of m < 2 ^ 32 → IsCounter o.after → Effect m text o
quiet m text o na nc v a h counter = record {
  value = v ∙ let e : value_of m ≡ value_of m + 0 = omega arith in e ∙ sym (ap (λ x. cond (is_some x) 0 (value_of m + unwrap_or (added_by text) 0)) nc ∙ ap (λ x. value_of m + unwrap_or (option_map (little_number 4) x) 0) na);
  additions = a ∙ small (additions_of m) h ∙ sym (ap (λ x. (additions_of m + cond (is_some (option_map (little_number 4) x)) 1 0) % 2 ^ 32) na);
  counter = counter;
  done = inr (ap (option_map (little_number 4)) na, ap is_some nc);
}

counter_like : (m n : Contents) → n.shapes ≡ m.shapes → value_of n ≡ value_of m → limit_of n ≡ limit_of m → additions_of n ≡ additions_of m → IsCounter m → IsCounter n
counter_like m n s v l a h = record { there = ap (λ k. k.has_counter) s ∙ h.there; within = omega (arith, h.within); limit = omega (arith, h.limit); additions = omega (arith, h.additions) }

-- a request of another service that did not change the counter's numbers
unmoved : (m : Contents) (text : List ℕ) (o : Outcome) (q : Request) → request_of text ≡ Ok q → eqb q.service 0x32 ≡ false → eqb q.service 0x33 ≡ false → o.after.shapes ≡ m.shapes → value_of o.after ≡ value_of m → limit_of o.after ≡ limit_of m → additions_of o.after ≡ additions_of m → IsCounter m → Effect m text o
unmoved m text o q e na nc s v l a h =
    quiet m text o (to_other 0x32 text q e na) (to_other 0x33 text q e nc) v a h.additions (counter_like m o.after s v l a h)

in_data : (short : Bool) (s w : ℕ) (rest : List ℕ) (q : Request) → AreBytes (s ∷ w ∷ rest) → ◌≡◌ {A = Result Request RequestFault} (cond short (Err PathSize) (Ok (record { service = s; path = take (2 * w) rest; «data» = drop (2 * w) rest }))) (Ok q) → AreBytes q.data
in_data true s w rest q h e = absurd (cc)
in_data false s w rest q h e =
    let same : ◌≡◌ {A = Request} (record { service = s; path = take (2 * w) rest; «data» = drop (2 * w) rest }) q = cc in
    subst AreBytes (ap (λ r. r.data) same) (λ i. rw (get_or-drop (2 * w) rest i 0) (h (suc (suc (2 * w + i)))))

-- the bytes of a request's data are bytes
data_bytes : (text : List ℕ) (q : Request) → AreBytes text → request_of text ≡ Ok q → AreBytes q.data
unfolding request_of
data_bytes [] q h e = absurd (cc)
data_bytes (s ∷ []) q h e = absurd (cc)
data_bytes (s ∷ w ∷ rest) q h e = in_data (nat_lt (length rest) (2 * w)) s w rest q h e

little_fits : (xs : List ℕ) → AreBytes xs → little_number 4 xs < 2 ^ 32
little_fits xs h = omega (arith, h 0, h 1, h 2, h 3)

at_most : (a b : ℕ) → nat_le a b ≡ true → a ≤ b
at_most a b e = grind (arith, nat_tests)

allowed_limit : (m : Contents) (kind : AttributeKind) (content : List ℕ) → m.shapes.has_counter ≡ true → is_allowed m 100 kind content ≡ true → value_of m ≤ little_number 4 content
allowed_limit m kind content there e =
    at_most (value_of m) (little_number 4 content)
    (sym (ap (λ t. cond t (is_allowed_limit m content) (is_allowed_value kind content)) there) ∙ e)

-- a set attribute
set_moves : (m : Contents) (text : List ℕ) (o : Outcome) (q : Request) (p : Path) (c : Change) → IsCounter m → AreBytes q.data → request_of text ≡ Ok q → eqb q.service 0x32 ≡ false → eqb q.service 0x33 ≡ false → o.after ≡ c.after → Sets m p q.data c → ((eqb p.class 100 ≡ true) × (p.class ≡ 100)) ⊎ ((eqb p.class 100 ≡ false) × (p.class ≡ 100 → ⊥)) → Effect m text o
set_moves m text o q p c hc hb e na nc after x (inl counter) =
    let l = settable_limit m.shapes p.class p.instance x.attribute x.kind x.can counter.1 hc.there in
    let leaves : o.after ≡ with_change m 100 1 2 q.data = after ∙ x.leaves ∙ ap (λ k. with_change m k p.instance x.attribute q.data) counter.1 ∙ ap (λ k. with_change m 100 k x.attribute q.data) l.of_instance ∙ ap (λ k. with_change m 100 1 k q.data) l.is_limit in
    let v = ap value_of leaves ∙ udint_at-elsewhere m 100 1 2 q.data 100 1 1 refl in
    let a = ap additions_of leaves ∙ udint_at-elsewhere m 100 1 2 q.data 100 1 3 refl in
    let limit : limit_of o.after ≡ little_number 4 q.data = ap limit_of leaves ∙ udint_at-changed m 100 1 2 q.data in
    let allowed = allowed_limit m x.kind q.data hc.there (sym (ap (λ k. is_allowed m k x.kind q.data) counter.1) ∙ x.allowed) in
    quiet m text o (to_other 0x32 text q e na) (to_other 0x33 text q e nc) v a hc.additions
    (record {
      there = ap (λ k. k.shapes.has_counter) leaves ∙ hc.there;
      within = rw (v, limit) allowed;
      limit = rw limit (little_fits q.data hb);
      additions = rw a hc.additions;
    })
set_moves m text o q p c hc hb e na nc after x (inr more) =
    let other = λ (b : ℕ). ap (λ t. t && (eqb 1 p.instance && eqb b x.attribute)) (eqb-other 100 p.class (λ z. more.1 (sym z))) in
    unmoved m text o q e na nc (ap (λ k. k.shapes) (after ∙ x.leaves))
    (ap value_of (after ∙ x.leaves) ∙ udint_at-elsewhere m p.class p.instance x.attribute q.data 100 1 1 (other 1))
    (ap limit_of (after ∙ x.leaves) ∙ udint_at-elsewhere m p.class p.instance x.attribute q.data 100 1 2 (other 2))
    (ap additions_of (after ∙ x.leaves) ∙ udint_at-elsewhere m p.class p.instance x.attribute q.data 100 1 3 (other 3))
    hc

-- a set member
member_moves : (m : Contents) (text : List ℕ) (o : Outcome) (q : Request) (p : Path) (c : Change) → IsCounter m → request_of text ≡ Ok q → eqb q.service 0x32 ≡ false → eqb q.service 0x33 ≡ false → o.after ≡ c.after → SetsMember m p c → Effect m text o
member_moves m text o q p c hc e na nc after x =
    unmoved m text o q e na nc (ap (λ k. k.shapes) (after ∙ x.leaves))
    (ap value_of (after ∙ x.leaves) ∙ udint_at-elsewhere m 4 p.instance 3 x.value 100 1 1 refl)
    (ap limit_of (after ∙ x.leaves) ∙ udint_at-elsewhere m 4 p.instance 3 x.value 100 1 2 refl)
    (ap additions_of (after ∙ x.leaves) ∙ udint_at-elsewhere m 4 p.instance 3 x.value 100 1 3 refl)
    hc

-- an addition
add_moves : (m : Contents) (text : List ℕ) (o : Outcome) (q : Request) (n : ℕ) → IsCounter m → to_counter 0x32 (request_of text) ≡ Some q.data → to_counter 0x33 (request_of text) ≡ None → n ≡ little_number 4 q.data → value_of m + n ≤ limit_of m → o.after ≡ after_add m (value_of m + n) → o.status ≡ Whole → Effect m text o
add_moves m text o q n hc e nc is within leaves done =
    let total = value_of m + n in
    let fits : total < 2 ^ 32 = omega (arith, hc.limit) in
    let first = with_value m 100 1 1 (le 4 total) in
    let count = (additions_of m + 1) % 2 ^ 32 in
    let v : value_of o.after ≡ total = ap value_of leaves ∙ udint_at-other first 100 1 3 (le 4 count) 100 1 1 refl ∙ udint_at-set m 100 1 1 total fits in
    let l : limit_of o.after ≡ limit_of m = ap limit_of leaves ∙ udint_at-other first 100 1 3 (le 4 count) 100 1 2 refl ∙ udint_at-other m 100 1 1 (le 4 total) 100 1 2 refl in
    let small_count : count < 2 ^ 32 = omega arith in
    let a : additions_of o.after ≡ count = ap additions_of leaves ∙ udint_at-set first 100 1 3 count small_count in
    let by : added_by text ≡ Some n = ap (option_map (little_number 4)) e ∙ ap (λ k. Some k) (sym is) in
    record {
      value = v ∙ ap (λ k. value_of m + unwrap_or k 0) (sym by) ∙ ap (λ k. cond (is_some k) 0 (value_of m + unwrap_or (added_by text) 0)) (sym nc);
      additions = a ∙ ap (λ k. (additions_of m + cond (is_some k) 1 0) % 2 ^ 32) (sym by);
      counter = record {
        there = ap (λ k. k.shapes.has_counter) leaves ∙ hc.there;
        within = rw (v, l) within;
        limit = rw l hc.limit;
        additions = rw a small_count;
      };
      done = inl done;
    }

-- a clearing
clear_moves : (m : Contents) (text : List ℕ) (o : Outcome) (q : Request) → IsCounter m → to_counter 0x33 (request_of text) ≡ Some q.data → to_counter 0x32 (request_of text) ≡ None → o.after ≡ with_value m 100 1 1 (le 4 0) → o.status ≡ Whole → Effect m text o
clear_moves m text o q hc e na leaves done =
    let v : value_of o.after ≡ 0 = ap value_of leaves ∙ udint_at-set m 100 1 1 0 (omega arith) in
    let l : limit_of o.after ≡ limit_of m = ap limit_of leaves ∙ udint_at-other m 100 1 1 (le 4 0) 100 1 2 refl in
    let a : additions_of o.after ≡ additions_of m = ap additions_of leaves ∙ udint_at-other m 100 1 1 (le 4 0) 100 1 3 refl in
    record {
      value = v ∙ ap (λ k. cond (is_some k) 0 (value_of m + unwrap_or (added_by text) 0)) (sym e);
      additions = a ∙ small (additions_of m) hc.additions ∙ sym (ap (λ x. (additions_of m + cond (is_some (option_map (little_number 4) x)) 1 0) % 2 ^ 32) na);
      counter = record {
        there = ap (λ k. k.shapes.has_counter) leaves ∙ hc.there;
        within = omega (arith, v);
        limit = omega (arith, l, hc.limit);
        additions = omega (arith, a, hc.additions);
      };
      done = inl done;
    }

still : (m : Contents) (text : List ℕ) (o : Outcome) (q : Request) → IsCounter m → request_of text ≡ Ok q → eqb q.service 0x32 ≡ false → eqb q.service 0x33 ≡ false → o.after ≡ m → Effect m text o
still m text o q hc e na nc after = unmoved m text o q e na nc (ap (λ k. k.shapes) after) (ap value_of after) (ap limit_of after) (ap additions_of after) hc

-- the counter's numbers are those that they were
record IsQuiet (m n : Contents) : Type 0 where
  shapes : n.shapes ≡ m.shapes
  value : value_of n ≡ value_of m
  limit : limit_of n ≡ limit_of m
  additions : additions_of n ≡ additions_of m

-- a set of an attribute of another class
set_quiet : (m n : Contents) (p : Path) (v : List ℕ) (c : Change) → (p.class ≡ 100 → ⊥) → Sets n p v c → IsQuiet m n
    → IsQuiet m c.after
set_quiet m n p v c apart x h =
    let other = λ (b : ℕ). ap (λ t. t && (eqb 1 p.instance && eqb b x.attribute)) (eqb-other 100 p.class (λ z. apart (sym z))) in
    record {
      shapes = ap (λ k. k.shapes) x.leaves ∙ h.shapes;
      value = ap value_of x.leaves ∙ udint_at-elsewhere n p.class p.instance x.attribute v 100 1 1 (other 1) ∙ h.value;
      limit = ap limit_of x.leaves ∙ udint_at-elsewhere n p.class p.instance x.attribute v 100 1 2 (other 2) ∙ h.limit;
      additions = ap additions_of x.leaves ∙ udint_at-elsewhere n p.class p.instance x.attribute v 100 1 3 (other 3) ∙ h.additions;
    }

-- a list of sets
list_moves : (m : Contents) (text : List ℕ) (o : Outcome) (q : Request) (p : Path) → IsCounter m → request_of text ≡ Ok q → eqb q.service 0x32 ≡ false → eqb q.service 0x33 ≡ false → SetsList m p q.data o → (p.class ≡ 100 → ⊥) → Effect m text o
list_moves m text o q p hc e na nc x apart =
    let h = all_keep (λ n. IsQuiet m n) p m x.settings
    (λ n a v c set quiet. set_quiet m n (at p a) v c apart set quiet)
    (record { shapes = refl; value = refl; limit = refl; additions = refl }) in
    unmoved m text o q e na nc (ap (λ k. k.shapes) x.after ∙ h.shapes) (ap value_of x.after ∙ h.value)
    (ap limit_of x.after ∙ h.limit) (ap additions_of x.after ∙ h.additions) hc

not_code : (s q code : ℕ) → s ≡ q → eqb s code ≡ false → eqb q code ≡ false
not_code s q code e h = ap (λ n. eqb n code) (sym e) ∙ h

is_code : (s q code : ℕ) → s ≡ q → eqb s code ≡ true → eqb q code ≡ true
is_code s q code e h = ap (λ n. eqb n code) (sym e) ∙ h

by_service : (m : Contents) (text : List ℕ) (o : Outcome) (q : Request) (p : Path) (s : Service) → IsCounter m → AreBytes q.data → request_of text ≡ Ok q → path_of q.path ≡ Ok p → service_at m.shapes p.class p.instance q.service ≡ Ok s → service_code s ≡ q.service → perform m s p q.data ≡ Ok o → Effect m text o
by_service m text o q p GetAttributesAll hc hb e f ch code done =
    still m text o q hc e (not_code 0x01 q.service 0x32 code refl) (not_code 0x01 q.service 0x33 code refl) (read_effect m (get_attributes_all m p q.data) o done)
by_service m text o q p GetAttributeList hc hb e f ch code done =
    still m text o q hc e (not_code 0x03 q.service 0x32 code refl) (not_code 0x03 q.service 0x33 code refl) (read_effect m (get_attribute_list m p q.data) o done)
by_service m text o q p SetAttributeList hc hb e f ch code done =
    list_moves m text o q p hc e (not_code 0x04 q.service 0x32 code refl) (not_code 0x04 q.service 0x33 code refl) (list_effect m p q.data o done)
    (list_place m.shapes p.class p.instance SetAttributeList hc.there
    (subst (λ k. service_at m.shapes p.class p.instance k ≡ Ok SetAttributeList) (sym code) ch))
by_service m text o q p GetAttributeSingle hc hb e f ch code done =
    still m text o q hc e (not_code 0x0e q.service 0x32 code refl) (not_code 0x0e q.service 0x33 code refl) (read_effect m (get_attribute_single m p q.data) o done)
by_service m text o q p SetAttributeSingle hc hb e f ch code done =
    let c = change_effect (set_attribute_single m p q.data) o done in
    set_moves m text o q p c.change hc hb e (not_code 0x10 q.service 0x32 code refl) (not_code 0x10 q.service 0x33 code refl) c.after (set_effect m p q.data c.change c.first) (eqb_tells p.class 100)
by_service m text o q p GetMember hc hb e f ch code done =
    still m text o q hc e (not_code 0x18 q.service 0x32 code refl) (not_code 0x18 q.service 0x33 code refl) (read_effect m (get_member m p q.data) o done)
by_service m text o q p SetMember hc hb e f ch code done =
    let c = change_effect (set_member m p q.data) o done in
    member_moves m text o q p c.change hc e (not_code 0x19 q.service 0x32 code refl) (not_code 0x19 q.service 0x33 code refl) c.after (member_effect m p q.data c.change c.first)
by_service m text o q p Add hc hb e f ch code done =
    let c = change_effect (add m q.data) o done in
    let x = add_effect m q.data c.change c.first in
    let at = add_place m.shapes p.class p.instance Add (subst (λ k. service_at m.shapes p.class p.instance k ≡ Ok Add) (sym code) ch) in
    add_moves m text o q (little_number 4 q.data) hc (to_it 0x32 text q p e f (is_code 0x32 q.service 0x32 code refl) at.0 at.1) (to_other 0x33 text q e (not_code 0x32 q.service 0x33 code refl)) refl x.within (c.after ∙ x.leaves) c.status
by_service m text o q p Clear hc hb e f ch code done =
    let c = change_effect (clear m q.data) o done in
    let x = clear_effect m q.data c.change c.first in
    let at = clear_place m.shapes p.class p.instance Clear (subst (λ k. service_at m.shapes p.class p.instance k ≡ Ok Clear) (sym code) ch) in
    clear_moves m text o q hc (to_it 0x33 text q p e f (is_code 0x33 q.service 0x33 code refl) at.0 at.1) (to_other 0x32 text q e (not_code 0x33 q.service 0x32 code refl)) (c.after ∙ x.leaves) c.status

pub effect : (m : Contents) (text : List ℕ) (o : Outcome) → IsCounter m → AreBytes text → outcome m text ≡ Ok o → Effect m text o
effect m text o hc hb e =
    let g = goes m text o e in
    by_service m text o g.request g.path g.service hc (data_bytes text g.request hb g.is_request) g.is_request g.is_path g.is_chosen (chosen_code m.shapes g.path.class g.path.instance g.request.service g.service g.is_chosen) g.is_performed

-- the effect of one execution on the counter, by the request and its reply
record Stepped (m : Contents) (text : List ℕ) (x : Executed) : Type 0 where
  value : value_of x.after ≡ sum_after (value_of m) text x.answer
  additions : additions_of x.after ≡ (additions_of m + cond (is_some (addition text x.answer)) 1 0) % 2 ^ 32
  counter : IsCounter x.after

-- a reply that is not a success counts for nothing
silent : (m : Contents) (text reply : List ℕ) → IsCounter m → eqb (general_status reply) 0 ≡ false → Stepped m text (record { after = m; answer = reply })
silent m text reply h e = record {
  value = (let n : value_of m ≡ value_of m + 0 = omega arith in n)
      ∙ sym (ap (λ t. cond (t && clears_by text) 0 (value_of m + unwrap_or (cond t (added_by text) None) 0)) e);
  additions = small (additions_of m) h.additions ∙ sym (ap (λ t. (additions_of m + cond (is_some (cond t (added_by text) None)) 1 0) % 2 ^ 32) e);
  counter = h;
}

and_false : (t : Bool) → t && false ≡ false
and_false true = refl
and_false false = refl

cond_none : (t : Bool) → ◌≡◌ {A = Option ℕ} (cond t None None) None
cond_none true = refl
cond_none false = refl

told : (m : Contents) (text reply : List ℕ) (o : Outcome) → Effect m text o → general_status reply ≡ general_status_number (completion_status o.status) → (o.status ≡ Whole) ⊎ ((added_by text ≡ None) × (clears_by text ≡ false)) → Stepped m text (record { after = o.after; answer = reply })
told m text reply o x g (inl done) =
    let e : eqb (general_status reply) 0 ≡ true = ap (λ n. eqb n 0) (g ∙ ap (λ c. general_status_number (completion_status c)) done) in
    record {
      value = x.value ∙ sym (ap (λ t. cond (t && clears_by text) 0 (value_of m + unwrap_or (cond t (added_by text) None) 0)) e);
      additions = x.additions ∙ sym (ap (λ t. (additions_of m + cond (is_some (cond t (added_by text) None)) 1 0) % 2 ^ 32) e);
      counter = x.counter;
    }
told m text reply o x g (inr none) = record {
  value = x.value ∙ ap (λ a. cond (clears_by text) 0 (value_of m + unwrap_or a 0)) none.0 ∙ ap (λ t. cond t 0 (value_of m + 0)) none.1
      ∙ sym (ap (λ t. cond t 0 (value_of m + unwrap_or (cond (eqb (general_status reply) 0) (added_by text) None) 0)) (ap (λ b. eqb (general_status reply) 0 && b) none.1 ∙ and_false (eqb (general_status reply) 0))
      ∙ ap (λ a. value_of m + unwrap_or a 0) (ap (λ a. cond (eqb (general_status reply) 0) a None) none.0 ∙ cond_none (eqb (general_status reply) 0)));
  additions = x.additions ∙ ap (λ a. (additions_of m + cond (is_some a) 1 0) % 2 ^ 32) (none.0 ∙ sym (ap (λ a. cond (eqb (general_status reply) 0) a None) none.0 ∙ cond_none (eqb (general_status reply) 0)));
  counter = x.counter;
}

by_fit : (over : Bool) (m : Contents) (text : List ℕ) (o : Outcome) → IsCounter m → Effect m text o → Stepped m text (or_refusal m text (answered_by over text o))
by_fit true m text o h x = silent m text (reply_to text (refusal_status ReplyDataTooLarge) []) h refl
by_fit false m text o h x = told m text (reply_of_outcome text o) o x refl x.done

by_outcome : (m : Contents) (max_size : ℕ) (text : List ℕ) (r : Result Outcome Refusal) → IsCounter m → ((o : Outcome) → r ≡ Ok o → Effect m text o) → Stepped m text (or_refusal m text (r >>= with_reply max_size text))
by_outcome m max_size text (Err s) h x = silent m text (reply_to text (refusal_status s) []) h (no_success s)
by_outcome m max_size text (Ok o) h x = by_fit (nat_lt max_size (length (reply_of_outcome text o))) m text o h (x o refl)

stepped : (m : Contents) (max_size : ℕ) (text : List ℕ) → IsCounter m → AreBytes text → Stepped m text (exec m max_size text)
unfolding exec
stepped m max_size text h b = by_outcome m max_size text (outcome m text) h (λ o e. effect m text o h b e)

twice : (a b c : ℕ) → ((a + b) % 2 ^ 32 + c) % 2 ^ 32 ≡ (a + (b + c)) % 2 ^ 32
twice a b c = omega arith

-- the counter counts, over every list of requests
pub counts : counter_law
counts m [] h b = record {
  value = refl;
  within = h.within;
  additions = small (additions_of m) h.additions;
}
counts m (r ∷ requests) h b =
    let x = exec m r.0 r.1 in
    let s = stepped m r.0 r.1 h b.0 in
    let later = counts x.after requests s.counter b.1 in
    record {
      value = later.value ∙ ap (λ v. sum_since_cleared v requests (run x.after requests).answers) s.value;
      within = later.within;
      additions = later.additions ∙ ap (λ a. (a + number_of_additions requests (run x.after requests).answers) % 2 ^ 32) s.additions
          ∙ twice (additions_of m) (cond (is_some (addition r.1 x.answer)) 1 0) (number_of_additions requests (run x.after requests).answers);
    }
