-- The changes of an assembly over a list of requests.
use Rattle.std.specs.Prelude.{slice_index}
use Rattle.std.proofs.Common.{zero, suc, ◌++◌, drop, ◌≡◌, ℕ, ◌+◌, ◌%◌, ◌^◌, ◌<◌, ◌⊎◌, inl, inr, eqb, Bool, true, false, cond, ◌&&◌, ◌||◌, nat_lt, List, [], ◌∷◌, length, Option, Some, None, option_map, Result, Ok, Err, refl, sym, ap, ◌∙◌, arith, subst}
use Rattle.std.proofs.Math.Nat.{mod-eq_of_lt}
use Rattle.std.proofs.lemmas.Bool.{eqb-true}
use Rattle.cip_bytes.specs.Reading.{◌>>=◌}
use Rattle.cip_message.specs.declared.path.Path.{Path}
use Rattle.cip_message.specs.PathReading.{path_of}
use Rattle.cip_message.specs.Request.{Request, request_of}
use Rattle.cip_objects.specs.declared.service.Service.{Service}
use Rattle.cip_objects.specs.declared.service.Service.TheVariants.{GetAttributesAll, GetAttributeList, SetAttributeList, GetAttributeSingle, SetAttributeSingle, GetMember, SetMember, Add, Clear}
use Rattle.cip_objects.specs.declared.status.Refusal.{Refusal}
use Rattle.cip_objects.specs.declared.status.Completion.TheVariants.{Whole}
use Rattle.cip_objects.specs.declared.status.Refusal.TheVariants.{PathSegmentError, PathDestinationUnknown, ServiceNotSupported, InvalidAttributeValue, AttributeNotSettable, ReplyDataTooLarge, NotEnoughData, AttributeNotSupported, TooMuchData, InvalidParameter, PathSizeInvalid, InvalidMemberId}
use Rattle.cip_objects.specs.Changes.{Tally, one_more, is_key, changes_at, counted_in}
use Rattle.cip_objects.specs.ChangesRun.{is_attribute, leads_to, sets_attribute, is_write, leads_to_object, settings_in, sets_in, list_writes, writes_of, number_of_writes, changes_law}
use Rattle.cip_objects.specs.SetLists.{Setting, set_one, contents_after, set_status, set_all, settings_or_none}
use Rattle.cip_bytes.specs.Numbers.{le, words_of}
use Rattle.cip_message.specs.declared.request.RequestFault.{RequestFault}
use Rattle.cip_objects.specs.ObjectMap.{Key, key}
use Rattle.cip_objects.specs.Contents.{Contents, with_change}
use Rattle.cip_objects.specs.ReadServices.{service_at, get_attribute_single, get_attributes_all, get_attribute_list, get_member}
use Rattle.cip_objects.specs.ChangeServices.{Change, set_attribute_single, set_member, add, clear}
use Rattle.cip_objects.specs.Execution.{Outcome, perform, outcome, Executed, with_reply, or_refusal, exec, reply_to, run}
use Rattle.cip_message.specs.Router.{general_status}
use Rattle.cip_bytes.specs.Protocol.{general_status_number}
use Rattle.cip_objects.specs.Status.{completion_status, refusal_status}
use Rattle.cip_objects.specs.ExecutionLaws.{reply_of_outcome}
use Rattle.cip_objects.specs.Service.{service_code}
use Rattle.std.specs.List.{list_any}
use Rattle.cip_objects.specs.Tables.{object_list_services, Shape, shape_at, services_of, ObjectShape, Shapes, object_at, is_counter_class}
use Rattle.cip_objects.proofs.Effects.{Goes, goes, set_effect, member_effect, add_effect, clear_effect, read_effect, change_effect, chosen_code}
use Rattle.cip_objects.proofs.Executed.{answered_by}
use Rattle.cip_objects.proofs.Offers.{table, offered, not_among}
use Rattle.cip_objects.proofs.ListSets.{SetsList, list_effect, all_keep, at, is_set_list}
use Rattle.cip_objects.proofs.Refuses.{no_success, exec_left}

-- the count of i, after a change was counted if t says so
abbrev counted_if : Bool → Option ℕ → Option ℕ
counted_if t now = cond t (option_map one_more now) now

front : (t : Bool) (k : Key) (a b : List Tally) → changes_at k (cond t a b) ≡ cond t (changes_at k a) (changes_at k b)
front true k a b = refl
front false k a b = refl

by_tests : (tj ti ji : Bool) (c : ℕ) (now later : Option ℕ) → (tj ≡ true → ti ≡ ji) → (tj ≡ false → ti ≡ true → ji ≡ false) → later ≡ counted_if ji now → cond tj (cond ti (Some (one_more c)) now) (cond ti (Some c) later) ≡ counted_if ji (cond ti (Some c) now)
by_tests true true true c now later f g h = refl
by_tests true true false c now later f g h = absurd (let e = f refl in cc)
by_tests true false true c now later f g h = absurd (let e = f refl in cc)
by_tests true false false c now later f g h = refl
by_tests false true true c now later f g h = absurd (let e = g refl refl in cc)
by_tests false true false c now later f g h = refl
by_tests false false ji c now later f g h = h

both_true : (a b : Bool) → a && b ≡ true → (a ≡ true) × (b ≡ true)
both_true true b h = (refl, h)
both_true false b h = absurd (cc)

-- a key is known by its three numbers
same : (j k : Key) → is_key j k ≡ true → j ≡ k
same j k e =
    let a = both_true (eqb j.class k.class) _ e in
    let b = both_true (eqb j.instance k.instance) _ a.1 in
    let class = eqb-true j.class k.class a.0 in
    let instance = eqb-true j.instance k.instance b.0 in
    let attribute = eqb-true j.attribute k.attribute b.1 in
    λ i. record { class = class i; instance = instance i; attribute = attribute i }

same_test : (t k j : Key) → is_key t j ≡ true → is_key t k ≡ is_key j k
same_test t k j e = ap (λ n. is_key n k) (same t j e)

other : (b : Bool) (t k j : Key) → is_key j k ≡ b → is_key t j ≡ false → is_key t k ≡ true → b ≡ false
other true t k j g e f = absurd (let h = ap (is_key t) (same j k g) in cc)
other false t k j g e f = refl

other_test : (t k j : Key) → is_key t j ≡ false → is_key t k ≡ true → is_key j k ≡ false
other_test t k j e f = other (is_key j k) t k j refl e f

counted_read : (k j : Key) (ts : List Tally) → changes_at k (counted_in j ts) ≡ counted_if (is_key j k) (changes_at k ts)
counted_read k j [] = elim (is_key j k) as (λ t. ◌≡◌ {A = Option ℕ} None (cond t None None)) [
  | true ↦ refl
  | false ↦ refl
]
counted_read k j (t ∷ ts) =
    front (is_key t.of_key j) k _ _
    ∙ by_tests (is_key t.of_key j) (is_key t.of_key k) (is_key j k) t.changes (changes_at k ts) (changes_at k (counted_in j ts))
    (same_test t.of_key k j) (other_test t.of_key k j) (counted_read k j ts)

-- the effect of a request that succeeded on the count of an attribute
record Effect (m : Contents) (k : Key) (text : List ℕ) (o : Outcome) : Type 0 where
  count : changes_at k o.after.changes ≡ counted_if (sets_attribute k (request_of text)) (changes_at k m.changes)
  done : (o.status ≡ Whole) ⊎ (sets_attribute k (request_of text) ≡ false)

no_setting : (k : Key) (text : List ℕ) (q : Request) → request_of text ≡ Ok q → eqb q.service 0x10 || eqb q.service 0x19 ≡ false → sets_attribute k (request_of text) ≡ false
no_setting k text q e h = ap (sets_attribute k) e ∙ ap (λ t. t && leads_to k (path_of q.path)) h

a_setting : (k : Key) (text : List ℕ) (q : Request) (p : Path) (a : ℕ) → request_of text ≡ Ok q → path_of q.path ≡ Ok p → p.attribute ≡ Some a → eqb q.service 0x10 || eqb q.service 0x19 ≡ true → sets_attribute k (request_of text) ≡ is_key (key p.class p.instance a) k
a_setting k text q p a e f named h =
    ap (sets_attribute k) e ∙ ap (λ t. t && leads_to k (path_of q.path)) h ∙ ap (leads_to k) f
    ∙ ap (λ x. eqb p.class k.class && (eqb p.instance k.instance && is_attribute k.attribute x)) named

-- a request of another service does not change the counts
unmoved : (m : Contents) (k : Key) (text : List ℕ) (o : Outcome) (q : Request) → request_of text ≡ Ok q → eqb q.service 0x10 || eqb q.service 0x19 ≡ false → o.after.changes ≡ m.changes → Effect m k text o
unmoved m k text o q e h same =
    let none = no_setting k text q e h in
    record {
      count = ap (changes_at k) same ∙ sym (ap (λ t. counted_if t (changes_at k m.changes)) none);
      done = inr none;
    }

-- one of the two that set data
moved : (m : Contents) (k : Key) (text : List ℕ) (o : Outcome) (q : Request) (p : Path) (a : ℕ) → request_of text ≡ Ok q → path_of q.path ≡ Ok p → p.attribute ≡ Some a → eqb q.service 0x10 || eqb q.service 0x19 ≡ true → o.after.changes ≡ counted_in (key p.class p.instance a) m.changes → o.status ≡ Whole → Effect m k text o
moved m k text o q p a e f named h leaves done = record {
  count = ap (changes_at k) leaves ∙ counted_read k (key p.class p.instance a) m.changes
      ∙ sym (ap (λ t. counted_if t (changes_at k m.changes)) (a_setting k text q p a e f named h));
  done = inl done;
}

table_member : (b1 b4 b6 b100 z o : Bool) (x : Option Shape) (k : Bool) (y : Option ObjectShape) (s : Service) → offered 0x19 (table b1 b4 b6 b100 z o x k y) ≡ Ok s → b4 ≡ true
table_member true b4 b6 b100 true o x k y s e = absurd (cc)
table_member true b4 b6 b100 false true x k y s e = absurd (cc)
table_member true b4 b6 b100 false false x k y s e = absurd (cc)
table_member false true b6 b100 z o x k y s e = refl
table_member false false true b100 z true x k y s e = absurd (cc)
table_member false false true b100 z false x k y s e = absurd (cc)
table_member false false false true true o x k y s e = absurd (cc)
table_member false false false true false true x k y s e = absurd (cc)
table_member false false false true false false x k y s e = absurd (cc)
table_member false false false false true o x true y s e = absurd (cc)
table_member false false false false true o x false y s e = absurd (cc)
table_member false false false false false o x k None s e = absurd (cc)
table_member false false false false false o x k (Some w) s e = absurd (not_among 0x19 w.lists object_list_services s refl e)

-- only an assembly has members
member_class : (shapes : Shapes) (class instance : ℕ) (s : Service) → service_at shapes class instance 0x19 ≡ Ok s → eqb class 4 ≡ true
unfolding service_at services_of
member_class shapes class instance s e =
    table_member (eqb class 1) (eqb class 4) (eqb class 6) (is_counter_class shapes class) (eqb instance 0) (eqb instance 1) (shape_at instance shapes.assemblies)
    (list_any (λ o. eqb o.class class) shapes.objects) (object_at class instance shapes.objects) s e

setting_code : (s q : ℕ) (t : Bool) → s ≡ q → eqb s 0x10 || eqb s 0x19 ≡ t → eqb q 0x10 || eqb q 0x19 ≡ t
setting_code s q t e h = ap (λ n. eqb n 0x10 || eqb n 0x19) (sym e) ∙ h

by_service : (m : Contents) (i : Key) (text : List ℕ) (o : Outcome) (q : Request) (p : Path) (s : Service) → eqb (service_code s) 0x04 ≡ false → request_of text ≡ Ok q → path_of q.path ≡ Ok p → service_at m.shapes p.class p.instance q.service ≡ Ok s → service_code s ≡ q.service → perform m s p q.data ≡ Ok o → Effect m i text o
by_service m i text o q p GetAttributesAll other e f ch code done =
    unmoved m i text o q e (setting_code 0x01 q.service false code refl) (ap (λ k. k.changes) (read_effect m (get_attributes_all m p q.data) o done))
by_service m i text o q p GetAttributeList other e f ch code done =
    unmoved m i text o q e (setting_code 0x03 q.service false code refl) (ap (λ k. k.changes) (read_effect m (get_attribute_list m p q.data) o done))
by_service m i text o q p SetAttributeList other e f ch code done = absurd (cc)
by_service m i text o q p GetAttributeSingle other e f ch code done =
    unmoved m i text o q e (setting_code 0x0e q.service false code refl) (ap (λ k. k.changes) (read_effect m (get_attribute_single m p q.data) o done))
by_service m i text o q p SetAttributeSingle other e f ch code done =
    let c = change_effect (set_attribute_single m p q.data) o done in
    let x = set_effect m p q.data c.change c.first in
    moved m i text o q p x.attribute e f x.named (setting_code 0x10 q.service true code refl) (ap (λ k. k.changes) (c.after ∙ x.leaves)) c.status
by_service m i text o q p GetMember other e f ch code done =
    unmoved m i text o q e (setting_code 0x18 q.service false code refl) (ap (λ k. k.changes) (read_effect m (get_member m p q.data) o done))
by_service m i text o q p SetMember other e f ch code done =
    let c = change_effect (set_member m p q.data) o done in
    let x = member_effect m p q.data c.change c.first in
    let class = member_class m.shapes p.class p.instance SetMember (subst (λ k. service_at m.shapes p.class p.instance k ≡ Ok SetMember) (sym code) ch) in
    moved m i text o q p 3 e f x.named (setting_code 0x19 q.service true code refl)
    (ap (λ k. k.changes) (c.after ∙ x.leaves) ∙ sym (ap (λ n. counted_in (key n p.instance 3) m.changes) (eqb-true p.class 4 class))) c.status
by_service m i text o q p Add other e f ch code done =
    let c = change_effect (add m q.data) o done in
    let x = add_effect m q.data c.change c.first in
    unmoved m i text o q e (setting_code 0x32 q.service false code refl) (ap (λ k. k.changes) (c.after ∙ x.leaves))
by_service m i text o q p Clear other e f ch code done =
    let c = change_effect (clear m q.data) o done in
    let x = clear_effect m q.data c.change c.first in
    unmoved m i text o q e (setting_code 0x33 q.service false code refl) (ap (λ k. k.changes) (c.after ∙ x.leaves))

-- the count after so many changes
abbrev counted_times : ℕ → Option ℕ → Option ℕ
counted_times zero now = now
counted_times (suc n) now = counted_times n (option_map one_more now)

one_time : (t : Bool) (now : Option ℕ) → counted_if t now ≡ counted_times (cond t 1 0) now
one_time true now = refl
one_time false now = refl

same_some : (a b : ℕ) → ◌≡◌ {A = Option ℕ} (Some a) (Some b) → a ≡ b
same_some a b e = cc

one_more_set : (n : ℕ) (now : Option ℕ) → counted_times n (option_map one_more now) ≡ counted_times (1 + n) now
one_more_set n now = let e : 1 + n ≡ suc n = omega arith in sym (ap (λ k. counted_times k now) e)

none_more : (n : ℕ) → n ≡ 0 + n
none_more n = omega arith

-- one set of a list counts if it is of this attribute
set_counts : (a b t : Bool) (n : ℕ) (now : Option ℕ)
    → counted_times (cond (a && b) n 0) (counted_if (a && (b && t)) now)
    ≡ counted_times (cond (a && b) (cond (t && true) 1 0 + n) 0) now
set_counts true true true n now = one_more_set n now
set_counts true true false n now = ap (λ k. counted_times k now) (none_more n)
set_counts true false t n now = refl
set_counts false b t n now = refl

unset_counts : (l t w : Bool) (n : ℕ) → w ≡ false → cond l n 0 ≡ cond l (cond (t && w) 1 0 + n) 0
unset_counts l t true n e = absurd (cc)
unset_counts true true false n e = none_more n
unset_counts true false false n e = none_more n
unset_counts false t false n e = refl

-- the status of a set that was refused is not 0
refused_word : (f : Refusal) → eqb (slice_index (words_of (le 2 (general_status_number (refusal_status f)))) 0) 0 ≡ false
refused_word PathSegmentError = refl
refused_word PathDestinationUnknown = refl
refused_word ServiceNotSupported = refl
refused_word InvalidAttributeValue = refl
refused_word AttributeNotSettable = refl
refused_word ReplyDataTooLarge = refl
refused_word NotEnoughData = refl
refused_word AttributeNotSupported = refl
refused_word TooMuchData = refl
refused_word InvalidParameter = refl
refused_word PathSizeInvalid = refl
refused_word InvalidMemberId = refl

-- the path leads to the object of the attribute
abbrev is_here : Path → Key → Bool
is_here p k = eqb p.class k.class && eqb p.instance k.instance

-- the entries of these sets
abbrev words_at : Contents → Path → List Setting → List ℕ
words_at m p settings = words_of (set_all m p settings).entries

-- what the first of a list counts, if the rest counts so
first_counts : (m : Contents) (p : Path) (k : Key) (s : Setting) (settings : List Setting) (r : Result Change Refusal)
    → set_one m p s ≡ r
    → changes_at k (set_all (contents_after m r) p settings).after.changes
    ≡ counted_times (cond (is_here p k) (sets_in k.attribute settings (words_at (contents_after m r) p settings)) 0)
    (changes_at k (contents_after m r).changes)
    → changes_at k (set_all (contents_after m r) p settings).after.changes
    ≡ counted_times (cond (is_here p k) (sets_in k.attribute (s ∷ settings)
    (words_of ((le 2 s.attribute ++ le 2 (set_status r)) ++ (set_all (contents_after m r) p settings).entries))) 0)
    (changes_at k m.changes)
first_counts m p k s settings (Ok c) e later =
    let x = set_effect m (at p s.attribute) s.value c e in
    let n = sets_in k.attribute settings (words_at c.after p settings) in
    let left : c.after ≡ with_change m p.class p.instance s.attribute s.value =
    x.leaves ∙ ap (λ a. with_change m p.class p.instance a s.value) (sym (same_some s.attribute x.attribute x.named)) in
    later
    ∙ ap (counted_times (cond (is_here p k) n 0))
    (ap (λ z. changes_at k z.changes) left ∙ counted_read k (key p.class p.instance s.attribute) m.changes)
    ∙ set_counts (eqb p.class k.class) (eqb p.instance k.instance) (eqb s.attribute k.attribute) n (changes_at k m.changes)
first_counts m p k s settings (Err f) e later =
    later
    ∙ ap (λ n. counted_times n (changes_at k m.changes))
    (unset_counts (is_here p k) (eqb s.attribute k.attribute) _ (sets_in k.attribute settings (words_at m p settings))
    (refused_word f))

-- the changes of an attribute that a list of sets makes
list_counts : (m : Contents) (p : Path) (k : Key) (settings : List Setting)
    → changes_at k (set_all m p settings).after.changes
    ≡ counted_times (cond (is_here p k) (sets_in k.attribute settings (words_at m p settings)) 0) (changes_at k m.changes)
list_counts m p k [] = elim (is_here p k) as (λ t. changes_at k m.changes ≡ counted_times (cond t 0 0) (changes_at k m.changes)) [
  | true ↦ refl
  | false ↦ refl
]
list_counts m p k (s ∷ settings) =
    first_counts m p k s settings (set_one m p s) refl (list_counts (contents_after m (set_one m p s)) p k settings)

-- a list of sets, by its reply
record Listed (m : Contents) (i : Key) (text : List ℕ) (o : Outcome) : Type 0 where
  count : changes_at i o.after.changes
      ≡ counted_times (list_writes m.shapes i (request_of text) (reply_of_outcome text o)) (changes_at i m.changes)
  none : sets_attribute i (request_of text) ≡ false

listed : (m : Contents) (i : Key) (text : List ℕ) (o : Outcome) (q : Request) (p : Path) → request_of text ≡ Ok q
    → path_of q.path ≡ Ok p → q.service ≡ 0x04 → SetsList m p q.data o → Listed m i text o
listed m i text o q p e f code x =
    let reply = reply_of_outcome text o in
    let words : words_of (drop 6 reply) ≡ words_at m p x.settings =
    ap (λ c. words_of (drop 6 (reply_to text (completion_status o.status) c))) x.answers in
    let asked : settings_in m.shapes (Ok p) q.data ≡ x.settings = ap settings_or_none x.read in
    let writes : list_writes m.shapes i (request_of text) reply
    ≡ cond (is_here p i) (sets_in i.attribute x.settings (words_at m p x.settings)) 0 =
    ap (λ r. list_writes m.shapes i r reply) e
    ∙ ap (λ n. cond (eqb n 0x04 && leads_to_object i (path_of q.path)) (sets_in i.attribute (settings_in m.shapes (path_of q.path) q.data) (words_of (drop 6 reply))) 0) code
    ∙ ap (λ r. cond (leads_to_object i r) (sets_in i.attribute (settings_in m.shapes r q.data) (words_of (drop 6 reply))) 0) f
    ∙ ap (λ ss. cond (is_here p i) (sets_in i.attribute ss (words_of (drop 6 reply))) 0) asked
    ∙ ap (λ ws. cond (is_here p i) (sets_in i.attribute x.settings ws) 0) words in
    record {
      count = ap (λ z. changes_at i z.changes) x.after ∙ list_counts m p i x.settings
          ∙ sym (ap (λ n. counted_times n (changes_at i m.changes)) writes);
      none = no_setting i text q e (ap (λ n. eqb n 0x10 || eqb n 0x19) code);
    }

-- another service
record Single (m : Contents) (i : Key) (text : List ℕ) (o : Outcome) : Type 0 where
  effect : Effect m i text o
  none : (reply : List ℕ) → list_writes m.shapes i (request_of text) reply ≡ 0

no_list : (shapes : Shapes) (i : Key) (text : List ℕ) (q : Request) (reply : List ℕ) → request_of text ≡ Ok q
    → eqb q.service 0x04 ≡ false → list_writes shapes i (request_of text) reply ≡ 0
no_list shapes i text q reply e h =
    ap (λ r. list_writes shapes i r reply) e
    ∙ ap (λ t. cond (t && leads_to_object i (path_of q.path)) (sets_in i.attribute (settings_in shapes (path_of q.path) q.data) (words_of (drop 6 reply))) 0) h

by_kind : (m : Contents) (i : Key) (text : List ℕ) (o : Outcome) (g : Goes m text o)
    → (g.service ≡ SetAttributeList) ⊎ (eqb (service_code g.service) 0x04 ≡ false) → Single m i text o ⊎ Listed m i text o
by_kind m i text o g (inl list) =
    let code = chosen_code m.shapes g.path.class g.path.instance g.request.service g.service g.is_chosen in
    let performed : perform m SetAttributeList g.path g.request.data ≡ Ok o =
    ap (λ s. perform m s g.path g.request.data) (sym list) ∙ g.is_performed in
    inr (listed m i text o g.request g.path g.is_request g.is_path (sym code ∙ ap service_code list)
    (list_effect m g.path g.request.data o performed))
by_kind m i text o g (inr other) =
    let code = chosen_code m.shapes g.path.class g.path.instance g.request.service g.service g.is_chosen in
    inl (record {
      effect = by_service m i text o g.request g.path g.service other g.is_request g.is_path g.is_chosen code g.is_performed;
      none = λ reply. no_list m.shapes i text g.request reply g.is_request (ap (λ n. eqb n 0x04) (sym code) ∙ other);
    })

effect : (m : Contents) (i : Key) (text : List ℕ) (o : Outcome) → outcome m text ≡ Ok o
    → Single m i text o ⊎ Listed m i text o
effect m i text o e = let g = goes m text o e in by_kind m i text o g (is_set_list g.service)

-- the effect of one execution on the count, by the request and its reply
record Stepped (m : Contents) (i : Key) (text : List ℕ) (x : Executed) : Type 0 where
  count : changes_at i x.after.changes ≡ counted_times (writes_of m.shapes i text x.answer) (changes_at i m.changes)

nothing_in : (attribute : ℕ) (settings : List Setting) → sets_in attribute settings [] ≡ 0
nothing_in attribute [] = refl
nothing_in attribute (s ∷ settings) = refl

cond_zero : (t : Bool) (n : ℕ) → n ≡ 0 → cond t n 0 ≡ 0
cond_zero true n e = e
cond_zero false n e = refl

-- a refusal has no entries
without_entries : (shapes : Shapes) (i : Key) (r : Result Request RequestFault) (text : List ℕ) (s : Refusal)
    → list_writes shapes i r (reply_to text (refusal_status s) []) ≡ 0
without_entries shapes i (Err f) text s = refl
without_entries shapes i (Ok q) text s =
    cond_zero (eqb q.service 0x04 && leads_to_object i (path_of q.path)) _
    (nothing_in i.attribute (settings_in shapes (path_of q.path) q.data))

as_single : (m : Contents) (i : Key) (text reply : List ℕ) → list_writes m.shapes i (request_of text) reply ≡ 0
    → counted_if (is_write i text reply) (changes_at i m.changes)
    ≡ counted_times (writes_of m.shapes i text reply) (changes_at i m.changes)
as_single m i text reply none =
    one_time (is_write i text reply) (changes_at i m.changes)
    ∙ ap (λ n. counted_times n (changes_at i m.changes))
    (let e : cond (is_write i text reply) 1 0 ≡ writes_of m.shapes i text reply = omega (arith, none) in e)

silent : (m : Contents) (i : Key) (text : List ℕ) (s : Refusal)
    → Stepped m i text (record { after = m; answer = reply_to text (refusal_status s) [] })
silent m i text s = record {
  count = sym (ap (λ t. counted_if (t && sets_attribute i (request_of text)) (changes_at i m.changes)) (no_success s))
      ∙ as_single m i text (reply_to text (refusal_status s) []) (without_entries m.shapes i (request_of text) text s);
}

and_false : (t : Bool) → t && false ≡ false
and_false true = refl
and_false false = refl

told : (m : Contents) (i : Key) (text reply : List ℕ) (o : Outcome) → Effect m i text o
    → general_status reply ≡ general_status_number (completion_status o.status)
    → (o.status ≡ Whole) ⊎ (sets_attribute i (request_of text) ≡ false)
    → changes_at i o.after.changes ≡ counted_if (is_write i text reply) (changes_at i m.changes)
told m i text reply o x g (inl done) =
    let e : eqb (general_status reply) 0 ≡ true = ap (λ n. eqb n 0) (g ∙ ap (λ c. general_status_number (completion_status c)) done) in
    x.count ∙ sym (ap (λ t. counted_if (t && sets_attribute i (request_of text)) (changes_at i m.changes)) e)
told m i text reply o x g (inr none) =
    x.count ∙ ap (λ t. counted_if t (changes_at i m.changes))
    (none ∙ sym (ap (λ b. eqb (general_status reply) 0 && b) none ∙ and_false (eqb (general_status reply) 0)))

not_single : (m : Contents) (i : Key) (text reply : List ℕ) → sets_attribute i (request_of text) ≡ false
    → list_writes m.shapes i (request_of text) reply ≡ writes_of m.shapes i text reply
not_single m i text reply none =
    let e : is_write i text reply ≡ false = ap (λ b. eqb (general_status reply) 0 && b) none ∙ and_false (eqb (general_status reply) 0) in
    let n = list_writes m.shapes i (request_of text) reply in
    none_more n ∙ sym (ap (λ t. cond t 1 0 + n) e)

by_answer : (m : Contents) (i : Key) (text : List ℕ) (o : Outcome) → Single m i text o ⊎ Listed m i text o
    → Stepped m i text (record { after = o.after; answer = reply_of_outcome text o })
by_answer m i text o (inl x) = record {
  count = told m i text (reply_of_outcome text o) o x.effect refl x.effect.done
      ∙ as_single m i text (reply_of_outcome text o) (x.none (reply_of_outcome text o));
}
by_answer m i text o (inr x) = record {
  count = x.count ∙ ap (λ n. counted_times n (changes_at i m.changes)) (not_single m i text (reply_of_outcome text o) x.none);
}

by_fit : (over : Bool) (m : Contents) (i : Key) (text : List ℕ) (o : Outcome) → Single m i text o ⊎ Listed m i text o
    → Stepped m i text (or_refusal m text (answered_by over text o))
by_fit true m i text o x = silent m i text ReplyDataTooLarge
by_fit false m i text o x = by_answer m i text o x

by_outcome : (m : Contents) (i : Key) (max_size : ℕ) (text : List ℕ) (r : Result Outcome Refusal)
    → ((o : Outcome) → r ≡ Ok o → Single m i text o ⊎ Listed m i text o)
    → Stepped m i text (or_refusal m text (r >>= with_reply max_size text))
by_outcome m i max_size text (Err s) x = silent m i text s
by_outcome m i max_size text (Ok o) x = by_fit (nat_lt max_size (length (reply_of_outcome text o))) m i text o (x o refl)

stepped : (m : Contents) (i : Key) (max_size : ℕ) (text : List ℕ) → Stepped m i text (exec m max_size text)
unfolding exec
stepped m i max_size text = by_outcome m i max_size text (outcome m text) (λ o e. effect m i text o e)

small : (n : ℕ) → n < 2 ^ 32 → n ≡ (n + 0) % 2 ^ 32
small n h = let e : n + 0 ≡ n = omega arith in sym (ap (λ k. k % 2 ^ 32) e ∙ mod-eq_of_lt h)

twice : (a b c : ℕ) → ((a + b) % 2 ^ 32 + c) % 2 ^ 32 ≡ (a + (b + c)) % 2 ^ 32
twice a b c = omega arith

below : (n : ℕ) → n % 2 ^ 32 < 2 ^ 32
below n = omega arith

many_steps : (w n : ℕ) → n < 2 ^ 32 → counted_times w (Some n) ≡ Some ((n + w) % 2 ^ 32)
many_steps zero n h = ap (λ k. Some k) (small n h)
many_steps (suc w) n h =
    many_steps w (one_more n) (below (n + 1))
    ∙ ap (λ k. Some k) (twice n 1 w ∙ ap (λ k. (n + k) % 2 ^ 32) (let e : 1 + w ≡ suc w = omega arith in e))

-- no request changes the tables
perform_tables : (m : Contents) (s : Service) (path : Path) (content : List ℕ) (o : Outcome)
    → perform m s path content ≡ Ok o → o.after.shapes ≡ m.shapes
perform_tables m GetAttributesAll path content o e = ap (λ k. k.shapes) (read_effect m (get_attributes_all m path content) o e)
perform_tables m GetAttributeList path content o e = ap (λ k. k.shapes) (read_effect m (get_attribute_list m path content) o e)
perform_tables m SetAttributeList path content o e =
    let x = list_effect m path content o e in
    ap (λ k. k.shapes) x.after
    ∙ all_keep (λ n. n.shapes ≡ m.shapes) path m x.settings (λ n a v c set same. ap (λ k. k.shapes) set.leaves ∙ same) refl
perform_tables m GetAttributeSingle path content o e = ap (λ k. k.shapes) (read_effect m (get_attribute_single m path content) o e)
perform_tables m SetAttributeSingle path content o e =
    let c = change_effect (set_attribute_single m path content) o e in
    ap (λ k. k.shapes) (c.after ∙ (set_effect m path content c.change c.first).leaves)
perform_tables m GetMember path content o e = ap (λ k. k.shapes) (read_effect m (get_member m path content) o e)
perform_tables m SetMember path content o e =
    let c = change_effect (set_member m path content) o e in
    ap (λ k. k.shapes) (c.after ∙ (member_effect m path content c.change c.first).leaves)
perform_tables m Add path content o e =
    let c = change_effect (add m content) o e in
    ap (λ k. k.shapes) (c.after ∙ (add_effect m content c.change c.first).leaves)
perform_tables m Clear path content o e =
    let c = change_effect (clear m content) o e in
    ap (λ k. k.shapes) (c.after ∙ (clear_effect m content c.change c.first).leaves)

either_tables : (m n : Contents) (text : List ℕ) → (n ≡ m) ⊎ ((o : Outcome) × (outcome m text ≡ Ok o) × (n ≡ o.after))
    → n.shapes ≡ m.shapes
either_tables m n text (inl same) = ap (λ k. k.shapes) same
either_tables m n text (inr x) =
    let g = goes m text x.0 x.1 in
    ap (λ k. k.shapes) x.2 ∙ perform_tables m g.service g.path g.request.data x.0 g.is_performed

pub exec_tables : (m : Contents) (max_size : ℕ) (text : List ℕ) → (exec m max_size text).after.shapes ≡ m.shapes
exec_tables m max_size text = either_tables m (exec m max_size text).after text (exec_left m max_size text)

-- the changes count the writes, over every list of requests
pub changes_count : changes_law
changes_count m [] i n e h = e ∙ ap (λ k. Some k) (small n h)
changes_count m (r ∷ requests) i n e h =
    let x = exec m r.0 r.1 in
    let w = writes_of m.shapes i r.1 x.answer in
    let now = (stepped m i r.0 r.1).count ∙ ap (counted_times w) e ∙ many_steps w n h in
    let later = changes_count x.after requests i ((n + w) % 2 ^ 32) now (below (n + w)) in
    later
    ∙ ap (λ s. Some (((n + w) % 2 ^ 32 + number_of_writes s i requests (run x.after requests).answers) % 2 ^ 32)) (exec_tables m r.0 r.1)
    ∙ ap (λ k. Some k) (twice n w (number_of_writes m.shapes i requests (run x.after requests).answers))
