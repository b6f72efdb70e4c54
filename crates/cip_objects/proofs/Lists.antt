-- A Get_Attribute_List is the single gets of its attributes, joined.
use Rattle.std.proofs.Common.{◌≡◌, ℕ, ◌+◌, ◌*◌, ◌≤◌, eqb, Bool, true, false, ◌&&◌, zero, nat_le, List, [], ◌∷◌, ◌++◌, length, map, drop, flat_map, Option, Some, None, is_some, Result, Ok, Err, refl, sym, ap, ◌∙◌, arith, subst, suc}
use Rattle.std.proofs.lemmas.List.{length-append, append_assoc, length-drop}
use Rattle.std.specs.List.{list_all}
use Rattle.byteorder.specs.Endian.{little_number}
use Rattle.cip_bytes.specs.Reading.{◌>>=◌}
use Rattle.cip_message.specs.declared.path.Path.{Path}
use Rattle.cip_message.specs.declared.path.PathFault.{PathFault}
use Rattle.cip_message.specs.declared.request.RequestFault.{RequestFault}
use Rattle.cip_bytes.specs.Numbers.{le, words_of}
use Rattle.cip_message.specs.PathReading.{path_of}
use Rattle.cip_message.specs.Request.{Request}
use Rattle.cip_objects.specs.declared.service.Service.{Service}
use Rattle.cip_objects.specs.declared.service.Service.TheVariants.{GetAttributesAll, GetAttributeList, SetAttributeList, GetAttributeSingle, SetAttributeSingle, GetMember, SetMember, Add, Clear}
use Rattle.cip_objects.specs.declared.status.Refusal.{Refusal}
use Rattle.cip_bytes.specs.declared.protocol.GeneralStatus.TheVariants.{Success}
use Rattle.cip_objects.specs.declared.status.Refusal.TheVariants.{AttributeNotSupported, NotEnoughData}
use Rattle.cip_objects.specs.Check.{demand, check_size}
use Rattle.cip_objects.specs.Contents.{Contents, value_at}
use Rattle.cip_objects.specs.ReadServices.{Answer, service_at, list_entry_of, list_entry, has_attribute, has_all_attributes, list_completion, get_attribute_single, get_attribute_list}
use Rattle.cip_objects.specs.Execution.{Outcome, outcome_of_read, perform, outcome, with_reply, or_refusal, exec, reply_to}
use Rattle.cip_objects.specs.Laws.{IsRequestWith}
use Rattle.cip_objects.specs.Lists.{IsGet, AreGets, entries_of_replies, list_law}
use Rattle.cip_message.specs.Router.{general_status}
use Rattle.cip_objects.specs.Service.{service_code}
use Rattle.cip_objects.specs.Status.{completion_status, refusal_status}
use Rattle.std.specs.List.{list_any}
use Rattle.cip_objects.specs.Tables.{Shape, shape_at, services_of, ObjectShape, Shapes, object_at, is_counter_class}
use Rattle.cip_objects.proofs.Offers.{table, offered}
use Rattle.cip_objects.proofs.Effects.{goes, after_check, chosen_code}
use Rattle.cip_objects.proofs.Refuses.{exec_outcome}
use Rattle.cip_objects.proofs.Settable.{exact_size}
use Rattle.cip_objects.proofs.Sets.{get_makes, got}

-- a service of code 0x03 is Get_Attribute_List
is_list : (s : Service) → service_code s ≡ 0x03 → s ≡ GetAttributeList
is_list GetAttributesAll e = absurd (omega arith)
is_list GetAttributeList e = refl
is_list SetAttributeList e = absurd (omega arith)
is_list GetAttributeSingle e = absurd (omega arith)
is_list SetAttributeSingle e = absurd (omega arith)
is_list GetMember e = absurd (omega arith)
is_list SetMember e = absurd (omega arith)
is_list Add e = absurd (omega arith)
is_list Clear e = absurd (omega arith)

table_list : (b1 b4 b6 b100 z o : Bool) (x : Option Shape) (k : Bool) (y : Option ObjectShape) (s : Service)
    → offered 0x03 (table b1 b4 b6 b100 z o x k y) ≡ Ok s → offered 0x0e (table b1 b4 b6 b100 z o x k y) ≡ Ok GetAttributeSingle
table_list true b4 b6 b100 true o x k y s e = absurd (cc)
table_list true b4 b6 b100 false true x k y s e = refl
table_list true b4 b6 b100 false false x k y s e = absurd (cc)
table_list false true b6 b100 true o x k y s e = absurd (cc)
table_list false true b6 b100 false o None k y s e = absurd (cc)
table_list false true b6 b100 false o (Some w) k y s e = refl
table_list false false true b100 z true x k y s e = absurd (cc)
table_list false false true b100 z false x k y s e = absurd (cc)
table_list false false false true true o x k y s e = absurd (cc)
table_list false false false true false true x k y s e = refl
table_list false false false true false false x k y s e = absurd (cc)
table_list false false false false true o x true y s e = absurd (cc)
table_list false false false false true o x false y s e = absurd (cc)
table_list false false false false false o x k None s e = absurd (cc)
table_list false false false false false o x k (Some w) s e = refl

-- if a list can be read, so can one attribute
list_offers : (shapes : Shapes) (class instance : ℕ) (s : Service) → service_at shapes class instance 0x03 ≡ Ok s
    → service_at shapes class instance 0x0e ≡ Ok GetAttributeSingle
unfolding service_at services_of
list_offers shapes class instance s e =
    table_list (eqb class 1) (eqb class 4) (eqb class 6) (is_counter_class shapes class) (eqb instance 0) (eqb instance 1)
    (shape_at instance shapes.assemblies)
    (list_any (λ o. eqb o.class class) shapes.objects) (object_at class instance shapes.objects) s e

-- the outcome of a single get if the attribute does not exist
get_misses : (m : Contents) (get path : List ℕ) (p : Path) (a : ℕ) → IsRequestWith get 0x0e path [] → path_of path ≡ Ok p
    → service_at m.shapes p.class p.instance 0x0e ≡ Ok GetAttributeSingle → p.attribute ≡ Some a
    → value_at m p.class p.instance a ≡ None → outcome m get ≡ Err AttributeNotSupported
unfolding outcome get_attribute_single
get_misses m get path p a e f g h v = rw (e, f, g, h, v) refl

-- what a reply says of one attribute
record Tells (m : Contents) (p : Path) (a : ℕ) (reply : List ℕ) : Type 0 where
  entry : le 2 a ++ (le 2 (general_status reply) ++ drop 4 reply) ≡ list_entry m p a
  there : eqb (general_status reply) 0x00 ≡ has_attribute m p a

told_value : (m : Contents) (p : Path) (a : ℕ) (get value reply : List ℕ) → value_at m p.class p.instance a ≡ Some value
    → reply ≡ reply_to get Success value → Tells m p a reply
unfolding list_entry
told_value m p a get value reply v e = record {
  entry = ap (λ r. le 2 a ++ (le 2 (general_status r) ++ drop 4 r)) e ∙ sym (ap (list_entry_of a) v);
  there = ap (λ r. eqb (general_status r) 0x00) e ∙ sym (ap is_some v);
}

told_missing : (m : Contents) (p : Path) (a : ℕ) (get reply : List ℕ) → value_at m p.class p.instance a ≡ None
    → reply ≡ reply_to get (refusal_status AttributeNotSupported) [] → Tells m p a reply
unfolding list_entry
told_missing m p a get reply v e = record {
  entry = ap (λ r. le 2 a ++ (le 2 (general_status r) ++ drop 4 r)) e ∙ sym (ap (list_entry_of a) v);
  there = ap (λ r. eqb (general_status r) 0x00) e ∙ sym (ap is_some v);
}

get_refuses : (m : Contents) (max_size : ℕ) (get : List ℕ) → outcome m get ≡ Err AttributeNotSupported
    → (exec m max_size get).answer ≡ reply_to get (refusal_status AttributeNotSupported) []
unfolding exec
get_refuses m max_size get e = ap (λ r. (or_refusal m get (r >>= with_reply max_size get)).answer) e

-- the entry of an attribute that exists has its value
length-list_entry : (m : Contents) (p : Path) (a : ℕ) (value : List ℕ) → value_at m p.class p.instance a ≡ Some value
    → length (list_entry m p a) ≡ 4 + length value
unfolding list_entry
length-list_entry m p a value v = ap (λ o. length (list_entry_of a o)) v
    ∙ (let e : suc (suc (suc (suc (length value)))) ≡ 4 + length value = omega arith in e)

tells_of : (m : Contents) (max_size : ℕ) (p : Path) (a : ℕ) (get : List ℕ) (o : Option (List ℕ))
    → value_at m p.class p.instance a ≡ o → service_at m.shapes p.class p.instance 0x0e ≡ Ok GetAttributeSingle
    → IsGet p a get → length (list_entry m p a) ≤ max_size → Tells m p a (exec m max_size get).answer
tells_of m max_size p a get (Some value) v c g h =
    let q : Path = record { class = p.class; instance = p.instance; attribute = Some a; member = g.member } in
    told_value m p a get value (exec m max_size get).answer v
    (got m max_size get value (get_makes m get g.path value q a g.reads g.names c refl v)
    (omega (arith, length-list_entry m p a value v)))
tells_of m max_size p a get None v c g h =
    let q : Path = record { class = p.class; instance = p.instance; attribute = Some a; member = g.member } in
    told_missing m p a get (exec m max_size get).answer v
    (get_refuses m max_size get (get_misses m get g.path q a g.reads g.names c refl v))

-- what the single replies say of all attributes
record TellAll (m : Contents) (p : Path) (attributes : List ℕ) (replies : List (List ℕ)) : Type 0 where
  entries : entries_of_replies attributes replies ≡ flat_map (list_entry m p) attributes
  there : list_all (λ reply. eqb (general_status reply) 0x00) replies ≡ has_all_attributes m p attributes

regrouped : (a b c d : List ℕ) → a ++ (b ++ (c ++ d)) ≡ (a ++ (b ++ c)) ++ d
regrouped a b c d = sym (simp append_assoc)

tell_all : (m : Contents) (max_size : ℕ) (p : Path) (attributes : List ℕ) (gets : List (List ℕ))
    → service_at m.shapes p.class p.instance 0x0e ≡ Ok GetAttributeSingle → AreGets p attributes gets
    → length (flat_map (list_entry m p) attributes) ≤ max_size
    → TellAll m p attributes (map (λ get. (exec m max_size get).answer) gets)
tell_all m max_size p [] [] c g h = record { entries = refl; there = refl }
tell_all m max_size p [] (get ∷ gets) c g h = absurd g
tell_all m max_size p (a ∷ attributes) [] c g h = absurd g
tell_all m max_size p (a ∷ attributes) (get ∷ gets) c g h =
    let n = length-append (list_entry m p a) (flat_map (list_entry m p) attributes) in
    let one = tells_of m max_size p a get (value_at m p.class p.instance a) refl c g.0 (omega arith) in
    let rest = tell_all m max_size p attributes gets c g.1 (omega arith) in
    let reply = (exec m max_size get).answer in
    let replies = map (λ x. (exec m max_size x).answer) gets in
    record {
      entries = regrouped (le 2 a) (le 2 (general_status reply)) (drop 4 reply) (entries_of_replies attributes replies)
          ∙ ap (λ x. x ++ entries_of_replies attributes replies) one.entry
          ∙ ap (λ x. list_entry m p a ++ x) rest.entries;
      there = ap (λ t. t && list_all (λ x. eqb (general_status x) 0x00) replies) one.there
          ∙ ap (λ t. has_attribute m p a && t) rest.there;
    }

length-words_of : (n : ℕ) (xs : List ℕ) → length xs ≡ 2 * n → length (words_of xs) ≡ n
length-words_of zero [] e = refl
length-words_of zero (a ∷ rest) e = absurd (omega arith)
length-words_of (suc n) [] e = absurd (omega arith)
length-words_of (suc n) (a ∷ []) e = absurd (omega arith)
length-words_of (suc n) (a ∷ b ∷ rest) e = ap suc (length-words_of n rest (omega arith))

length-gets : (p : Path) (attributes : List ℕ) (gets : List (List ℕ)) → AreGets p attributes gets
    → length gets ≡ length attributes
length-gets p [] [] g = refl
length-gets p [] (get ∷ gets) g = absurd g
length-gets p (a ∷ attributes) [] g = absurd g
length-gets p (a ∷ attributes) (get ∷ gets) g = ap suc (length-gets p attributes gets g.1)

same_ok : {A : Type 0} (x y : A) → ◌≡◌ {A = Result A Refusal} (Ok x) (Ok y) → x ≡ y
same_ok x y e = cc

-- a list that was read
record Lists (m : Contents) (p : Path) (content : List ℕ) (o : Outcome) : Type 0 where
  size : length content ≡ 2 + 2 * little_number 2 content
  status : o.status ≡ list_completion (has_all_attributes m p (words_of (drop 2 content)))
  data_is : o.content ≡ le 2 (little_number 2 content) ++ flat_map (list_entry m p) (words_of (drop 2 content))

lists : (m : Contents) (p : Path) (content : List ℕ) (a : Answer) → get_attribute_list m p content ≡ Ok a
    → Lists m p content (record { after = m; status = a.status; content = a.content })
unfolding get_attribute_list
lists m p content a e =
    let x = after_check (demand (nat_le 2 (length content)) NotEnoughData) _ a e in
    let y = after_check (check_size (2 + 2 * little_number 2 content) content) _ a x.1 in
    let done = same_ok _ a y.1 in
    record {
      size = exact_size (2 + 2 * little_number 2 content) content y.0;
      status = sym (ap (λ z. z.status) done);
      data_is = sym (ap (λ z. z.content) done);
    }

by_reads : (m : Contents) (p : Path) (content : List ℕ) (o : Outcome) (r : Result Answer Refusal)
    → get_attribute_list m p content ≡ r → outcome_of_read m r ≡ Ok o → Lists m p content o
by_reads m p content o (Ok a) e f = subst (Lists m p content) (same_ok _ o f) (lists m p content a e)
by_reads m p content o (Err s) e f = absurd (cc)

same_request : (q r : Request) → ◌≡◌ {A = Result Request RequestFault} (Ok q) (Ok r) → q ≡ r
same_request q r e = cc

same_path : (q r : Path) → ◌≡◌ {A = Result Path PathFault} (Ok q) (Ok r) → q ≡ r
same_path q r e = cc

-- what a list that was answered has
record WasList (m : Contents) (p : Path) (content : List ℕ) (o : Outcome) : Type 0 where
  offers : service_at m.shapes p.class p.instance 0x03 ≡ Ok GetAttributeList
  lists : Lists m p content o

was_list : (m : Contents) (list path content : List ℕ) (p : Path) (o : Outcome) → IsRequestWith list 0x03 path content
    → path_of path ≡ Ok p → outcome m list ≡ Ok o → WasList m p content o
was_list m list path content p o e f done =
    let g = goes m list o done in
    let q : g.request ≡ record { service = 0x03; path = path; «data» = content } = same_request g.request _
    (sym g.is_request ∙ e) in
    let here : g.path ≡ p = same_path g.path p (sym g.is_path ∙ ap (λ r. path_of r.path) q ∙ f) in
    let s : g.service ≡ GetAttributeList = is_list g.service
    (chosen_code m.shapes g.path.class g.path.instance g.request.service g.service g.is_chosen ∙ ap
    (λ r. r.service) q) in
    let performed : perform m GetAttributeList p content ≡ Ok o = ap (λ k. perform m k p content) (sym s)
    ∙ ap (λ r. perform m g.service p r.data) (sym q) ∙ ap (λ x. perform m g.service x g.request.data) (sym here)
    ∙ g.is_performed in
    record {
      offers = ap (λ x. service_at m.shapes x.class x.instance 0x03) (sym here)
          ∙ ap (λ r. service_at m.shapes g.path.class g.path.instance r.service) (sym q) ∙ g.is_chosen ∙ ap (λ k. Ok k) s;
      lists = by_reads m p content o (get_attribute_list m p content) refl performed;
    }

counted : (p : Path) (content : List ℕ) (gets : List (List ℕ)) → length content ≡ 2 + 2 * little_number 2 content
    → AreGets p (words_of (drop 2 content)) gets → little_number 2 content ≡ length gets
counted p content gets e g =
    sym (length-words_of (little_number 2 content) (drop 2 content) (omega (arith, length-drop 2 content)))
    ∙ sym (length-gets p (words_of (drop 2 content)) gets g)

pub list_is_gets : list_law
list_is_gets m max_size list path content p gets e f g fine =
    let x = exec_outcome m max_size list fine in
    let w = was_list m list path content p x.made e f x.is_made in
    let attributes = words_of (drop 2 content) in
    let n = length-append (le 2 (little_number 2 content)) (flat_map (list_entry m p) attributes) in
    let size : length x.made.content ≡ length
    (le 2 (little_number 2 content) ++ flat_map (list_entry m p) attributes) = ap length w.lists.data_is in
    let fits = x.fits in
    let t = tell_all m max_size p attributes gets (list_offers m.shapes p.class p.instance GetAttributeList w.offers) g
    (omega arith) in
    x.answer
    ∙ ap (λ s. reply_to list (completion_status s) x.made.content) (w.lists.status ∙ ap list_completion (sym t.there))
    ∙ ap (λ c. reply_to list
    (completion_status (list_completion (list_all (λ reply. eqb (general_status reply) 0x00)
    (map (λ get. (exec m max_size get).answer) gets)))) c)
    (w.lists.data_is ∙ ap (λ k. le 2 k ++ flat_map (list_entry m p) attributes) (counted p content gets w.lists.size g)
    ∙ ap (λ k. le 2 (length gets) ++ k) (sym t.entries))
