-- A list of sets: what was read, and what the sets have done.
use Rattle.std.proofs.Common.{◌≡◌, ℕ, suc, zero, ◌+◌, ◌*◌, ◌≤◌, ◌<◌, nat_lt, append_assoc, ◌⊎◌, inl, inr, eqb, Bool, true, false, ◌&&◌, List, [], ◌∷◌, ◌++◌, length, drop}
use Rattle.std.proofs.Common.{Option, Some, None, Result, Ok, Err, refl, sym, ap, ◌∙◌, arith}
use Rattle.std.specs.Prelude.{nat_le, is_ok}
use Rattle.std.proofs.lemmas.Bool.Decides.{nat_tests}
use Rattle.std.proofs.lemmas.List.{length-append}
use Rattle.std.specs.List.{list_any}
use Rattle.byteorder.specs.Endian.{little_number}
use Rattle.cip_bytes.specs.Numbers.{le}
use Rattle.cip_bytes.specs.Reading.{◌>>=◌}
use Rattle.cip_message.specs.declared.path.Path.{Path}
use Rattle.cip_objects.specs.declared.service.Service.{Service}
use Rattle.cip_objects.specs.declared.service.Service.TheVariants.{GetAttributesAll, GetAttributeList, SetAttributeList, GetAttributeSingle, SetAttributeSingle, GetMember, SetMember, Add, Clear}
use Rattle.cip_objects.specs.declared.status.Refusal.{Refusal}
use Rattle.cip_objects.specs.declared.status.Completion.{Completion}
use Rattle.cip_objects.specs.declared.status.Refusal.TheVariants.{NotEnoughData, TooMuchData, ReplyDataTooLarge}
use Rattle.cip_objects.specs.ChangeServices.{Change}
use Rattle.cip_objects.specs.Check.{demand}
use Rattle.cip_objects.specs.Contents.{Contents}
use Rattle.cip_objects.specs.Execution.{Outcome, outcome_of_list, outcome_within}
use Rattle.cip_objects.specs.ReadServices.{service_at, list_completion}
use Rattle.cip_objects.specs.Service.{service_code}
use Rattle.cip_objects.specs.SetLists.{Setting, FirstSetting, first_setting, settings_of, settings_or_none, read_to_end, set_one, contents_after, set_all, ListOutcome, set_attribute_list}
use Rattle.cip_objects.specs.Tables.{Shape, ObjectShape, Shapes, shape_at, object_at, services_of, is_counter_class}
use Rattle.cip_objects.proofs.Effects.{Sets, set_effect, bound, after_check}
use Rattle.cip_objects.proofs.Offers.{table, offered}

same_ok : {A : Type 0} (x y : A) → ◌≡◌ {A = Result A Refusal} (Ok x) (Ok y) → x ≡ y
same_ok x y e = cc

-- the attribute of the object that a path names
abbrev pub at : Path → ℕ → Path
at p a = record p { attribute = Some a }

-- a list that was set
pub record SetsList (m : Contents) (p : Path) (content : List ℕ) (o : Outcome) : Type 0 where
  pub settings : List Setting
  pub read : settings_of m.shapes p.class p.instance (little_number 2 content) (drop 2 content) ≡ Ok settings
  pub after : o.after ≡ (set_all m p settings).after
  pub status : o.status ≡ list_completion (set_all m p settings).complete
  pub answers : o.content ≡ le 2 (little_number 2 content) ++ (set_all m p settings).entries

-- what the service leaves
record Leaves (m : Contents) (p : Path) (content : List ℕ) (l : ListOutcome) : Type 0 where
  settings : List Setting
  read : settings_of m.shapes p.class p.instance (little_number 2 content) (drop 2 content) ≡ Ok settings
  leaves : record {
    after = (set_all m p settings).after;
    status = list_completion (set_all m p settings).complete;
    content = le 2 (little_number 2 content) ++ (set_all m p settings).entries;
  } ≡ l

leaves : (m : Contents) (p : Path) (content : List ℕ) (l : ListOutcome) → set_attribute_list m p content ≡ Ok l
    → Leaves m p content l
unfolding set_attribute_list
leaves m p content l e =
    let x = after_check (demand (nat_le 2 (length content)) NotEnoughData) _ l e in
    let s = bound (settings_of m.shapes p.class p.instance (little_number 2 content) (drop 2 content)) _ l x.1 in
    record { settings = s.value; read = s.first; leaves = same_ok _ l s.rest }

by_result : (m : Contents) (p : Path) (content : List ℕ) (o : Outcome) (r : Result ListOutcome Refusal)
    → set_attribute_list m p content ≡ r → outcome_of_list r ≡ Ok o → SetsList m p content o
by_result m p content o (Err s) e f = absurd (cc)
by_result m p content o (Ok l) e f =
    let x = leaves m p content l e in
    let same = same_ok (record { after = l.after; status = l.status; content = l.content }) o f in
    record {
      settings = x.settings;
      read = x.read;
      after = sym (ap (λ z. z.after) x.leaves ∙ ap (λ z. z.after) same);
      status = sym (ap (λ z. z.status) x.leaves ∙ ap (λ z. z.status) same);
      answers = sym (ap (λ z. z.content) x.leaves ∙ ap (λ z. z.content) same);
    }

pub list_effect : (m : Contents) (p : Path) (content : List ℕ) (o : Outcome)
    → outcome_of_list (set_attribute_list m p content) ≡ Ok o → SetsList m p content o
list_effect m p content o e = by_result m p content o (set_attribute_list m p content) refl e

-- what each set keeps, a list of sets keeps
abbrev pub Keeping : (Contents → Type 0) → Path → Type 0
Keeping P p =
    (m : Contents) (attribute : ℕ) (value : List ℕ) (c : Change) → Sets m (at p attribute) value c → P m → P c.after

one_keeps : (P : Contents → Type 0) (p : Path) (m : Contents) (s : Setting) (r : Result Change Refusal) → Keeping P p
    → set_one m p s ≡ r → P m → P (contents_after m r)
one_keeps P p m s (Ok c) keeps e h = keeps m s.attribute s.value c (set_effect m (at p s.attribute) s.value c e) h
one_keeps P p m s (Err x) keeps e h = h

pub all_keep : (P : Contents → Type 0) (p : Path) (m : Contents) (settings : List Setting) → Keeping P p → P m
    → P (set_all m p settings).after
all_keep P p m [] keeps h = h
all_keep P p m (s ∷ settings) keeps h =
    all_keep P p (contents_after m (set_one m p s)) settings keeps (one_keeps P p m s (set_one m p s) keeps refl h)

-- a set does not change the tables
pub after_tables : (m : Contents) (p : Path) (s : Setting) (r : Result Change Refusal) → set_one m p s ≡ r
    → (contents_after m r).shapes ≡ m.shapes
after_tables m p s (Ok c) e = ap (λ k. k.shapes) (set_effect m (at p s.attribute) s.value c e).leaves
after_tables m p s (Err f) e = refl

-- a list is read as many as it says
pub read_count : (shapes : Shapes) (class instance count : ℕ) (bytes : List ℕ) (settings : List Setting)
    → settings_of shapes class instance count bytes ≡ Ok settings → length settings ≡ count
read_count shapes class instance zero bytes settings e =
    let x = after_check (demand (nat_le (length bytes) 0) TooMuchData) _ settings e in
    sym (ap length (same_ok [] settings x.1))
read_count shapes class instance (suc count) bytes settings e =
    let first = bound (first_setting shapes class instance bytes) _ settings e in
    let later = bound (settings_of shapes class instance count first.value.rest) _ settings first.rest in
    sym (ap length (same_ok (first.value.setting ∷ later.value) settings later.rest))
    ∙ ap suc (read_count shapes class instance count first.value.rest later.value later.first)

-- only assemblies and application objects can be set by a list
table_sets : (b1 b4 b6 b100 z o : Bool) (x : Option Shape) (k : Bool) (y : Option ObjectShape) (s : Service)
    → offered 0x04 (table b1 b4 b6 b100 z o x k y) ≡ Ok s → (b4 ≡ true) ⊎ (b100 ≡ false)
table_sets true b4 b6 b100 true o x k y s e = absurd (cc)
table_sets true b4 b6 b100 false true x k y s e = absurd (cc)
table_sets true b4 b6 b100 false false x k y s e = absurd (cc)
table_sets false true b6 b100 z o x k y s e = inl refl
table_sets false false true b100 z true x k y s e = absurd (cc)
table_sets false false true b100 z false x k y s e = absurd (cc)
table_sets false false false true true o x k y s e = absurd (cc)
table_sets false false false true false true x k y s e = absurd (cc)
table_sets false false false true false false x k y s e = absurd (cc)
table_sets false false false false z o x k y s e = inr refl

by_class : (class : ℕ) (t : Bool) → t ≡ true → (eqb class 4 ≡ true) ⊎ (eqb class 100 && t ≡ false) → class ≡ 100 → ⊥
by_class class t e (inl four) same = absurd (let f : eqb 100 4 ≡ true = ap (λ n. eqb n 4) (sym same) ∙ four in cc)
by_class class t e (inr none) same =
    absurd (let f : eqb 100 100 && true ≡ false = ap (λ n. eqb n 100 && true) (sym same) ∙ ap (λ b. eqb class 100 && b) (sym e) ∙ none in cc)

pub list_place : (shapes : Shapes) (class instance : ℕ) (s : Service) → shapes.has_counter ≡ true
    → service_at shapes class instance 0x04 ≡ Ok s → class ≡ 100 → ⊥
unfolding service_at services_of
list_place shapes class instance s there e =
    by_class class shapes.has_counter there
    (table_sets (eqb class 1) (eqb class 4) (eqb class 6) (is_counter_class shapes class) (eqb instance 0) (eqb instance 1)
    (shape_at instance shapes.assemblies)
    (list_any (λ o. eqb o.class class) shapes.objects) (object_at class instance shapes.objects) s e)

-- what can be set by a list can also be set alone
table_single : (b1 b4 b6 b100 z o : Bool) (x : Option Shape) (k : Bool) (y : Option ObjectShape) (s : Service)
    → offered 0x04 (table b1 b4 b6 b100 z o x k y) ≡ Ok s → offered 0x10 (table b1 b4 b6 b100 z o x k y) ≡ Ok SetAttributeSingle
table_single true b4 b6 b100 true o x k y s e = absurd (cc)
table_single true b4 b6 b100 false true x k y s e = absurd (cc)
table_single true b4 b6 b100 false false x k y s e = absurd (cc)
table_single false true b6 b100 true o x k y s e = absurd (cc)
table_single false true b6 b100 false o None k y s e = absurd (cc)
table_single false true b6 b100 false o (Some w) k y s e = refl
table_single false false true b100 z true x k y s e = absurd (cc)
table_single false false true b100 z false x k y s e = absurd (cc)
table_single false false false true true o x k y s e = absurd (cc)
table_single false false false true false true x k y s e = absurd (cc)
table_single false false false true false false x k y s e = absurd (cc)
table_single false false false false true o x true y s e = absurd (cc)
table_single false false false false true o x false y s e = absurd (cc)
table_single false false false false false o x k None s e = absurd (cc)
table_single false false false false false o x k (Some w) s e = refl

pub single_offers : (shapes : Shapes) (class instance : ℕ) (s : Service) → service_at shapes class instance 0x04 ≡ Ok s
    → service_at shapes class instance 0x10 ≡ Ok SetAttributeSingle
unfolding service_at services_of
single_offers shapes class instance s e =
    table_single (eqb class 1) (eqb class 4) (eqb class 6) (is_counter_class shapes class) (eqb instance 0) (eqb instance 1)
    (shape_at instance shapes.assemblies)
    (list_any (λ o. eqb o.class class) shapes.objects) (object_at class instance shapes.objects) s e

-- a service is Set_Attribute_List or has another code
pub is_set_list : (s : Service) → (s ≡ SetAttributeList) ⊎ (eqb (service_code s) 0x04 ≡ false)
is_set_list GetAttributesAll = inr refl
is_set_list GetAttributeList = inr refl
is_set_list SetAttributeList = inl refl
is_set_list GetAttributeSingle = inr refl
is_set_list SetAttributeSingle = inr refl
is_set_list GetMember = inr refl
is_set_list SetMember = inr refl
is_set_list Add = inr refl
is_set_list Clear = inr refl

-- ---- a list, read from its front

same_check : (x : Setting) (r : Result (List Setting) Refusal) → read_to_end r ≡ read_to_end (r >>= λ ss. Ok (x ∷ ss))
same_check x (Ok ss) = refl
same_check x (Err s) = refl

-- what is left is read as the whole
pub rest_read : (shapes : Shapes) (class instance n : ℕ) (bytes : List ℕ) (first : FirstSetting)
    → first_setting shapes class instance bytes ≡ Ok first
    → read_to_end (settings_of shapes class instance n first.rest) ≡ read_to_end (settings_of shapes class instance (suc n) bytes)
rest_read shapes class instance n bytes first e =
    same_check first.setting (settings_of shapes class instance n first.rest)
    ∙ sym (ap (λ r. read_to_end (r >>= λ (f : FirstSetting). settings_of shapes class instance n f.rest >>= λ ss. Ok (f.setting ∷ ss))) e)

-- a fault at its front is the fault of the list
pub front_unread : (shapes : Shapes) (class instance n : ℕ) (bytes : List ℕ) (s : Refusal)
    → first_setting shapes class instance bytes ≡ Err s → settings_of shapes class instance (suc n) bytes ≡ Err s
front_unread shapes class instance n bytes s e =
    ap (λ r. r >>= λ (f : FirstSetting). settings_of shapes class instance n f.rest >>= λ ss. Ok (f.setting ∷ ss)) e

-- the first of a list that is read to its end, and the rest
pub record Fronted (shapes : Shapes) (class instance n : ℕ) (bytes : List ℕ) (first : FirstSetting) : Type 0 where
  pub read : is_ok (settings_of shapes class instance n first.rest) ≡ true
  pub settings : settings_or_none (settings_of shapes class instance (suc n) bytes)
      ≡ first.setting ∷ settings_or_none (settings_of shapes class instance n first.rest)

fronted_by : (first : FirstSetting) (r : Result (List Setting) Refusal) → is_ok (r >>= λ ss. Ok (first.setting ∷ ss)) ≡ true
    → (is_ok r ≡ true) × (settings_or_none (r >>= λ ss. Ok (first.setting ∷ ss)) ≡ first.setting ∷ settings_or_none r)
fronted_by first (Ok ss) e = (refl, refl)
fronted_by first (Err s) e = absurd (cc)

pub fronted : (shapes : Shapes) (class instance n : ℕ) (bytes : List ℕ) (first : FirstSetting)
    → is_ok (settings_of shapes class instance (suc n) bytes) ≡ true → first_setting shapes class instance bytes ≡ Ok first
    → Fronted shapes class instance n bytes first
fronted shapes class instance n bytes first read e =
    let rest = settings_of shapes class instance n first.rest in
    let split : settings_of shapes class instance (suc n) bytes ≡ (rest >>= λ ss. Ok (first.setting ∷ ss)) =
    ap (λ r. r >>= λ (f : FirstSetting). settings_of shapes class instance n f.rest >>= λ ss. Ok (f.setting ∷ ss)) e in
    let both = fronted_by first rest (sym (ap is_ok split) ∙ read) in
    record { read = both.0; settings = ap settings_or_none split ∙ both.1 }

-- ---- the reply

entries_length : (m : Contents) (p : Path) (settings : List Setting)
    → length (set_all m p settings).entries ≡ 4 * length settings
entries_length m p [] = refl
entries_length m p (s ∷ settings) =
    let later = entries_length (contents_after m (set_one m p s)) p settings in
    omega (arith, later)

settings_are : (r : Result (List Setting) Refusal) → read_to_end r ≡ Ok tt → r ≡ Ok (settings_or_none r)
settings_are (Ok settings) e = refl
settings_are (Err s) e = absurd (cc)

-- what the service answers before the size of the reply is checked
abbrev outcome_at : Contents → Path → ℕ → List Setting → Outcome
outcome_at m p count settings = record {
  after = (set_all m p settings).after;
  status = list_completion (set_all m p settings).complete;
  content = le 2 count ++ (set_all m p settings).entries;
}

-- a list that the code has read to its end
pub record IsListed (m : Contents) (p : Path) (content : List ℕ) (count : ℕ) (list : List ℕ) : Type 0 where
  pub long : 2 ≤ length content
  pub count_is : count ≡ little_number 2 content
  pub list_is : list ≡ drop 2 content
  pub read : read_to_end (settings_of m.shapes p.class p.instance count list) ≡ Ok tt

listed_outcome : (m : Contents) (p : Path) (content : List ℕ) (count : ℕ) (list : List ℕ) → IsListed m p content count list
    → outcome_of_list (set_attribute_list m p content)
    ≡ Ok (outcome_at m p count (settings_or_none (settings_of m.shapes p.class p.instance count list)))
unfolding set_attribute_list
listed_outcome m p content count list x =
    let settings = settings_or_none (settings_of m.shapes p.class p.instance count list) in
    let read : settings_of m.shapes p.class p.instance (little_number 2 content) (drop 2 content) ≡ Ok settings =
    ap (λ n. settings_of m.shapes p.class p.instance n (drop 2 content)) (sym x.count_is)
    ∙ ap (settings_of m.shapes p.class p.instance count) (sym x.list_is)
    ∙ settings_are (settings_of m.shapes p.class p.instance count list) x.read in
    let long : nat_le 2 (length content) ≡ true = let h = x.long in grind (arith, nat_tests) in
    rw (long, read, x.count_is) refl

reply_length : (m : Contents) (p : Path) (content : List ℕ) (count : ℕ) (list front : List ℕ) → IsListed m p content count list
    → length (front ++ (outcome_at m p count (settings_or_none (settings_of m.shapes p.class p.instance count list))).content)
    ≡ length front + (2 + 4 * count)
reply_length m p content count list front x =
    let settings = settings_or_none (settings_of m.shapes p.class p.instance count list) in
    let entries = (set_all m p settings).entries in
    let long = entries_length m p settings in
    let many = read_count m.shapes p.class p.instance count list settings
    (settings_are (settings_of m.shapes p.class p.instance count list) x.read) in
    let all = length-append front (le 2 count ++ entries) in
    omega (arith, long, many, all)

fits_by : (over : Bool) (max_size : ℕ) (front : List ℕ) (o : Outcome) → nat_lt max_size (length (front ++ o.content)) ≡ over
    → over ≡ false → outcome_within max_size front (Ok o) ≡ Ok (record { after = o.after; status = o.status; content = front ++ o.content })
fits_by over max_size front o e f = rw (e, f) refl

over_by : (max_size : ℕ) (front : List ℕ) (o : Outcome) → nat_lt max_size (length (front ++ o.content)) ≡ true
    → outcome_within max_size front (Ok o) ≡ Err ReplyDataTooLarge
over_by max_size front o e = rw e refl

-- the reply is longer than it may be
pub list_over : (m : Contents) (p : Path) (content : List ℕ) (count max_size : ℕ) (list front : List ℕ)
    → IsListed m p content count list → max_size < length front + (2 + 4 * count)
    → outcome_within max_size front (outcome_of_list (set_attribute_list m p content)) ≡ Err ReplyDataTooLarge
list_over m p content count max_size list front x h =
    let o = outcome_at m p count (settings_or_none (settings_of m.shapes p.class p.instance count list)) in
    let size = reply_length m p content count list front x in
    ap (outcome_within max_size front) (listed_outcome m p content count list x)
    ∙ over_by max_size front o (let t : nat_lt max_size (length (front ++ o.content)) ≡ true = grind (arith, nat_tests) in t)

-- or it is not
pub list_within : (m : Contents) (p : Path) (content : List ℕ) (count max_size : ℕ) (list front : List ℕ) (n : Contents)
    (status : Completion) (text : List ℕ) → IsListed m p content count list → length front + (2 + 4 * count) ≤ max_size
    → let all = set_all m p (settings_or_none (settings_of m.shapes p.class p.instance count list)) in
    n ≡ all.after → status ≡ list_completion all.complete → text ≡ (front ++ le 2 count) ++ all.entries
    → Ok (record { after = n; status = status; content = text })
    ≡ outcome_within max_size front (outcome_of_list (set_attribute_list m p content))
list_within m p content count max_size list front n status text x h after done is =
    let settings = settings_or_none (settings_of m.shapes p.class p.instance count list) in
    let o = outcome_at m p count settings in
    let size = reply_length m p content count list front x in
    let whole : text ≡ front ++ o.content = is ∙ append_assoc front (le 2 count) (set_all m p settings).entries in
    sym (ap (outcome_within max_size front) (listed_outcome m p content count list x)
    ∙ fits_by (nat_lt max_size (length (front ++ o.content))) max_size front o refl
    (let t : nat_lt max_size (length (front ++ o.content)) ≡ false = grind (arith, nat_tests) in t)
    ∙ sym (ap (λ a. Ok (record { after = a; status = status; content = text })) after
    ∙ ap (λ s. Ok (record { after = o.after; status = s; content = text })) done
    ∙ ap (λ t. Ok (record { after = o.after; status = o.status; content = t })) whole))
