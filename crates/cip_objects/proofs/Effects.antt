-- The effect of each service that succeeded.
use Rattle.std.proofs.Common.{◌≡◌, ℕ, ◌+◌, ◌≤◌, eqb, Bool, true, false, cond, nat_le, List, [], ◌∷◌, length, Option, Some, None, Result, Ok, Err, refl, sym, ap, ◌∙◌, arith}
use Rattle.std.proofs.lemmas.Bool.Decides.{nat_tests}
use Rattle.std.specs.Option.{ok_or}
use Rattle.cip_application.specs.declared.kind.AttributeKind.{AttributeKind}
use Rattle.cip_application.specs.Values.{size_for}
use Rattle.byteorder.specs.Endian.{little_number}
use Rattle.cip_message.specs.declared.path.Path.{Path}
use Rattle.cip_message.specs.declared.path.PathFault.{PathFault}
use Rattle.cip_message.specs.declared.request.RequestFault.{RequestFault}
use Rattle.cip_bytes.specs.Numbers.{le}
use Rattle.cip_message.specs.PathReading.{path_of}
use Rattle.cip_message.specs.Request.{Request, request_of}
use Rattle.cip_objects.specs.declared.assembly.Span.{Span}
use Rattle.cip_objects.specs.declared.service.Service.{Service}
use Rattle.cip_objects.specs.declared.status.Refusal.{Refusal}
use Rattle.cip_objects.specs.declared.status.Completion.TheVariants.{Whole}
use Rattle.cip_bytes.specs.Reading.{◌>>=◌, ◌>>◌}
use Rattle.cip_objects.specs.Check.{demand, check_size}
use Rattle.cip_objects.specs.Contents.{Contents, value_at, bytes_at, udint_at, with_value, with_change}
use Rattle.cip_objects.specs.ReadServices.{Answer, service_at, is_data, named_member}
use Rattle.cip_objects.specs.ChangeServices.{Change, after_add, with_bytes_at, is_allowed, set_attribute_single, set_member, add, clear}
use Rattle.cip_objects.specs.Execution.{Outcome, outcome_of_read, outcome_of_change, perform, request_or_refusal, path_or_refusal, outcome}
use Rattle.cip_objects.specs.Service.{service_code, service_in}
use Rattle.cip_objects.specs.Tables.{Shapes, services_of, settable_kind}
use Rattle.cip_objects.proofs.Settable.{exact_size}

-- what a check that passed found
pub record Found {A B : Type 0} (r : Result A Refusal) (f : A → Result B Refusal) (y : B) : Type 0 where
  pub value : A
  pub first : r ≡ Ok value
  pub rest : f value ≡ Ok y

pub bound : {A B : Type 0} (r : Result A Refusal) (f : A → Result B Refusal) (y : B) → (r >>= f) ≡ Ok y → Found r f y
bound (Ok x) f y e = record { value = x; first = refl; rest = e }
bound (Err s) f y e = absurd (cc)

pub after_check : {B : Type 0} (r : Result (Unit {0}) Refusal) (s : Result B Refusal) (y : B) → (r >> s) ≡ Ok y → (r ≡ Ok tt) × (s ≡ Ok y)
after_check (Ok x) s y e = (refl, e)
after_check (Err t) s y e = absurd (cc)

pub demanded : (b : Bool) (s : Refusal) → demand b s ≡ Ok tt → b ≡ true
demanded true s e = refl
demanded false s e = absurd (cc)

pub found_some : {A : Type 0} (o : Option A) (s : Refusal) (x : A) → ok_or o s ≡ Ok x → o ≡ Some x
found_some None s x e = absurd (cc)
found_some (Some y) s x e = cc

same_ok : {A : Type 0} (x y : A) → ◌≡◌ {A = Result A Refusal} (Ok x) (Ok y) → x ≡ y
same_ok x y e = cc

equal : (a b : ℕ) → eqb a b ≡ true → a ≡ b
equal a b e = grind (arith, nat_tests)

-- a set attribute: which it is, and what is known of its data
pub record Sets (m : Contents) (path : Path) (content : List ℕ) (c : Change) : Type 0 where
  pub attribute : ℕ
  pub kind : AttributeKind
  pub named : path.attribute ≡ Some attribute
  pub can : settable_kind m.shapes path.class path.instance attribute ≡ Some kind
  pub fits : length content ≡ size_for kind content
  pub allowed : is_allowed m path.class kind content ≡ true
  pub leaves : c.after ≡ with_change m path.class path.instance attribute content
  pub answers : c.content ≡ []

pub set_effect : (m : Contents) (path : Path) (content : List ℕ) (c : Change) → set_attribute_single m path content ≡ Ok c → Sets m path content c
unfolding set_attribute_single
set_effect m path content c e =
    let a = bound (ok_or path.attribute _) _ c e in
    let v = bound (ok_or (value_at m path.class path.instance a.value) _) _ c a.rest in
    let n = bound (ok_or (settable_kind m.shapes path.class path.instance a.value) _) _ c v.rest in
    let x = after_check (check_size (size_for n.value content) content) _ c n.rest in
    let w = after_check (demand (is_allowed m path.class n.value content) _) _ c x.1 in
    let done = same_ok (record { after = with_change m path.class path.instance a.value content; content = [] }) c w.1 in
    record {
      attribute = a.value;
      kind = n.value;
      named = found_some path.attribute _ a.value a.first;
      can = found_some _ _ n.value n.first;
      fits = exact_size (size_for n.value content) content x.0;
      allowed = demanded (is_allowed m path.class n.value content) _ w.0;
      leaves = sym (ap (λ z. z.after) done);
      answers = sym (ap (λ z. z.content) done);
    }

-- a set member: the new data of its assembly
pub record SetsMember (m : Contents) (path : Path) (c : Change) : Type 0 where
  pub value : List ℕ
  pub named : path.attribute ≡ Some 3
  pub leaves : c.after ≡ with_change m 4 path.instance 3 value
  pub answers : c.content ≡ []

names_data : (attribute : Option ℕ) → is_data attribute ≡ true → attribute ≡ Some 3
names_data None e = absurd (cc)
names_data (Some n) e = ap (λ k. Some k) (equal n 3 e)

-- only the data of an assembly have members
named_data : (shapes : Shapes) (path : Path) (span : Span) → named_member shapes path ≡ Ok span → path.attribute ≡ Some 3
unfolding named_member
named_data shapes path span e =
    names_data path.attribute (demanded (is_data path.attribute) _ (after_check (demand (is_data path.attribute) _) _ span e).0)

pub member_effect : (m : Contents) (path : Path) (content : List ℕ) (c : Change) → set_member m path content ≡ Ok c → SetsMember m path c
unfolding set_member
member_effect m path content c e =
    let s = bound (named_member m.shapes path) _ c e in
    let n = bound (ok_or (settable_kind m.shapes 4 path.instance 3) _) _ c s.rest in
    let x = after_check (check_size s.value.size content) _ c n.rest in
    let done = same_ok _ c x.1 in
    record {
      value = with_bytes_at (bytes_at m 4 path.instance 3) s.value.offset content;
      named = named_data m.shapes path s.value s.first;
      leaves = sym (ap (λ z. z.after) done);
      answers = sym (ap (λ z. z.content) done);
    }

-- an addition
pub record Adds (m : Contents) (content : List ℕ) (c : Change) : Type 0 where
  pub within : udint_at m 100 1 1 + little_number 4 content ≤ udint_at m 100 1 2
  pub leaves : c.after ≡ after_add m (udint_at m 100 1 1 + little_number 4 content)
  pub answers : c.content ≡ le 4 (udint_at m 100 1 1 + little_number 4 content)

at_most : (a b : ℕ) → nat_le a b ≡ true → a ≤ b
at_most a b e = grind (arith, nat_tests)

pub add_effect : (m : Contents) (content : List ℕ) (c : Change) → add m content ≡ Ok c → Adds m content c
unfolding add
add_effect m content c e =
    let x = after_check (check_size 4 content) _ c e in
    let w = after_check (demand (nat_le (udint_at m 100 1 1 + little_number 4 content) (udint_at m 100 1 2)) _) _ c x.1 in
    let done = same_ok _ c w.1 in
    record {
      within = at_most _ _ (demanded _ _ w.0);
      leaves = sym (ap (λ z. z.after) done);
      answers = sym (ap (λ z. z.content) done);
    }

pub record Clears (m : Contents) (c : Change) : Type 0 where
  pub leaves : c.after ≡ with_value m 100 1 1 (le 4 0)
  pub answers : c.content ≡ le 4 (udint_at m 100 1 1)

pub clear_effect : (m : Contents) (content : List ℕ) (c : Change) → clear m content ≡ Ok c → Clears m c
unfolding clear
clear_effect m content c e =
    let x = after_check (check_size 0 content) _ c e in
    let done = same_ok _ c x.1 in
    record {
      leaves = sym (ap (λ z. z.after) done);
      answers = sym (ap (λ z. z.content) done);
    }

-- a service that reads changes nothing
pub read_effect : (m : Contents) (r : Result Answer Refusal) (o : Outcome) → outcome_of_read m r ≡ Ok o → o.after ≡ m
read_effect m (Ok a) o e = sym (ap (λ z. z.after) (same_ok _ o e))
read_effect m (Err s) o e = absurd (cc)

-- a service that changes succeeds
pub record Changes (r : Result Change Refusal) (o : Outcome) : Type 0 where
  pub change : Change
  pub first : r ≡ Ok change
  pub after : o.after ≡ change.after
  pub status : o.status ≡ Whole
  pub content : o.content ≡ change.content

pub change_effect : (r : Result Change Refusal) (o : Outcome) → outcome_of_change r ≡ Ok o → Changes r o
change_effect (Ok c) o e = let done = same_ok (record { after = c.after; status = Whole; content = c.content }) o e in
    record {
      change = c;
      first = refl;
      after = sym (ap (λ z. z.after) done);
      status = sym (ap (λ z. z.status) done);
      content = sym (ap (λ z. z.content) done);
    }
change_effect (Err s) o e = absurd (cc)

-- the steps of a request that succeeded
pub record Goes (m : Contents) (text : List ℕ) (o : Outcome) : Type 0 where
  pub request : Request
  pub path : Path
  pub service : Service
  pub is_request : request_of text ≡ Ok request
  pub is_path : path_of request.path ≡ Ok path
  pub is_chosen : service_at m.shapes path.class path.instance request.service ≡ Ok service
  pub is_performed : perform m service path request.data ≡ Ok o

sized_ok : (r : Result Request RequestFault) (q : Request) → request_or_refusal r ≡ Ok q → r ≡ Ok q
sized_ok (Ok p) q e = ap (λ x. Ok x) (same_ok p q e)
sized_ok (Err f) q e = absurd (cc)

formed_ok : (r : Result Path PathFault) (p : Path) → path_or_refusal r ≡ Ok p → r ≡ Ok p
formed_ok (Ok x) p e = ap (λ x. Ok x) (same_ok x p e)
formed_ok (Err f) p e = absurd (cc)

pub goes : (m : Contents) (text : List ℕ) (o : Outcome) → outcome m text ≡ Ok o → Goes m text o
unfolding outcome
goes m text o e =
    let q = bound (request_or_refusal (request_of text)) _ o e in
    let p = bound (path_or_refusal (path_of q.value.path)) _ o q.rest in
    let s = bound (service_at m.shapes p.value.class p.value.instance q.value.service) _ o p.rest in
    record {
      request = q.value;
      path = p.value;
      service = s.value;
      is_request = sized_ok (request_of text) q.value q.first;
      is_path = formed_ok (path_of q.value.path) p.value p.first;
      is_chosen = s.first;
      is_performed = s.rest;
    }

in_cons : (t : Bool) (code : ℕ) (x : Service) (rest : Option Service) (s : Service) → eqb (service_code x) code ≡ t → (rest ≡ Some s → service_code s ≡ code) → cond t (Some x) rest ≡ Some s → service_code s ≡ code
in_cons true code x rest s h later e = let same : x ≡ s = cc in ap service_code (sym same) ∙ equal (service_code x) code h
in_cons false code x rest s h later e = later e

in_list : (code : ℕ) (services : List Service) (s : Service) → service_in code services ≡ Some s → service_code s ≡ code
in_list code [] s e = absurd (cc)
in_list code (x ∷ xs) s e = in_cons (eqb (service_code x) code) code x (service_in code xs) s refl (in_list code xs s) e

-- the service that was chosen has the code of the request
pub chosen_code : (shapes : Shapes) (class instance code : ℕ) (s : Service) → service_at shapes class instance code ≡ Ok s → service_code s ≡ code
unfolding service_at
chosen_code shapes class instance code s e =
    let offered = bound (ok_or (services_of shapes class instance) _) _ s e in
    in_list code offered.value s (found_some (service_in code offered.value) _ s offered.rest)
