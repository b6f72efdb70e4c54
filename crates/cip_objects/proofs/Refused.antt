-- Replies that are neither a success nor an attribute list error, the maximum size of a reply, and what is never
-- set.
use Rattle.std.specs.Prelude.{slice_index}
use Rattle.std.proofs.Common.{◌≡◌, ℕ, ◌*◌, ◌≤◌, ◌⊎◌, inl, inr, eqb, Bool, true, false, cond, nat_lt, List, [], ◌∷◌, length, take, drop, Result, Ok, Err, refl, sym, ap, ◌∙◌, arith, subst}
use Rattle.std.proofs.lemmas.Bool.{eqb-true}
use Rattle.std.proofs.lemmas.Bool.Decides.{nat_tests}
use Rattle.cip_bytes.specs.Reading.{◌>>=◌}
use Rattle.cip_message.specs.declared.path.Path.{Path}
use Rattle.cip_message.specs.declared.request.RequestFault.{RequestFault}
use Rattle.cip_message.specs.declared.request.RequestFault.TheVariants.{PathSize}
use Rattle.cip_message.specs.Request.{Request, request_of}
use Rattle.cip_objects.specs.declared.service.Service.{Service}
use Rattle.cip_objects.specs.declared.service.Service.TheVariants.{GetAttributesAll, GetAttributeList, SetAttributeList, GetAttributeSingle, SetAttributeSingle, GetMember, SetMember, Add, Clear}
use Rattle.cip_objects.specs.declared.status.Refusal.{Refusal}
use Rattle.cip_objects.specs.declared.status.Completion.{Completion}
use Rattle.cip_objects.specs.declared.status.Completion.TheVariants.{Whole, Partial}
use Rattle.cip_objects.specs.Contents.{Contents}
use Rattle.cip_objects.specs.ReadServices.{get_attribute_single, get_attributes_all, get_attribute_list, get_member}
use Rattle.cip_objects.specs.Execution.{Outcome, perform, outcome, Executed, with_reply, or_refusal, exec}
use Rattle.cip_objects.specs.ExecutionLaws.{reply_of_outcome, is_outcome}
use Rattle.cip_objects.specs.Laws.{Fits, refused_law, any_max_size_law}
use Rattle.cip_message.specs.Router.{general_status, REPLY_TOO_LARGE}
use Rattle.cip_objects.specs.Service.{service_code}
use Rattle.cip_bytes.specs.Protocol.{general_status_number}
use Rattle.cip_objects.specs.Status.{completion_status}
use Rattle.cip_objects.proofs.Executed.{answered_by}
use Rattle.cip_objects.proofs.Refuses.{IsFine}
use Rattle.cip_objects.proofs.Effects.{goes, read_effect, chosen_code}
use Rattle.cip_objects.proofs.Sets.{changes_fit}

-- a reply of four bytes, and unchanged contents
record IsBare (m : Contents) (x : Executed) : Type 0 where
  few : length x.answer ≡ 4
  same : x.after ≡ m

says : (c : Completion) → IsFine (general_status_number (completion_status c))
says Whole = inl refl
says Partial = inr refl

never : {A : Type 0} (n : ℕ) → IsFine n → (n ≡ 0x00 → ⊥) → (n ≡ 0x0a → ⊥) → A
never n (inl e) f g = absurd (f e)
never n (inr e) f g = absurd (g e)

bare : (m : Contents) (max_size : ℕ) (text : List ℕ) (r : Result Outcome Refusal) (q : Result Executed Refusal)
    → (r >>= with_reply max_size text) ≡ q → (general_status (or_refusal m text q).answer ≡ 0x00 → ⊥)
    → (general_status (or_refusal m text q).answer ≡ 0x0a → ⊥) → IsBare m (or_refusal m text q)
bare m max_size text r (Err s) e f g = record { few = refl; same = refl }
bare m max_size text r (Ok x) e f g =
    let p = is_outcome max_size text r x e in
    never (general_status x.answer) (subst (λ a. IsFine (general_status a)) (sym p.answer) (says p.made.status)) f g

exec_bare : (m : Contents) (max_size : ℕ) (text : List ℕ) → (general_status (exec m max_size text).answer ≡ 0x00 → ⊥)
    → (general_status (exec m max_size text).answer ≡ 0x0a → ⊥) → IsBare m (exec m max_size text)
unfolding exec
exec_bare m max_size text f g = bare m max_size text (outcome m text) (outcome m text >>= with_reply max_size text) refl f g

pub refused : refused_law
refused m max_size text f g = let b = exec_bare m max_size text f g in (b.few, b.same)

-- an outcome did not change the contents, or its reply is short
abbrev IsQuick : Contents → List ℕ → Outcome → Type 0
IsQuick m text o = (o.after ≡ m) ⊎ (length (reply_of_outcome text o) ≤ 8)

perform_quick : (m : Contents) (s : Service) (path : Path) (content text : List ℕ) (o : Outcome)
    → eqb (service_code s) 0x04 ≡ false → perform m s path content ≡ Ok o → IsQuick m text o
perform_quick m GetAttributesAll path content text o c e = inl (read_effect m (get_attributes_all m path content) o e)
perform_quick m GetAttributeList path content text o c e = inl (read_effect m (get_attribute_list m path content) o e)
perform_quick m SetAttributeList path content text o c e = absurd (cc)
perform_quick m GetAttributeSingle path content text o c e = inl (read_effect m (get_attribute_single m path content) o e)
perform_quick m SetAttributeSingle path content text o c e = inr
    (changes_fit m SetAttributeSingle path content text o 8 tt e (omega arith))
perform_quick m GetMember path content text o c e = inl (read_effect m (get_member m path content) o e)
perform_quick m SetMember path content text o c e = inr (changes_fit m SetMember path content text o 8 tt e (omega arith))
perform_quick m Add path content text o c e = inr (changes_fit m Add path content text o 8 tt e (omega arith))
perform_quick m Clear path content text o c e = inr (changes_fit m Clear path content text o 8 tt e (omega arith))

code_in : (short : Bool) (s w : ℕ) (rest : List ℕ) (q : Request) → ◌≡◌ {A = Result Request RequestFault}
    (cond short (Err PathSize) (Ok (record { service = s; path = take (2 * w) rest; «data» = drop (2 * w) rest }))) (Ok q)
    → s ≡ q.service
code_in true s w rest q e = absurd (cc)
code_in false s w rest q e =
    let same : ◌≡◌ {A = Request} (record { service = s; path = take (2 * w) rest; «data» = drop (2 * w) rest }) q = cc in
    ap (λ r. r.service) same

-- a request begins with the code of its service
pub first_code : (text : List ℕ) (q : Request) → request_of text ≡ Ok q → slice_index text 0 ≡ q.service
unfolding request_of
first_code [] q e = absurd (cc)
first_code (s ∷ []) q e = absurd (cc)
first_code (s ∷ w ∷ rest) q e = code_in (nat_lt (length rest) (2 * w)) s w rest q e

outcome_quick : (m : Contents) (text : List ℕ) (o : Outcome) → eqb (slice_index text 0) 0x04 ≡ false → outcome m text ≡ Ok o
    → IsQuick m text o
outcome_quick m text o c e =
    let g = goes m text o e in
    perform_quick m g.service g.path g.request.data text o
    (ap (λ n. eqb n 0x04)
    (chosen_code m.shapes g.path.class g.path.instance g.request.service g.service g.is_chosen
    ∙ sym (first_code text g.request g.is_request)) ∙ c)
    g.is_performed

-- the contents after an outcome, whatever the maximum size
abbrev settled : Contents → Result Outcome Refusal → Contents
settled m (Ok o) = o.after
settled m (Err s) = m

placed_settled : (over : Bool) (m : Contents) (max_size : ℕ) (text : List ℕ) (o : Outcome)
    → nat_lt max_size (length (reply_of_outcome text o)) ≡ over → 8 ≤ max_size → IsQuick m text o
    → (or_refusal m text (answered_by over text o)).after ≡ o.after
placed_settled true m max_size text o e h (inl same) = sym same
placed_settled true m max_size text o e h (inr short) = absurd (grind (arith, nat_tests))
placed_settled false m max_size text o e h q = refl

reply_settled : (m : Contents) (max_size : ℕ) (text : List ℕ) (r : Result Outcome Refusal) → 8 ≤ max_size
    → ((o : Outcome) → r ≡ Ok o → IsQuick m text o) → (or_refusal m text (r >>= with_reply max_size text)).after ≡ settled m r
reply_settled m max_size text (Err s) h q = refl
reply_settled m max_size text (Ok o) h q = placed_settled
    (nat_lt max_size (length (reply_of_outcome text o))) m max_size text o refl h (q o refl)

-- if replies may have 8 bytes or more, the contents after an execution of another service are those of its outcome
exec_settled : (m : Contents) (max_size : ℕ) (text : List ℕ) → eqb (slice_index text 0) 0x04 ≡ false → 8 ≤ max_size
    → (exec m max_size text).after ≡ settled m (outcome m text)
unfolding exec
exec_settled m max_size text c h = reply_settled m max_size text (outcome m text) h (λ o e. outcome_quick m text o c e)

placed_fits : (over : Bool) (m : Contents) (text : List ℕ) (o : Outcome)
    → (general_status (or_refusal m text (answered_by over text o)).answer ≡ REPLY_TOO_LARGE → ⊥)
    → (or_refusal m text (answered_by over text o)).after ≡ o.after
placed_fits true m text o h = absurd (h refl)
placed_fits false m text o h = refl

reply_fits : (m : Contents) (max_size : ℕ) (text : List ℕ) (r : Result Outcome Refusal)
    → (general_status (or_refusal m text (r >>= with_reply max_size text)).answer ≡ REPLY_TOO_LARGE → ⊥)
    → (or_refusal m text (r >>= with_reply max_size text)).after ≡ settled m r
reply_fits m max_size text (Err s) h = refl
reply_fits m max_size text (Ok o) h = placed_fits (nat_lt max_size (length (reply_of_outcome text o))) m text o h

-- so are they if the reply fits
exec_fits : (m : Contents) (max_size : ℕ) (text : List ℕ) → Fits m max_size text
    → (exec m max_size text).after ≡ settled m (outcome m text)
unfolding exec
exec_fits m max_size text h = reply_fits m max_size text (outcome m text) h

by_code : (t : Bool) (m : Contents) (max_size other : ℕ) (text : List ℕ) → eqb (slice_index text 0) 0x04 ≡ t → 8 ≤ max_size
    → 8 ≤ other → (slice_index text 0 ≡ 0x04 → Fits m max_size text × Fits m other text)
    → (exec m max_size text).after ≡ (exec m other text).after
by_code true m max_size other text e h k fits =
    let both = fits (eqb-true (slice_index text 0) 0x04 e) in
    exec_fits m max_size text both.0 ∙ sym (exec_fits m other text both.1)
by_code false m max_size other text e h k fits = exec_settled m max_size text e h ∙ sym (exec_settled m other text e k)

pub any_max_size : any_max_size_law
any_max_size m max_size other text h k fits = by_code (eqb (slice_index text 0) 0x04) m max_size other text refl h k fits
