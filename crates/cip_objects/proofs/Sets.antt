-- Sets and gets.
use Rattle.std.proofs.Common.{◌≡◌, ℕ, ◌+◌, ◌≤◌, ◌⊎◌, inl, inr, eqb, Bool, true, false, ◌&&◌, nat_lt, List, [], ◌∷◌, length, Option, Some, None, Result, Ok, refl, sym, ap, ◌∙◌, arith, suc}
use Rattle.std.proofs.lemmas.Bool.Decides.{nat_tests}
use Rattle.cip_bytes.specs.Reading.{◌>>=◌}
use Rattle.cip_message.specs.declared.path.Path.{Path}
use Rattle.cip_message.specs.declared.path.PathFault.{PathFault}
use Rattle.cip_message.specs.declared.request.RequestFault.{RequestFault}
use Rattle.cip_message.specs.PathReading.{path_of}
use Rattle.cip_message.specs.Request.{Request}
use Rattle.cip_objects.specs.declared.service.Service.{Service}
use Rattle.cip_objects.specs.declared.service.Service.TheVariants.{GetAttributesAll, GetAttributeList, SetAttributeList, GetAttributeSingle, SetAttributeSingle, GetMember, SetMember, Add, Clear}
use Rattle.cip_bytes.specs.declared.protocol.GeneralStatus.TheVariants.{Success}
use Rattle.cip_objects.specs.declared.status.Completion.TheVariants.{Whole}
use Rattle.cip_objects.specs.Contents.{Contents, value_at, with_change}
use Rattle.cip_objects.specs.ReadServices.{service_at, get_attribute_single}
use Rattle.cip_objects.specs.ChangeServices.{set_attribute_single, set_member, add, clear}
use Rattle.cip_objects.specs.Execution.{Outcome, perform, outcome, with_reply, or_refusal, exec, reply_to}
use Rattle.cip_objects.specs.ExecutionLaws.{exec_too_large}
use Rattle.cip_objects.specs.Laws.{IsRequestWith, too_large_law, changes_fit_law, get_after_set_law, set_leaves_others_law}
use Rattle.cip_message.specs.Router.{general_status}
use Rattle.cip_objects.specs.Service.{service_code}
use Rattle.std.specs.List.{list_any}
use Rattle.cip_objects.specs.Tables.{Shape, shape_at, services_of, ObjectShape, Shapes, object_at, is_counter_class}
use Rattle.cip_objects.proofs.Offers.{table, offered}
use Rattle.cip_objects.proofs.Executed.{answered_by}
use Rattle.cip_objects.proofs.Effects.{goes, set_effect, member_effect, add_effect, clear_effect, change_effect, chosen_code}
use Rattle.cip_objects.proofs.ReadAfterSet.{value_at-same, value_at-other}
use Rattle.cip_objects.proofs.Refuses.{exec_outcome, exec_left}

pub too_large : too_large_law
too_large m max_size text e = exec_too_large m max_size text e

pub changes_fit : changes_fit_law
changes_fit m SetAttributeSingle path content text o max_size h e fits =
    let c = change_effect (set_attribute_single m path content) o e in
    let none : o.content ≡ [] = c.content ∙ (set_effect m path content c.change c.first).answers in
    rw none (omega arith)
changes_fit m SetMember path content text o max_size h e fits =
    let c = change_effect (set_member m path content) o e in
    let none : o.content ≡ [] = c.content ∙ (member_effect m path content c.change c.first).answers in
    rw none (omega arith)
changes_fit m Add path content text o max_size h e fits =
    let c = change_effect (add m content) o e in
    rw (c.content ∙ (add_effect m content c.change c.first).answers) fits
changes_fit m Clear path content text o max_size h e fits =
    let c = change_effect (clear m content) o e in
    rw (c.content ∙ (clear_effect m content c.change c.first).answers) fits
changes_fit m GetAttributesAll path content text o max_size h e fits = absurd h
changes_fit m GetAttributeList path content text o max_size h e fits = absurd h
changes_fit m GetAttributeSingle path content text o max_size h e fits = absurd h
changes_fit m SetAttributeList path content text o max_size h e fits = absurd h
changes_fit m GetMember path content text o max_size h e fits = absurd h

-- a service of code 0x10 is Set_Attribute_Single
is_set : (s : Service) → service_code s ≡ 0x10 → s ≡ SetAttributeSingle
is_set GetAttributesAll e = absurd (omega arith)
is_set GetAttributeList e = absurd (omega arith)
is_set SetAttributeList e = absurd (omega arith)
is_set GetAttributeSingle e = absurd (omega arith)
is_set SetAttributeSingle e = refl
is_set GetMember e = absurd (omega arith)
is_set SetMember e = absurd (omega arith)
is_set Add e = absurd (omega arith)
is_set Clear e = absurd (omega arith)

-- what a set that succeeded has done
record WasSet (m : Contents) (path value : List ℕ) (p : Path) (o : Outcome) : Type 0 where
  attribute : ℕ
  named : p.attribute ≡ Some attribute
  is_path : path_of path ≡ Ok p
  offers : service_at m.shapes p.class p.instance 0x10 ≡ Ok SetAttributeSingle
  leaves : o.after ≡ with_change m p.class p.instance attribute value

same_request : (q r : Request) → ◌≡◌ {A = Result Request RequestFault} (Ok q) (Ok r) → q ≡ r
same_request q r e = cc

same_path : (q r : Path) → ◌≡◌ {A = Result Path PathFault} (Ok q) (Ok r) → q ≡ r
same_path q r e = cc

was_set : (m : Contents) (set path value : List ℕ) (o : Outcome) → IsRequestWith set 0x10 path value → outcome m set ≡ Ok o → (p : Path) × WasSet m path value p o
was_set m set path value o e done =
    let g = goes m set o done in
    let q : g.request ≡ record { service = 0x10; path = path; «data» = value } = same_request g.request _ (sym g.is_request ∙ e) in
    let s : g.service ≡ SetAttributeSingle = is_set g.service (chosen_code m.shapes g.path.class g.path.instance g.request.service g.service g.is_chosen ∙ ap (λ r. r.service) q) in
    let performed : perform m SetAttributeSingle g.path value ≡ Ok o = ap (λ k. perform m k g.path value) (sym s) ∙ ap (λ r. perform m g.service g.path r.data) (sym q) ∙ g.is_performed in
    let c = change_effect (set_attribute_single m g.path value) o performed in
    let x = set_effect m g.path value c.change c.first in (
      g.path,
      record {
        attribute = x.attribute;
        named = x.named;
        is_path = ap (λ r. path_of r.path) (sym q) ∙ g.is_path;
        offers = ap (λ r. service_at m.shapes g.path.class g.path.instance r.service) (sym q) ∙ g.is_chosen ∙ ap (λ k. Ok k) s;
        leaves = c.after ∙ x.leaves;
      },
    )

table_get : (b1 b4 b6 b100 z o : Bool) (x : Option Shape) (k : Bool) (y : Option ObjectShape) (s : Service) → offered 0x10 (table b1 b4 b6 b100 z o x k y) ≡ Ok s → offered 0x0e (table b1 b4 b6 b100 z o x k y) ≡ Ok GetAttributeSingle
table_get true b4 b6 b100 true o x k y s e = absurd (cc)
table_get true b4 b6 b100 false true x k y s e = absurd (cc)
table_get true b4 b6 b100 false false x k y s e = absurd (cc)
table_get false true b6 b100 true o x k y s e = absurd (cc)
table_get false true b6 b100 false o None k y s e = absurd (cc)
table_get false true b6 b100 false o (Some w) k y s e = refl
table_get false false true b100 z true x k y s e = absurd (cc)
table_get false false true b100 z false x k y s e = absurd (cc)
table_get false false false true true o x k y s e = absurd (cc)
table_get false false false true false true x k y s e = refl
table_get false false false true false false x k y s e = absurd (cc)
table_get false false false false true o x true y s e = absurd (cc)
table_get false false false false true o x false y s e = absurd (cc)
table_get false false false false false o x k None s e = absurd (cc)
table_get false false false false false o x k (Some w) s e = refl

-- what can be set can be read
offers_get : (shapes : Shapes) (class instance : ℕ) (s : Service) → service_at shapes class instance 0x10 ≡ Ok s → service_at shapes class instance 0x0e ≡ Ok GetAttributeSingle
unfolding service_at services_of
offers_get shapes class instance s e =
    table_get (eqb class 1) (eqb class 4) (eqb class 6) (is_counter_class shapes class) (eqb instance 0) (eqb instance 1) (shape_at instance shapes.assemblies)
    (list_any (λ o. eqb o.class class) shapes.objects) (object_at class instance shapes.objects) s e

-- the outcome of a get if the attribute exists
pub get_makes : (m : Contents) (get path value : List ℕ) (p : Path) (a : ℕ) → IsRequestWith get 0x0e path [] → path_of path ≡ Ok p → service_at m.shapes p.class p.instance 0x0e ≡ Ok GetAttributeSingle → p.attribute ≡ Some a → value_at m p.class p.instance a ≡ Some value → outcome m get ≡ Ok (record { after = m; status = Whole; content = value })
unfolding outcome get_attribute_single
get_makes m get path value p a e f g h v = rw (e, f, g, h, v) refl

not_over : (later n : ℕ) → 4 + n ≤ later → nat_lt later (suc (suc (suc (suc n)))) ≡ false
not_over later n h = grind (arith, nat_tests)

fits_later : (m : Contents) (later : ℕ) (get value : List ℕ) → 4 + length value ≤ later
    → (or_refusal m get (with_reply later get (record { after = m; status = Whole; content = value }))).answer
    ≡ reply_to get Success value
fits_later m later get value h =
    ap (λ t. (or_refusal m get (answered_by t get (record { after = m; status = Whole; content = value }))).answer)
    (not_over later (length value) h)

pub got : (m : Contents) (later : ℕ) (get value : List ℕ)
    → outcome m get ≡ Ok (record { after = m; status = Whole; content = value }) → 4 + length value ≤ later
    → (exec m later get).answer ≡ reply_to get Success value
unfolding exec
got m later get value e h =
    ap (λ r. (or_refusal m get (r >>= with_reply later get)).answer) e ∙ fits_later m later get value h

-- a reply that says success is that of an outcome, whose contents were left
pub went_well : (m : Contents) (max_size : ℕ) (text : List ℕ) → general_status (exec m max_size text).answer ≡ 0 → (o : Outcome) × (outcome m text ≡ Ok o) × ((exec m max_size text).after ≡ o.after)
went_well m max_size text s = let p = exec_outcome m max_size text (inl s) in (p.made, p.is_made, p.after)

pub get_after_set : get_after_set_law
get_after_set m max_size later set get path value e f s fits =
    let x = went_well m max_size set s in
    let w = was_set m set path value x.0 e x.1 in
    let p = w.0 in
    let n = with_change m p.class p.instance w.1.attribute value in
    let made = get_makes n get path value p w.1.attribute f w.1.is_path (offers_get m.shapes p.class p.instance SetAttributeSingle w.1.offers) w.1.named (value_at-same m p.class p.instance w.1.attribute value) in
    ap (λ k. (exec m max_size set).answer ∷ (exec k later get).answer ∷ []) (x.2 ∙ w.1.leaves)
    ∙ ap (λ r. (exec m max_size set).answer ∷ r ∷ []) (got n later get value made fits)

other_key : (d c j i b a : ℕ) → ((d ≡ c) × (j ≡ i) × (b ≡ a) → ⊥) → eqb d c && (eqb j i && eqb b a) ≡ false
other_key d c j i b a h = grind (arith, nat_tests)

leaves_others : (m : Contents) (max_size : ℕ) (set path value : List ℕ) (p : Path) → IsRequestWith set 0x10 path value → path_of path ≡ Ok p → (class instance attribute : ℕ) → ((class ≡ p.class) × (instance ≡ p.instance) × (Some attribute ≡ p.attribute) → ⊥)
    → ((exec m max_size set).after ≡ m) ⊎ ((o : Outcome) × (outcome m set ≡ Ok o) × ((exec m max_size set).after ≡ o.after)) → value_at (exec m max_size set).after class instance attribute ≡ value_at m class instance attribute
leaves_others m max_size set path value p e f class instance attribute other (inl same) = ap (λ k. value_at k class instance attribute) same
leaves_others m max_size set path value p e f class instance attribute other (inr x) =
    let w = was_set m set path value x.0 e x.1 in
    let here : w.0 ≡ p = same_path w.0 p (sym w.1.is_path ∙ f) in
    ap (λ k. value_at k class instance attribute) (x.2 ∙ w.1.leaves)
    ∙ value_at-other m w.0.class w.0.instance w.1.attribute value class instance attribute
    (other_key class w.0.class instance w.0.instance attribute w.1.attribute
    (λ k. other (k.0 ∙ ap (λ y. y.class) here, k.1 ∙ ap (λ y. y.instance) here, ap (λ n. Some n) k.2 ∙ sym w.1.named ∙ ap (λ y. y.attribute) here)))

pub set_leaves_others : set_leaves_others_law
set_leaves_others m max_size set path value p e f class instance attribute other =
    leaves_others m max_size set path value p e f class instance attribute other (exec_left m max_size set)
