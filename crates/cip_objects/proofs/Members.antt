-- What is read of a member after one was set.
use Rattle.std.proofs.Common.{◌≡◌, ℕ, ◌+◌, ◌-◌, ◌<◌, ◌≤◌, eqb, Bool, true, false, List, [], ◌∷◌, length, take, drop, Option, Some, None, unwrap_or, Result, Ok, refl, sym, ap, ◌∙◌, arith}
use Rattle.std.specs.Option.{ok_or}
use Rattle.cip_message.specs.declared.path.Path.{Path}
use Rattle.cip_message.specs.declared.path.PathFault.{PathFault}
use Rattle.cip_message.specs.declared.request.RequestFault.{RequestFault}
use Rattle.cip_message.specs.PathReading.{path_of}
use Rattle.cip_message.specs.Request.{Request}
use Rattle.cip_objects.specs.declared.assembly.Span.{Span}
use Rattle.cip_objects.specs.declared.service.Service.{Service}
use Rattle.cip_objects.specs.declared.service.Service.TheVariants.{GetAttributesAll, GetAttributeList, SetAttributeList, GetAttributeSingle, SetAttributeSingle, GetMember, SetMember, Add, Clear}
use Rattle.cip_objects.specs.declared.status.Completion.TheVariants.{Whole}
use Rattle.cip_objects.specs.declared.status.Refusal.TheVariants.{AttributeNotSupported, InvalidMemberId}
use Rattle.cip_objects.specs.Check.{demand}
use Rattle.cip_objects.specs.Contents.{Contents, bytes_at, with_change}
use Rattle.cip_objects.specs.ReadServices.{service_at, is_data, named_member, get_member}
use Rattle.cip_objects.specs.ChangeServices.{with_bytes_at, set_member}
use Rattle.cip_objects.specs.Execution.{Outcome, perform, outcome, exec}
use Rattle.cip_objects.specs.Laws.{IsRequestWith}
use Rattle.cip_objects.specs.Members.{AreWhole, member_after_set_law}
use Rattle.cip_objects.specs.Service.{service_code}
use Rattle.std.specs.List.{list_any}
use Rattle.cip_objects.specs.Tables.{Shape, shape_at, span_in, member_at, object_list_services, services_of, ObjectShape, Shapes, object_at, is_counter_class}
use Rattle.cip_objects.proofs.Offers.{table, offered, not_among}
use Rattle.cip_objects.proofs.Effects.{goes, bound, after_check, found_some, change_effect, chosen_code}
use Rattle.cip_objects.proofs.ReadAfterSet.{value_at-same}
use Rattle.cip_objects.proofs.Sets.{went_well, got}
use Rattle.cip_objects.proofs.Spans.{IsAt, member_at_place, inside, slice_same}
use Rattle.cip_objects.proofs.Unsettable.{splices}

-- the member that a path names
pub record Names (shapes : Shapes) (path : Path) (span : Span) : Type 0 where
  pub number : ℕ
  pub shape : Shape
  pub is_member : path.member ≡ Some number
  pub is_shape : shape_at path.instance shapes.assemblies ≡ Some shape
  pub counts : 0 < number
  pub lies : IsAt shape.members (number - 1) span

in_shape : (shapes : Shapes) (path : Path) (span : Span) (number : ℕ) (o : Option Shape) → path.member ≡ Some number
    → shape_at path.instance shapes.assemblies ≡ o → span_in o number ≡ Some span → Names shapes path span
in_shape shapes path span number None e f g = absurd (cc)
in_shape shapes path span number (Some s) e f g =
    let p = member_at_place s.members number span g in
    record {
      number = number;
      shape = s;
      is_member = e;
      is_shape = f;
      counts = p.0;
      lies = p.1;
    }

pub named : (shapes : Shapes) (path : Path) (span : Span) → named_member shapes path ≡ Ok span
    → Names shapes path span
unfolding named_member
named shapes path span e =
    let d = after_check (demand (is_data path.attribute) AttributeNotSupported) _ span e in
    let n = bound (ok_or path.member InvalidMemberId) _ span d.1 in
    in_shape shapes path span n.value (shape_at path.instance shapes.assemblies)
    (found_some path.member _ n.value n.first) refl
    (found_some (member_at shapes path.instance n.value) _ span n.rest)

-- services by their codes
is_set_member : (s : Service) → service_code s ≡ 0x19 → s ≡ SetMember
is_set_member GetAttributesAll e = absurd (omega arith)
is_set_member GetAttributeList e = absurd (omega arith)
is_set_member SetAttributeList e = absurd (omega arith)
is_set_member GetAttributeSingle e = absurd (omega arith)
is_set_member SetAttributeSingle e = absurd (omega arith)
is_set_member GetMember e = absurd (omega arith)
is_set_member SetMember e = refl
is_set_member Add e = absurd (omega arith)
is_set_member Clear e = absurd (omega arith)

pub is_get_member : (s : Service) → service_code s ≡ 0x18 → s ≡ GetMember
is_get_member GetAttributesAll e = absurd (omega arith)
is_get_member GetAttributeList e = absurd (omega arith)
is_get_member SetAttributeList e = absurd (omega arith)
is_get_member GetAttributeSingle e = absurd (omega arith)
is_get_member SetAttributeSingle e = absurd (omega arith)
is_get_member GetMember e = refl
is_get_member SetMember e = absurd (omega arith)
is_get_member Add e = absurd (omega arith)
is_get_member Clear e = absurd (omega arith)

table_member : (b1 b4 b6 b100 z o : Bool) (x : Option Shape) (k : Bool) (y : Option ObjectShape) (s : Service)
    → offered 0x19 (table b1 b4 b6 b100 z o x k y) ≡ Ok s → offered 0x18 (table b1 b4 b6 b100 z o x k y) ≡ Ok GetMember
table_member true b4 b6 b100 true o x k y s e = absurd (cc)
table_member true b4 b6 b100 false true x k y s e = absurd (cc)
table_member true b4 b6 b100 false false x k y s e = absurd (cc)
table_member false true b6 b100 true o x k y s e = absurd (cc)
table_member false true b6 b100 false o None k y s e = absurd (cc)
table_member false true b6 b100 false o (Some w) k y s e = refl
table_member false false true b100 z true x k y s e = absurd (cc)
table_member false false true b100 z false x k y s e = absurd (cc)
table_member false false false true true o x k y s e = absurd (cc)
table_member false false false true false true x k y s e = absurd (cc)
table_member false false false true false false x k y s e = absurd (cc)
table_member false false false false true o x true y s e = absurd (cc)
table_member false false false false true o x false y s e = absurd (cc)
table_member false false false false false o x k None s e = absurd (cc)
table_member false false false false false o x k (Some w) s e = absurd (not_among 0x19 w.lists object_list_services s refl e)

-- an assembly whose members can be set also has Get_Member
member_offers : (shapes : Shapes) (class instance : ℕ) (s : Service) → service_at shapes class instance 0x19 ≡ Ok s
    → service_at shapes class instance 0x18 ≡ Ok GetMember
unfolding service_at services_of
member_offers shapes class instance s e =
    table_member (eqb class 1) (eqb class 4) (eqb class 6) (is_counter_class shapes class) (eqb instance 0) (eqb instance 1)
    (shape_at instance shapes.assemblies)
    (list_any (λ o. eqb o.class class) shapes.objects) (object_at class instance shapes.objects) s e

-- what a Set_Member that succeeded has done
pub record WasMember (m : Contents) (path value : List ℕ) (p : Path) (o : Outcome) : Type 0 where
  pub is_path : path_of path ≡ Ok p
  pub offers : service_at m.shapes p.class p.instance 0x19 ≡ Ok SetMember
  pub span : Span
  pub names : named_member m.shapes p ≡ Ok span
  pub size : length value ≡ span.size
  pub leaves : o.after ≡ with_change m 4 p.instance 3 (with_bytes_at (bytes_at m 4 p.instance 3) span.offset value)

same_request : (q r : Request) → ◌≡◌ {A = Result Request RequestFault} (Ok q) (Ok r) → q ≡ r
same_request q r e = cc

same_path : (q r : Path) → ◌≡◌ {A = Result Path PathFault} (Ok q) (Ok r) → q ≡ r
same_path q r e = cc

pub was_member : (m : Contents) (set path value : List ℕ) (o : Outcome) → IsRequestWith set 0x19 path value
    → outcome m set ≡ Ok o → (p : Path) × WasMember m path value p o
was_member m set path value o e done =
    let g = goes m set o done in
    let q : g.request ≡ record { service = 0x19; path = path; «data» = value } = same_request g.request _
    (sym g.is_request ∙ e) in
    let s : g.service ≡ SetMember = is_set_member g.service
    (chosen_code m.shapes g.path.class g.path.instance g.request.service g.service g.is_chosen ∙ ap
    (λ r. r.service) q) in
    let performed : perform m SetMember g.path value ≡ Ok o = ap (λ k. perform m k g.path value) (sym s)
    ∙ ap (λ r. perform m g.service g.path r.data) (sym q) ∙ g.is_performed in
    let c = change_effect (set_member m g.path value) o performed in
    let x = splices m g.path value c.change c.first in (
      g.path,
      record {
        is_path = ap (λ r. path_of r.path) (sym q) ∙ g.is_path;
        offers = ap (λ r. service_at m.shapes g.path.class g.path.instance r.service) (sym q) ∙ g.is_chosen
            ∙ ap (λ k. Ok k) s;
        span = x.span;
        names = x.names;
        size = x.size;
        leaves = c.after ∙ x.leaves;
      },
    )

-- the outcome of a Get_Member
member_makes : (m : Contents) (get path value : List ℕ) (p : Path) (span : Span) → IsRequestWith get 0x18 path []
    → path_of path ≡ Ok p → service_at m.shapes p.class p.instance 0x18 ≡ Ok GetMember → named_member m.shapes p ≡ Ok span
    → take span.size (drop span.offset (bytes_at m 4 p.instance 3)) ≡ value
    → outcome m get ≡ Ok (record { after = m; status = Whole; content = value })
unfolding outcome get_member
member_makes m get path value p span e f g h v = rw (e, f, g, h, v) refl

-- the bytes of the member in the data
pub fits_in : (m : Contents) (p : Path) (span : Span) → AreWhole m → Names m.shapes p span
    → span.offset + span.size ≤ length (bytes_at m 4 p.instance 3)
fits_in m p span whole n = omega
    (arith, whole p.instance n.shape n.is_shape, inside n.shape.members (n.number - 1) span n.lies)

spliced_read : (old value : List ℕ) (span : Span) (new : List ℕ) → new ≡ with_bytes_at old span.offset value
    → length value ≡ span.size → span.offset + span.size ≤ length old → take span.size (drop span.offset new) ≡ value
spliced_read old value span new e size h =
    ap (λ n. take n (drop span.offset new)) (sym size)
    ∙ ap (λ x. take (length value) (drop span.offset x)) e
    ∙ slice_same old value span.offset (omega arith)

pub member_after_set : member_after_set_law
member_after_set m max_size later set get path value whole e f s fits =
    let x = went_well m max_size set s in
    let w = was_member m set path value x.0 e x.1 in
    let p = w.0 in
    let old = bytes_at m 4 p.instance 3 in
    let new = with_bytes_at old w.1.span.offset value in
    let n = with_change m 4 p.instance 3 new in
    let read : bytes_at n 4 p.instance 3 ≡ new = ap (λ o. unwrap_or o []) (value_at-same m 4 p.instance 3 new) in
    let slice = spliced_read old value w.1.span (bytes_at n 4 p.instance 3) read w.1.size
    (fits_in m p w.1.span whole (named m.shapes p w.1.span w.1.names)) in
    let made = member_makes n get path value p w.1.span f w.1.is_path
    (member_offers m.shapes p.class p.instance SetMember w.1.offers) w.1.names slice in
    ap (λ k. (exec m max_size set).answer ∷ (exec k later get).answer ∷ []) (x.2 ∙ w.1.leaves)
    ∙ ap (λ r. (exec m max_size set).answer ∷ r ∷ []) (got n later get value made fits)
