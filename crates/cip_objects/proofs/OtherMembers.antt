-- A Set_Member does not change other members.
use Rattle.std.proofs.Common.{◌≡◌, ℕ, ◌+◌, ◌-◌, ◌<◌, ◌≤◌, ◌⊎◌, inl, inr, eqb, Bool, true, false, ◌&&◌, nat_lt, List, [], length, take, drop, Option, Some, unwrap_or, Result, Ok, Err, refl, sym, ap, ◌∙◌, arith, subst}
use Rattle.std.proofs.lemmas.Bool.Decides.{nat_tests, eqb_tells}
use Rattle.cip_message.specs.declared.path.Path.{Path}
use Rattle.cip_message.specs.declared.path.PathFault.{PathFault}
use Rattle.cip_message.specs.PathReading.{path_of}
use Rattle.cip_objects.specs.declared.assembly.Span.{Span}
use Rattle.cip_objects.specs.declared.service.Service.{Service}
use Rattle.cip_objects.specs.declared.service.Service.TheVariants.{GetMember}
use Rattle.cip_objects.specs.declared.status.Refusal.{Refusal}
use Rattle.cip_objects.specs.declared.status.Completion.TheVariants.{Whole}
use Rattle.cip_bytes.specs.Reading.{◌>>=◌, ◌>>◌}
use Rattle.cip_objects.specs.Check.{check_size}
use Rattle.cip_objects.specs.Contents.{Contents, bytes_at, with_change}
use Rattle.cip_objects.specs.ReadServices.{Answer, answer, service_at, named_member, get_member}
use Rattle.cip_objects.specs.ChangeServices.{with_bytes_at}
use Rattle.cip_objects.specs.Execution.{Outcome, outcome_of_read, perform, outcome, with_reply, or_refusal, exec, reply_to}
use Rattle.cip_objects.specs.Laws.{IsRequestWith}
use Rattle.cip_objects.specs.Members.{AreWhole, set_member_leaves_others_law}
use Rattle.cip_objects.specs.Tables.{shape_at}
use Rattle.cip_objects.specs.Status.{completion_status}
use Rattle.cip_objects.proofs.Executed.{answered_by}
use Rattle.cip_objects.proofs.Effects.{chosen_code}
use Rattle.cip_objects.proofs.ReadAfterSet.{value_at-same, value_at-other}
use Rattle.cip_objects.proofs.Members.{Names, named, WasMember, was_member, fits_in, is_get_member}
use Rattle.cip_objects.proofs.Refuses.{exec_left}
use Rattle.cip_objects.proofs.Spans.{IsAt, before, slice_before, slice_behind}

-- two contents with the same tables in which the members that the path names are the same
record AreAlike (m n : Contents) (q : Path) : Type 0 where
  shapes : n.shapes ≡ m.shapes
  slices : (span : Span) → named_member m.shapes q ≡ Ok span
      → take span.size (drop span.offset (bytes_at n 4 q.instance 3)) ≡ take span.size
      (drop span.offset (bytes_at m 4 q.instance 3))

by_span : (r : Result Span Refusal) (x y : List ℕ)
    → ((span : Span) → r ≡ Ok span → take span.size (drop span.offset x) ≡ take span.size (drop span.offset y))
    → (r >>= λ (span : Span). check_size 0 [] >> answer Whole (take span.size (drop span.offset x))) ≡
    (r >>= λ (span : Span). check_size 0 [] >> answer Whole (take span.size (drop span.offset y)))
by_span (Ok span) x y h = ap (λ v. answer Whole v) (h span refl)
by_span (Err s) x y h = refl

member_alike : (m n : Contents) (q : Path) → AreAlike m n q → get_member n q [] ≡ get_member m q []
unfolding get_member
member_alike m n q h =
    ap (λ s. named_member s q >>= λ (span : Span). check_size 0 [] >> answer Whole
    (take span.size (drop span.offset (bytes_at n 4 q.instance 3)))) h.shapes
    ∙ by_span (named_member m.shapes q) (bytes_at n 4 q.instance 3) (bytes_at m 4 q.instance 3) h.slices

placed_alike : (over : Bool) (m n : Contents) (text : List ℕ) (a : Answer)
    → (or_refusal n text (answered_by over text (record { after = n; status = a.status; content = a.content }))).answer ≡
    (or_refusal m text (answered_by over text (record { after = m; status = a.status; content = a.content }))).answer
placed_alike true m n text a = refl
placed_alike false m n text a = refl

reads_alike : (m n : Contents) (max_size : ℕ) (text : List ℕ) (r : Result Answer Refusal)
    → (or_refusal n text ((outcome_of_read n r) >>= with_reply max_size text)).answer ≡ (or_refusal m text ((outcome_of_read m r) >>= with_reply max_size text)).answer
reads_alike m n max_size text (Ok a) = placed_alike (nat_lt max_size (length (reply_to text (completion_status a.status) a.content))) m n text a
reads_alike m n max_size text (Err s) = refl

by_chosen : (m n : Contents) (max_size : ℕ) (text : List ℕ) (q : Path) (r : Result Service Refusal)
    → ((s : Service) → r ≡ Ok s → s ≡ GetMember) → get_member n q [] ≡ get_member m q []
    → (or_refusal n text ((r >>= λ s. perform n s q []) >>= with_reply max_size text)).answer ≡
    (or_refusal m text ((r >>= λ s. perform m s q []) >>= with_reply max_size text)).answer
by_chosen m n max_size text q (Err s) h e = refl
by_chosen m n max_size text q (Ok s) h e =
    ap (λ k. (or_refusal n text ((perform n k q []) >>= with_reply max_size text)).answer) (h s refl)
    ∙ ap (λ r. (or_refusal n text ((outcome_of_read n r) >>= with_reply max_size text)).answer) e
    ∙ reads_alike m n max_size text (get_member m q [])
    ∙ ap (λ k. (or_refusal m text ((perform m k q []) >>= with_reply max_size text)).answer) (sym (h s refl))

outcome_is : (m : Contents) (get path : List ℕ) (q : Path) → IsRequestWith get 0x18 path [] → path_of path ≡ Ok q
    → outcome m get ≡ (service_at m.shapes q.class q.instance 0x18 >>= λ s. perform m s q [])
unfolding outcome
outcome_is m get path q e f = rw (e, f) refl

answers_alike : (m n : Contents) (max_size : ℕ) (get path : List ℕ) (q : Path) → IsRequestWith get 0x18 path []
    → path_of path ≡ Ok q → AreAlike m n q → (exec n max_size get).answer ≡ (exec m max_size get).answer
unfolding exec
answers_alike m n max_size get path q e f h =
    ap (λ r. (or_refusal n get (r >>= with_reply max_size get)).answer) (outcome_is n get path q e f)
    ∙ ap (λ s. (or_refusal n get ((service_at s q.class q.instance 0x18 >>= λ k. perform n k q []) >>= with_reply max_size get)).answer) h.shapes
    ∙ by_chosen m n max_size get q (service_at m.shapes q.class q.instance 0x18)
    (λ s is. is_get_member s (chosen_code m.shapes q.class q.instance 0x18 s is)) (member_alike m n q h)
    ∙ ap (λ r. (or_refusal m get (r >>= with_reply max_size get)).answer) (sym (outcome_is m get path q e f))

alike : (m n : Contents) (q : Path) → n ≡ m → AreAlike m n q
alike m n q e = record {
  shapes = ap (λ k. k.shapes) e;
  slices = λ span h. ap (λ k. take span.size (drop span.offset (bytes_at k 4 q.instance 3))) e;
}

-- the data of another assembly
other_assembly : (m n : Contents) (i : ℕ) (v : List ℕ) (q : Path) → n ≡ with_change m 4 i 3 v → eqb q.instance i ≡ false
    → AreAlike m n q
other_assembly m n i v q e h =
    let read : bytes_at n 4 q.instance 3 ≡ bytes_at m 4 q.instance 3 = ap (λ k. bytes_at k 4 q.instance 3) e
    ∙ ap (λ o. unwrap_or o []) (value_at-other m 4 i 3 v 4 q.instance 3 (ap (λ t. t && true) h)) in
    record {
      shapes = ap (λ k. k.shapes) e;
      slices = λ span g. ap (λ x. take span.size (drop span.offset x)) read;
    }

same_some : {A : Type 0} (x y : A) → ◌≡◌ {A = Option A} (Some x) (Some y) → x ≡ y
same_some x y e = cc

-- another member of the same data is before or after it
by_order : (less : Bool) (sizes old value : List ℕ) (j k : ℕ) (one written : Span) → IsAt sizes j one
    → IsAt sizes k written → length value ≡ written.size → written.offset + written.size ≤ length old → (j ≡ k → ⊥)
    → nat_lt j k ≡ less
    → take one.size (drop one.offset (with_bytes_at old written.offset value)) ≡ take one.size (drop one.offset old)
by_order true sizes old value j k one written a b size inside other less =
    let order : j < k = grind (arith, nat_tests) in
    let near = before sizes j k one written a b order in
    slice_before old value written.offset one.offset one.size (omega arith) near
by_order false sizes old value j k one written a b size inside other less =
    let order : k < j = grind (arith, nat_tests) in
    let far = before sizes k j written one b a order in
    ap (take one.size) (slice_behind old value written.offset one.offset (omega arith) (omega arith))

same_place : (a b : ℕ) → 0 < a → 0 < b → a - 1 ≡ b - 1 → a ≡ b
same_place a b h k e = omega arith

same_assembly : (m n : Contents) (value : List ℕ) (p q : Path) (written : Span) → AreWhole m → Names m.shapes p written
    → q.instance ≡ p.instance
    → n ≡ with_change m 4 p.instance 3 (with_bytes_at (bytes_at m 4 p.instance 3) written.offset value)
    → length value ≡ written.size → (q.member ≡ p.member → ⊥) → AreAlike m n q
same_assembly m n value p q written whole b here e size other =
    let old = bytes_at m 4 p.instance 3 in
    let new = with_bytes_at old written.offset value in
    let read : bytes_at n 4 q.instance 3 ≡ new = ap (λ k. bytes_at k 4 q.instance 3) e
    ∙ ap (λ j. bytes_at (with_change m 4 p.instance 3 new) 4 j 3) here
    ∙ ap (λ o. unwrap_or o []) (value_at-same m 4 p.instance 3 new) in
    record {
      shapes = ap (λ k. k.shapes) e;
      slices = λ span g.
          let a = named m.shapes q span g in
          let shape : a.shape ≡ b.shape = same_some a.shape b.shape
          (sym a.is_shape ∙ ap (λ i. shape_at i m.shapes.assemblies) here ∙ b.is_shape) in
          let lies : IsAt b.shape.members (a.number - 1) span = subst
          (λ s. IsAt s.members (a.number - 1) span) shape a.lies in
          let apart : a.number - 1 ≡ b.number - 1
          → ⊥ = λ same. other (a.is_member ∙ ap (λ k. Some k) (same_place a.number b.number a.counts b.counts same)
          ∙ sym b.is_member) in
          ap (λ x. take span.size (drop span.offset x)) read
          ∙ by_order (nat_lt (a.number - 1) (b.number - 1)) b.shape.members old value (a.number - 1)
          (b.number - 1) span written lies b.lies size (fits_in m p written whole b) apart refl
          ∙ ap (λ i. take span.size (drop span.offset (bytes_at m 4 i 3))) (sym here);
    }

by_assembly : (m n : Contents) (path value : List ℕ) (p q : Path) (o : Outcome) → AreWhole m
    → WasMember m path value p o → n ≡ o.after → ((q.instance ≡ p.instance) × (q.member ≡ p.member) → ⊥)
    → ((eqb q.instance p.instance ≡ true) × (q.instance ≡ p.instance)) ⊎
    ((eqb q.instance p.instance ≡ false) × (q.instance ≡ p.instance → ⊥)) → AreAlike m n q
by_assembly m n path value p q o whole w e other (inl same) =
    same_assembly m n value p q w.span whole (named m.shapes p w.span w.names) same.1 (e ∙ w.leaves) w.size
    (λ k. other (same.1, k))
by_assembly m n path value p q o whole w e other (inr apart) =
    other_assembly m n p.instance (with_bytes_at (bytes_at m 4 p.instance 3) w.span.offset value) q (e ∙ w.leaves) apart.0

same_path : (q r : Path) → ◌≡◌ {A = Result Path PathFault} (Ok q) (Ok r) → q ≡ r
same_path q r e = cc

either : (m n : Contents) (set path value : List ℕ) (p q : Path) → AreWhole m → IsRequestWith set 0x19 path value
    → path_of path ≡ Ok p → ((q.instance ≡ p.instance) × (q.member ≡ p.member) → ⊥)
    → (n ≡ m) ⊎ ((o : Outcome) × (outcome m set ≡ Ok o) × (n ≡ o.after)) → AreAlike m n q
either m n set path value p q whole e f other (inl same) = alike m n q same
either m n set path value p q whole e f other (inr x) =
    let w = was_member m set path value x.0 e x.1 in
    let here : w.0 ≡ p = same_path w.0 p (sym w.1.is_path ∙ f) in
    by_assembly m n path value p q x.0 whole (subst (λ k. WasMember m path value k x.0) here w.1) x.2 other
    (eqb_tells q.instance p.instance)

pub set_member_leaves_others : set_member_leaves_others_law
set_member_leaves_others m max_size later set path value get names p q whole e f g h other =
    answers_alike m (exec m max_size set).after later get names q g h
    (either m (exec m max_size set).after set path value p q whole e f other (exec_left m max_size set))
