-- A path that is read is the one spelled, what is spelled is read, and each fault is reported exactly where it is
-- defined.
use Rattle.std.proofs.Common.{◌≡◌, ◌≢◌, ℕ, List, [], ◌∷◌, ◌++◌, Option, Some, None, Result, Ok, Err, refl, sym, ap, subst, ◌∙◌, append_assoc, inl, inr}
use Rattle.std.proofs.lemmas.List.{append-nil}
use Rattle.cip_message.specs.declared.path.Segment.{Segment}
use Rattle.cip_message.specs.declared.path.Segment.TheVariants.{Class, Instance, Member, Attribute}
use Rattle.cip_message.specs.declared.path.Path.{Path}
use Rattle.cip_message.specs.declared.path.PathFault.{PathFault}
use Rattle.cip_message.specs.declared.path.PathFault.TheVariants as fault
use Rattle.cip_bytes.specs.Reading.{◌>>=◌}
use Rattle.cip_message.specs.Path.{IsSegment, AreSegments, optional, segments, IsPath, Begins, IsWrong, path_fault}
use Rattle.cip_message.specs.PathReading.{segment_of, as_class, as_instance, as_attribute, as_member, class_of, instance_of, attribute_of, member_of, whole_of, path_of}
use Rattle.cip_bytes.specs.Numbers.{AreBytes}
use Rattle.cip_bytes.proofs.Bytes.{AreBytes-second}
use Rattle.cip_bytes.proofs.Steps.{bind_ok, bind_err, ok_is}
use Rattle.cip_message.proofs.Segments.{SegmentFault, segment_taken, segment_again, segment_fault, segment_none, segment_cut, segment_none_at_end}

-- ---- where reading stops

-- why reading stops at b, after the segments gs, by the segment at its front
pub data Stop (k : PathFault) (gs : List Segment) (b : List ℕ) : Type 0 where
  broken : b ≢ [] → segment_of b ≡ Err k → Stop k gs b
  misplaced : (g : Segment) (r : List ℕ) → segment_of b ≡ Ok (g, r) → (Begins (gs ++ g ∷ []) → ⊥) → k ≡ fault.Order → Stop k gs b
  ended : b ≡ [] → ((p : Path) → segments p ≢ gs) → k ≡ fault.Order → Stop k gs b

cons_not_nil : (x : ℕ) (xs b : List ℕ) → b ≡ x ∷ xs → b ≢ []
cons_not_nil x xs b e f = absurd cc

stop_of : (k : PathFault) (gs : List Segment) (b : List ℕ) → IsWrong k gs b → Stop k gs b
stop_of fault.Segment gs b w = broken (cons_not_nil w.first w.more b w.begins) (segment_none b w)
stop_of fault.Cut gs b w = broken w.some (segment_cut b w)
stop_of fault.Order gs b (inl w) = misplaced w.segment w.more (ap segment_of w.begins ∙ segment_again w.segment w.text w.more w.spelled) w.wrong refl
stop_of fault.Order gs b (inr w) = ended w.ends w.missing refl

broken_is : (k : PathFault) (gs : List Segment) (b : List ℕ) → SegmentFault k b → IsWrong k gs b
broken_is fault.Segment gs b w = w
broken_is fault.Cut gs b w = w
broken_is fault.Order gs b w = absurd w

broken_wrong : (k : PathFault) (gs : List Segment) (b : List ℕ) → AreBytes b → b ≢ [] → segment_of b ≡ Err k → IsWrong k gs b
broken_wrong k gs [] fits some e = absurd (some refl)
broken_wrong k gs (x ∷ xs) fits some e = broken_is k gs (x ∷ xs) (segment_fault x xs k fits e)

pub wrong_of : (k : PathFault) (gs : List Segment) (b : List ℕ) → AreBytes b → Stop k gs b → IsWrong k gs b
wrong_of k gs b fits (broken some e) = broken_wrong k gs b fits some e
wrong_of k gs b fits (misplaced g r e no_ is) =
    let t = segment_taken b g r fits e in
    subst (λ (j : PathFault). IsWrong j gs b) (sym is) (inl (record { segment = g; text = t.text; more = r; spelled = t.spelled; begins = t.joined; wrong = no_ }))
wrong_of k gs b fits (ended e missing is) =
    subst (λ (j : PathFault). IsWrong j gs b) (sym is) (inr (record { ends = e; missing = missing }))

-- ---- class and instance

as_class_ok : (g : Segment) (t : List ℕ) (v : ℕ) (r : List ℕ) → as_class g t ≡ Ok (v, r) → (g ≡ Class v) × (t ≡ r)
as_class_ok (Class w) t v r e = let q = ok_is (w, t) (v, r) e in (ap (λ (y : ℕ × List ℕ). Class y.0) q, ap (λ (y : ℕ × List ℕ). y.1) q)
as_class_ok (Instance w) t v r e = absurd cc
as_class_ok (Member w) t v r e = absurd cc
as_class_ok (Attribute w) t v r e = absurd cc

as_instance_ok : (g : Segment) (t : List ℕ) (v : ℕ) (r : List ℕ) → as_instance g t ≡ Ok (v, r) → (g ≡ Instance v) × (t ≡ r)
as_instance_ok (Instance w) t v r e = let q = ok_is (w, t) (v, r) e in (ap (λ (y : ℕ × List ℕ). Instance y.0) q, ap (λ (y : ℕ × List ℕ). y.1) q)
as_instance_ok (Class w) t v r e = absurd cc
as_instance_ok (Member w) t v r e = absurd cc
as_instance_ok (Attribute w) t v r e = absurd cc

abbrev segment_and : Segment → List ℕ → Result (Segment × List ℕ) PathFault
segment_and g r = Ok (g, r)

segment_and_same : (g h : Segment) (t r : List ℕ) → g ≡ h → t ≡ r → segment_and g t ≡ segment_and h r
segment_and_same g h t r p q = cc

pub class_segment : (b : List ℕ) (v : ℕ) (r : List ℕ) → class_of b ≡ Ok (v, r) → segment_of b ≡ Ok (Class v, r)
unfolding class_of
class_segment b v r e =
    let a = bind_ok (segment_of b) (λ g. as_class g.0 g.1) (v, r) e in
    let q = as_class_ok a.0.0 a.0.1 v r a.2 in
    a.1 ∙ segment_and_same a.0.0 (Class v) a.0.1 r q.0 q.1

pub instance_segment : (b : List ℕ) (v : ℕ) (r : List ℕ) → instance_of b ≡ Ok (v, r) → segment_of b ≡ Ok (Instance v, r)
unfolding instance_of
instance_segment b v r e =
    let a = bind_ok (segment_of b) (λ g. as_instance g.0 g.1) (v, r) e in
    let q = as_instance_ok a.0.0 a.0.1 v r a.2 in
    a.1 ∙ segment_and_same a.0.0 (Instance v) a.0.1 r q.0 q.1

class_at : (b : List ℕ) (g : Segment) (r : List ℕ) → segment_of b ≡ Ok (g, r) → class_of b ≡ as_class g r
unfolding class_of
class_at b g r e = ap (λ (x : Result (Segment × List ℕ) PathFault). x >>= λ g. as_class g.0 g.1) e

instance_at : (b : List ℕ) (g : Segment) (r : List ℕ) → segment_of b ≡ Ok (g, r) → instance_of b ≡ as_instance g r
unfolding instance_of
instance_at b g r e = ap (λ (x : Result (Segment × List ℕ) PathFault). x >>= λ g. as_instance g.0 g.1) e

class_err : (b : List ℕ) (k : PathFault) → segment_of b ≡ Err k → class_of b ≡ Err k
unfolding class_of
class_err b k e = ap (λ (x : Result (Segment × List ℕ) PathFault). x >>= λ g. as_class g.0 g.1) e

instance_err : (b : List ℕ) (k : PathFault) → segment_of b ≡ Err k → instance_of b ≡ Err k
unfolding instance_of
instance_err b k e = ap (λ (x : Result (Segment × List ℕ) PathFault). x >>= λ g. as_instance g.0 g.1) e

-- a segment where a class or an instance is required
as_class_wrong : (g : Segment) (r : List ℕ) → (Begins ([] ++ g ∷ []) → ⊥) → as_class g r ≡ Err fault.Order
as_class_wrong (Class v) r no_ = absurd (no_ (record { class = v; instance = 0; attribute = None; member = None }, Instance 0 ∷ [], refl))
as_class_wrong (Instance v) r no_ = refl
as_class_wrong (Member v) r no_ = refl
as_class_wrong (Attribute v) r no_ = refl

as_instance_wrong : (c : ℕ) (g : Segment) (r : List ℕ) → (Begins ((Class c ∷ []) ++ g ∷ []) → ⊥) → as_instance g r ≡ Err fault.Order
as_instance_wrong c (Instance v) r no_ = absurd (no_ (record { class = c; instance = v; attribute = None; member = None }, [], refl))
as_instance_wrong c (Class v) r no_ = refl
as_instance_wrong c (Member v) r no_ = refl
as_instance_wrong c (Attribute v) r no_ = refl

class_wrong : (k : PathFault) (b : List ℕ) → Stop k [] b → class_of b ≡ Err k
class_wrong k b (broken some e) = class_err b k e
class_wrong k b (misplaced g r e no_ is) = class_at b g r e ∙ as_class_wrong g r no_ ∙ rw is refl
class_wrong k b (ended e missing is) = class_err b k (ap segment_of e ∙ segment_none_at_end ∙ rw is refl)

instance_wrong : (c : ℕ) (k : PathFault) (b : List ℕ) → Stop k (Class c ∷ []) b → instance_of b ≡ Err k
instance_wrong c k b (broken some e) = instance_err b k e
instance_wrong c k b (misplaced g r e no_ is) = instance_at b g r e ∙ as_instance_wrong c g r no_ ∙ rw is refl
instance_wrong c k b (ended e missing is) = instance_err b k (ap segment_of e ∙ segment_none_at_end ∙ rw is refl)

as_class_err : (g : Segment) (r : List ℕ) (k : PathFault) → as_class g r ≡ Err k → (k ≡ fault.Order) × (Begins ([] ++ g ∷ []) → ⊥)
as_class_err (Class v) r k e = absurd cc
as_class_err (Instance v) r k e = (cc, λ s. let q = s.2 in absurd cc)
as_class_err (Member v) r k e = (cc, λ s. let q = s.2 in absurd cc)
as_class_err (Attribute v) r k e = (cc, λ s. let q = s.2 in absurd cc)

as_instance_err : (c : ℕ) (g : Segment) (r : List ℕ) (k : PathFault) → as_instance g r ≡ Err k → (k ≡ fault.Order) × (Begins ((Class c ∷ []) ++ g ∷ []) → ⊥)
as_instance_err c (Instance v) r k e = absurd cc
as_instance_err c (Class v) r k e = (cc, λ s. let q = s.2 in absurd cc)
as_instance_err c (Member v) r k e = (cc, λ s. let q = s.2 in absurd cc)
as_instance_err c (Attribute v) r k e = (cc, λ s. let q = s.2 in absurd cc)

pub class_stop : (k : PathFault) (b : List ℕ) → class_of b ≡ Err k → Stop k [] b
unfolding class_of segment_of
class_stop k [] e = ended refl (λ p q. absurd cc) cc
class_stop k (x ∷ xs) e =
    elim (bind_err (segment_of (x ∷ xs)) (λ g. as_class g.0 g.1) k e) [
      | inl f ↦ broken (λ q. absurd cc) f
      | inr a ↦ let q = as_class_err a.0.0 a.0.1 k a.2 in misplaced a.0.0 a.0.1 a.1 q.1 q.0
    ]

pub instance_stop : (c : ℕ) (k : PathFault) (b : List ℕ) → instance_of b ≡ Err k → Stop k (Class c ∷ []) b
unfolding instance_of segment_of
instance_stop c k [] e = ended refl (λ p q. absurd cc) cc
instance_stop c k (x ∷ xs) e =
    elim (bind_err (segment_of (x ∷ xs)) (λ g. as_instance g.0 g.1) k e) [
      | inl f ↦ broken (λ q. absurd cc) f
      | inr a ↦ let q = as_instance_err c a.0.0 a.0.1 k a.2 in misplaced a.0.0 a.0.1 a.1 q.1 q.0
    ]

-- ---- an attribute and a member, and the end

attribute_at : (b : List ℕ) (g : Segment) (r : List ℕ) → segment_of b ≡ Ok (g, r) → attribute_of b ≡ as_attribute g r b
unfolding attribute_of segment_of
attribute_at [] g r e = absurd cc
attribute_at (x ∷ xs) g r e = ap (λ (y : Result (Segment × List ℕ) PathFault). y >>= λ g. as_attribute g.0 g.1 (x ∷ xs)) e

member_at : (b : List ℕ) (g : Segment) (r : List ℕ) → segment_of b ≡ Ok (g, r) → member_of b ≡ as_member g r b
unfolding member_of segment_of
member_at [] g r e = absurd cc
member_at (x ∷ xs) g r e = ap (λ (y : Result (Segment × List ℕ) PathFault). y >>= λ g. as_member g.0 g.1 (x ∷ xs)) e

whole_at : (p : Path) (b : List ℕ) (g : Segment) (r : List ℕ) → segment_of b ≡ Ok (g, r) → whole_of p b ≡ Err fault.Order
unfolding whole_of segment_of
whole_at p [] g r e = absurd cc
whole_at p (x ∷ xs) g r e = ap (λ (y : Result (Segment × List ℕ) PathFault). y >>= λ g. Err fault.Order) e

attribute_err : (b : List ℕ) (k : PathFault) → b ≢ [] → segment_of b ≡ Err k → attribute_of b ≡ Err k
unfolding attribute_of
attribute_err [] k some e = absurd (some refl)
attribute_err (x ∷ xs) k some e = ap (λ (y : Result (Segment × List ℕ) PathFault). y >>= λ g. as_attribute g.0 g.1 (x ∷ xs)) e

member_err : (b : List ℕ) (k : PathFault) → b ≢ [] → segment_of b ≡ Err k → member_of b ≡ Err k
unfolding member_of
member_err [] k some e = absurd (some refl)
member_err (x ∷ xs) k some e = ap (λ (y : Result (Segment × List ℕ) PathFault). y >>= λ g. as_member g.0 g.1 (x ∷ xs)) e

whole_err : (p : Path) (b : List ℕ) (k : PathFault) → b ≢ [] → segment_of b ≡ Err k → whole_of p b ≡ Err k
unfolding whole_of
whole_err p [] k some e = absurd (some refl)
whole_err p (x ∷ xs) k some e = ap (λ (y : Result (Segment × List ℕ) PathFault). y >>= λ g. Err fault.Order) e

attribute_at_end : attribute_of [] ≡ Ok (None, [])
unfolding attribute_of
attribute_at_end = refl

member_at_end : member_of [] ≡ Ok (None, [])
unfolding member_of
member_at_end = refl

whole_at_end : (p : Path) → whole_of p [] ≡ Ok p
unfolding whole_of
whole_at_end p = refl

-- what a reader of an optional segment found at b: the end, a segment of its type, or another one
pub data Reads (kind : ℕ → Segment) (b : List ℕ) : Option ℕ → List ℕ → Type 0 where
  nothing : b ≡ [] → Reads kind b None []
  one : (v : ℕ) (r : List ℕ) → segment_of b ≡ Ok (kind v, r) → Reads kind b (Some v) r
  another : (g : Segment) (t : List ℕ) → segment_of b ≡ Ok (g, t) → ((v : ℕ) → g ≢ kind v) → Reads kind b None b

abbrev option_and : Option ℕ → List ℕ → Result (Option ℕ × List ℕ) PathFault
option_and o r = Ok (o, r)

reads_same : (kind : ℕ → Segment) (b : List ℕ) (o p : Option ℕ) (r t : List ℕ) → option_and o r ≡ option_and p t → Reads kind b o r → Reads kind b p t
reads_same kind b o p r t e h = subst (λ (y : Option ℕ × List ℕ). Reads kind b y.0 y.1) (ok_is (o, r) (p, t) e) h

attribute_read_at : (b : List ℕ) (g : Segment) (t : List ℕ) (o : Option ℕ) (r : List ℕ) → segment_of b ≡ Ok (g, t) → as_attribute g t b ≡ Ok (o, r) → Reads Attribute b o r
attribute_read_at b (Attribute v) t o r e a = reads_same Attribute b (Some v) o t r a (one v t e)
attribute_read_at b (Class v) t o r e a = reads_same Attribute b None o b r a (another (Class v) t e (λ w q. absurd cc))
attribute_read_at b (Instance v) t o r e a = reads_same Attribute b None o b r a (another (Instance v) t e (λ w q. absurd cc))
attribute_read_at b (Member v) t o r e a = reads_same Attribute b None o b r a (another (Member v) t e (λ w q. absurd cc))

member_read_at : (b : List ℕ) (g : Segment) (t : List ℕ) (o : Option ℕ) (r : List ℕ) → segment_of b ≡ Ok (g, t) → as_member g t b ≡ Ok (o, r) → Reads Member b o r
member_read_at b (Member v) t o r e a = reads_same Member b (Some v) o t r a (one v t e)
member_read_at b (Class v) t o r e a = reads_same Member b None o b r a (another (Class v) t e (λ w q. absurd cc))
member_read_at b (Instance v) t o r e a = reads_same Member b None o b r a (another (Instance v) t e (λ w q. absurd cc))
member_read_at b (Attribute v) t o r e a = reads_same Member b None o b r a (another (Attribute v) t e (λ w q. absurd cc))

pub attribute_reads : (b : List ℕ) (o : Option ℕ) (r : List ℕ) → attribute_of b ≡ Ok (o, r) → Reads Attribute b o r
unfolding attribute_of
attribute_reads [] o r e = reads_same Attribute [] None o [] r e (nothing refl)
attribute_reads (x ∷ xs) o r e =
    let a = bind_ok (segment_of (x ∷ xs)) (λ g. as_attribute g.0 g.1 (x ∷ xs)) (o, r) e in
    attribute_read_at (x ∷ xs) a.0.0 a.0.1 o r a.1 a.2

pub member_reads : (b : List ℕ) (o : Option ℕ) (r : List ℕ) → member_of b ≡ Ok (o, r) → Reads Member b o r
unfolding member_of
member_reads [] o r e = reads_same Member [] None o [] r e (nothing refl)
member_reads (x ∷ xs) o r e =
    let a = bind_ok (segment_of (x ∷ xs)) (λ g. as_member g.0 g.1 (x ∷ xs)) (o, r) e in
    member_read_at (x ∷ xs) a.0.0 a.0.1 o r a.1 a.2

whole_reads : (p : Path) (b : List ℕ) (q : Path) → whole_of p b ≡ Ok q → (p ≡ q) × (b ≡ [])
unfolding whole_of
whole_reads p [] q e = (ok_is p q e, refl)
whole_reads p (x ∷ xs) q e =
    let a = bind_ok (segment_of (x ∷ xs)) (λ g. Err fault.Order) q e in absurd (let f = a.2 in cc)

-- ---- segments joined

pub AreSegments-one : (g : Segment) (s : List ℕ) → IsSegment g s → AreSegments (g ∷ []) s
AreSegments-one g s h = (s, [], h, refl, sym (append-nil s))

pub AreSegments-join : (gs hs : List Segment) (a b : List ℕ) → AreSegments gs a → AreSegments hs b → AreSegments (gs ++ hs) (a ++ b)
AreSegments-join [] hs a b p q = subst (λ (t : List ℕ). AreSegments hs (t ++ b)) (sym p) q
AreSegments-join (g ∷ gs) hs a b p q =
    (p.0, p.1 ++ b, p.2, AreSegments-join gs hs p.1 b p.3 q, ap (λ (t : List ℕ). t ++ b) p.4 ∙ append_assoc p.0 p.1 b)

-- what a reader of an optional segment took
pub record TakesOption (kind : ℕ → Segment) (b : List ℕ) (o : Option ℕ) (r : List ℕ) : Type 0 where
  pub text : List ℕ
  pub spelled : AreSegments (optional kind o) text
  pub joined : b ≡ text ++ r

pub takes : (kind : ℕ → Segment) (b : List ℕ) (o : Option ℕ) (r : List ℕ) → AreBytes b → Reads kind b o r → TakesOption kind b o r
takes kind b _ _ fits (nothing e) = record { text = []; spelled = refl; joined = e }
takes kind b _ _ fits (one v r e) =
    let t = segment_taken b (kind v) r fits e in
    record { text = t.text; spelled = AreSegments-one (kind v) t.text t.spelled; joined = t.joined }
takes kind b _ _ fits (another g t e no_) = record { text = []; spelled = refl; joined = refl }

-- ---- a whole path

abbrev pub made : ℕ → ℕ → Option ℕ → Option ℕ → Path
made c i a m = record { class = c; instance = i; attribute = a; member = m }

-- the attribute and the member, and then nothing
abbrev pub tail_of : ℕ → ℕ → List ℕ → Result Path PathFault
tail_of c i b = attribute_of b >>= λ a. member_of a.1 >>= λ m. whole_of (made c i a.0 m.0) m.1

tail_text : (b x r y s : List ℕ) → b ≡ x ++ r → r ≡ y ++ s → s ≡ [] → b ≡ x ++ y
tail_text b x r y s p q e = p ∙ ap (λ (t : List ℕ). x ++ t) (q ∙ ap (λ (t : List ℕ). y ++ t) e ∙ append-nil y)

AreSegments-same : (gs : List Segment) (t b : List ℕ) → b ≡ t → AreSegments gs t → AreSegments gs b
AreSegments-same gs t b e h = subst (λ (x : List ℕ). AreSegments gs x) (sym e) h

tail_spelled : (c i : ℕ) (b : List ℕ) (p : Path) → AreBytes b → tail_of c i b ≡ Ok p
    → (p ≡ made c i p.attribute p.member) × AreSegments (optional Attribute p.attribute ++ optional Member p.member) b
tail_spelled c i b p fits e =
    let a = bind_ok (attribute_of b) (λ a. member_of a.1 >>= λ m. whole_of (made c i a.0 m.0) m.1) p e in
    let m = bind_ok (member_of a.0.1) (λ m. whole_of (made c i a.0.0 m.0) m.1) p a.2 in
    let w = whole_reads (made c i a.0.0 m.0.0) m.0.1 p m.2 in
    let ta = takes Attribute b a.0.0 a.0.1 fits (attribute_reads b a.0.0 a.0.1 a.1) in
    let tm = takes Member a.0.1 m.0.0 m.0.1 (AreBytes-second ta.text a.0.1 (subst AreBytes ta.joined fits)) (member_reads a.0.1 m.0.0 m.0.1 m.1) in
    let both = AreSegments-join (optional Attribute a.0.0) (optional Member m.0.0) ta.text tm.text ta.spelled tm.spelled in
    let text = tail_text b ta.text a.0.1 tm.text m.0.1 ta.joined tm.joined w.1 in
    let P : Path → Type 0 = λ q. (q ≡ made c i q.attribute q.member) × AreSegments (optional Attribute q.attribute ++ optional Member q.member) b in
    subst P w.0 (refl, AreSegments-same (optional Attribute a.0.0 ++ optional Member m.0.0) (ta.text ++ tm.text) b text both)

pub path_spelled : (b : List ℕ) (p : Path) → AreBytes b → path_of b ≡ Ok p → IsPath p b
unfolding path_of IsPath
path_spelled b p fits e =
    let c = bind_ok (class_of b) (λ c. instance_of c.1 >>= λ i. tail_of c.0 i.0 i.1) p e in
    let i = bind_ok (instance_of c.0.1) (λ i. tail_of c.0.0 i.0 i.1) p c.2 in
    let tc = segment_taken b (Class c.0.0) c.0.1 fits (class_segment b c.0.0 c.0.1 c.1) in
    let fits_c = AreBytes-second tc.text c.0.1 (subst AreBytes tc.joined fits) in
    let ti = segment_taken c.0.1 (Instance i.0.0) i.0.1 fits_c (instance_segment c.0.1 i.0.0 i.0.1 i.1) in
    let fits_i = AreBytes-second ti.text i.0.1 (subst AreBytes ti.joined fits_c) in
    let t = tail_spelled c.0.0 i.0.0 i.0.1 p fits_i i.2 in
    let is : IsPath (made c.0.0 i.0.0 p.attribute p.member) b = (tc.text, c.0.1, tc.spelled, (ti.text, i.0.1, ti.spelled, t.1, ti.joined), tc.joined) in
    subst (λ (q : Path). IsPath q b) (sym t.0) is

-- ---- what is spelled is read

-- the member, and then nothing
abbrev pub after_attribute : ℕ → ℕ → Option ℕ → List ℕ → Result Path PathFault
after_attribute c i a b = member_of b >>= λ m. whole_of (made c i a m.0) m.1

tail_from : (c i : ℕ) (b : List ℕ) (a : Option ℕ) (r : List ℕ) → attribute_of b ≡ Ok (a, r) → tail_of c i b ≡ after_attribute c i a r
tail_from c i b a r e = ap (λ (y : Result (Option ℕ × List ℕ) PathFault). y >>= λ a. after_attribute c i a.0 a.1) e

member_from : (c i : ℕ) (a : Option ℕ) (b : List ℕ) (m : Option ℕ) (r : List ℕ) → member_of b ≡ Ok (m, r) → after_attribute c i a b ≡ whole_of (made c i a m) r
member_from c i a b m r e = ap (λ (y : Result (Option ℕ × List ℕ) PathFault). y >>= λ m. whole_of (made c i a m.0) m.1) e

-- after spellings of an attribute and a member the tail reads as at r
tail_again : (c i : ℕ) (a m : Option ℕ) (t r : List ℕ) (read : Result Path PathFault) → AreSegments (optional Attribute a ++ optional Member m) t
    → whole_of (made c i a m) r ≡ read → (m ≡ None → after_attribute c i a r ≡ read) → (a ≡ None → m ≡ None → tail_of c i r ≡ read)
    → tail_of c i (t ++ r) ≡ read
tail_again c i None None t r read h whole_ member_ tail_ = ap (λ (u : List ℕ). tail_of c i (u ++ r)) h ∙ tail_ refl refl
tail_again c i None (Some m) t r read h whole_ member_ tail_ =
    let s = h.0 in
    let text : t ++ r ≡ s ++ r = ap (λ (u : List ℕ). u ++ r) (h.4 ∙ ap (λ (u : List ℕ). s ++ u) h.3 ∙ append-nil s) in
    let front = segment_again (Member m) s r h.2 in
    ap (tail_of c i) text ∙ tail_from c i (s ++ r) None (s ++ r) (attribute_at (s ++ r) (Member m) r front) ∙ member_from c i None (s ++ r) (Some m) r (member_at (s ++ r) (Member m) r front) ∙ whole_
tail_again c i (Some a) None t r read h whole_ member_ tail_ =
    let s = h.0 in
    let text : t ++ r ≡ s ++ r = ap (λ (u : List ℕ). u ++ r) (h.4 ∙ ap (λ (u : List ℕ). s ++ u) h.3 ∙ append-nil s) in
    let front = segment_again (Attribute a) s r h.2 in
    ap (tail_of c i) text ∙ tail_from c i (s ++ r) (Some a) r (attribute_at (s ++ r) (Attribute a) r front) ∙ member_ refl
tail_again c i (Some a) (Some m) t r read h whole_ member_ tail_ =
    let s = h.0 in
    let q = h.3 in
    let z = q.0 in
    let text : t ++ r ≡ s ++ (z ++ r) = ap (λ (u : List ℕ). u ++ r) (h.4 ∙ ap (λ (u : List ℕ). s ++ u) (q.4 ∙ ap (λ (u : List ℕ). z ++ u) q.3 ∙ append-nil z)) ∙ append_assoc s z r in
    let first = segment_again (Attribute a) s (z ++ r) h.2 in
    let second = segment_again (Member m) z r q.2 in
    ap (tail_of c i) text ∙ tail_from c i (s ++ (z ++ r)) (Some a) (z ++ r) (attribute_at (s ++ (z ++ r)) (Attribute a) (z ++ r) first) ∙ member_from c i (Some a) (z ++ r) (Some m) r (member_at (z ++ r) (Member m) r second) ∙ whole_

-- after a class and an instance the tail is read
front_again : (c i : ℕ) (s z r : List ℕ) → IsSegment (Class c) s → IsSegment (Instance i) z → path_of (s ++ (z ++ r)) ≡ tail_of c i r
unfolding path_of
front_again c i s z r h g =
    let first = class_at (s ++ (z ++ r)) (Class c) (z ++ r) (segment_again (Class c) s (z ++ r) h) in
    let second = instance_at (z ++ r) (Instance i) r (segment_again (Instance i) z r g) in
    ap (λ (y : Result (ℕ × List ℕ) PathFault). y >>= λ c. instance_of c.1 >>= λ i. tail_of c.0 i.0 i.1) first
    ∙ ap (λ (y : Result (ℕ × List ℕ) PathFault). y >>= λ i. tail_of c i.0 i.1) second

whole_again : (c i : ℕ) (a m : Option ℕ) (b r : List ℕ) (read : Result Path PathFault) → AreSegments (Class c ∷ Instance i ∷ (optional Attribute a ++ optional Member m)) b
    → whole_of (made c i a m) r ≡ read → (m ≡ None → after_attribute c i a r ≡ read) → (a ≡ None → m ≡ None → tail_of c i r ≡ read)
    → path_of (b ++ r) ≡ read
whole_again c i a m b r read h whole_ member_ tail_ =
    let s = h.0 in
    let q = h.3 in
    let z = q.0 in
    let t = q.1 in
    let text : b ++ r ≡ s ++ (z ++ (t ++ r)) = ap (λ (u : List ℕ). u ++ r) (h.4 ∙ ap (λ (u : List ℕ). s ++ u) q.4) ∙ append_assoc s (z ++ t) r ∙ ap (λ (u : List ℕ). s ++ u) (append_assoc z t r) in
    ap path_of text ∙ front_again c i s z (t ++ r) h.2 q.2 ∙ tail_again c i a m t r read q.3 whole_ member_ tail_

at_end : (c i : ℕ) (a : Option ℕ) → after_attribute c i a [] ≡ Ok (made c i a None)
at_end c i a = member_from c i a [] None [] member_at_end ∙ whole_at_end (made c i a None)

pub path_again : (b : List ℕ) (p : Path) → IsPath p b → path_of b ≡ Ok p
unfolding IsPath
path_again b p h =
    ap path_of (sym (append-nil b))
    ∙ whole_again p.class p.instance p.attribute p.member b [] (Ok p) h (whole_at_end p)
    (λ e. at_end p.class p.instance p.attribute ∙ ap (λ (m : Option ℕ). Ok (made p.class p.instance p.attribute m)) (sym e))
    (λ d e. tail_from p.class p.instance [] None [] attribute_at_end ∙ at_end p.class p.instance None ∙ rw (d, e) refl)

-- ---- a fault is reported where it occurs

whole_stop : (p : Path) (k : PathFault) (b : List ℕ) → Stop k (segments p) b → whole_of p b ≡ Err k
whole_stop p k b (broken some e) = whole_err p b k some e
whole_stop p k b (misplaced g r e no_ is) = whole_at p b g r e ∙ rw is refl
whole_stop p k b (ended e missing is) = absurd (missing p refl)

-- a segment that is neither
no_member : (c i : ℕ) (a : Option ℕ) (g : Segment) (r b : List ℕ) → (Begins ((Class c ∷ Instance i ∷ (optional Attribute a ++ [])) ++ g ∷ []) → ⊥) → as_member g r b ≡ Ok (None, b)
no_member c i a (Class v) r b no_ = refl
no_member c i a (Instance v) r b no_ = refl
no_member c i a (Attribute v) r b no_ = refl
no_member c i None (Member v) r b no_ = absurd (no_ (made c i None (Some v), [], refl))
no_member c i (Some a) (Member v) r b no_ = absurd (no_ (made c i (Some a) (Some v), [], refl))

no_attribute : (c i : ℕ) (g : Segment) (r b : List ℕ) → (Begins ((Class c ∷ Instance i ∷ []) ++ g ∷ []) → ⊥) → as_attribute g r b ≡ Ok (None, b)
no_attribute c i (Class v) r b no_ = refl
no_attribute c i (Instance v) r b no_ = refl
no_attribute c i (Attribute v) r b no_ = absurd (no_ (made c i (Some v) None, [], refl))
no_attribute c i (Member v) r b no_ = refl

member_stop : (c i : ℕ) (a : Option ℕ) (k : PathFault) (b : List ℕ) → Stop k (Class c ∷ Instance i ∷ (optional Attribute a ++ [])) b → after_attribute c i a b ≡ Err k
member_stop c i a k b (broken some e) = ap (λ (y : Result (Option ℕ × List ℕ) PathFault). y >>= λ m. whole_of (made c i a m.0) m.1) (member_err b k some e)
member_stop c i a k b (misplaced g r e no_ is) =
    member_from c i a b None b (member_at b g r e ∙ no_member c i a g r b no_) ∙ whole_at (made c i a None) b g r e ∙ rw is refl
member_stop c i a k b (ended e missing is) = absurd (missing (made c i a None) refl)

tail_stop : (c i : ℕ) (k : PathFault) (b : List ℕ) → Stop k (Class c ∷ Instance i ∷ []) b → tail_of c i b ≡ Err k
tail_stop c i k b (broken some e) = ap (λ (y : Result (Option ℕ × List ℕ) PathFault). y >>= λ a. after_attribute c i a.0 a.1) (attribute_err b k some e)
tail_stop c i k b (misplaced g r e no_ is) =
    tail_from c i b None b (attribute_at b g r e ∙ no_attribute c i g r b no_)
    ∙ member_from c i None b None b (member_at b g r e ∙ no_member c i None g r b no_) ∙ whole_at (made c i None None) b g r e ∙ rw is refl
tail_stop c i k b (ended e missing is) = absurd (missing (made c i None None) refl)

-- what begins the segments of a path
data Front : List Segment → Type 0 where
  nothing_yet : Front []
  class_only : (c : ℕ) → Front (Class c ∷ [])
  both : (c i : ℕ) (a m : Option ℕ) → Front (Class c ∷ Instance i ∷ (optional Attribute a ++ optional Member m))

front_tail : (c i : ℕ) (a m : Option ℕ) (gs more : List Segment) → optional Attribute a ++ optional Member m ≡ gs ++ more → Front (Class c ∷ Instance i ∷ gs)
front_tail c i a m [] more e = both c i None None
front_tail c i None None (g ∷ gs) more e = absurd cc
front_tail c i (Some a) None (g ∷ []) more e = (let q : Attribute a ≡ g = cc in subst (λ (h : Segment). Front (Class c ∷ Instance i ∷ h ∷ [])) q (both c i (Some a) None))
front_tail c i (Some a) None (g ∷ h ∷ gs) more e = absurd cc
front_tail c i None (Some m) (g ∷ []) more e = (let q : Member m ≡ g = cc in subst (λ (h : Segment). Front (Class c ∷ Instance i ∷ h ∷ [])) q (both c i None (Some m)))
front_tail c i None (Some m) (g ∷ h ∷ gs) more e = absurd cc
front_tail c i (Some a) (Some m) (g ∷ []) more e = (let q : Attribute a ≡ g = cc in subst (λ (h : Segment). Front (Class c ∷ Instance i ∷ h ∷ [])) q (both c i (Some a) None))
front_tail c i (Some a) (Some m) (g ∷ h ∷ []) more e =
    (let q : Attribute a ∷ Member m ∷ [] ≡ g ∷ h ∷ [] = cc in subst (λ (gs : List Segment). Front (Class c ∷ Instance i ∷ gs)) q (both c i (Some a) (Some m)))
front_tail c i (Some a) (Some m) (g ∷ h ∷ j ∷ gs) more e = absurd cc

front_of : (gs more : List Segment) (p : Path) → segments p ≡ gs ++ more → Front gs
front_of [] more p e = nothing_yet
front_of (g ∷ []) more p e = (let q : Class p.class ≡ g = cc in subst (λ (h : Segment). Front (h ∷ [])) q (class_only p.class))
front_of (g ∷ h ∷ gs) more p e =
    let q : Class p.class ≡ g = cc in
    let r : Instance p.instance ≡ h = cc in
    let t : optional Attribute p.attribute ++ optional Member p.member ≡ gs ++ more = cc in
    subst (λ (x : Segment). Front (x ∷ h ∷ gs)) q (subst (λ (x : Segment). Front (Class p.class ∷ x ∷ gs)) r (front_tail p.class p.instance p.attribute p.member gs more t))

stopped : (k : PathFault) (gs : List Segment) (u r : List ℕ) → Front gs → AreSegments gs u → Stop k gs r → path_of (u ++ r) ≡ Err k
unfolding path_of
stopped k _ u r nothing_yet h s =
    ap (λ (t : List ℕ). path_of (t ++ r)) h ∙ ap (λ (y : Result (ℕ × List ℕ) PathFault). y >>= λ c. instance_of c.1 >>= λ i. tail_of c.0 i.0 i.1) (class_wrong k r s)
stopped k _ u r (class_only c) h s =
    let z = h.0 in
    let text : u ++ r ≡ z ++ r = ap (λ (t : List ℕ). t ++ r) (h.4 ∙ ap (λ (t : List ℕ). z ++ t) h.3 ∙ append-nil z) in
    ap path_of text ∙ ap (λ (y : Result (ℕ × List ℕ) PathFault). y >>= λ c. instance_of c.1 >>= λ i. tail_of c.0 i.0 i.1) (class_at (z ++ r) (Class c) r (segment_again (Class c) z r h.2))
    ∙ ap (λ (y : Result (ℕ × List ℕ) PathFault). y >>= λ i. tail_of c i.0 i.1) (instance_wrong c k r s)
stopped k _ u r (both c i a m) h s =
    whole_again c i a m u r (Err k) h (whole_stop (made c i a m) k r s)
    (λ e. member_stop c i a k r (subst (λ (o : Option ℕ). Stop k (Class c ∷ Instance i ∷ (optional Attribute a ++ optional Member o)) r) e s))
    (λ d e. tail_stop c i k r (subst (λ (o : Option ℕ). Stop k (Class c ∷ Instance i ∷ (optional Attribute o ++ [])) r) d (subst (λ (o : Option ℕ). Stop k (Class c ∷ Instance i ∷ (optional Attribute a ++ optional Member o)) r) e s)))

pub path_refused : (k : PathFault) (b : List ℕ) → path_fault k b → path_of b ≡ Err k
path_refused k b f =
    ap path_of f.joined ∙ stopped k f.before f.front f.rest (front_of f.before f.begins.1 f.begins.0 f.begins.2) f.spelled (stop_of k f.before f.rest f.wrong)
