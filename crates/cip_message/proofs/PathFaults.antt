-- Where reading stops there is a fault. Both laws of a path follow.
use Rattle.std.proofs.Common.{◌≡◌, ◌≢◌, ◌⊎◌, ◌↔◌, ℕ, List, [], ◌∷◌, ◌++◌, Option, Some, None, Result, Ok, Err, refl, sym, ap, subst, ◌∙◌, append_assoc, inl, inr}
use Rattle.std.proofs.lemmas.List.{append-nil}
use Rattle.cip_message.specs.declared.path.Segment.{Segment}
use Rattle.cip_message.specs.declared.path.Segment.TheVariants.{Class, Instance, Member, Attribute}
use Rattle.cip_message.specs.declared.path.Path.{Path}
use Rattle.cip_message.specs.declared.path.PathFault.{PathFault}
use Rattle.cip_message.specs.declared.path.PathFault.TheVariants as fault
use Rattle.cip_bytes.specs.Reading.{◌>>=◌}
use Rattle.cip_message.specs.Path.{IsSegment, AreSegments, optional, segments, IsPath, Begins, path_fault}
use Rattle.cip_message.specs.PathReading.{segment_of, as_attribute, as_member, class_of, instance_of, attribute_of, member_of, whole_of, path_of}
use Rattle.cip_bytes.specs.Numbers.{AreBytes}
use Rattle.cip_bytes.proofs.Bytes.{AreBytes-second}
use Rattle.cip_bytes.proofs.Steps.{bind_err, ok_is, err_is}
use Rattle.cip_message.proofs.Segments.{segment_taken, segment_none_at_end}
use Rattle.cip_message.proofs.Paths.{wrong_of, class_segment, instance_segment, class_stop, instance_stop, attribute_reads, member_reads, AreSegments-one, AreSegments-join, takes, made, tail_of, path_spelled, after_attribute, path_again, path_refused, Stop, Reads}
use Rattle.cip_message.proofs.Paths.{broken, misplaced, nothing, one, another}

-- ---- where reading stopped there is a fault

not_kind : (kind : ℕ → Segment) (b r : List ℕ) (g : Segment) (t : List ℕ) (o : Option ℕ) → o ≡ None → Reads kind b o r → segment_of r ≡ Ok (g, t) → (v : ℕ) → g ≢ kind v
not_kind kind b _ g t _ n (nothing e) f v q = absurd (let h = segment_none_at_end in cc)
not_kind kind b _ g t _ n (one w r e) f v q = absurd cc
not_kind kind b _ g t _ n (another h s e no_) f v q = no_ v (ap (λ (y : Segment × List ℕ). y.0) (ok_is (h, s) (g, t) (sym e ∙ f)) ∙ q)

left_there : (kind : ℕ → Segment) (b r : List ℕ) (o : Option ℕ) → o ≡ None → Reads kind b o r → r ≡ b
left_there kind b _ _ n (nothing e) = sym e
left_there kind b _ _ n (one w r e) = absurd cc
left_there kind b _ _ n (another h s e no_) = refl

order_ends : (x y a m : Option ℕ) (g : Segment) (more : List Segment) → (a ≡ None → m ≡ None → (v : ℕ) → g ≢ Attribute v) → (m ≡ None → (v : ℕ) → g ≢ Member v)
    → optional Attribute x ++ optional Member y ≡ ((optional Attribute a ++ optional Member m) ++ g ∷ []) ++ more → ⊥
order_ends None None None None g more na nm e = absurd cc
order_ends (Some x) None None None g more na nm e = na refl refl x cc
order_ends None (Some y) None None g more na nm e = nm refl y cc
order_ends (Some x) (Some y) None None g more na nm e = na refl refl x cc
order_ends None None (Some a) None g more na nm e = absurd cc
order_ends (Some x) None (Some a) None g more na nm e = absurd cc
order_ends None (Some y) (Some a) None g more na nm e = absurd cc
order_ends (Some x) (Some y) (Some a) None g more na nm e = nm refl y cc
order_ends None None None (Some m) g more na nm e = absurd cc
order_ends (Some x) None None (Some m) g more na nm e = absurd cc
order_ends None (Some y) None (Some m) g more na nm e = absurd cc
order_ends (Some x) (Some y) None (Some m) g more na nm e = absurd cc
order_ends None None (Some a) (Some m) g more na nm e = absurd cc
order_ends (Some x) None (Some a) (Some m) g more na nm e = absurd cc
order_ends None (Some y) (Some a) (Some m) g more na nm e = absurd cc
order_ends (Some x) (Some y) (Some a) (Some m) g more na nm e = absurd cc

nothing_follows : (c i : ℕ) (a m : Option ℕ) (g : Segment) → (a ≡ None → m ≡ None → (v : ℕ) → g ≢ Attribute v) → (m ≡ None → (v : ℕ) → g ≢ Member v)
    → Begins ((Class c ∷ Instance i ∷ (optional Attribute a ++ optional Member m)) ++ g ∷ []) → ⊥
nothing_follows c i a m g na nm s =
    let p = s.0 in
    let all = s.2 in
    let e : optional Attribute p.attribute ++ optional Member p.member ≡ ((optional Attribute a ++ optional Member m) ++ g ∷ []) ++ s.1 = cc in
    order_ends p.attribute p.member a m g s.1 na nm e

attribute_broken : (b : List ℕ) (k : PathFault) → attribute_of b ≡ Err k → (b ≢ []) × (segment_of b ≡ Err k)
unfolding attribute_of
attribute_broken [] k e = absurd cc
attribute_broken (x ∷ xs) k e =
    ((λ q. absurd cc), elim (bind_err (segment_of (x ∷ xs)) (λ g. as_attribute g.0 g.1 (x ∷ xs)) k e) [ inl f ↦ f | inr a ↦ absurd (as_attribute_ok a.0.0 a.0.1 (x ∷ xs) k a.2) ])
  where
    as_attribute_ok : (g : Segment) (t b : List ℕ) (k : PathFault) → as_attribute g t b ≡ Err k → ⊥
    as_attribute_ok (Class v) t b k e = absurd cc
    as_attribute_ok (Instance v) t b k e = absurd cc
    as_attribute_ok (Member v) t b k e = absurd cc
    as_attribute_ok (Attribute v) t b k e = absurd cc

member_broken : (b : List ℕ) (k : PathFault) → member_of b ≡ Err k → (b ≢ []) × (segment_of b ≡ Err k)
unfolding member_of
member_broken [] k e = absurd cc
member_broken (x ∷ xs) k e =
    ((λ q. absurd cc), elim (bind_err (segment_of (x ∷ xs)) (λ g. as_member g.0 g.1 (x ∷ xs)) k e) [ inl f ↦ f | inr a ↦ absurd (as_member_ok a.0.0 a.0.1 (x ∷ xs) k a.2) ])
  where
    as_member_ok : (g : Segment) (t b : List ℕ) (k : PathFault) → as_member g t b ≡ Err k → ⊥
    as_member_ok (Class v) t b k e = absurd cc
    as_member_ok (Instance v) t b k e = absurd cc
    as_member_ok (Member v) t b k e = absurd cc
    as_member_ok (Attribute v) t b k e = absurd cc

whole_broken : (p : Path) (b : List ℕ) (k : PathFault) → whole_of p b ≡ Err k → ((b ≢ []) × (segment_of b ≡ Err k)) ⊎ ((g : Segment) × (r : List ℕ) × (segment_of b ≡ Ok (g, r)) × (k ≡ fault.Order))
unfolding whole_of
whole_broken p [] k e = absurd cc
whole_broken p (x ∷ xs) k e =
    elim (bind_err (segment_of (x ∷ xs)) (λ g. Err fault.Order) k e) [
      | inl f ↦ inl ((λ q. absurd cc), f)
      | inr a ↦ inr (a.0.0, a.0.1, a.1, sym (err_is {A = Path} fault.Order k a.2))
    ]

-- reading stopped at r, after bytes that spell gs
record Stopped (k : PathFault) (gs : List Segment) (b : List ℕ) : Type 0 where
  after : List Segment
  text : List ℕ
  rest : List ℕ
  fits : AreBytes rest
  begins : Begins (gs ++ after)
  spelled : AreSegments after text
  joined : b ≡ text ++ rest
  stop : Stop k (gs ++ after) rest

begins_all : (c i : ℕ) (a m : Option ℕ) → Begins (Class c ∷ Instance i ∷ (optional Attribute a ++ optional Member m))
begins_all c i a m = (made c i a m, [], sym (append-nil (segments (made c i a m))))

begins_attribute : (c i : ℕ) (a : Option ℕ) → Begins (Class c ∷ Instance i ∷ optional Attribute a)
begins_attribute c i a = (made c i a None, [], refl)

tail_stopped : (c i : ℕ) (b : List ℕ) (k : PathFault) → AreBytes b → tail_of c i b ≡ Err k → Stopped k (Class c ∷ Instance i ∷ []) b
tail_stopped c i b k fits e =
    elim (bind_err (attribute_of b) (λ a. after_attribute c i a.0 a.1) k e) [
      | inl f ↦ let q = attribute_broken b k f in
          record { after = []; text = []; rest = b; fits = fits; begins = (made c i None None, [], refl); spelled = refl; joined = refl; stop = broken q.0 q.1 }
      | inr a ↦ after_stopped a.0.0 a.0.1 a.1 a.2
    ]
  where
    after_stopped : (a : Option ℕ) (r : List ℕ) → attribute_of b ≡ Ok (a, r) → after_attribute c i a r ≡ Err k → Stopped k (Class c ∷ Instance i ∷ []) b
    after_stopped a r ea em =
        let ra = attribute_reads b a r ea in
        let ta = takes Attribute b a r fits ra in
        let fits_r = AreBytes-second ta.text r (subst AreBytes ta.joined fits) in
        elim (bind_err (member_of r) (λ m. whole_of (made c i a m.0) m.1) k em) [
          | inl f ↦ let q = member_broken r k f in
              record { after = optional Attribute a; text = ta.text; rest = r; fits = fits_r; begins = begins_attribute c i a; spelled = ta.spelled; joined = ta.joined; stop = broken q.0 q.1 }
          | inr m ↦
              let rm = member_reads r m.0.0 m.0.1 m.1 in
              let tm = takes Member r m.0.0 m.0.1 fits_r rm in
              record {
                after = optional Attribute a ++ optional Member m.0.0;
                text = ta.text ++ tm.text;
                rest = m.0.1;
                fits = AreBytes-second tm.text m.0.1 (subst AreBytes tm.joined fits_r);
                begins = begins_all c i a m.0.0;
                spelled = AreSegments-join (optional Attribute a) (optional Member m.0.0) ta.text tm.text ta.spelled tm.spelled;
                joined = ta.joined ∙ ap (λ (t : List ℕ). ta.text ++ t) tm.joined ∙ sym (append_assoc ta.text tm.text m.0.1);
                stop = elim (whole_broken (made c i a m.0.0) m.0.1 k m.2) [
                  | inl f ↦ broken f.0 f.1
                  | inr g ↦ misplaced g.0 g.1 g.2
                      (nothing_follows c i a m.0.0 g.0
                      (λ da dm. not_kind Attribute b m.0.1 g.0 g.1 a da (subst (λ (t : List ℕ). Reads Attribute b a t) (sym (left_there Member r m.0.1 m.0.0 dm rm)) ra) g.2)
                      (λ dm. not_kind Member r m.0.1 g.0 g.1 m.0.0 dm rm g.2))
                      g.3
                ];
              }
        ]

pub path_faulty : (k : PathFault) (b : List ℕ) → AreBytes b → path_of b ≡ Err k → path_fault k b
unfolding path_of
path_faulty k b fits e =
    elim (bind_err (class_of b) (λ c. instance_of c.1 >>= λ i. tail_of c.0 i.0 i.1) k e) [
      | inl f ↦ record { before = []; front = []; rest = b; begins = (made 0 0 None None, segments (made 0 0 None None), refl); spelled = refl; joined = refl; wrong = wrong_of k [] b fits (class_stop k b f) }
      | inr c ↦ after_class c.0.0 c.0.1 c.1 c.2
    ]
  where
    after_instance : (c i : ℕ) (s z r t : List ℕ) → IsSegment (Class c) s → IsSegment (Instance i) z → b ≡ s ++ r → r ≡ z ++ t → Stopped k (Class c ∷ Instance i ∷ []) t → path_fault k b
    after_instance c i s z r t hs hz es ez st =
        record {
          before = Class c ∷ Instance i ∷ st.after;
          front = s ++ (z ++ st.text);
          rest = st.rest;
          begins = st.begins;
          spelled = (s, z ++ st.text, hs, (z, st.text, hz, st.spelled, refl), refl);
          joined = es ∙ ap (λ (x : List ℕ). s ++ x) (ez ∙ ap (λ (x : List ℕ). z ++ x) st.joined) ∙ sym (append_assoc s (z ++ st.text) st.rest ∙ ap (λ (x : List ℕ). s ++ x) (append_assoc z st.text st.rest));
          wrong = wrong_of k (Class c ∷ Instance i ∷ st.after) st.rest st.fits st.stop;
        }

    after_class : (c : ℕ) (r : List ℕ) → class_of b ≡ Ok (c, r) → (instance_of r >>= λ i. tail_of c i.0 i.1) ≡ Err k → path_fault k b
    after_class c r ec ei =
        let tc = segment_taken b (Class c) r fits (class_segment b c r ec) in
        let fits_r = AreBytes-second tc.text r (subst AreBytes tc.joined fits) in
        elim (bind_err (instance_of r) (λ i. tail_of c i.0 i.1) k ei) [
          | inl f ↦ record {
            before = Class c ∷ [];
            front = tc.text;
            rest = r;
            begins = (made c 0 None None, Instance 0 ∷ [], refl);
            spelled = AreSegments-one (Class c) tc.text tc.spelled;
            joined = tc.joined;
            wrong = wrong_of k (Class c ∷ []) r fits_r (instance_stop c k r f);
          }
          | inr i ↦
              let ti = segment_taken r (Instance i.0.0) i.0.1 fits_r (instance_segment r i.0.0 i.0.1 i.1) in
              let fits_i = AreBytes-second ti.text i.0.1 (subst AreBytes ti.joined fits_r) in
              after_instance c i.0.0 tc.text ti.text r i.0.1 tc.spelled ti.spelled tc.joined ti.joined (tail_stopped c i.0.0 i.0.1 k fits_i i.2)
        ]

-- ---- both laws, for what a reader returned

pub path_iff : (b : List ℕ) (read : Result Path PathFault) → AreBytes b → read ≡ path_of b → (p : Path) → (read ≡ Ok p) ↔ IsPath p b
path_iff b read fits e p = ((λ q. path_spelled b p fits (sym e ∙ q)), (λ h. e ∙ path_again b p h))

pub fault_iff : (b : List ℕ) (read : Result Path PathFault) → AreBytes b → read ≡ path_of b → (k : PathFault) → (read ≡ Err k) ↔ path_fault k b
fault_iff b read fits e k = ((λ q. path_faulty k b fits (sym e ∙ q)), (λ h. e ∙ path_refused k b h))
