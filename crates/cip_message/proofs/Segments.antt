-- A segment that is read is the one spelled, and what is spelled is read again.
use Rattle.std.proofs.Common.{◌≡◌, ◌≢◌, ℕ, ◌+◌, ◌*◌, ◌/◌, ◌%◌, ◌<◌, Option, Some, Bool, true, false, cond, eqb, ltb, List, [], ◌∷◌, ◌++◌, length, Result, Ok, Err, refl, sym, ap, subst, ◌∙◌, arith, inl, inr}
use Rattle.std.proofs.lemmas.Bool.{ltb-true, le-ltb, lt-ltb, eqb-true, eqb-false}
use Rattle.std.proofs.lemmas.List.{length-append}
use Rattle.byteorder.specs.Endian.{little_from}
use Rattle.cip_message.specs.declared.path.Segment.{Segment}
use Rattle.cip_message.specs.declared.path.Segment.TheVariants.{Class, Instance, Member, Attribute}
use Rattle.std.specs.Prelude.{◌&&◌}
use Rattle.cip_message.specs.declared.path.Kind.{Kind}
use Rattle.cip_message.specs.declared.path.Kind.TheVariants as kinds
use Rattle.cip_message.specs.declared.path.PathFault.{PathFault}
use Rattle.cip_message.specs.declared.path.PathFault.TheVariants as fault
use Rattle.cip_bytes.specs.Numbers.{le, AreBytes}
use Rattle.cip_message.specs.Path.{In8, In16, In32, IsSegment, IsFirstByte, BeginsNoSegment, IsFront}
use Rattle.cip_message.specs.PathReading.{value8_of, value16_of, value32_of, with_kind, kind_of, segment_of_kind, has_32_bits, in_format, of_kind, segment_at, segment_of}
use Rattle.cip_bytes.proofs.Bytes.{le2_back, le4_back, le2_again, le4_again}
use Rattle.cip_bytes.proofs.Steps.{bind_ok, ok_is, err_is}

-- ---- a value of one width

abbrev guarded : {A : Type 0} → Bool → A → Result A PathFault
guarded b x = cond b (Err fault.Cut) (Ok x)

guard_ok : {A : Type 0} (b : Bool) (x y : A) → guarded b x ≡ Ok y → (b ≡ false) × (x ≡ y)
guard_ok true x y e = absurd cc
guard_ok false x y e = (refl, cc)

guard_err : {A : Type 0} (b : Bool) (x : A) (k : PathFault) → guarded b x ≡ Err k → (b ≡ true) × (k ≡ fault.Cut)
guard_err true x k e = (refl, cc)
guard_err false x k e = absurd cc

-- bytes that are cut within n bytes
is_short : (n : ℕ) (r more t : List ℕ) → r ++ more ≡ t → length t ≡ n → more ≢ [] → length r < n
is_short n r [] t e len ne = absurd (ne refl)
is_short n r (m ∷ more) t e len ne =
    omega (arith, ap length e, length-append r (m ∷ more))

-- what was read is spelled at the front of the bytes
pub record Found (Spelled : ℕ → List ℕ → Type 0) (b : List ℕ) (v : ℕ) (r : List ℕ) : Type 0 where
  pub text : List ℕ
  pub spelled : Spelled v text
  pub joined : b ≡ text ++ r

found8 : (x : ℕ) (xs : List ℕ) (v : ℕ) (r : List ℕ) → AreBytes (x ∷ xs) → value8_of (x ∷ xs) ≡ Ok (v, r) → Found (In8 x) (x ∷ xs) v r
found8 x [] v r fits e = absurd cc
found8 x (y ∷ ys) v r fits e =
    let g = guard_ok (ltb (length (x ∷ y ∷ ys)) 2) (y, ys) (v, r) e in
    subst (λ (p : ℕ × List ℕ). Found (In8 x) (x ∷ y ∷ ys) p.0 p.1) g.1
    (record { text = x ∷ y ∷ []; spelled = record { fits = fits 1; spelled = refl }; joined = refl })

found16 : (x : ℕ) (xs : List ℕ) (v : ℕ) (r : List ℕ) → AreBytes (x ∷ xs) → value16_of (x ∷ xs) ≡ Ok (v, r) → Found (In16 x) (x ∷ xs) v r
found16 x [] v r fits e = absurd cc
found16 x (p ∷ []) v r fits e = absurd cc
found16 x (p ∷ a ∷ []) v r fits e = absurd cc
found16 x (p ∷ a ∷ b ∷ ys) v r fits e =
    let number = little_from 2 2 (x ∷ p ∷ a ∷ b ∷ ys) in
    let number_is : number ≡ a + 256 * b = omega arith in
    let g = guard_ok (ltb (length (x ∷ p ∷ a ∷ b ∷ ys)) 4) (number, ys) (v, r) e in
    subst (λ (q : ℕ × List ℕ). Found (In16 x) (x ∷ p ∷ a ∷ b ∷ ys) q.0 q.1) g.1
    (record {
      text = x ∷ p ∷ a ∷ b ∷ [];
      spelled = record { fits = omega (arith, fits 2, fits 3); pad = p; pad_fits = fits 1; spelled = ap (λ (t : List ℕ). x ∷ p ∷ t) (sym (ap (le 2) number_is ∙ le2_back a b (fits 2) (fits 3))) };
      joined = refl;
    })

found32 : (x : ℕ) (xs : List ℕ) (v : ℕ) (r : List ℕ) → AreBytes (x ∷ xs) → value32_of (x ∷ xs) ≡ Ok (v, r) → Found (In32 x) (x ∷ xs) v r
found32 x [] v r fits e = absurd cc
found32 x (p ∷ []) v r fits e = absurd cc
found32 x (p ∷ a ∷ []) v r fits e = absurd cc
found32 x (p ∷ a ∷ b ∷ []) v r fits e = absurd cc
found32 x (p ∷ a ∷ b ∷ c ∷ []) v r fits e = absurd cc
found32 x (p ∷ a ∷ b ∷ c ∷ d ∷ ys) v r fits e =
    let number = little_from 2 4 (x ∷ p ∷ a ∷ b ∷ c ∷ d ∷ ys) in
    let number_is : number ≡ a + 256 * (b + 256 * (c + 256 * d)) = omega arith in
    let g = guard_ok (ltb (length (x ∷ p ∷ a ∷ b ∷ c ∷ d ∷ ys)) 6) (number, ys) (v, r) e in
    subst (λ (q : ℕ × List ℕ). Found (In32 x) (x ∷ p ∷ a ∷ b ∷ c ∷ d ∷ ys) q.0 q.1) g.1
    (record {
      text = x ∷ p ∷ a ∷ b ∷ c ∷ d ∷ [];
      spelled = record { fits = omega (arith, fits 2, fits 3, fits 4, fits 5); pad = p; pad_fits = fits 1; spelled = ap (λ (t : List ℕ). x ∷ p ∷ t) (sym (ap (le 4) number_is ∙ le4_back a b c d (fits 2) (fits 3) (fits 4) (fits 5))) };
      joined = refl;
    })

-- what is spelled is read again, whatever follows it
again8 : (x v : ℕ) (s r : List ℕ) → In8 x v s → value8_of (s ++ r) ≡ Ok (v, r)
again8 x v s r h =
    let long : ltb (length (x ∷ v ∷ r)) 2 ≡ false = le-ltb _ _ (omega arith) in
    ap (λ (t : List ℕ). value8_of (t ++ r)) h.spelled ∙ rw long refl

again16 : (x v : ℕ) (s r : List ℕ) → In16 x v s → value16_of (s ++ r) ≡ Ok (v, r)
again16 x v s r h =
    let long : ltb (length (x ∷ h.pad ∷ (le 2 v ++ r))) 4 ≡ false = le-ltb _ _ (omega arith) in
    let number = le2_again v h.fits r in
    ap (λ (t : List ℕ). value16_of (t ++ r)) h.spelled ∙ rw (long, number) refl

again32 : (x v : ℕ) (s r : List ℕ) → In32 x v s → value32_of (s ++ r) ≡ Ok (v, r)
again32 x v s r h =
    let long : ltb (length (x ∷ h.pad ∷ (le 4 v ++ r))) 6 ≡ false = le-ltb _ _ (omega arith) in
    let number = le4_again v h.fits r in
    ap (λ (t : List ℕ). value32_of (t ++ r)) h.spelled ∙ rw (long, number) refl

-- what is too short is a proper prefix of a value
pub record Part (Spelled : ℕ → List ℕ → Type 0) (b : List ℕ) : Type 0 where
  pub value : ℕ
  pub more : List ℕ
  pub proper : more ≢ []
  pub spelled : Spelled value (b ++ more)

part8 : (x : ℕ) (xs : List ℕ) → AreBytes (x ∷ xs) → length (x ∷ xs) < 2 → Part (In8 x) (x ∷ xs)
part8 x [] fits lt = record { value = 0; more = 0 ∷ []; proper = λ e. absurd cc; spelled = record { fits = omega arith; spelled = refl } }
part8 x (y ∷ ys) fits lt = absurd (omega arith)

part16 : (x : ℕ) (xs : List ℕ) → AreBytes (x ∷ xs) → length (x ∷ xs) < 4 → Part (In16 x) (x ∷ xs)
part16 x [] fits lt = record { value = 0; more = 0 ∷ 0 ∷ 0 ∷ []; proper = λ e. absurd cc; spelled = record { fits = omega arith; pad = 0; pad_fits = omega arith; spelled = refl } }
part16 x (p ∷ []) fits lt = record { value = 0; more = 0 ∷ 0 ∷ []; proper = λ e. absurd cc; spelled = record { fits = omega arith; pad = p; pad_fits = fits 1; spelled = refl } }
part16 x (p ∷ a ∷ []) fits lt =
    record { value = a + 256 * 0; more = 0 ∷ []; proper = λ e. absurd cc; spelled = record { fits = omega (arith, fits 2); pad = p; pad_fits = fits 1; spelled = ap (λ (t : List ℕ). x ∷ p ∷ t) (sym (le2_back a 0 (fits 2) (omega arith))) } }
part16 x (p ∷ a ∷ b ∷ ys) fits lt = absurd (omega arith)

part32 : (x : ℕ) (xs : List ℕ) → AreBytes (x ∷ xs) → length (x ∷ xs) < 6 → Part (In32 x) (x ∷ xs)
part32 x [] fits lt = record { value = 0; more = 0 ∷ 0 ∷ 0 ∷ 0 ∷ 0 ∷ []; proper = λ e. absurd cc; spelled = record { fits = omega arith; pad = 0; pad_fits = omega arith; spelled = refl } }
part32 x (p ∷ []) fits lt = record { value = 0; more = 0 ∷ 0 ∷ 0 ∷ 0 ∷ []; proper = λ e. absurd cc; spelled = record { fits = omega arith; pad = p; pad_fits = fits 1; spelled = refl } }
part32 x (p ∷ a ∷ []) fits lt =
    record { value = a + 256 * (0 + 256 * (0 + 256 * 0)); more = 0 ∷ 0 ∷ 0 ∷ []; proper = λ e. absurd cc; spelled = record { fits = omega (arith, fits 2); pad = p; pad_fits = fits 1; spelled = ap (λ (t : List ℕ). x ∷ p ∷ t) (sym (le4_back a 0 0 0 (fits 2) (omega arith) (omega arith) (omega arith))) } }
part32 x (p ∷ a ∷ b ∷ []) fits lt =
    record { value = a + 256 * (b + 256 * (0 + 256 * 0)); more = 0 ∷ 0 ∷ []; proper = λ e. absurd cc; spelled = record { fits = omega (arith, fits 2, fits 3); pad = p; pad_fits = fits 1; spelled = ap (λ (t : List ℕ). x ∷ p ∷ t) (sym (le4_back a b 0 0 (fits 2) (fits 3) (omega arith) (omega arith))) } }
part32 x (p ∷ a ∷ b ∷ c ∷ []) fits lt =
    record { value = a + 256 * (b + 256 * (c + 256 * 0)); more = 0 ∷ []; proper = λ e. absurd cc; spelled = record { fits = omega (arith, fits 2, fits 3, fits 4); pad = p; pad_fits = fits 1; spelled = ap (λ (t : List ℕ). x ∷ p ∷ t) (sym (le4_back a b c 0 (fits 2) (fits 3) (fits 4) (omega arith))) } }
part32 x (p ∷ a ∷ b ∷ c ∷ d ∷ ys) fits lt = absurd (omega arith)

-- a proper prefix of a value is cut
pub record IsCut (x : ℕ) (read : List ℕ → Result (ℕ × List ℕ) PathFault) (r : List ℕ) : Type 0 where
  pub tail : List ℕ
  pub begins : r ≡ x ∷ tail
  pub cut : read (x ∷ tail) ≡ Err fault.Cut

cut8 : (x v : ℕ) (r more : List ℕ) → r ≢ [] → more ≢ [] → In8 x v (r ++ more) → IsCut x value8_of r
cut8 x v [] more ne some h = absurd (ne refl)
cut8 x v (y ∷ ys) more ne some h =
    let short = is_short 2 (y ∷ ys) more (x ∷ v ∷ []) h.spelled refl some in
    let same : y ≡ x = (let e = h.spelled in cc) in
    let test : ltb (length (x ∷ ys)) 2 ≡ true = lt-ltb _ _ (omega arith) in
    record { tail = ys; begins = ap (λ (z : ℕ). z ∷ ys) same; cut = rw test refl }

cut16 : (x v : ℕ) (r more : List ℕ) → r ≢ [] → more ≢ [] → In16 x v (r ++ more) → IsCut x value16_of r
cut16 x v [] more ne some h = absurd (ne refl)
cut16 x v (y ∷ ys) more ne some h =
    let short = is_short 4 (y ∷ ys) more (x ∷ h.pad ∷ le 2 v) h.spelled refl some in
    let same : y ≡ x = (let e = h.spelled in cc) in
    let test : ltb (length (x ∷ ys)) 4 ≡ true = lt-ltb _ _ (omega arith) in
    record { tail = ys; begins = ap (λ (z : ℕ). z ∷ ys) same; cut = rw test refl }

cut32 : (x v : ℕ) (r more : List ℕ) → r ≢ [] → more ≢ [] → In32 x v (r ++ more) → IsCut x value32_of r
cut32 x v [] more ne some h = absurd (ne refl)
cut32 x v (y ∷ ys) more ne some h =
    let short = is_short 6 (y ∷ ys) more (x ∷ h.pad ∷ le 4 v) h.spelled refl some in
    let same : y ≡ x = (let e = h.spelled in cc) in
    let test : ltb (length (x ∷ ys)) 6 ≡ true = lt-ltb _ _ (omega arith) in
    record { tail = ys; begins = ap (λ (z : ℕ). z ∷ ys) same; cut = rw test refl }

-- ---- a segment

-- which row of the table the first byte selects
data Row (x : ℕ) (b : List ℕ) (read : Result (Segment × List ℕ) PathFault) : Type 0 where
  row8 : (kind : ℕ → Segment) → ((v : ℕ) (s : List ℕ) → In8 x v s → IsSegment (kind v) s) → IsFirstByte x → read ≡ with_kind kind (value8_of b) → Row x b read
  row16 : (kind : ℕ → Segment) → ((v : ℕ) (s : List ℕ) → In16 x v s → IsSegment (kind v) s) → IsFirstByte x → read ≡ with_kind kind (value16_of b) → Row x b read
  row32 : (kind : ℕ → Segment) → ((v : ℕ) (s : List ℕ) → In32 x v s → IsSegment (kind v) s) → IsFirstByte x → read ≡ with_kind kind (value32_of b) → Row x b read
  none : (IsFirstByte x → ⊥) → read ≡ Err fault.Segment → Row x b read

row_if_test : (t : Bool) (n k x : ℕ) (b : List ℕ) (this other : Result (Segment × List ℕ) PathFault) → eqb n k ≡ t
    → (n ≡ k → Row x b this) → (n ≢ k → Row x b other) → Row x b (cond t this other)
row_if_test true n k x b this other e yes_ no_ = yes_ (eqb-true n k e)
row_if_test false n k x b this other e yes_ no_ = no_ (eqb-false n k e)

row_if : (n k x : ℕ) (b : List ℕ) (this other : Result (Segment × List ℕ) PathFault)
    → (n ≡ k → Row x b this) → (n ≢ k → Row x b other) → Row x b (cond (eqb n k) this other)
row_if n k x b this other yes_ no_ = row_if_test (eqb n k) n k x b this other refl yes_ no_

none_of : (x : ℕ) → x ≢ 0x20 → x ≢ 0x21 → x ≢ 0x24 → x ≢ 0x25 → x ≢ 0x26 → x ≢ 0x28 → x ≢ 0x29 → x ≢ 0x30 → x ≢ 0x31 → IsFirstByte x → ⊥
none_of x n0 n1 n2 n3 n4 n5 n6 n7 n8 (inl e) = n0 e
none_of x n0 n1 n2 n3 n4 n5 n6 n7 n8 (inr (inl e)) = n1 e
none_of x n0 n1 n2 n3 n4 n5 n6 n7 n8 (inr (inr (inl e))) = n2 e
none_of x n0 n1 n2 n3 n4 n5 n6 n7 n8 (inr (inr (inr (inl e)))) = n3 e
none_of x n0 n1 n2 n3 n4 n5 n6 n7 n8 (inr (inr (inr (inr (inl e))))) = n4 e
none_of x n0 n1 n2 n3 n4 n5 n6 n7 n8 (inr (inr (inr (inr (inr (inl e)))))) = n5 e
none_of x n0 n1 n2 n3 n4 n5 n6 n7 n8 (inr (inr (inr (inr (inr (inr (inl e))))))) = n6 e
none_of x n0 n1 n2 n3 n4 n5 n6 n7 n8 (inr (inr (inr (inr (inr (inr (inr (inl e)))))))) = n7 e
none_of x n0 n1 n2 n3 n4 n5 n6 n7 n8 (inr (inr (inr (inr (inr (inr (inr (inr e)))))))) = n8 e

-- the two parts of a first byte make it
byte_of : (x base format : ℕ) → base ≡ x / 4 * 4 → format ≡ x % 4 → x ≡ base + format
byte_of x base format p q = omega arith

kind_if : (t : Bool) (base k format x : ℕ) (kind : Kind) (others : Option Kind) (b : List ℕ) → eqb base k ≡ t
    → (base ≡ k → Row x b (of_kind (Some kind) format b)) → (base ≢ k → Row x b (of_kind others format b))
    → Row x b (of_kind (cond t (Some kind) others) format b)
kind_if true base k format x kind others b e yes_ no_ = yes_ (eqb-true base k e)
kind_if false base k format x kind others b e yes_ no_ = no_ (eqb-false base k e)

-- the rows of one kind, whose first byte in 8 bits is k
rows_of : (x k format : ℕ) (kind : Kind) (b : List ℕ) → x ≡ k + format → format < 4
    → ((v : ℕ) (s : List ℕ) → In8 k v s → IsSegment (segment_of_kind kind v) s)
    → ((v : ℕ) (s : List ℕ) → In16 (k + 1) v s → IsSegment (segment_of_kind kind v) s)
    → IsFirstByte k → IsFirstByte (k + 1)
    → (format ≢ 0 → format ≢ 1 → Row x b (cond (has_32_bits kind && eqb format 2) (with_kind (segment_of_kind kind) (value32_of b)) (Err fault.Segment)))
    → Row x b (in_format format kind b)
rows_of x k format kind b e few is8 is16 first8 first16 wide =
    row_if format 0 x b _ _
    (λ z. let same : x ≡ k = omega arith in
    row8 (segment_of_kind kind) (λ v s h. is8 v s (subst (λ (n : ℕ). In8 n v s) same h)) (subst IsFirstByte (sym same) first8) refl)
    (λ n0. row_if format 1 x b _ _
    (λ z. let same : x ≡ k + 1 = omega arith in
    row16 (segment_of_kind kind) (λ v s h. is16 v s (subst (λ (n : ℕ). In16 n v s) same h)) (subst IsFirstByte (sym same) first16) refl)
    (λ n1. wide n0 n1))

-- an instance in 32 bits
wide_row : (x format : ℕ) (b : List ℕ) → x ≡ 0x24 + format → format < 4 → format ≢ 0 → format ≢ 1
    → Row x b (cond (eqb format 2) (with_kind (segment_of_kind kinds.Instance) (value32_of b)) (Err fault.Segment))
wide_row x format b e few n0 n1 =
    row_if format 2 x b _ _
    (λ z. let same : x ≡ 0x26 = omega arith in
    row32 (segment_of_kind kinds.Instance) (λ v s h. inr (inr (subst (λ (n : ℕ). In32 n v s) same h))) (subst IsFirstByte (sym same) (inr (inr (inr (inr (inl refl)))))) refl)
    (λ n2. none (none_of x (λ q. omega arith) (λ q. omega arith) (λ q. omega arith) (λ q. omega arith) (λ q. omega arith) (λ q. omega arith) (λ q. omega arith) (λ q. omega arith) (λ q. omega arith)) refl)

row_of_parts : (x base format : ℕ) (b : List ℕ) → base ≡ x / 4 * 4 → format ≡ x % 4 → Row x b (of_kind (kind_of base) format b)
row_of_parts x base format b p q =
    let e = byte_of x base format p q in
    let few : format < 4 = omega arith in
    let whole : (x / 4) * 4 ≡ base = sym p in
    kind_if (eqb base 0x20) base 0x20 format x _ _ b refl (λ c. let x_is : x ≡ 0x20 + format = omega arith in
    rows_of x 0x20 format kinds.Class b x_is few (λ v s h. inl h) (λ v s h. inr h) (inl refl) (inr (inl refl)) (λ n0 n1. none (none_of x (λ q. omega arith) (λ q. omega arith) (λ q. omega arith) (λ q. omega arith) (λ q. omega arith) (λ q. omega arith) (λ q. omega arith) (λ q. omega arith) (λ q. omega arith)) refl)) (λ m0.
    kind_if (eqb base 0x24) base 0x24 format x _ _ b refl (λ c. let x_is : x ≡ 0x24 + format = omega arith in
    rows_of x 0x24 format kinds.Instance b x_is few (λ v s h. inl h) (λ v s h. inr (inl h)) (inr (inr (inl refl))) (inr (inr (inr (inl refl)))) (λ n0 n1. wide_row x format b x_is few n0 n1)) (λ m1.
    kind_if (eqb base 0x28) base 0x28 format x _ _ b refl (λ c. let x_is : x ≡ 0x28 + format = omega arith in
    rows_of x 0x28 format kinds.Member b x_is few (λ v s h. inl h) (λ v s h. inr h) (inr (inr (inr (inr (inr (inl refl)))))) (inr (inr (inr (inr (inr (inr (inl refl))))))) (λ n0 n1. none (none_of x (λ q. omega arith) (λ q. omega arith) (λ q. omega arith) (λ q. omega arith) (λ q. omega arith) (λ q. omega arith) (λ q. omega arith) (λ q. omega arith) (λ q. omega arith)) refl)) (λ m2.
    kind_if (eqb base 0x30) base 0x30 format x _ _ b refl (λ c. let x_is : x ≡ 0x30 + format = omega arith in
    rows_of x 0x30 format kinds.Attribute b x_is few (λ v s h. inl h) (λ v s h. inr h) (inr (inr (inr (inr (inr (inr (inr (inl refl)))))))) (inr (inr (inr (inr (inr (inr (inr (inr refl)))))))) (λ n0 n1. none (none_of x (λ q. omega arith) (λ q. omega arith) (λ q. omega arith) (λ q. omega arith) (λ q. omega arith) (λ q. omega arith) (λ q. omega arith) (λ q. omega arith) (λ q. omega arith)) refl)) (λ m3.
    none (none_of x (λ q. omega arith) (λ q. omega arith) (λ q. omega arith) (λ q. omega arith) (λ q. omega arith) (λ q. omega arith) (λ q. omega arith) (λ q. omega arith) (λ q. omega arith)) refl))))

row_of : (x : ℕ) (b : List ℕ) → Row x b (segment_at x b)
row_of x b = row_of_parts x (x / 4 * 4) (x % 4) b refl refl

-- what a segment's reader took
pub record TakesSegment (b : List ℕ) (g : Segment) (r : List ℕ) : Type 0 where
  pub text : List ℕ
  pub spelled : IsSegment g text
  pub joined : b ≡ text ++ r

taken : (b : List ℕ) (g : Segment) (r : List ℕ) (kind : ℕ → Segment) (Spelled : ℕ → List ℕ → Type 0) (read : Result (ℕ × List ℕ) PathFault)
    → ((v : ℕ) (s : List ℕ) → Spelled v s → IsSegment (kind v) s) → ((v : ℕ) (t : List ℕ) → read ≡ Ok (v, t) → Found Spelled b v t)
    → with_kind kind read ≡ Ok (g, r) → TakesSegment b g r
taken b g r kind Spelled read is_segment finds e =
    let a = bind_ok read (λ x. Ok (kind x.0, x.1)) (g, r) e in
    let f = finds a.0.0 a.0.1 a.1 in
    subst (λ (q : Segment × List ℕ). TakesSegment b q.0 q.1) (ok_is (kind a.0.0, a.0.1) (g, r) a.2)
    (record { text = f.text; spelled = is_segment a.0.0 f.text f.spelled; joined = f.joined })

taken_row : (x : ℕ) (xs : List ℕ) (g : Segment) (r : List ℕ) (read : Result (Segment × List ℕ) PathFault) → AreBytes (x ∷ xs)
    → Row x (x ∷ xs) read → read ≡ Ok (g, r) → TakesSegment (x ∷ xs) g r
taken_row x xs g r read fits (row8 kind is first e) h = taken (x ∷ xs) g r kind (In8 x) (value8_of (x ∷ xs)) is (λ v t f. found8 x xs v t fits f) (sym e ∙ h)
taken_row x xs g r read fits (row16 kind is first e) h = taken (x ∷ xs) g r kind (In16 x) (value16_of (x ∷ xs)) is (λ v t f. found16 x xs v t fits f) (sym e ∙ h)
taken_row x xs g r read fits (row32 kind is first e) h = taken (x ∷ xs) g r kind (In32 x) (value32_of (x ∷ xs)) is (λ v t f. found32 x xs v t fits f) (sym e ∙ h)
taken_row x xs g r read fits (none not_ e) h = absurd cc

pub segment_taken : (b : List ℕ) (g : Segment) (r : List ℕ) → AreBytes b → segment_of b ≡ Ok (g, r) → TakesSegment b g r
unfolding segment_of
segment_taken [] g r fits e = absurd cc
segment_taken (x ∷ xs) g r fits e = taken_row x xs g r (segment_at x (x ∷ xs)) fits (row_of x (x ∷ xs)) e

with_kind_ok : (kind : ℕ → Segment) (read : Result (ℕ × List ℕ) PathFault) (v : ℕ) (r : List ℕ) → read ≡ Ok (v, r) → with_kind kind read ≡ Ok (kind v, r)
with_kind_ok kind read v r e = ap (with_kind kind) e

again_from8 : (x v : ℕ) (s r : List ℕ) (kind : ℕ → Segment) → ((xs : List ℕ) → segment_of (x ∷ xs) ≡ with_kind kind (value8_of (x ∷ xs))) → In8 x v s → segment_of (s ++ r) ≡ Ok (kind v, r)
again_from8 x v s r kind row h =
    ap (λ (t : List ℕ). segment_of (t ++ r)) h.spelled ∙ row (v ∷ r) ∙ ap (λ (t : List ℕ). with_kind kind (value8_of (t ++ r))) (sym h.spelled) ∙ with_kind_ok kind _ v r (again8 x v s r h)

again_from16 : (x v : ℕ) (s r : List ℕ) (kind : ℕ → Segment) → ((xs : List ℕ) → segment_of (x ∷ xs) ≡ with_kind kind (value16_of (x ∷ xs))) → In16 x v s → segment_of (s ++ r) ≡ Ok (kind v, r)
again_from16 x v s r kind row h =
    ap (λ (t : List ℕ). segment_of (t ++ r)) h.spelled ∙ row (h.pad ∷ (le 2 v ++ r)) ∙ ap (λ (t : List ℕ). with_kind kind (value16_of (t ++ r))) (sym h.spelled) ∙ with_kind_ok kind _ v r (again16 x v s r h)

again_from32 : (x v : ℕ) (s r : List ℕ) (kind : ℕ → Segment) → ((xs : List ℕ) → segment_of (x ∷ xs) ≡ with_kind kind (value32_of (x ∷ xs))) → In32 x v s → segment_of (s ++ r) ≡ Ok (kind v, r)
again_from32 x v s r kind row h =
    ap (λ (t : List ℕ). segment_of (t ++ r)) h.spelled ∙ row (h.pad ∷ (le 4 v ++ r)) ∙ ap (λ (t : List ℕ). with_kind kind (value32_of (t ++ r))) (sym h.spelled) ∙ with_kind_ok kind _ v r (again32 x v s r h)

pub segment_again : (g : Segment) (s r : List ℕ) → IsSegment g s → segment_of (s ++ r) ≡ Ok (g, r)
unfolding segment_of
segment_again (Class v) s r (inl h) = again_from8 0x20 v s r Class (λ xs. refl) h
segment_again (Class v) s r (inr h) = again_from16 0x21 v s r Class (λ xs. refl) h
segment_again (Instance v) s r (inl h) = again_from8 0x24 v s r Instance (λ xs. refl) h
segment_again (Instance v) s r (inr (inl h)) = again_from16 0x25 v s r Instance (λ xs. refl) h
segment_again (Instance v) s r (inr (inr h)) = again_from32 0x26 v s r Instance (λ xs. refl) h
segment_again (Member v) s r (inl h) = again_from8 0x28 v s r Member (λ xs. refl) h
segment_again (Member v) s r (inr h) = again_from16 0x29 v s r Member (λ xs. refl) h
segment_again (Attribute v) s r (inl h) = again_from8 0x30 v s r Attribute (λ xs. refl) h
segment_again (Attribute v) s r (inr h) = again_from16 0x31 v s r Attribute (λ xs. refl) h

-- ---- the faults of a segment

-- the fault that a segment's reader found in bytes that are not empty
abbrev pub SegmentFault : PathFault → List ℕ → Type 0
SegmentFault fault.Segment b = BeginsNoSegment b
SegmentFault fault.Cut b = IsFront b
SegmentFault fault.Order b = ⊥

short_of : (limit x : ℕ) (xs : List ℕ) (k : PathFault) (y : ℕ × List ℕ) → guarded (ltb (length (x ∷ xs)) limit) y ≡ Err k → (length (x ∷ xs) < limit) × (k ≡ fault.Cut)
short_of limit x xs k y e =
    let g = guard_err (ltb (length (x ∷ xs)) limit) y k e in (ltb-true _ _ g.0, g.1)

part_fault : (x : ℕ) (xs : List ℕ) (k : PathFault) (kind : ℕ → Segment) (Spelled : ℕ → List ℕ → Type 0) (read : Result (ℕ × List ℕ) PathFault)
    → ((v : ℕ) (s : List ℕ) → Spelled v s → IsSegment (kind v) s) → (read ≡ Err k → (k ≡ fault.Cut) × Part Spelled (x ∷ xs))
    → with_kind kind read ≡ Err k → SegmentFault k (x ∷ xs)
part_fault x xs k kind Spelled (Ok y) is_segment parts e = absurd cc
part_fault x xs k kind Spelled (Err d) is_segment parts e =
    let p = parts cc in
    subst (λ (j : PathFault). SegmentFault j (x ∷ xs)) (sym p.0)
    (record { segment = kind p.1.value; more = p.1.more; some = λ q. absurd cc; proper = p.1.proper; spelled = is_segment p.1.value ((x ∷ xs) ++ p.1.more) p.1.spelled })

row_fault : (x : ℕ) (xs : List ℕ) (k : PathFault) (read : Result (Segment × List ℕ) PathFault) → AreBytes (x ∷ xs)
    → Row x (x ∷ xs) read → read ≡ Err k → SegmentFault k (x ∷ xs)
row_fault x xs k read fits (row8 kind is first e) h =
    part_fault x xs k kind (In8 x) (value8_of (x ∷ xs)) is (λ f. let g = short_of 2 x xs k _ f in (g.1, part8 x xs fits g.0)) (sym e ∙ h)
row_fault x xs k read fits (row16 kind is first e) h =
    part_fault x xs k kind (In16 x) (value16_of (x ∷ xs)) is (λ f. let g = short_of 4 x xs k _ f in (g.1, part16 x xs fits g.0)) (sym e ∙ h)
row_fault x xs k read fits (row32 kind is first e) h =
    part_fault x xs k kind (In32 x) (value32_of (x ∷ xs)) is (λ f. let g = short_of 6 x xs k _ f in (g.1, part32 x xs fits g.0)) (sym e ∙ h)
row_fault x xs k read fits (none not_ e) h =
    let same : fault.Segment ≡ k = err_is fault.Segment k (sym e ∙ h) in
    subst (λ (j : PathFault). SegmentFault j (x ∷ xs)) same (record { first = x; more = xs; begins = refl; not_first = not_ })

pub segment_fault : (x : ℕ) (xs : List ℕ) (k : PathFault) → AreBytes (x ∷ xs) → segment_of (x ∷ xs) ≡ Err k → SegmentFault k (x ∷ xs)
unfolding segment_of
segment_fault x xs k fits e = row_fault x xs k (segment_at x (x ∷ xs)) fits (row_of x (x ∷ xs)) e

none_row : (x : ℕ) (b : List ℕ) (read : Result (Segment × List ℕ) PathFault) → (IsFirstByte x → ⊥) → Row x b read → read ≡ Err fault.Segment
none_row x b read not_ (row8 kind is first e) = absurd (not_ first)
none_row x b read not_ (row16 kind is first e) = absurd (not_ first)
none_row x b read not_ (row32 kind is first e) = absurd (not_ first)
none_row x b read not_ (none n e) = e

pub segment_none : (b : List ℕ) → BeginsNoSegment b → segment_of b ≡ Err fault.Segment
unfolding segment_of
segment_none b h =
    ap segment_of h.begins ∙ none_row h.first (h.first ∷ h.more) (segment_at h.first (h.first ∷ h.more)) h.not_first (row_of h.first (h.first ∷ h.more))

cut_from8 : (x v : ℕ) (r more : List ℕ) (kind : ℕ → Segment) → ((xs : List ℕ) → segment_of (x ∷ xs) ≡ with_kind kind (value8_of (x ∷ xs)))
    → r ≢ [] → more ≢ [] → In8 x v (r ++ more) → segment_of r ≡ Err fault.Cut
cut_from8 x v r more kind row some proper h =
    let c = cut8 x v r more some proper h in ap segment_of c.begins ∙ row c.tail ∙ ap (with_kind kind) c.cut

cut_from16 : (x v : ℕ) (r more : List ℕ) (kind : ℕ → Segment) → ((xs : List ℕ) → segment_of (x ∷ xs) ≡ with_kind kind (value16_of (x ∷ xs)))
    → r ≢ [] → more ≢ [] → In16 x v (r ++ more) → segment_of r ≡ Err fault.Cut
cut_from16 x v r more kind row some proper h =
    let c = cut16 x v r more some proper h in ap segment_of c.begins ∙ row c.tail ∙ ap (with_kind kind) c.cut

cut_from32 : (x v : ℕ) (r more : List ℕ) (kind : ℕ → Segment) → ((xs : List ℕ) → segment_of (x ∷ xs) ≡ with_kind kind (value32_of (x ∷ xs)))
    → r ≢ [] → more ≢ [] → In32 x v (r ++ more) → segment_of r ≡ Err fault.Cut
cut_from32 x v r more kind row some proper h =
    let c = cut32 x v r more some proper h in ap segment_of c.begins ∙ row c.tail ∙ ap (with_kind kind) c.cut

segment_cut_from : (g : Segment) (r more : List ℕ) → r ≢ [] → more ≢ [] → IsSegment g (r ++ more) → segment_of r ≡ Err fault.Cut
unfolding segment_of
segment_cut_from (Class v) r more some proper (inl h) = cut_from8 0x20 v r more Class (λ xs. refl) some proper h
segment_cut_from (Class v) r more some proper (inr h) = cut_from16 0x21 v r more Class (λ xs. refl) some proper h
segment_cut_from (Instance v) r more some proper (inl h) = cut_from8 0x24 v r more Instance (λ xs. refl) some proper h
segment_cut_from (Instance v) r more some proper (inr (inl h)) = cut_from16 0x25 v r more Instance (λ xs. refl) some proper h
segment_cut_from (Instance v) r more some proper (inr (inr h)) = cut_from32 0x26 v r more Instance (λ xs. refl) some proper h
segment_cut_from (Member v) r more some proper (inl h) = cut_from8 0x28 v r more Member (λ xs. refl) some proper h
segment_cut_from (Member v) r more some proper (inr h) = cut_from16 0x29 v r more Member (λ xs. refl) some proper h
segment_cut_from (Attribute v) r more some proper (inl h) = cut_from8 0x30 v r more Attribute (λ xs. refl) some proper h
segment_cut_from (Attribute v) r more some proper (inr h) = cut_from16 0x31 v r more Attribute (λ xs. refl) some proper h

pub segment_cut : (b : List ℕ) → IsFront b → segment_of b ≡ Err fault.Cut
segment_cut b h = segment_cut_from h.segment b h.more h.some h.proper h.spelled

pub segment_none_at_end : segment_of [] ≡ Err fault.Order
unfolding segment_of
segment_none_at_end = refl
