-- Bytes have at most one reading as values of a type.
use Rattle.std.specs.Prelude.{⊤}
use Rattle.std.proofs.Common.{◌≡◌, ◌⊎◌, ℕ, suc, ◌+◌, ◌-◌, ◌*◌, ◌/◌, ◌^◌, ◌<◌, ◌≤◌, true, false, Bool, List, [], ◌∷◌, ◌++◌, length, get_or, slice_index, take, drop, refl, sym, ap, ◌∙◌, arith, inl, inr, ℤ, pos, negsuc, ◌-ℤ◌, nat_lt, length-append, append_assoc, MatchBool, Result, Ok, Err, IfOk}
use Rattle.std.proofs.lemmas.Int.{ints}
use Rattle.std.proofs.lemmas.List.{take_at, drop_at, append-nil}
use Rattle.std.specs.List.{AllByRecursion}
use Rattle.byteorder.proofs.Bytes.{pow256, sign_bit}
use Rattle.byteorder.specs.Endian.{little_from, twos_complement}
use Rattle.byteorder.specs.Numbers.{little_number-reads_back, length-bytes_low_first}
use Rattle.cip_bytes.specs.Numbers.{le}
use Rattle.cip_bytes.proofs.Joined.{same_front}
use Rattle.cip_values.proofs.CalendarLemmas.{same_date}
use Rattle.cip_values.specs.Types.{IsSized, size_of, form_of}
use Rattle.cip_values.specs.Calendar.{days_of}
use Rattle.cip_values.specs.Values.{Value, Truth, Signed, Unsigned, Bits, Real, Text, Lreal, Wide, Path, Day, Clock, Instant, IsOf, spelled, joined, needed, BeginsWith, IsValueFault, complement, IsSignedOf, BeginsWithAll, AreBytesOf, IsCutOff, IsListFault, IsSingleFault, IsFrontFault}
use Rattle.cip_values.specs.declared.element.ElementaryType.{ElementaryType}
use Rattle.cip_values.specs.declared.element.ElementaryType.TheVariants as types
use Rattle.cip_values.specs.declared.element.ValueType.{ValueType}
use Rattle.cip_values.specs.declared.element.Form.{Form}
use Rattle.cip_values.specs.declared.element.Form.TheVariants as forms
use Rattle.cip_values.specs.declared.fault.ValueFault.{ValueFault}
use Rattle.cip_values.specs.declared.fault.ValueFault.TheVariants as faults

-- two's complement reads the complement as the integer again
complement-lt : (n : ℕ) (z : ℤ) → 1 ≤ n → n ≤ 8 → IsSignedOf n z → complement n z < 256 ^ n
complement-lt n (pos k) low high h = let twice = (sign_bit n low high).2 in let half : k < 2 ^ (8 * n - 1) = h in omega arith
complement-lt n (negsuc k) low high h =
    let twice = (sign_bit n low high).2 in let whole = pow256 n in let half : k < 2 ^ (8 * n - 1) = h in omega arith

twos_complement-complement : (n : ℕ) (z : ℤ) → 1 ≤ n → n ≤ 8 → IsSignedOf n z → twos_complement n (complement n z) ≡ z
twos_complement-complement n (pos k) low high h =
    let below : nat_lt k (2 ^ (8 * n - 1)) ≡ true = let half : k < 2 ^ (8 * n - 1) = h in grind arith in
    rw below refl
twos_complement-complement n (negsuc k) low high h =
    let twice = (sign_bit n low high).2 in
    let whole = pow256 n in
    let half : k < 2 ^ (8 * n - 1) = h in
    let above : nat_lt (2 ^ (8 * n) - suc k) (2 ^ (8 * n - 1)) ≡ false = grind arith in
    let e : pos (2 ^ (8 * n) - suc k) -ℤ pos (2 ^ (8 * n)) ≡ negsuc k = omega (arith, ints) in
    rw (above, e) refl

-- a value by its numbers, where a date is the number of its day
abbrev numbered : Value → Value
numbered (Day date) = Text (days_of date ∷ [])
numbered (Instant date clock) = Text (clock ∷ days_of date ∷ [])
numbered v = v

-- a string or a path after its count
abbrev counted_from : ℕ → ℕ → List ℕ → List ℕ
counted_from n unit bytes = take (unit * little_from 0 n bytes) (drop n bytes)

-- the value that the first bytes spell, by its numbers, whatever follows
abbrev value_from : Form → List ℕ → Value
value_from forms.Bool bytes = Truth (nat_lt 0 (get_or bytes 0 0))
value_from (forms.Signed n) bytes = Signed (twos_complement n (little_from 0 n bytes))
value_from (forms.Unsigned n) bytes = Unsigned (little_from 0 n bytes)
value_from (forms.Bits n) bytes = Bits (little_from 0 n bytes)
value_from forms.Real bytes = Real (little_from 0 4 bytes)
value_from (forms.Text n) bytes = Text (counted_from n 1 bytes)
value_from forms.Lreal bytes = Lreal (little_from 0 8 bytes)
value_from forms.Wide bytes = Wide (counted_from 2 2 bytes)
value_from forms.Path bytes = Path (counted_from 1 2 bytes)
value_from forms.Date bytes = Text (little_from 0 2 bytes ∷ [])
value_from forms.TimeOfDay bytes = Clock (little_from 0 4 bytes)
value_from forms.DateAndTime bytes = Text (little_from 0 4 bytes ∷ little_from 0 2 (drop 4 bytes) ∷ [])

-- what is found at the front of a value's bytes
record Found (form : Form) (v : Value) (r : List ℕ) : Type 0 where
  back : value_from form (spelled (size_of form) v ++ r) ≡ numbered v
  needs : needed form (spelled (size_of form) v ++ r) ≡ length (spelled (size_of form) v)
  some : 0 < length (spelled (size_of form) v)
  truth : form ≡ forms.Bool → slice_index (spelled (size_of form) v ++ r) 0 < 2

-- what is found after a count
counted_at : (n unit units : ℕ) (bytes r : List ℕ) → units < 2 ^ (8 * n) → length bytes ≡ unit * units
    → (counted_from n unit ((le n units ++ bytes) ++ r) ≡ bytes)
    × (n + unit * little_from 0 n ((le n units ++ bytes) ++ r) ≡ length (le n units ++ bytes))
    × (length (le n units ++ bytes) ≡ n + unit * units)
counted_at n unit units bytes r below long =
    let small : units < 256 ^ n = rw (pow256 n) below in
    let count = length-bytes_low_first 0 n units in
    let apart : (le n units ++ bytes) ++ r ≡ le n units ++ (bytes ++ r) = append_assoc (le n units) bytes r in
    let number : little_from 0 n ((le n units ++ bytes) ++ r) ≡ units =
    ap (little_from 0 n) apart ∙ little_number-reads_back n units (bytes ++ r) small in
    let rest : drop n ((le n units ++ bytes) ++ r) ≡ bytes ++ r =
    ap (drop n) apart ∙ drop_at (le n units) (bytes ++ r) n count in
    let whole : length (le n units ++ bytes) ≡ n + unit * units = omega (arith, length-append (le n units) bytes, count, long) in (
      rw (number, rest) (take_at bytes r (unit * units) long),
      rw number (sym whole),
      whole,
    )

found : (form : Form) (v : Value) (r : List ℕ) → IsSized form → IsOf form v → Found form v r
found forms.Bool v r sized h = elim v as (λ v. IsOf forms.Bool v → Found forms.Bool v r) [
  | Truth b ↦ λ h. elim b as (λ b. Found forms.Bool (Truth b) r) [
    | true ↦ record { back = refl; needs = refl; some = omega arith; truth = λ e. omega arith }
    | false ↦ record { back = refl; needs = refl; some = omega arith; truth = λ e. omega arith }
  ]
  | _ ↦ λ h. absurd h
] h
found (forms.Signed n) v r sized h = elim v as (λ v. IsOf (forms.Signed n) v → Found (forms.Signed n) v r) [
  | Signed z ↦ λ h.
      let below = complement-lt n z sized.0 sized.1 h in
      let count = length-bytes_low_first 0 n (complement n z) in
      record {
        back = ap (λ (x : ℕ). Signed (twos_complement n x)) (little_number-reads_back n (complement n z) r below)
            ∙ ap Signed (twos_complement-complement n z sized.0 sized.1 h);
        needs = sym count;
        some = omega (arith, count, sized.0);
        truth = λ e. absurd (cc);
      }
  | _ ↦ λ h. absurd h
] h
found (forms.Unsigned n) v r sized h = elim v as (λ v. IsOf (forms.Unsigned n) v → Found (forms.Unsigned n) v r) [
  | Unsigned x ↦ λ h.
      let below : x < 256 ^ n = rw (pow256 n) h in
      let count = length-bytes_low_first 0 n x in
      record {
        back = ap Unsigned (little_number-reads_back n x r below);
        needs = sym count;
        some = omega (arith, count, sized.0);
        truth = λ e. absurd (cc);
      }
  | _ ↦ λ h. absurd h
] h
found (forms.Bits n) v r sized h = elim v as (λ v. IsOf (forms.Bits n) v → Found (forms.Bits n) v r) [
  | Bits x ↦ λ h.
      let below : x < 256 ^ n = rw (pow256 n) h in
      let count = length-bytes_low_first 0 n x in
      record {
        back = ap Bits (little_number-reads_back n x r below);
        needs = sym count;
        some = omega (arith, count, sized.0);
        truth = λ e. absurd (cc);
      }
  | _ ↦ λ h. absurd h
] h
found forms.Real v r sized h = elim v as (λ v. IsOf forms.Real v → Found forms.Real v r) [
  | Real x ↦ λ h. record {
    back = ap Real (little_number-reads_back 4 x r h);
    needs = refl;
    some = omega arith;
    truth = λ e. absurd (cc);
  }
  | _ ↦ λ h. absurd h
] h
found (forms.Text n) v r sized h = elim v as (λ v. IsOf (forms.Text n) v → Found (forms.Text n) v r) [
  | Text bytes ↦ λ h.
      let at = counted_at n 1 (length bytes) bytes r h.0 (omega arith) in
      record { back = ap Text at.0; needs = at.1; some = omega (arith, at.2, sized.0); truth = λ e. absurd (cc) }
  | _ ↦ λ h. absurd h
] h
found forms.Lreal v r sized h = elim v as (λ v. IsOf forms.Lreal v → Found forms.Lreal v r) [
  | Lreal x ↦ λ h. record {
    back = ap Lreal (little_number-reads_back 8 x r h);
    needs = refl;
    some = omega arith;
    truth = λ e. absurd (cc);
  }
  | _ ↦ λ h. absurd h
] h
found forms.Wide v r sized h = elim v as (λ v. IsOf forms.Wide v → Found forms.Wide v r) [
  | Wide bytes ↦ λ h.
      let even : length bytes ≡ 2 * (length bytes / 2) = let whole = h.0 in omega arith in
      let at = counted_at 2 2 (length bytes / 2) bytes r h.1 even in
      record { back = ap Wide at.0; needs = at.1; some = omega (arith, at.2); truth = λ e. absurd (cc) }
  | _ ↦ λ h. absurd h
] h
found forms.Path v r sized h = elim v as (λ v. IsOf forms.Path v → Found forms.Path v r) [
  | Path bytes ↦ λ h.
      let even : length bytes ≡ 2 * (length bytes / 2) = let whole = h.0 in omega arith in
      let at = counted_at 1 2 (length bytes / 2) bytes r h.1 even in
      record { back = ap Path at.0; needs = at.1; some = omega (arith, at.2); truth = λ e. absurd (cc) }
  | _ ↦ λ h. absurd h
] h
found forms.Date v r sized h = elim v as (λ v. IsOf forms.Date v → Found forms.Date v r) [
  | Day date ↦ λ h. record {
    back = ap (λ (x : ℕ). Text (x ∷ [])) (little_number-reads_back 2 (days_of date) r h.last);
    needs = refl;
    some = omega arith;
    truth = λ e. absurd (cc);
  }
  | _ ↦ λ h. absurd h
] h
found forms.TimeOfDay v r sized h = elim v as (λ v. IsOf forms.TimeOfDay v → Found forms.TimeOfDay v r) [
  | Clock x ↦ λ h. record {
    back = ap Clock (little_number-reads_back 4 x r h);
    needs = refl;
    some = omega arith;
    truth = λ e. absurd (cc);
  }
  | _ ↦ λ h. absurd h
] h
found forms.DateAndTime v r sized h = elim v as (λ v. IsOf forms.DateAndTime v → Found forms.DateAndTime v r) [
  | Instant date clock ↦ λ h.
      let first = little_number-reads_back 4 clock (le 2 (days_of date) ++ r) h.1 in
      let second = little_number-reads_back 2 (days_of date) r h.0.last in
      record {
        back = ap (λ (x : ℕ). Text (x ∷ little_from 0 2 (le 2 (days_of date) ++ r) ∷ [])) first
            ∙ ap (λ (x : ℕ). Text (clock ∷ x ∷ [])) second;
        needs = refl;
        some = omega arith;
        truth = λ e. absurd (cc);
      }
  | _ ↦ λ h. absurd h
] h

-- a kind whose values are no dates
abbrev IsPlain : Form → Type 0
IsPlain forms.Date = ⊥
IsPlain forms.DateAndTime = ⊥
IsPlain form = ⊤

plain : (form : Form) (v : Value) → IsPlain form → IsOf form v → numbered v ≡ v
plain form (Day date) p h = elim form as (λ f. IsPlain f → IsOf f (Day date) → numbered (Day date) ≡ Day date) [
  | forms.Date ↦ λ p h. absurd p
  | _ ↦ λ p h. absurd h
] p h
plain form (Instant date clock) p h =
    elim form as (λ f. IsPlain f → IsOf f (Instant date clock) → numbered (Instant date clock) ≡ Instant date clock) [
      | forms.DateAndTime ↦ λ p h. absurd p
      | _ ↦ λ p h. absurd h
    ] p h
plain form (Truth truth) p h = refl
plain form (Signed number) p h = refl
plain form (Unsigned number) p h = refl
plain form (Bits number) p h = refl
plain form (Real bits) p h = refl
plain form (Text bytes) p h = refl
plain form (Lreal bits) p h = refl
plain form (Wide bytes) p h = refl
plain form (Path bytes) p h = refl
plain form (Clock clock) p h = refl

same_day : (v w : Value) → IsOf forms.Date v → IsOf forms.Date w → numbered v ≡ numbered w → v ≡ w
same_day v w = elim v as (λ v. IsOf forms.Date v → IsOf forms.Date w → numbered v ≡ numbered w → v ≡ w) [
  | Day d ↦ elim w as (λ w. IsOf forms.Date (Day d) → IsOf forms.Date w → numbered (Day d) ≡ numbered w → Day d ≡ w) [
    | Day e ↦ λ hv hw same. let days : days_of d ≡ days_of e = cc in ap Day (same_date d e hv hw days)
    | _ ↦ λ hv hw same. absurd hw
  ]
  | _ ↦ λ hv hw same. absurd hv
]

same_instant : (v w : Value) → IsOf forms.DateAndTime v → IsOf forms.DateAndTime w → numbered v ≡ numbered w → v ≡ w
same_instant v w =
    elim v as (λ v. IsOf forms.DateAndTime v → IsOf forms.DateAndTime w → numbered v ≡ numbered w → v ≡ w) [
      | Instant d t ↦
          elim w as (λ w. IsOf forms.DateAndTime (Instant d t) → IsOf forms.DateAndTime w → numbered (Instant d t) ≡ numbered w
          → Instant d t ≡ w) [
            | Instant e u ↦ λ hv hw same.
                let days : days_of d ≡ days_of e = cc in
                let clocks : t ≡ u = cc in
                let dates = same_date d e hv.0 hw.0 days in
                cc
            | _ ↦ λ hv hw same. absurd hw
          ]
      | _ ↦ λ hv hw same. absurd hv
    ]

-- values of one kind with the same numbers are the same
same_numbered : (form : Form) (v w : Value) → IsOf form v → IsOf form w → numbered v ≡ numbered w → v ≡ w
same_numbered form v w = elim form as (λ f. IsOf f v → IsOf f w → numbered v ≡ numbered w → v ≡ w) [
  | forms.Date ↦ same_day v w
  | forms.DateAndTime ↦ same_instant v w
  | other ↦ λ hv hw same. sym (plain other v tt hv) ∙ same ∙ plain other w tt hw
]

-- equal bytes begin with the same value, and have the same rest
same_first : (form : Form) (v w : Value) (r s : List ℕ) → IsSized form → IsOf form v → IsOf form w
    → spelled (size_of form) v ++ r ≡ spelled (size_of form) w ++ s → (v ≡ w) × (r ≡ s)
same_first form v w r s sized hv hw e =
    let f = found form v r sized hv in
    let g = found form w s sized hw in
    let same : v ≡ w = same_numbered form v w hv hw (sym f.back ∙ ap (value_from form) e ∙ g.back) in
    let lengths : length (spelled (size_of form) w) ≡ length (spelled (size_of form) v) =
    sym g.needs ∙ ap (needed form) (sym e) ∙ f.needs in
    (same, (same_front (spelled (size_of form) v) (spelled (size_of form) w) r s lengths e).1)

-- bytes that begin with a value are not refused
pub front_is_read : (form : Form) (bytes : List ℕ) (v : Value) (rest : List ℕ) (fault : ValueFault) → IsSized form
    → BeginsWith form bytes v rest → IsValueFault form bytes fault → ⊥
front_is_read form bytes v rest faults.Short sized front h =
    let f = found form v rest sized front.of_type in
    let needs : needed form bytes ≡ length (spelled (size_of form) v) = ap (needed form) front.bytes_of ∙ f.needs in
    let count : length bytes ≡ length (spelled (size_of form) v) + length rest = ap length front.bytes_of ∙ length-append (spelled (size_of form) v) rest in
    omega (arith, needs, count, h)
front_is_read form bytes v rest (faults.NotBool byte) sized front h =
    let f = found form v rest sized front.of_type in
    let below : slice_index bytes 0 < 2 = rw front.bytes_of (f.truth h.0) in
    omega (arith, below, h.1, h.2)
front_is_read form bytes v rest (faults.Trailing n) sized front h = h
front_is_read form bytes v rest (faults.Count e n) sized front h = h
front_is_read form bytes v rest (faults.Form w e) sized front h = h
front_is_read form bytes v rest (faults.Range w e) sized front h = h
front_is_read form bytes v rest (faults.TooLong n) sized front h = h
front_is_read form bytes v rest (faults.Oversized e n) sized front h = h
front_is_read form bytes v rest faults.Memory sized front h = h

-- If the bytes of values begin with those of others, either the values are the same and nothing is left, or what is
-- left begins with a value.
pub same_values : (form : Form) (xs ys : List Value) (rest : List ℕ) → IsSized form
    → AllByRecursion (IsOf form) xs → AllByRecursion (IsOf form) ys → joined form xs ≡ joined form ys ++ rest
    → ((xs ≡ ys) × (rest ≡ [])) ⊎ ((x : Value) × ((more : List ℕ) × BeginsWith form rest x more))
same_values form [] [] rest sized hx hy e = inl (refl, sym e)
same_values form [] (y ∷ ys) rest sized hx hy e =
    let f = found form y (joined form ys ++ rest) sized hy.0 in
    let count = ap length e in
    let all = length-append (spelled (size_of form) y ++ joined form ys) rest in
    let first = length-append (spelled (size_of form) y) (joined form ys) in
    absurd (omega (arith, count, all, first, f.some))
same_values form (x ∷ xs) [] rest sized hx hy e =
    inr (x, (joined form xs, record { of_type = hx.0; bytes_of = sym e }))
same_values form (x ∷ xs) (y ∷ ys) rest sized hx hy e =
    let firsts = same_first form x y (joined form xs) (joined form ys ++ rest) sized hx.0 hy.0
    (e ∙ append_assoc (spelled (size_of form) y) (joined form ys) rest) in
    elim (same_values form xs ys rest sized hx.1 hy.1 firsts.1) [
      | inl h ↦ inl (rw (firsts.0, h.0) refl, h.1)
      | inr h ↦ inr h
    ]

-- the empty list does not begin with a value
nothing_read : (form : Form) (v : Value) (rest : List ℕ) → IsSized form → BeginsWith form [] v rest → ⊥
nothing_read form v rest sized front =
    let f = found form v rest sized front.of_type in
    let count = ap length front.bytes_of in
    omega (arith, count, length-append (spelled (size_of form) v) rest, f.some)

pub form_sized : (element : ElementaryType) → IsSized (form_of element)
form_sized element = elim element as (λ e. IsSized (form_of e)) [
  | types.Bool ↦ tt
  | types.Real ↦ tt
  | types.Lreal ↦ tt
  | types.String2 ↦ tt
  | types.Epath ↦ tt
  | types.Date ↦ tt
  | types.TimeOfDay ↦ tt
  | types.DateAndTime ↦ tt
  | _ ↦ (omega arith, omega arith)
]

pub one_way : (form : Form) (bytes : List ℕ) (xs ys : List Value) → IsSized form
    → BeginsWithAll form bytes xs [] → BeginsWithAll form bytes ys [] → xs ≡ ys
one_way form bytes xs ys sized hx hy =
    let e = sym (append-nil (joined form xs)) ∙ sym hx.bytes_of ∙ hy.bytes_of in
    elim (same_values form xs ys [] sized hx.of_type hy.of_type e) [
      | inl h ↦ h.0
      | inr (x, (more, front)) ↦ absurd (nothing_read form x more sized front)
    ]

not_cut_off : (form : Form) (bytes : List ℕ) (values : List Value) (fault : ValueFault) → IsSized form
    → BeginsWithAll form bytes values [] → IsCutOff form bytes fault → ⊥
not_cut_off form bytes values fault sized h cut =
    let e = sym (append-nil (joined form values)) ∙ sym h.bytes_of ∙ cut.begins.bytes_of in
    elim (same_values form values cut.values cut.rest sized h.of_type cut.begins.of_type e) [
      | inl same ↦ let none = ap length same.1 in omega (arith, none, cut.more)
      | inr (x, (more, front)) ↦ front_is_read form cut.rest x more fault sized front cut.unread
    ]

-- one value with nothing after it is not refused
one_front : (form : Form) (bytes : List ℕ) (values : List Value) → BeginsWithAll form bytes values [] → length values ≡ 1
    → (v : Value) × BeginsWith form bytes v []
one_front form bytes [] h one = absurd (omega arith)
one_front form bytes (v ∷ []) h one =
    (v, record { of_type = h.of_type.0; bytes_of = h.bytes_of ∙ append-nil (spelled (size_of form) v ++ []) })
one_front form bytes (v ∷ w ∷ more) h one = absurd (omega arith)

not_left_over : (form : Form) (bytes : List ℕ) (v w : Value) (rest : List ℕ) → IsSized form → BeginsWith form bytes v []
    → BeginsWith form bytes w rest → 0 < length rest → ⊥
not_left_over form bytes v w rest sized hv hw some =
    let same = same_first form v w [] rest sized hv.of_type hw.of_type (sym hv.bytes_of ∙ hw.bytes_of) in
    let none = ap length same.1 in
    omega (arith, none, some)

list_is_read : (form : Form) (bytes : List ℕ) (values : List Value) (fault : ValueFault) → IsSized form
    → BeginsWithAll form bytes values [] → IsListFault form bytes fault → fault ≡ faults.Memory
list_is_read form bytes values fault sized h = elim fault as (λ f. IsListFault form bytes f → f ≡ faults.Memory) [
  | faults.Memory ↦ λ _. refl
  | _ ↦ λ cut. absurd (not_cut_off form bytes values _ sized h cut)
]

one_is_read : (form : Form) (bytes : List ℕ) (v : Value) (fault : ValueFault) → IsSized form
    → BeginsWith form bytes v [] → IsSingleFault form bytes fault → fault ≡ faults.Memory
one_is_read form bytes v fault sized h = elim fault as (λ f. IsSingleFault form bytes f → f ≡ faults.Memory) [
  | faults.Memory ↦ λ _. refl
  | faults.Trailing count ↦ λ left.
      let (some, (w, (rest, (front, e)))) = left in
      absurd (not_left_over form bytes v w rest sized h front (omega (arith, some, e)))
  | other ↦ λ unread. absurd (front_is_read form bytes v [] other sized h unread)
]

pub is_read : (list : Bool) (form : Form) (bytes : List ℕ) (values : List Value) (fault : ValueFault) → IsSized form
    → BeginsWithAll form bytes values [] → (list ≡ false → length values ≡ 1)
    → MatchBool list (IsListFault form bytes fault) (IsSingleFault form bytes fault) → fault ≡ faults.Memory
is_read true form bytes values fault sized h one refused = list_is_read form bytes values fault sized h refused
is_read false form bytes values fault sized h one refused =
    let (v, front) = one_front form bytes values h (one refl) in
    one_is_read form bytes v fault sized front refused

-- a value has at least one byte
pub front_shorter : (form : Form) (bytes : List ℕ) (v : Value) (rest : List ℕ) → IsSized form → BeginsWith form bytes v rest
    → length rest < length bytes
front_shorter form bytes v rest sized front =
    let f = found form v rest sized front.of_type in
    let count = ap length front.bytes_of in
    omega (arith, count, length-append (spelled (size_of form) v) rest, f.some)

-- values one after another are those of a list type, and a single one is that of its element type
pub list_values : {A E : Type 0} (f : A → List Value) (value_type : ValueType) (bytes : List ℕ) (r : Result A E)
    → value_type.is_list ≡ true → IfOk r (λ a. BeginsWithAll (form_of value_type.element) bytes (f a) [])
    → IfOk r (λ a. AreBytesOf value_type bytes (f a))
list_values f value_type bytes (Ok a) list h = record { begins = h; one = λ single. absurd (cc) }
list_values f value_type bytes (Err x) list h = tt

pub one_value : {A E : Type 0} (f : A → List Value) (value_type : ValueType) (bytes : List ℕ) (r : Result A E)
    → IfOk r (λ a. BeginsWithAll (form_of value_type.element) bytes (f a) []) → IfOk r (λ a. length (f a) ≡ 1)
    → IfOk r (λ a. AreBytesOf value_type bytes (f a))
one_value f value_type bytes (Ok a) h one = record { begins = h; one = λ _. one }
one_value f value_type bytes (Err x) h one = tt

-- after fewer values than these, what follows is refused
pub front_fault : (form : Form) (count : ℕ) (bytes : List ℕ) (values : List Value) (rest : List ℕ) (fault : ValueFault)
    → BeginsWithAll form bytes values rest → length values < count → IsValueFault form rest fault → IsFrontFault form count bytes fault
front_fault form count bytes values rest fault begins fewer =
    elim fault as (λ f. IsValueFault form rest f → IsFrontFault form count bytes f) [
      | faults.Memory ↦ λ h. tt
      | other ↦ λ h. record { values = values; rest = rest; begins = begins; fewer = fewer; unread = h }
    ]
