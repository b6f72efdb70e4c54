-- Parsing a layout: texts that are cut, types by their names, and fields that are added.
use Rattle.std.proofs.Common.{◌≡◌, ℕ, ◌+◌, ◌<◌, ◌≤◌, Bool, true, false, not, suc, cond, ltb, List, [], ◌∷◌, ◌++◌, length, map, Option, Some, None, Result, Ok, Err, refl, sym, ap, subst, ◌∙◌, arith}
use Rattle.std.specs.Prelude.{IfSome, MatchOption, option_map}
use Rattle.std.specs.Borrow.{Bor}
use Rattle.std.specs.List.{position_or_len, before_first, after_first, slice_split, list_any, find, onto_first}
use Rattle.std.specs.Str.{bytes_eq}
use Rattle.std.proofs.lemmas.Bool.{le-ltb, lt-ltb, ltb-true, ltb-false}
use Rattle.std.proofs.lemmas.List.Splits.{slice_split_first}
use Rattle.cip_bytes.specs.Reading.{◌>>=◌}
use Rattle.std.proofs.lemmas.Slice.Eq.{bytes_eq-Decides}
use Rattle.cip_values.specs.Types.{name_of as type_name}
use Rattle.cip_values.specs.declared.element.ElementaryType.{ElementaryType}
use Rattle.cip_values.specs.declared.element.ElementaryType.TheVariants as types
use Rattle.cip_layouts.specs.Layouts.{Field, is_byte, has_byte, cut_in, cut_seen, elements, element_named, with_text, with_texts}
use Rattle.cip_layouts.specs.declared.field.Field.{Field as FieldInCode}
use Rattle.cip_layouts.specs.declared.fault.LayoutFault.{LayoutFault}

-- ---- a text cut in two

pub cut_is : (c : ℕ) (bs : List ℕ) (r : Option (Bor (List ℕ) × Bor (List ℕ)))
    → MatchOption r (position_or_len (is_byte c) bs ≡ length bs)
    (λ x. (position_or_len (is_byte c) bs < length bs) × (x.0.now ≡ before_first (is_byte c) bs) × (x.1.now ≡ after_first (is_byte c) bs))
    → option_map cut_seen r ≡ cut_in c bs
unfolding cut_in
cut_is c bs None h =
    let none : has_byte c bs ≡ false = le-ltb _ _ (omega (arith, h)) in
    rw none refl
cut_is c bs (Some x) h =
    let found : has_byte c bs ≡ true = lt-ltb _ _ h.0 in
    rw (found, h.1, h.2) refl

-- ---- the name of a type

finds_none : {X : Type 0} (p : X → Bool) (xs : List X) → ((x : X) → p x ≡ false) → find p xs ≡ None
finds_none p [] none = refl
finds_none p (x ∷ xs) none = rw (none x) (finds_none p xs none)

named_again : (element : ElementaryType) → element_named (type_name element) ≡ Some element
unfolding element_named
named_again types.Bool = refl
named_again types.Sint = refl
named_again types.Int = refl
named_again types.Dint = refl
named_again types.Lint = refl
named_again types.Usint = refl
named_again types.Uint = refl
named_again types.Udint = refl
named_again types.Ulint = refl
named_again types.Byte = refl
named_again types.Word = refl
named_again types.Dword = refl
named_again types.Lword = refl
named_again types.Real = refl
named_again types.ShortString = refl
named_again types.Lreal = refl
named_again types.String = refl
named_again types.String2 = refl
named_again types.Epath = refl
named_again types.Date = refl
named_again types.TimeOfDay = refl
named_again types.DateAndTime = refl
named_again types.Time = refl
named_again types.Ltime = refl

other_name : (name other : List ℕ) → (other ≡ name → ⊥) → bytes_eq name other ≡ false
other_name name other differs = by (bytes_eq name other) refl
  where
    by : (t : Bool) → bytes_eq name other ≡ t → t ≡ false
    by false e = refl
    by true e = absurd (differs (sym ((bytes_eq-Decides name other).0 e)))

pub element_is : (name : List ℕ) (r : Option ElementaryType) → IfSome r (λ element. type_name element ≡ name)
    → (r ≡ None → (element : ElementaryType) → type_name element ≡ name → ⊥) → element_named name ≡ r
unfolding element_named
element_is name (Some element) named other =
    subst (λ (text : List ℕ). element_named text ≡ Some element) named (named_again element)
element_is name None named other =
    finds_none (λ (element : ElementaryType). bytes_eq name (type_name element)) elements
    (λ (element : ElementaryType). other_name name (type_name element) (other refl element))

-- ---- the fields so far

pub any_map : {X Y : Type 0} (p : Y → Bool) (f : X → Y) (xs : List X) → list_any p (map f xs) ≡ list_any (λ x. p (f x)) xs
any_map p f [] = refl
any_map p f (x ∷ xs) = rw (any_map p f xs) refl

-- ---- the texts between commas

only_by : (t : Bool) (p : ℕ → Bool) (x : ℕ) (xs : List ℕ) → p x ≡ t → suc (length xs) ≤ cond (not t) (1 + position_or_len p xs) 0
    → (length xs ≤ position_or_len p xs → slice_split p xs ≡ xs ∷ [])
    → cond t ([] ∷ slice_split p xs) (onto_first x (slice_split p xs)) ≡ (x ∷ xs) ∷ []
only_by true p x xs e none rest = absurd (omega (arith, none))
only_by false p x xs e none rest = ap (onto_first x) (rest (omega (arith, none)))

only_one : (p : ℕ → Bool) (xs : List ℕ) → length xs ≤ position_or_len p xs → slice_split p xs ≡ xs ∷ []
only_one p [] none = refl
only_one p (x ∷ xs) none = only_by (p x) p x xs refl none (only_one p xs)

cut_none : (c : ℕ) (text : List ℕ) → cut_in c text ≡ None → slice_split (is_byte c) text ≡ text ∷ []
unfolding cut_in
cut_none c text e = by (has_byte c text) refl e
  where
    by : (t : Bool) → has_byte c text ≡ t → cond {A = Option (List ℕ × List ℕ)} t (Some (before_first (is_byte c) text, after_first (is_byte c) text)) None ≡ None
        → slice_split (is_byte c) text ≡ text ∷ []
    by true t e = absurd cc
    by false t e = only_one (is_byte c) text (ltb-false _ _ t)

cut_some : (c : ℕ) (text first rest : List ℕ) → cut_in c text ≡ Some (first, rest)
    → slice_split (is_byte c) text ≡ first ∷ slice_split (is_byte c) rest
unfolding cut_in
cut_some c text first rest e = by (has_byte c text) refl e
  where
    by : (t : Bool) → has_byte c text ≡ t → cond {A = Option (List ℕ × List ℕ)} t (Some (before_first (is_byte c) text, after_first (is_byte c) text)) None ≡ Some (first, rest)
        → slice_split (is_byte c) text ≡ first ∷ slice_split (is_byte c) rest
    by true t e =
        let same : (before_first (is_byte c) text, after_first (is_byte c) text) ≡ (first, rest) = cc in
        slice_split_first (is_byte c) text 0 (ltb-true _ _ t)
        ∙ ap (λ (p : List ℕ × List ℕ). p.0 ∷ slice_split (is_byte c) p.1) same
    by false t e = absurd cc

bind_done : (r : Result (List Field) LayoutFault) → (r >>= λ more. Ok more) ≡ r
bind_done (Ok more) = refl
bind_done (Err why) = refl

pub adds_last : (fields : List Field) (text : List ℕ) (r : Result (List Field) LayoutFault) → r ≡ with_text fields text
    → cut_in 44 text ≡ None → r ≡ with_texts fields (slice_split (is_byte 44) text)
adds_last fields text r e none =
    e ∙ sym (bind_done (with_text fields text)) ∙ ap (with_texts fields) (sym (cut_none 44 text none))

pub adds_first : (fields more : List Field) (text first rest : List ℕ) → Ok more ≡ with_text fields first
    → cut_in 44 text ≡ Some (first, rest)
    → with_texts fields (slice_split (is_byte 44) text) ≡ with_texts more (slice_split (is_byte 44) rest)
adds_first fields more text first rest e cut =
    ap (with_texts fields) (cut_some 44 text first rest cut)
    ∙ ap (λ (r : Result (List Field) LayoutFault). r >>= λ longer. with_texts longer (slice_split (is_byte 44) rest)) (sym e)

pub fails_first : (fields : List Field) (text first rest : List ℕ) (why : LayoutFault) → Err why ≡ with_text fields first
    → cut_in 44 text ≡ Some (first, rest) → with_texts fields (slice_split (is_byte 44) text) ≡ Err why
fails_first fields text first rest why e cut =
    ap (with_texts fields) (cut_some 44 text first rest cut)
    ∙ ap (λ (r : Result (List Field) LayoutFault). r >>= λ longer. with_texts longer (slice_split (is_byte 44) rest)) (sym e)

-- ---- the first field
