-- Bytes that spell a list of items, and bytes that spell none.
use Rattle.std.specs.Prelude.{◌↔◌}
use Rattle.std.proofs.Common.{◌≡◌, ℕ, zero, suc, ◌+◌, ◌-◌, ◌^◌, ◌<◌, ◌≤◌, inl, inr, List, [], ◌∷◌, ◌++◌, length, take, drop, Result, Ok, Err, refl, sym, ap, subst, ◌∙◌, arith, append_assoc, append-nil, length-append, length-take, length-drop, lit<}
use Rattle.std.proofs.lemmas.List.{take-append-drop, drop-drop}
use Rattle.std.proofs.lemmas.Bool.{cases_lt}
use Rattle.std.proofs.lemmas.Bool.Decides.{nat_tests}
use Rattle.std.specs.List.{flat_map, AllByRecursion}
use Rattle.enip_wire.specs.declared.item_list.CpfFault.{CpfFault}
use Rattle.enip_wire.specs.declared.item_list.CpfFault.TheVariants.{Short, Trailing, Interface, Address, Data}
use Rattle.cip_bytes.specs.Numbers.{le, number_at, AreBytes}
use Rattle.enip_wire.specs.Items.{Item, item, items, IsItem, AreItems, IsShort, IsTrailing, item_at, size_at, first_items, after, whole, items_of}
use Rattle.cip_bytes.proofs.Bytes.{AreBytes-drop, cells, drop-cells, le-number_at_2, of_two, AreBytes-append}
use Rattle.cip_bytes.proofs.Joined.{same_front}
use Rattle.enip_wire.proofs.FrameLemmas.{number-two, number_at-append}

pub same_item : {k m : ℕ} {b c : List ℕ} → k ≡ m → b ≡ c
    → ◌≡◌ {A = Item} (record { kind = k; bytes = b }) (record { kind = m; bytes = c })
same_item p q = cc

-- One spelling.

-- equal bytes begin with the same 16-bit number, and have the same rest
pub le_same : (m n : ℕ) (x y : List ℕ) → m < 2 ^ 16 → n < 2 ^ 16 → le 2 m ++ x ≡ le 2 n ++ y → (m ≡ n) × (x ≡ y)
le_same m n x y p q e = (
  sym (of_two m p) ∙ ap (λ b. number_at 0 2 b) e ∙ of_two n q,
  ap (drop 2) e,
)

item_parts : (i : Item) (x : List ℕ) → item i ++ x ≡ le 2 i.kind ++ (le 2 (length i.bytes) ++ (i.bytes ++ x))
item_parts i x = refl

pub one_item : (i j : Item) (x y : List ℕ) → IsItem i → IsItem j → item i ++ x ≡ item j ++ y → (i ≡ j) × (x ≡ y)
one_item i j x y p q e =
    let kinds : (i.kind ≡ j.kind) × (le 2 (length i.bytes) ++ (i.bytes ++ x) ≡ le 2 (length j.bytes) ++ (j.bytes ++ y))
    = le_same i.kind j.kind (le 2 (length i.bytes) ++ (i.bytes ++ x)) (le 2 (length j.bytes) ++ (j.bytes ++ y))
    p.kind q.kind (sym (item_parts i x) ∙ e ∙ item_parts j y) in
    let sizes : (length i.bytes ≡ length j.bytes) × (i.bytes ++ x ≡ j.bytes ++ y)
    = le_same (length i.bytes) (length j.bytes) (i.bytes ++ x) (j.bytes ++ y) p.counted q.counted kinds.1 in
    let both : (i.bytes ≡ j.bytes) × (x ≡ y) = same_front i.bytes j.bytes x y (sym sizes.0) sizes.1 in
    (same_item kinds.0 both.0, both.1)

one_flat : (l m : List Item) (x y : List ℕ) → length l ≡ length m → AllByRecursion IsItem l → AllByRecursion IsItem m
    → flat_map item l ++ x ≡ flat_map item m ++ y → (l ≡ m) × (x ≡ y)
one_flat [] [] x y n p q e = (refl, e)
one_flat [] (j ∷ m) x y n p q e = absurd (omega arith)
one_flat (i ∷ l) [] x y n p q e = absurd (omega arith)
one_flat (i ∷ l) (j ∷ m) x y n p q e =
    let first : (i ≡ j) × (flat_map item l ++ x ≡ flat_map item m ++ y)
    = one_item i j (flat_map item l ++ x) (flat_map item m ++ y) p.0 q.0
    (sym (append_assoc (item i) (flat_map item l) x) ∙ e ∙ append_assoc (item j) (flat_map item m) y) in
    let rest : (l ≡ m) × (x ≡ y) = one_flat l m x y (omega arith) p.1 q.1 first.1 in
    (let f : i ≡ j = first.0 in let r : l ≡ m = rest.0 in cc, rest.1)

pub one_items_lem : (l m : List Item) (x y : List ℕ) → AreItems l → AreItems m → items l ++ x ≡ items m ++ y
    → (l ≡ m) × (x ≡ y)
one_items_lem l m x y p q e =
    let counts : (length l ≡ length m) × (flat_map item l ++ x ≡ flat_map item m ++ y)
    = le_same (length l) (length m) (flat_map item l ++ x) (flat_map item m ++ y) p.count q.count e in
    one_flat l m x y counts.0 p.each q.each counts.1

-- The front of the bytes.

-- a whole item
pub item-item_at : (text : List ℕ) → AreBytes text → size_at text ≤ length text
    → item (item_at text) ++ drop (size_at text) text ≡ text
item-item_at text fits long =
    let body : length (take (number_at 2 2 text) (drop 4 text)) ≡ number_at 2 2 text
    = simp (length-take, length-drop) (omega arith) in
    let head : text ≡ cells 4 0 text ++ drop 4 text = drop-cells 4 0 text (omega arith) in
    let kind : le 2 (number_at 0 2 text) ≡ cells 2 0 text = le-number_at_2 0 text fits in
    let size : le 2 (length (take (number_at 2 2 text) (drop 4 text))) ≡ cells 2 2 text
    = ap (le 2) body ∙ le-number_at_2 2 text fits in
    let rest : take (number_at 2 2 text) (drop 4 text) ++ drop (size_at text) text ≡ drop 4 text
    = ap (λ r. take (number_at 2 2 text) (drop 4 text) ++ r) (sym (drop-drop (number_at 2 2 text) 4 text))
    ∙ take-append-drop (number_at 2 2 text) (drop 4 text) in
    item_parts (item_at text) (drop (size_at text) text)
    ∙ ap (λ k. k ++ (le 2 (length (take (number_at 2 2 text) (drop 4 text))) ++ (take (number_at 2 2 text) (drop 4 text) ++ drop (size_at text) text))) kind
    ∙ ap (λ n. cells 2 0 text ++ (n ++ (take (number_at 2 2 text) (drop 4 text) ++ drop (size_at text) text))) size
    ∙ ap (λ r. cells 4 0 text ++ r) rest ∙ sym head

pub IsItem-item_at : (text : List ℕ) → AreBytes text → IsItem (item_at text)
IsItem-item_at text fits =
    record {
      kind = number-two 0 text fits;
      counted = omega (arith, length-take (number_at 2 2 text) (drop 4 text), number-two 2 text fits);
    }

-- the bytes begin with a list of items, and this follows
pub record Front (n : ℕ) (text rest : List ℕ) : Type 0 where
  pub count : length (first_items n text) ≡ n
  pub each : AllByRecursion IsItem (first_items n text)
  pub spelled : text ≡ flat_map item (first_items n text) ++ rest

-- the bytes end within n items
pub record Within (n : ℕ) (text : List ℕ) : Type 0 where
  pub of : List Item
  pub more : List ℕ
  pub count : length of ≡ n
  pub each : AllByRecursion IsItem of
  pub some : 0 < length more
  pub spelled : text ++ more ≡ flat_map item of

abbrev pub Fronts : ℕ → List ℕ → Result (List ℕ) CpfFault → Type 0
Fronts n text (Ok rest) = Front n text rest
Fronts n text (Err Short) = Within n text
Fronts n text (Err Trailing) = ⊥
Fronts n text (Err Interface) = ⊥
Fronts n text (Err Address) = ⊥
Fronts n text (Err Data) = ⊥

pub after-short : (n : ℕ) (text : List ℕ) → length text < size_at text → after (suc n) text ≡ Err Short
after-short n text short = grind (arith, nat_tests)

pub after-long : (n : ℕ) (text : List ℕ) → size_at text ≤ length text
    → after (suc n) text ≡ after n (drop (size_at text) text)
after-long n text long = grind (arith, nat_tests)

pub first_items-long : (n : ℕ) (text : List ℕ) → size_at text ≤ length text
    → first_items (suc n) text ≡ item_at text ∷ first_items n (drop (size_at text) text)
first_items-long n text long = grind (arith, nat_tests)

pub after_step : (n i : ℕ) (text next : List ℕ) → i < n → size_at text ≤ length text → next ≡ drop (size_at text) text
    → after (n - (i + 1)) next ≡ after (n - i) text
after_step n i text next below long e =
    let less : suc (n - (i + 1)) ≡ n - i = omega arith in
    ap (after (n - (i + 1))) e ∙ sym (after-long (n - (i + 1)) text long) ∙ ap (λ k. after k text) less

-- bytes to continue with
zeros : ℕ → List ℕ
zeros zero = []
zeros (suc n) = 0 ∷ zeros n

length-zeros : (n : ℕ) → length (zeros n) ≡ n
unfolding zeros
length-zeros zero = refl
length-zeros (suc n) = ap suc (length-zeros n)

AreBytes-zeros : (n : ℕ) → AreBytes (zeros n)
unfolding zeros
AreBytes-zeros zero i = lit< tt
AreBytes-zeros (suc n) zero = lit< tt
AreBytes-zeros (suc n) (suc i) = AreBytes-zeros n i

-- items to continue with
nulls : ℕ → List Item
nulls zero = []
nulls (suc n) = record { kind = 0; bytes = [] } ∷ nulls n

length-nulls : (n : ℕ) → length (nulls n) ≡ n
unfolding nulls
length-nulls zero = refl
length-nulls (suc n) = ap suc (length-nulls n)

AreItems-nulls : (n : ℕ) → AllByRecursion IsItem (nulls n)
unfolding nulls
AreItems-nulls zero = tt
AreItems-nulls (suc n) = (record { kind = lit< tt; counted = lit< tt }, AreItems-nulls n)

-- with more bytes appended, the first bytes are the same, up to where an item ends
front_more : (text z thing rest : List ℕ) (k : ℕ) → thing ++ rest ≡ text ++ z → length thing ≡ length text + k
    → k ≤ length z → thing ≡ text ++ take k z
front_more text z thing rest k e size short =
    (same_front thing (text ++ take k z) rest (drop k z)
    (length-append text (take k z) ∙ ap (λ n. length text + n) (length-take k z ∙ omega arith) ∙ sym size)
    (e ∙ ap (λ r. text ++ r) (sym (take-append-drop k z)) ∙ sym (append_assoc text (take k z) (drop k z)))).0

cut_in : (n : ℕ) (text z : List ℕ) → AreBytes text → AreBytes z → 65539 ≤ length z → length text < size_at text
    → Within (suc n) text
cut_in n text z fits more_fits long short =
    let full_fits : AreBytes (text ++ z) = AreBytes-append text z fits more_fits in
    let whole_length : length (text ++ z) ≡ length text + length z = length-append text z in
    let bound : number_at 2 2 (text ++ z) < 2 ^ 16 = number-two 2 (text ++ z) full_fits in
    let past : length text < size_at (text ++ z)
    = elim (cases_lt (length text) 4) [
      | inl few ↦ omega arith
      | inr header ↦ omega (arith, number_at-append text z header)
    ] in
    let spelled : item (item_at (text ++ z)) ++ drop (size_at (text ++ z)) (text ++ z) ≡ text ++ z
    = item-item_at (text ++ z) full_fits (omega arith) in
    let body : length (take (number_at 2 2 (text ++ z)) (drop 4 (text ++ z))) ≡ number_at 2 2 (text ++ z)
    = simp (length-take, length-drop) (omega arith) in
    let front : item (item_at (text ++ z)) ≡ text ++ take (size_at (text ++ z) - length text) z
    = front_more text z (item (item_at (text ++ z))) (drop (size_at (text ++ z)) (text ++ z)) (size_at (text ++ z) - length text)
    spelled (omega arith) (omega arith) in
    record {
      of = item_at (text ++ z) ∷ nulls n;
      more = take (size_at (text ++ z) - length text) z ++ flat_map item (nulls n);
      count = ap suc (length-nulls n);
      each = (IsItem-item_at (text ++ z) full_fits, AreItems-nulls n);
      some = omega (
        arith,
        length-append (take (size_at (text ++ z) - length text) z) (flat_map item (nulls n)),
        length-take (size_at (text ++ z) - length text) z,
      );
      spelled = sym (append_assoc text (take (size_at (text ++ z) - length text) z) (flat_map item (nulls n)))
          ∙ ap (λ t. t ++ flat_map item (nulls n)) (sym front);
    }

cut : (n : ℕ) (text : List ℕ) → AreBytes text → length text < size_at text → Within (suc n) text
cut n text fits short =
    cut_in n text (zeros 65539) fits (AreBytes-zeros 65539) (let e : length (zeros 65539) ≡ 65539 = length-zeros 65539 in omega arith) short

further : (n : ℕ) (text : List ℕ) (r : Result (List ℕ) CpfFault) → AreBytes text → size_at text ≤ length text
    → Fronts n (drop (size_at text) text) r → Fronts (suc n) text r
further n text (Ok rest) fits long f =
    let e : first_items (suc n) text ≡ item_at text ∷ first_items n (drop (size_at text) text) = first_items-long n text long in
    record {
      count = ap length e ∙ ap suc f.count;
      each = subst (AllByRecursion IsItem) (sym e) (IsItem-item_at text fits, f.each);
      spelled = sym (item-item_at text fits long) ∙ ap (λ t. item (item_at text) ++ t) f.spelled
          ∙ sym (append_assoc (item (item_at text)) (flat_map item (first_items n (drop (size_at text) text))) rest)
          ∙ ap (λ l. flat_map item l ++ rest) (sym e);
    }
further n text (Err Short) fits long w =
    record {
      of = item_at text ∷ w.of;
      more = w.more;
      count = ap suc w.count;
      each = (IsItem-item_at text fits, w.each);
      some = w.some;
      spelled = ap (λ t. t ++ w.more) (sym (item-item_at text fits long))
          ∙ append_assoc (item (item_at text)) (drop (size_at text) text) w.more
          ∙ ap (λ t. item (item_at text) ++ t) w.spelled;
    }
further n text (Err Trailing) fits long f = f
further n text (Err Interface) fits long f = f
further n text (Err Address) fits long f = f
further n text (Err Data) fits long f = f

pub fronts : (n : ℕ) (text : List ℕ) → AreBytes text → Fronts n text (after n text)
fronts zero text fits = record { count = refl; each = tt; spelled = refl }
fronts (suc n) text fits =
    elim (cases_lt (length text) (size_at text)) [
      | inl short ↦ subst (Fronts (suc n) text) (sym (after-short n text short)) (cut n text fits short)
      | inr long ↦
          subst (Fronts (suc n) text) (sym (after-long n text long))
          (further n text (after n (drop (size_at text) text)) fits long (fronts n (drop (size_at text) text) (AreBytes-drop (size_at text) text fits)))
    ]

-- Lists of items.

-- what list these bytes spell, or why they spell none
abbrev pub Spells : List ℕ → Result (List Item) CpfFault → Type 0
Spells text (Ok l) = AreItems l × (text ≡ items l)
Spells text (Err Short) = IsShort text
Spells text (Err Trailing) = IsTrailing text
Spells text (Err Interface) = ⊥
Spells text (Err Address) = ⊥
Spells text (Err Data) = ⊥

items_of-short : (text : List ℕ) → length text < 2 → items_of text ≡ Err Short
items_of-short text short = grind (arith, nat_tests)

pub items_of-long : (text : List ℕ) → 2 ≤ length text
    → items_of text ≡ whole (first_items (number_at 0 2 text) (drop 2 text)) (after (number_at 0 2 text) (drop 2 text))
items_of-long text long = grind (arith, nat_tests)

-- the item count
le-front : (text : List ℕ) → AreBytes text → 2 ≤ length text → text ≡ le 2 (number_at 0 2 text) ++ drop 2 text
le-front text fits long =
    drop-cells 2 0 text (omega arith) ∙ ap (λ c. c ++ drop 2 text) (sym (le-number_at_2 0 text fits))

cut_count_in : (text z : List ℕ) → AreBytes text → AreBytes z → 2 ≤ length z → length text < 2 → IsShort text
cut_count_in text z fits more_fits long short =
    let full_fits : AreBytes (text ++ z) = AreBytes-append text z fits more_fits in
    let whole_length : length (text ++ z) ≡ length text + length z = length-append text z in
    let n : ℕ = number_at 0 2 (text ++ z) in
    let front : le 2 (number_at 0 2 (text ++ z)) ≡ text ++ take (2 - length text) z
    = front_more text z (le 2 (number_at 0 2 (text ++ z))) (drop 2 (text ++ z)) (2 - length text)
    (sym (le-front (text ++ z) full_fits (omega arith))) (omega arith) (omega arith) in
    record {
      of = nulls (number_at 0 2 (text ++ z));
      more = take (2 - length text) z ++ flat_map item (nulls (number_at 0 2 (text ++ z)));
      are_items = record {
        count = omega (arith, number-two 0 (text ++ z) full_fits, length-nulls (number_at 0 2 (text ++ z)));
        each = AreItems-nulls (number_at 0 2 (text ++ z));
      };
      some = omega (
        arith,
        length-append (take (2 - length text) z) (flat_map item (nulls (number_at 0 2 (text ++ z)))),
        length-take (2 - length text) z,
      );
      spelled = sym (append_assoc text (take (2 - length text) z) (flat_map item (nulls (number_at 0 2 (text ++ z)))))
          ∙ ap (λ t. t ++ flat_map item (nulls (number_at 0 2 (text ++ z)))) (sym front)
          ∙ ap (λ c. le 2 c ++ flat_map item (nulls (number_at 0 2 (text ++ z)))) (sym (length-nulls (number_at 0 2 (text ++ z))));
    }

cut_count : (text : List ℕ) → AreBytes text → length text < 2 → IsShort text
cut_count text fits short =
    cut_count_in text (zeros 2) fits (AreBytes-zeros 2) (let e : length (zeros 2) ≡ 2 = length-zeros 2 in omega arith) short

counted : (n : ℕ) (text rest : List ℕ) (r : Result (List ℕ) CpfFault) → n < 2 ^ 16 → text ≡ le 2 n ++ rest
    → Fronts n rest r → Spells text (whole (first_items n rest) r)
counted n text rest (Ok []) small e f = (
  record { count = omega (arith, f.count); each = f.each },
  e ∙ ap (λ t. le 2 n ++ t) (f.spelled ∙ append-nil (flat_map item (first_items n rest)))
      ∙ ap (λ c. le 2 c ++ flat_map item (first_items n rest)) (sym f.count),
)
counted n text rest (Ok (b ∷ more)) small e f =
    record {
      of = first_items n rest;
      more = b ∷ more;
      are_items = record { count = omega (arith, f.count); each = f.each };
      some = omega arith;
      spelled = e ∙ ap (λ t. le 2 n ++ t) f.spelled
          ∙ ap (λ c. le 2 c ++ (flat_map item (first_items n rest) ++ (b ∷ more))) (sym f.count);
    }
counted n text rest (Err Short) small e w =
    record {
      of = w.of;
      more = w.more;
      are_items = record { count = omega (arith, w.count); each = w.each };
      some = w.some;
      spelled = ap (λ t. t ++ w.more) e ∙ append_assoc (le 2 n) rest w.more ∙ ap (λ t. le 2 n ++ t) w.spelled
          ∙ ap (λ c. le 2 c ++ flat_map item w.of) (sym w.count);
    }
counted n text rest (Err Trailing) small e f = absurd f
counted n text rest (Err Interface) small e f = f
counted n text rest (Err Address) small e f = f
counted n text rest (Err Data) small e f = f

pub spells : (text : List ℕ) → AreBytes text → Spells text (items_of text)
spells text fits =
    elim (cases_lt (length text) 2) [
      | inl short ↦ subst (Spells text) (sym (items_of-short text short)) (cut_count text fits short)
      | inr long ↦
          subst (Spells text) (sym (items_of-long text long))
          (counted (number_at 0 2 text) text (drop 2 text) (after (number_at 0 2 text) (drop 2 text)) (number-two 0 text fits)
          (le-front text fits long) (fronts (number_at 0 2 text) (drop 2 text) (AreBytes-drop 2 text fits)))
    ]

-- one list is not a proper prefix of another
no_more : (l m : List Item) (x : List ℕ) → AreItems l → AreItems m → items l ++ x ≡ items m → 0 < length x → ⊥
no_more l m x p q e some =
    let none : x ≡ [] = (one_items_lem l m x [] p q (e ∙ sym (append-nil (items m)))).1 in
    omega (arith, ap length none)

list_not_short : (text : List ℕ) (l : List Item) → AreItems l → text ≡ items l → IsShort text → ⊥
list_not_short text l p e s = no_more l s.of s.more p s.are_items (ap (λ t. t ++ s.more) (sym e) ∙ s.spelled) s.some

list_not_trailing : (text : List ℕ) (l : List Item) → AreItems l → text ≡ items l → IsTrailing text → ⊥
list_not_trailing text l p e t = no_more t.of l t.more t.are_items p (sym t.spelled ∙ e) t.some

short_not_trailing : (text : List ℕ) → IsShort text → IsTrailing text → ⊥
short_not_trailing text s t =
    let some : 0 < length s.more = s.some in
    no_more t.of s.of (t.more ++ s.more) t.are_items s.are_items
    (sym (append_assoc (items t.of) t.more s.more) ∙ ap (λ x. x ++ s.more) (sym t.spelled) ∙ s.spelled)
    (omega (arith, length-append t.more s.more))

-- reading bytes has one result
pub same_outcome : (text : List ℕ) (r s : Result (List Item) CpfFault) → Spells text r → Spells text s → r ≡ s
same_outcome text (Ok l) (Ok m) p q =
    ap Ok (
    one_items_lem l m [] [] p.0 q.0
    (append-nil (items l) ∙ sym p.1 ∙ q.1 ∙ sym (append-nil (items m)))
    ).0
same_outcome text (Ok l) (Err Short) p q = absurd (list_not_short text l p.0 p.1 q)
same_outcome text (Ok l) (Err Trailing) p q = absurd (list_not_trailing text l p.0 p.1 q)
same_outcome text (Ok l) (Err Interface) p q = absurd q
same_outcome text (Ok l) (Err Address) p q = absurd q
same_outcome text (Ok l) (Err Data) p q = absurd q
same_outcome text (Err Short) (Ok m) p q = absurd (list_not_short text m q.0 q.1 p)
same_outcome text (Err Short) (Err Short) p q = refl
same_outcome text (Err Short) (Err Trailing) p q = absurd (short_not_trailing text p q)
same_outcome text (Err Short) (Err Interface) p q = absurd q
same_outcome text (Err Short) (Err Address) p q = absurd q
same_outcome text (Err Short) (Err Data) p q = absurd q
same_outcome text (Err Trailing) (Ok m) p q = absurd (list_not_trailing text m q.0 q.1 p)
same_outcome text (Err Trailing) (Err Short) p q = absurd (short_not_trailing text q p)
same_outcome text (Err Trailing) (Err Trailing) p q = refl
same_outcome text (Err Trailing) (Err Interface) p q = absurd q
same_outcome text (Err Trailing) (Err Address) p q = absurd q
same_outcome text (Err Trailing) (Err Data) p q = absurd q
same_outcome text (Err Interface) s p q = absurd p
same_outcome text (Err Address) s p q = absurd p
same_outcome text (Err Data) s p q = absurd p

-- what is spelled is read
pub items_of-spells : (text : List ℕ) (r : Result (List Item) CpfFault) → AreBytes text → Spells text r → items_of text ≡ r
items_of-spells text r fits p = same_outcome text (items_of text) r (spells text fits) p

pub items_iff : (text : List ℕ) (found r : Result (List Item) CpfFault) → AreBytes text → found ≡ items_of text
    → (found ≡ r) ↔ Spells text r
items_iff text found r fits e = (
  λ is. subst (Spells text) (sym e ∙ is) (spells text fits),
  λ p. e ∙ items_of-spells text r fits p,
)
