-- Bodies and their faults.
use Rattle.std.specs.Prelude.{◌↔◌}
use Rattle.std.proofs.Common.{eqb, Bool, true, false, ◌≡◌, ◌≢◌, ℕ, ◌<◌, ◌≤◌, ◌⊎◌, inl, inr, List, [], ◌∷◌, ◌++◌, length, take, drop, Result, Ok, Err, refl, sym, ap, subst, ◌∙◌, arith, append-nil}
use Rattle.std.proofs.lemmas.List.{take_at, drop_all}
use Rattle.std.proofs.lemmas.Bool.{cases_lt}
use Rattle.std.proofs.lemmas.Bool.Decides.{nat_tests}
use Rattle.std.specs.List.{flat_map}
use Rattle.enip_wire.specs.declared.item_list.CpfFault.{CpfFault}
use Rattle.enip_wire.specs.declared.item_list.CpfFault.TheVariants.{Short, Trailing, Interface, Address, Data}
use Rattle.cip_bytes.specs.Numbers.{le, number_at, AreBytes}
use Rattle.cip_bytes.specs.Reading.{◌>>=◌, map_ok}
use Rattle.enip_wire.specs.Items.{Item, item, items, IsShort, IsTrailing, items_of}
use Rattle.enip_wire.specs.Bodies.{null_address, connected_address, unconnected_data, connected_data, BeginsBody, IsBody, IsRrBody, IsUnitBody, IsBodyFault, IsNullAddress, IsConnectedAddress, body_items_of, data_of, rr_items_of, with_id, unit_items_of, rr_body_of, unit_body_of}
use Rattle.cip_bytes.proofs.Bytes.{AreBytes-drop, AreBytes-take, cells, drop-cells, le-number_at_2, le-number_at_4, of_four}
use Rattle.enip_wire.proofs.FrameLemmas.{number-two, number-four}
use Rattle.enip_wire.proofs.ItemLemmas.{Spells, spells, items_of-spells, same_item}

-- which way a test went
chosen : (b : Bool) → (b ≡ true) ⊎ (b ≡ false)
chosen true = inl refl
chosen false = inr refl

body_items-short : (text : List ℕ) → length text < 6 → body_items_of text ≡ Err Short
body_items-short text short = grind (arith, nat_tests)

body_items-interface : (text : List ℕ) → 6 ≤ length text → number_at 0 4 text ≢ 0 → body_items_of text ≡ Err Interface
body_items-interface text long other = grind (arith, nat_tests)

body_items-zero : (text : List ℕ) → 6 ≤ length text → number_at 0 4 text ≡ 0 → body_items_of text ≡ items_of (drop 6 text)
body_items-zero text long none = grind (arith, nat_tests)

-- bytes with interface 0 begin a body
pub begins_body-zero : (text : List ℕ) → AreBytes text → 6 ≤ length text → number_at 0 4 text ≡ 0 → BeginsBody text (drop 6 text)
begins_body-zero text fits long e =
    record {
      timeout = number_at 4 2 text;
      two_bytes = number-two 4 text fits;
      spelled = drop-cells 6 0 text (omega arith)
          ∙ ap (λ c. c ++ (cells 2 4 text ++ drop 6 text)) (sym (le-number_at_4 0 text fits) ∙ ap (le 4) e)
          ∙ ap (λ c. le 4 0 ++ (c ++ drop 6 text)) (sym (le-number_at_2 4 text fits));
    }

pub body_items-begins_body : (text rest : List ℕ) → BeginsBody text rest → body_items_of text ≡ items_of rest
body_items-begins_body text rest o =
    ap body_items_of o.spelled
    ∙ body_items-zero (le 4 0 ++ le 2 o.timeout ++ rest) (omega arith) refl

AreBytes-begins_body : (text rest : List ℕ) → BeginsBody text rest → AreBytes text → AreBytes rest
AreBytes-begins_body text rest o fits = subst AreBytes (ap (drop 6) o.spelled) (AreBytes-drop 6 text fits)

body_items-body : (text : List ℕ) (l : List Item) → AreBytes text → IsBody text l → body_items_of text ≡ Ok l
body_items-body text l fits b =
    body_items-begins_body text (items l) b.begins_body
    ∙ items_of-spells (items l) (Ok l) (AreBytes-begins_body text (items l) b.begins_body fits) (b.are_items, refl)

-- what body these bytes are, or why they are not a body
abbrev pub Bodies : List ℕ → Result (List Item) CpfFault → Type 0
Bodies text (Ok l) = IsBody text l
Bodies text (Err Short) = (length text < 6) ⊎ ((rest : List ℕ) × BeginsBody text rest × IsShort rest)
Bodies text (Err Trailing) = (rest : List ℕ) × BeginsBody text rest × IsTrailing rest
Bodies text (Err Interface) = (6 ≤ length text) × (number_at 0 4 text ≢ 0)
Bodies text (Err Address) = ⊥
Bodies text (Err Data) = ⊥

opened : (text rest : List ℕ) (r : Result (List Item) CpfFault) → BeginsBody text rest → Spells rest r → Bodies text r
opened text rest (Ok l) o p =
    record {
      are_items = p.0;
      begins_body = record { timeout = o.timeout; two_bytes = o.two_bytes; spelled = o.spelled ∙ ap (λ r. le 4 0 ++ le 2 o.timeout ++ r) p.1 };
    }
opened text rest (Err Short) o p = inr (rest, o, p)
opened text rest (Err Trailing) o p = (rest, o, p)
opened text rest (Err Interface) o p = absurd p
opened text rest (Err Address) o p = p
opened text rest (Err Data) o p = p

bodies_long : (text : List ℕ) → AreBytes text → 6 ≤ length text → Bodies text (body_items_of text)
bodies_long text fits long =
    elim (cases_lt 0 (number_at 0 4 text)) [
      | inl other ↦
          let differs : number_at 0 4 text ≢ 0 = omega arith in
          subst (Bodies text) (sym (body_items-interface text long differs)) (long, differs)
      | inr least ↦
          let none : number_at 0 4 text ≡ 0 = omega arith in
          subst (Bodies text) (sym (body_items-zero text long none))
          (opened text (drop 6 text) (items_of (drop 6 text)) (begins_body-zero text fits long none) (spells (drop 6 text) (AreBytes-drop 6 text fits)))
    ]

bodies : (text : List ℕ) → AreBytes text → Bodies text (body_items_of text)
bodies text fits =
    elim (cases_lt (length text) 6) [
      | inl short ↦ subst (Bodies text) (sym (body_items-short text short)) (inl short)
      | inr long ↦ bodies_long text fits long
    ]

-- SendRRData

data_of-kind : (kind : ℕ) (d : Item) (l : List Item) → d.kind ≡ kind → data_of kind (d ∷ l) ≡ Ok d.bytes
data_of-kind kind d l e = grind (arith, nat_tests)

data_of-other : (kind : ℕ) (d : Item) (l : List Item) → d.kind ≢ kind → data_of kind (d ∷ l) ≡ Err Data
data_of-other kind d l e = grind (arith, nat_tests)

rr_items-address : (a : Item) (l : List Item) → a.kind ≡ 0 → length a.bytes ≡ 0 → rr_items_of (a ∷ l) ≡ data_of 0xb2 l
rr_items-address a l k n = grind (arith, nat_tests)

rr_items-other : (a : Item) (l : List Item) → (a.kind ≢ 0) ⊎ (length a.bytes ≢ 0) → rr_items_of (a ∷ l) ≡ Err Address
rr_items-other a l (inl k) = grind (arith, nat_tests)
rr_items-other a l (inr n) = grind (arith, nat_tests)

no_bytes : (xs : List ℕ) → length xs ≡ 0 → xs ≡ []
no_bytes [] e = refl
no_bytes (x ∷ xs) e = absurd (omega arith)

is_null : (a : Item) → a.kind ≡ 0 → length a.bytes ≡ 0 → a ≡ null_address
is_null a k n = same_item k (no_bytes a.bytes n)

-- the second item is not of that type
data_of-none : (kind : ℕ) (l : List Item)
    → ((d : Item) (further : List Item) → l ≡ d ∷ further → d.kind ≡ kind → ⊥) → data_of kind l ≡ Err Data
data_of-none kind [] none = refl
data_of-none kind (d ∷ l) none = data_of-other kind d l (none d l refl)

-- the first item is not a null address
rr_items-none : (l : List Item) → ((a : Item) (others : List Item) → l ≡ a ∷ others → IsNullAddress a → ⊥)
    → rr_items_of l ≡ Err Address
rr_items-none [] none = refl
rr_items-none (a ∷ l) absent =
    elim (cases_lt 0 a.kind) [
      | inl other ↦ rr_items-other a l (inl (λ e. omega arith))
      | inr none ↦ elim (cases_lt 0 (length a.bytes)) [
        | inl some ↦ rr_items-other a l (inr (λ e. omega arith))
        | inr empty ↦ absurd (absent a l refl (is_null a (omega arith) (omega arith)))
      ]
    ]

-- what SendRRData these bytes are, or why they are not one
abbrev pub RrSpells : List ℕ → Result (List ℕ) CpfFault → Type 0
RrSpells text (Ok bytes) = IsRrBody text bytes
RrSpells text (Err fault) = IsBodyFault IsNullAddress 0xb2 text fault

same_body : {text : List ℕ} {l m : List Item} → l ≡ m → IsBody text l → IsBody text m
same_body {text} e b = subst (IsBody text) e b

rr_second : (text : List ℕ) (a : Item) (l : List Item) → a ≡ null_address → IsBody text (a ∷ l) → RrSpells text (data_of 0xb2 l)
rr_second text a [] e b = (a, [], e, b, λ d further wrong _. cc)
rr_second text a (d ∷ l) e b =
    elim (chosen (eqb d.kind 0xb2)) [
      | inl is ↦
          let kind : d.kind ≡ 0xb2 = grind (arith, nat_tests) in
          subst (RrSpells text) (sym (data_of-kind 0xb2 d l kind))
          (record { further = l; body = same_body (let k : d ≡ unconnected_data d.bytes = same_item kind refl in cc) b })
      | inr other ↦
          let kind : d.kind ≢ 0xb2 = grind (arith, nat_tests) in
          subst (RrSpells text) (sym (data_of-other 0xb2 d l kind))
          (a, d ∷ l, e, b, λ x further same wrong. kind (let k : d ≡ x = cc in ap (λ i. i.kind) k ∙ wrong))
    ]

rr_not_null : (text : List ℕ) (a : Item) (l : List Item) → (a.kind ≢ 0) ⊎ (length a.bytes ≢ 0) → IsBody text (a ∷ l)
    → RrSpells text (rr_items_of (a ∷ l))
rr_not_null text a l other b =
    subst (RrSpells text) (sym (rr_items-other a l other)) (
      a ∷ l,
      b,
      λ x others same null.
          let whole : a ≡ null_address = cc in
          elim other [
            | inl kind ↦ kind (ap (λ i. i.kind) whole)
            | inr some ↦ some (ap (λ i. length i.bytes) whole)
          ],
    )

rr_first : (text : List ℕ) (l : List Item) → IsBody text l → RrSpells text (rr_items_of l)
rr_first text [] b = ([], b, λ a others wrong _. cc)
rr_first text (a ∷ l) b =
    elim (cases_lt 0 a.kind) [
      | inl other ↦ rr_not_null text a l (inl (λ e. omega arith)) b
      | inr none ↦ elim (cases_lt 0 (length a.bytes)) [
        | inl some ↦ rr_not_null text a l (inr (λ e. omega arith)) b
        | inr empty ↦
            subst (RrSpells text) (sym (rr_items-address a l (omega arith) (omega arith)))
            (rr_second text a l (is_null a (omega arith) (omega arith)) b)
      ]
    ]

rr_handed : (text : List ℕ) (r : Result (List Item) CpfFault) → Bodies text r → RrSpells text (r >>= rr_items_of)
rr_handed text (Ok l) b = rr_first text l b
rr_handed text (Err Short) p = p
rr_handed text (Err Trailing) p = p
rr_handed text (Err Interface) p = p
rr_handed text (Err Address) p = absurd p
rr_handed text (Err Data) p = absurd p

pub rr_spells : (text : List ℕ) → AreBytes text → RrSpells text (rr_body_of text)
unfolding rr_body_of
rr_spells text fits = rr_handed text (body_items_of text) (bodies text fits)

-- what is spelled is read
pub rr_body_of-spells : (text : List ℕ) (r : Result (List ℕ) CpfFault) → AreBytes text → RrSpells text r → rr_body_of text ≡ r
unfolding rr_body_of
rr_body_of-spells text (Ok bytes) fits p =
    ap (λ r. r >>= rr_items_of)
    (body_items-body text (null_address ∷ unconnected_data bytes ∷ p.further) fits p.body)
rr_body_of-spells text (Err Short) fits (inl short) = ap (λ r. r >>= rr_items_of) (body_items-short text short)
rr_body_of-spells text (Err Short) fits (inr p) =
    ap (λ r. r >>= rr_items_of)
    (body_items-begins_body text p.0 p.1 ∙ items_of-spells p.0 (Err Short) (AreBytes-begins_body text p.0 p.1 fits) p.2)
rr_body_of-spells text (Err Trailing) fits p =
    ap (λ r. r >>= rr_items_of)
    (body_items-begins_body text p.0 p.1 ∙ items_of-spells p.0 (Err Trailing) (AreBytes-begins_body text p.0 p.1 fits) p.2)
rr_body_of-spells text (Err Interface) fits p = ap (λ r. r >>= rr_items_of) (body_items-interface text p.0 p.1)
rr_body_of-spells text (Err Address) fits p =
    ap (λ r. r >>= rr_items_of) (body_items-body text p.0 fits p.1) ∙ rr_items-none p.0 p.2
rr_body_of-spells text (Err Data) fits p =
    ap (λ r. r >>= rr_items_of) (body_items-body text (p.0 ∷ p.1) fits p.3)
    ∙ rr_items-address p.0 p.1 (ap (λ i. i.kind) p.2) (ap (λ i. length i.bytes) p.2) ∙ data_of-none 0xb2 p.1 p.4

pub rr_iff : (text : List ℕ) (found r : Result (List ℕ) CpfFault) → AreBytes text → found ≡ rr_body_of text
    → (found ≡ r) ↔ RrSpells text r
rr_iff text found r fits e = (
  λ is. subst (RrSpells text) (sym e ∙ is) (rr_spells text fits),
  λ p. e ∙ rr_body_of-spells text r fits p,
)

-- SendUnitData

unit_items-address : (a : Item) (l : List Item) → a.kind ≡ 0xa1 → length a.bytes ≡ 4
    → unit_items_of (a ∷ l) ≡ map_ok (with_id (number_at 0 4 a.bytes)) (data_of 0xb1 l)
unit_items-address a l k n = grind (arith, nat_tests)

unit_items-other : (a : Item) (l : List Item) → (a.kind ≢ 0xa1) ⊎ (length a.bytes ≢ 4) → unit_items_of (a ∷ l) ≡ Err Address
unit_items-other a l (inl k) = grind (arith, nat_tests)
unit_items-other a l (inr n) = grind (arith, nat_tests)

-- a number is another or not
same_or_not : (m n : ℕ) → (m ≡ n) ⊎ (m ≢ n)
same_or_not m n =
    elim (cases_lt m n) [
      | inl below ↦ inr (λ e. omega arith)
      | inr from ↦ elim (cases_lt n m) [
        | inl above ↦ inr (λ e. omega arith)
        | inr to ↦ inl (omega arith)
      ]
    ]

-- the first item is not a connected address
unit_items-none : (l : List Item) → ((a : Item) (others : List Item) → l ≡ a ∷ others → IsConnectedAddress a → ⊥)
    → unit_items_of l ≡ Err Address
unit_items-none [] absent = refl
unit_items-none (a ∷ l) absent =
    elim (same_or_not a.kind 0xa1) [
      | inr other ↦ unit_items-other a l (inl other)
      | inl kind ↦ elim (same_or_not (length a.bytes) 4) [
        | inr other ↦ unit_items-other a l (inr other)
        | inl size ↦ absurd (absent a l refl (kind, size))
      ]
    ]

-- the data of the first item are bytes of the body
AreBytes-first : (text : List ℕ) (a : Item) (l : List Item) → IsBody text (a ∷ l) → AreBytes text → AreBytes a.bytes
AreBytes-first text a l b fits =
    let rest : drop 12 text ≡ a.bytes ++ flat_map item l = ap (drop 12) b.begins_body.spelled in
    subst AreBytes (ap (take (length a.bytes)) rest ∙ take_at a.bytes (flat_map item l) (length a.bytes) refl)
    (AreBytes-take (length a.bytes) (drop 12 text) (AreBytes-drop 12 text fits))

four_cells : (xs : List ℕ) → length xs ≡ 4 → AreBytes xs → xs ≡ le 4 (number_at 0 4 xs)
four_cells xs n fits =
    drop-cells 4 0 xs (omega arith) ∙ ap (λ r. cells 4 0 xs ++ r) (drop_all 4 xs (omega arith))
    ∙ append-nil (cells 4 0 xs) ∙ sym (le-number_at_4 0 xs fits)

is_connected : (a : Item) → IsConnectedAddress a → AreBytes a.bytes → a ≡ connected_address (number_at 0 4 a.bytes)
is_connected a c fits = same_item c.0 (four_cells a.bytes c.1 fits)

-- what SendUnitData these bytes are, or why they are not one
abbrev pub UnitSpells : List ℕ → Result (ℕ × List ℕ) CpfFault → Type 0
UnitSpells text (Ok x) = IsUnitBody text x.0 x.1
UnitSpells text (Err fault) = IsBodyFault IsConnectedAddress 0xb1 text fault

with_data : {r s : Result (List ℕ) CpfFault} (id : ℕ) → r ≡ s → map_ok (with_id id) r ≡ map_ok (with_id id) s
with_data id e = ap (map_ok (with_id id)) e

unit_second : (text : List ℕ) (a : Item) (l : List Item) → IsConnectedAddress a → AreBytes text → IsBody text (a ∷ l)
    → UnitSpells text (map_ok (with_id (number_at 0 4 a.bytes)) (data_of 0xb1 l))
unit_second text a [] c fits b = (a, [], c, b, λ d further wrong _. cc)
unit_second text a (d ∷ l) c fits b =
    elim (same_or_not d.kind 0xb1) [
      | inl kind ↦
          subst (UnitSpells text) (sym (with_data (number_at 0 4 a.bytes) (data_of-kind 0xb1 d l kind)))
          (
          record {
            four_bytes = number-four 0 a.bytes (AreBytes-first text a (d ∷ l) b fits);
            further = l;
            body = same_body (
                let k : d ≡ connected_data d.bytes = same_item kind refl in
                let h : a ≡ connected_address (number_at 0 4 a.bytes) = is_connected a c (AreBytes-first text a (d ∷ l) b fits) in
                cc
                ) b;
          }
          )
      | inr other ↦
          subst (UnitSpells text) (sym (with_data (number_at 0 4 a.bytes) (data_of-other 0xb1 d l other)))
          (a, d ∷ l, c, b, λ x further same wrong. other (let k : d ≡ x = cc in ap (λ i. i.kind) k ∙ wrong))
    ]

unit_not_connected : (text : List ℕ) (a : Item) (l : List Item) → (a.kind ≢ 0xa1) ⊎ (length a.bytes ≢ 4) → IsBody text (a ∷ l)
    → UnitSpells text (unit_items_of (a ∷ l))
unit_not_connected text a l other b =
    subst (UnitSpells text) (sym (unit_items-other a l other)) (
      a ∷ l,
      b,
      λ x others same c.
          let first : a ≡ x = cc in
          elim other [
            | inl kind ↦ kind (ap (λ i. i.kind) first ∙ c.0)
            | inr some ↦ some (ap (λ i. length i.bytes) first ∙ c.1)
          ],
    )

unit_first : (text : List ℕ) (l : List Item) → AreBytes text → IsBody text l → UnitSpells text (unit_items_of l)
unit_first text [] fits b = ([], b, λ a others wrong _. cc)
unit_first text (a ∷ l) fits b =
    elim (same_or_not a.kind 0xa1) [
      | inr other ↦ unit_not_connected text a l (inl other) b
      | inl kind ↦ elim (same_or_not (length a.bytes) 4) [
        | inr other ↦ unit_not_connected text a l (inr other) b
        | inl size ↦
            subst (UnitSpells text) (sym (unit_items-address a l kind size)) (unit_second text a l (kind, size) fits b)
      ]
    ]

unit_handed : (text : List ℕ) (r : Result (List Item) CpfFault) → AreBytes text → Bodies text r
    → UnitSpells text (r >>= unit_items_of)
unit_handed text (Ok l) fits b = unit_first text l fits b
unit_handed text (Err Short) fits p = p
unit_handed text (Err Trailing) fits p = p
unit_handed text (Err Interface) fits p = p
unit_handed text (Err Address) fits p = absurd p
unit_handed text (Err Data) fits p = absurd p

pub unit_spells : (text : List ℕ) → AreBytes text → UnitSpells text (unit_body_of text)
unfolding unit_body_of
unit_spells text fits = unit_handed text (body_items_of text) fits (bodies text fits)

-- what is spelled is read
pub unit_body_of-spells : (text : List ℕ) (r : Result (ℕ × List ℕ) CpfFault) → AreBytes text → UnitSpells text r
    → unit_body_of text ≡ r
unfolding unit_body_of
unit_body_of-spells text (Ok x) fits p =
    ap (λ r. r >>= unit_items_of)
    (body_items-body text (connected_address x.0 ∷ connected_data x.1 ∷ p.further) fits p.body)
    ∙ ap (λ id. Ok (with_id id x.1)) (of_four x.0 p.four_bytes)
unit_body_of-spells text (Err Short) fits (inl short) = ap (λ r. r >>= unit_items_of) (body_items-short text short)
unit_body_of-spells text (Err Short) fits (inr p) =
    ap (λ r. r >>= unit_items_of)
    (body_items-begins_body text p.0 p.1 ∙ items_of-spells p.0 (Err Short) (AreBytes-begins_body text p.0 p.1 fits) p.2)
unit_body_of-spells text (Err Trailing) fits p =
    ap (λ r. r >>= unit_items_of)
    (body_items-begins_body text p.0 p.1 ∙ items_of-spells p.0 (Err Trailing) (AreBytes-begins_body text p.0 p.1 fits) p.2)
unit_body_of-spells text (Err Interface) fits p = ap (λ r. r >>= unit_items_of) (body_items-interface text p.0 p.1)
unit_body_of-spells text (Err Address) fits p =
    ap (λ r. r >>= unit_items_of) (body_items-body text p.0 fits p.1) ∙ unit_items-none p.0 p.2
unit_body_of-spells text (Err Data) fits p =
    ap (λ r. r >>= unit_items_of) (body_items-body text (p.0 ∷ p.1) fits p.3)
    ∙ unit_items-address p.0 p.1 p.2.0 p.2.1 ∙ with_data (number_at 0 4 p.0.bytes) (data_of-none 0xb1 p.1 p.4)

pub unit_iff : (text : List ℕ) (found r : Result (ℕ × List ℕ) CpfFault) → AreBytes text → found ≡ unit_body_of text
    → (found ≡ r) ↔ UnitSpells text r
unit_iff text found r fits e = (
  λ is. subst (UnitSpells text) (sym e ∙ is) (unit_spells text fits),
  λ p. e ∙ unit_body_of-spells text r fits p,
)
