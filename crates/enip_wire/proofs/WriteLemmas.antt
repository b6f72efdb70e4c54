-- What is written, and that it is read again.
use Rattle.std.proofs.Common.{◌≡◌, ℕ, zero, suc, ◌+◌, ◌-◌, ◌^◌, ◌<◌, ◌≤◌, List, [], ◌∷◌, ◌++◌, length, take, drop, map, get_or, Ok, refl, sym, ap, ◌∙◌, arith, append_assoc, append-nil, length-append, lit<}
use Rattle.std.specs.List.{flat_map, AllByRecursion}
use Rattle.std.proofs.lemmas.List.{take_at, drop_at}
use Rattle.std.proofs.lemmas.List.Folds.{flat_map-map, length-flat_map-take}
use Rattle.enip_wire.specs.declared.item_list.ItemView.{ItemView}
use Rattle.cip_bytes.specs.Numbers.{le, number_at}
use Rattle.cip_bytes.specs.Reading.{◌>>=◌}
use Rattle.enip_wire.specs.Items.{Item, item, items, item_of, IsItem, AreItems, item_at, size_at, first_items, after, whole, items_of}
use Rattle.enip_wire.specs.Bodies.{null_address, connected_address, unconnected_data, connected_data, IsBody, IsRrBody, IsUnitBody, rr_body_bytes, unit_body_bytes, rr_items_of, unit_items_of, with_id, rr_body_of, unit_body_of}
use Rattle.cip_bytes.proofs.Bytes.{of_two, of_four}
use Rattle.enip_wire.proofs.ItemLemmas.{same_item, after-long, first_items-long, items_of-long}
use Rattle.enip_wire.proofs.BodyLemmas.{body_items-begins_body}

-- the bytes of items, one after another
abbrev pub texts : List ItemView → List ℕ
texts views = flat_map item (map item_of views)

pub length-texts : (views : List ItemView) (k : ℕ) (d : ItemView) → k < length views
    → length (texts (take k views)) + (4 + length (get_or views k d).bytes.now) ≤ length (texts views)
length-texts views k d h =
    let all : length (texts views) ≡ length (flat_map (λ v. item (item_of v)) views)
    = ap length (flat_map-map item item_of views) in
    let front : length (texts (take k views)) ≡ length (flat_map (λ v. item (item_of v)) (take k views))
    = ap length (flat_map-map item item_of (take k views)) in
    omega (arith, length-flat_map-take (λ v. item (item_of v)) views k d h)

-- bytes whose front was written first
pub joined : (old front bytes mid new text : List ℕ) → mid ≡ old ++ front → new ≡ mid ++ bytes → text ≡ front ++ bytes
    → new ≡ old ++ text
joined old front bytes mid new text e f g =
    f ∙ ap (λ xs. xs ++ bytes) e ∙ append_assoc old front bytes ∙ ap (λ xs. old ++ xs) (sym g)

-- the next item fits
pub room_for : (old out : List ℕ) (views : List ItemView) (k : ℕ) (d : ItemView) (spare cap : ℕ)
    → out ≡ (old ++ le 2 (length views)) ++ texts (take k views) → k < length views
    → length (texts views) ≤ spare - 2 → 2 ≤ spare → spare + length old ≡ cap
    → length out + 4 + length (get_or views k d).bytes.now ≤ cap
room_for old out views k d spare cap e below fits least sum =
    let whole : length out ≡ length old + 2 + length (texts (take k views))
    = ap length e ∙ length-append (old ++ le 2 (length views)) (texts (take k views))
    ∙ ap (λ n. n + length (texts (take k views))) (length-append old (le 2 (length views))) in
    omega (arith, length-texts views k d below)

pub counted_at : (views : List ItemView) (k : ℕ) (d : ItemView) → k < length views → AllByRecursion IsItem (map item_of views)
    → length (get_or views k d).bytes.now < 2 ^ 16
counted_at [] k d below each = absurd (omega arith)
counted_at (v ∷ views) zero d below each = each.0.counted
counted_at (v ∷ views) (suc k) d below each = counted_at views k d (omega arith) each.1

-- What is spelled is read, even if its data are any numbers.

at_item : (i : Item) (rest : List ℕ) → IsItem i
    → (number_at 2 2 (item i ++ rest) ≡ length i.bytes) × (item_at (item i ++ rest) ≡ i) × (drop (size_at (item i ++ rest)) (item i ++ rest) ≡ rest)
at_item i rest p =
    let size : number_at 2 2 (item i ++ rest) ≡ length i.bytes = of_two (length i.bytes) p.counted in (
      size,
      same_item (of_two i.kind p.kind)
          (ap (λ n. take n (i.bytes ++ rest)) size ∙ take_at i.bytes rest (length i.bytes) refl),
      ap (λ n. drop (4 + n) (item i ++ rest)) size ∙ drop_at (item i) rest (4 + length i.bytes) (omega arith),
    )

long_item : (i : Item) (rest : List ℕ) → IsItem i → size_at (item i ++ rest) ≤ length (item i ++ rest)
long_item i rest p =
    let size : number_at 2 2 (item i ++ rest) ≡ length i.bytes = (at_item i rest p).0 in
    omega (arith, length-append (item i) rest)

after-flat : (l : List Item) (rest : List ℕ) → AllByRecursion IsItem l → after (length l) (flat_map item l ++ rest) ≡ Ok rest
after-flat [] rest each = refl
after-flat (i ∷ l) rest each =
    ap (after (suc (length l))) (append_assoc (item i) (flat_map item l) rest)
    ∙ after-long (length l) (item i ++ (flat_map item l ++ rest)) (long_item i (flat_map item l ++ rest) each.0)
    ∙ ap (after (length l)) (at_item i (flat_map item l ++ rest) each.0).2 ∙ after-flat l rest each.1

first_items-flat : (l : List Item) (rest : List ℕ) → AllByRecursion IsItem l → first_items (length l) (flat_map item l ++ rest) ≡ l
first_items-flat [] rest each = refl
first_items-flat (i ∷ l) rest each =
    let first : item_at (item i ++ (flat_map item l ++ rest)) ≡ i = (at_item i (flat_map item l ++ rest) each.0).1 in
    let others : first_items (length l) (drop (size_at (item i ++ (flat_map item l ++ rest))) (item i ++ (flat_map item l ++ rest))) ≡ l
    = ap (first_items (length l)) (at_item i (flat_map item l ++ rest) each.0).2 ∙ first_items-flat l rest each.1 in
    ap (first_items (suc (length l))) (append_assoc (item i) (flat_map item l) rest)
    ∙ first_items-long (length l) (item i ++ (flat_map item l ++ rest)) (long_item i (flat_map item l ++ rest) each.0)
    ∙ cc

pub items_again : (l : List Item) → AreItems l → items_of (items l) ≡ Ok l
items_again l p =
    let count : number_at 0 2 (items l) ≡ length l = of_two (length l) p.count in
    items_of-long (items l) (omega arith)
    ∙ ap (λ n. whole (first_items n (flat_map item l)) (after n (flat_map item l))) count
    ∙ ap (λ t. whole (first_items (length l) t) (after (length l) t)) (sym (append-nil (flat_map item l)))
    ∙ ap (λ r. whole (first_items (length l) (flat_map item l ++ [])) r) (after-flat l [] p.each)
    ∙ ap Ok (first_items-flat l [] p.each)

rr_is_body : (bytes : List ℕ) → length bytes < 2 ^ 16 → IsBody (rr_body_bytes bytes) (null_address ∷ unconnected_data bytes ∷ [])
rr_is_body bytes small =
    record {
      are_items = record {
        count = lit< tt;
        each = (record { kind = lit< tt; counted = lit< tt }, (record { kind = lit< tt; counted = small }, tt));
      };
      begins_body = record { timeout = 0; two_bytes = lit< tt; spelled = refl };
    }

pub rr_spelled : (bytes : List ℕ) → length bytes < 2 ^ 16 → IsRrBody (rr_body_bytes bytes) bytes
rr_spelled bytes small = record { further = []; body = rr_is_body bytes small }

unit_is_body : (id : ℕ) (bytes : List ℕ) → length bytes < 2 ^ 16
    → IsBody (unit_body_bytes id bytes) (connected_address id ∷ connected_data bytes ∷ [])
unit_is_body id bytes small =
    record {
      are_items = record {
        count = lit< tt;
        each = (record { kind = lit< tt; counted = lit< tt }, (record { kind = lit< tt; counted = small }, tt));
      };
      begins_body = record { timeout = 0; two_bytes = lit< tt; spelled = refl };
    }

pub unit_spelled : (id : ℕ) (bytes : List ℕ) → id < 2 ^ 32 → length bytes < 2 ^ 16 → IsUnitBody (unit_body_bytes id bytes) id bytes
unit_spelled id bytes four small = record { four_bytes = four; further = []; body = unit_is_body id bytes small }

pub rr_again : (bytes : List ℕ) → length bytes < 2 ^ 16 → rr_body_of (rr_body_bytes bytes) ≡ Ok bytes
unfolding rr_body_of
rr_again bytes small =
    ap (λ r. r >>= rr_items_of)
    (
    body_items-begins_body (rr_body_bytes bytes) (items (null_address ∷ unconnected_data bytes ∷ [])) (rr_is_body bytes small).begins_body
    ∙ items_again (null_address ∷ unconnected_data bytes ∷ []) (rr_is_body bytes small).are_items
    )

pub unit_again : (id : ℕ) (bytes : List ℕ) → id < 2 ^ 32 → length bytes < 2 ^ 16 → unit_body_of (unit_body_bytes id bytes) ≡ Ok (id, bytes)
unfolding unit_body_of
unit_again id bytes four small =
    ap (λ r. r >>= unit_items_of)
    (
    body_items-begins_body (unit_body_bytes id bytes) (items (connected_address id ∷ connected_data bytes ∷ [])) (unit_is_body id bytes small).begins_body
    ∙ items_again (connected_address id ∷ connected_data bytes ∷ []) (unit_is_body id bytes small).are_items
    )
    ∙ ap (λ n. Ok (with_id n bytes)) (of_four id four)
