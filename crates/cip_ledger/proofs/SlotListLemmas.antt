-- The list of the slots that are taken.
use Rattle.std.proofs.Common.{◌≡◌, ℕ, zero, suc, ◌+◌, ◌-◌, ◌≤◌, ◌<◌, nat_lt, Bool, true, false, if◌then◌else◌, Option, Some, None, List, [], ◌∷◌, ◌++◌, length, drop, refl, sym, ap, ◌∙◌, append_assoc, arith}
use Rattle.std.specs.Prelude.{slice_get}
use Rattle.std.proofs.lemmas.Bool.{ltb-true, ltb-false}
use Rattle.std.proofs.lemmas.List.{length-append}
use Rattle.cip_bytes.specs.Numbers.{le}
use Rattle.cip_ledger.specs.Ledger.{SlotState}
use Rattle.cip_ledger.specs.Services.{last_content, state_content, HEAD_SIZE}
use Rattle.cip_ledger.specs.SlotList.{ENTRY_SIZE, state_byte, entry, entries_within, slot_list}

-- the state byte is the first one of what Get_Last says of a command
pub state_first : (slot : SlotState) (state : ℕ) (kept : List ℕ) → state ∷ kept ≡ last_content slot
    → state ≡ state_byte slot.reply slot.ticket
state_first slot state kept e = go slot.reply slot.ticket e
  where
    go : (reply : Option (List ℕ)) (ticket : Option ℕ)
        → state ∷ kept ≡ state_content reply ticket → state ≡ state_byte reply ticket
    go (Some reply) None e = cc
    go (Some reply) (Some ticket) e = cc
    go None (Some ticket) e = cc
    go None None e = cc

-- ---- one slot after another

none-some : {X : Type 0} (x : X) → ◌≡◌ {A = Option X} None (Some x) → ⊥
none-some x e = absurd (cc)

same_Some : {X : Type 0} (x y : X) → ◌≡◌ {A = Option X} (Some x) (Some y) → x ≡ y
same_Some x y e = cc

drop-at : {X : Type 0} (xs : List X) (index : ℕ) (x : X) → slice_get xs index ≡ Some x
    → drop index xs ≡ x ∷ drop (index + 1) xs
drop-at [] index x is = absurd (none-some x is)
drop-at (y ∷ xs) zero x is = ap (λ a. a ∷ xs) (same_Some y x is)
drop-at (y ∷ xs) (suc index) x is =
    drop-at xs index x is ∙ ap (λ n. x ∷ drop n (y ∷ xs)) (let e : suc (index + 1) ≡ suc index + 1 = omega arith in e)

drop-past : {X : Type 0} (xs : List X) (index : ℕ) → slice_get xs index ≡ None → drop index xs ≡ []
drop-past [] zero is = refl
drop-past [] (suc index) is = refl
drop-past (y ∷ xs) zero is = absurd (none-some y (sym is))
drop-past (y ∷ xs) (suc index) is = drop-past xs index is

append-none : (old : List ℕ) → old ≡ old ++ []
append-none [] = refl
append-none (x ∷ old) = ap (λ l. x ∷ l) (append-none old)

-- the parts of a slot, one after another
pub entry_text : (old one two three : List ℕ) (slot : SlotState) (state : ℕ) → one ≡ old ++ le 8 slot.originator
    → two ≡ one ++ le 4 slot.number → three ≡ two ++ state ∷ [] → state ≡ state_byte slot.reply slot.ticket
    → three ≡ old ++ entry slot
entry_text old one two three slot state first second third is =
    third ∙ ap (λ l. l ++ state ∷ []) second ∙ append_assoc one (le 4 slot.number) (state ∷ [])
    ∙ ap (λ l. l ++ (le 4 slot.number ++ state ∷ [])) first
    ∙ append_assoc old (le 8 slot.originator) (le 4 slot.number ++ state ∷ [])
    ∙ ap (λ s. old ++ (le 8 slot.originator ++ (le 4 slot.number ++ s ∷ []))) is

fits-false : (a b : ℕ) → b ≤ a → nat_lt a b ≡ false
fits-false a b h = go (nat_lt a b) refl
  where
    go : (less : Bool) → nat_lt a b ≡ less → less ≡ false
    go true less = absurd (let smaller = ltb-true a b less in omega (arith, smaller, h))
    go false less = refl

full-true : (a b : ℕ) → a < b → nat_lt a b ≡ true
full-true a b h = go (nat_lt a b) refl
  where
    go : (less : Bool) → nat_lt a b ≡ less → less ≡ true
    go true less = refl
    go false less = absurd (let greater = ltb-false a b less in omega (arith, greater, h))

-- behind the last slot
pub listed_none : (old : List ℕ) (taken : List SlotState) (index space : ℕ) → slice_get taken index ≡ None
    → old ≡ old ++ entries_within space (drop index taken)
listed_none old taken index space is =
    append-none old ∙ ap (λ l. old ++ entries_within space l) (sym (drop-past taken index is))

-- without space for a slot
pub listed_full : (old : List ℕ) (taken : List SlotState) (index space : ℕ) (slot : SlotState)
    → slice_get taken index ≡ Some slot → space < ENTRY_SIZE
    → old ≡ old ++ entries_within space (drop index taken)
listed_full old taken index space slot is full =
    append-none old
    ∙ ap (λ b. old ++ (if b then [] else entry slot ++ entries_within (space - ENTRY_SIZE) (drop (index + 1) taken)))
    (sym (full-true space ENTRY_SIZE full))
    ∙ ap (λ l. old ++ entries_within space l) (sym (drop-at taken index slot is))

-- one more slot, and then the others
pub listed_more : (old pushed new : List ℕ) (taken : List SlotState) (index space : ℕ) (slot : SlotState)
    → slice_get taken index ≡ Some slot → ENTRY_SIZE ≤ space → pushed ≡ old ++ entry slot
    → new ≡ pushed ++ entries_within (space - ENTRY_SIZE) (drop (index + 1) taken)
    → new ≡ old ++ entries_within space (drop index taken)
listed_more old pushed new taken index space slot is fits pushes more =
    more ∙ ap (λ l. l ++ entries_within (space - ENTRY_SIZE) (drop (index + 1) taken)) pushes
    ∙ append_assoc old (entry slot) (entries_within (space - ENTRY_SIZE) (drop (index + 1) taken))
    ∙ ap (λ b. old ++ (if b then [] else entry slot ++ entries_within (space - ENTRY_SIZE) (drop (index + 1) taken)))
    (sym (fits-false space ENTRY_SIZE fits))
    ∙ ap (λ l. old ++ entries_within space l) (sym (drop-at taken index slot is))

-- ---- the list fits

entry-length : (slot : SlotState) → length (entry slot) ≡ ENTRY_SIZE
entry-length slot = refl

pub entries-short : (space : ℕ) (slots : List SlotState) → length (entries_within space slots) ≤ space
entries-short space [] = omega arith
entries-short space (slot ∷ slots) = go (nat_lt space ENTRY_SIZE) refl (entries-short (space - ENTRY_SIZE) slots)
  where
    go : (full : Bool) → nat_lt space ENTRY_SIZE ≡ full
        → length (entries_within (space - ENTRY_SIZE) slots) ≤ space - ENTRY_SIZE
        → length (if full then [] else entry slot ++ entries_within (space - ENTRY_SIZE) slots) ≤ space
    go true h rest = omega arith
    go false h rest =
        let both = length-append (entry slot) (entries_within (space - ENTRY_SIZE) slots) in
        let enough = ltb-false space ENTRY_SIZE h in
        omega (arith, both, rest, enough, entry-length slot)

-- the count and the slots are never too long, so they are the answer
pub list_fits : (max_size first : ℕ) (taken : List SlotState) → 8 ≤ max_size
    → HEAD_SIZE + length (slot_list (max_size - HEAD_SIZE) first taken) ≤ max_size
list_fits max_size first taken least =
    let rest = entries-short (max_size - HEAD_SIZE - 2) (drop first taken) in
    let both = length-append (le 2 (length taken)) (entries_within (max_size - HEAD_SIZE - 2) (drop first taken)) in
    omega (arith, rest, both, least)
