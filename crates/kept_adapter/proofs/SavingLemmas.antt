-- Entries that are written one after the other.
use Rattle.std.proofs.Common.{◌≡◌, ℕ, zero, suc, ◌+◌, ◌-◌, ◌<◌, ◌≤◌, ◌^◌, Bool, true, false, ◌&&◌, List, [], ◌∷◌, ◌++◌, length, take, map, append_assoc, Option, Some, None, option_map, Result, Ok, Err, OnOk, refl, sym, ap, ◌∙◌, arith}
use Rattle.std.specs.Prelude.{slice_get, slice_set}
use Rattle.std.proofs.lemmas.Bool.Decides.{nat_tests}
use Rattle.enip_keep.specs.declared.entry.Entry.{Entry}
use Rattle.enip_keep.specs.Kept.{Kept, pair_of, pairs_of}
use Rattle.cip_ledger.specs.Ledger.{SlotState, LedgerState}
use Rattle.cip_owner.specs.Queue.{QueueState}
use Rattle.cip_objects.specs.Contents.{Contents}
use Rattle.device_state.specs.Saved.{Entry as StateEntry, entry_in, entry_of, needs_version_2, saved, state_of, value_entries}
use Rattle.device_state.proofs.EntryLists.{in_ledger, slot_entry, slot_entry_at}
use Rattle.kept_server.specs.Changes.{is_small, are_small}
use Rattle.kept_adapter.specs.Saved.{pair_of as pair_of_entry, bytes_of_slot, ledger_bytes, first_of}
use Rattle.kept_adapter.specs.Saved.{versioned_objects, saved_ledger, saved_queue, saved_device}

-- the first entries, once one behind them is written
set_front : (xs : List Entry) (i : ℕ) (e : Entry) → i < length xs
    → take (suc i) (pairs_of (slice_set xs i e)) ≡ take i (pairs_of xs) ++ pair_of e ∷ []
set_front [] i e h = absurd (omega arith)
set_front (x ∷ xs) zero e h = refl
set_front (x ∷ xs) (suc i) e h = ap (λ ps. pair_of x ∷ ps) (set_front xs i e (omega arith))

pub entry_set : {X : Type 0} (r : Result (Unit {0}) X) (xs : List Entry) (old : Kept) (i : ℕ) (e : Entry) (p : ℕ × List ℕ)
    → i < length xs → take i (pairs_of xs) ≡ take i old → OnOk r (pair_of e ≡ p)
    → OnOk r (take (suc i) (pairs_of (slice_set xs i e)) ≡ take i old ++ p ∷ [])
entry_set (Err x) xs old i e p h same is = tt
entry_set (Ok x) xs old i e p h same is =
    set_front xs i e h ∙ ap (λ ps. ps ++ pair_of e ∷ []) same ∙ ap (λ q. take i old ++ q ∷ []) is

-- small entries
both : (a b c : Bool) → a && b ≡ true → (b ≡ true → c ≡ true) → a && c ≡ true
both true b c e f = f e
both false b c e f = e

small_more : (ps : Kept) (p : ℕ × List ℕ) → are_small ps ≡ true → is_small p ≡ true → are_small (ps ++ p ∷ []) ≡ true
small_more [] p e is = ap (λ t. t && true) is
small_more (q ∷ ps) p e is = both (is_small q) (are_small ps) (are_small (ps ++ p ∷ [])) e (λ f. small_more ps p f is)

small_pair : (key : ℕ) (bytes : List ℕ) → key < 2 ^ 63 → length bytes < 2 ^ 16 → is_small (key, bytes) ≡ true
small_pair key bytes h k = grind (arith, nat_tests)

small_set : {X : Type 0} (r : Result (Unit {0}) X) (new old : Kept) (key : ℕ) (bytes : List ℕ) → are_small old ≡ true
    → key < 2 ^ 63 → length bytes < 2 ^ 16 → OnOk r (new ≡ old ++ (key, bytes) ∷ []) → OnOk r (are_small new ≡ true)
small_set (Err x) new old key bytes small h k e = tt
small_set (Ok x) new old key bytes small h k e =
    ap are_small e ∙ small_more old (key, bytes) small (small_pair key bytes h k)

pub small_entry_set : {X : Type 0} (r : Result (Unit {0}) X) (xs : List Entry) (old : Kept) (i : ℕ) (e : Entry) (key : ℕ)
    (bytes : List ℕ) → i < length xs → take i (pairs_of xs) ≡ take i old → OnOk r (pair_of e ≡ (key, bytes))
    → are_small (take i old) ≡ true → key < 2 ^ 63 → length bytes < 2 ^ 16
    → OnOk r (are_small (take (suc i) (pairs_of (slice_set xs i e))) ≡ true)
small_entry_set r xs old i e key bytes h same is small wide long =
    small_set r (take (suc i) (pairs_of (slice_set xs i e))) (take i old) key bytes small wide long
    (entry_set r xs old i e (key, bytes) h same is)

-- one entry more
get_more : {A : Type 0} (xs : List A) (i : ℕ) (x : A) → Some x ≡ slice_get xs i → take (suc i) xs ≡ take i xs ++ x ∷ []
get_more [] i x e = absurd (cc)
get_more (y ∷ xs) zero x e = let same : y ≡ x = cc in ap (λ z. z ∷ []) same
get_more (y ∷ xs) (suc i) x e = ap (λ ys. y ∷ ys) (get_more xs i x e)

get_within : {A : Type 0} (xs : List A) (i : ℕ) (x : A) → Some x ≡ slice_get xs i → i < length xs
get_within [] i x e = absurd (cc)
get_within (y ∷ xs) zero x e = omega arith
get_within (y ∷ xs) (suc i) x e = let h = get_within xs i x e in omega arith

pub get_map : {A B : Type 0} (f : A → B) (xs : List A) (i : ℕ) (x : A) → Some x ≡ slice_get xs i → Some (f x) ≡ slice_get (map f xs) i
get_map f [] i x e = absurd (cc)
get_map f (y ∷ xs) zero x e = let same : x ≡ y = cc in ap (λ z. Some (f z)) same
get_map f (y ∷ xs) (suc i) x e = get_map f xs i x e

pub entry_more : (es : List StateEntry) (old new : Kept) (count next key : ℕ) (bytes : List ℕ) → next ≡ suc count
    → Some (entry_of key bytes) ≡ slice_get es count → take count old ≡ take count (map pair_of_entry es)
    → take (suc count) new ≡ take count old ++ (key, bytes) ∷ []
    → take next new ≡ take next (map pair_of_entry es)
entry_more es old new count next key bytes n e same set =
    ap (λ k. take k new) n ∙ set ∙ ap (λ ps. ps ++ (key, bytes) ∷ []) same
    ∙ sym (get_more (map pair_of_entry es) count (key, bytes) (get_map pair_of_entry es count (entry_of key bytes) e))
    ∙ ap (λ k. take k (map pair_of_entry es)) (sym n)

pub entry_within : (es : List StateEntry) (count next key : ℕ) (bytes : List ℕ) → next ≡ suc count
    → Some (entry_of key bytes) ≡ slice_get es count → next ≤ length (map pair_of_entry es)
entry_within es count next key bytes n e =
    let h = get_within (map pair_of_entry es) count (key, bytes) (get_map pair_of_entry es count (entry_of key bytes) e) in
    omega (arith, h, n)

pub small_next : (ps : Kept) (count next : ℕ) → next ≡ suc count → are_small (take (suc count) ps) ≡ true
    → are_small (take next ps) ≡ true
small_next ps count next n e = ap (λ k. are_small (take k ps)) n ∙ e

-- all entries
pub past_end : {A B : Type 0} (f : A → B) (xs : List A) (i : ℕ) → None ≡ slice_get xs i → take i (map f xs) ≡ map f xs
past_end f [] zero e = refl
past_end f [] (suc i) e = refl
past_end f (x ∷ xs) zero e = absurd (cc)
past_end f (x ∷ xs) (suc i) e = ap (λ ys. f x ∷ ys) (past_end f xs i e)

-- an entry of the ledger
same_some : {A : Type 0} (x y : A) → ◌≡◌ {A = Option A} (Some x) (Some y) → x ≡ y
same_some x y e = cc

content_of : (r : Option ℕ) (bytes : List ℕ) (e : StateEntry) → entry_in r bytes ≡ Some e → bytes ≡ e.content
content_of None bytes e is = absurd (cc)
content_of (Some key) bytes e is = ap (λ (x : StateEntry). x.content) (same_some (entry_of key bytes) e is)

of_slot : (r : Option ℕ) (bytes : List ℕ) (number : ℕ) (slots : List SlotState) (i : ℕ) → i < length slots
    → entry_in r bytes ≡ option_map (slot_entry number) (slice_get slots i) → bytes ≡ bytes_of_slot (slice_get slots i)
of_slot r bytes number [] i h is = absurd (omega arith)
of_slot r bytes number (slot ∷ slots) zero h is = content_of r bytes (slot_entry number slot) is
of_slot r bytes number (slot ∷ slots) (suc i) h is = of_slot r bytes number slots i (omega arith) is

pub ledger_bytes_at : (m : Contents) (l : LedgerState) (n : ℕ) (r : Option ℕ) (bytes : List ℕ) → n ≤ length l.taken
    → entry_in r bytes ≡ slice_get (saved (state_of m (Some l))) (1 + n) → bytes ≡ ledger_bytes l n
ledger_bytes_at m l zero r bytes h is = content_of r bytes _ is
ledger_bytes_at m l (suc i) r bytes h is =
    let e : 1 + suc i ≡ suc (suc i) = omega arith in
    let k : suc i - 1 ≡ i = omega arith in
    of_slot r bytes (suc i) l.taken i (omega arith)
    (is ∙ ap (slice_get (saved (state_of m (Some l)))) e
    ∙ sym (in_ledger l (value_entries m) (suc i) (length l.taken) refl (omega arith))
    ∙ slot_entry_at l (suc i) (omega arith)
    ∙ ap (λ j. option_map (slot_entry (suc i)) (slice_get l.taken j)) k)

-- a numbered entry behind the others
pub numbered_more : (key_of : ℕ → ℕ) (content_of : ℕ → List ℕ) (old new front : Kept) (count next number after key : ℕ)
    (bytes : List ℕ) → next ≡ suc count → after ≡ suc number
    → take (suc count) new ≡ take count old ++ (key, bytes) ∷ []
    → take count old ≡ front ++ first_of key_of content_of number → key ≡ key_of number → bytes ≡ content_of number
    → take next new ≡ front ++ first_of key_of content_of after
numbered_more key_of content_of old new front count next number after key bytes n m set same is content =
    ap (λ k. take k new) n ∙ set ∙ ap (λ ps. ps ++ (key, bytes) ∷ []) same
    ∙ append_assoc front (first_of key_of content_of number) ((key, bytes) ∷ [])
    ∙ ap (λ k. front ++ (first_of key_of content_of number ++ (k, bytes) ∷ [])) is
    ∙ ap (λ b. front ++ (first_of key_of content_of number ++ (key_of number, b) ∷ [])) content
    ∙ ap (λ k. front ++ first_of key_of content_of k) (sym m)

-- the first entries alone
pub take_pairs : (xs : List Entry) (n : ℕ) → pairs_of (take n xs) ≡ take n (pairs_of xs)
take_pairs [] zero = refl
take_pairs [] (suc n) = refl
take_pairs (x ∷ xs) zero = refl
take_pairs (x ∷ xs) (suc n) = ap (λ ps. pair_of x ∷ ps) (take_pairs xs n)

-- the objects, then the ledger, then the queue
pub saved_all : {m n : Contents} {l k : Option LedgerState} {q r : Option QueueState} {v : Bool} {front behind all : Kept}
    → m ≡ n → l ≡ k → q ≡ r → v ≡ needs_version_2 q l → front ≡ versioned_objects m v → behind ≡ front ++ saved_ledger l → all ≡ behind ++ saved_queue q
    → all ≡ saved_device n k r
saved_all {m} {n} {l} {k} {q} {r} {v} {front} {behind} {all} objects ledger queue version first second third =
    third ∙ ap (λ ps. ps ++ saved_queue q) (second ∙ ap (λ ps. ps ++ saved_ledger l) (first ∙ ap (versioned_objects m) version))
    ∙ append_assoc (versioned_objects m (needs_version_2 q l)) (saved_ledger l) (saved_queue q)
    ∙ ap (λ x. saved_device x l q) objects ∙ ap (λ x. saved_device n x q) ledger ∙ ap (λ x. saved_device n k x) queue
