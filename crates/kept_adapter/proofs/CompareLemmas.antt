-- Entries that are compared one after the other.
use Rattle.std.proofs.Common.{◌≡◌, ◌≢◌, ℕ, zero, suc, ◌+◌, ◌<◌, ◌≤◌, List, [], ◌∷◌, ◌++◌, length, take, drop, get_or}
use Rattle.std.proofs.Common.{Option, Some, Bool, true, false, eqb, add-one, refl, sym, ap, ◌∙◌, subst, arith, ◌⊎◌, inl, inr}
use Rattle.std.specs.Prelude.{slice_get, option_map, IfNone, ◌-◌, ◌==◌, nat_lt, nat_le, if◌then◌else◌}
use Rattle.std.proofs.lemmas.Bool.{false≢true, leb-true}
use Rattle.std.proofs.lemmas.Option.{slice_get_past}
use Rattle.std.proofs.lemmas.Bool.Decides.{eqb_tells}
use Rattle.cip_ledger.specs.Ledger.{LedgerState}
use Rattle.cip_owner.specs.Queue.{QueueState}
use Rattle.enip_keep.specs.declared.entry.Entry.{Entry}
use Rattle.enip_keep.specs.Kept.{Kept, pair_of, pairs_of}
use Rattle.cip_objects.specs.Contents.{Contents}
use Rattle.device_state.specs.QueueEntries.{PLACES, QUEUE_ENTRIES, bytes_of_command, bytes_of_result, queue_bytes}
use Rattle.device_state.specs.Saved.{needs_version_2}
use Rattle.kept_adapter.specs.Saved.{first_of, versioned_objects, saved_ledger, saved_queue, saved_device}
use Rattle.kept_adapter.specs.Saved.{first_entries, first_queue_entries, is_free, ENTRIES}
use Rattle.kept_adapter.proofs.SavingLemmas.{take_pairs}

some_is : {A : Type 0} (x y : A) → ◌≡◌ {A = Option A} (Some x) (Some y) → x ≡ y
some_is x y e = cc

-- ---- an entry at an index

pub pair_at : (entries : List Entry) (i : ℕ) (e : Entry) → i < length entries → get_or entries i e ≡ e
    → Some (pair_of e) ≡ slice_get (pairs_of entries) i
pair_at [] i e less at = absurd (omega arith)
pair_at (x ∷ entries) zero e less at = ap (λ (y : Entry). Some (pair_of y)) (sym at)
pair_at (x ∷ entries) (suc i) e less at = pair_at entries i e (omega arith) at

pub get_past : (xs : Kept) (i : ℕ) (x : ℕ × List ℕ) → length xs ≤ i → Some x ≡ slice_get xs i → ⊥
get_past [] i x past e = absurd (cc)
get_past (y ∷ xs) zero x past e = absurd (omega arith)
get_past (y ∷ xs) (suc i) x past e = get_past xs i x (omega arith) e

pub length_pairs : (entries : List Entry) → length (pairs_of entries) ≡ length entries
length_pairs [] = refl
length_pairs (e ∷ entries) = ap suc (length_pairs entries)

pub get_front : (xs ys : Kept) (i : ℕ) (x : ℕ × List ℕ) → Some x ≡ slice_get xs i → Some x ≡ slice_get (xs ++ ys) i
get_front [] ys i x e = absurd (cc)
get_front (y ∷ xs) ys zero x e = e
get_front (y ∷ xs) ys (suc i) x e = get_front xs ys i x e

-- lists with another entry at an index differ
pub differs_at : (xs ys rest : Kept) (i : ℕ) (x y : ℕ × List ℕ) → Some x ≡ slice_get xs i → Some y ≡ slice_get ys i
    → x ≢ y → xs ≢ ys ++ rest
differs_at xs ys rest i x y one other differ same =
    differ (some_is x y (one ∙ ap (λ zs. slice_get zs i) same ∙ sym (get_front ys rest i y other)))

pub differs_past : (xs ys rest : Kept) (i : ℕ) (y : ℕ × List ℕ) → length xs ≤ i → Some y ≡ slice_get ys i
    → xs ≢ ys ++ rest
differs_past xs ys rest i y past other same =
    get_past xs i y past (get_front ys rest i y other ∙ ap (λ zs. slice_get zs i) (sym same))

-- ---- the first entries

pub take_more : (xs : Kept) (i : ℕ) (x : ℕ × List ℕ) → Some x ≡ slice_get xs i → take (suc i) xs ≡ take i xs ++ x ∷ []
take_more [] i x e = absurd (cc)
take_more (y ∷ xs) zero x e = ap (λ z. z ∷ []) (sym (some_is x y e))
take_more (y ∷ xs) (suc i) x e = ap (λ ys. y ∷ ys) (take_more xs i x e)

pub first_and_rest : (entries : List Entry) (n : ℕ)
    → pairs_of entries ≡ take n (pairs_of entries) ++ pairs_of (drop n entries)
first_and_rest [] zero = refl
first_and_rest [] (suc n) = refl
first_and_rest (e ∷ entries) zero = refl
first_and_rest (e ∷ entries) (suc n) = ap (λ es. pair_of e ∷ es) (first_and_rest entries n)

pub same_rest : (first xs ys : Kept) → first ++ xs ≡ first ++ ys → xs ≡ ys
same_rest [] xs ys same = same
same_rest (e ∷ first) xs ys same = same_rest first xs ys (tail e e (first ++ xs) (first ++ ys) same)
  where
    tail : (x y : ℕ × List ℕ) (xs ys : Kept) → x ∷ xs ≡ y ∷ ys → xs ≡ ys
    tail x y xs ys e = cc

-- ---- numbered entries

length_more : (xs : Kept) (y : ℕ × List ℕ) → length (xs ++ y ∷ []) ≡ suc (length xs)
length_more [] y = refl
length_more (x ∷ xs) y = ap suc (length_more xs y)

pub length_first : (key : ℕ → ℕ) (content : ℕ → List ℕ) (count : ℕ) → length (first_of key content count) ≡ count
length_first key content zero = refl
length_first key content (suc count) =
    length_more (first_of key content count) (key count, content count) ∙ ap suc (length_first key content count)

get_end : (xs : Kept) (y : ℕ × List ℕ) → Some y ≡ slice_get (xs ++ y ∷ []) (length xs)
get_end [] y = refl
get_end (x ∷ xs) y = get_end xs y

at_end : (key : ℕ → ℕ) (content : ℕ → List ℕ) (count n : ℕ) → n ≡ count
    → Some (key n, content n) ≡ slice_get (first_of key content (suc count)) n
at_end key content count n here =
    ap (λ k. Some (key k, content k)) here
    ∙ get_end (first_of key content count) (key count, content count)
    ∙ ap (slice_get (first_of key content (suc count))) (length_first key content count ∙ sym here)

before_end : (key : ℕ → ℕ) (content : ℕ → List ℕ) (count n : ℕ)
    → Some (key n, content n) ≡ slice_get (first_of key content count) n
    → Some (key n, content n) ≡ slice_get (first_of key content (suc count)) n
before_end key content count n e =
    get_front (first_of key content count) ((key count, content count) ∷ []) n (key n, content n) e

numbered_by : (key : ℕ → ℕ) (content : ℕ → List ℕ) (count n : ℕ) → n < suc count
    → (n < count → Some (key n, content n) ≡ slice_get (first_of key content count) n)
    → ((eqb n count ≡ true) × (n ≡ count)) ⊎ ((eqb n count ≡ false) × (n ≡ count → ⊥))
    → Some (key n, content n) ≡ slice_get (first_of key content (suc count)) n
numbered_by key content count n less lower (inl here) = at_end key content count n here.1
numbered_by key content count n less lower (inr apart) =
    let other : n ≡ count → ⊥ = apart.1 in
    before_end key content count n (lower (omega (arith, other, less)))

pub numbered_at : (key : ℕ → ℕ) (content : ℕ → List ℕ) (count n : ℕ) → n < count
    → Some (key n, content n) ≡ slice_get (first_of key content count) n
numbered_at key content zero n less = absurd (omega arith)
numbered_at key content (suc count) n less =
    numbered_by key content count n less (λ below. numbered_at key content count n below) (eqb_tells n count)

-- ---- as the calls say it

pub not_both : (r : Bool) → r ≡ false → r ≡ true → ⊥
not_both r is_false is_true = absurd (cc)

pub false_is : (P : Type 0) → false ≡ true → P
false_is P e = absurd (not_both false refl e)

pub numbered_differ : (entries : List Entry) (key : ℕ → ℕ) (content : ℕ → List ℕ) (count n i : ℕ) (e : Entry) → i ≡ n
    → i < length entries → get_or entries i e ≡ e → n < count → (pair_of e ≡ (key n, content n) → ⊥)
    → pairs_of entries ≡ first_of key content count → ⊥
numbered_differ entries key content count n i e here less at below differ same =
    differ (some_is (pair_of e) (key n, content n)
    (pair_at entries i e less at ∙ ap (slice_get (pairs_of entries)) here ∙ ap (λ es. slice_get es n) same
    ∙ sym (numbered_at key content count n below)))

pub numbered_go_on : (entries : List Entry) (key : ℕ → ℕ) (content : ℕ → List ℕ) (n i : ℕ) (e : Entry) → i ≡ n
    → i < length entries → get_or entries i e ≡ e → pair_of e ≡ (key n, content n)
    → take n (pairs_of entries) ≡ first_of key content n → take (n + 1) (pairs_of entries) ≡ first_of key content (n + 1)
numbered_go_on entries key content n i e here less at is sofar =
    ap (λ k. take k (pairs_of entries)) (add-one n)
    ∙ take_more (pairs_of entries) n (pair_of e)
    (pair_at entries i e less at ∙ ap (slice_get (pairs_of entries)) here)
    ∙ ap (λ es. es ++ pair_of e ∷ []) sofar
    ∙ ap (λ p. first_of key content n ++ p ∷ []) is
    ∙ ap (first_of key content) (sym (add-one n))

-- as many entries, and the first of them, are all
pub numbered_size : (entries : List Entry) (key : ℕ → ℕ) (content : ℕ → List ℕ) (count : ℕ)
    → (length entries ≡ count → ⊥) → pairs_of entries ≡ first_of key content count → ⊥
numbered_size entries key content count other same =
    other (sym (length_pairs entries) ∙ ap length same ∙ length_first key content count)

take_kept : (xs : Kept) (n : ℕ) → length xs ≤ n → take n xs ≡ xs
take_kept [] zero h = refl
take_kept [] (suc n) h = refl
take_kept (x ∷ xs) zero h = absurd (omega arith)
take_kept (x ∷ xs) (suc n) h = ap (λ ys. x ∷ ys) (take_kept xs n (omega arith))

pub numbered_all : (entries : List Entry) (key : ℕ → ℕ) (content : ℕ → List ℕ) (count n : ℕ) → length entries ≡ count
    → n ≡ count → take n (pairs_of entries) ≡ first_of key content n → pairs_of entries ≡ first_of key content count
numbered_all entries key content count n size here first =
    sym (take_kept (pairs_of entries) n (omega (arith, length_pairs entries, size, here))) ∙ first
    ∙ ap (first_of key content) here

-- ---- the entries behind the first ones

pub rest_behind : (entries : List Entry) (n : ℕ) (first : Kept) → pairs_of (take n entries) ≡ first
    → pairs_of entries ≡ first ++ pairs_of (drop n entries)
rest_behind entries n first e =
    first_and_rest entries n ∙ ap (λ es. es ++ pairs_of (drop n entries)) (sym (take_pairs entries n) ∙ e)

first_of_both : (first rest : Kept) (n : ℕ) → n ≡ length first → take n (first ++ rest) ≡ first
first_of_both [] rest zero e = refl
first_of_both [] rest (suc n) e = absurd (omega arith)
first_of_both (x ∷ first) rest zero e = absurd (omega arith)
first_of_both (x ∷ first) rest (suc n) e = ap (λ xs. x ∷ xs) (first_of_both first rest n (omega arith))

pub not_first : (entries : List Entry) (n : ℕ) (first rest : Kept) → n ≡ length first
    → (pairs_of (take n entries) ≡ first → ⊥) → pairs_of entries ≡ first ++ rest → ⊥
not_first entries n first rest size other same =
    other (take_pairs entries n ∙ ap (take n) same ∙ first_of_both first rest n size)

both_size : (first rest : Kept) → length first ≤ length (first ++ rest)
both_size [] rest = omega arith
both_size (x ∷ first) rest = let h = both_size first rest in omega (arith, h)

pub too_few : (entries : List Entry) (n : ℕ) (first rest : Kept) → n ≡ length first → length entries < n
    → pairs_of entries ≡ first ++ rest → ⊥
too_few entries n first rest size less same =
    let most = both_size first rest in
    let all : length entries ≡ length (first ++ rest) = sym (length_pairs entries) ∙ ap length same in
    absurd (omega (arith, most, all, less, size))

-- ---- the objects, then the ledger, then the queue

module _ {m n : Contents} {l k : Option LedgerState} {q r : Option QueueState} {v : Bool} (objects : m ≡ n) (ledger : l ≡ k)
    (queue : q ≡ r) (version : v ≡ needs_version_2 q l) where
  saved_alike : saved_device m l q ≡ saved_device n k r
  saved_alike =
      ap (λ x. saved_device x l q) objects ∙ ap (λ x. saved_device n x q) ledger ∙ ap (λ x. saved_device n k x) queue

  with_values : (all behind : Kept) → all ≡ versioned_objects m v ++ behind
      → all ≡ versioned_objects m (needs_version_2 q l) ++ behind
  with_values all behind first = first ∙ ap (λ t. versioned_objects m t ++ behind) version

  pub compared : {all behind rest : Kept} (t : Bool) → all ≡ versioned_objects m v ++ behind → behind ≡ saved_ledger l ++ rest
      → (t ≡ true → rest ≡ saved_queue q) × (rest ≡ saved_queue q → t ≡ true)
      → (t ≡ true → all ≡ saved_device n k r) × (all ≡ saved_device n k r → t ≡ true)
  compared {all} {behind} {rest} t first second both = (
    λ is. with_values all behind first
        ∙ ap (λ es. versioned_objects m (needs_version_2 q l) ++ es) (second ∙ ap (λ es. saved_ledger l ++ es) (both.0 is))
        ∙ saved_alike,
    λ same. both.1 (same_rest (saved_ledger l) rest (saved_queue q) (sym second
        ∙ same_rest (versioned_objects m (needs_version_2 q l)) behind (saved_ledger l ++ saved_queue q)
        (sym (with_values all behind first) ∙ same ∙ sym saved_alike))),
  )

  pub other_ledger : {all behind : Kept} → all ≡ versioned_objects m v ++ behind
      → ((rest : Kept) → behind ≡ saved_ledger l ++ rest → ⊥) → all ≡ saved_device n k r → ⊥
  other_ledger {all} {behind} first other same =
      other (saved_queue q)
      (same_rest (versioned_objects m (needs_version_2 q l)) behind (saved_ledger l ++ saved_queue q)
      (sym (with_values all behind first) ∙ same ∙ sym saved_alike))

-- ---- a ledger or a queue that is there

pub other_behind : {A R : Type 0} (now : A → LedgerState) (ledger : Option A) (l : A) (result : Option R) (all : Kept)
    → ledger ≡ Some l → IfNone result ((rest : Kept) → all ≢ first_entries (now l) ENTRIES ++ rest)
    → IfNone result ((rest : Kept) → all ≢ saved_ledger (option_map now ledger) ++ rest)
other_behind now ledger l result all is other =
    subst (λ o. IfNone result ((rest : Kept) → all ≢ saved_ledger (option_map now o) ++ rest)) (sym is) other

pub all_of_queue : {A : Type 0} (now : A → QueueState) (queue : Option A) (q : A) (t : Bool) (all : Kept)
    → queue ≡ Some q
    → (t ≡ true → all ≡ first_queue_entries (now q) QUEUE_ENTRIES)
    × (all ≡ first_queue_entries (now q) QUEUE_ENTRIES → t ≡ true)
    → (t ≡ true → all ≡ saved_queue (option_map now queue)) × (all ≡ saved_queue (option_map now queue) → t ≡ true)
all_of_queue now queue q t all is both =
    subst (λ o. (t ≡ true → all ≡ saved_queue (option_map now o)) × (all ≡ saved_queue (option_map now o) → t ≡ true))
    (sym is) both

-- ---- a free place has no bytes

free_at : (q : QueueState) (index : ℕ) (first : Bool) → nat_lt index PLACES ≡ first
    → (if first then nat_le (length q.waiting) index else nat_le (length q.results) (index - PLACES)) ≡ true
    → (if first then bytes_of_command (slice_get q.waiting index) else bytes_of_result (slice_get q.results (index - PLACES))) ≡ []
free_at q index true is free = ap bytes_of_command (slice_get_past q.waiting index (leb-true (length q.waiting) index free))
free_at q index false is free =
    ap bytes_of_result (slice_get_past q.results (index - PLACES) (leb-true (length q.results) (index - PLACES) free))

free_by : (q : QueueState) (number : ℕ) (first : Bool) → (number == 0) ≡ first → is_free q number ≡ true → queue_bytes q number ≡ []
free_by q number true is free = absurd (false≢true (rw is at free))
free_by q number false is free = rw is (free_at q (number - 1) (nat_lt (number - 1) PLACES) refl (rw is at free))

pub free_is_empty : (q : QueueState) (number : ℕ) → is_free q number ≡ true → queue_bytes q number ≡ []
free_is_empty q number free = free_by q number (number == 0) refl free
