-- The entries of an adapter by their index.
use Rattle.std.proofs.Common.{◌≡◌, inl, inr, ℕ, zero, suc, ◌+◌, ◌<◌, ◌≤◌, ◌^◌, ◌==◌, Bool, true, false, List, [], ◌∷◌, ◌++◌, length, map, Option, Some, None, option_map, refl, sym, ap, ◌∙◌, arith}
use Rattle.std.specs.Prelude.{slice_get, is_some}
use Rattle.std.proofs.lemmas.Option.{slice_get-map, slice_get_past}
use Rattle.std.proofs.lemmas.Bool.{eqb-true, eqb-false}
use Rattle.std.proofs.lemmas.List.{length-append}
use Rattle.cip_ledger.specs.Ledger.{LedgerState}
use Rattle.cip_objects.specs.Contents.{Contents}
use Rattle.cip_owner.specs.Queue.{QueueState}
use Rattle.device_state.specs.Saved as device
use Rattle.enip_keep.specs.Kept.{Kept}
use Rattle.device_state.specs.QueueEntries.{QUEUE_ENTRIES}
use Rattle.kept_adapter.specs.Saved.{pair_of, saved_objects, versioned_objects, saved_ledger, saved_queue, saved_device, first_of}
use Rattle.kept_adapter.specs.Saved.{first_queue_entries}
use Rattle.saved_state.specs.States.{Entry}
use Rattle.saved_state.specs.Writing.{entry_number}
use Rattle.saved_adapter.specs.Entries.{entry_of, entry_in, entries_of, IsCounted}

-- ---- lists

get_front : {A : Type 0} (xs ys : List A) (i : ℕ) → i < length xs → slice_get (xs ++ ys) i ≡ slice_get xs i
get_front [] ys i h = absurd (omega (arith, h))
get_front (x ∷ xs) ys zero h = refl
get_front (x ∷ xs) ys (suc i) h = get_front xs ys i (omega (arith, h))

get_rest : {A : Type 0} (xs ys : List A) (i n : ℕ) → n ≡ length xs → slice_get (xs ++ ys) (n + i) ≡ slice_get ys i
get_rest [] ys i zero e = let same : zero + i ≡ i = omega arith in ap (slice_get ys) same
get_rest [] ys i (suc n) e = absurd (omega (arith, e))
get_rest (x ∷ xs) ys i zero e = absurd (omega (arith, e))
get_rest (x ∷ xs) ys i (suc n) e =
    let same : suc n + i ≡ suc (n + i) = omega arith in
    ap (slice_get (x ∷ (xs ++ ys))) same ∙ get_rest xs ys i n (omega (arith, e))

-- ---- how many values there are

abbrev values : Contents → Bool → List device.Entry
values objects is_version_2 = device.object_entries objects is_version_2

-- The version is a part of an entry.
same_size : (objects : Contents) (is_version_2 : Bool)
    → length (map pair_of (values objects is_version_2)) ≡ length (saved_objects objects)
same_size objects is_version_2 = refl

value_within : (key : ℕ) (bytes : List ℕ) (es : List device.Entry) (i : ℕ)
    → device.entry_in (Some key) bytes ≡ slice_get es i → i + 1 ≤ length (map pair_of es)
value_within key bytes [] i e = absurd (cc)
value_within key bytes (x ∷ es) zero e = omega arith
value_within key bytes (x ∷ es) (suc i) e = let h = value_within key bytes es i e in omega (arith, h)

value_past : (bytes : List ℕ) (es : List device.Entry) (i : ℕ) → device.entry_in None bytes ≡ slice_get es i
    → length (map pair_of es) ≤ i
value_past bytes [] i e = omega arith
value_past bytes (x ∷ es) zero e = absurd (cc)
value_past bytes (x ∷ es) (suc i) e = let h = value_past bytes es i e in omega (arith, h)

pub one_more : (objects : Contents) (r : Option ℕ) (bytes : List ℕ) (count : ℕ)
    → device.entry_in r bytes ≡ slice_get (values objects false) count → is_some r ≡ true
    → count + 1 ≤ length (saved_objects objects)
one_more objects None bytes count e is = absurd (cc)
one_more objects (Some key) bytes count e is =
    let h = value_within key bytes (values objects false) count e in
    let size = same_size objects false in
    omega (arith, h, size)

pub all_values : (objects : Contents) (r : Option ℕ) (bytes : List ℕ) (count : ℕ)
    → device.entry_in r bytes ≡ slice_get (values objects false) count → is_some r ≡ false
    → count ≤ length (saved_objects objects) → IsCounted objects count
all_values objects (Some key) bytes count e is within = absurd (cc)
all_values objects None bytes count e is within =
    let h = value_past bytes (values objects false) count e in
    let size = same_size objects false in
    (within, inl (omega (arith, h, within, size)))

pub counted : (objects : Contents) (version : Bool) (bytes : List ℕ) (count index : ℕ) → IsCounted objects count
    → index < 2 ^ 64 → device.entry_in None bytes ≡ slice_get (values objects version) index
    → count ≡ length (saved_objects objects)
counted objects version bytes count index (within, inl e) fits at = e
counted objects version bytes count index (within, inr big) fits at =
    let h = value_past bytes (values objects version) index at in
    let size = same_size objects version in
    omega (arith, within, big, fits, h, size)

pub not_within : (objects : Contents) (version : Bool) (bytes : List ℕ) (count index : ℕ)
    → IsCounted objects count → device.entry_in None bytes ≡ slice_get (values objects version) index → index < count → ⊥
not_within objects version bytes count index counts at below =
    let h = value_past bytes (values objects version) index at in
    let size = same_size objects version in
    omega (arith, counts.0, below, h, size)

-- ---- an entry of the objects

abbrev entry_at : Kept → ℕ → Option Entry
entry_at kept i = slice_get (entries_of kept) i

as_entry : (r : Option ℕ) (bytes : List ℕ)
    → entry_in r bytes ≡ option_map (λ e. entry_of (pair_of e)) (device.entry_in r bytes)
as_entry None bytes = refl
as_entry (Some key) bytes = refl

value_at : (r : Option ℕ) (bytes : List ℕ) (es : List device.Entry) (i : ℕ)
    → device.entry_in r bytes ≡ slice_get es i → entry_in r bytes ≡ entry_at (map pair_of es) i
value_at r bytes es i e =
    as_entry r bytes ∙ ap (option_map (λ e. entry_of (pair_of e))) e ∙ go es i
  where
    go : (xs : List device.Entry) (k : ℕ)
        → option_map (λ e. entry_of (pair_of e)) (slice_get xs k) ≡ slice_get (map entry_of (map pair_of xs)) k
    go [] k = refl
    go (x ∷ xs) zero = refl
    go (x ∷ xs) (suc k) = go xs k

split_map : (xs ys : Kept) → entries_of (xs ++ ys) ≡ entries_of xs ++ entries_of ys
split_map [] ys = refl
split_map (x ∷ xs) ys = ap (λ es. entry_of x ∷ es) (split_map xs ys)

map_length : (xs : Kept) → length (entries_of xs) ≡ length xs
map_length [] = refl
map_length (x ∷ xs) = ap suc (map_length xs)

pub object_entry : (objects : Contents) (ledger : Option LedgerState) (queue : Option QueueState) (version : Bool)
    (key : ℕ) (bytes : List ℕ) (i : ℕ) → version ≡ device.needs_version_2 queue ledger
    → device.entry_in (Some key) bytes ≡ slice_get (values objects version) i
    → entry_in (Some key) bytes ≡ slice_get (entries_of (saved_device objects ledger queue)) i
object_entry objects ledger queue version key bytes i own e =
    let h = value_within key bytes (values objects version) i e in
    let front = versioned_objects objects version in
    let rest = saved_ledger ledger ++ saved_queue queue in
    value_at (Some key) bytes (values objects version) i e
    ∙ sym (ap (λ es. slice_get es i) (split_map front rest)
    ∙ get_front (entries_of front) (entries_of rest) i (omega (arith, h, map_length front)))
    ∙ ap (λ v. slice_get (entries_of (versioned_objects objects v ++ rest)) i) own

-- The entry behind the values.
pub behind_values : (objects : Contents) (ledger : Option LedgerState) (queue : Option QueueState) (i n count : ℕ)
    → count ≡ length (saved_objects objects) → i ≡ count + n
    → slice_get (entries_of (saved_device objects ledger queue)) i
    ≡ slice_get (entries_of (saved_ledger ledger ++ saved_queue queue)) n
behind_values objects ledger queue i n count c e =
    let rest = saved_ledger ledger ++ saved_queue queue in
    let version = device.needs_version_2 queue ledger in
    let size = same_size objects version in
    ap (λ es. slice_get es i) (split_map (versioned_objects objects version) rest)
    ∙ ap (slice_get (entries_of (versioned_objects objects version) ++ entries_of rest)) e
    ∙ get_rest (entries_of (versioned_objects objects version)) (entries_of rest) n count
    (omega (arith, c, size, map_length (versioned_objects objects version)))

-- ---- a numbered entry

first_length : (key : ℕ → ℕ) (content : ℕ → List ℕ) (count : ℕ) → length (first_of key content count) ≡ count
first_length key content zero = refl
first_length key content (suc count) =
    let h = first_length key content count in
    let l = length-append (first_of key content count) ((key count, content count) ∷ []) in
    omega (arith, h, l)

first_at : (key : ℕ → ℕ) (content : ℕ → List ℕ) (count number : ℕ) → number < count
    → slice_get (first_of key content count) number ≡ Some (key number, content number)
first_at key content zero number h = absurd (omega (arith, h))
first_at key content (suc count) number h =
    go (number == count) (λ below. first_at key content count number below) refl
  where
    go : (is : Bool)
        → (number < count → slice_get (first_of key content count) number ≡ Some (key number, content number))
        → (number == count) ≡ is → slice_get (first_of key content count ++ (key count, content count) ∷ []) number
        ≡ Some (key number, content number)
    go true earlier e =
        let same : number ≡ count + 0 = omega (arith, eqb-true number count e) in
        let back : count ≡ number = sym (eqb-true number count e) in
        ap (slice_get (first_of key content count ++ (key count, content count) ∷ [])) same
        ∙ get_rest (first_of key content count) ((key count, content count) ∷ []) 0 count
        (sym (first_length key content count))
        ∙ ap (λ n. Some (key n, content n)) back
    go false earlier e =
        let below : number < count = omega (arith, h, eqb-false number count e) in
        get_front (first_of key content count) ((key count, content count) ∷ []) number
        (omega (arith, below, first_length key content count))
        ∙ earlier below

pub numbered : (key : ℕ → ℕ) (content : ℕ → List ℕ) (count n k : ℕ) (bytes : List ℕ) → n < count → k ≡ key n
    → bytes ≡ content n → entry_in (Some k) bytes ≡ slice_get (entries_of (first_of key content count)) n
numbered key content count n k bytes h is_key is_bytes =
    ap (λ x. Some (entry_of (x, bytes))) is_key ∙ ap (λ x. Some (entry_of (key n, x))) is_bytes
    ∙ sym (slice_get-map entry_of (first_of key content count) n
    ∙ ap (option_map entry_of) (first_at key content count n h))

pub past_numbered : (key : ℕ → ℕ) (content : ℕ → List ℕ) (count n : ℕ) → count ≤ n
    → None ≡ slice_get (entries_of (first_of key content count)) n
past_numbered key content count n h =
    sym (slice_get_past (entries_of (first_of key content count)) n
    (omega (arith, h, map_length (first_of key content count), first_length key content count)))

-- in front of others, and behind others
pub numbered_first : (key : ℕ → ℕ) (content : ℕ → List ℕ) (count n k : ℕ) (bytes : List ℕ) (rest : Kept) → n < count
    → k ≡ key n → bytes ≡ content n
    → entry_in (Some k) bytes ≡ slice_get (entries_of (first_of key content count ++ rest)) n
numbered_first key content count n k bytes rest h is_key is_bytes =
    numbered key content count n k bytes h is_key is_bytes
    ∙ sym (ap (λ es. slice_get es n) (split_map (first_of key content count) rest)
    ∙ get_front (entries_of (first_of key content count)) (entries_of rest) n
    (omega (arith, h, map_length (first_of key content count), first_length key content count)))

pub behind_numbered : (key : ℕ → ℕ) (content : ℕ → List ℕ) (count i n : ℕ) (rest : Kept) → i ≡ count + n
    → slice_get (entries_of rest) n ≡ slice_get (entries_of (first_of key content count ++ rest)) i
behind_numbered key content count i n rest e =
    sym (ap (λ es. slice_get es i) (split_map (first_of key content count) rest)
    ∙ ap (slice_get (entries_of (first_of key content count) ++ entries_of rest)) e
    ∙ get_rest (entries_of (first_of key content count)) (entries_of rest) n count
    (omega (arith, map_length (first_of key content count), first_length key content count)))

-- an entry of the queue, if there is one
pub in_queue : {A : Type 0} (now : A → QueueState) (queue : Option A) (q : A) (entry : Option Entry) (n : ℕ)
    → queue ≡ Some q → entry ≡ slice_get (entries_of (first_queue_entries (now q) QUEUE_ENTRIES)) n
    → entry ≡ slice_get (entries_of (saved_queue (option_map now queue))) n
in_queue now queue q entry n is e =
    e ∙ ap (λ o. slice_get (entries_of (saved_queue (option_map now o))) n) (sym is)

-- ---- the entries as a source

-- the entry at an index
pub record At (es : List Entry) (i key : ℕ) (bytes : List ℕ) : Type 0 where
  pub below : i < length es
  pub is : entry_number i es ≡ entry_of (key, bytes)

pub at : (es : List Entry) (i key : ℕ) (bytes : List ℕ) → entry_in (Some key) bytes ≡ slice_get es i → At es i key bytes
at [] i key bytes e = absurd (cc)
at (x ∷ es) zero key bytes e =
    record {
      below = omega arith;
      is = let same : entry_of (key, bytes) ≡ x = cc in sym same;
    }
at (x ∷ es) (suc i) key bytes e =
    let h = at es i key bytes e in
    record {
      below = omega (arith, h.below);
      is = h.is;
    }

pub past : (es : List Entry) (i : ℕ) (bytes : List ℕ) → entry_in None bytes ≡ slice_get es i → length es ≤ i
past [] i bytes e = omega arith
past (x ∷ es) zero bytes e = absurd (cc)
past (x ∷ es) (suc i) bytes e = let h = past es i bytes e in omega (arith, h)
