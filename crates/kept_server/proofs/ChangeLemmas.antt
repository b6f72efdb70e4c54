-- To set what has changed is to set everything.
use Rattle.std.proofs.Common.{ℕ, ◌≡◌, ◌<◌, List, [], ◌∷◌, Bool, true, false, eqb, refl, sym, ap, ◌∙◌, subst, arith}
use Rattle.std.proofs.lemmas.Bool.{lt-ltb}
use Rattle.std.proofs.Common.{ltb-true, zero, suc, not, ◌+◌, ◌++◌, ◌≢◌, length, take, drop, get_or, append-nil, append_assoc, ◌==◌, add-one}
use Rattle.std.proofs.Math.Seq.{take-suc, drop-cons}
use Rattle.std.proofs.lemmas.List.{map-append}
use lib.Pointwise.{pointwise}
use Rattle.enip_keep.specs.declared.entry.Entry.{Entry}
use Rattle.std.proofs.lemmas.Bool.Decides.{nat_tests}
use Rattle.std.proofs.lemmas.Slice.Eq.{bytes_eq-Decides}
use Rattle.std.proofs.Common.{Result, Ok, Err}
use Rattle.enip_keep.specs.Kept.{IsKeepable, Kept, pair_of, pairs_of, set, set_all}
use Rattle.std.specs.List.{list_any}
use Rattle.std.specs.Prelude.{◌&&◌, ◌^◌, nat_lt, bytes_eq, if◌then◌else◌, OnOk}
use Rattle.enip_keep.proofs.SetLemmas.{set_here, set_before, set_behind, Compared, compared}
use Rattle.enip_keep.proofs.SetLemmas.Compared.{Below, Same, Above}
use Rattle.kept_server.specs.Changes.{keys_of, rise_above, rise, is_small, are_small, AreChanges}
use Rattle.kept_server.specs.Changes.{is_marked, same_first, still_waiting, waiting_for, without_waiting, kept_over}
use Rattle.kept_server.specs.Changes.AreChanges.{No_entry, Is_same, Differs}

set_again_at : (key : ℕ) (first last : List ℕ) (p : ℕ × List ℕ) (rest : Kept) → Compared p.0 key
    → set key last (set key first rest) ≡ set key last rest
    → set key last (set key first (p ∷ rest)) ≡ set key last (p ∷ rest)
set_again_at key first last p rest (Below less) again =
    ap (set key last) (set_behind key first p rest less) ∙ set_behind key last p (set key first rest) less
    ∙ ap (λ xs. p ∷ xs) again ∙ sym (set_behind key last p rest less)
set_again_at key first last p rest (Same is) again =
    ap (set key last) (set_here key first p rest is) ∙ set_here key last (key, first) rest refl
    ∙ sym (set_here key last p rest is)
set_again_at key first last p rest (Above more) again =
    ap (set key last) (set_before key first p rest more) ∙ set_here key last (key, first) (p ∷ rest) refl
    ∙ sym (set_before key last p rest more)

set_again : (key : ℕ) (first last : List ℕ) (kept : Kept) → set key last (set key first kept) ≡ set key last kept
set_again key first last [] = set_here key last (key, first) [] refl
set_again key first last (p ∷ rest) =
    set_again_at key first last p rest (compared p.0 key) (set_again key first last rest)

-- the lesser of two keys is set before the other, or after it
set_apart_at : (low high : ℕ) (a b : List ℕ) (p : ℕ × List ℕ) (rest : Kept) → low < high → Compared p.0 low
    → Compared p.0 high → set low a (set high b rest) ≡ set high b (set low a rest)
    → set low a (set high b (p ∷ rest)) ≡ set high b (set low a (p ∷ rest))
set_apart_at low high a b p rest less (Below under) c same =
    let below : p.0 < high = omega arith in
    ap (set low a) (set_behind high b p rest below) ∙ set_behind low a p (set high b rest) under ∙ ap (λ xs. p ∷ xs) same
    ∙ sym (ap (set high b) (set_behind low a p rest under) ∙ set_behind high b p (set low a rest) below)
set_apart_at low high a b p rest less (Same is) c same =
    let below : p.0 < high = omega arith in
    ap (set low a) (set_behind high b p rest below) ∙ set_here low a p (set high b rest) is
    ∙ sym (ap (set high b) (set_here low a p rest is) ∙ set_behind high b (low, a) rest less)
set_apart_at low high a b p rest less (Above over) (Below under) same =
    ap (set low a) (set_behind high b p rest under) ∙ set_before low a p (set high b rest) over
    ∙ sym (ap (set high b) (set_before low a p rest over) ∙ set_behind high b (low, a) (p ∷ rest) less
    ∙ ap (λ xs. (low, a) ∷ xs) (set_behind high b p rest under))
set_apart_at low high a b p rest less (Above over) (Same is) same =
    ap (set low a) (set_here high b p rest is) ∙ set_before low a (high, b) rest less
    ∙ sym (ap (set high b) (set_before low a p rest over) ∙ set_behind high b (low, a) (p ∷ rest) less
    ∙ ap (λ xs. (low, a) ∷ xs) (set_here high b p rest is))
set_apart_at low high a b p rest less (Above over) (Above beyond) same =
    ap (set low a) (set_before high b p rest beyond) ∙ set_before low a (high, b) (p ∷ rest) less
    ∙ sym (ap (set high b) (set_before low a p rest over) ∙ set_behind high b (low, a) (p ∷ rest) less
    ∙ ap (λ xs. (low, a) ∷ xs) (set_before high b p rest beyond))

set_apart : (low high : ℕ) (a b : List ℕ) (kept : Kept) → low < high
    → set low a (set high b kept) ≡ set high b (set low a kept)
set_apart low high a b [] less =
    set_before low a (high, b) [] less ∙ sym (set_behind high b (low, a) [] less)
set_apart low high a b (p ∷ rest) less =
    set_apart_at low high a b p rest less (compared p.0 low) (compared p.0 high) (set_apart low high a b rest less)

-- entries above a key are above a lesser one
both_first : (a b : Bool) → (a && b) ≡ true → a ≡ true
both_first true b both = refl
both_first false b both = both

both_last : (a b : Bool) → (a && b) ≡ true → b ≡ true
both_last true b both = both
both_last false b both = cc

both : (a b : Bool) → a ≡ true → b ≡ true → (a && b) ≡ true
both a b first last = ap (λ x. x && b) first ∙ last

abbrev RiseAbove : ℕ → Kept → Type 0
RiseAbove key entries = rise_above key (keys_of entries) ≡ true

abbrev pub Rise : Kept → Type 0
Rise entries = rise (keys_of entries) ≡ true

first_above : (key : ℕ) (e : ℕ × List ℕ) (entries : Kept) → RiseAbove key (e ∷ entries) → key < e.0
first_above key e entries rises = ltb-true key e.0 (both_first (nat_lt key e.0) (rise_above e.0 (keys_of entries)) rises)

rest_above : (key : ℕ) (e : ℕ × List ℕ) (entries : Kept) → RiseAbove key (e ∷ entries) → RiseAbove e.0 entries
rest_above key e entries rises = both_last (nat_lt key e.0) (rise_above e.0 (keys_of entries)) rises

above : (low high : ℕ) (entries : Kept) → low < high → RiseAbove high entries → RiseAbove low entries
above low high [] less rises = refl
above low high (e ∷ entries) less rises =
    let first : high < e.0 = first_above high e entries rises in
    let lower : low < e.0 = omega arith in
    both (nat_lt low e.0) (rise_above e.0 (keys_of entries)) (lt-ltb low e.0 lower) (rest_above high e entries rises)

rise_tail : (entry : ℕ × List ℕ) (entries : Kept) → Rise (entry ∷ entries) → Rise entries
rise_tail entry [] rises = refl
rise_tail entry (e ∷ entries) rises = rest_above entry.0 e entries rises

-- a key that is below all others is set before them, or after them
set_all_apart : (key : ℕ) (bytes : List ℕ) (entries kept : Kept) → RiseAbove key entries
    → set_all entries (set key bytes kept) ≡ set key bytes (set_all entries kept)
set_all_apart key bytes [] kept rises = refl
set_all_apart key bytes (e ∷ entries) kept rises =
    ap (set_all entries) (sym (set_apart key e.0 bytes e.1 kept (first_above key e entries rises)))
    ∙ set_all_apart key bytes entries (set e.0 e.1 kept)
    (above key e.0 entries (first_above key e entries rises) (rest_above key e entries rises))

-- ---- entries that wait

not_false : (a : Bool) → (a && false) ≡ false
not_false true = refl
not_false false = refl

not_true : (a : Bool) → (a && true) ≡ a
not_true true = refl
not_true false = refl

pub bytes_same : (xs : List ℕ) → bytes_eq xs xs ≡ true
bytes_same xs = (bytes_eq-Decides xs xs).1 refl

bytes_differ : (xs ys : List ℕ) → xs ≢ ys → bytes_eq xs ys ≡ false
bytes_differ xs ys differ = by (bytes_eq xs ys) refl
  where
    by : (t : Bool) → bytes_eq xs ys ≡ t → t ≡ false
    by true is = absurd (differ ((bytes_eq-Decides xs ys).0 is))
    by false is = refl

-- the first mark, and the others, after a comparison
first_waits : (waits : List Bool) (old new : Kept)
    → is_marked (still_waiting waits old new) ≡ (is_marked waits && same_first old new)
first_waits [] old new = refl
first_waits (w ∷ waits) old new = refl

others_wait : (waits : List Bool) (old new : Kept)
    → drop 1 (still_waiting waits old new) ≡ still_waiting (drop 1 waits) (drop 1 old) (drop 1 new)
others_wait [] old new = refl
others_wait (w ∷ waits) old new = refl

-- if nothing changes, the same entries wait
pub wait_on : (waits : List Bool) (entries : Kept) → still_waiting waits entries entries ≡ waits
wait_on [] entries = refl
wait_on (w ∷ waits) [] = ap (λ t. t ∷ still_waiting waits [] []) (not_true w) ∙ ap (λ ws. w ∷ ws) (wait_on waits [])
wait_on (w ∷ waits) (e ∷ entries) =
    ap (λ t. (w && t) ∷ still_waiting waits entries entries) (bytes_same e.1)
    ∙ ap (λ t. t ∷ still_waiting waits entries entries) (not_true w) ∙ ap (λ ws. w ∷ ws) (wait_on waits entries)

-- those that do not wait, with this entry before them if it does not
abbrev joined : Bool → ℕ × List ℕ → Kept → Kept
joined t entry others = if t then others else entry ∷ others

above_joined : (t : Bool) (key : ℕ) (e : ℕ × List ℕ) (others : Kept) → key < e.0 → RiseAbove e.0 others
    → RiseAbove key (joined t e others)
above_joined true key e others less rises = above key e.0 others less rises
above_joined false key e others less rises =
    both (nat_lt key e.0) (rise_above e.0 (keys_of others)) (lt-ltb key e.0 less) rises

written_above : (key : ℕ) (waits : List Bool) (entries : Kept) → RiseAbove key entries
    → RiseAbove key (without_waiting waits entries)
written_above key waits [] rises = refl
written_above key waits (e ∷ entries) rises =
    above_joined (is_marked waits) key e (without_waiting (drop 1 waits) entries) (first_above key e entries rises)
    (written_above e.0 (drop 1 waits) entries (rest_above key e entries rises))

-- To set what has changed of entries is to set those that do not wait on.
abbrev Lead : List Bool → Kept → Kept → Kept → Type 0
Lead waits old new changes =
    (base : Kept) → set_all changes (kept_over waits old base) ≡ kept_over (still_waiting waits old new) new base

joined_on : (waits : List Bool) (before after : ℕ × List ℕ) (old new : Kept) (t : Bool)
    → (is_marked waits && bytes_eq before.1 after.1) ≡ t
    → without_waiting (still_waiting waits (before ∷ old) (after ∷ new)) (after ∷ new)
    ≡ joined t after (without_waiting (still_waiting (drop 1 waits) old new) new)
joined_on waits before after old new t is =
    ap (λ b. joined b after (without_waiting (drop 1 (still_waiting waits (before ∷ old) (after ∷ new))) new))
    (first_waits waits (before ∷ old) (after ∷ new) ∙ is)
    ∙ ap (λ ws. joined t after (without_waiting ws new)) (others_wait waits (before ∷ old) (after ∷ new))

same_leads : (waits : List Bool) (entry : ℕ × List ℕ) (old new changes : Kept) → Lead (drop 1 waits) old new changes
    → Lead waits (entry ∷ old) (entry ∷ new) changes
same_leads waits entry old new changes next base =
    by (is_marked waits)
    ∙ sym (ap (λ es. set_all es base) (joined_on waits entry entry old new (is_marked waits)
    (ap (λ t. is_marked waits && t) (bytes_same entry.1) ∙ not_true (is_marked waits))))
  where
    by : (t : Bool) → set_all changes (set_all (joined t entry (without_waiting (drop 1 waits) old)) base)
        ≡ set_all (joined t entry (without_waiting (still_waiting (drop 1 waits) old new) new)) base
    by true = next base
    by false = next (set entry.0 entry.1 base)

differs_leads : (waits : List Bool) (key : ℕ) (before after : List ℕ) (old new changes : Kept) → before ≢ after
    → RiseAbove key old → Lead (drop 1 waits) old new changes
    → Lead waits ((key, before) ∷ old) ((key, after) ∷ new) ((key, after) ∷ changes)
differs_leads waits key before after old new changes differ rises next base =
    by (is_marked waits)
    ∙ sym (ap (λ es. set_all es base) (joined_on waits (key, before) (key, after) old new false
    (ap (λ t. is_marked waits && t) (bytes_differ before after differ) ∙ not_false (is_marked waits))))
  where
    rest : Kept
    rest = without_waiting (drop 1 waits) old

    apart : (bytes : List ℕ) (from : Kept) → set_all rest (set key bytes from) ≡ set key bytes (set_all rest from)
    apart bytes from = set_all_apart key bytes rest from (written_above key (drop 1 waits) old rises)

    by : (t : Bool) → set_all changes (set key after (set_all (joined t (key, before) rest) base))
        ≡ kept_over (still_waiting (drop 1 waits) old new) new (set key after base)
    by true = ap (set_all changes) (sym (apart after base)) ∙ next (set key after base)
    by false =
        ap (set_all changes) (ap (set key after) (apart before base) ∙ set_again key before after (set_all rest base)
        ∙ sym (apart after base)) ∙ next (set key after base)

pub set_changes : (waits : List Bool) (old new changes : Kept) → AreChanges old new changes → Rise old
    → Lead waits old new changes
set_changes waits old new changes No_entry rises = λ base. refl
set_changes waits old new changes (Is_same {old = olds} {new = news} {changes = more} {entry = entry} same) rises =
    same_leads waits entry olds news more
    (set_changes (drop 1 waits) olds news more same (rise_tail entry olds rises))
set_changes waits old new changes (Differs {old = olds} {new = news} {changes = more} {key = key} {before = before} {after = after} differ same) rises =
    differs_leads waits key before after olds news more differ rises
    (set_changes (drop 1 waits) olds news more same (rise_tail (key, before) olds rises))

-- ---- the changes, entry by entry

changes_join : (a b c d e f : Kept) → AreChanges a b c → AreChanges d e f → AreChanges (a ++ d) (b ++ e) (c ++ f)
changes_join a b c d e f No_entry more = more
changes_join a b c d e f (Is_same {old = old} {new = new} {changes = changes} is) more =
    Is_same (changes_join old new changes d e f is more)
changes_join a b c d e f (Differs {old = old} {new = new} {changes = changes} differ is) more =
    Differs differ (changes_join old new changes d e f is more)

keys_of_first : (k c : Entry) (kept current : List Entry)
    → keys_of (pairs_of (k ∷ kept)) ≡ keys_of (pairs_of (c ∷ current)) → c.key ≡ k.key
keys_of_first k c kept current keys = cc

keys_of_rest : (k c : Entry) (kept current : List Entry)
    → keys_of (pairs_of (k ∷ kept)) ≡ keys_of (pairs_of (c ∷ current))
    → keys_of (pairs_of kept) ≡ keys_of (pairs_of current)
keys_of_rest k c kept current keys = cc

same_key : (kept current : List Entry) (i : ℕ) (old new : Entry)
    → keys_of (pairs_of kept) ≡ keys_of (pairs_of current) → i < length kept → i < length current
    → get_or kept i old ≡ old → get_or current i new ≡ new → new.key ≡ old.key
same_key [] current i old new keys less below is at = absurd (omega arith)
same_key (k ∷ kept) [] i old new keys less below is at = absurd (omega arith)
same_key (k ∷ kept) (c ∷ current) zero old new keys less below is at =
    let first : k ≡ old = is in
    let last : c ≡ new = at in
    ap (λ (e : Entry). e.key) (sym last) ∙ keys_of_first k c kept current keys ∙ ap (λ (e : Entry). e.key) first
same_key (k ∷ kept) (c ∷ current) (suc i) old new keys less below is at =
    same_key kept current i old new (keys_of_rest k c kept current keys) (omega arith) (omega arith) is at

abbrev one : Entry → List Entry
one e = e ∷ []

pairs_more : (entries : List Entry) (i : ℕ) (e : Entry) → i < length entries → get_or entries i e ≡ e
    → pairs_of (take (i + 1) entries) ≡ pairs_of (take i entries) ++ (pair_of e ∷ [])
pairs_more entries i e less is =
    ap pairs_of (ap (λ n. take n entries) (add-one i) ∙ take-suc entries i e less
    ∙ ap (λ x. take i entries ++ one x) is) ∙ map-append pair_of (take i entries) (one e)

module _ (kept current : List Entry) (i : ℕ) (old new : Entry) (keys : keys_of (pairs_of kept) ≡ keys_of (pairs_of current))
    (less : i < length kept) (below : i < length current) (is : get_or kept i old ≡ old)
    (at : get_or current i new ≡ new) (changed : List Entry)
    (before : AreChanges (pairs_of (take i kept)) (pairs_of (take i current)) (pairs_of changed)) where
  with_one : (more : Kept) → AreChanges (pair_of old ∷ []) (pair_of new ∷ []) more
      → AreChanges (pairs_of (take (i + 1) kept)) (pairs_of (take (i + 1) current)) (pairs_of changed ++ more)
  with_one more last =
      subst (λ xs. AreChanges xs (pairs_of (take (i + 1) current)) (pairs_of changed ++ more))
      (sym (pairs_more kept i old less is))
      (subst (λ xs. AreChanges (pairs_of (take i kept) ++ (pair_of old ∷ [])) xs (pairs_of changed ++ more))
      (sym (pairs_more current i new below at))
      (changes_join (pairs_of (take i kept)) (pairs_of (take i current)) (pairs_of changed) (pair_of old ∷ [])
      (pair_of new ∷ []) more before last))

  pub more_same : old.bytes.items ≡ new.bytes.items
      → AreChanges (pairs_of (take (i + 1) kept)) (pairs_of (take (i + 1) current)) (pairs_of changed)
  more_same same =
      let pair : pair_of old ≡ pair_of new
      = ap (λ k. (k, old.bytes.items)) (sym (same_key kept current i old new keys less below is at))
      ∙ ap (λ b. (new.key, b)) same in
      subst (AreChanges (pairs_of (take (i + 1) kept)) (pairs_of (take (i + 1) current))) (append-nil (pairs_of changed))
      (with_one [] (subst (λ p. AreChanges (pair_of old ∷ []) (p ∷ []) []) pair (Is_same No_entry)))

  pub more_differs : old.bytes.items ≢ new.bytes.items → (copy : Entry) → copy.key ≡ new.key → copy.bytes.items ≡ new.bytes.items
      → AreChanges (pairs_of (take (i + 1) kept)) (pairs_of (take (i + 1) current)) (pairs_of (changed ++ one copy))
  more_differs differ copy key bytes =
      let pair : pair_of copy ≡ pair_of new
      = ap (λ k. (k, copy.bytes.items)) key ∙ ap (λ b. (new.key, b)) bytes in
      let first : (old.key, old.bytes.items) ≡ (new.key, old.bytes.items)
      = ap (λ k. (k, old.bytes.items)) (sym (same_key kept current i old new keys less below is at)) in
      let differs : AreChanges ((new.key, old.bytes.items) ∷ []) (pair_of new ∷ []) (pair_of new ∷ []) = Differs differ No_entry in
      subst (AreChanges (pairs_of (take (i + 1) kept)) (pairs_of (take (i + 1) current)))
      (sym (map-append pair_of changed (one copy) ∙ ap (λ p. pairs_of changed ++ (p ∷ [])) pair))
      (with_one (pair_of new ∷ []) (subst (λ p. AreChanges (p ∷ []) (pair_of new ∷ []) (pair_of new ∷ [])) (sym first) differs))

-- the lists are as long as each other
pub same_length : (kept current : List Entry) → keys_of (pairs_of kept) ≡ keys_of (pairs_of current)
    → length current ≡ length kept
same_length [] [] keys = refl
same_length [] (c ∷ current) keys = cc
same_length (k ∷ kept) [] keys = cc
same_length (k ∷ kept) (c ∷ current) keys = ap suc (same_length kept current (keys_of_rest k c kept current keys))

-- bytes that compare as equal are equal
pub bytes_equal : (xs ys : List ℕ) → pointwise eqb xs ys ≡ true → xs ≡ ys
bytes_equal [] [] is = refl
bytes_equal [] (y ∷ ys) is = cc
bytes_equal (x ∷ xs) [] is = cc
bytes_equal (x ∷ xs) (y ∷ ys) is = grind (arith, nat_tests, bytes_equal xs ys)

pub bytes_unequal : (xs ys : List ℕ) → not (pointwise eqb xs ys) ≡ true → xs ≢ ys
bytes_unequal xs ys is same = by (pointwise eqb xs ys) is (ap (pointwise eqb xs) (sym same) ∙ bytes_same xs)
  where
    by : (t : Bool) → not t ≡ true → t ≡ true → ⊥
    by true is same = cc
    by false is same = cc

pub unequal_not : (same : Bool) → not same ≡ false → same ≡ true
unequal_not true is = refl
unequal_not false is = cc

-- changes to entries that are small enough are small enough
pub small_changes : (old new changes : Kept) → AreChanges old new changes → are_small new ≡ true
    → are_small changes ≡ true
small_changes old new changes No_entry small = refl
small_changes old new changes (Is_same {old = olds} {new = news} {changes = more} {entry = entry} is) small =
    small_changes olds news more is (both_last (is_small entry) (are_small news) small)
small_changes old new changes (Differs {old = olds} {new = news} {changes = more} {key = key} {after = after} differ is) small =
    both (is_small (key, after)) (are_small more) (both_first (is_small (key, after)) (are_small news) small)
    (small_changes olds news more is (both_last (is_small (key, after)) (are_small news) small))

-- ---- marks, entry by entry

rest_pairs : (xs : List Entry) (i : ℕ) → drop 1 (pairs_of (drop i xs)) ≡ pairs_of (drop (suc i) xs)
rest_pairs [] zero = refl
rest_pairs [] (suc i) = refl
rest_pairs (x ∷ xs) zero = refl
rest_pairs (x ∷ xs) (suc i) = rest_pairs xs i

rest_marks : (xs : List Bool) (i : ℕ) → drop 1 (drop i xs) ≡ drop (suc i) xs
rest_marks [] zero = refl
rest_marks [] (suc i) = refl
rest_marks (x ∷ xs) zero = refl
rest_marks (x ∷ xs) (suc i) = rest_marks xs i

pub still_more : (waits marks all : List Bool) (old new : List Entry) (i : ℕ) (d mark : Bool) → i < length waits
    → mark ≡ (get_or waits i d && same_first (pairs_of (drop i old)) (pairs_of (drop i new)))
    → marks ++ still_waiting (drop i waits) (pairs_of (drop i old)) (pairs_of (drop i new)) ≡ all
    → (marks ++ mark ∷ []) ++ still_waiting (drop (i + 1) waits) (pairs_of (drop (i + 1) old)) (pairs_of (drop (i + 1) new))
    ≡ all
still_more waits marks all old new i d mark less is sofar =
    ap (λ n. (marks ++ mark ∷ []) ++ still_waiting (drop n waits) (pairs_of (drop n old)) (pairs_of (drop n new)))
    (add-one i)
    ∙ append_assoc marks (mark ∷ []) (still_waiting others (pairs_of (drop (suc i) old)) (pairs_of (drop (suc i) new)))
    ∙ ap (λ m. marks ++ m ∷ still_waiting others (pairs_of (drop (suc i) old)) (pairs_of (drop (suc i) new))) is
    ∙ ap (λ es. marks ++ head ∷ still_waiting others es (pairs_of (drop (suc i) new))) (sym (rest_pairs old i))
    ∙ ap (λ es. marks ++ head ∷ still_waiting others (drop 1 (pairs_of (drop i old))) es) (sym (rest_pairs new i))
    ∙ ap (λ ws. marks ++ still_waiting ws (pairs_of (drop i old)) (pairs_of (drop i new))) (sym (drop-cons waits i d less))
    ∙ sofar
  where
    head : Bool
    head = get_or waits i d && same_first (pairs_of (drop i old)) (pairs_of (drop i new))

    others : List Bool
    others = drop (suc i) waits

both_parts : (copies : Kept) (t : Bool) (e : ℕ × List ℕ) (others : Kept)
    → (copies ++ (if t then [] else e ∷ [])) ++ others ≡ copies ++ joined t e others
both_parts copies true e others = ap (λ es. es ++ others) (append-nil copies)
both_parts copies false e others = append_assoc copies (e ∷ []) others

pub written_more : (waits : List Bool) (entries : List Entry) (copies now all : Kept) (i : ℕ) (e : Entry) (mark : Bool)
    → i < length entries → get_or entries i e ≡ e → mark ≡ is_marked (drop i waits)
    → now ≡ copies ++ (if mark then [] else pair_of e ∷ [])
    → copies ++ without_waiting (drop i waits) (pairs_of (drop i entries)) ≡ all
    → now ++ without_waiting (drop (i + 1) waits) (pairs_of (drop (i + 1) entries)) ≡ all
written_more waits entries copies now all i e mark less at is pushed sofar =
    ap (λ n. now ++ without_waiting (drop n waits) (pairs_of (drop n entries))) (add-one i)
    ∙ ap (λ es. es ++ rest) pushed ∙ both_parts copies mark (pair_of e) rest
    ∙ ap (λ t. copies ++ joined t (pair_of e) rest) is
    ∙ ap (λ ws. copies ++ joined (is_marked (drop i waits)) (pair_of e) (without_waiting ws (pairs_of (drop (suc i) entries))))
    (sym (rest_marks waits i))
    ∙ ap (λ es. copies ++ without_waiting (drop i waits) (pairs_of es))
    (sym (drop-cons entries i e less ∙ ap (λ x. x ∷ drop (suc i) entries) at)) ∙ sofar
  where
    rest : Kept
    rest = without_waiting (drop (suc i) waits) (pairs_of (drop (suc i) entries))

pub marked_more : (keys : List ℕ) (entries : List Entry) (marks : List Bool) (i : ℕ) (e : Entry) (mark : Bool)
    → i < length entries → get_or entries i e ≡ e → mark ≡ list_any (λ k. k == e.key) keys
    → marks ≡ waiting_for keys (pairs_of (take i entries))
    → marks ++ mark ∷ [] ≡ waiting_for keys (pairs_of (take (i + 1) entries))
marked_more keys entries marks i e mark less at is sofar =
    ap (λ ms. ms ++ mark ∷ []) sofar
    ∙ ap (λ m. waiting_for keys (pairs_of (take i entries)) ++ m ∷ []) is
    ∙ sym (map-append (λ (entry : ℕ × List ℕ). list_any (λ key. key == entry.0) keys) (pairs_of (take i entries)) (pair_of e ∷ []))
    ∙ sym (ap (waiting_for keys) (pairs_more entries i e less at))

-- ---- as the calls say it

pub changes_kept : {T E : Type 0} (r : Result T E) (waits marks : List Bool) (last next changed : Kept)
    → marks ≡ still_waiting waits last next → Rise last → OnOk r (AreChanges last next changed)
    → OnOk r ((found : Kept) → set_all changed (kept_over waits last found) ≡ kept_over marks next found)
changes_kept (Ok x) waits marks last next changed is rises changes =
    λ found. set_changes waits last next changed changes rises found ∙ ap (λ ws. kept_over ws next found) (sym is)
changes_kept (Err e) waits marks last next changed is rises changes = tt

pub changes_small : {T E : Type 0} (r : Result T E) (kept next changed : Kept) → OnOk r (AreChanges kept next changed)
    → are_small next ≡ true → OnOk r (are_small changed ≡ true)
changes_small (Ok x) kept next changed changes small = small_changes kept next changed changes small
changes_small (Err e) kept next changed changes small = tt

small_joined : (t : Bool) (e : ℕ × List ℕ) (others : Kept) → is_small e ≡ true → are_small others ≡ true
    → are_small (joined t e others) ≡ true
small_joined true e others first rest = rest
small_joined false e others first rest = both (is_small e) (are_small others) first rest

pub small_written : (marks : List Bool) (entries : Kept) → are_small entries ≡ true
    → are_small (without_waiting marks entries) ≡ true
small_written marks [] small = refl
small_written marks (e ∷ entries) small =
    small_joined (is_marked marks) e (without_waiting (drop 1 marks) entries) (both_first (is_small e) (are_small entries) small)
    (small_written (drop 1 marks) entries (both_last (is_small e) (are_small entries) small))

pub small_two : (first second : Kept) → are_small first ≡ true → are_small second ≡ true
    → are_small (first ++ second) ≡ true
small_two [] second small more = more
small_two (e ∷ first) second small more =
    both (is_small e) (are_small (first ++ second)) (both_first (is_small e) (are_small first) small)
    (small_two first second (both_last (is_small e) (are_small first) small) more)

set_two : (first second base : Kept) → set_all (first ++ second) base ≡ set_all second (set_all first base)
set_two [] second base = refl
set_two (e ∷ first) second base = set_two first second (set e.0 e.1 base)

pub appended : (first second : List Entry) → pairs_of (first ++ second) ≡ pairs_of first ++ pairs_of second
appended first second = map-append pair_of first second

-- changes, and then more of them
pub changes_join_up : (first second all : List Entry) (base between end : Kept) → all ≡ first ++ second
    → set_all (pairs_of first) base ≡ between → set_all (pairs_of second) between ≡ end → set_all (pairs_of all) base ≡ end
changes_join_up first second all base between end is one other =
    ap (λ es. set_all (pairs_of es) base) is ∙ ap (λ es. set_all es base) (appended first second)
    ∙ set_two (pairs_of first) (pairs_of second) base ∙ ap (set_all (pairs_of second)) one ∙ other

pub small_keepable : (entries : List Entry) → are_small (pairs_of entries) ≡ true → (k : ℕ) (d : Entry)
    → k < length entries → IsKeepable (get_or entries k d)
small_keepable [] small k d less = absurd (omega arith)
small_keepable (e ∷ entries) small zero d less =
    let here : is_small (pair_of e) ≡ true = both_first (is_small (pair_of e)) (are_small (pairs_of entries)) small in (
      ltb-true e.key (2 ^ 63) (both_first (nat_lt e.key (2 ^ 63)) (nat_lt (length e.bytes.items) (2 ^ 16)) here),
      ltb-true (length e.bytes.items) (2 ^ 16)
          (both_last (nat_lt e.key (2 ^ 63)) (nat_lt (length e.bytes.items) (2 ^ 16)) here),
    )
small_keepable (e ∷ entries) small (suc k) d less =
    small_keepable entries (both_last (is_small (pair_of e)) (are_small (pairs_of entries)) small) k d (omega arith)
