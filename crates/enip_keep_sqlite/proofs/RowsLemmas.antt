-- Rows that are put one after another, and as pairs.
use Rattle.std.proofs.Common.{◌≡◌, ◌≤◌, ◌⊎◌, inl, inr, ℕ, ◌+◌, pos, List, [], ◌∷◌, ◌++◌, map, length, refl, sym, ap, subst, ◌∙◌, arith, true, false, Bool, cond, ◌==◌, nat_lt, nat_eq, IsTrue, int_cmp, if◌then◌else◌}
use Rattle.std.proofs.Common.{take, get_or, ◌<◌}
use Rattle.std.proofs.lemmas.List.{map_more}
use Rattle.std.proofs.lemmas.Int.{ints}
use Rattle.std.proofs.lemmas.Bool.Decides.{nat_tests}
use Rattle.std.proofs.lemmas.Bool.{cases_order}
use Rattle.std.specs.declared.cmp.Ordering.{Ordering}
use Rattle.std.specs.declared.cmp.Ordering.TheVariants.{Less, Equal, Greater}
use Rattle.std.specs.List.{AllByRecursion}
use Rattle.std.specs.Ordering.{match_ordering}
use Rattle.sqlite_disk.specs.Disk.{MoreFaults}
use Rattle.sqlite_value.specs.Order.{Row, value_cmp}
use Rattle.sqlite_value.specs.declared.value.Value.TheVariants.{Null, Int, Blob}
use Rattle.sqlite_value.proofs.OrderLemmas.{value_cmp-Int}
use Rattle.sqlite_trees.specs.Tree.{Trees, rowid, put_row, from_key}
use Rattle.sqlite_value.specs.declared.keys.Order.{Order}
use Rattle.sqlite_trees.specs.View.{View, Commits}
use Rattle.sqlite_trees.proofs.TreeLemmas.{all-put_row}
use Rattle.enip_keep.specs.Kept.{Kept, set, set_all, pair_of, pairs_of}
use Rattle.enip_keep.specs.declared.entry.Entry.{Entry}
use Rattle.enip_keep_sqlite.specs.Pairs.{row_of, pair_in, pairs_in, IsOurs, put_rows}
use Rattle.enip_keep_sqlite.specs.Rows.{Puts, IsCalm, IsAtRest, Looks}
use Rattle.sqlite_trees.specs.declared.store.Shape.TheVariants as kinds
use Rattle.enip_keep_sqlite.specs.Laws.{MayLeave}
use Rattle.sqlite_trees.specs.declared.store.Shape.{Shape}

put_rows-append : (ps qs : Kept) (rows : List Row) → put_rows (ps ++ qs) rows ≡ put_rows qs (put_rows ps rows)
put_rows-append [] qs rows = refl
put_rows-append (p ∷ ps) qs rows = put_rows-append ps qs (put_row (row_of p) rows)

pub puts_then : (a b c : View) (ps qs : Kept) → Puts a b ps → Puts b c qs → Puts a c (ps ++ qs)
puts_then a b c ps qs h k =
    record {
      rows = k.rows ∙ ap (put_rows qs) h.rows ∙ sym (put_rows-append ps qs (a.trees 0));
      sound = k.sound ∙ h.sound;
      is_open = k.is_open ∙ h.is_open;
      committed = k.committed ∙ h.committed;
      shape = k.shape ∙ h.shape;
      reals = k.reals ∙ h.reals;
    }

pub calm_then : {S : Type 0} (view : S → View) (faults : S → ℕ) (recovers : S → Trees → Type 0) (a b c : S) → IsCalm view faults recovers a b → IsCalm view faults recovers b c → IsCalm view faults recovers a c
calm_then view faults recovers a b c h k =
    record {
      clean = omega (arith, h.clean, k.clean);
      counts = omega (arith, h.counts, k.counts);
      outcomes = λ db after. h.outcomes db (k.outcomes db after);
    }

pub pairs_more : (xs : List Entry) (i : ℕ) (x : Entry) → i < length xs → x ≡ get_or xs i x → pairs_of (take (i + 1) xs) ≡ pairs_of (take i xs) ++ pair_of x ∷ []
pairs_more xs i x within at = map_more pair_of xs i x within ∙ ap (λ (y : Entry). pairs_of (take i xs) ++ pair_of y ∷ []) (sym at)

abbrev Tests : ℕ → ℕ → Ordering → Bool → Bool → Type 0
Tests a b o same less = (int_cmp (pos a) (pos b) ≡ o) × ((a == b) ≡ same) × (nat_lt b a ≡ less)

below : (a b : ℕ) → a < b → Tests a b Less false false
below a b h = (grind (arith, ints, nat_tests), grind (arith, nat_tests), grind (arith, nat_tests))

level : (a b : ℕ) → a ≡ b → Tests a b Equal true false
level a b h = (grind (arith, ints, nat_tests), grind (arith, nat_tests), grind (arith, nat_tests))

above : (a b : ℕ) → b < a → Tests a b Greater false true
above a b h = (grind (arith, ints, nat_tests), grind (arith, nat_tests), grind (arith, nat_tests))

-- the order of two rowids, and the tests of `set`
tests_from : (a b : ℕ) (x y z : Kept) → (a ≡ b) ⊎ ((a < b) ⊎ (b < a)) → match_ordering (int_cmp (pos a) (pos b)) x y z ≡ (if a == b then y else (if nat_lt b a then z else x))
tests_from a b x y z (inr (inl h)) = let t = below a b h in rw (t.0, t.1, t.2)
tests_from a b x y z (inl h) = let t = level a b h in rw (t.0, t.1)
tests_from a b x y z (inr (inr h)) = let t = above a b h in rw (t.0, t.1, t.2)

tests : (a b : ℕ) (x y z : Kept) → match_ordering (int_cmp (pos a) (pos b)) x y z ≡ (if a == b then y else (if nat_lt b a then z else x))
tests a b x y z = tests_from a b x y z (cases_order a b)

apart : (o : Ordering) (x y z : List Row) → pairs_in (match_ordering o x y z) ≡ match_ordering o (pairs_in x) (pairs_in y) (pairs_in z)
apart Less x y z = refl
apart Equal x y z = refl
apart Greater x y z = refl

-- a row that is put is a pair that is set
put_set : (p : ℕ × List ℕ) (rows : List Row) → AllByRecursion IsOurs rows → pairs_in (put_row (row_of p) rows) ≡ set p.0 p.1 (pairs_in rows)
put_set p [] all = refl
put_set p (r ∷ rows) all =
    let q = pair_in r in
    let more = put_set p rows all.1 in
    let order : value_cmp (rowid r) (Int (pos p.0)) ≡ int_cmp (pos q.0) (pos p.0) = ap (λ s. value_cmp (rowid s) (Int (pos p.0))) all.0 ∙ value_cmp-Int (pos q.0) (pos p.0) in
    apart (value_cmp (rowid r) (Int (pos p.0))) (r ∷ put_row (row_of p) rows) (row_of p ∷ rows) (row_of p ∷ r ∷ rows)
    ∙ ap (λ o. match_ordering o (q ∷ pairs_in (put_row (row_of p) rows)) (p ∷ pairs_in rows) (p ∷ q ∷ pairs_in rows)) order
    ∙ tests q.0 p.0 (q ∷ pairs_in (put_row (row_of p) rows)) (p ∷ pairs_in rows) (p ∷ q ∷ pairs_in rows)
    ∙ ap (λ (rest : Kept). if q.0 == p.0 then p ∷ pairs_in rows else (if nat_lt p.0 q.0 then p ∷ q ∷ pairs_in rows else q ∷ rest)) more

pub put_set_all : (ps : Kept) (rows : List Row) → AllByRecursion IsOurs rows → (pairs_in (put_rows ps rows) ≡ set_all ps (pairs_in rows)) × AllByRecursion IsOurs (put_rows ps rows)
put_set_all [] rows all = (refl, all)
put_set_all (p ∷ ps) rows all =
    let next = all-put_row IsOurs (row_of p) rows refl all in
    let rest = put_set_all ps (put_row (row_of p) rows) next in
    (rest.0 ∙ ap (set_all ps) (put_set p rows all), rest.1)

-- no key stands before each entry
pub from_nothing : (o : Order) (es : List Row) → from_key o [] es ≡ es
from_nothing o [] = refl
from_nothing o (e ∷ es) = refl

-- entries whose rows are in the table are its pairs
pub shown : (all : List Entry) (rows : List Row) → map (λ e. row_of (pair_of e)) all ≡ rows → pairs_of all ≡ pairs_in rows
shown all rows h = back all ∙ ap pairs_in h where
  back : (all : List Entry) → pairs_of all ≡ pairs_in (map (λ e. row_of (pair_of e)) all)
  back [] = refl
  back (e ∷ es) = ap (λ (ps : Kept). pair_of e ∷ ps) (back es)

-- rows that were put are pairs that were set
pub put_pairs : (old mid : View) (ps : Kept) → IsAtRest old → Puts old mid ps → pairs_in (mid.trees 0) ≡ set_all ps (pairs_in (old.committed 0))
put_pairs old mid ps up puts =
    ap pairs_in puts.rows ∙ (put_set_all ps (old.trees 0) up.ours).0 ∙ ap (λ (t : Trees). set_all ps (pairs_in (t 0))) up.same

pub commits : (old mid new : View) (ps : Kept) → IsAtRest old → Puts old mid ps → Commits mid new → IsAtRest new × (pairs_in (new.committed 0) ≡ set_all ps (pairs_in (old.committed 0)))
commits old mid new ps up puts did =
    let trees : new.trees ≡ mid.trees = ap (λ (v : View). v.trees) did.is in
    let committed : new.committed ≡ mid.trees = ap (λ (v : View). v.committed) did.is in
    let is_open : new.is_open ≡ old.is_open = ap (λ (v : View). v.is_open) did.is ∙ puts.is_open in
    let ours = subst (AllByRecursion IsOurs) (sym (ap (λ (t : Trees). t 0) trees ∙ puts.rows)) (put_set_all ps (old.trees 0) up.ours).1 in (
      record {
        is_open = subst IsTrue (sym is_open) up.is_open;
        sound = ap (λ (v : View). v.is_broken) did.is ∙ did.sound;
        same = trees ∙ sym committed;
        shape = ap (λ (v : View). v.shape 0) did.is ∙ ap (λ (shape : ℕ → Shape). shape 0) puts.shape ∙ up.shape;
        reals = ap (λ (v : View). v.reals 0) did.is ∙ ap (λ (reals : ℕ → ℕ). reals 0) puts.reals ∙ up.reals;
        ours = ours;
      },
      ap (λ (t : Trees). pairs_in (t 0)) committed ∙ put_pairs old mid ps up puts,
    )

-- what a commit may leave was possible before, or has the pairs
pub may_commit : (recovers : Trees → Type 0) (old mid : View) (ps : Kept) (db : Trees) (c : Kept) → IsAtRest old → Puts old mid ps → c ≡ pairs_in (db 0)
    → ((mid.is_broken ≡ false) × (db ≡ mid.trees)) ⊎ recovers db → MayLeave recovers c ⊎ (c ≡ set_all ps (pairs_in (old.committed 0)))
may_commit recovers old mid ps db c up puts is (inl new) = inr (is ∙ ap (λ (t : Trees). pairs_in (t 0)) new.1 ∙ put_pairs old mid ps up puts)
may_commit recovers old mid ps db c up puts is (inr before) = inl (db, before, is)

-- the same, where no write has added an outcome
pub before_put : (first recovers : Trees → Type 0) (old mid : View) (ps : Kept) (db : Trees) (c : Kept) → IsAtRest old → Puts old mid ps → c ≡ pairs_in (db 0)
    → ((t : Trees) → recovers t → first t) → ((mid.is_broken ≡ false) × (db ≡ mid.trees)) ⊎ recovers db → MayLeave first c ⊎ (c ≡ set_all ps (pairs_in (old.committed 0)))
before_put first recovers old mid ps db c up puts is calm (inl new) = may_commit first old mid ps db c up puts is (inl new)
before_put first recovers old mid ps db c up puts is calm (inr before) = may_commit first old mid ps db c up puts is (inr (calm db before))

open_if_sound : (v : View) (b : Bool) → v.is_open ≡ b → v.is_broken ≡ false → (v.is_open ≡ false → IsTrue v.is_broken) → IsTrue v.is_open
open_if_sound v true e sound shut = e
open_if_sound v false e sound shut = absurd (let broken = shut e in cc)

all_ours : (es : List Entry) → AllByRecursion IsOurs (map (λ e. row_of (pair_of e)) es)
all_ours [] = tt
all_ours (e ∷ es) = (refl, all_ours es)

-- a store whose rows were read is at rest
pub at_rest : (old new : View) (all : List Entry) → Looks old new → old.is_broken ≡ false → (old.is_open ≡ false → IsTrue old.is_broken) → (IsTrue old.is_open → old.trees ≡ old.committed)
    → old.shape 0 ≡ kinds.Table → old.reals 0 ≡ 0 → map (λ e. row_of (pair_of e)) all ≡ old.trees 0 → IsAtRest new
at_rest old new all looks sound shut same shape reals rows =
    let is_open : IsTrue old.is_open = open_if_sound old old.is_open refl sound shut in
    record {
      is_open = subst (λ (v : View). IsTrue v.is_open) (sym looks) is_open;
      sound = ap (λ (v : View). v.is_broken) looks ∙ sound;
      same = ap (λ (v : View). v.trees) looks ∙ same is_open ∙ sym (ap (λ (v : View). v.committed) looks);
      shape = ap (λ (v : View). v.shape 0) looks ∙ shape;
      reals = ap (λ (v : View). v.reals 0) looks ∙ reals;
      ours = subst (AllByRecursion IsOurs) (rows ∙ sym (ap (λ (v : View). v.trees 0) looks)) (all_ours all);
    }
