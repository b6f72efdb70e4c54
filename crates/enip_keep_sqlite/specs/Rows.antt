-- What a keeper over a store shows.
use Rattle.std.specs.Prelude.{◌≡◌, ◌≤◌, ◌⊎◌, ℕ, false, IsTrue, List, [], ◌∷◌, Option, Some, None}
use Rattle.sqlite_value.specs.Order.{Row}
use Rattle.enip_keep.specs.declared.entry.Entry.{Entry}
use Rattle.std.specs.List.{AllByRecursion}
use Rattle.sqlite_trees.specs.Tree.{Trees}
use Rattle.sqlite_trees.specs.View.{View, doubt}
use Rattle.sqlite_trees.specs.declared.store.Shape.TheVariants as kinds
use Rattle.enip_keep.specs.Kept.{Kept, pair_of}
use Rattle.enip_keep_sqlite.specs.Pairs.{row_of, pairs_in, put_rows, IsOurs}

-- nothing is under way
pub record IsAtRest (v : View) : Type 0 where
  pub is_open : IsTrue v.is_open
  pub sound : v.is_broken ≡ false
  pub same : v.trees ≡ v.committed
  pub shape : v.shape 0 ≡ kinds.Table
  pub reals : v.reals 0 ≡ 0
  pub ours : AllByRecursion IsOurs (v.trees 0)

-- the first tree is a table without a column of the type REAL, and there is no other tree
pub record IsOnlyTable (v : View) : Type 0 where
  pub shape : v.shape 0 ≡ kinds.Table
  pub alone : v.shape 1 ≡ kinds.Absent
  pub reals : v.reals 0 ≡ 0

-- there is no such table, or it has a row that this keeper does not write
abbrev pub IsForeign : View → Type 0
IsForeign v = (¬ IsOnlyTable v) ⊎ (¬ AllByRecursion IsOurs (v.trees 0))

-- the pairs are put, and nothing is committed
pub record Puts (old new : View) (pairs : Kept) : Type 0 where
  pub rows : new.trees 0 ≡ put_rows pairs (old.trees 0)
  pub sound : new.is_broken ≡ old.is_broken
  pub is_open : new.is_open ≡ old.is_open
  pub committed : new.committed ≡ old.committed
  pub shape : new.shape ≡ old.shape
  pub reals : new.reals ≡ old.reals

-- no doubt and no fault is forgotten, and a crash has no new outcome
pub record IsCalm {S : Type 0} (view : S → View) (faults : S → ℕ) (recovers : S → Trees → Type 0)
    (old new : S) : Type 0 where
  pub clean : doubt (view old).is_clean ≤ doubt (view new).is_clean
  pub counts : faults old ≤ faults new
  pub outcomes : (db : Trees) → recovers new db → recovers old db

-- only cursors have moved
abbrev pub Looks : View → View → Type 0
Looks old new = new ≡ record old { cursors = new.cursors }

-- the cursor gave this entry, or was at its end
abbrev pub Gives : View → View → Option Entry → Type 0
Gives old new None = old.cursors 0 ≡ Some []
Gives old new (Some entry) =
    (rest : List Row) × (old.cursors 0 ≡ Some (row_of (pair_of entry) ∷ rest)) × (new.cursors 0 ≡ Some rest)

-- the row at the cursor is not one that this keeper writes
abbrev pub IsForeignAt : View → Type 0
IsForeignAt v = (row : Row) × (rest : List Row) × (v.cursors 0 ≡ Some (row ∷ rest)) × (¬ IsOurs row)
