-- The causes of a store, as those of a keeper.
use Rattle.std.proofs.Common.{◌≡◌, ◌≤◌, ◌<◌, ◌+◌, ◌-◌, ◌^◌, ◌⊎◌, inl, inr, ℕ, pos, min, Option, Some, List, [], ◌∷◌, ◌++◌, map, length, refl, sym, ap, subst, ◌∙◌, arith, true, false, Bool, IsTrue}
use Rattle.std.specs.List.{AllByRecursion}
use Rattle.sqlite_disk.specs.Disk.{MoreFaults}
use Rattle.sqlite_value.specs.Order.{Row}
use Rattle.sqlite_trees.specs.View.{View, HasCause}
use Rattle.sqlite_trees.specs.declared.error.StoreError.{StoreError}
use Rattle.sqlite_trees.specs.declared.error.StoreError.TheVariants.{OutOfMemory, Io, Corrupt, Full, Broken, Unstorable}
use Rattle.enip_keep.specs.declared.entry.KeepError.{KeepError}
use Rattle.enip_keep.specs.declared.entry.KeepError.TheVariants.{Memory, Storage, Stopped, Foreign, Refused}
use Rattle.enip_keep.specs.Causes.{HasFailed, IsCause}
use Rattle.enip_keep_sqlite.specs.Causes.{keep_error, IsRowCause}
use Rattle.enip_keep.specs.declared.entry.Entry.{Entry}
use Rattle.enip_keep.specs.Kept.{pair_of}
use Rattle.enip_keep_sqlite.specs.Pairs.{row_of, IsOurs}

-- the error of a call that stores nothing which cannot be stored
pub row_cause : (v : View) (IsForeign Unstored : Type 0) (a b : ℕ) (e : StoreError) → (Unstored → ⊥) → HasCause v (MoreFaults a b) Unstored e
    → IsRowCause (IsTrue v.is_broken) IsForeign a b (keep_error e)
row_cause v IsForeign Unstored a b OutOfMemory stored cause = cause
row_cause v IsForeign Unstored a b Io stored cause = inr cause
row_cause v IsForeign Unstored a b Corrupt stored cause = inr cause
row_cause v IsForeign Unstored a b Full stored cause = inr cause
row_cause v IsForeign Unstored a b Broken stored cause = inl cause
row_cause v IsForeign Unstored a b Unstorable stored cause = absurd (stored cause)

failed_within : (a a' b b' : ℕ) → a' ≤ a → b ≤ b' → HasFailed a b → HasFailed a' b'
failed_within a a' b b' low high failed = grind (arith, low, high, failed)

-- the same between counts that are further apart
pub cause_within : (IsBroken IsBefore IsForeign IsOther : Type 0) (a a' b b' : ℕ) (e : KeepError) → a' ≤ a → b ≤ b' → (IsBroken → IsBefore) → (IsForeign → IsOther)
    → IsRowCause IsBroken IsForeign a b e → IsRowCause IsBefore IsOther a' b' e
cause_within IsBroken IsBefore IsForeign IsOther a a' b b' Memory low high broken foreign cause = cause
cause_within IsBroken IsBefore IsForeign IsOther a a' b b' (Storage fault) low high broken foreign (inl cause) = inl (broken cause)
cause_within IsBroken IsBefore IsForeign IsOther a a' b b' (Storage fault) low high broken foreign (inr cause) = inr (failed_within a a' b b' low high cause)
cause_within IsBroken IsBefore IsForeign IsOther a a' b b' Stopped low high broken foreign cause = cause
cause_within IsBroken IsBefore IsForeign IsOther a a' b b' Foreign low high broken foreign cause = foreign cause
cause_within IsBroken IsBefore IsForeign IsOther a a' b b' Refused low high broken foreign cause = cause

-- nothing was broken, and no row is foreign
pub plain_cause : (IsBroken IsForeign : Type 0) (a b : ℕ) (e : KeepError) → (IsBroken → ⊥) → (IsForeign → ⊥) → IsRowCause IsBroken IsForeign a b e → IsCause a b e
plain_cause IsBroken IsForeign a b Memory sound ours cause = cause
plain_cause IsBroken IsForeign a b (Storage fault) sound ours (inl cause) = absurd (sound cause)
plain_cause IsBroken IsForeign a b (Storage fault) sound ours (inr cause) = cause
plain_cause IsBroken IsForeign a b Stopped sound ours cause = cause
plain_cause IsBroken IsForeign a b Foreign sound ours cause = absurd (ours cause)
plain_cause IsBroken IsForeign a b Refused sound ours cause = cause

-- a row of the list
pub among : (P : Row → Type 0) (xs : List Row) (r : Row) (rest : List Row) → AllByRecursion P (xs ++ r ∷ rest) → P r
among P [] r rest all = all.0
among P (x ∷ xs) r rest all = among P xs r rest all.1

-- a row of the list that is not ours
pub foreign_among : (front all rest others : List Row) (r : Row) (left : Option (List Row)) → left ≡ Some others → left ≡ Some (r ∷ rest) → front ++ others ≡ all
    → (IsOurs r → ⊥) → AllByRecursion IsOurs all → ⊥
foreign_among front all rest others r left one two whole foreign ours =
    let same : others ≡ r ∷ rest = cc in
    foreign (among IsOurs front r rest (subst (λ xs. AllByRecursion IsOurs (front ++ xs)) same (subst (AllByRecursion IsOurs) (sym whole) ours)))

-- the rows of the entries so far, with one more
pub rows_more : (so_far pushed : List Entry) (e : Entry) (all rest others : List Row) (left : Option (List Row)) → pushed ≡ so_far ++ e ∷ [] → left ≡ Some others
    → left ≡ Some (row_of (pair_of e) ∷ rest) → map (λ (x : Entry). row_of (pair_of x)) so_far ++ others ≡ all → map (λ (x : Entry). row_of (pair_of x)) pushed ++ rest ≡ all
rows_more so_far pushed e all rest others left push one two whole =
    let same : others ≡ row_of (pair_of e) ∷ rest = cc in
    ap (λ (xs : List Entry). map (λ (x : Entry). row_of (pair_of x)) xs ++ rest) push ∙ go so_far ∙ ap (λ (xs : List Row). map (λ (x : Entry). row_of (pair_of x)) so_far ++ xs) (sym same) ∙ whole
  where
    go : (xs : List Entry) → map (λ (x : Entry). row_of (pair_of x)) (xs ++ e ∷ []) ++ rest ≡ map (λ (x : Entry). row_of (pair_of x)) xs ++ row_of (pair_of e) ∷ rest
    go [] = refl
    go (x ∷ xs) = ap (λ (rows : List Row). row_of (pair_of x) ∷ rows) (go xs)

pub not_broken : (broken : Bool) → broken ≡ false → IsTrue broken → ⊥
not_broken broken sound is = cc
