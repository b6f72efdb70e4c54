-- From what an open finds to what the keeper over it has.
use Rattle.std.proofs.Common.{◌≡◌, false, IsTrue, Some, Result, Ok, Err, IfOk, IfErr, is_err, sym, ap, subst, ◌∙◌}
use Rattle.std.proofs.Math.Logic.{∥∥₁_elim, ∥∥₁_map}
use Rattle.std.specs.Coded.{coded×, coded_ℕ, coded_list}
use base.Stored.{Coded-set}
use Rattle.std.specs.Result.{result_err}
use Rattle.sqlite_disk.specs.declared.Disk.{Ghosts}
use Rattle.sqlite_wal.specs.Recovery.{Image}
use Rattle.sqlite_wal.proofs.LogLemmas.{SeenMayStay}
use Rattle.sqlite_trees.specs.Tree.{Trees}
use Rattle.sqlite_trees.specs.View.{View, IsClean, IsRolledBack}
use Rattle.sqlite_store.specs.FileStore.{recovers}
use Rattle.sqlite_store.specs.Laws.{settled_at}
use Rattle.sqlite.proofs.Theorems.{opens_again}
use Rattle.sqlite.specs.Effect.{Database}
use Rattle.sqlite.specs.State.{State, IsUnchanged}
use Rattle.sqlite.specs.Files.{HoldsDatabase}
use Rattle.sqlite.specs.Start.{FindsIn}
use Rattle.enip_keep.specs.Kept.{Kept}
use Rattle.enip_keep_sqlite.specs.Pairs.{pairs_in}
use Rattle.enip_keep_sqlite.specs.Rows.{IsAtRest, Looks}
use Rattle.enip_keep_sqlite.specs.Found.{IsFoundIn}
use Rattle.enip_keep_sqlite.specs.Laws.{MayLeave}
use Rattle.enip_keep_sqlite.specs.NextStart.{last_commit_law, next_start_law}

-- a rollback and a look leave what was committed
pub committed_through : (first mid last : View) → IsClean mid → IsRolledBack first mid → Looks mid last → IsAtRest last → last.committed ≡ first.committed
committed_through first mid last clean undone looks up =
    let is_open : IsTrue mid.is_open = subst IsTrue (ap (λ (v : View). v.is_open) looks) up.is_open in
    ap (λ (v : View). v.committed) looks ∙ (undone.kept clean).committed is_open

pub undone_trees : (first mid : View) → IsRolledBack first mid → IsTrue mid.is_open → mid.trees ≡ first.committed
undone_trees first mid undone is_open = (undone.undone is_open).0

pub undone_same : (first mid : View) → IsClean mid → IsRolledBack first mid → IsTrue mid.is_open → mid.trees ≡ mid.committed
undone_same first mid clean undone is_open = undone_trees first mid undone is_open ∙ sym ((undone.kept clean).committed is_open)

pub numbered_through : (mid last : View) → Looks mid last → IsTrue mid.is_numbered → IsTrue last.is_numbered
numbered_through mid last looks numbered = subst IsTrue (sym (ap (λ (v : View). v.is_numbered) looks)) numbered

-- the trees that the open found
pub trees_from : (image : Image) (was now : State) (last : Trees) → FindsIn image was → IsUnchanged was now → last ≡ now.committed.trees → (db : Trees) → HoldsDatabase image db → last ≡ db
trees_from image was now last found unchanged same db holds = same ∙ ap (λ (at : Database). at.trees) unchanged.0.committed_is ∙ found.holds db holds

-- and the entries in them
pub found_from : (image : Image) (was now : State) (last : Trees) → FindsIn image was → IsUnchanged was now → last ≡ now.committed.trees → IsFoundIn image (pairs_in (last 0))
found_from image was now last found unchanged same = record {
  holds = λ db is. ap (λ (t : Trees). pairs_in (t 0)) (trees_from image was now last found unchanged same db is);
  reads = (was.committed.trees, found.reads, ap (λ (t : Trees). pairs_in (t 0)) (same ∙ ap (λ (at : Database). at.trees) unchanged.0.committed_is));
}

-- a call that went well did what it says
pub went_well : {A E Did : Type 0} (r : Result A E) (P : A → Type 0) → is_err r ≡ false → IfOk r (λ a. P a × Did) → Did
went_well (Ok a) P none h = h.1
went_well (Err e) P none h = absurd cc

-- a call that failed did so for this error
pub at_error : {A E : Type 0} (r : Result A E) (P : E → Type 0) (e : E) → Some e ≡ result_err r → IfErr r P → P e
at_error (Ok a) P e is h = absurd cc
at_error (Err x) P e is h = let same : x ≡ e = cc in subst P same h

pub next_start : {D : Type 0} (g : Ghosts D) → next_start_law g
next_start g it numbered sound left may kept found =
    ∥∥₁_map (opens_again it numbered sound left may) (λ db. let r : MayLeave (recovers it) kept = (db.0, db.1, found.holds db.0 db.2) in r)

kept_set : IsSet Kept
kept_set = Coded-set (coded_list (coded× coded_ℕ (coded_list coded_ℕ)))

pub last_commit : {D : Type 0} (g : Ghosts D) → SeenMayStay g → last_commit_law g
last_commit g stays it numbered sound is_open left may kept found =
    ∥∥₁_elim (next_start g it numbered sound left may kept found) (kept_set _ _)
    (λ m. m.2 ∙ ap (λ (t : Trees). pairs_in (t 0)) (settled_at it stays m.0 is_open m.1))
