-- From one run to the next.
use Rattle.std.specs.Prelude.{◌≡◌, IsTrue}
use Rattle.sqlite_disk.specs.declared.Disk.{Ghosts}
use Rattle.sqlite_wal.specs.Recovery.{Image}
use Rattle.sqlite_store.specs.declared.store.FileStore.{FileStore}
use Rattle.sqlite_store.specs.FileStore.{state, view, recovers}
use Rattle.sqlite.specs.Held.{AreDatabases}
use Rattle.enip_keep.specs.Kept.{Kept}
use Rattle.enip_keep_sqlite.specs.Pairs.{pairs_in}
use Rattle.enip_keep_sqlite.specs.Laws.{MayLeave}
use Rattle.enip_keep_sqlite.specs.Found.{IsFoundIn}

-- If each outcome of a crash is a database, what it leaves of the files is found again.
abbrev pub next_start_law : {D : Type 0} → Ghosts D → Type 0
next_start_law {D} g =
    (it : FileStore D g) → IsTrue (view it).is_numbered → AreDatabases (recovers it)
    → (left : Image) → (state it).may_leave left → (kept : Kept) → IsFoundIn left kept → ∥ MayLeave (recovers it) kept ∥₁

-- And while the store is open, that is its last commit.
abbrev pub last_commit_law : {D : Type 0} → Ghosts D → Type 0
last_commit_law {D} g =
    (it : FileStore D g) → IsTrue (view it).is_numbered → AreDatabases (recovers it) → IsTrue (view it).is_open
    → (left : Image) → (state it).may_leave left → (kept : Kept) → IsFoundIn left kept → kept ≡ pairs_in ((view it).committed 0)
