-- Why a file is not opened, by what the library says or what the rows are.
use Rattle.std.specs.Prelude.{◌≡◌, ◌⊎◌, List, ℕ, codes, Option, None, IfSome, IsTrue}
use Rattle.sqlite_disk.specs.declared.Disk.{Ghosts}
use Rattle.sqlite_disk.specs.declared.Files.{Files}
use Rattle.sqlite_wal.specs.Recovery.{Image}
use Rattle.sqlite_value.specs.Order.{Row}
use Rattle.sqlite_trees.specs.Tree.{Trees}
use Rattle.sqlite_trees.specs.View.{IsClean}
use Rattle.sqlite_store.specs.declared.store.FileStore.{FileStore}
use Rattle.sqlite_store.specs.FileStore.{view, faults, recovers}
use Rattle.sqlite.specs.declared.error.Error.{Error}
use Rattle.sqlite.specs.declared.error.Error.TheVariants.{SqliteFailure}
use Rattle.sqlite.specs.declared.error.ErrorCode.TheVariants.{CannotOpen, OutOfMemory, DatabaseBusy}
use Rattle.sqlite.specs.declared.file.Leftover.{Leftover}
use Rattle.sqlite.specs.Held.{Held}
use Rattle.sqlite.specs.State.{HasCleanDisk, IsNotRun, Survives}
use Rattle.sqlite.specs.Opening.{is_open_error}
use Rattle.sqlite.specs.Files.{file_state, image_of, HoldsDatabase, IsCleanLeft, FailsToOpenFiles, LeavesFiles}
use Rattle.sqlite.specs.Start.{FindsIn}
use Rattle.enip_keep.specs.declared.entry.KeepError.{KeepError}
use Rattle.enip_keep_sqlite.specs.declared.fault.FileFault.{FileFault}
use Rattle.enip_keep_sqlite.specs.Files.{fault_of, fault_of_rows}
use Rattle.enip_keep_sqlite.specs.Causes.{IsRefused}

-- A query that only a database with the table accepts.
abbrev pub query_text : List ℕ
query_text = codes "SELECT key, value FROM kept"

module _ {D : Type 0} (g : Ghosts D) (image : Image) where
  -- The system opens no files, or the library refuses what they hold, for a cause that it names.
  pub record IsUnopened (e : Error) : Type 0 where
    pub left : Option (Leftover D g)
    pub named : IsTrue (is_open_error e)
    pub unopened : left ≡ None → (e ≡ SqliteFailure CannotOpen) ⊎ ((e ≡ SqliteFailure OutOfMemory) ⊎ (e ≡ SqliteFailure DatabaseBusy))
    pub cause : IfSome left (λ rest. (files : Files D) × (image_of g files ≡ image) × (IsCleanLeft rest → FailsToOpenFiles files rest e × LeavesFiles files rest))

  -- The database that they hold does not accept the query, or a read fails.
  pub record IsUnqueried (e : Error) : Type 0 where
    pub was : Held (FileStore D g)
    pub now : Held (FileStore D g)
    pub found : HasCleanDisk (file_state was) → FindsIn image (file_state was)
    pub survives : Survives (file_state was) (file_state now) (λ _. ⊥)
    pub cause : HasCleanDisk (file_state now) → (params : Row) → IsNotRun (file_state was) (file_state now) query_text params e

  -- Its rows are not those of a keeper, or a read fails.
  pub record IsUnread (e : KeepError) : Type 0 where
    pub store : FileStore D g
    pub found : IsClean (view store) → IsTrue (view store).is_open → (db : Trees) → HoldsDatabase image db → (view store).trees ≡ db
    pub refused : IsRefused view faults recovers store e

  abbrev pub IsNotOpened : FileFault → Type 0
  IsNotOpened fault =
      ((e : Error) × (IsUnopened e ⊎ IsUnqueried e) × (fault ≡ fault_of e))
      ⊎ ((e : KeepError) × IsUnread e × (fault ≡ fault_of_rows e))
