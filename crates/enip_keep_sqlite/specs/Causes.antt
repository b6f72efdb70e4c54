-- Why a call on a store fails, as a keeper reports it.
use Rattle.std.specs.Prelude.{◌≡◌, ◌⊎◌, ℕ, IsTrue, ⊤}
use Rattle.sqlite_trees.specs.declared.error.StoreError.{StoreError}
use Rattle.sqlite_trees.specs.declared.error.StoreError.TheVariants.{OutOfMemory, Io, Corrupt, Full, Broken, Unstorable}
use Rattle.sqlite_trees.specs.Tree.{Trees}
use Rattle.sqlite_trees.specs.View.{View, IsClean}
use Rattle.enip_keep.specs.declared.entry.KeepError.{KeepError}
use Rattle.enip_keep.specs.declared.entry.KeepError.TheVariants.{Memory, Storage, Stopped, Foreign, Refused}
use Rattle.enip_keep.specs.declared.entry.StorageFault.TheVariants as storage
use Rattle.enip_keep.specs.Causes.{HasFailed}
use Rattle.enip_keep_sqlite.specs.Rows.{IsCalm, IsForeign}

-- what a keeper reports of an error of its store
abbrev pub keep_error : StoreError → KeepError
keep_error OutOfMemory = Memory
keep_error Io = Storage storage.Failed
keep_error Corrupt = Storage storage.Damaged
keep_error Full = Storage storage.Full
keep_error Broken = Storage storage.Failed
keep_error Unstorable = Storage storage.Failed

-- Memory was refused, the storage failed or refused between these two counts or was broken before, or a row is foreign.
abbrev pub IsRowCause : Type 0 → Type 0 → ℕ → ℕ → KeepError → Type 0
IsRowCause IsBroken IsForeign before after Memory = ⊤
IsRowCause IsBroken IsForeign before after (Storage fault) = IsBroken ⊎ HasFailed before after
IsRowCause IsBroken IsForeign before after Stopped = ⊥
IsRowCause IsBroken IsForeign before after Foreign = IsForeign
IsRowCause IsBroken IsForeign before after Refused = ⊥

-- Why a store is not taken: what the store was when it was let go tells it.
pub record IsRefused {S : Type 0} (view : S → View) (faults : S → ℕ) (recovers : S → Trees → Type 0) (store : S) (e : KeepError) : Type 0 where
  pub last : S
  pub calm : IsCalm view faults recovers store last
  pub cause : IsClean (view last) → IsRowCause (IsTrue (view store).is_broken) (IsForeign (view store)) (faults store) (faults last) e
