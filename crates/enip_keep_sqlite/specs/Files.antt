-- What a file of entries begins with, and why one is not opened.
use Rattle.std.specs.Prelude.{ℕ, Bool, ◌&&◌, nat_le, List, codes, length, take}
use Rattle.std.specs.Str.{bytes_eq}
use Rattle.sqlite.specs.declared.error.Error.{Error}
use Rattle.sqlite.specs.declared.error.Error.TheVariants.{SqliteFailure}
use Rattle.sqlite.specs.declared.error.ErrorCode.{ErrorCode}
use Rattle.sqlite.specs.declared.error.ErrorCode.TheVariants as codes
use Rattle.enip_keep.specs.declared.entry.KeepError.{KeepError}
use Rattle.enip_keep.specs.declared.entry.KeepError.TheVariants as keeping
use Rattle.enip_keep.specs.declared.entry.StorageFault.TheVariants as storage
use Rattle.enip_keep_sqlite.specs.declared.fault.FileFault.{FileFault}
use Rattle.enip_keep_sqlite.specs.declared.fault.FileFault.TheVariants.{Memory, Full, Failed, CannotOpen, InUse, Foreign}

-- The bytes of the header of a database, and what it begins with. (SQLite, Database File Format, 1.3.)
abbrev HEADER_SIZE : ℕ
HEADER_SIZE = 100

abbrev mark : List ℕ
mark = codes "SQLite format 3\0"

-- A file that begins with these bytes can be a database.
abbrev pub begins_as_kept : List ℕ → Bool
begins_as_kept front = nat_le HEADER_SIZE (length front) && bytes_eq (take (length mark) front) mark

-- The text by which the table is made, which the first page of a database has.
abbrev pub table_text : List ℕ
table_text = codes "CREATE TABLE kept (key INTEGER PRIMARY KEY, value BLOB NOT NULL) STRICT"

-- The system's or the library's reason. Any other code is one of a file that holds something else.
abbrev fault_of_code : ErrorCode → FileFault
fault_of_code codes.OutOfMemory = Memory
fault_of_code codes.DiskFull = Full
fault_of_code codes.SystemIoFailure = Failed
fault_of_code codes.Closed = Failed
fault_of_code codes.CannotOpen = CannotOpen
fault_of_code codes.DatabaseBusy = InUse
fault_of_code other = Foreign

-- Why the library opens no database, or makes no table in it.
abbrev pub fault_of : Error → FileFault
fault_of (SqliteFailure code) = fault_of_code code
fault_of other = Foreign

-- Why the rows of a database are not read.
abbrev pub fault_of_rows : KeepError → FileFault
fault_of_rows keeping.Memory = Memory
fault_of_rows (keeping.Storage storage.Full) = Full
fault_of_rows (keeping.Storage storage.Damaged) = Foreign
fault_of_rows (keeping.Storage other) = Failed
fault_of_rows keeping.Stopped = Foreign
fault_of_rows keeping.Foreign = Foreign
fault_of_rows keeping.Refused = Foreign
