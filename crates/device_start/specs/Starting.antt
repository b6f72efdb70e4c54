-- How the program ends if FILE of `--keep` is not used.
use Rattle.std.specs.Prelude.{◌≡◌, ◌⊎◌, Bool, true, false}
use Rattle.std.specs.declared.io.ErrorKind.{ErrorKind}
use Rattle.std.specs.declared.io.ErrorKind.TheVariants as kinds
use Rattle.enip_common.specs.declared.fault.Fault.{Fault}
use Rattle.enip_common.specs.declared.fault.Fault.TheVariants.{Run, State, Storage}
use Rattle.enip_faults.specs.declared.fault.ProgramFault.TheVariants as program
use Rattle.enip_keep.specs.declared.entry.KeepError.{KeepError}
use Rattle.enip_keep.specs.declared.entry.KeepError.TheVariants as keeping
use Rattle.enip_keep.specs.declared.entry.StorageFault.TheVariants as storage
use Rattle.enip_keep_sqlite.specs.declared.fault.FileFault.{FileFault}
use Rattle.enip_keep_sqlite.specs.declared.fault.FileFault.TheVariants as files
use Rattle.device_start.specs.declared.judgement.OpenFault.{OpenFault}
use Rattle.device_start.specs.declared.judgement.OpenFault.TheVariants as opening

-- FILE is refused for what it has. Storage that cannot be used may be used later.
abbrev pub fault_of_open : OpenFault → Fault
fault_of_open opening.Memory = Run program.Memory
fault_of_open opening.InUse = Run program.Device
fault_of_open (opening.Storage _ _) = Storage
fault_of_open other = State

-- The library does not open the file.
abbrev pub fault_of_file : FileFault → Fault
fault_of_file files.Memory = Run program.Memory
fault_of_file files.InUse = Run program.Device
fault_of_file files.Foreign = State
fault_of_file other = Storage

-- The library does not say which file failed, so FILE and its log are opened once. The system may refuse memory for that.
abbrev pub is_tried : FileFault → Bool
is_tried files.Failed = true
is_tried files.CannotOpen = true
is_tried other = false

abbrev pub IsJudged : FileFault → Fault → Type 0
IsJudged fault ends = (ends ≡ fault_of_file fault) ⊎ ((is_tried fault ≡ true) × (ends ≡ Run program.Memory))

-- The system reports an error of this kind.
abbrev pub fault_of_system : ErrorKind → Fault
fault_of_system kinds.OutOfMemory = Run program.Memory
fault_of_system _ = Storage

-- A call of the keeper failed at the start.
abbrev pub fault_at_start : KeepError → Fault
fault_at_start keeping.Memory = Run program.Memory
fault_at_start (keeping.Storage storage.Damaged) = State
fault_at_start (keeping.Storage _) = Storage
fault_at_start other = State

-- A round could not be kept.
abbrev pub fault_while_served : KeepError → Fault
fault_while_served keeping.Memory = Run program.Memory
fault_while_served other = Storage
