-- How the program ends.
use Rattle.std.specs.Prelude.{ℕ, ⊤}
use Rattle.std.specs.declared.io.ErrorKind.{ErrorKind}
use Rattle.std.specs.declared.io.ErrorKind.TheVariants.{OutOfMemory}
use Rattle.enip_faults.specs.declared.fault.ProgramFault.{ProgramFault}
use Rattle.enip_faults.specs.declared.fault.ProgramFault.TheVariants.{Line, Device, Memory}
use Rattle.enip_faults.specs.declared.replay_failure.ReplayFailure.{ReplayFailure}
use Rattle.enip_faults.specs.declared.replay_failure.ReplayFailure.TheVariants as stops

-- The exit status for a fault of the program.
abbrev pub exit_status : ProgramFault → ℕ
exit_status (Line number why) = 4
exit_status Device = 5
exit_status Memory = 5

-- The exit status of a replay that ends early.
abbrev pub replay_failure_status : ReplayFailure → ℕ
replay_failure_status stops.Setup = 6
replay_failure_status (stops.Program fault) = exit_status fault

-- A device or memory failed.
abbrev pub IsOfDevices : ProgramFault → Type 0
IsOfDevices Device = ⊤
IsOfDevices Memory = ⊤
IsOfDevices _ = ⊥

-- A failed stream as a fault of the program.
abbrev pub fault_of_kind : ErrorKind → ProgramFault
fault_of_kind OutOfMemory = Memory
fault_of_kind kind = Device
