-- How the program ends.
use Rattle.std.specs.Prelude.{ℕ, Bool, true, false, if◌then◌else◌}
use Rattle.config_refusal.specs.declared.fault.LoadFault.{LoadFault}
use Rattle.config_refusal.specs.declared.fault.LoadFault.TheVariants as load
use Rattle.enip_faults.specs.declared.fault.ProgramFault.{ProgramFault}
use Rattle.enip_faults.specs.declared.fault.ProgramFault.TheVariants as program
use Rattle.enip_faults.specs.declared.replay_failure.ReplayFailure.{ReplayFailure}
use Rattle.enip_faults.specs.declared.replay_failure.ReplayFailure.TheVariants as failures
use Rattle.enip_faults.specs.Statuses.{exit_status as run_status}
use Rattle.enip_common.specs.declared.fault.Fault.{Fault}
use Rattle.enip_common.specs.declared.fault.Fault.TheVariants.{Configuration as Refused, Setup, Run, Value}
use Rattle.enip_common.specs.declared.fault.Fault.TheVariants.{CommandFile, State, Storage, Unsettled, Blocked}
use Rattle.enip_common.specs.declared.fault.Fault.TheVariants.{Hex, Pending, OtherLife, OtherRequest, Withdrawn}
use Rattle.enip_common.specs.declared.fault.Fault.TheVariants.{Session, Refusal, Client}

-- The exit status of a fault.
abbrev pub exit_status : Fault → ℕ
exit_status (Refused check) = 3
exit_status State = 3
exit_status Storage = 5
exit_status Unsettled = 8
exit_status Blocked = 9
exit_status Setup = 6
exit_status Value = 2
exit_status Hex = 2
exit_status Pending = 2
exit_status OtherLife = 2
exit_status OtherRequest = 2
exit_status Withdrawn = 7
exit_status (CommandFile line) = 4
exit_status (Run fault) = run_status fault
exit_status Session = 7
exit_status Refusal = 7
exit_status (Client number) = 7

-- The program's fault if a configuration is not loaded.
abbrev pub fault_of_configuration : LoadFault → Fault
fault_of_configuration (load.Refused refusal) = Refused refusal
fault_of_configuration load.Memory = Run program.Memory

-- The program's fault if a replay ends early.
abbrev pub fault_of_replay : ReplayFailure → Fault
fault_of_replay failures.Setup = Setup
fault_of_replay (failures.Program fault) = Run fault

-- A file, a stream or a device failed.
abbrev pub is_device : ProgramFault → Bool
is_device (program.Line number why) = false
is_device program.Device = true
is_device program.Memory = false

abbrev pub is_of_device : Fault → Bool
is_of_device (Refused check) = false
is_of_device State = false
is_of_device Storage = false
is_of_device Unsettled = false
is_of_device Blocked = false
is_of_device Setup = false
is_of_device Value = false
is_of_device Hex = false
is_of_device Pending = false
is_of_device OtherLife = false
is_of_device OtherRequest = false
is_of_device Withdrawn = false
is_of_device (CommandFile line) = false
is_of_device (Run fault) = is_device fault
is_of_device Session = false
is_of_device Refusal = false
is_of_device (Client number) = false

-- The fault of a run that leaves a command pending, in place of that of a failed file, stream or device.
abbrev pub pending_fault : Fault → Fault → Fault
pending_fault failed fault = if is_of_device failed then fault else failed
