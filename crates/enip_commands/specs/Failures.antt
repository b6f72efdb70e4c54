-- Why an exchange with a device was not completed, or a command not sent, and how the program ends then.
use Rattle.std.specs.Prelude.{ℕ}
use Rattle.enip_client.specs.declared.fault.AskFault.{AskFault}
use Rattle.enip_client.specs.declared.fault.AskFault.TheVariants as ask
use Rattle.enip_client.specs.declared.fault.ClientFault.TheVariants as client
use Rattle.enip_faults.specs.declared.fault.ProgramFault.TheVariants.{Device, Memory}
use Rattle.enip_faults.specs.Statuses.{IsOfDevices, exit_status}
use Rattle.enip_commands.specs.declared.once_refusal.OnceRefusal.{OnceRefusal}
use Rattle.enip_commands.specs.declared.once_refusal.OnceRefusal.TheVariants as refusals
use Rattle.enip_commands.specs.declared.request_failure.RequestFailure.{RequestFailure}
use Rattle.enip_commands.specs.declared.request_failure.RequestFailure.TheVariants as asking
use Rattle.enip_commands.specs.declared.request_failure.RequestFailure.TheVariants.{Client, Program}

-- The exit status when no reply was printed.
abbrev pub request_failure_status : RequestFailure → ℕ
request_failure_status asking.Hex = 2
request_failure_status (asking.Session status) = 7
request_failure_status (asking.Client fault) = 7
request_failure_status (asking.Shape value_type fault) = 7
request_failure_status (asking.Fields fault) = 7
request_failure_status (asking.Program fault) = exit_status fault

-- The exit status when a command is not sent.
abbrev pub once_refusal_status : OnceRefusal → ℕ
once_refusal_status refusals.Differs = 2
once_refusal_status refusals.NonePending = 2
once_refusal_status refusals.OtherLife = 2
once_refusal_status refusals.OtherRequest = 2
once_refusal_status refusals.Withdrawn = 7
once_refusal_status (refusals.Command why) = 7

-- Why an exchange was not completed, as the program reports it.
abbrev pub stop_of : AskFault → RequestFailure
stop_of ask.Read = Program Device
stop_of ask.Write = Program Device
stop_of ask.Ended = Program Device
stop_of ask.Spent = Program Device
stop_of (ask.Client client.Memory) = Program Memory
stop_of (ask.Client fault) = Client fault
stop_of (ask.Submit why) = Client client.Request

-- A device or memory failed.
abbrev pub IsOfDevice : RequestFailure → Type 0
IsOfDevice (Program fault) = IsOfDevices fault
IsOfDevice _ = ⊥
