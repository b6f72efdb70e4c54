-- How a client's failure is reported.
use Rattle.std.specs.Prelude.{ℕ}
use Rattle.cip_commander.specs.declared.refusal.CommandRefused.{CommandRefused}
use Rattle.cip_commander.specs.declared.refusal.CommandRefused.TheVariants as commands
use Rattle.enip_client.specs.Faults.{client_fault_number}
use Rattle.enip_client.specs.declared.fault.ClientFault.{ClientFault}
use Rattle.enip_client.specs.declared.fault.ClientFault.TheVariants as client
use Rattle.enip_commands.specs.declared.once_refusal.OnceRefusal.{OnceRefusal}
use Rattle.enip_commands.specs.declared.once_refusal.OnceRefusal.TheVariants as refusals
use Rattle.enip_commands.specs.declared.request_failure.RequestFailure.{RequestFailure}
use Rattle.enip_commands.specs.declared.request_failure.RequestFailure.TheVariants as requests
use Rattle.enip_common.specs.declared.fault.Fault.{Fault}
use Rattle.enip_common.specs.declared.fault.Fault.TheVariants as faults

-- The program's fault for a fault of the client: a refused connection, or the number of another one.
abbrev pub fault_of_client : ClientFault → Fault
fault_of_client (client.Refused status extended) = faults.Refusal
fault_of_client fault = faults.Client (client_fault_number fault)

-- The program's fault if a request got no reply that is printed. Data of another shape are a malformed reply.
abbrev pub fault_of_request : RequestFailure → Fault
fault_of_request requests.Hex = faults.Hex
fault_of_request (requests.Session status) = faults.Session
fault_of_request (requests.Client fault) = fault_of_client fault
fault_of_request (requests.Shape value_type fault) = fault_of_client client.Malformed
fault_of_request (requests.Fields fault) = fault_of_client client.Malformed
fault_of_request (requests.Program fault) = faults.Run fault

-- A command that is not one is reported as a request that is none, and one that cannot be given now as a call that is
-- not possible.
abbrev pub fault_of_command : CommandRefused → Fault
fault_of_command commands.NotARequest = fault_of_client client.Request
fault_of_command commands.TooLong = fault_of_client client.Request
fault_of_command commands.Pending = fault_of_client client.State
fault_of_command commands.NumbersExhausted = fault_of_client client.State

-- The program's fault if a command that is executed once is not sent.
abbrev pub fault_of_once : OnceRefusal → Fault
fault_of_once refusals.Differs = faults.Pending
fault_of_once refusals.NonePending = faults.Pending
fault_of_once refusals.OtherLife = faults.OtherLife
fault_of_once refusals.OtherRequest = faults.OtherRequest
fault_of_once refusals.Withdrawn = faults.Withdrawn
fault_of_once (refusals.Command why) = fault_of_command why
