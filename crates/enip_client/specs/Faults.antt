-- The numbers of faults in printed output.
use Rattle.std.specs.Prelude.{ℕ}
use Rattle.enip_client.specs.declared.fault.AskFault.{AskFault}
use Rattle.enip_client.specs.declared.fault.AskFault.TheVariants as ask_faults
use Rattle.enip_client.specs.declared.fault.ClientFault.{ClientFault}
use Rattle.enip_client.specs.declared.fault.ClientFault.TheVariants as faults
use Rattle.enip_client.specs.declared.fault.SubmitFault.{SubmitFault}
use Rattle.enip_client.specs.declared.fault.SubmitFault.TheVariants as submit_faults

abbrev pub client_fault_number : ClientFault → ℕ
client_fault_number faults.State = 1
client_fault_number (faults.Status status) = 2
client_fault_number (faults.Refused status extended) = 3
client_fault_number faults.TooLong = 4
client_fault_number faults.Memory = 5
client_fault_number faults.Malformed = 6
client_fault_number faults.Request = 7

abbrev pub submit_fault_number : SubmitFault → ℕ
submit_fault_number (submit_faults.Client fault) = 1
submit_fault_number (submit_faults.Refused why) = 2

-- The number of why an exchange was not completed.
abbrev pub ask_fault_number : AskFault → ℕ
ask_fault_number ask_faults.Read = 1
ask_fault_number ask_faults.Write = 2
ask_fault_number ask_faults.Ended = 3
ask_fault_number (ask_faults.Client fault) = 4
ask_fault_number (ask_faults.Submit why) = 5
ask_fault_number ask_faults.Spent = 6
