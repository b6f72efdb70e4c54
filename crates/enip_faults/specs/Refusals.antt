-- What a refusal means: that of a ledger, and that of a line of a command file.
use Rattle.std.specs.Prelude.{ℕ, ◌==◌, ◌+◌, ◌-◌, ◌^◌, min, if◌then◌else◌, Bool, true, false}
use Rattle.enip_faults.specs.declared.command_file_fault.CommandFileFault.{CommandFileFault}
use Rattle.enip_faults.specs.declared.command_file_fault.CommandFileFault.TheVariants.{Head, Originator, Life, Number}
use Rattle.enip_faults.specs.declared.command_file_fault.CommandFileFault.TheVariants.{Pending, End}
use Rattle.enip_faults.specs.declared.command_file_fault.RecordFault.{RecordFault}
use Rattle.enip_faults.specs.declared.command_file_fault.RecordFault.TheVariants as records
use Rattle.enip_faults.specs.declared.ledger_refusal.LedgerRefusal.{LedgerRefusal}
use Rattle.enip_faults.specs.declared.ledger_refusal.LedgerRefusal.TheVariants as answers
use Rattle.enip_faults.specs.declared.withdrawal_refusal.WithdrawalRefusal.{WithdrawalRefusal}
use Rattle.enip_faults.specs.declared.withdrawal_refusal.WithdrawalRefusal.TheVariants as withdrawals

-- what the general status of a refusal says
abbrev pub ledger_refusal : ℕ → LedgerRefusal
ledger_refusal status =
    if status == 0x02 then answers.NoSlot
    else if status == 0x05 then answers.NoLedger
    else if status == 0x0c then answers.NumberPassed
    else if status == 0x10 then answers.OtherLife
    else if status == 0x11 then answers.ReplyTooLarge
    else if status == 0xd0 then answers.LastPending
    else answers.Other status

-- a ledger without a slot for an originator has executed none of its commands, and none after one that is pending
abbrev pub may_be_executed : LedgerRefusal → Bool
may_be_executed answers.NoSlot = false
may_be_executed answers.SlotsTaken = false
may_be_executed answers.QueueFull = false
may_be_executed answers.NoLedger = true
may_be_executed answers.NumberPassed = true
may_be_executed answers.OtherLife = true
may_be_executed answers.ReplyTooLarge = true
may_be_executed answers.LastPending = false
may_be_executed (answers.Other status) = true

-- what the general status says with which a command is not withdrawn
abbrev pub withdrawal_refusal : ℕ → WithdrawalRefusal
withdrawal_refusal status =
    if status == 0x02 then withdrawals.SlotsTaken
    else if status == 0x05 then withdrawals.NoLedger
    else if status == 0x08 then withdrawals.NotSupported
    else if status == 0x0c then withdrawals.NumberPassed
    else if status == 0xd0 then withdrawals.OtherPending
    else withdrawals.Other status

-- a ledger without a slot for an originator has executed none of its commands, and none after one that is pending
abbrev pub withdrawal_may_be_executed : WithdrawalRefusal → Bool
withdrawal_may_be_executed withdrawals.SlotsTaken = false
withdrawal_may_be_executed withdrawals.NoLedger = true
withdrawal_may_be_executed withdrawals.NotSupported = true
withdrawal_may_be_executed withdrawals.NumberPassed = true
withdrawal_may_be_executed withdrawals.OtherPending = false
withdrawal_may_be_executed (withdrawals.Other status) = true

-- the line of a command file that is refused
abbrev pub fault_line : CommandFileFault → ℕ
fault_line Head = 1
fault_line Originator = 2
fault_line Life = 3
fault_line Number = 4
fault_line Pending = 5
fault_line End = 6

-- the same for a file with ids: those of the commander are after the lines of the ids
abbrev pub record_line : RecordFault → ℕ
record_line (records.Commander before fault) = min (before + fault_line fault) (2 ^ 64 - 1)
record_line records.Count = 2
record_line (records.Done line) = line
record_line (records.PendingId line) = line
