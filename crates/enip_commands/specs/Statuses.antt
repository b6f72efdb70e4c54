-- How a command ends.
use Rattle.std.specs.Prelude.{◌≡◌, ℕ, ⊤}
use Rattle.enip_faults.specs.Statuses.{IsOfDevices}
use Rattle.enip_commands.specs.declared.asking.ReplyOutcome.{ReplyOutcome}
use Rattle.enip_commands.specs.declared.asking.ReplyOutcome.TheVariants as replied
use Rattle.enip_commands.specs.declared.showing.ShowFailure.{ShowFailure}
use Rattle.enip_commands.specs.declared.showing.ShowFailure.TheVariants.{Program}

-- The exit status when a reply was printed.
abbrev pub replied_status : ReplyOutcome → ℕ
replied_status replied.Done = 0
replied_status (replied.Refused status extended) = 6

-- The line has a fault, or a device or memory failed.
abbrev pub IsStopOfDevices : ShowFailure → Type 0
IsStopOfDevices (Program fault) = IsOfDevices fault
IsStopOfDevices _ = ⊤
