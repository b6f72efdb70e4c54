-- Why a replay was not completed.
use Rattle.enip_faults.specs.declared.replay_failure.ReplayFailure.{ReplayFailure}
use Rattle.enip_faults.specs.declared.replay_failure.ReplayFailure.TheVariants as stops
use Rattle.enip_faults.specs.Statuses.{IsOfDevices}

-- A device or memory failed.
abbrev pub IsStopOfDevices : ReplayFailure → Type 0
IsStopOfDevices stops.Setup = ⊥
IsStopOfDevices (stops.Program fault) = IsOfDevices fault
