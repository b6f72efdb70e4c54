-- How `enip answer` and `enip replay` end, by their configuration.
use Rattle.std.specs.Prelude.{◌≡◌, ◌⊎◌, ℕ, List, ⊤}
use Rattle.enip_adapter.specs.Calls.{AdapterState}
use Rattle.enip_config.specs.Documents.{IsRefused}
use Rattle.configured_adapter.specs.Configured.{IsAccepted, IsUnsharedAdapterOf}
use Rattle.enip_faults.specs.declared.fault.ProgramFault.TheVariants as program
use Rattle.enip_replay.specs.Replay.{IsOpeningRefused as refuses_opening}
use Rattle.enip_common.specs.declared.fault.Fault.{Fault}
use Rattle.enip_common.specs.declared.fault.Fault.TheVariants.{Configuration as Refused, Setup, Run, Value}
use Rattle.enip_common.specs.declared.fault.Fault.TheVariants.{CommandFile, State, Storage, Unsettled, Blocked}
use Rattle.enip_common.specs.declared.fault.Fault.TheVariants.{Hex, Pending, OtherLife, OtherRequest, Withdrawn, Session, Refusal, Client}

-- The exit statuses of `enip answer`, once its arguments are accepted.
abbrev pub IsStatus : ℕ → Type 0
IsStatus status = (status ≡ 0) ⊎ ((status ≡ 3) ⊎ ((status ≡ 4) ⊎ (status ≡ 5)))

-- The exit statuses of `enip replay`, once its arguments are accepted.
abbrev pub IsReplayStatus : ℕ → Type 0
IsReplayStatus status = IsStatus status ⊎ (status ≡ 6)

-- A run over a configuration may end with this fault: a refusal is the configuration's own, and a line is read only
-- once the configuration is accepted.
abbrev pub IsFaultOf : List ℕ → Fault → Type 0
IsFaultOf text (Refused refusal) = IsRefused text refusal
IsFaultOf text Setup = ⊥
IsFaultOf text Value = ⊥
IsFaultOf text State = ⊥
IsFaultOf text Storage = ⊥
IsFaultOf text Unsettled = ⊥
IsFaultOf text Blocked = ⊥
IsFaultOf text Hex = ⊥
IsFaultOf text Pending = ⊥
IsFaultOf text OtherLife = ⊥
IsFaultOf text OtherRequest = ⊥
IsFaultOf text Withdrawn = ⊥
IsFaultOf text (CommandFile line) = ⊥
IsFaultOf text Session = ⊥
IsFaultOf text Refusal = ⊥
IsFaultOf text (Client number) = ⊥
IsFaultOf text (Run (program.Line number why)) = IsAccepted text
IsFaultOf text (Run _) = ⊤

-- The adapter that a text configures refuses what the replay opens: the sessions, or the connection of the client.
abbrev pub IsOpeningRefused : List ℕ → Type 0
IsOpeningRefused text = (adapter : AdapterState) × (IsUnsharedAdapterOf text adapter × refuses_opening adapter)

-- The same for a replay, whose opening may be refused.
abbrev pub IsReplayFaultOf : List ℕ → Fault → Type 0
IsReplayFaultOf text Setup = IsOpeningRefused text
IsReplayFaultOf text fault = IsFaultOf text fault
