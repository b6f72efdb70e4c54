-- What a keeper promises, and what a command makes of what is kept.
use Rattle.std.specs.Prelude.{ℕ, ◌+◌, ◌-◌, ◌^◌, ◌≤◌, min, List}
use Rattle.cip_commander.specs.CommanderRule.{CommanderState, with_command}

-- The storage failed or refused in between. The count ends at the greatest number of 64 bits.
abbrev pub HasFailed : ℕ → ℕ → Type 0
HasFailed before after = min (before + 1) (2 ^ 64 - 1) ≤ after

-- the same commander, for the device in this life
abbrev pub in_life : ℕ → CommanderState → CommanderState
in_life life commander = record commander { life = life }

-- a command with the next number is pending, for the device in this life
abbrev pub given : CommanderState → ℕ → List ℕ → CommanderState
given commander life request = with_command (in_life life commander) request
