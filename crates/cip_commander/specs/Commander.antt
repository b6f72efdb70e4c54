-- What a contract sees of a `Commander`.
use Rattle.std.specs.Prelude.{◌≡◌, ℕ, ◌≤◌, Bool, true, false, Option, Some, None, List, length, drop}
use Rattle.cip_commander.specs.CommanderRule.{CommanderState, commander_at, message_of}
use Rattle.cip_commander.specs.declared.commander.Commander.TheInside.{Inside}

-- the embedded request is behind the front of the message
abbrev pub pending_in : Bool → List ℕ → Option (List ℕ)
pending_in true message = Some (drop 26 message)
pending_in false message = None

abbrev pub commander_state : Inside → CommanderState
commander_state commander =
    commander_at commander.life commander.originator commander.last_number
    (pending_in commander.is_pending commander.message.items)

-- a message of this commander's last command
pub record IsMessage (commander : CommanderState) (message : List ℕ) : Type 0 where
  pub from : 28 ≤ length message
  pub to : length message ≤ 504
  pub spelled : message ≡ message_of commander (drop 26 message)

-- the message of the pending command, if one is pending
abbrev pub HoldsMessage : Bool → CommanderState → List ℕ → Type 0
HoldsMessage true commander message = IsMessage commander message
HoldsMessage false commander message = Unit {0}

abbrev pub IsCommander : Inside → Type 0
IsCommander commander =
    HoldsMessage commander.is_pending (commander_state commander) commander.message.items
