-- The originator's side of commands that are executed once.
use Rattle.std.specs.Prelude.{⊤, ℕ, ◌+◌, ◌^◌, ◌<◌, ◌≤◌, ◌&&◌, nat_lt, nat_le, Bool, if◌then◌else◌}
use Rattle.std.specs.Prelude.{Option, Some, None, option_map, MatchOption}
use Rattle.std.specs.Prelude.{List, ◌∷◌, ◌++◌, length, slice_index}
use Rattle.cip_bytes.specs.Numbers.{le}
use Rattle.cip_message.specs.LedgerCommand.{Command}
use Rattle.cip_message.specs.declared.ledger_services.TheConstants as services
use Rattle.cip_commander.specs.declared.refusal.CommandRefused.{CommandRefused}
use Rattle.cip_commander.specs.declared.refusal.CommandRefused.TheVariants as refusals
use Rattle.cip_commander.specs.Outcome.{Outcome, Done, StillPending, InDoubt, Withdrawn, Refused, Malformed, NotPending}
use Rattle.cip_commander.specs.Outcome.{outcome_of_text}
use Rattle.cip_commander.specs.Withdrawing as withdrawing
use Rattle.cip_commander.specs.Withdrawing.{Withdrawing, withdraw, withdrawing_of_text}

-- the device's life that the commands are for, who gives them, the number that the last one took, and its embedded
-- request while it is pending
pub record CommanderState : Type 0 where
  pub life : ℕ
  pub originator : ℕ
  pub last_number : ℕ
  pub pending : Option (List ℕ)

-- a commander's numbers have their sizes, and a pending request has at least two bytes
pub record IsInRange (commander : CommanderState) : Type 0 where
  pub life : commander.life < 2 ^ 64
  pub originator : commander.originator < 2 ^ 64
  pub last_number : commander.last_number < 2 ^ 32
  pub pending : MatchOption commander.pending ⊤ (λ request. 2 ≤ length request)

abbrev pub commander_at : ℕ → ℕ → ℕ → Option (List ℕ) → CommanderState
commander_at life originator last_number pending =
    record { life = life; originator = originator; last_number = last_number; pending = pending }

-- Do_Once with a command: the service, a path of two words (class 0x65, instance 1), ULINT, ULINT, UDINT, a router
-- request
abbrev pub do_once : Command → List ℕ
do_once command =
    services.DO_ONCE ∷ 2 ∷ 0x20 ∷ 0x65 ∷ 0x24 ∷ 1 ∷
    (le 8 command.life ++ (le 8 command.originator ++ (le 4 command.number ++ command.request)))

-- the last command, with this embedded request, and its message
abbrev pub command_with : CommanderState → List ℕ → Command
command_with commander request = record {
  life = commander.life;
  originator = commander.originator;
  number = commander.last_number;
  request = request;
}

abbrev pub message_of : CommanderState → List ℕ → List ℕ
message_of commander request = do_once (command_with commander request)

abbrev pub pending_message : CommanderState → Option (List ℕ)
pending_message commander = option_map (message_of commander) commander.pending

-- ---- a command

-- at least two bytes, and a service without bit 7
abbrev pub is_request : List ℕ → Bool
is_request request = nat_le 2 (length request) && nat_lt (slice_index request 0) 128

-- why no command can embed a request
abbrev pub embedded_refusal : List ℕ → Option CommandRefused
embedded_refusal request =
    if is_request request then (if nat_le (length request) 478 then None else Some refusals.TooLong)
    else Some refusals.NotARequest

-- the greatest number
abbrev pub MOST_NUMBER : ℕ
MOST_NUMBER = 0xffff_ffff

abbrev pub number_refusal : ℕ → Option CommandRefused
number_refusal last_number = if nat_lt last_number MOST_NUMBER then None else Some refusals.NumbersExhausted

abbrev pub first_refusal : Option (List ℕ) → Option CommandRefused → Option CommandRefused → Option CommandRefused
first_refusal (Some request) embedded number = Some refusals.Pending
first_refusal None (Some why) number = Some why
first_refusal None None number = number

-- the first reason not to take a command
abbrev pub command_refusal : CommanderState → List ℕ → Option CommandRefused
command_refusal commander request =
    first_refusal commander.pending (embedded_refusal request) (number_refusal commander.last_number)

-- a command with the next number is pending
abbrev pub with_command : CommanderState → List ℕ → CommanderState
with_command commander request =
    record commander { last_number = commander.last_number + 1; pending = Some request }

-- after a command that is refused for this reason, or is not
abbrev pub after_given : CommanderState → List ℕ → Option CommandRefused → CommanderState
after_given commander request None = with_command commander request
after_given commander request (Some why) = commander

-- after it gave a command, if it may
abbrev pub after_command : CommanderState → List ℕ → CommanderState
after_command commander request = after_given commander request (command_refusal commander request)

-- why a file's pending request is not one
abbrev pub resume_refusal : Option (List ℕ) → Option CommandRefused
resume_refusal None = None
resume_refusal (Some request) = embedded_refusal request

-- ---- a reply

abbrev pub outcome_at : Option (List ℕ) → List ℕ → Outcome
outcome_at None text = NotPending
outcome_at (Some request) text = outcome_of_text text

-- what a text says about the pending command
abbrev pub outcome_of : CommanderState → List ℕ → Outcome
outcome_of commander text = outcome_at commander.pending text

-- no command is pending any more
abbrev pub abandoned : CommanderState → CommanderState
abandoned commander = record commander { pending = None }

-- only a command that is done or was withdrawn is not pending any more
abbrev pub after_outcome : CommanderState → Outcome → CommanderState
after_outcome commander (Done reply) = abandoned commander
after_outcome commander StillPending = commander
after_outcome commander InDoubt = commander
after_outcome commander Withdrawn = abandoned commander
after_outcome commander (Refused status) = commander
after_outcome commander Malformed = commander
after_outcome commander NotPending = commander

abbrev pub after_reply : CommanderState → List ℕ → CommanderState
after_reply commander text = after_outcome commander (outcome_of commander text)

-- ---- the pending command is withdrawn

-- Withdraw of the last command
abbrev pub withdrawal_message : CommanderState → List ℕ
withdrawal_message commander = withdraw commander.life commander.originator commander.last_number

-- Withdraw of the pending command, if one is pending
abbrev pub pending_withdrawal : CommanderState → Option (List ℕ)
pending_withdrawal commander = option_map (λ _. withdrawal_message commander) commander.pending

abbrev pub withdrawing_at : Option (List ℕ) → List ℕ → Withdrawing
withdrawing_at None text = withdrawing.NotPending
withdrawing_at (Some request) text = withdrawing_of_text text

-- what a reply to Withdraw says about the pending command
abbrev pub withdrawing_of : CommanderState → List ℕ → Withdrawing
withdrawing_of commander text = withdrawing_at commander.pending text

-- only a command that was withdrawn or is done is not pending any more
abbrev pub after_withdrawing : CommanderState → Withdrawing → CommanderState
after_withdrawing commander withdrawing.Withdrawn = abandoned commander
after_withdrawing commander withdrawing.HandedOver = commander
after_withdrawing commander (withdrawing.Done reply) = abandoned commander
after_withdrawing commander withdrawing.InDoubt = commander
after_withdrawing commander withdrawing.Smaller = commander
after_withdrawing commander withdrawing.OtherLife = commander
after_withdrawing commander (withdrawing.Refused status) = commander
after_withdrawing commander withdrawing.Malformed = commander
after_withdrawing commander withdrawing.NotPending = commander

abbrev pub after_withdrawal : CommanderState → List ℕ → CommanderState
after_withdrawal commander text = after_withdrawing commander (withdrawing_of commander text)
