-- What a function of a commander returns to C.
use Rattle.std.specs.Prelude.{ℕ, List, ◌≡◌, ◌≤◌, ⊤, if◌then◌else◌, length, Bool, Option, Some, None, is_some}
use Rattle.cip_commander.specs.CommanderRule.{after_command}
use Rattle.cip_commander.specs.CommanderRule.{CommanderState, command_refusal, with_command, message_of}
use Rattle.cip_commander.specs.CommanderRule.{pending_message, outcome_of, after_reply, abandoned}
use Rattle.cip_commander.specs.CommanderRule.{pending_withdrawal, withdrawing_of, after_withdrawal}
use Rattle.cip_commander.specs.Outcome.{Outcome, Done, StillPending, InDoubt, Withdrawn, Refused, Malformed, NotPending}
use Rattle.cip_commander.specs.Withdrawing as withdrawing
use Rattle.cip_commander.specs.Withdrawing.{Withdrawing}
use Rattle.cip_commander.specs.declared.refusal.CommandRefused.{CommandRefused}
use Rattle.cip_commander.specs.declared.refusal.CommandRefused.TheVariants as refusals
use Rattle.enip_c.specs.declared.commander.CCommandOutcome.{CCommandOutcome}
use Rattle.enip_c.specs.declared.status.Status.{Status}
use Rattle.enip_c.specs.declared.status.Status.TheVariants as status
use Rattle.enip_c.specs.Buffer.{Returned, returned, status_number, in_buffer, IsMadeStatus}
use Rattle.enip_c.specs.ClientCalls.{general_in}

-- The status if a command is refused.
abbrev pub command_status : CommandRefused → Status
command_status refusals.Pending = status.Waiting
command_status refusals.NotARequest = status.Request
command_status refusals.TooLong = status.LongRequest
command_status refusals.NumbersExhausted = status.Numbers

-- The status of resuming a commander, whose pending request may be refused.
abbrev pub IsResumedStatus : Option CommandRefused → ℕ → Type 0
IsResumedStatus None result = IsMadeStatus result
IsResumedStatus (Some why) result = result ≡ status_number (command_status why)

-- A command's message, in the buffer, or the status that says why the command is refused.
abbrev pub command_returned : CommanderState → List ℕ → Option CommandRefused → ℕ → List ℕ → Returned
command_returned c request None count buffer =
    let message = message_of (with_command c request) request in
    returned status.Done (length message) (in_buffer message buffer)
command_returned c request (Some why) count buffer = returned (command_status why) count buffer

-- A command was given: it is taken or refused.
pub record IsGiven (old new : CommanderState) (request : List ℕ) (result count_old count_new : ℕ)
    (buffer_old buffer_new : List ℕ) : Type 0 where
  pub commander : new ≡ after_command old request
  pub output : ◌≡◌ {A = Returned} (record { status = result; count = count_new; buffer = buffer_new })
      (command_returned old request (command_refusal old request) count_old buffer_old)

-- The same for what C keeps.
abbrev pub IsGivenKept : Option CommanderState → Option CommanderState → List ℕ → ℕ → ℕ → ℕ → List ℕ → List ℕ → Type 0
IsGivenKept (Some old) (Some new) request result count_old count_new buffer_old buffer_new =
    IsGiven old new request result count_old count_new buffer_old buffer_new
IsGivenKept old new request result count_old count_new buffer_old buffer_new = ⊥

-- The message of the pending command, and its embedded request, if one is pending.
abbrev pub message_kept : Option CommanderState → Option (List ℕ)
message_kept None = None
message_kept (Some c) = pending_message c

abbrev pub request_kept : Option CommanderState → Option (List ℕ)
request_kept None = None
request_kept (Some c) = c.pending

-- The commander's values are these.
pub record HasValues (c : CommanderState) (life originator last_number : ℕ) : Type 0 where
  pub is_life : life ≡ c.life
  pub is_originator : originator ≡ c.originator
  pub is_last_number : last_number ≡ c.last_number

abbrev pub HasValuesKept : Option CommanderState → ℕ → ℕ → ℕ → Type 0
HasValuesKept None life originator last_number = ⊥
HasValuesKept (Some c) life originator last_number = HasValues c life originator last_number

-- What a reply says about the pending command, and the buffer. If the command is done, the reply to its embedded request
-- is at the front of the buffer.
pub record ReturnedOutcome : Type 0 where
  pub outcome : CCommandOutcome
  pub buffer : List ℕ

abbrev pub outcome_without_reply : ℕ → ℕ → List ℕ → ReturnedOutcome
outcome_without_reply kind general buffer =
    record { outcome = record { reply = 0; kind = kind; general = general }; buffer = buffer }

abbrev pub returned_outcome : Outcome → List ℕ → ReturnedOutcome
returned_outcome NotPending buffer = outcome_without_reply 0 0 buffer
returned_outcome (Done reply) buffer = record {
  outcome = record { reply = length reply; kind = 1; general = general_in reply };
  buffer = in_buffer reply buffer;
}
returned_outcome StillPending buffer = outcome_without_reply 2 0 buffer
returned_outcome (Refused general) buffer = outcome_without_reply 3 general buffer
returned_outcome Malformed buffer = outcome_without_reply 4 0 buffer
returned_outcome InDoubt buffer = outcome_without_reply 5 0 buffer
returned_outcome Withdrawn buffer = outcome_without_reply 6 0 buffer

-- The reply to the embedded request, if any, has at most this size.
abbrev pub IsWithin : ℕ → Outcome → Type 0
IsWithin size (Done reply) = length reply ≤ size
IsWithin size other = ⊤

-- A reply was passed to a commander, and `outcome` is the result.
pub record IsReceived (old new : CommanderState) (reply : List ℕ) (outcome : CCommandOutcome)
    (buffer_old buffer_new : List ℕ) : Type 0 where
  pub commander : new ≡ after_reply old reply
  pub returned : ◌≡◌ {A = ReturnedOutcome} (record { outcome = outcome; buffer = buffer_new })
      (returned_outcome (outcome_of old reply) buffer_old)

abbrev pub IsReceivedKept : Option CommanderState → Option CommanderState → List ℕ → CCommandOutcome → List ℕ → List ℕ
    → Type 0
IsReceivedKept (Some old) (Some new) reply outcome buffer_old buffer_new =
    IsReceived old new reply outcome buffer_old buffer_new
IsReceivedKept old new reply outcome buffer_old buffer_new = ⊥

-- Withdraw of the pending command, if one is pending.
abbrev pub withdrawal_kept : Option CommanderState → Option (List ℕ)
withdrawal_kept None = None
withdrawal_kept (Some c) = pending_withdrawal c

-- What a reply to Withdraw says about the pending command, and the buffer. If the command is done, the reply to its
-- embedded request is at the front of the buffer.
abbrev pub returned_withdrawing : Withdrawing → List ℕ → ReturnedOutcome
returned_withdrawing withdrawing.NotPending buffer = outcome_without_reply 0 0 buffer
returned_withdrawing (withdrawing.Done reply) buffer = record {
  outcome = record { reply = length reply; kind = 1; general = general_in reply };
  buffer = in_buffer reply buffer;
}
returned_withdrawing withdrawing.HandedOver buffer = outcome_without_reply 2 0 buffer
returned_withdrawing (withdrawing.Refused general) buffer = outcome_without_reply 3 general buffer
returned_withdrawing withdrawing.Malformed buffer = outcome_without_reply 4 0 buffer
returned_withdrawing withdrawing.InDoubt buffer = outcome_without_reply 5 0 buffer
returned_withdrawing withdrawing.Withdrawn buffer = outcome_without_reply 6 0 buffer
returned_withdrawing withdrawing.Smaller buffer = outcome_without_reply 7 0x0c buffer
returned_withdrawing withdrawing.OtherLife buffer = outcome_without_reply 8 0x10 buffer

-- The reply to the embedded request, if any, has at most this size.
abbrev pub IsWithdrawingWithin : ℕ → Withdrawing → Type 0
IsWithdrawingWithin size (withdrawing.Done reply) = length reply ≤ size
IsWithdrawingWithin size other = ⊤

-- A reply to Withdraw was passed to a commander, and `outcome` is the result.
pub record IsWithdrawalReceived (old new : CommanderState) (reply : List ℕ) (outcome : CCommandOutcome)
    (buffer_old buffer_new : List ℕ) : Type 0 where
  pub commander : new ≡ after_withdrawal old reply
  pub returned : ◌≡◌ {A = ReturnedOutcome} (record { outcome = outcome; buffer = buffer_new })
      (returned_withdrawing (withdrawing_of old reply) buffer_old)

abbrev pub IsWithdrawalReceivedKept : Option CommanderState → Option CommanderState → List ℕ → CCommandOutcome
    → List ℕ → List ℕ → Type 0
IsWithdrawalReceivedKept (Some old) (Some new) reply outcome buffer_old buffer_new =
    IsWithdrawalReceived old new reply outcome buffer_old buffer_new
IsWithdrawalReceivedKept old new reply outcome buffer_old buffer_new = ⊥

-- The pending command was given up, or none was pending.
abbrev pub abandoned_status : Bool → Status
abandoned_status was_pending = if was_pending then status.Done else status.Absent

pub record IsAbandoned (old new : CommanderState) (result : ℕ) : Type 0 where
  pub commander : new ≡ abandoned old
  pub status : result ≡ status_number (abandoned_status (is_some old.pending))

abbrev pub IsAbandonedKept : Option CommanderState → Option CommanderState → ℕ → Type 0
IsAbandonedKept (Some old) (Some new) result = IsAbandoned old new result
IsAbandonedKept old new result = ⊥
