-- Withdrawing the pending command: the request, and what a reply says.
use Rattle.std.specs.Prelude.{ℕ, ◌==◌, if◌then◌else◌, List, [], ◌∷◌, ◌++◌, Result, Ok, Err}
use Rattle.cip_bytes.specs.Numbers.{le}
use Rattle.cip_message.specs.Reply.{Reply, reply_of, reply_service}
use Rattle.cip_message.specs.declared.reply.ReplyFault.{ReplyFault}
use Rattle.cip_message.specs.declared.ledger_services.TheConstants as services
use Rattle.cip_commander.specs.declared.withdrawal.WithdrawalOutcome.{WithdrawalOutcome}
use Rattle.cip_commander.specs.declared.withdrawal.WithdrawalOutcome.TheVariants as outcomes

-- Withdraw: the service, a path of two words (class 0x65, instance 1), ULINT, ULINT, UDINT
abbrev pub withdraw : ℕ → ℕ → ℕ → List ℕ
withdraw life originator number =
    services.WITHDRAW ∷ 2 ∷ 0x20 ∷ 0x65 ∷ 0x24 ∷ 1 ∷ (le 8 life ++ (le 8 originator ++ le 4 number))

-- the command was withdrawn, was handed over to the device's owner, is done with this reply to its embedded request, or
-- is in doubt at the device; the device has a later command, or is in another life; the request was refused with this
-- general status; the text is not a reply to Withdraw; or no command is pending
pub data Withdrawing : Type 0 where
  Withdrawn : Withdrawing
  HandedOver : Withdrawing
  Done : (reply : List ℕ) → Withdrawing
  InDoubt : Withdrawing
  Smaller : Withdrawing
  OtherLife : Withdrawing
  Refused : (status : ℕ) → Withdrawing
  Malformed : Withdrawing
  NotPending : Withdrawing

abbrev pub withdrawing_in : WithdrawalOutcome → Withdrawing
withdrawing_in outcomes.Withdrawn = Withdrawn
withdrawing_in outcomes.HandedOver = HandedOver
withdrawing_in (outcomes.Done reply) = Done reply.now
withdrawing_in outcomes.InDoubt = InDoubt
withdrawing_in outcomes.Smaller = Smaller
withdrawing_in outcomes.OtherLife = OtherLife
withdrawing_in (outcomes.Refused status) = Refused status
withdrawing_in outcomes.Malformed = Malformed
withdrawing_in outcomes.NotPending = NotPending

-- by the state byte: 0 is done, 1 is pending, so it was handed over, 2 is in doubt, 3 is withdrawn
abbrev pub withdrawing_of_data : List ℕ → Withdrawing
withdrawing_of_data [] = Malformed
withdrawing_of_data (state ∷ reply) =
    if state == 0 then Done reply
    else (if state == 1 then HandedOver
    else (if state == 2 then InDoubt else (if state == 3 then Withdrawn else Malformed)))

-- by the general status, if it is not success
abbrev pub withdrawing_refused : ℕ → Withdrawing
withdrawing_refused status =
    if status == 0x0c then Smaller else (if status == 0x10 then OtherLife else Refused status)

abbrev pub withdrawing_of_reply : Result Reply ReplyFault → Withdrawing
withdrawing_of_reply (Err fault) = Malformed
withdrawing_of_reply (Ok reply) =
    if reply.service == reply_service services.WITHDRAW
    then (if reply.status == 0 then withdrawing_of_data reply.data else withdrawing_refused reply.status)
    else Malformed

-- what a text says about a command that is withdrawn
unfoldable pub withdrawing_of_text : List ℕ → Withdrawing
withdrawing_of_text text = withdrawing_of_reply (reply_of text)
