-- What a reply says about a pending command.
use Rattle.std.specs.Prelude.{⊤, ℕ, ◌==◌, if◌then◌else◌, List, [], ◌∷◌, Result, Ok, Err}
use Rattle.cip_message.specs.Reply.{Reply, reply_of, reply_service}
use Rattle.cip_message.specs.declared.reply.ReplyFault.{ReplyFault}
use Rattle.cip_message.specs.declared.ledger_services.TheConstants as services
use Rattle.cip_commander.specs.declared.outcome.CommandOutcome.{CommandOutcome}
use Rattle.cip_commander.specs.declared.outcome.CommandOutcome.TheVariants as outcomes

-- the command is done with this reply to its embedded request, waits at the device, is in doubt at the device, was
-- withdrawn, or was refused with this general status; the text is not a reply to Do_Once; or no command is pending
pub data Outcome : Type 0 where
  Done : (reply : List ℕ) → Outcome
  StillPending : Outcome
  InDoubt : Outcome
  Withdrawn : Outcome
  Refused : (status : ℕ) → Outcome
  Malformed : Outcome
  NotPending : Outcome

abbrev pub outcome_in : CommandOutcome → Outcome
outcome_in (outcomes.Done reply) = Done reply.now
outcome_in outcomes.StillPending = StillPending
outcome_in outcomes.InDoubt = InDoubt
outcome_in outcomes.Withdrawn = Withdrawn
outcome_in (outcomes.Refused status) = Refused status
outcome_in outcomes.Malformed = Malformed
outcome_in outcomes.NotPending = NotPending

-- by the state byte: 0 is done, 1 is pending, 2 is in doubt, 3 is withdrawn
abbrev pub outcome_of_data : List ℕ → Outcome
outcome_of_data [] = Malformed
outcome_of_data (state ∷ reply) =
    if state == 0 then Done reply
    else (if state == 1 then StillPending
    else (if state == 2 then InDoubt else (if state == 3 then Withdrawn else Malformed)))

abbrev pub outcome_of_reply : Result Reply ReplyFault → Outcome
outcome_of_reply (Err fault) = Malformed
outcome_of_reply (Ok reply) =
    if reply.service == reply_service services.DO_ONCE
    then (if reply.status == 0 then outcome_of_data reply.data else Refused reply.status)
    else Malformed

-- an outcome after which the command is not pending any more
abbrev pub Settles : Outcome → Type 0
Settles (Done reply) = ⊤
Settles StillPending = ⊥
Settles InDoubt = ⊥
Settles Withdrawn = ⊤
Settles (Refused status) = ⊥
Settles Malformed = ⊥
Settles NotPending = ⊥

-- what a text says about a pending command
unfoldable pub outcome_of_text : List ℕ → Outcome
outcome_of_text text = outcome_of_reply (reply_of text)
