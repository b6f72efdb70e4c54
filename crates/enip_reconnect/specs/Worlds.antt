-- Both ends of commands that are executed once, as they are: a commander, a device with a ledger, and what is between
-- them.
--
-- Connections don't appear. A message reaches the device on whatever connection, in any order, any number of times or
-- never, and so does an answer the originator.
use Rattle.std.specs.Prelude.{ℕ, ◌+◌, ◌==◌, ◌&&◌, Bool, is_some, if◌then◌else◌, Option, Some, None}
use Rattle.std.specs.Prelude.{List, [], ◌∷◌, ◌++◌, fold}
use Rattle.std.specs.List.{slice_get}
use Rattle.cip_ledger.specs.declared.router.LedgerRouter.{LedgerRouter}
use Rattle.cip_ledger.specs.declared.target.Standing.{Standing}
use Rattle.cip_ledger.specs.Ledger.{empty_ledger}
use Rattle.cip_ledger.specs.Runs.{next, answer_to}
use Rattle.cip_commander.specs.declared.refusal.CommandRefused.{CommandRefused}
use Rattle.cip_commander.specs.Outcome as outcomes
use Rattle.cip_commander.specs.CommanderRule.{CommanderState, command_refusal, after_command, abandoned}
use Rattle.cip_commander.specs.CommanderRule.{pending_message, outcome_of, after_outcome}

-- What may happen: the originator gives a command, gives the pending one up, or puts its message on the network, for
-- the first time or again. The message at this position of all that were sent reaches the device, which replies within
-- this limit. The answer at this position of all that were sent back reaches the originator. A request of another
-- reaches the device.
pub data Event : Type 0 where
  NewCommand : (request : List ℕ) → Event
  Abandon : Event
  Send : Event
  Reach : (position max_size : ℕ) → Event
  Back : (position : ℕ) → Event
  Other : (max_size : ℕ) (request : List ℕ) → Event

-- how both ends begin: a device's life with an empty ledger of so many slots, and a commander
pub record Opening (M : Type 0) : Type 0 where
  pub slots : ℕ
  pub life : ℕ
  pub router : M
  pub commander : CommanderState

-- what is seen: the machine, the originator, what was sent back, byte for byte, and the accepted replies, each with the
-- number of its command
pub record Seen (M : Type 0) : Type 0 where
  pub machine : M
  pub commander : CommanderState
  pub back : List (ℕ × List ℕ)
  pub accepted : List (ℕ × List ℕ)

-- ---- the originator, in both worlds

-- the command that it gave, with its number
abbrev pub gives : CommanderState → List ℕ → Option CommandRefused → List (ℕ × List ℕ)
gives commander request None = (commander.last_number + 1, request) ∷ []
gives commander request (Some why) = []

-- what it sends: the pending command's message or request, with its number
abbrev pub sends : CommanderState → Option (List ℕ) → List (ℕ × List ℕ)
sends commander None = []
sends commander (Some text) = (commander.last_number, text) ∷ []

-- an answer to this number's message is one to the pending command
abbrev pub awaits : CommanderState → ℕ → Bool
awaits commander number = is_some commander.pending && (commander.last_number == number)

-- ---- both ends as they are

-- the device, the originator, what was sent and sent back so far, each with the number of its command, and the accepted
-- replies
pub record BothEnds (M : Type 0) : Type 0 where
  pub device : LedgerRouter M
  pub commander : CommanderState
  pub sent : List (ℕ × List ℕ)
  pub back : List (ℕ × List ℕ)
  pub accepted : List (ℕ × List ℕ)

abbrev pub ends_at : {M : Type 0} → Opening M → BothEnds M
ends_at opening = record {
  device = record { ledger = Some (empty_ledger opening.slots opening.life); router = opening.router };
  commander = opening.commander;
  sent = [];
  back = [];
  accepted = [];
}

abbrev pub accepted_by : ℕ → outcomes.Outcome → List (ℕ × List ℕ)
accepted_by number (outcomes.Done reply) = (number, reply) ∷ []
accepted_by number outcomes.StillPending = []
accepted_by number outcomes.InDoubt = []
accepted_by number outcomes.Withdrawn = []
accepted_by number (outcomes.Refused status) = []
accepted_by number outcomes.Malformed = []
accepted_by number outcomes.NotPending = []

-- it takes a reply for one to its last command
abbrev pub heard : {M : Type 0} → BothEnds M → outcomes.Outcome → BothEnds M
heard ends outcome = record ends {
  commander = after_outcome ends.commander outcome;
  accepted = ends.accepted ++ accepted_by ends.commander.last_number outcome;
}

-- the originator takes an answer only if it is one to the pending command
abbrev pub ends_back : {M : Type 0} → BothEnds M → Option (ℕ × List ℕ) → BothEnds M
ends_back ends None = ends
ends_back ends (Some reply) =
    if awaits ends.commander reply.0 then heard ends (outcome_of ends.commander reply.1) else ends

abbrev pub seen_of_ends : {M : Type 0} → BothEnds M → Seen M
seen_of_ends ends = record {
  machine = ends.device.router;
  commander = ends.commander;
  back = ends.back;
  accepted = ends.accepted;
}

module _ {M : Type 0} (after : M → ℕ → List ℕ → M) (answer : M → ℕ → List ℕ → List ℕ)
    (standing : M → List ℕ → Standing) where
  abbrev pub ends_reach : BothEnds M → ℕ → Option (ℕ × List ℕ) → BothEnds M
  ends_reach ends max_size None = ends
  ends_reach ends max_size (Some message) = record ends {
    device = next after answer standing ends.device (max_size, message.1);
    back = ends.back ++ (message.0, answer_to after answer standing ends.device (max_size, message.1)) ∷ [];
  }

  abbrev pub ends_step : BothEnds M → Event → BothEnds M
  ends_step ends (NewCommand request) = record ends { commander = after_command ends.commander request }
  ends_step ends Abandon = record ends { commander = abandoned ends.commander }
  ends_step ends Send = record ends { sent = ends.sent ++ sends ends.commander (pending_message ends.commander) }
  ends_step ends (Reach position max_size) = ends_reach ends max_size (slice_get ends.sent position)
  ends_step ends (Back position) = ends_back ends (slice_get ends.back position)
  ends_step ends (Other max_size request) =
      record ends { device = next after answer standing ends.device (max_size, request) }

  -- both ends after these events
  abbrev pub ends_after : Opening M → List Event → BothEnds M
  ends_after opening events = fold ends_step (ends_at opening) events
