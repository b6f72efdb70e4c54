-- What commands, replies, crashes and starts make of what is kept, and which messages are handed out.
use Rattle.std.specs.Prelude.{◌≡◌, ◌⊎◌, ℕ, ◌<◌, ◌≤◌, ⊤, Bool, IsTrue, Option, None, Some, List, [], ◌∷◌, All}
use Rattle.std.specs.Option.{ForSome}
use Rattle.cip_commander.specs.CommanderRule.{CommanderState, command_refusal, pending_message, after_reply, abandoned}
use Rattle.cip_commander.specs.declared.refusal.CommandRefused.{CommandRefused}
use Rattle.cip_commander.specs.Outcome.{Settles, outcome_of_text}
use Rattle.kept_commander.specs.declared.lives.CommandEvent.{CommandEvent}
use Rattle.kept_commander.specs.declared.lives.CommandEvent.TheVariants.{Give, Send, Accept, Abandon, Restart}
use Rattle.kept_commander.specs.declared.lives.Sent.{Sent}
use Rattle.kept_commander.specs.Kept.{given}

-- the message of the pending command, with its number
pub record IsMessageOf (commander : CommanderState) (sent : Sent) : Type 0 where
  pub number : sent.number ≡ commander.last_number
  pub message : pending_message commander ≡ Some sent.message.items

-- what is handed out is the message of the pending command, if anything is
abbrev pub IsOfPending : CommanderState → Option Sent → Type 0
IsOfPending commander None = ⊤
IsOfPending commander (Some sent) = IsMessageOf commander sent

-- A command is taken, with the next number, and its message may be handed out.
pub record IsGiven (before : CommanderState) (life : ℕ) (request : List ℕ) (sent : Option Sent)
    (after : CommanderState) : Type 0 where
  pub allowed : command_refusal before request ≡ None
  pub taken : after ≡ given before life request
  pub message : IsOfPending after sent

-- Nothing has changed, and nothing is handed out.
abbrev pub IsLost : CommanderState → Option Sent → CommanderState → Type 0
IsLost before sent after = (after ≡ before) × (sent ≡ None)

-- What an event may make, and what may be handed out by it. It is lost if it was refused, or if a crash came before it
-- was kept. A crash and a start change nothing.
abbrev pub MayMake : CommandEvent → Option Sent → CommanderState → CommanderState → Type 0
MayMake (Give life request) sent before after =
    IsLost before sent after ⊎ IsGiven before life request.items sent after
MayMake Send sent before after = (after ≡ before) × IsOfPending before sent
MayMake (Accept reply) sent before after =
    IsLost before sent after ⊎ ((after ≡ after_reply before reply.items) × (sent ≡ None))
MayMake Abandon sent before after = IsLost before sent after ⊎ ((after ≡ abandoned before) × (sent ≡ None))
MayMake Restart sent before after = IsLost before sent after

abbrev pub bytes_of : Option Sent → Option (List ℕ)
bytes_of None = None
bytes_of (Some sent) = Some sent.message.items

-- A command is taken and its message handed out, unless it is refused.
abbrev pub MakesGiven : Option CommandRefused → CommanderState → ℕ → List ℕ → Option Sent → CommanderState → Type 0
MakesGiven None before life request sent after =
    (after ≡ given before life request) × (bytes_of sent ≡ pending_message after)
MakesGiven (Some why) before life request sent after = (after ≡ before) × (bytes_of sent ≡ None)

-- What an event makes that does not fail: it serves before it, unless the event is a start.
abbrev pub Makes : CommandEvent → Option Sent → Bool → CommanderState → CommanderState → Type 0
Makes (Give life request) sent serves before after =
    IsTrue serves × MakesGiven (command_refusal before request.items) before life request.items sent after
Makes Send sent serves before after = IsTrue serves × (bytes_of sent ≡ pending_message before)
Makes (Accept reply) sent serves before after = IsTrue serves × (after ≡ after_reply before reply.items)
Makes Abandon sent serves before after = IsTrue serves × (after ≡ abandoned before)
Makes Restart sent serves before after = ⊤

-- An event, from a client that serves or not and what it keeps, to the same. If the client serves after it, the event
-- did not fail. If it failed, it may have been done or not.
pub record IsStep (event : CommandEvent) (sent : Option Sent) (serves : Bool) (before : CommanderState)
    (serves_after : Bool) (after : CommanderState) : Type 0 where
  pub may : MayMake event sent before after
  pub does : IsTrue serves_after → Makes event sent serves before after

-- These events, the first of them first, make the last of the first, and hand out these messages.
abbrev pub IsRun : List CommandEvent → List (Option Sent) → Bool → CommanderState → Bool → CommanderState → Type 0
IsRun [] [] serves first serves_last last = (serves_last ≡ serves) × (last ≡ first)
IsRun [] (sent ∷ others) serves first serves_last last = ⊥
IsRun (event ∷ events) [] serves first serves_last last = ⊥
IsRun (event ∷ events) (sent ∷ others) serves first serves_last last =
    (serves_next : Bool) × (next : CommanderState) × IsStep event sent serves first serves_next next
    × IsRun events others serves_next next serves_last last

-- ---- what follows

-- Of two messages, the later one has a greater number, or the same number and the same bytes.
abbrev pub IsLater : Option Sent → Option Sent → Type 0
IsLater None other = ⊤
IsLater (Some sent) None = ⊤
IsLater (Some sent) (Some other) =
    (sent.number ≤ other.number) × (sent.number ≡ other.number → sent.message.items ≡ other.message.items)

-- The commander has used a message's number: it will not give it to another command.
abbrev pub HasUsed : CommanderState → Option Sent → Type 0
HasUsed commander None = ⊤
HasUsed commander (Some sent) =
    (sent.number < commander.last_number)
    ⊎ ((sent.number ≡ commander.last_number)
    × ForSome (pending_message commander) (λ message. message ≡ sent.message.items))

-- The event neither settles the pending command nor gives it up.
abbrev pub KeepsPending : CommandEvent → Type 0
KeepsPending (Give life request) = ⊤
KeepsPending Send = ⊤
KeepsPending (Accept reply) = Settles (outcome_of_text reply.items) → ⊥
KeepsPending Abandon = ⊥
KeepsPending Restart = ⊤

-- A message that was handed out is still that of the pending command, if no later event has settled the command or
-- given it up.
abbrev pub IsNeverDropped : List CommandEvent → List (Option Sent) → CommanderState → Type 0
IsNeverDropped [] sent last = ⊤
IsNeverDropped (event ∷ events) [] last = ⊤
IsNeverDropped (event ∷ events) (sent ∷ others) last =
    (All KeepsPending events → IsOfPending last sent) × IsNeverDropped events others last
