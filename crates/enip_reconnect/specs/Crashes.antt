-- Both ends of numbered commands, if the originator's client may crash.
use Rattle.std.specs.Prelude.{◌≡◌, ◌⊎◌, ℕ, Option, None, Some, List, [], ◌∷◌, ◌++◌}
use Rattle.std.specs.List.{slice_get}
use Rattle.cip_ledger.specs.declared.target.Standing.{Standing}
use Rattle.cip_commander.specs.CommanderRule.{CommanderState, outcome_of}
use Rattle.enip_reconnect.specs.Worlds.{Event, Reach, Other, Opening, BothEnds, ends_at, ends_step, ends_after, heard}
use Rattle.kept_commander.specs.declared.lives.CommandEvent.{CommandEvent}
use Rattle.kept_commander.specs.declared.lives.CommandEvent.TheVariants.{Give, Send, Accept, Abandon, Restart}
use Rattle.kept_commander.specs.declared.lives.Sent.{Sent}
use Rattle.kept_commander.specs.Lives.{MayMake}

-- What may happen: an event of the client, with what it hands out; the message at this position of all that were handed
-- out reaches the device, which replies within this limit; a request of another reaches the device.
pub data Happening : Type 0 where
  OfClient : (event : CommandEvent) (sent : Option Sent) → Happening
  Reaches : (position max_size : ℕ) → Happening
  OfAnother : (max_size : ℕ) (request : List ℕ) → Happening

-- what was handed out, with its number
abbrev pub handed_over : Option Sent → List (ℕ × List ℕ)
handed_over None = []
handed_over (Some sent) = (sent.number, sent.message.items) ∷ []

-- both ends, with this commander in place of the originator's, and what it handed out
abbrev pub ends_with : {M : Type 0} → BothEnds M → CommanderState → Option Sent → BothEnds M
ends_with ends commander sent =
    record ends { commander = commander; sent = ends.sent ++ handed_over sent }

-- the client's event makes of its commander what it may, done or lost
abbrev pub IsMade : {M : Type 0} → CommandEvent → Option Sent → BothEnds M → BothEnds M → Type 0
IsMade event sent ends next =
    (commander : CommanderState) × MayMake event sent ends.commander commander
    × (next ≡ ends_with ends commander sent)

-- A reply is lost, or is the answer at this position of all that the device sent back, to the last command, and is
-- taken.
abbrev pub IsAccepted : {M : Type 0} → List ℕ → BothEnds M → BothEnds M → Type 0
IsAccepted reply ends next =
    (next ≡ ends) ⊎ ((position : ℕ) × (slice_get ends.back position ≡ Some (ends.commander.last_number, reply))
    × (next ≡ heard ends (outcome_of ends.commander reply)))

-- Commands are given for the one life of the device.
abbrev pub IsOfClient : {M : Type 0} → CommandEvent → Option Sent → BothEnds M → BothEnds M → Type 0
IsOfClient (Give life request) sent ends next =
    (life ≡ ends.commander.life) × IsMade (Give life request) sent ends next
IsOfClient Send sent ends next = IsMade Send sent ends next
IsOfClient (Accept reply) sent ends next = (sent ≡ None) × IsAccepted reply.items ends next
IsOfClient Abandon sent ends next = IsMade Abandon sent ends next
IsOfClient Restart sent ends next = IsMade Restart sent ends next

module _ {M : Type 0} (after : M → ℕ → List ℕ → M) (answer : M → ℕ → List ℕ → List ℕ)
    (standing : M → List ℕ → Standing) where
  abbrev pub Happens : Happening → BothEnds M → BothEnds M → Type 0
  Happens (OfClient event sent) ends next = IsOfClient event sent ends next
  Happens (Reaches position max_size) ends next = next ≡ ends_step after answer standing ends (Reach position max_size)
  Happens (OfAnother max_size request) ends next = next ≡ ends_step after answer standing ends (Other max_size request)

  -- all this happens, the first of it first
  abbrev pub AllHappens : List Happening → BothEnds M → BothEnds M → Type 0
  AllHappens [] ends last = last ≡ ends
  AllHappens (first ∷ others) ends last =
      (next : BothEnds M) × Happens first ends next × AllHappens others next last

  -- Whatever happens with a client that crashes is what happens to both ends without crashes, by some events.
  abbrev pub crashes_law : Type 0
  crashes_law =
      (opening : Opening M) (happenings : List Happening) (last : BothEnds M)
      → AllHappens happenings (ends_at opening) last
      → (events : List Event) × (last ≡ ends_after after answer standing opening events)
