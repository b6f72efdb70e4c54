-- What holds of both ends over every list of events.
use Rattle.std.specs.Prelude.{◌≡◌, ◌⊎◌, ⊤, ℕ, ◌<◌, ◌==◌, if◌then◌else◌, Option, Some, None, List, [], ◌∷◌, ◌++◌, map}
use Rattle.std.specs.List.{slice_get, AllByRecursion}
use Rattle.cip_ledger.specs.declared.target.Standing.{Standing}
use Rattle.cip_ledger.specs.Laws.{IsOfAnother}
use Rattle.cip_ledger.specs.Runs as journal
use Rattle.cip_ledger.specs.Runs.{StaysFinal}
use Rattle.cip_ledger.specs.Turn.{embedded_reply}
use Rattle.cip_commander.specs.CommanderRule.{IsInRange}
use Rattle.enip_reconnect.specs.Worlds.{Event, NewCommand, Abandon, Send, Reach, Back, Other, Opening}
use Rattle.enip_reconnect.specs.Worlds.{BothEnds, ends_at, ends_step, ends_after, seen_of_ends}
use Rattle.enip_reconnect.specs.NumberedWorld.{Entry, Own, Another, Device, device_at, device_step, device_after}
use Rattle.enip_reconnect.specs.NumberedWorld.{world_after, seen_of_world}

-- ---- words on the premises

-- requests of others are neither commands of this originator nor Forget of its slot
abbrev pub IsOthers : ℕ → Event → Type 0
IsOthers originator (NewCommand request) = ⊤
IsOthers originator Abandon = ⊤
IsOthers originator Send = ⊤
IsOthers originator (Reach position max_size) = ⊤
IsOthers originator (Back position) = ⊤
IsOthers originator (Other max_size request) = IsOfAnother originator (max_size, request)

-- ---- words on the log

-- the numbers in a log, in order
abbrev pub numbers_in : List Entry → List ℕ
numbers_in [] = []
numbers_in (Own number request ∷ log) = number ∷ numbers_in log
numbers_in (Another max_size request ∷ log) = numbers_in log

-- each number is smaller than all that follow it, so none is there twice
abbrev pub Rises : List ℕ → Type 0
Rises [] = ⊤
Rises (number ∷ later) = AllByRecursion (λ other. number < other) later × Rises later

-- this command is among these
abbrev pub IsAmong : List (ℕ × List ℕ) → ℕ → List ℕ → Type 0
IsAmong [] number request = ⊥
IsAmong (first ∷ more) number request = (first ≡ (number, request)) ⊎ IsAmong more number request

-- what is executed for the originator is one of these commands
abbrev pub WasGiven : List (ℕ × List ℕ) → Entry → Type 0
WasGiven given (Own number request) = IsAmong given number request
WasGiven given (Another max_size request) = ⊤

-- the log has grown, and every number that it gained is greater than this one
pub record GrowsAbove (number : ℕ) (old new : List Entry) : Type 0 where
  pub more : List Entry
  pub grown : new ≡ old ++ more
  pub greater : AllByRecursion (λ other. number < other) (numbers_in more)

-- ---- words on what the device does

-- a command of the originator's was executed with this reply
pub record Execution : Type 0 where
  pub number : ℕ
  pub request : List ℕ
  pub reply : List ℕ

-- what a device's journal has of an originator
abbrev pub executions_in : ℕ → List journal.Event → List Execution
executions_in originator [] = []
executions_in originator (journal.Executed command reply ∷ events) =
    if command.originator == originator
    then record { number = command.number; request = command.request; reply = reply } ∷ executions_in originator events
    else executions_in originator events
executions_in originator (journal.Freed freed ∷ events) = executions_in originator events

-- the request that a message is to the device
abbrev pub request_in : ℕ → Option (ℕ × List ℕ) → List journal.Request
request_in max_size None = []
request_in max_size (Some message) = (max_size, message.1) ∷ []

-- ---- the laws

module _ {M : Type 0} (after : M → ℕ → List ℕ → M) (answer : M → ℕ → List ℕ → List ℕ)
    (standing : M → List ℕ → Standing) where
  -- the number is in the log exactly once, and this is the reply of that one execution
  pub record IsExecutedOnce (opening : Opening M) (log : List Entry) (number : ℕ) (reply : List ℕ) : Type 0 where
    pub earlier : List Entry
    pub request : List ℕ
    pub later : List Entry
    pub place : log ≡ earlier ++ Own number request ∷ later
    pub smaller : AllByRecursion (λ other. other < number) (numbers_in earlier)
    pub greater : AllByRecursion (λ other. number < other) (numbers_in later)
    pub reply_is :
        reply ≡ embedded_reply after answer (device_after after answer standing opening earlier).router request

  -- what the log of the numbered world executes for the originator, with the reply of each execution
  abbrev pub executions_of : ℕ → Device M → List Entry → List Execution
  executions_of originator device [] = []
  executions_of originator device (Own number request ∷ log) =
      record { number = number; request = request; reply = embedded_reply after answer device.router request }
      ∷ executions_of originator (device_step after answer standing originator device (Own number request)) log
  executions_of originator device (Another max_size request ∷ log) =
      executions_of originator (device_step after answer standing originator device (Another max_size request)) log

  -- the request that an event brings to the device
  abbrev pub request_of : BothEnds M → Event → List journal.Request
  request_of ends (NewCommand request) = []
  request_of ends Abandon = []
  request_of ends Send = []
  request_of ends (Reach position max_size) = request_in max_size (slice_get ends.sent position)
  request_of ends (Back position) = []
  request_of ends (Other max_size request) = (max_size, request) ∷ []

  -- the requests that reach the device, in order
  abbrev pub requests_of : BothEnds M → List Event → List journal.Request
  requests_of ends [] = []
  requests_of ends (event ∷ events) =
      request_of ends event ++ requests_of (ends_step after answer standing ends event) events

  -- the device is a run of the requests that reached it, so the laws of the ledger hold of it
  abbrev pub device_law : Type 0
  device_law = (opening : Opening M) (events : List Event) →
      (ends_after after answer standing opening events).device
      ≡ journal.node_after after answer standing (ends_at opening).device (requests_of (ends_at opening) events)

  -- what the device executes for the originator is what the log has, with the same replies
  abbrev pub journal_law : Type 0
  journal_law = (opening : Opening M) (events : List Event) →
      StaysFinal after answer standing opening.router → IsInRange opening.commander →
      AllByRecursion (IsOthers opening.commander.originator) events →
      executions_in opening.commander.originator
      (journal.journal after answer standing (ends_at opening).device (requests_of (ends_at opening) events))
      ≡ executions_of opening.commander.originator (device_at opening)
      (world_after after answer standing opening events).log

  -- both ends show what the numbered world shows
  abbrev pub worlds_law : Type 0
  worlds_law = (opening : Opening M) (events : List Event) →
      StaysFinal after answer standing opening.router → IsInRange opening.commander →
      AllByRecursion (IsOthers opening.commander.originator) events →
      seen_of_ends (ends_after after answer standing opening events)
      ≡ seen_of_world after answer standing opening (world_after after answer standing opening events)

  -- no number is executed twice, and numbers are executed in the order in which they were given
  abbrev pub rising_law : Type 0
  rising_law = (opening : Opening M) (events : List Event) →
      Rises (numbers_in (world_after after answer standing opening events).log)

  -- each number was given to one command, and what is executed with it is that command
  abbrev pub given_law : Type 0
  given_law = (opening : Opening M) (events : List Event) →
      let world = world_after after answer standing opening events in
      Rises (map (λ (command : ℕ × List ℕ). command.0) world.given) × AllByRecursion (WasGiven world.given) world.log

  -- each accepted reply is that of the one execution of its number
  abbrev pub accepted_law : Type 0
  accepted_law = (opening : Opening M) (events : List Event) →
      StaysFinal after answer standing opening.router → IsInRange opening.commander →
      AllByRecursion (IsOthers opening.commander.originator) events →
      let log = (world_after after answer standing opening events).log in
      AllByRecursion (λ (accepted : ℕ × List ℕ). IsExecutedOnce opening log accepted.0 accepted.1)
      (ends_after after answer standing opening events).accepted

  -- no number is accepted twice
  abbrev pub accepted_once_law : Type 0
  accepted_once_law = (opening : Opening M) (events : List Event) →
      StaysFinal after answer standing opening.router → IsInRange opening.commander →
      AllByRecursion (IsOthers opening.commander.originator) events →
      Rises (map (λ (accepted : ℕ × List ℕ). accepted.0) (ends_after after answer standing opening events).accepted)

  -- once a reply was accepted, only greater numbers are executed: an abandoned command before it never will be
  abbrev pub never_again_law : Type 0
  never_again_law = (opening : Opening M) (events later : List Event) (position number : ℕ) (reply : List ℕ) →
      StaysFinal after answer standing opening.router → IsInRange opening.commander →
      AllByRecursion (IsOthers opening.commander.originator) events →
      slice_get (ends_after after answer standing opening events).accepted position ≡ Some (number, reply) →
      GrowsAbove number
      (world_after after answer standing opening events).log
      (world_after after answer standing opening (events ++ later)).log
