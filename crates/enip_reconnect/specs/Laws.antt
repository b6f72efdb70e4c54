-- What holds of both ends over every list of events. Whatever happens in bytes, frames and TCP connections is what
-- happens in whole messages between a commander and a device (`Worlds` of `cip_commander`), whose laws follow.
use Rattle.std.specs.Prelude.{◌≡◌, ⊤, ℕ, Some, None, List, [], ◌∷◌, ◌++◌, map}
use Rattle.std.specs.List.{slice_get, AllByRecursion}
use Rattle.cip_bytes.specs.declared.protocol.TheConstants.{UNCONNECTED_LIMIT}
use Rattle.cip_commander.specs.CommanderRule.{CommanderState, IsInRange}
use Rattle.enip_reconnect.specs.CommanderLaws.{IsOthers, requests_of, numbers_in, Rises, WasGiven, GrowsAbove, IsExecutedOnce}
use Rattle.enip_reconnect.specs.CommanderLaws.{executions_in, executions_of}
use Rattle.enip_reconnect.specs.NumberedWorld.{NumberedWorld, world_after, device_after, device_at as numbered_device_at}
use Rattle.enip_reconnect.specs.Worlds.{BothEnds}
use Rattle.enip_reconnect.specs.Worlds as messages
use Rattle.cip_ledger.specs.Device.{owned_standing}
use Rattle.cip_ledger.specs.Laws.{IsOfAnother}
use Rattle.cip_ledger.specs.Runs.{Request, journal}
use Rattle.cip_owner.specs.Owned.{OwnedState}
use Rattle.enip_adapter.specs.DeviceRuns.{objects_after, objects_answer, requests_of_calls, IsNoWrite}
use Rattle.enip_adapter.specs.SendRRData.{Executes, route_of}
use Rattle.enip_reconnect.specs.Events.{Event, NewCommand, Abandon, Ask, Other}
use Rattle.enip_reconnect.specs.World.{Ends, Opening, device_at, ends_at, calls_at, ends_step, ends_after}

-- ---- words on the premise

-- The frames of other peers have neither commands of this originator nor Forget of its slot. Nor have the other
-- requests of the originator, and these are not for the Connection Manager. The device itself writes nothing, since the
-- messages between a commander and a device have no such event.
abbrev pub IsOfOthers : ℕ → Ends → Event → Type 0
IsOfOthers originator ends (Other call) =
    IsNoWrite call
    × AllByRecursion (IsOfAnother originator) (requests_of_calls ends.adapter (calls_at ends (Other call)))
IsOfOthers originator ends (Ask request) =
    IsOfAnother originator (UNCONNECTED_LIMIT, request) × (route_of request ≡ Executes)
IsOfOthers originator ends own = ⊤

abbrev pub AreOfOthers : ℕ → Ends → List Event → Type 0
AreOfOthers originator ends [] = ⊤
AreOfOthers originator ends (event ∷ events) =
    IsOfOthers originator ends event × AreOfOthers originator (ends_step ends event) events

-- ---- a run in whole messages

abbrev pub MessageEvent : Type 0
MessageEvent = messages.Event

-- The same opening of a commander and a device.
abbrev pub opening_in_messages : Opening → messages.Opening OwnedState
opening_in_messages opening = record {
  slots = opening.slots;
  life = opening.life;
  router = record { objects = opening.objects; prepared = None; queue = None; reset = None };
  commander = opening.commander;
}

abbrev pub message_ends : Opening → List MessageEvent → BothEnds OwnedState
message_ends opening events = messages.ends_after objects_after objects_answer owned_standing (opening_in_messages opening) events

-- What the originator does with its commands: gives one, or gives the pending one up.
abbrev pub decisions_in : List Event → List MessageEvent
decisions_in [] = []
decisions_in (NewCommand request ∷ events) = messages.NewCommand request ∷ decisions_in events
decisions_in (Abandon ∷ events) = messages.Abandon ∷ decisions_in events
decisions_in (other ∷ events) = decisions_in events

abbrev pub decisions_in_messages : List MessageEvent → List MessageEvent
decisions_in_messages [] = []
decisions_in_messages (messages.NewCommand request ∷ events) =
    messages.NewCommand request ∷ decisions_in_messages events
decisions_in_messages (messages.Abandon ∷ events) = messages.Abandon ∷ decisions_in_messages events
decisions_in_messages (other ∷ events) = decisions_in_messages events

-- The requests that reach the device in the frames of any peer, in order.
abbrev pub requests_in : Ends → List Event → List Request
requests_in ends [] = []
requests_in ends (event ∷ events) =
    requests_of_calls ends.adapter (calls_at ends event) ++ requests_in (ends_step ends event) events

-- the numbered world after these messages
abbrev pub numbered_world : Opening → List MessageEvent → NumberedWorld
numbered_world opening events = world_after objects_after objects_answer owned_standing (opening_in_messages opening) events

-- A run amounts to these messages: the device ends in the same state, after the same requests in the same order. The
-- commander is the same, it gives the same commands, and it accepts the same replies. All other requests are of others.
pub record AmountsTo (opening : Opening) (events : List Event) (message_events : List MessageEvent) : Type 0 where
  pub device : (ends_after opening events).adapter.state.shared.objects ≡ (message_ends opening message_events).device
  pub reached : requests_in (ends_at opening) events
      ≡ requests_of objects_after objects_answer owned_standing (messages.ends_at (opening_in_messages opening)) message_events
  pub commander : (ends_after opening events).commander ≡ (message_ends opening message_events).commander
  pub decisions : decisions_in events ≡ decisions_in_messages message_events
  pub given : (ends_after opening events).given ≡ (numbered_world opening message_events).given
  pub accepted : (ends_after opening events).accepted ≡ (message_ends opening message_events).accepted
  pub others : AllByRecursion (IsOthers opening.commander.originator) message_events

-- ---- the laws

-- Every run amounts to messages. If it goes on, it goes on to amount to the same messages and further ones.
abbrev pub messages_law : Type 0
messages_law = (opening : Opening) (events later : List Event) → IsInRange opening.commander →
    AreOfOthers opening.commander.originator (ends_at opening) (events ++ later) →
    (message_events : List MessageEvent) × ((more : List MessageEvent) × (AmountsTo opening events message_events
    × AmountsTo opening (events ++ later) (message_events ++ more)))

-- What is seen of a run: the machine, the originator, and the accepted replies.
pub record Seen : Type 0 where
  pub machine : OwnedState
  pub commander : CommanderState
  pub accepted : List (ℕ × List ℕ)

abbrev pub seen_of : Ends → Seen
seen_of ends = record {
  machine = ends.adapter.state.shared.objects.router;
  commander = ends.commander;
  accepted = ends.accepted;
}

abbrev pub seen_of_world : Opening → NumberedWorld → Seen
seen_of_world opening world = record {
  machine = (device_after objects_after objects_answer owned_standing (opening_in_messages opening) world.log).router;
  commander = world.commander;
  accepted = world.accepted;
}

-- Both ends show what the numbered world shows.
abbrev pub worlds_law : Type 0
worlds_law = (opening : Opening) (events : List Event) (message_events : List MessageEvent) →
    IsInRange opening.commander → AmountsTo opening events message_events →
    seen_of (ends_after opening events) ≡ seen_of_world opening (numbered_world opening message_events)

-- What the device executes for the originator is what the log has, with the same replies.
abbrev pub journal_law : Type 0
journal_law = (opening : Opening) (events : List Event) (message_events : List MessageEvent) →
    IsInRange opening.commander → AmountsTo opening events message_events →
    executions_in opening.commander.originator
    (journal objects_after objects_answer owned_standing (device_at opening) (requests_in (ends_at opening) events))
    ≡ executions_of objects_after objects_answer owned_standing opening.commander.originator
    (numbered_device_at (opening_in_messages opening)) (numbered_world opening message_events).log

-- No number is executed twice, and numbers are executed in the order in which they were given.
abbrev pub rising_law : Type 0
rising_law = (opening : Opening) (events : List Event) (message_events : List MessageEvent) →
    AmountsTo opening events message_events → Rises (numbers_in (numbered_world opening message_events).log)

-- Each number was given to one command, and what is executed with it is that command.
abbrev pub given_law : Type 0
given_law = (opening : Opening) (events : List Event) (message_events : List MessageEvent) →
    AmountsTo opening events message_events →
    let given = (ends_after opening events).given in
    Rises (map (λ (command : ℕ × List ℕ). command.0) given)
    × AllByRecursion (WasGiven given) (numbered_world opening message_events).log

-- Each accepted reply is that of the one execution of its number.
abbrev pub accepted_law : Type 0
accepted_law = (opening : Opening) (events : List Event) (message_events : List MessageEvent) →
    IsInRange opening.commander → AmountsTo opening events message_events →
    AllByRecursion (λ (accepted : ℕ × List ℕ). IsExecutedOnce objects_after objects_answer owned_standing (opening_in_messages opening)
    (numbered_world opening message_events).log accepted.0 accepted.1) (ends_after opening events).accepted

-- No number is accepted twice.
abbrev pub accepted_once_law : Type 0
accepted_once_law = (opening : Opening) (events : List Event) → IsInRange opening.commander →
    AreOfOthers opening.commander.originator (ends_at opening) events →
    Rises (map (λ (accepted : ℕ × List ℕ). accepted.0) (ends_after opening events).accepted)

-- Once a reply was accepted, only greater numbers are executed: an abandoned command before it never will be.
abbrev pub never_again_law : Type 0
never_again_law = (opening : Opening) (events : List Event) (message_events more : List MessageEvent)
    (position number : ℕ) (reply : List ℕ) → IsInRange opening.commander → AmountsTo opening events message_events →
    slice_get (ends_after opening events).accepted position ≡ Some (number, reply) →
    GrowsAbove number
    (numbered_world opening message_events).log (numbered_world opening (message_events ++ more)).log
