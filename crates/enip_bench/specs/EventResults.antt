-- The outcome of an event.
use Rattle.std.specs.Prelude.{ℕ, if◌then◌else◌, Bool, true, Option, Some, None, option_map, is_some, List, length}
use Rattle.cip_class3.specs.OriginatorRule.{submit_refusal}
use Rattle.cip_class3.specs.declared.originator.Refused.{Refused}
use Rattle.cip_objects.specs.Contents.{Contents}
use Rattle.cip_objects.specs.DeviceWrites.{device_write}
use Rattle.enip_adapter.specs.Calls.{call_answer}
use Rattle.enip_adapter.specs.Calls.Call.{Feeds}
use Rattle.enip_adapter.specs.OwnWrites.{OwnWrite, WritesData, WritesAttribute, SetsStatus, SetsState, Prepares, Settles, Finishes, Marks, Withdraws}
use Rattle.enip_adapter.specs.OwnWrites.{attribute_write}
use Rattle.enip_client.specs.Calls.{resends}
use Rattle.enip_client.specs.Client.{fed}
use Rattle.enip_bench.specs.CountingWorld.{CountingWorld, output_bytes, reply_heard}
use Rattle.enip_bench.specs.Events.{Event, Submit, Resend, Reach, Back, Other, Write, Shut, GiveUp, delivery, is_unconnected_request}

-- a request was sent, with its number and its frame's position, or refused; a frame was sent again, with its position,
-- or nothing was pending; a frame was answered, with the answer's position, or not answered; a reply was accepted, or
-- nothing that the client waits for was heard; the event was impossible; or it was done
pub data EventResult : Type 0 where
  Sends : (number position : ℕ) → EventResult
  Refuses : (why : Refused) → EventResult
  Resends : (position : Option ℕ) → EventResult
  Reaches : (position : Option ℕ) → EventResult
  Accepts : (reply : List ℕ) → EventResult
  Ignores : EventResult
  Impossible : EventResult
  Done : EventResult

-- a client whose connection is open refuses a request only by the originator's rule
abbrev pub submit_result : CountingWorld → Option Refused → EventResult
submit_result world (Some why) = Refuses why
submit_result world None = Sends world.submits (length world.sent)

-- the position of what is appended to a list, if anything is
abbrev pub position_of_any : {A : Type 0} → {B : Type 0} → Option A → List B → Option ℕ
position_of_any x xs = option_map (λ _. length xs) x

abbrev pub reach_result : CountingWorld → Option (List ℕ) → EventResult
reach_result world None = Impossible
reach_result world (Some bytes) =
    Reaches (position_of_any (output_bytes (call_answer world.adapter (Feeds 0 world.peer bytes)).output) world.back)

abbrev pub reply_result : Option (List ℕ) → EventResult
reply_result None = Ignores
reply_result (Some reply) = Accepts reply

abbrev pub back_result : CountingWorld → Option (List ℕ) → EventResult
back_result world None = Impossible
back_result world (Some bytes) = reply_result (reply_heard (fed world.client bytes).heard_event)

-- whether the device can write this: there is such an assembly or attribute, and the bytes don't go past its end (no
-- event of a bench settles or finishes a command)
abbrev pub is_possible_write : OwnWrite → Contents → Bool
is_possible_write (WritesData instance offset bytes) objects = is_some (device_write objects instance offset bytes)
is_possible_write (WritesAttribute class instance attribute offset bytes) objects =
    is_some (attribute_write objects class instance attribute offset bytes)
is_possible_write (SetsStatus status) objects = true
is_possible_write (SetsState state) objects = true
is_possible_write (Prepares reply) objects = true
is_possible_write (Settles originator number reply) objects = true
is_possible_write (Finishes ticket reply) objects = true
is_possible_write (Marks ticket) objects = true
is_possible_write (Withdraws request) objects = true

-- the outcome of an event in this world
abbrev pub event_result : CountingWorld → Event → EventResult
event_result world (Submit request) = submit_result world (submit_refusal world.client.state.originator request)
event_result world Resend = Resends (position_of_any (resends world.client.state) world.sent)
event_result world (Reach position) = reach_result world (delivery world.last_reached world.sent position)
event_result world (Back position) = back_result world (delivery world.last_back world.back position)
event_result world (Other request) = if is_unconnected_request request then Done else Impossible
event_result world (Write write) =
    if is_possible_write write world.adapter.state.shared.objects.router.objects then Done else Impossible
event_result world Shut = Done
event_result world GiveUp = Done
