-- The counting world: the whole adapter, the whole client, and the bytes of whole frames between them.
use Rattle.std.specs.Prelude.{ℕ, ◌+◌, ◌-◌, if◌then◌else◌, Option, Some, None, option_map, List, [], ◌∷◌, ◌++◌, Result, Ok, Err}
use Rattle.cip_class3.specs.OriginatorRule.{stage_of}
use Rattle.cip_ledger.specs.Device.{Device}
use Rattle.enip_adapter.specs.Calls.{AdapterState, after_call, call_answer}
use Rattle.enip_adapter.specs.Calls.Call.{Feeds, Ticks, Writes}
use Rattle.enip_adapter.specs.Turn.Output.{NoReply, Sends, Begins, Refuses}
use Rattle.enip_adapter.specs.Turn.{Output}
use Rattle.enip_client.specs.Calls.{Lent, submits, resends, after_giving_up}
use Rattle.enip_client.specs.Client.{ClientState, Fed, fed, with_state}
use Rattle.enip_client.specs.Frames.{request_frame}
use Rattle.enip_client.specs.Hears.{HeardEvent}
use Rattle.enip_client.specs.Hears.HeardEvent.{Accepted}
use Rattle.enip_client.specs.declared.fault.SubmitFault.{SubmitFault}
use Rattle.enip_wire.specs.Frames.{Frame, frame}
use Rattle.enip_bench.specs.Events.{Event, Submit, Resend, Reach, Back, Other, Write, Shut, GiveUp, delivery, is_unconnected_request, with_any}
use Rattle.enip_bench.specs.Seen.{Seen}

-- Both ends; the handles of the adapter's two peers, the client's first; the bytes of the frames in each direction, and
-- the last position delivered; how many submits were taken, which numbers them from 0; and the accepted replies, each
-- with the number of its request.
pub record CountingWorld : Type 0 where
  pub adapter : AdapterState
  pub client : ClientState
  pub peer : ℕ
  pub second : ℕ
  pub sent : List (List ℕ)
  pub back : List (List ℕ)
  pub last_reached : Option ℕ
  pub last_back : Option ℕ
  pub submits : ℕ
  pub accepted : List (ℕ × List ℕ)

-- a request that the client takes gets the next number, and its frame is sent
abbrev pub after_submit : Result Lent SubmitFault → CountingWorld → CountingWorld
after_submit (Err fault) world = world
after_submit (Ok lent) world = record world {
  client = with_state world.client lent.state;
  sent = world.sent ++ frame lent.frame ∷ [];
  submits = world.submits + 1;
}

-- sends the frame that the client lends, if any
abbrev pub after_resend : Option Frame → CountingWorld → CountingWorld
after_resend lent world = record world { sent = with_any (option_map frame lent) world.sent }

-- the bytes that the adapter sends, if any
abbrev pub output_bytes : Output → Option (List ℕ)
output_bytes (NoReply why) = None
output_bytes (Sends bytes) = Some bytes
output_bytes (Begins handle) = None
output_bytes (Refuses full) = None

-- the adapter gets the client's bytes at moment 0, and its answer is sent back
abbrev pub after_reach : Option (List ℕ) → CountingWorld → ℕ → CountingWorld
after_reach None world position = world
after_reach (Some bytes) world position = record world {
  adapter = after_call world.adapter (Feeds 0 world.peer bytes);
  back = with_any (output_bytes (call_answer world.adapter (Feeds 0 world.peer bytes)).output) world.back;
  last_reached = Some position;
}

-- the reply that the client accepted, if any
abbrev pub reply_heard : HeardEvent → Option (List ℕ)
reply_heard (Accepted bytes) = Some bytes
reply_heard other = None

-- an accepted reply is the reply to the last submit
abbrev pub acceptance : ℕ → HeardEvent → Option (ℕ × List ℕ)
acceptance submits heard_event = option_map (λ reply. (submits - 1, reply)) (reply_heard heard_event)

-- the world after the client was fed a frame
abbrev pub with_fed : CountingWorld → ℕ → Fed → CountingWorld
with_fed world position fed = record world {
  client = fed.client;
  last_back = Some position;
  accepted = with_any (acceptance world.submits fed.heard_event) world.accepted;
}

-- the client gets the adapter's bytes
abbrev pub after_back : Option (List ℕ) → CountingWorld → ℕ → CountingWorld
after_back None world position = world
after_back (Some bytes) world position = with_fed world position (fed world.client bytes)

-- the second session sends an unconnected request at moment 0; the answer is dropped
abbrev pub after_other : CountingWorld → List ℕ → CountingWorld
after_other world request = record world {
  adapter = after_call world.adapter (Feeds 0 world.second (frame (request_frame world.second 0 request)));
}

-- the last moment: every connection has timed out by then
abbrev pub LAST_MOMENT : ℕ
LAST_MOMENT = 18446744073709551615

-- the world after an event; an impossible one changes nothing
abbrev pub counting_step : CountingWorld → Event → CountingWorld
counting_step world (Submit request) = after_submit (submits world.client.state request) world
counting_step world Resend = after_resend (resends world.client.state) world
counting_step world (Reach position) = after_reach (delivery world.last_reached world.sent position) world position
counting_step world (Back position) = after_back (delivery world.last_back world.back position) world position
counting_step world (Other request) = if is_unconnected_request request then after_other world request else world
counting_step world (Write write) = record world { adapter = after_call world.adapter (Writes write) }
counting_step world Shut = record world { adapter = after_call world.adapter (Ticks LAST_MOMENT) }
counting_step world GiveUp =
    record world { client = with_state world.client (after_giving_up world.client.state) }

-- the world after these events, in order
abbrev pub counting_run : CountingWorld → List Event → CountingWorld
counting_run world [] = world
counting_run world (event ∷ events) = counting_run (counting_step world event) events

-- what the counting world shows
abbrev pub counting_seen : CountingWorld → Seen Device
counting_seen world = record {
  router = world.adapter.state.shared.objects;
  back = world.back;
  accepted = world.accepted;
  stage = stage_of world.client.state.originator.phase;
}
