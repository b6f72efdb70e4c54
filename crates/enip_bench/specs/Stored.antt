-- The counting world, its events and their outcomes, as the code stores them.
use Rattle.std.specs.Prelude.{◌≡◌, ◌<◌, ◌≤◌, ℕ, ⊤, Bool, if◌then◌else◌, map, take, length, Option, Some, None, option_map, List, [], ◌∷◌, Result, Ok, Err}
use Rattle.cip_ledger.specs.Device.{Device}
use Rattle.cip_ledger.specs.Ledger.{LedgerState}
use Rattle.cip_objects.specs.Contents.{Contents}
use Rattle.cip_owner.specs.Queue.{QueueState}
use Rattle.cip_owner.specs.Replies.{Reply}
use Rattle.cip_owner.specs.Reset.{ResetState}
use Rattle.enip_adapter.specs.Calls.{AdapterState, after_call}
use Rattle.enip_adapter.specs.OwnWrites.{OwnWrite, WritesData, SetsStatus, SetsState, Prepares}
use Rattle.enip_client.specs.Client.{ClientState}
use Rattle.enip_client.specs.Hears.{HeardEvent}
use Rattle.enip_bench.specs.CountingOpening.{Setup, ARefusal, Ends, begins_peer, begins}
use Rattle.enip_bench.specs.CountingWorld.{CountingWorld, reply_heard, counting_step}
use Rattle.enip_bench.specs.Events.{Event, Submit, Resend, Reach, Back, Other, Write, Shut, GiveUp}
use Rattle.enip_bench.specs.Reached.{IsReached}
use Rattle.enip_bench.specs.Seen.{Seen}
use Rattle.enip_bench.specs.EventResults.{EventResult, Sends, Refuses, Resends, Reaches, Accepts, Ignores, Impossible, Done, event_result}
use Rattle.enip_bench.specs.declared.bench.BenchFault.{BenchFault}
use Rattle.enip_bench.specs.declared.bench.BenchFault.TheVariants as faults
use Rattle.enip_bench.specs.declared.bench.InFlight.{InFlight}
use Rattle.enip_bench.specs.declared.bench.Seen.{Seen as SeenInCode}
use Rattle.enip_bench.specs.declared.event.Event.{Event as EventInCode}
use Rattle.enip_bench.specs.declared.event.Event.TheVariants as events
use Rattle.enip_bench.specs.declared.event.OwnWrite.{OwnWrite as WriteInCode}
use Rattle.enip_bench.specs.declared.event.OwnWrite.TheVariants as writes
use Rattle.enip_bench.specs.declared.event.StepKind.{StepKind}
use Rattle.enip_bench.specs.declared.event.StepKind.TheVariants as step_kinds
use Rattle.enip_bench.specs.declared.event.Step.{Step}
use Rattle.enip_bench.specs.declared.event.Step.TheVariants as steps
use Rattle.enip_bench.specs.declared.world.Accepted.{Accepted}
use Rattle.enip_bench.specs.declared.world.World.{World}

abbrev pub acceptance_in : Accepted → ℕ × List ℕ
acceptance_in accepted = (accepted.number, accepted.reply.items)

abbrev pub acceptances_in : List Accepted → List (ℕ × List ℕ)
acceptances_in xs = map acceptance_in xs

abbrev pub world_in : World → CountingWorld
world_in world = record {
  adapter = world.adapter;
  client = world.client;
  peer = world.peer;
  second = world.second;
  sent = world.sent.frames;
  back = world.back.frames;
  last_reached = world.last_reached;
  last_back = world.last_back;
  submits = world.submits;
  accepted = acceptances_in world.accepted.items;
}

abbrev pub write_in : WriteInCode → OwnWrite
write_in (writes.Data instance offset bytes) = WritesData instance offset bytes.items
write_in (writes.Status status) = SetsStatus status
write_in (writes.State state) = SetsState state
write_in (writes.Prepare reply) = Prepares (Some reply)

abbrev pub event_in : EventInCode → Event
event_in (events.Submit request) = Submit request.items
event_in events.Resend = Resend
event_in (events.Reach position) = Reach position
event_in (events.Back position) = Back position
event_in (events.Other request) = Other request.items
event_in (events.Write write) = Write (write_in write)
event_in events.Shut = Shut
event_in events.GiveUp = GiveUp

abbrev pub events_in : List EventInCode → List Event
events_in xs = map event_in xs

-- the last accepted reply, or nothing if none was accepted
abbrev pub last_reply : List (ℕ × List ℕ) → List ℕ
last_reply [] = []
last_reply (accepted ∷ []) = accepted.1
last_reply (accepted ∷ next ∷ later) = last_reply (next ∷ later)

-- the outcome, if an accepted reply has these bytes
abbrev pub event_result_with : List ℕ → StepKind → EventResult
event_result_with reply (step_kinds.Sent number position) = Sends number position
event_result_with reply (step_kinds.Refused why) = Refuses why
event_result_with reply (step_kinds.Resent position) = Resends position
event_result_with reply (step_kinds.Reached position) = Reaches position
event_result_with reply step_kinds.Accepted = Accepts reply
event_result_with reply step_kinds.Ignored = Ignores
event_result_with reply step_kinds.Impossible = Impossible
event_result_with reply step_kinds.Done = Done

abbrev pub event_result_in : Step → EventResult
event_result_in (steps.Sent number position) = Sends number position
event_result_in (steps.Refused why) = Refuses why
event_result_in (steps.Resent position) = Resends position
event_result_in (steps.Reached position) = Reaches position
event_result_in (steps.Accepted reply) = Accepts reply.now
event_result_in steps.Ignored = Ignores
event_result_in steps.Impossible = Impossible
event_result_in steps.Done = Done

-- an accepted reply fits a buffer of this size
abbrev pub IsCapacityFor : ℕ → HeardEvent → Type 0
IsCapacityFor room heard_event = (bytes : List ℕ) → reply_heard heard_event ≡ Some bytes → length bytes ≤ room

-- the bytes, if the flag is set
abbrev pub reply_put : Bool → List ℕ → Option (List ℕ)
reply_put is bytes = if is then Some bytes else None

-- the event was done, with this outcome
pub record IsStepDone (old : CountingWorld) (event : Event) (new : CountingWorld) (step_kind : StepKind) : Type 0 where
  pub world : new ≡ counting_step old event
  pub result_is : event_result_with (last_reply new.accepted) step_kind ≡ event_result old event

-- the event was done, or memory was refused and nothing changed
abbrev pub IsStepped : {E : Type 0} → CountingWorld → Event → CountingWorld → Result StepKind E → Type 0
IsStepped old event new (Ok step_kind) = IsStepDone old event new step_kind
IsStepped old event new (Err error) = new ≡ old

-- a peer began, or was refused
abbrev pub HasBegun : AdapterState → AdapterState → Result ℕ BenchFault → Type 0
HasBegun old new (Ok peer) = (begins old ≡ Ok peer) × (new ≡ after_call old begins_peer)
HasBegun old new (Err fault) = (fault ≡ faults.Setup) × (begins old ≡ Err ARefusal)

-- an exchange led to these ends, or was refused
abbrev pub HasExchanged : Result Ends Setup → AdapterState → ClientState → Result (Unit {0}) BenchFault → Type 0
HasExchanged exchanged adapter client (Ok done) = exchanged ≡ Ok (record { adapter = adapter; client = client })
HasExchanged exchanged adapter client (Err fault) = (fault ≡ faults.Setup) × (exchanged ≡ Err ARefusal)

-- both ends, open, and the two peers, before any frame
abbrev pub world_opened : AdapterState → ClientState → ℕ × ℕ → CountingWorld
world_opened adapter client peers = record {
  adapter = adapter;
  client = client;
  peer = peers.0;
  second = peers.1;
  sent = [];
  back = [];
  last_reached = None;
  last_back = None;
  submits = 0;
  accepted = [];
}

-- the opening led to these ends and peers, or was refused
abbrev pub HasOpened : Result CountingWorld Setup → AdapterState → ClientState → Result (ℕ × ℕ) BenchFault → Type 0
HasOpened opened adapter client (Ok peers) = opened ≡ Ok (world_opened adapter client peers)
HasOpened opened adapter client (Err fault) = (fault ≡ faults.Setup) × (opened ≡ Err ARefusal)

-- the world of these ends and of what is between them, before any event
abbrev pub world_between : AdapterState → ClientState → InFlight → CountingWorld
world_between adapter client between = record (world_opened adapter client (between.peer, between.second)) {
  sent = between.sent.frames;
  back = between.back.frames;
  accepted = acceptances_in between.accepted.items;
}

-- the same, unless memory is refused first
abbrev pub IsOpenBetween : Result CountingWorld Setup → AdapterState → ClientState → Result InFlight BenchFault → Type 0
IsOpenBetween opened adapter client (Ok between) = opened ≡ Ok (world_between adapter client between)
IsOpenBetween opened adapter client (Err faults.Setup) = opened ≡ Err ARefusal
IsOpenBetween opened adapter client (Err faults.Memory) = ⊤

-- The opening. `Setup` only if it is refused.
abbrev pub IsOpening : Result CountingWorld Setup → Result CountingWorld BenchFault → Type 0
IsOpening opened (Ok world) = opened ≡ Ok world
IsOpening opened (Err faults.Setup) = opened ≡ Err ARefusal
IsOpening opened (Err faults.Memory) = ⊤

-- the world is reached from an opening, and every request that was taken was sent
pub record IsOfOpening (world : World) : Type 0 where
  pub reached : IsReached (world_in world)
  pub counted : world.submits ≤ length world.sent.frames

-- the world after an event; if memory is refused, the event is not done
abbrev pub after_step : {A E : Type 0} → CountingWorld → Event → Result A E → CountingWorld
after_step old event (Ok step_kind) = counting_step old event
after_step old event (Err error) = old

-- the events that were done: all, or those before the first for which memory was refused
abbrev pub events_done : {E : Type 0} → List Event → Result (Unit {0}) (ℕ × E) → List Event
events_done events (Ok done) = events
events_done events (Err error) = take error.0 events

-- the position of the first event that was not done is one of the list
abbrev pub NamesAnEvent : {E : Type 0} → List Event → Result (Unit {0}) (ℕ × E) → Type 0
NamesAnEvent events (Ok done) = ⊤
NamesAnEvent events (Err error) = error.0 < length events

-- the device with this ledger, these objects, this prepared reply, this queue, and what it needs to be reset
abbrev pub device_with : Option LedgerState → Contents → Option Reply → Option QueueState → Option ResetState → Device
device_with ledger objects prepared queue reset = record {
  ledger = ledger;
  router = record { objects = objects; prepared = prepared; queue = queue; reset = reset };
}

abbrev pub seen_in : SeenInCode → Seen Device
seen_in seen = record {
  router = device_with (option_map (λ ledger. ledger.now) seen.ledger) seen.objects.now
      (option_map (λ reply. reply.now) seen.prepared) (option_map (λ queue. queue.now) seen.queue)
      (option_map (λ reset. reset.now) seen.reset);
  back = seen.back.now.frames;
  accepted = acceptances_in seen.accepted.now;
  stage = seen.stage;
}
