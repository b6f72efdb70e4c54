-- What becomes of each request over whole frames, in every world reached from an opening.
use Rattle.std.specs.Prelude.{◌≡◌, ℕ, ◌+◌, ◌-◌, ◌%◌, ◌≤◌, Some, option_map, List, map, slice_get}
use Rattle.cip_class3.specs.Item.{item}
use Rattle.cip_ledger.specs.Device.{Device}
use Rattle.enip_client.specs.Frames.{item_frame}
use Rattle.enip_client.specs.State.{o_to_t_id_in}
use Rattle.enip_wire.specs.Frames.{frame}
use Rattle.enip_adapter.specs.DeviceRuns.{device_after}
use Rattle.enip_adapter.specs.OwnWrites.{OwnWrite, device_written}
use Rattle.enip_bench.specs.CountingWorld.{CountingWorld, counting_step}
use Rattle.enip_bench.specs.Events.{Event, Other, Write, delivery}
use Rattle.enip_bench.specs.Executions.{executions_of, own_numbers, AreRising, writes_in, writes_among, IsArrival, Arrives}
use Rattle.enip_bench.specs.NumberedWorld.{NumberedWorld, numbers_at_opening, request_of, router_after}
use Rattle.enip_bench.specs.ObjectsRun.{after_exec, exec_answer, steps_of_log}
use Rattle.enip_bench.specs.Reached.{IsReached}
use Rattle.enip_bench.specs.WorldLaws.{numbers_after, IsReplyOf}

-- the adapter's objects
abbrev pub objects_in : CountingWorld → Device
objects_in world = world.adapter.state.shared.objects

module _ {world : CountingWorld} (by : IsReached world) where
  -- the numbered world after the same events
  abbrev pub numbers_of : NumberedWorld
  numbers_of = numbers_after by.wants.o_to_t_size by.events

  -- the count of this number's request
  abbrev pub count_of : ℕ → ℕ
  count_of number = (by.wants.first_count + number) % 65536

  -- this is the reply of the only execution of this number's request
  abbrev pub IsItsReply : ℕ → List ℕ → Type 0
  IsItsReply number reply =
      IsReplyOf after_exec exec_answer device_written by.wants.o_to_t_size by.wants.t_to_o_size by.objects by.events
      number reply

  -- this number's request, in a frame to the adapter
  abbrev pub request_frame : ℕ → List ℕ
  request_frame number =
      frame (item_frame by.begun.peer (o_to_t_id_in world.client.state.connection_state)
      (item (count_of number) (request_of numbers_of.submits number)))

  -- a reply to this number's request, in a frame to the client
  abbrev pub answer_frame : ℕ → List ℕ → List ℕ
  answer_frame number reply = frame (item_frame by.begun.peer by.wants.t_to_o_id (item (count_of number) reply))

  -- these bytes answer the request whose number is sent back at this position, with the reply of its only execution
  pub record IsAnswer (position : ℕ) (bytes : List ℕ) : Type 0 where
    pub number : ℕ
    pub reply : List ℕ
    pub answers : slice_get numbers_of.back position ≡ Some number
    pub replied : IsItsReply number reply
    pub is : bytes ≡ answer_frame number reply

  -- this event is the first that brings this number's request to the open adapter
  pub record IsFirstArrival (event : Event) (number : ℕ) : Type 0 where
    pub arrives : IsArrival numbers_of event number
    pub not_before : Arrives by.wants.o_to_t_size numbers_at_opening by.events number → ⊥

  -- The objects are those of the opening after the log: the requests that were executed, and the device's own writes,
  -- in order. The log has each request of the connection at most once, in the order of the submits, and each write of
  -- the events once.
  pub record AreExecutedOnce : Type 0 where
    pub objects : objects_in world
        ≡ router_after after_exec exec_answer device_written by.wants.t_to_o_size numbers_of.submits by.objects
        numbers_of.log
    pub once : (number : ℕ) → executions_of number numbers_of.log ≤ 1
    pub steps : objects_in world
        ≡ device_after by.objects (steps_of_log by.wants.t_to_o_size numbers_of.submits numbers_of.log)
    pub order : AreRising (own_numbers numbers_of.log)
    pub writes : writes_in numbers_of.log ≡ writes_among by.events

-- a reply that the client accepted is the reply of its request's only execution
abbrev pub accepted_in_frames : Type 0
accepted_in_frames = (world : CountingWorld) (by : IsReached world) (position number : ℕ) (reply : List ℕ) →
    slice_get world.accepted position ≡ Some (number, reply) → IsItsReply by number reply

-- at most one reply is accepted for each request, in the order of the submits
abbrev pub accepted_order_in_frames : Type 0
accepted_order_in_frames = (world : CountingWorld) → IsReached world → AreRising (map (λ x. x.0) world.accepted)

-- every frame sent back answers a request with the reply of its only execution
abbrev pub answers_in_frames : Type 0
answers_in_frames = (world : CountingWorld) (by : IsReached world) (position : ℕ) (bytes : List ℕ) →
    slice_get world.back position ≡ Some bytes → IsAnswer by position bytes

-- a request is answered with the same frame each time
abbrev pub same_frames : Type 0
same_frames = (world : CountingWorld) (by : IsReached world) (one other number : ℕ) →
    slice_get (numbers_of by).back one ≡ Some number → slice_get (numbers_of by).back other ≡ Some number →
    slice_get world.back one ≡ slice_get world.back other

-- the adapter executed each request at most once
abbrev pub once_in_frames : Type 0
once_in_frames = (world : CountingWorld) (by : IsReached world) → AreExecutedOnce by

-- a delivery brings the adapter the frame of the request whose number the numbered world delivers
abbrev pub requests_in_frames : Type 0
requests_in_frames = (world : CountingWorld) (by : IsReached world) (position : ℕ) →
    delivery world.last_reached world.sent position
    ≡ option_map (request_frame by) (delivery (numbers_of by).last_reached (numbers_of by).sent position)

-- a request is executed when its first frame reaches the open adapter
abbrev pub first_in_frames : Type 0
first_in_frames = (world : CountingWorld) (by : IsReached world) (event : Event) (number : ℕ) →
    IsFirstArrival by event number →
    objects_in (counting_step world event)
    ≡ after_exec (objects_in world) (by.wants.t_to_o_size - 2) (request_of (numbers_of by).submits number)

-- a write of the device changes the objects as it says
abbrev pub written_in_frames : Type 0
written_in_frames = (world : CountingWorld) → IsReached world → (write : OwnWrite) →
    objects_in (counting_step world (Write write)) ≡ device_written write (objects_in world)

-- nothing else changes the objects, except a request of another session or a write of the device
abbrev pub unchanged_in_frames : Type 0
unchanged_in_frames = (world : CountingWorld) (by : IsReached world) (event : Event) →
    ((number : ℕ) → IsFirstArrival by event number → ⊥) → ((request : List ℕ) → event ≡ Other request → ⊥) →
    ((write : OwnWrite) → event ≡ Write write → ⊥) →
    objects_in (counting_step world event) ≡ objects_in world
