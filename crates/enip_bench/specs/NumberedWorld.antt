-- The numbered world: requests have numbers that never wrap, and each that reaches the target is executed once.
use Rattle.std.specs.Prelude.{ℕ, ◌+◌, ◌-◌, ◌%◌, ◌==◌, Bool, true, false, ◌||◌, if◌then◌else◌, Option, Some, None, List, [], ◌∷◌, ◌++◌, length, map, slice_index_or}
use Rattle.cip_class3.specs.Item.{item}
use Rattle.cip_class3.specs.OriginatorRule.{first_refusal, form_refusal}
use Rattle.cip_class3.specs.declared.originator.Refused.{Refused}
use Rattle.cip_class3.specs.declared.originator.Stage.{Stage}
use Rattle.cip_class3.specs.declared.originator.Stage.TheVariants as stages
use Rattle.cip_bytes.specs.declared.protocol.TheConstants.{UNCONNECTED_LIMIT}
use Rattle.enip_adapter.specs.OwnWrites.{OwnWrite}
use Rattle.enip_bench.specs.Events.{Event, Submit, Resend, Reach, Back, Other, Write, Shut, GiveUp, delivery, is_unconnected_request, with_any}
use Rattle.enip_bench.specs.Seen.{Seen}

-- what changed the router: the request of this number, another session's, or a write of the device itself
pub data Entry : Type 0 where
  OwnRequest : (number : ℕ) → Entry
  OtherRequest : (request : List ℕ) → Entry
  DeviceWrite : (write : OwnWrite) → Entry

-- no request is pending, the one of this number is, or the last one was given up
pub data Progress : Type 0 where
  Idle : Progress
  WaitingFor : (number : ℕ) → Progress
  GivenUp : Progress

-- The requests taken, numbered from 0; the numbers in each direction, and the last position delivered; what changed the
-- router, oldest first; whether the target's end is open; which request is pending; and the numbers whose reply was
-- accepted. This world has no counts and keeps no bytes.
pub record NumberedWorld : Type 0 where
  pub submits : List (List ℕ)
  pub sent : List ℕ
  pub back : List ℕ
  pub last_reached : Option ℕ
  pub last_back : Option ℕ
  pub log : List Entry
  pub is_open : Bool
  pub progress : Progress
  pub accepted : List ℕ

-- a connection just opened
abbrev pub numbers_at_opening : NumberedWorld
numbers_at_opening = record {
  submits = [];
  sent = [];
  back = [];
  last_reached = None;
  last_back = None;
  log = [];
  is_open = true;
  progress = Idle;
  accepted = [];
}

-- one more than the last of rising numbers, or 0 if there is none
abbrev pub after_last : List ℕ → ℕ
after_last [] = 0
after_last (number ∷ []) = number + 1
after_last (number ∷ next ∷ numbers) = after_last (next ∷ numbers)

-- how many requests were submitted after the last one whose reply was accepted, or since the opening
abbrev pub submits_since_accepted : NumberedWorld → ℕ
submits_since_accepted world = length world.submits - after_last world.accepted

-- whether a reply is awaited
abbrev pub is_awaiting : Progress → Bool
is_awaiting Idle = false
is_awaiting (WaitingFor number) = true
is_awaiting GivenUp = false

-- why a request is refused now, if it is: too many were submitted since the last accepted reply, one is pending, or the
-- form is invalid
abbrev pub refusal : ℕ → NumberedWorld → List ℕ → Option Refused
refusal o_to_t_size world request =
    first_refusal (submits_since_accepted world) (is_awaiting world.progress) (form_refusal o_to_t_size request)

-- the number whose reply is awaited, if any
abbrev pub awaited : Progress → Option ℕ
awaited Idle = None
awaited (WaitingFor number) = Some number
awaited GivenUp = None

-- whether this number's reply is awaited
abbrev pub is_awaited : Progress → ℕ → Bool
is_awaited Idle number = false
is_awaited (WaitingFor waiting) number = waiting == number
is_awaited GivenUp number = false

-- the pending request, if any, is given up
abbrev pub given_up : Progress → Progress
given_up Idle = Idle
given_up (WaitingFor number) = GivenUp
given_up GivenUp = GivenUp

-- whether this number's request was executed
abbrev pub stands : ℕ → List Entry → Bool
stands number [] = false
stands number (OwnRequest own ∷ log) = (own == number) || stands number log
stands number (OtherRequest request ∷ log) = stands number log
stands number (DeviceWrite write ∷ log) = stands number log

-- sends the awaited number, if there is one
abbrev pub with_awaited_sent : NumberedWorld → NumberedWorld
with_awaited_sent world = record world { sent = with_any (awaited world.progress) world.sent }

-- a request that is taken gets the next number, which is sent
abbrev pub after_submit : Option Refused → NumberedWorld → List ℕ → NumberedWorld
after_submit None world request =
    let number : ℕ = length world.submits in
    with_awaited_sent (record world { submits = world.submits ++ request ∷ []; progress = WaitingFor number })
after_submit (Some why) world request = world

-- the open target gets this number: its request is executed unless it was before, and the number is sent back
abbrev pub with_number : NumberedWorld → ℕ → NumberedWorld
with_number world number = record world {
  log = if stands number world.log then world.log else world.log ++ OwnRequest number ∷ [];
  back = world.back ++ number ∷ [];
}

-- the target gets a number; a closed target does nothing
abbrev pub after_reach : Option ℕ → NumberedWorld → ℕ → NumberedWorld
after_reach None world position = world
after_reach (Some number) world position =
    let moved : NumberedWorld = record world { last_reached = Some position } in
    if world.is_open then with_number moved number else moved

-- the originator gets a number, and accepts it if it is the awaited one
abbrev pub after_back : Option ℕ → NumberedWorld → ℕ → NumberedWorld
after_back None world position = world
after_back (Some number) world position =
    let moved : NumberedWorld = record world { last_back = Some position } in
    let accepting : NumberedWorld = record moved { progress = Idle; accepted = world.accepted ++ number ∷ [] } in
    if is_awaited world.progress number then accepting else moved

-- the world after an event, at this O->T size; an impossible one changes nothing (a write that the objects refuse is in
-- the log, and changes nothing there)
abbrev pub numbered_step : ℕ → NumberedWorld → Event → NumberedWorld
numbered_step o_to_t_size world (Submit request) = after_submit (refusal o_to_t_size world request) world request
numbered_step o_to_t_size world Resend = with_awaited_sent world
numbered_step o_to_t_size world (Reach position) =
    after_reach (delivery world.last_reached world.sent position) world position
numbered_step o_to_t_size world (Back position) =
    after_back (delivery world.last_back world.back position) world position
numbered_step o_to_t_size world (Other request) =
    if is_unconnected_request request then record world { log = world.log ++ OtherRequest request ∷ [] } else world
numbered_step o_to_t_size world (Write write) = record world { log = world.log ++ DeviceWrite write ∷ [] }
numbered_step o_to_t_size world Shut = record world { is_open = false }
numbered_step o_to_t_size world GiveUp = record world { progress = given_up world.progress }

-- the world after these events, in order
abbrev pub numbered_run : ℕ → NumberedWorld → List Event → NumberedWorld
numbered_run o_to_t_size world [] = world
numbered_run o_to_t_size world (event ∷ events) =
    numbered_run o_to_t_size (numbered_step o_to_t_size world event) events

-- the originator's stage
abbrev pub stage_of : Progress → Stage
stage_of Idle = stages.Idle
stage_of (WaitingFor number) = stages.Waiting
stage_of GivenUp = stages.GivenUp

-- the request of this number
abbrev pub request_of : List (List ℕ) → ℕ → List ℕ
request_of submits number = slice_index_or submits number []

-- whether the entry is the execution of this number's request
abbrev pub is_execution_of : ℕ → Entry → Bool
is_execution_of number (OwnRequest own) = own == number
is_execution_of number (OtherRequest request) = false
is_execution_of number (DeviceWrite write) = false

module _ {M : Type 0} (after : M → ℕ → List ℕ → M) (answer : M → ℕ → List ℕ → List ℕ)
    (written : OwnWrite → M → M) where
  -- the router after an entry, and its answer to it, at this T->O size; a write has no answer
  abbrev pub after_entry : ℕ → List (List ℕ) → M → Entry → M
  after_entry t_to_o_size submits router (OwnRequest number) =
      after router (t_to_o_size - 2) (request_of submits number)
  after_entry t_to_o_size submits router (OtherRequest request) = after router UNCONNECTED_LIMIT request
  after_entry t_to_o_size submits router (DeviceWrite write) = written write router

  abbrev pub entry_answer : ℕ → List (List ℕ) → M → Entry → List ℕ
  entry_answer t_to_o_size submits router (OwnRequest number) =
      answer router (t_to_o_size - 2) (request_of submits number)
  entry_answer t_to_o_size submits router (OtherRequest request) = answer router UNCONNECTED_LIMIT request
  entry_answer t_to_o_size submits router (DeviceWrite write) = []

  -- the router after a run over the log, from left to right
  abbrev pub router_after : ℕ → List (List ℕ) → M → List Entry → M
  router_after t_to_o_size submits router [] = router
  router_after t_to_o_size submits router (entry ∷ log) =
      router_after t_to_o_size submits (after_entry t_to_o_size submits router entry) log

  -- the reply to this number's request: what that run answers to it
  abbrev pub reply_to : ℕ → List (List ℕ) → M → List Entry → ℕ → List ℕ
  reply_to t_to_o_size submits router [] number = []
  reply_to t_to_o_size submits router (entry ∷ log) number =
      let later = reply_to t_to_o_size submits (after_entry t_to_o_size submits router entry) log number in
      if is_execution_of number entry then entry_answer t_to_o_size submits router entry else later

  -- What the numbered world shows, for a connection with this first count and T->O size, over this router. Each number
  -- is sent back with its count, modulo 65,536, and the reply of its only execution.
  abbrev pub numbers_seen : ℕ → ℕ → M → NumberedWorld → Seen M
  numbers_seen first t_to_o_size router world =
      let reply : ℕ → List ℕ = reply_to t_to_o_size world.submits router world.log in
      record {
        router = router_after t_to_o_size world.submits router world.log;
        back = map (λ number. item ((first + number) % 65536) (reply number)) world.back;
        accepted = map (λ number. (number, reply number)) world.accepted;
        stage = stage_of world.progress;
      }
