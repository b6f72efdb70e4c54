-- The tracked world, event by event.
use Rattle.std.proofs.Common.{ℕ, ◌+◌, Bool, true, false, ◌==◌, Option, Some, None, List, [], ◌∷◌, ◌++◌, length}
use Rattle.cip_class3.specs.declared.originator.Refused.{Refused}
use Rattle.enip_bench.specs.Events.{Event, Submit, Resend, Reach, Back, Other, Write, Shut, GiveUp, delivery, is_unconnected_request, with_any}
use Rattle.enip_bench.specs.NumberedWorld.{refusal}
use Rattle.enip_bench.proofs.Plain.{plain}
use Rattle.enip_bench.proofs.TrackedWorld.{Own, Logged, OwnLogged, OtherLogged, WriteLogged, Course, Resting, Awaiting, Abandoned, is_logged, TrackedWorld}

abbrev pub own_awaited : Course → Option Own
own_awaited Resting = None
own_awaited (Awaiting own) = Some own
own_awaited Abandoned = None

abbrev pub is_own_awaited : Course → ℕ → Bool
is_own_awaited Resting number = false
is_own_awaited (Awaiting own) number = own.number == number
is_own_awaited Abandoned number = false

abbrev pub abandoned : Course → Course
abandoned Resting = Resting
abandoned (Awaiting own) = Abandoned
abandoned Abandoned = Abandoned

abbrev pub with_own_sent : TrackedWorld → TrackedWorld
with_own_sent world = record world { sent = with_any (own_awaited world.course) world.sent }

-- the request of the next number
abbrev pub next_own : TrackedWorld → List ℕ → Own
next_own world request = record { number = length world.submits; request = request }

abbrev pub after_submit : Option Refused → TrackedWorld → List ℕ → TrackedWorld
after_submit None world request = record world {
  submits = world.submits ++ request ∷ [];
  sent = world.sent ++ next_own world request ∷ [];
  course = Awaiting (next_own world request);
  unaccepted = world.unaccepted + 1;
}
after_submit (Some why) world request = world

-- the log with the request of a number, added if it was not executed yet
abbrev pub with_execution : Bool → List Logged → Own → List Logged
with_execution true log own = log
with_execution false log own = OwnLogged own ∷ log

abbrev pub reached : Bool → TrackedWorld → Own → ℕ → TrackedWorld
reached true world own position = record world {
  last_reached = Some position;
  log = with_execution (is_logged own.number world.log) world.log own;
  back = world.back ++ own ∷ [];
}
reached false world own position = record world { last_reached = Some position }

abbrev pub after_reach : Option Own → TrackedWorld → ℕ → TrackedWorld
after_reach None world position = world
after_reach (Some own) world position = reached world.is_open world own position

abbrev pub came_back : Bool → TrackedWorld → Own → ℕ → TrackedWorld
came_back true world own position =
    record world { last_back = Some position; course = Resting; accepted = world.accepted ++ own ∷ []; unaccepted = 0 }
came_back false world own position = record world { last_back = Some position }

abbrev pub after_back : Option Own → TrackedWorld → ℕ → TrackedWorld
after_back None world position = world
after_back (Some own) world position = came_back (is_own_awaited world.course own.number) world own position

abbrev pub after_other : Bool → TrackedWorld → List ℕ → TrackedWorld
after_other true world request = record world { log = OtherLogged request ∷ world.log }
after_other false world request = world

abbrev pub tracked_step : ℕ → TrackedWorld → Event → TrackedWorld
tracked_step o_to_t_size world (Submit request) = after_submit (refusal o_to_t_size (plain world) request) world request
tracked_step o_to_t_size world Resend = with_own_sent world
tracked_step o_to_t_size world (Reach position) =
    after_reach (delivery world.last_reached world.sent position) world position
tracked_step o_to_t_size world (Back position) =
    after_back (delivery world.last_back world.back position) world position
tracked_step o_to_t_size world (Other request) = after_other (is_unconnected_request request) world request
tracked_step o_to_t_size world (Write write) = record world { log = WriteLogged write ∷ world.log }
tracked_step o_to_t_size world Shut = record world { is_open = false }
tracked_step o_to_t_size world GiveUp = record world { course = abandoned world.course }

abbrev pub tracked_run : ℕ → TrackedWorld → List Event → TrackedWorld
tracked_run o_to_t_size world [] = world
tracked_run o_to_t_size world (event ∷ events) = tracked_run o_to_t_size (tracked_step o_to_t_size world event) events
