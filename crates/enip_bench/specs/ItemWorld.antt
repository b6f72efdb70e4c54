-- The item world: both ends by their rules, with sequence counts of 16 bits and kept bytes, and the items between them.
use Rattle.std.specs.Prelude.{ℕ, ◌+◌, ◌-◌, Bool, true, false, if◌then◌else◌, Option, Some, None, option_map, List, [], ◌∷◌}
use Rattle.cip_class3.specs.TargetRule.{TargetState, TargetStep, target_at_opening, target_step}
use Rattle.cip_class3.specs.OriginatorRule.{OriginatorState, originator_at_opening, submit_refusal, with_next_request, waiting_item, after_item, accepted_reply, after_give_up, stage_of}
use Rattle.cip_class3.specs.Deliveries.{answer_to}
use Rattle.cip_class3.specs.declared.originator.Refused.{Refused}
use Rattle.cip_bytes.specs.declared.protocol.TheConstants.{UNCONNECTED_LIMIT}
use Rattle.enip_adapter.specs.OwnWrites.{OwnWrite}
use Rattle.enip_bench.specs.Events.{Event, Submit, Resend, Reach, Back, Other, Write, Shut, GiveUp, delivery, is_unconnected_request, with_any}
use Rattle.enip_bench.specs.Seen.{Seen}

-- Both ends and the router behind the target; the items in each direction, and the last position delivered; how many
-- submits were taken, which numbers them from 0; and the accepted replies, each with the number of its request.
pub record ItemWorld (M : Type 0) : Type 0 where
  pub target : TargetState
  pub router : M
  pub is_open : Bool
  pub originator : OriginatorState
  pub sent : List (List ℕ)
  pub back : List (List ℕ)
  pub last_reached : Option ℕ
  pub last_back : Option ℕ
  pub submits : ℕ
  pub accepted : List (ℕ × List ℕ)

-- a connection just opened: nothing is held, no request is pending, and nothing was sent
abbrev pub items_at_opening : {M : Type 0} → ℕ → ℕ → ℕ → M → ItemWorld M
items_at_opening first o_to_t_size t_to_o_size router = record {
  target = target_at_opening o_to_t_size t_to_o_size;
  router = router;
  is_open = true;
  originator = originator_at_opening first o_to_t_size t_to_o_size;
  sent = [];
  back = [];
  last_reached = None;
  last_back = None;
  submits = 0;
  accepted = [];
}

-- sends the item of the pending request, if one is pending
abbrev pub with_waiting_item_sent : {M : Type 0} → ItemWorld M → ItemWorld M
with_waiting_item_sent world = record world { sent = with_any (waiting_item world.originator.phase) world.sent }

-- a request that is taken gets the next number, and its item is sent
abbrev pub after_submit : {M : Type 0} → Option Refused → ItemWorld M → List ℕ → ItemWorld M
after_submit None world request =
    let originator : OriginatorState = with_next_request world.originator request in
    with_waiting_item_sent (record world { originator = originator; submits = world.submits + 1 })
after_submit (Some why) world request = world

-- the reply in an item that the originator accepts, if it does: the reply to the last submit
abbrev pub acceptance : {M : Type 0} → ItemWorld M → List ℕ → Option (ℕ × List ℕ)
acceptance world bytes = option_map (λ reply. (world.submits - 1, reply)) (accepted_reply world.originator bytes)

-- the originator gets an item
abbrev pub after_back : {M : Type 0} → Option (List ℕ) → ItemWorld M → ℕ → ItemWorld M
after_back None world position = world
after_back (Some bytes) world position = record world {
  last_back = Some position;
  originator = after_item world.originator bytes;
  accepted = with_any (acceptance world bytes) world.accepted;
}

-- the world after a step of the target, whose answer is sent back
abbrev pub with_step : {M : Type 0} → ItemWorld M → TargetStep M → ItemWorld M
with_step world step =
    record world { target = step.target; router = step.router; back = with_any (answer_to step) world.back }

module _ {M : Type 0} (after : M → ℕ → List ℕ → M) (answer : M → ℕ → List ℕ → List ℕ)
    (written : OwnWrite → M → M) where
  -- the target gets an item; a closed target does nothing
  abbrev pub after_reach : Option (List ℕ) → ItemWorld M → ℕ → ItemWorld M
  after_reach None world position = world
  after_reach (Some bytes) world position =
      let moved : ItemWorld M = record world { last_reached = Some position } in
      if world.is_open then with_step moved (target_step after answer world.target world.router bytes) else moved

  -- the world after an event; an impossible one changes nothing
  abbrev pub item_step : ItemWorld M → Event → ItemWorld M
  item_step world (Submit request) = after_submit (submit_refusal world.originator request) world request
  item_step world Resend = with_waiting_item_sent world
  item_step world (Reach position) = after_reach (delivery world.last_reached world.sent position) world position
  item_step world (Back position) = after_back (delivery world.last_back world.back position) world position
  item_step world (Other request) =
      let served : ItemWorld M = record world { router = after world.router UNCONNECTED_LIMIT request } in
      if is_unconnected_request request then served else world
  item_step world (Write write) = record world { router = written write world.router }
  item_step world Shut = record world { is_open = false }
  item_step world GiveUp = record world { originator = after_give_up world.originator }

  -- the world after these events, in order
  abbrev pub item_run : ItemWorld M → List Event → ItemWorld M
  item_run world [] = world
  item_run world (event ∷ events) = item_run (item_step world event) events

-- what the item world shows
abbrev pub items_seen : {M : Type 0} → ItemWorld M → Seen M
items_seen world = record {
  router = world.router;
  back = world.back;
  accepted = world.accepted;
  stage = stage_of world.originator.phase;
}
