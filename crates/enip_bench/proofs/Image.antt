-- The item world that a tracked world describes: what is held, the router's state and every reply follow from the log.
use Rattle.std.proofs.Common.{ℕ, ◌-◌, ◌==◌, if◌then◌else◌, Option, Some, None, List, [], ◌∷◌, length, map}
use Rattle.cip_class3.specs.Item.{item}
use Rattle.cip_class3.specs.TargetRule.{KeptReply}
use Rattle.cip_class3.specs.OriginatorRule.{Phase, Idle, Waiting, GivenUp}
use Rattle.cip_bytes.specs.declared.protocol.TheConstants.{UNCONNECTED_LIMIT}
use Rattle.enip_adapter.specs.OwnWrites.{OwnWrite}
use Rattle.enip_bench.specs.ItemWorld.{ItemWorld}
use Rattle.enip_bench.proofs.CountLemmas.{count_of}
use Rattle.enip_bench.proofs.TrackedWorld.{Own, Logged, OwnLogged, OtherLogged, WriteLogged, Course, Resting, Awaiting, Abandoned, TrackedWorld}

-- the item of a request
abbrev pub item_of : ℕ → Own → List ℕ
item_of first own = item (count_of first own.number) own.request

abbrev pub phase_of : ℕ → Course → Phase
phase_of first Resting = Idle
phase_of first (Awaiting own) = Waiting (count_of first own.number) own.request
phase_of first Abandoned = GivenUp

module _ {M : Type 0} (after : M → ℕ → List ℕ → M) (answer : M → ℕ → List ℕ → List ℕ)
    (written : OwnWrite → M → M) (first t_to_o_size : ℕ)
    (start : M) where
  -- the router after the log
  abbrev pub router_of : List Logged → M
  router_of [] = start
  router_of (OwnLogged own ∷ log) = after (router_of log) (t_to_o_size - 2) own.request
  router_of (OtherLogged request ∷ log) = after (router_of log) UNCONNECTED_LIMIT request
  router_of (WriteLogged write ∷ log) = written write (router_of log)

  -- the reply to the request of this number
  abbrev pub reply_of : List Logged → ℕ → List ℕ
  reply_of [] number = []
  reply_of (OwnLogged own ∷ log) number =
      if own.number == number then answer (router_of log) (t_to_o_size - 2) own.request else reply_of log number
  reply_of (OtherLogged request ∷ log) number = reply_of log number
  reply_of (WriteLogged write ∷ log) number = reply_of log number

  -- the newest own request is held
  abbrev pub held_of : List Logged → Option KeptReply
  held_of [] = None
  held_of (OwnLogged own ∷ log) =
      Some (record {
        sequence_count = count_of first own.number;
        reply = answer (router_of log) (t_to_o_size - 2) own.request;
      })
  held_of (OtherLogged request ∷ log) = held_of log
  held_of (WriteLogged write ∷ log) = held_of log

  -- the item with the reply to a request
  abbrev pub answer_of : List Logged → Own → List ℕ
  answer_of log own = item (count_of first own.number) (reply_of log own.number)

  -- a number with its reply
  abbrev pub acceptance_of : List Logged → Own → ℕ × List ℕ
  acceptance_of log own = (own.number, reply_of log own.number)

  abbrev pub image : ℕ → TrackedWorld → ItemWorld M
  image o_to_t_size world = record {
    target = record { o_to_t_size = o_to_t_size; t_to_o_size = t_to_o_size; held = held_of world.log };
    router = router_of world.log;
    is_open = world.is_open;
    originator = record {
      o_to_t_size = o_to_t_size;
      t_to_o_size = t_to_o_size;
      next = count_of first (length world.submits);
      phase = phase_of first world.course;
      unaccepted = world.unaccepted;
    };
    sent = map (item_of first) world.sent;
    back = map (answer_of world.log) world.back;
    last_reached = world.last_reached;
    last_back = world.last_back;
    submits = length world.submits;
    accepted = map (acceptance_of world.log) world.accepted;
  }
