-- A `Target`, as contracts see it.
use Rattle.std.specs.Prelude.{ℕ, ◌+◌, ◌≤◌, Option, Some, None, List, length}
use Rattle.cip_bytes.specs.declared.protocol.TheConstants.{LARGEST_CONNECTION_SIZE, SMALLEST_O_TO_T_SIZE, SMALLEST_T_TO_O_SIZE}
use Rattle.cip_bytes.specs.declared.protocol.TheConstants.{SEQUENCE_COUNT_SIZE}
use Rattle.cip_class3.specs.TargetRule.{TargetState, KeptReply}
use Rattle.cip_class3.specs.declared.target.Target.TheInside.{Inside}

-- The held count, with the reply that is kept.
abbrev pub held_of : Option ℕ → List ℕ → Option KeptReply
held_of None reply = None
held_of (Some sequence_count) reply = Some (record { sequence_count = sequence_count; reply = reply })

abbrev pub target_state : Inside → TargetState
target_state target = record {
  o_to_t_size = target.o_to_t_size;
  t_to_o_size = target.t_to_o_size;
  held = held_of target.held target.reply.items;
}

pub record IsTarget (target : Inside) : Type 0 where
  pub o_to_t_from : SMALLEST_O_TO_T_SIZE ≤ target.o_to_t_size
  pub o_to_t_to : target.o_to_t_size ≤ LARGEST_CONNECTION_SIZE
  pub t_to_o_from : SMALLEST_T_TO_O_SIZE ≤ target.t_to_o_size
  pub t_to_o_to : target.t_to_o_size ≤ LARGEST_CONNECTION_SIZE
  pub fits : length target.reply.items + SEQUENCE_COUNT_SIZE ≤ target.t_to_o_size
