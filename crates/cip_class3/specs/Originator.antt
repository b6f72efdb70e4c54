-- An `Originator`, as contracts see it.
use Rattle.std.specs.Prelude.{◌≡◌, ℕ, ◌≤◌, List, length, take, drop}
use Rattle.std.specs.Box.{boxed_slice_items}
use Rattle.cip_bytes.specs.declared.protocol.TheConstants.{LARGEST_CONNECTION_SIZE, SMALLEST_O_TO_T_SIZE, SMALLEST_T_TO_O_SIZE}
use Rattle.cip_class3.specs.Item.{item}
use Rattle.cip_class3.specs.OriginatorRule.{OriginatorState, Phase, Idle, Waiting, GivenUp}
use Rattle.cip_class3.specs.declared.originator.Progress.{Progress}
use Rattle.cip_class3.specs.declared.originator.Progress.TheVariants as progress
use Rattle.cip_class3.specs.declared.originator.Originator.TheInside.{Inside}

-- The waiting request is at the front of the block, after the two bytes of its sequence count.
abbrev pub phase_of : Progress → List ℕ → Phase
phase_of progress.Idle block = Idle
phase_of (progress.Waiting sequence_count length) block = Waiting sequence_count (drop 2 (take length block))
phase_of progress.GivenUp block = GivenUp

abbrev pub originator_state : Inside → OriginatorState
originator_state originator = record {
  o_to_t_size = originator.o_to_t_size;
  t_to_o_size = originator.t_to_o_size;
  next = originator.next;
  phase = phase_of originator.progress (boxed_slice_items originator.block);
  unaccepted = originator.unaccepted;
}

-- An item with this count and length is at the front of the block.
pub record IsAtFront (sequence_count item_length : ℕ) (block : List ℕ) : Type 0 where
  pub from : 4 ≤ item_length
  pub to : item_length ≤ length block
  pub item : take item_length block ≡ item sequence_count (drop 2 (take item_length block))

-- The item of the waiting request, if one is waiting, is in the block.
abbrev pub HoldsItem : Progress → List ℕ → Type 0
HoldsItem progress.Idle block = Unit {0}
HoldsItem (progress.Waiting sequence_count length) block = IsAtFront sequence_count length block
HoldsItem progress.GivenUp block = Unit {0}

pub record IsOriginator (originator : Inside) : Type 0 where
  pub o_to_t_from : SMALLEST_O_TO_T_SIZE ≤ originator.o_to_t_size
  pub o_to_t_to : originator.o_to_t_size ≤ LARGEST_CONNECTION_SIZE
  pub t_to_o_from : SMALLEST_T_TO_O_SIZE ≤ originator.t_to_o_size
  pub t_to_o_to : originator.t_to_o_size ≤ LARGEST_CONNECTION_SIZE
  pub block : length (boxed_slice_items originator.block) ≡ originator.o_to_t_size
  pub item : HoldsItem originator.progress (boxed_slice_items originator.block)
