-- The target's end of a class 3 connection (Volume 1, transport class 3, sequence counts).
use Rattle.std.specs.Prelude.{ℕ, ◌≤◌, ◌-◌, ◌==◌, nat_le, Bool, false, not, ◌&&◌, IsTrue, if◌then◌else◌, Option, Some}
use Rattle.std.specs.Prelude.{None, List, [], length}
use Rattle.cip_class3.specs.Item.{item, sequence_count_of, message_of}
use Rattle.cip_class3.specs.declared.target.Received.{Received}
use Rattle.cip_class3.specs.declared.target.Received.TheVariants.{Dropped, Repeated, Executed}

-- The sequence count of a request that was executed, and its reply.
pub record KeptReply : Type 0 where
  pub sequence_count : ℕ
  pub reply : List ℕ

-- The target's end: both sizes (including the sequence count), and the count and reply that are held, if any.
pub record TargetState : Type 0 where
  pub o_to_t_size : ℕ
  pub t_to_o_size : ℕ
  pub held : Option KeptReply

-- The target of a connection that was just opened. It holds no count, not even count 0.
abbrev pub target_at_opening : ℕ → ℕ → TargetState
target_at_opening o_to_t_size t_to_o_size = record { o_to_t_size = o_to_t_size; t_to_o_size = t_to_o_size; held = None }

-- The answer to the request that is held.
abbrev pub kept_bytes : Option KeptReply → List ℕ
kept_bytes None = []
kept_bytes (Some kept) = item kept.sequence_count kept.reply

-- The most bytes of a reply, without its sequence count.
abbrev pub max_reply_size : TargetState → ℕ
max_reply_size target = target.t_to_o_size - 2

-- This count is held.
abbrev pub is_held : Option KeptReply → ℕ → Bool
is_held None sequence_count = false
is_held (Some kept) sequence_count = kept.sequence_count == sequence_count

-- A count and a request of at least two bytes, which fit the O->T size.
abbrev pub has_accepted_size : TargetState → List ℕ → Bool
has_accepted_size target bytes = nat_le 4 (length bytes) && nat_le (length bytes) target.o_to_t_size

-- The limit on the reply with which an item's request would be executed. None if the item would be dropped or is a
-- repeat.
abbrev pub execution_limit : TargetState → List ℕ → Option ℕ
execution_limit target bytes =
    if has_accepted_size target bytes then
    (if is_held target.held (sequence_count_of bytes) then None else Some (max_reply_size target))
    else None

-- What a target did with an item, and the target and the router after it.
pub record TargetStep (M : Type 0) : Type 0 where
  pub received : Received
  pub target : TargetState
  pub router : M

abbrev pub step_of : {M : Type 0} → Received → TargetState → M → TargetStep M
step_of received target router = record { received = received; target = target; router = router }

module _ {M : Type 0} (after : M → ℕ → List ℕ → M) (answer : M → ℕ → List ℕ → List ℕ) where
  -- The router has executed the item's request, and the target holds its count and reply.
  abbrev pub after_execution : TargetState → M → List ℕ → TargetStep M
  after_execution target router bytes =
      let max_size = max_reply_size target in
      let reply = answer router max_size (message_of bytes) in
      let kept : KeptReply = record { sequence_count = sequence_count_of bytes; reply = reply } in
      step_of Executed (record target { held = Some kept }) (after router max_size (message_of bytes))

  -- What a target does with an item. An item of any other size is dropped. The count that is held is a repeat,
  -- which changes nothing. Every other count is executed and held with its reply, also if nothing is held.
  abbrev pub target_step : TargetState → M → List ℕ → TargetStep M
  target_step target router bytes =
      if has_accepted_size target bytes then
      (if is_held target.held (sequence_count_of bytes) then step_of Repeated target router
      else after_execution target router bytes)
      else step_of Dropped target router

-- An item that the target accepts: a sequence count and a request that fit the O->T size.
pub record IsAccepted (target : TargetState) (bytes : List ℕ) : Type 0 where
  pub holds_a_request : 4 ≤ length bytes
  pub fits : length bytes ≤ target.o_to_t_size

-- An item with the count that is held.
abbrev pub IsRepeat : TargetState → List ℕ → Type 0
IsRepeat target bytes = IsTrue (is_held target.held (sequence_count_of bytes))

-- An item with any other count, or any item if no count is held.
abbrev pub HasNewCount : TargetState → List ℕ → Type 0
HasNewCount target bytes = IsTrue (not (is_held target.held (sequence_count_of bytes)))
