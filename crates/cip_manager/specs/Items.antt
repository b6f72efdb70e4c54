-- Items that arrive on connections (Volume 1, Connection Manager and transport class 3).
use Rattle.std.specs.Prelude.{ℕ, Bool, false, if◌then◌else◌, List, [], ◌∷◌, find, Option, Some, None}
use Rattle.std.specs.Option.{option_map}
use Rattle.cip_class3.specs.declared.target.Received.{Received}
use Rattle.cip_class3.specs.Item.{item}
use Rattle.cip_class3.specs.TargetRule.{KeptReply, target_step, has_accepted_size, execution_limit, kept_bytes}
use Rattle.cip_manager.specs.declared.connection.Connection.{Connection}
use Rattle.cip_manager.specs.declared.manager.KeptAnswer.{KeptAnswer}
use Rattle.cip_manager.specs.Connection.{is_named, is_answered, deadline_at_item, until_after_item}

-- The answer to an item: the T->O ID, and the count and reply that are held.
pub record Reply : Type 0 where
  pub id : ℕ
  pub bytes : List ℕ

-- An answer of the code, as one of the specification.
abbrev pub view : KeptAnswer → Reply
view answer = record { id = answer.id; bytes = item answer.sequence_count answer.reply.now }

abbrev pub reply_of : Connection → Reply
reply_of connection = record { id = connection.t_to_o_id; bytes = kept_bytes connection.target.held }

-- The answer, if something is held.
abbrev pub kept_reply : ℕ → KeptReply → Reply
kept_reply id kept = record { id = id; bytes = item kept.sequence_count kept.reply }

abbrev pub held_reply : Connection → Option Reply
held_reply connection = option_map (kept_reply connection.t_to_o_id) connection.target.held

-- The list with another element instead of the first that passes the test.
abbrev pub with_first : {X : Type 0} → (X → Bool) → X → List X → List X
with_first test new [] = []
with_first test new (x ∷ xs) = if test x then new ∷ xs else x ∷ with_first test new xs

-- What an item did at its connection, and the connection and the router afterwards.
pub record ConnectionTurn (M : Type 0) : Type 0 where
  pub received : Received
  pub connection : Connection
  pub router : M

abbrev pub connection_turn : {M : Type 0} → Received → Connection → M → ConnectionTurn M
connection_turn received connection router = record { received = received; connection = connection; router = router }

-- The answer to the item.
abbrev pub answer_of : {M : Type 0} → ConnectionTurn M → Option Reply
answer_of turn = if is_answered turn.received then Some (reply_of turn.connection) else None

-- The connections and the router after an item, and the answer to it.
pub record ItemTurn (M : Type 0) : Type 0 where
  pub connections : List Connection
  pub router : M
  pub reply : Option Reply

module _ {M : Type 0} (after : M → ℕ → List ℕ → M) (answer : M → ℕ → List ℕ → List ℕ) where
  -- The target's rule decides about an item. An item that is not dropped moves the deadline to this one.
  abbrev pub turn_until : Connection → ℕ → List ℕ → M → ConnectionTurn M
  turn_until connection deadline bytes router =
      let step = target_step after answer connection.target router bytes in
      connection_turn step.received (until_after_item deadline step.received step.target connection) step.router

  -- The same at this moment: the deadline follows from the connection's timeout.
  abbrev pub turn_of_connection : Connection → ℕ → List ℕ → M → ConnectionTurn M
  turn_of_connection connection now bytes router =
      turn_until connection (deadline_at_item now connection.timeout) bytes router

  -- The same, if the session has a connection with this ID.
  abbrev pub turn_of_found : List Connection → ℕ → ℕ → ℕ → List ℕ → M → Option Connection → ItemTurn M
  turn_of_found connections now session id bytes router None =
      record { connections = connections; router = router; reply = None }
  turn_of_found connections now session id bytes router (Some connection) =
      let turn = turn_of_connection connection now bytes router in
      record {
        connections = with_first (is_named session id) turn.connection connections;
        router = turn.router;
        reply = answer_of turn;
      }

  -- An item goes to the session's connection with that ID. If there is none, or if the item is dropped, nothing
  -- changes and nothing is answered.
  abbrev pub item_turn : List Connection → ℕ → ℕ → ℕ → List ℕ → M → ItemTurn M
  item_turn connections now session id bytes router =
      turn_of_found connections now session id bytes router (find (is_named session id) connections)

-- The limit on the reply with which an item's request would be executed. None if the session has no connection with
-- this ID, or if its target would not execute the request.
abbrev pub execution_limit_by : Option Connection → List ℕ → Option ℕ
execution_limit_by None bytes = None
execution_limit_by (Some connection) bytes = execution_limit connection.target bytes

abbrev pub item_execution_limit : List Connection → ℕ → ℕ → List ℕ → Option ℕ
item_execution_limit connections session id bytes =
    execution_limit_by (find (is_named session id) connections) bytes

-- Whether the item has a connection, and a size that its target accepts.
abbrev pub is_taken_by : Option Connection → List ℕ → Bool
is_taken_by None bytes = false
is_taken_by (Some connection) bytes = has_accepted_size connection.target bytes

abbrev pub is_taken : List Connection → ℕ → ℕ → List ℕ → Bool
is_taken connections session id bytes = is_taken_by (find (is_named session id) connections) bytes
