-- An item of a peer, by whether its request is refused: it does what it would do over the device, or over a router that
-- refuses each request.
use Rattle.std.proofs.Common.{◌≡◌, ℕ, List, Bool, cond, Some, ◌∙◌}
use Rattle.cip_class3.specs.Item.{sequence_count_of}
use Rattle.cip_class3.specs.declared.target.Received.TheVariants.{Dropped, Repeated, Executed}
use Rattle.cip_class3.specs.TargetRule.{KeptReply, TargetState, TargetStep, step_of, has_accepted_size, is_held}
use Rattle.cip_ledger.specs.Device.{Device, exec_device}
use Rattle.cip_manager.specs.declared.connection.Connection.{Connection}
use Rattle.cip_manager.specs.Connection.{is_named, deadline_at_item, until_after_item}
use Rattle.cip_manager.specs.Items.{ItemTurn, connection_turn, answer_of, with_first}
use Rattle.enip_adapter.specs.declared.rights.Refuser.{Refuser}
use Rattle.enip_adapter.specs.Rights.{refused}

-- What a target does with an item, by both tests of it, the router after its request, and the reply.
abbrev step : {M : Type 0} → Bool → Bool → TargetState → M → List ℕ → M → List ℕ → TargetStep M
step accepted held target router bytes after reply =
    let kept : KeptReply = record { sequence_count = sequence_count_of bytes; reply = reply } in
    cond accepted
    (cond held (step_of Repeated target router) (step_of Executed (record target { held = Some kept }) after))
    (step_of Dropped target router)

module _ (connections : List Connection) (now session id : ℕ) (bytes : List ℕ) where
  abbrev turned : {M : Type 0} → Connection → TargetStep M → ItemTurn M
  turned connection s =
      let turn = connection_turn s.received
      (until_after_item (deadline_at_item now connection.timeout) s.received s.target connection) s.router in
      record {
        connections = with_first (is_named session id) turn.connection connections;
        router = turn.router;
        reply = answer_of turn;
      }

  abbrev tested : {M : Type 0} → Connection → M → M → List ℕ → ItemTurn M
  tested connection router after reply =
      turned connection (step (has_accepted_size connection.target bytes)
      (is_held connection.target.held (sequence_count_of bytes)) connection.target router bytes after reply)

  -- The turn over a router that refuses, with the device in its place.
  abbrev over : Device → ItemTurn Refuser → ItemTurn Device
  over device turn = record { connections = turn.connections; router = device; reply = turn.reply }

  abbrev exec_after : Device → ℕ → List ℕ → Device
  exec_after device max_size request = (exec_device device max_size request).after

  abbrev exec_answer : Device → ℕ → List ℕ → List ℕ
  exec_answer device max_size request = (exec_device device max_size request).answer
