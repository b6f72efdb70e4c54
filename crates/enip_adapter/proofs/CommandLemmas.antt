-- What a frame changes of what all peers share: one of a few kinds of change.
use Rattle.std.proofs.Common.{not, ltb, eqb, length, ℕ, List, Option, Some, Result, Ok, Err}
use Rattle.cip_bytes.specs.Protocol.{command_of}
use Rattle.cip_bytes.specs.declared.protocol.Command.{Command}
use Rattle.cip_bytes.specs.declared.protocol.TheConstants.{UNCONNECTED_LIMIT}
use Rattle.cip_bytes.specs.declared.protocol.Command.TheVariants.{SendRRData, SendUnitData}
use Rattle.cip_message.specs.Open.{Layout}
use Rattle.cip_manager.specs.Closing.{close_turn}
use Rattle.cip_manager.specs.Opening.{open_turn_in}
use Rattle.enip_wire.specs.Bodies.{rr_body_of, unit_body_of}
use Rattle.enip_wire.specs.Frames.{Frame}
use Rattle.enip_wire.specs.declared.item_list.CpfFault.{CpfFault}
use Rattle.enip_adapter.specs.declared.peer.Session.{Session}
use Rattle.enip_adapter.specs.declared.shared.Shared.{Shared}
use Rattle.enip_adapter.specs.Commands.{by_command, command_served}
use Rattle.enip_adapter.specs.Replies.{Served, is_registered_as}
use Rattle.enip_adapter.specs.Rights.{after_for}
use Rattle.enip_adapter.specs.SendRRData.{Route, route_of, opener_of, managed, routed_to, reply_to_body}
use Rattle.enip_adapter.specs.SendRRData.Route.{Opens, Closes, Executes}
use Rattle.enip_adapter.specs.SendUnitData.{turn_of_item, item_of_body}
use Rattle.enip_adapter.proofs.ListLemmas.{both}

-- A property of what is shared that each change of it by a session keeps.
pub record Changes (P : Shared → Type 0) (shared : Shared) (session : Session) : Type 0 where
  pub same : P shared
  pub opens : (layout : Layout) (bytes : List ℕ) →
      P (managed shared (open_turn_in layout shared.manager shared.moment (opener_of session) bytes)).shared
  pub closes : (bytes : List ℕ) → P (managed shared (close_turn shared.manager session.handle bytes)).shared
  pub executes : (request : List ℕ) →
      P (record shared { objects = after_for session.rights shared.objects UNCONNECTED_LIMIT request })
  pub receives : (id : ℕ) (item : List ℕ) → P (record shared {
    manager = record shared.manager { connections = (turn_of_item shared session id item).connections };
    objects = (turn_of_item shared session id item).router;
  })

module _ (P : Shared → Type 0) (shared : Shared) (session : Session) (changes : Changes P shared session) where
  after_routed : (request : List ℕ) (to : Route) → P (routed_to shared session request to).shared
  after_routed request (Opens layout bytes) = changes.opens layout bytes
  after_routed request (Closes bytes) = changes.closes bytes
  after_routed request Executes = changes.executes request

  after_body : (f : Frame) (body : Result (List ℕ) CpfFault) → P (reply_to_body shared session f body).shared
  after_body f (Err fault) = changes.same
  after_body f (Ok request) =
      both (λ (s : Served). P s.shared) (ltb (length request) 2) _ _ changes.same
      (after_routed request (route_of request))

  after_item : (f : Frame) (body : Result (ℕ × List ℕ) CpfFault) → P (item_of_body shared session f body).shared
  after_item f (Err fault) = changes.same
  after_item f (Ok (id, item)) = changes.receives id item

  after_by_command : (f : Frame) (command : Option Command) → P (by_command shared session f command).shared
  after_by_command f (Some SendRRData) =
      both (λ (s : Served). P s.shared) (not (is_registered_as session f.header.session)) _ _ changes.same
      (after_body f (rr_body_of f.body))
  after_by_command f (Some SendUnitData) =
      both (λ (s : Served). P s.shared) (not (is_registered_as session f.header.session)) _ _ changes.same
      (after_item f (unit_body_of f.body))
  after_by_command f other = changes.same

  pub after_command : (f : Frame) → P (command_served shared session f).shared
  unfolding command_served
  after_command f =
      both (λ (s : Served). P s.shared) (not (eqb f.header.options 0)) _ _ changes.same
      (both (λ (s : Served). P s.shared) (not (eqb f.header.status 0)) _ _ changes.same
      (after_by_command f (command_of f.header.command)))
