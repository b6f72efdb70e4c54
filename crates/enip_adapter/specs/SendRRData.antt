-- SendRRData, 0x006f (Volume 2, encapsulation commands; Volume 1, Unconnected Message Manager).
use Rattle.std.specs.Prelude.{ℕ, Bool, List, length, ◌==◌, ◌&&◌, nat_lt, if◌then◌else◌, not, Result, Ok, Err}
use Rattle.std.specs.Prelude.{Option, Some, None}
use Rattle.cip_bytes.specs.Protocol.{manager_service_of}
use Rattle.cip_bytes.specs.declared.protocol.ManagerService.{ManagerService}
use Rattle.cip_bytes.specs.declared.protocol.ManagerService.TheVariants.{ForwardOpen, LargeForwardOpen, ForwardClose}
use Rattle.cip_bytes.specs.declared.protocol.TheConstants.{CONNECTION_MANAGER, UNCONNECTED_LIMIT}
use Rattle.cip_bytes.specs.declared.protocol.EncapsulationStatus.TheVariants.{PoorlyFormedData, InvalidSession}
use Rattle.cip_message.specs.declared.path.Path.{Path}
use Rattle.cip_message.specs.declared.path.PathFault.{PathFault}
use Rattle.cip_message.specs.declared.request.RequestFault.{RequestFault}
use Rattle.cip_message.specs.Open.{Layout, small, large}
use Rattle.cip_message.specs.PathReading.{path_of}
use Rattle.cip_message.specs.Request.{Request, request_of}
use Rattle.cip_manager.specs.declared.connection.Opener.{Opener}
use Rattle.cip_manager.specs.Manager.{Turn}
use Rattle.cip_manager.specs.Opening.{open_turn_in}
use Rattle.cip_manager.specs.Closing.{close_turn}
use Rattle.enip_wire.specs.Bodies.{rr_body_bytes, rr_body_of}
use Rattle.enip_wire.specs.Frames.{Frame}
use Rattle.enip_wire.specs.declared.item_list.CpfFault.{CpfFault}
use Rattle.enip_adapter.specs.declared.peer.Session.{Session}
use Rattle.enip_adapter.specs.declared.shared.Shared.{Shared}
use Rattle.enip_adapter.specs.Replies.{Served, leaving, replied, refused, is_registered_as}
use Rattle.enip_adapter.specs.Rights.{after_for, answer_for}

-- The route of a request: to the Connection Manager, with its data, as a Forward_Open or Large_Forward_Open (each with
-- its layout) or as a Forward_Close; or to the objects.
pub data Route : Type 0 where
  Opens : (layout : Layout) (bytes : List ℕ) → Route
  Closes : (bytes : List ℕ) → Route
  Executes : Route

abbrev pub is_manager : Path → Bool
is_manager path = (path.class == CONNECTION_MANAGER) && (path.instance == 1)

-- The three services of the Connection Manager, class 0x06, instance 1.
abbrev pub by_service : List ℕ → Option ManagerService → Route
by_service bytes (Some ForwardOpen) = Opens small bytes
by_service bytes (Some LargeForwardOpen) = Opens large bytes
by_service bytes (Some ForwardClose) = Closes bytes
by_service bytes None = Executes

abbrev pub manager_service : ℕ → List ℕ → Route
manager_service service bytes = by_service bytes (manager_service_of service)

abbrev pub route_by_path : Request → Result Path PathFault → Route
route_by_path request (Err fault) = Executes
route_by_path request (Ok path) =
    if is_manager path then manager_service request.service request.«data» else Executes

abbrev pub route_by_request : Result Request RequestFault → Route
route_by_request (Err fault) = Executes
route_by_request (Ok request) = route_by_path request (path_of request.path)

abbrev pub route_of : List ℕ → Route
route_of request = route_by_request (request_of request)

-- Who opens a connection: the session, and the group that its peer counts for.
abbrev pub opener_of : Session → Opener
opener_of session = record { session = session.handle; group = session.group }

-- What a request leaves, and the reply to it.
pub record Routed : Type 0 where
  pub shared : Shared
  pub reply : List ℕ

-- The Connection Manager changes nothing but its connections.
abbrev pub managed : Shared → Turn → Routed
managed shared turn = record { shared = record shared { manager = turn.manager }; reply = turn.reply }

abbrev pub routed_to : Shared → Session → List ℕ → Route → Routed
routed_to shared session request (Opens layout bytes) =
    managed shared (open_turn_in layout shared.manager shared.moment (opener_of session) bytes)
routed_to shared session request (Closes bytes) = managed shared (close_turn shared.manager session.handle bytes)
routed_to shared session request Executes = record {
  shared = record shared { objects = after_for session.rights shared.objects UNCONNECTED_LIMIT request };
  reply = answer_for session.rights shared.objects UNCONNECTED_LIMIT request;
}

-- A request of a session, and its reply as the data of a SendRRData.
abbrev pub routed : Shared → Session → List ℕ → Routed
routed shared session request = routed_to shared session request (route_of request)

-- The router's reply. Poorly formed data if the body is faulty, or too short for a request.
abbrev pub reply_to_body : Shared → Session → Frame → Result (List ℕ) CpfFault → Served
reply_to_body shared session f (Err fault) = leaving shared (refused session f.header PoorlyFormedData)
reply_to_body shared session f (Ok request) =
    if nat_lt (length request) 2 then leaving shared (refused session f.header PoorlyFormedData)
    else leaving (routed shared session request).shared
    (replied session f.header (rr_body_bytes (routed shared session request).reply))

-- Invalid session unless the session is this peer's registered one.
abbrev pub send_rr_data : Shared → Session → Frame → Served
send_rr_data shared session f =
    if not (is_registered_as session f.header.session) then leaving shared (refused session f.header InvalidSession)
    else reply_to_body shared session f (rr_body_of f.body)
