-- The frames that a client sends (Volume 2, encapsulation commands; Volume 1, Connection Manager).
use Rattle.std.specs.Prelude.{ℕ, ◌+◌, ◌%◌, ◌^◌, nat_lt, Bool, ◌||◌, if◌then◌else◌, List, [], ◌∷◌, ◌++◌, length}
use Rattle.cip_bytes.specs.Numbers.{le}
use Rattle.cip_bytes.specs.Protocol.{command_number, manager_service_number}
use Rattle.cip_bytes.specs.declared.protocol.Command.{Command}
use Rattle.cip_bytes.specs.declared.protocol.Command.TheVariants.{RegisterSession, UnRegisterSession, SendRRData}
use Rattle.cip_bytes.specs.declared.protocol.Command.TheVariants.{SendUnitData}
use Rattle.cip_bytes.specs.declared.protocol.ManagerService.{ManagerService}
use Rattle.cip_bytes.specs.declared.protocol.ManagerService.TheVariants.{ForwardOpen, LargeForwardOpen, ForwardClose}
use Rattle.cip_bytes.specs.declared.protocol.TheConstants.{CONNECTION_MANAGER, LARGEST_FORWARD_OPEN_SIZE, MESSAGE_ROUTER}
use Rattle.cip_message.specs.Open.{Layout, small, large, Open, «open», large_open}
use Rattle.cip_message.specs.Close.{Close, close}
use Rattle.cip_message.specs.Request.{request}
use Rattle.enip_wire.specs.Bodies.{rr_body_bytes, unit_body_bytes}
use Rattle.enip_wire.specs.Frames.{Frame}
use Rattle.enip_wire.specs.declared.header.Header.{Header}
use Rattle.cip_route.specs.Send.{Send, send_bytes}
use Rattle.cip_route.specs.declared.send.TheConstants.{UNCONNECTED_SEND}
use Rattle.enip_client.specs.declared.wants.Wants.{Wants}

-- The header of a frame with `size` bytes of data: status 0, options 0, and a number as its context.
abbrev pub sent_header : Command → ℕ → ℕ → ℕ → Header
sent_header command session number size = record {
  command = command_number command;
  length = size;
  session = session;
  status = 0;
  context = le 8 number;
  options = 0;
}

-- A frame with these data.
abbrev pub sent : Command → ℕ → ℕ → List ℕ → Frame
sent command session number body =
    record { header = sent_header command session number (length body); body = body }

-- RegisterSession: protocol version 1, no flags.
abbrev pub register_frame : ℕ → Frame
register_frame number = sent RegisterSession 0 number (le 2 1 ++ le 2 0)

-- UnRegisterSession has no data, and no reply.
abbrev pub unregister_frame : ℕ → Frame
unregister_frame session = sent UnRegisterSession session 0 []

-- SendRRData: an unconnected request.
abbrev pub request_frame : ℕ → ℕ → List ℕ → Frame
request_frame session number bytes = sent SendRRData session number (rr_body_bytes bytes)

-- SendUnitData: an item of the connection with this O->T ID. It is identified by its count, not by its context.
abbrev pub item_frame : ℕ → ℕ → List ℕ → Frame
item_frame session o_to_t_id item = sent SendUnitData session 0 (unit_body_bytes o_to_t_id item)

-- The paths of the Connection Manager, instance 1, and of the message router, instance 1, to which a connection is
-- opened.
abbrev pub connection_manager : List ℕ
connection_manager = 0x20 ∷ CONNECTION_MANAGER ∷ 0x24 ∷ 1 ∷ []

abbrev pub message_router : List ℕ
message_router = 0x20 ∷ MESSAGE_ROUTER ∷ 0x24 ∷ 1 ∷ []

-- A request to the Connection Manager.
abbrev pub manager_request : ManagerService → List ℕ → List ℕ
manager_request service bytes =
    request (record { service = manager_service_number service; path = connection_manager; «data» = bytes })

-- The parameters of one direction: point to point, of variable size up to this one, which is in bits 0 to 8.
abbrev pub parameters_of : ℕ → ℕ
parameters_of size = 0x4200 + size % 2 ^ 9

-- The same for a large connection, whose size is in bits 0 to 15.
abbrev pub large_parameters_of : ℕ → ℕ
large_parameters_of size = 0x42000000 + size

-- A connection is large if the size of either direction does not fit a Forward_Open.
abbrev pub is_large : Wants → Bool
is_large wants = nat_lt LARGEST_FORWARD_OPEN_SIZE wants.o_to_t_size || nat_lt LARGEST_FORWARD_OPEN_SIZE wants.t_to_o_size

abbrev pub layout_of : Wants → Layout
layout_of wants = if is_large wants then large else small

-- The path of a connection to the message router over a route.
abbrev pub router_over : List ℕ → List ℕ
router_over route = route ++ message_router

-- The fields of an open, with the path and the parameters of both directions. The target chooses the O->T ID. The client
-- is the originator of a class 3 connection.
abbrev pub asked_on : List ℕ → ℕ → ℕ → Wants → Open
asked_on path o_to_t_parameters t_to_o_parameters wants = record {
  priority_and_tick_time = 0x0a;
  timeout_ticks = 0x0e;
  o_to_t_id = 0;
  t_to_o_id = wants.t_to_o_id;
  connection_serial = wants.connection_serial;
  originator_vendor = wants.originator_vendor;
  originator_serial = wants.originator_serial;
  timeout_multiplier = wants.timeout_multiplier;
  o_to_t_rpi = wants.rpi;
  o_to_t_parameters = o_to_t_parameters;
  t_to_o_rpi = wants.rpi;
  t_to_o_parameters = t_to_o_parameters;
  transport = 0xa3;
  path = path;
}

abbrev pub open_asked_on : List ℕ → Wants → Open
open_asked_on path wants = asked_on path (parameters_of wants.o_to_t_size) (parameters_of wants.t_to_o_size) wants

abbrev pub large_asked_on : List ℕ → Wants → Open
large_asked_on path wants =
    asked_on path (large_parameters_of wants.o_to_t_size) (large_parameters_of wants.t_to_o_size) wants

-- The same without a route.
abbrev pub open_asked : Wants → Open
open_asked wants = open_asked_on message_router wants

abbrev pub large_asked : Wants → Open
large_asked wants = large_asked_on message_router wants

-- Forward_Open or Large_Forward_Open, in its layout.
abbrev pub open_service_in : Layout → ManagerService
open_service_in small = ForwardOpen
open_service_in large = LargeForwardOpen

abbrev pub open_data_on : List ℕ → Layout → Wants → List ℕ
open_data_on path small wants = «open» (open_asked_on path wants)
open_data_on path large wants = large_open (large_asked_on path wants)

abbrev pub open_request_on : List ℕ → Layout → Wants → List ℕ
open_request_on path layout wants = manager_request (open_service_in layout) (open_data_on path layout wants)

abbrev pub open_data_in : Layout → Wants → List ℕ
open_data_in layout wants = open_data_on message_router layout wants

abbrev pub open_request_in : Layout → Wants → List ℕ
open_request_in layout wants = open_request_on message_router layout wants

-- A large connection is opened by Large_Forward_Open, any other by Forward_Open.
abbrev pub open_service : Wants → ManagerService
open_service wants = open_service_in (layout_of wants)

abbrev pub open_request : Wants → List ℕ
open_request wants = open_request_in (layout_of wants) wants

-- The same over a route, whose segments come before the path of the message router.
abbrev pub open_request_over : List ℕ → Wants → List ℕ
open_request_over route wants = open_request_on (router_over route) (layout_of wants) wants

-- The connection that a close names.
abbrev pub close_asked_on : List ℕ → Wants → Close
close_asked_on path wants = record {
  priority_and_tick_time = 0x0a;
  timeout_ticks = 0x0e;
  connection_serial = wants.connection_serial;
  originator_vendor = wants.originator_vendor;
  originator_serial = wants.originator_serial;
  path = path;
}

-- Forward_Close, with the path of the opening.
abbrev pub close_request_on : List ℕ → Wants → List ℕ
close_request_on path wants = manager_request ForwardClose (close (close_asked_on path wants))

abbrev pub close_request : Wants → List ℕ
close_request wants = close_request_on message_router wants

abbrev pub close_request_over : List ℕ → Wants → List ℕ
close_request_over route wants = close_request_on (router_over route) wants

-- ---- requests over a route

-- A message that a router gives up after 4 ticks of 2^10 milliseconds (ours).
abbrev pub routed : List ℕ → List ℕ → Send
routed route message =
    record { priority_and_tick_time = 0x0a; timeout_ticks = 4; message = message; route = route }

-- Unconnected_Send: a request of the Connection Manager of the first router.
abbrev pub send_request : List ℕ → List ℕ → List ℕ
send_request route message =
    request (record {
      service = UNCONNECTED_SEND;
      path = connection_manager;
      «data» = send_bytes (routed route message);
    })
