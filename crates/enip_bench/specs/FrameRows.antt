-- Worked examples of the counting world: an opening with handles and IDs from 1, and the frame of a request.
use Rattle.std.specs.Prelude.{◌≡◌, ℕ, List, [], ◌∷◌, Result, Ok, Err, refl}
use Rattle.cip_ledger.specs.Device.{Device}
use Rattle.enip_adapter.specs.declared.adapter.Limits.{Limits}
use Rattle.enip_adapter.specs.declared.shared.Listen.{Listen}
use Rattle.enip_client.specs.declared.wants.Wants.{Wants}
use Rattle.enip_adapter.specs.Commands.{command_served}
use Rattle.enip_wire.specs.Bodies.{rr_body_of}
use Rattle.cip_message.specs.Open.{open_of, open_fields}
use Rattle.cip_message.specs.OpenPath.{open_path_of}
use Rattle.cip_message.specs.PathReading.{path_of, class_of, instance_of, attribute_of, member_of, whole_of, segment_of}
use Rattle.cip_message.specs.Reply.{reply_of}
use Rattle.cip_message.specs.Request.{request_of}
use Rattle.enip_bench.specs.CountingOpening.{Setup, opening}
use Rattle.enip_bench.specs.CountingWorld.{CountingWorld, counting_run}
use Rattle.enip_bench.specs.Events.{Event, Submit}
use Rattle.enip_bench.specs.Rows.{add}

-- an adapter for two peers and one connection
abbrev pub limits : Limits
limits = record { peers = 2; connections = 1; first_handle = 1; first_id = 1 }

-- connection serial 1, vendor 0x42, originator serial 0x12345678, T->O ID 0x11223344, RPI 2 seconds, T->O size 500
abbrev pub wants : ℕ → Wants
wants o_to_t_size = record {
  originator_vendor = 0x42;
  originator_serial = 0x12345678;
  connection_serial = 1;
  t_to_o_id = 0x11223344;
  rpi = 2000000;
  timeout_multiplier = 0;
  o_to_t_size = o_to_t_size;
  t_to_o_size = 500;
  first_count = 1;
}

-- the frames sent by these events after an opening; none if it was refused
abbrev pub sent_after : List Event → Result CountingWorld Setup → List (List ℕ)
sent_after events (Err why) = []
sent_after events (Ok world) = (counting_run world events).sent

-- the handles of the client's session and the second session
abbrev pub handles : Result CountingWorld Setup → List ℕ
handles (Err why) = []
handles (Ok world) = world.peer ∷ world.second ∷ []

-- over any objects: session 1 opens its connection, and session 2 is registered
pub handles-opened : (objects : Device) (listen : Listen) →
    handles (opening objects listen limits (wants 500)) ≡ 1 ∷ 2 ∷ []
unfolding opening command_served rr_body_of request_of path_of class_of instance_of attribute_of member_of whole_of segment_of open_of open_fields open_path_of reply_of
handles-opened objects listen = refl

-- an O->T size of 3 is refused
pub handles-refused : (objects : Device) (listen : Listen) →
    handles (opening objects listen limits (wants 3)) ≡ []
unfolding opening command_served rr_body_of request_of path_of class_of instance_of attribute_of member_of whole_of segment_of open_of open_fields open_path_of reply_of
handles-refused objects listen = refl

-- service 0x32 with the number 5, on connection 1 of session 1, with count 1
pub sent-request : (objects : Device) (listen : Listen) →
    sent_after (Submit (add 5) ∷ []) (opening objects listen limits (wants 500))
    ≡ (0x70 ∷ 0x00 ∷ 0x20 ∷ 0x00 ∷ 1 ∷ 0 ∷ 0 ∷ 0 ∷ 0 ∷ 0 ∷ 0 ∷ 0 ∷ 0 ∷ 0 ∷ 0 ∷ 0 ∷ 0 ∷ 0 ∷ 0 ∷ 0 ∷ 0 ∷ 0 ∷ 0 ∷ 0
    ∷ 0 ∷ 0 ∷ 0 ∷ 0 ∷ 0 ∷ 0 ∷ 2 ∷ 0 ∷ 0xa1 ∷ 0 ∷ 4 ∷ 0 ∷ 1 ∷ 0 ∷ 0 ∷ 0 ∷ 0xb1 ∷ 0 ∷ 0x0c ∷ 0
    ∷ 1 ∷ 0 ∷ 0x32 ∷ 2 ∷ 0x20 ∷ 0x64 ∷ 0x24 ∷ 1 ∷ 5 ∷ 0 ∷ 0 ∷ 0 ∷ []) ∷ []
unfolding opening command_served rr_body_of request_of path_of class_of instance_of attribute_of member_of whole_of segment_of open_of open_fields open_path_of reply_of
sent-request objects listen = refl
