-- What a frame does and how it is answered (Volume 2, encapsulation header).
use Rattle.std.specs.Prelude.{ℕ, List, [], Bool, false, ◌==◌, ◌&&◌, length}
use Rattle.cip_bytes.specs.Protocol.{encapsulation_status_number}
use Rattle.cip_bytes.specs.declared.protocol.EncapsulationStatus.{EncapsulationStatus}
use Rattle.cip_bytes.specs.declared.protocol.EncapsulationStatus.TheVariants.{Success}
use Rattle.enip_wire.specs.declared.header.Header.{Header}
use Rattle.enip_wire.specs.Frames.{frame}
use Rattle.enip_adapter.specs.declared.peer.Session.{Session}
use Rattle.enip_adapter.specs.declared.reply.Reply.{Reply as WrittenReply}
use Rattle.enip_adapter.specs.declared.reply.Reply.TheVariants as code
use Rattle.enip_adapter.specs.declared.shared.Shared.{Shared}
use Rattle.enip_adapter.specs.declared.no_reply_reason.NoReplyReason.{NoReplyReason}

-- The header of a reply with `size` bytes of data: command and context of the request, options 0.
abbrev pub reply_header : Header → ℕ → EncapsulationStatus → ℕ → Header
reply_header asked session status size = record {
  command = asked.command;
  length = size;
  session = session;
  status = encapsulation_status_number status;
  context = asked.context;
  options = 0;
}

-- A reply with these data.
abbrev pub reply : Header → ℕ → EncapsulationStatus → List ℕ → List ℕ
reply asked session status bytes =
    frame (record { header = reply_header asked session status (length bytes); body = bytes })

-- What is sent back: nothing, for a reason, or these bytes.
pub data Reply : Type 0 where
  NoReply : (why : NoReplyReason) → Reply
  Sends : (bytes : List ℕ) → Reply

-- What a frame does to its peer: whether it is registered after it, what is sent back, and whether the TCP connection
-- is closed.
pub record Reaction : Type 0 where
  pub registered : Bool
  pub answer : Reply
  pub close : Bool

-- This is sent back, and nothing else happens to the peer.
abbrev pub replying : Session → Reply → Reaction
replying session reply = record { registered = session.registered; answer = reply; close = false }

abbrev pub no_reply : Session → NoReplyReason → Reaction
no_reply session why = replying session (NoReply why)

abbrev pub answered : Session → List ℕ → Reaction
answered session bytes = replying session (Sends bytes)

-- A reply with these data. Its session field is that of the request.
abbrev pub replied : Session → Header → List ℕ → Reaction
replied session asked bytes = answered session (reply asked asked.session Success bytes)

-- A refusal has no data. Its session field is that of the request.
abbrev pub refused : Session → Header → EncapsulationStatus → Reaction
refused session asked status = answered session (reply asked asked.session status [])

-- What all peers share after a frame, and the reaction to it.
pub record Served : Type 0 where
  pub shared : Shared
  pub reaction : Reaction

abbrev pub leaving : Shared → Reaction → Served
leaving shared reaction = record { shared = shared; reaction = reaction }

-- The session is registered, and this is its handle.
abbrev pub is_registered_as : Session → ℕ → Bool
is_registered_as session handle = session.registered && (handle == session.handle)

-- The code's reply, with the content of its answer buffer.
abbrev pub written : WrittenReply → List ℕ → Reply
written (code.NoReply why) bytes = NoReply why
written code.Written bytes = Sends bytes
