-- UnRegisterSession, 0x0066 (Volume 2, encapsulation commands).
use Rattle.std.specs.Prelude.{if◌then◌else◌}
use Rattle.enip_wire.specs.Frames.{Frame}
use Rattle.enip_adapter.specs.declared.peer.Session.{Session}
use Rattle.enip_adapter.specs.declared.no_reply_reason.NoReplyReason.TheVariants.{Unregistered, AnotherSession}
use Rattle.enip_adapter.specs.Replies.{Reaction, no_reply, is_registered_as}

-- No answer. The TCP connection is closed if the session is this peer's registered one, otherwise the frame is dropped
-- (ours). The data are ignored.
abbrev pub unregister_session : Session → Frame → Reaction
unregister_session session f =
    record (no_reply session (if is_registered_as session f.header.session then Unregistered else AnotherSession)) {
      close = is_registered_as session f.header.session;
    }
