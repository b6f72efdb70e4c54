-- The adapter's turn: what each event changes and answers.
use Rattle.std.specs.Prelude.{ℕ, ◌+◌, max, List, [], ◌∷◌, ◌++◌, length, nat_lt, not, if◌then◌else◌, Bool, true, false}
use Rattle.std.specs.Prelude.{Option, Some, None}
use Rattle.cip_manager.specs.Closing.{without_overdue, without_session}
use Rattle.enip_wire.specs.Frames.{Frame}
use Rattle.enip_wire.specs.declared.header.Header.{Header}
use Rattle.enip_adapter.specs.declared.adapter.Full.{Full}
use Rattle.enip_adapter.specs.declared.adapter.Full.TheVariants.{Places, Handles, Share}
use Rattle.enip_adapter.specs.declared.peer.Rights.{Rights}
use Rattle.enip_adapter.specs.declared.peer.Session.{Session}
use Rattle.enip_adapter.specs.declared.shared.Shared.{Shared}
use Rattle.enip_adapter.specs.declared.no_reply_reason.NoReplyReason.{NoReplyReason}
use Rattle.enip_adapter.specs.declared.no_reply_reason.NoReplyReason.TheVariants.{NoFrame, NotServed}
use Rattle.enip_adapter.specs.Commands.{command_served, long_refused}
use Rattle.enip_adapter.specs.Groups.{has_share}
use Rattle.enip_adapter.specs.OwnWrites.{OwnWrite, device_written}
use Rattle.enip_adapter.specs.Lookup.{first_with, with_first, without_first}
use Rattle.enip_adapter.specs.Replies.{Reply, Reply as replies, Served, leaving}

-- The number of peer slots, the next session handle, what all peers share, and the peers in the order in which they
-- began.
pub record State : Type 0 where
  pub places : ℕ
  pub next_handle : ℕ
  pub shared : Shared
  pub peers : List Session

-- A TCP connection begins, with rights and for a group or for none, or ends; a time is given; a peer's stream is at the end of a frame, or of a header whose
-- length is over the limit; or the device itself writes.
pub data Event : Type 0 where
  Begin : (rights : Rights) (group : Option ℕ) → Event
  End : (peer : ℕ) → Event
  At : (now : ℕ) → Event
  Framed : (peer : ℕ) → (frame : Frame) → Event
  Long : (peer : ℕ) → (header : Header) → Event
  Written : (write : OwnWrite) → Event

-- The output of an event: no reply, for a reason; a frame to the peer; or the handle or the refusal of a peer that
-- begins.
pub data Output : Type 0 where
  NoReply : (why : NoReplyReason) → Output
  Sends : (bytes : List ℕ) → Output
  Begins : (handle : ℕ) → Output
  Refuses : (full : Full) → Output

-- The answer to an event: its output, and whether the peer's TCP connection is closed.
pub record Answer : Type 0 where
  pub output : Output
  pub close : Bool

pub record TurnResult : Type 0 where
  pub state : State
  pub answer : Answer

abbrev pub turned : State → Output → Bool → TurnResult
turned state output close = record { state = state; answer = record { output = output; close = close } }

abbrev pub sent : Reply → Output
sent (replies.NoReply why) = NoReply why
sent (replies.Sends bytes) = Sends bytes

-- A peer that has just begun.
abbrev pub new_session : ℕ → Rights → Option ℕ → Session
new_session handle rights group =
    record { handle = handle; registered = false; closed = false; rights = rights; group = group }

-- The next session handle is assigned.
abbrev pub with_peer : State → Rights → Option ℕ → State
with_peer s rights group = record s {
  next_handle = s.next_handle + 1;
  peers = s.peers ++ new_session s.next_handle rights group ∷ [];
}

-- A TCP connection begins. The group's share is checked before slots, and slots before handles (ours). A handle is
-- never used again.
abbrev pub begun : State → Rights → Option ℕ → TurnResult
begun s rights group =
    if not (has_share s.shared.share s.peers group) then turned s (Refuses Share) false
    else if not (nat_lt (length s.peers) s.places) then turned s (Refuses Places) false
    else if nat_lt 0xffffffff s.next_handle then turned s (Refuses Handles) false
    else turned (with_peer s rights group) (Begins s.next_handle) false

-- The connections that a session opened end with it.
abbrev pub without_connections : Shared → ℕ → Shared
without_connections shared session = record shared { manager = without_session shared.manager session }

-- A peer's session after a frame, and what is shared: a peer that is closed has no connection.
abbrev pub session_after : Session → Served → Session
session_after session served =
    record session { registered = served.reaction.registered; closed = served.reaction.close }

abbrev pub shared_after : Session → Served → Shared
shared_after session served =
    if served.reaction.close then without_connections served.shared session.handle else served.shared

-- A frame of a peer that is held and not closed is served. For any other peer nothing is done.
abbrev pub serve_found : State → ℕ → (Session → Served) → Option Session → TurnResult
serve_found s peer serve None = turned s (NoReply NotServed) true
serve_found s peer serve (Some session) =
    if session.closed then turned s (NoReply NotServed) true
    else turned (record s {
      shared = shared_after session (serve session);
      peers = with_first (λ p. p.handle) peer (session_after session (serve session)) s.peers;
    }) (sent (serve session).reaction.answer) (serve session).reaction.close

abbrev pub session_of : State → ℕ → Option Session
session_of s peer = first_with (λ p. p.handle) peer s.peers

-- A peer ends, with its connections. Nothing changes if it is not held.
abbrev pub end_found : State → ℕ → Option Session → State
end_found s peer None = s
end_found s peer (Some session) = record s {
  shared = without_connections s.shared peer;
  peers = without_first (λ p. p.handle) peer s.peers;
}

-- The current time is the greatest one so far. Connections whose deadline is at or before it end.
abbrev pub at_moment : Shared → ℕ → Shared
at_moment shared now = record shared {
  moment = max shared.moment now;
  manager = without_overdue shared.manager (max shared.moment now);
}

-- The device's own write changes its objects, settles a command of its ledger or finishes a queued one, and nothing else.
abbrev pub shared_written : Shared → OwnWrite → Shared
shared_written shared write = record shared { objects = device_written write shared.objects }

abbrev pub turn : State → Event → TurnResult
turn s (Begin rights group) = begun s rights group
turn s (End peer) = turned (end_found s peer (session_of s peer)) (NoReply NoFrame) false
turn s (At now) = turned (record s { shared = at_moment s.shared now }) (NoReply NoFrame) false
turn s (Framed peer f) = serve_found s peer (λ session. command_served s.shared session f) (session_of s peer)
turn s (Long peer h) = serve_found s peer (λ session. leaving s.shared (long_refused session h)) (session_of s peer)
turn s (Written write) = turned (record s { shared = shared_written s.shared write }) (NoReply NoFrame) false

-- The answers to a list of events, and the state after it.
abbrev pub answers : State → List Event → List Answer
answers s [] = []
answers s (e ∷ es) = (turn s e).answer ∷ answers (turn s e).state es

abbrev pub after : State → List Event → State
after s [] = s
after s (e ∷ es) = after (turn s e).state es
