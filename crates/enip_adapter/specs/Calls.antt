-- The adapter's calls: the events that each amounts to, the bytes that it takes, and the bytes that are held after it.
use Rattle.std.specs.Prelude.{ℕ, List, [], ◌∷◌, ◌++◌, if◌then◌else◌, Bool, true, false, Option, Some, None}
use Rattle.enip_wire.specs.Stream.{Parsed, bytes_taken, held_and_taken, parsed, cleared}
use Rattle.enip_wire.specs.Stream.Parsed.{Incomplete, WholeFrame, TooLongHeader}
use Rattle.enip_adapter.specs.declared.peer.Rights.{Rights}
use Rattle.enip_adapter.specs.declared.peer.Session.{Session}
use Rattle.enip_adapter.specs.declared.no_reply_reason.NoReplyReason.TheVariants.{NoFrame, NotServed}
use Rattle.enip_adapter.specs.Lookup.{first_with, with_first, without_first}
use Rattle.enip_adapter.specs.OwnWrites.{OwnWrite}
use Rattle.enip_adapter.specs.Turn.{State, Event, Output, Answer, turn, answers, after, session_of}
use Rattle.enip_adapter.specs.Turn.Event.{Begin, End, At, Framed, Long, Written}
use Rattle.enip_adapter.specs.Turn.Output.{NoReply, Begins}

-- The bytes that have arrived of a peer's next frame.
pub record Held : Type 0 where
  pub peer : ℕ
  pub bytes : List ℕ

-- The adapter: the state of `turn`, and what has arrived of each peer's next frame.
pub record AdapterState : Type 0 where
  pub state : State
  pub held : List Held

pub data Call : Type 0 where
  Begins_peer : (rights : Rights) (group : Option ℕ) → Call
  Feeds : (now peer : ℕ) → (piece : List ℕ) → Call
  Ends_peer : (peer : ℕ) → Call
  Ticks : (now : ℕ) → Call
  Writes : (write : OwnWrite) → Call

-- The bytes held of a peer.
abbrev pub bytes_found : Option Held → List ℕ
bytes_found None = []
bytes_found (Some held) = held.bytes

abbrev pub bytes_held : List Held → ℕ → List ℕ
bytes_held held peer = bytes_found (first_with (λ h. h.peer) peer held)

-- The event, if any, that a peer's bytes are.
abbrev pub events_of_parsed : ℕ → Parsed → List Event
events_of_parsed peer Incomplete = []
events_of_parsed peer (WholeFrame f) = Framed peer f ∷ []
events_of_parsed peer (TooLongHeader h) = Long peer h ∷ []

-- The meaning of a call: the events that it amounts to, how many bytes it takes, and the bytes held after it. A piece
-- for a peer that is closed or not held is dropped.
pub record Meaning : Type 0 where
  pub events : List Event
  pub taken : ℕ
  pub held : List Held
  pub dropped : Bool

abbrev pub meaning : List Event → List Held → Meaning
meaning events held = record { events = events; taken = 0; held = held; dropped = false }

-- No byte is held of a peer that begins.
abbrev pub held_at_beginning : List Held → Output → List Held
held_at_beginning held (Begins handle) = held ++ record { peer = handle; bytes = [] } ∷ []
held_at_beginning held other = held

-- Bytes of a piece are taken up to the end of one frame.
abbrev pub piece_meaning : List Held → ℕ → List ℕ → List ℕ → Meaning
piece_meaning held peer bytes piece = record {
  events = events_of_parsed peer (parsed (held_and_taken bytes piece));
  taken = bytes_taken bytes piece;
  held = with_first (λ h. h.peer) peer
      (record { peer = peer; bytes = cleared (parsed (held_and_taken bytes piece)) (held_and_taken bytes piece) }) held;
  dropped = false;
}

abbrev pub dropped_piece : List Held → Meaning
dropped_piece held = record { events = []; taken = 0; held = held; dropped = true }

abbrev pub piece_to : List Held → ℕ → List ℕ → Option Session → Meaning
piece_to held peer piece None = dropped_piece held
piece_to held peer piece (Some session) =
    if session.closed then dropped_piece held else piece_meaning held peer (bytes_held held peer) piece

-- A time, and then what happens at it.
abbrev pub at_a_moment : ℕ → Meaning → Meaning
at_a_moment now m = record m { events = At now ∷ m.events }

abbrev pub call_meaning : AdapterState → Call → Meaning
call_meaning a (Begins_peer rights group) =
    meaning (Begin rights group ∷ []) (held_at_beginning a.held (turn a.state (Begin rights group)).answer.output)
call_meaning a (Feeds now peer piece) = at_a_moment now (piece_to a.held peer piece (session_of a.state peer))
call_meaning a (Ends_peer peer) = meaning (End peer ∷ []) (without_first (λ h. h.peer) peer a.held)
call_meaning a (Ticks now) = at_a_moment now (meaning [] a.held)
call_meaning a (Writes write) = meaning (Written write ∷ []) a.held

-- The adapter after a call with this meaning.
abbrev pub after_meaning : State → Meaning → AdapterState
after_meaning s m = record { state = after s m.events; held = m.held }

abbrev pub after_call : AdapterState → Call → AdapterState
after_call a call = after_meaning a.state (call_meaning a call)

-- The answer of a call is that of its last event. A piece that is dropped is answered with a closed peer.
abbrev pub last_from : Answer → List Answer → Answer
last_from a [] = a
last_from a (b ∷ more) = last_from b more

abbrev pub answer_of : State → Meaning → Answer
answer_of s m =
    if m.dropped then record { output = NoReply NotServed; close = true }
    else last_from (record { output = NoReply NoFrame; close = false }) (answers s m.events)

abbrev pub call_answer : AdapterState → Call → Answer
call_answer a call = answer_of a.state (call_meaning a call)
