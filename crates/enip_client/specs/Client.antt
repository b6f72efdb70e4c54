-- A client, with the bytes that have arrived of its next frame.
use Rattle.std.specs.Prelude.{◌≡◌, ◌≤◌, ◌+◌, ℕ, ⊤, Bool, true, false, List, [], length, take, slice_range, Option}
use Rattle.std.specs.Prelude.{Some, None, Result, Ok, Err}
use Rattle.cip_message.specs.Reply.{view}
use Rattle.cip_bytes.specs.Numbers.{AreBytes}
use Rattle.enip_wire.specs.Frames.{Frame, frame, IsTooLong}
use Rattle.enip_wire.specs.Stream.{bytes_taken, held_and_taken, parsed, cleared}
use Rattle.enip_wire.specs.Stream.Parsed.{Incomplete, WholeFrame}
use Rattle.enip_client.specs.declared.fault.ClientFault.{ClientFault}
use Rattle.enip_client.specs.declared.hearing.Heard.{Heard}
use Rattle.enip_client.specs.declared.hearing.Heard.TheVariants as heards
use Rattle.enip_client.specs.declared.hearing.Found.{Found}
use Rattle.enip_client.specs.declared.hearing.Found.TheVariants as founds
use Rattle.enip_client.specs.declared.client.PieceOutcome.{PieceOutcome}
use Rattle.enip_client.specs.declared.hearing.Answer.{Answer as RepliedTo}
use Rattle.enip_client.specs.declared.state.State.{State}
use Rattle.enip_client.specs.declared.wants.Wants.{Wants}
use Rattle.enip_client.specs.State.{new_state}
use Rattle.enip_client.specs.Hears.{TurnResult, HeardEvent, Answer, hears_parsed}
use Rattle.enip_client.specs.Hears.HeardEvent.{Nothing, Registered, Opened, Replied, Accepted, Refused, Closed}

pub record ClientState : Type 0 where
  pub state : State
  pub held : List ℕ

abbrev pub new_client : Wants → ClientState
new_client wants = record { state = new_state wants; held = [] }

-- What a piece does: how many of its bytes are taken, what is heard, and the client after it.
pub record Fed : Type 0 where
  pub client : ClientState
  pub taken : ℕ
  pub heard_event : HeardEvent

-- Bytes are taken up to the end of one frame, and the frame is heard.
abbrev pub fed_parsed : State → List ℕ → ℕ → TurnResult → Fed
fed_parsed s left taken turned =
    record { client = record { state = turned.state; held = left }; taken = taken; heard_event = turned.heard_event }

-- Once a fault lasts, no byte is taken.
abbrev pub fed_unless : ClientState → List ℕ → Option ClientFault → Fed
fed_unless c piece (Some fault) = record { client = c; taken = 0; heard_event = Nothing }
fed_unless c piece None =
    fed_parsed c.state (cleared (parsed (held_and_taken c.held piece)) (held_and_taken c.held piece))
    (bytes_taken c.held piece) (hears_parsed c.state (parsed (held_and_taken c.held piece)))

abbrev pub fed : ClientState → List ℕ → Fed
fed c piece = fed_unless c piece c.state.fault

-- The client after a call other than `feed`.
abbrev pub with_state : ClientState → State → ClientState
with_state c s = record c { state = s }

-- What was heard, whatever the addresses of its bytes.
abbrev pub heard_event_in : Heard → HeardEvent
heard_event_in heards.Nothing = Nothing
heard_event_in heards.Registered = Registered
heard_event_in heards.Opened = Opened
heard_event_in (heards.Reply bytes) = Replied bytes.now
heard_event_in (heards.Accepted bytes) = Accepted bytes.now
heard_event_in (heards.Refused status extended) = Refused status extended
heard_event_in heards.Closed = Closed

-- What was found in the bytes of a frame. A reply is between two indices.
abbrev pub heard_event_at : List ℕ → Found → HeardEvent
heard_event_at frame founds.Nothing = Nothing
heard_event_at frame founds.Registered = Registered
heard_event_at frame founds.Opened = Opened
heard_event_at frame (founds.Reply from to) = Replied (slice_range frame from to)
heard_event_at frame (founds.Accepted from to) = Accepted (slice_range frame from to)
heard_event_at frame (founds.Refused status extended) = Refused status extended
heard_event_at frame founds.Closed = Closed

-- The indices are within this many bytes.
abbrev pub IsWithin : ℕ → Found → Type 0
IsWithin size founds.Nothing = ⊤
IsWithin size founds.Registered = ⊤
IsWithin size founds.Opened = ⊤
IsWithin size (founds.Reply from to) = (from ≤ to) × (to ≤ size)
IsWithin size (founds.Accepted from to) = (from ≤ to) × (to ≤ size)
IsWithin size (founds.Refused status extended) = ⊤
IsWithin size founds.Closed = ⊤

-- What was found in a frame, and the client after it, are those of the turn.
pub record IsHeard (f : Frame) (s : State) (found : Found) (turned : TurnResult) : Type 0 where
  pub state : s ≡ turned.state
  pub heard_event : heard_event_at (frame f) found ≡ turned.heard_event
  pub within : IsWithin (length (frame f)) found

-- These bytes are in a longer list at an index.
abbrev pub LiesAt : ℕ → List ℕ → List ℕ → Type 0
LiesAt index bytes text = (index + length bytes ≤ length text)
    × (slice_range text index (index + length bytes) ≡ bytes)

-- The code's answer, whatever its address.
abbrev pub answer_of : RepliedTo → Answer
answer_of a = record { bytes = a.bytes.now; reply = view a.reply }

-- What a call wrote, if it did.
abbrev pub bytes_written : {E : Type 0} → Result (Unit {0}) E → List ℕ → Result (List ℕ) E
bytes_written (Ok done) bytes = Ok bytes
bytes_written (Err fault) bytes = Err fault

-- A call is refused, or not.
abbrev pub allowed : Option ClientFault → Result (Unit {0}) ClientFault
allowed None = Ok tt
allowed (Some fault) = Err fault

abbrev pub bytes_rewritten : Bool → List ℕ → Option (List ℕ)
bytes_rewritten true bytes = Some bytes
bytes_rewritten false bytes = None

-- The bytes of the frame in which something was found. The piece contains the whole frame, or it was gathered.
abbrev pub frame_bytes : Bool → ℕ → List ℕ → List ℕ → List ℕ
frame_bytes true taken piece held = take taken piece
frame_bytes false taken piece held = held

-- The client's value by the fields of the code. A frame that was heard stays in the reader until more arrives, and does
-- not count as held.
abbrev pub client_in : State → List ℕ → ClientState
client_in s bytes = record { state = s; held = cleared (parsed bytes) bytes }

-- Between calls, the bytes that a client holds are not a whole frame. If no fault lasts, they are a front of one, or
-- none.
pub record IsBetween (c : ClientState) : Type 0 where
  pub bytes : AreBytes c.held
  pub unheard : (f : Frame) → parsed c.held ≡ WholeFrame f → ⊥
  pub partly : c.state.fault ≡ None → parsed c.held ≡ Incomplete

-- If no fault lasts, the length in a header that is held is not over the limit.
abbrev pub IsListening : State → List ℕ → Type 0
IsListening s bytes = s.fault ≡ None → IsTooLong bytes → ⊥

-- What a piece does, and the client after it, are as defined.
pub record IsPieceOutcome (s : State) (bytes : List ℕ) (outcome : PieceOutcome) (piece : List ℕ) (f : Fed) : Type 0 where
  pub client : client_in s bytes ≡ f.client
  pub taken : outcome.taken ≡ f.taken
  pub heard_event : heard_event_at (frame_bytes outcome.in_place outcome.taken piece bytes) outcome.found ≡ f.heard_event
  pub within : IsWithin (length (frame_bytes outcome.in_place outcome.taken piece bytes)) outcome.found
  pub part : outcome.taken ≤ length piece
  pub listening : IsListening s bytes
