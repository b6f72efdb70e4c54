-- A peer's state at the adapter and on its wire, and what a turn does to it.
use Rattle.std.specs.Prelude.{ℕ, ◌+◌, ◌-◌, ◌^◌, min, ◌≡◌, ◌≢◌, ◌≤◌, List, [], ◌∷◌, ◌++◌, length, drop}
use Rattle.std.specs.Prelude.{Bool, true, false, Option, Some, None, ⊤}
use Rattle.std.specs.Option.{option_map}
use Rattle.std.specs.Io.KnownBytes.{Appends, Consumes}
use Rattle.cip_objects.specs.OwnRequests.{Asked}
use Rattle.cip_owner.specs.Replies.{Reply}
use Rattle.enip_adapter.specs.Asks.{asks_of_call, after_asking, asking_adapter, owner_after}
use Rattle.enip_adapter.specs.Calls.{AdapterState, call_meaning, call_answer}
use Rattle.enip_adapter.specs.Calls.Call.{Feeds}
use Rattle.enip_adapter.specs.Serving.{output_bytes}
use Rattle.enip_adapter.specs.Withdrawing.{found_by_piece}
use Rattle.enip_server.specs.declared.peer_io.PeerIo.{PeerIo}
use Rattle.enip_server.specs.declared.peer_io.Turn.{Turn}
use Rattle.enip_server.specs.declared.peer_io.Turn.TheVariants.{More, UntilReadable, UntilWritable, Finished}
use Rattle.enip_server.specs.declared.wire_counts.WireCounts.{WireCounts}
use Rattle.enip_server.specs.declared.wire.ReadOutcome.{ReadOutcome}
use Rattle.enip_server.specs.declared.wire.ReadOutcome.TheVariants.{Bytes, Drained, WouldBlock, End, Failed}
use Rattle.enip_server.specs.Wires.{KnownCalls, one_more, with_asked, with_shut}

-- A sum of times, which saturates at the greatest time.
abbrev pub moment_after : ℕ → ℕ → ℕ
moment_after moment more = min (moment + more) (2 ^ 64 - 1)

-- The adapter; the bytes that were read and not fed; the bytes of an answer that were not written; if the adapter
-- closed the peer, the time up to which it is still read; when the last byte arrived; what is left to read from the
-- wire, what was written to it, and what the wire knows of its calls, if that is known; and how the calls of the wire
-- went.
pub record PeerState : Type 0 where
  pub adapter : AdapterState
  pub inbox : List ℕ
  pub outbox : List ℕ
  pub closed : Option ℕ
  pub last_byte_at : ℕ
  pub left : Option (List ℕ)
  pub written : Option (List ℕ)
  pub known : Option KnownCalls
  pub counts : WireCounts

-- The state of a peer, by the code's fields.
abbrev pub peer_state_of : {W : Type 0} → (W → Option (List ℕ)) → (W → Option (List ℕ)) → (W → Option KnownCalls) → (W → WireCounts) → AdapterState → PeerIo W
    → PeerState
peer_state_of left written known counts adapter io = record {
  adapter = adapter;
  inbox = io.inbox;
  outbox = io.outbox;
  closed = io.closed;
  last_byte_at = io.last_byte_at;
  left = left io.wire;
  written = written io.wire;
  known = known io.wire;
  counts = counts io.wire;
}

-- A front of the outbox is written, and nothing else is done.
pub record IsFlushed (old new : PeerState) : Type 0 where
  pub gone : List ℕ
  pub waits : old.outbox ≡ gone ++ new.outbox
  pub written : Appends old.written new.written gone
  pub adapter : new.adapter ≡ old.adapter
  pub inbox : new.inbox ≡ old.inbox
  pub closed : new.closed ≡ old.closed
  pub last_byte_at : new.last_byte_at ≡ old.last_byte_at
  pub left : new.left ≡ old.left
  pub known : new.known ≡ old.known
  pub reads : new.counts.reads ≡ old.counts.reads

-- A peer that is closed at a time is still read for one second.
abbrev pub closed_at : ℕ → Bool → Option ℕ
closed_at now false = None
closed_at now true = Some (moment_after now 1_000_000)

-- What the inbox withdraws is withdrawn: what the request of the frame that it completes withdraws.
abbrev pub found_with : ℕ → PeerState → PeerState
found_with peer d = record d { adapter = found_by_piece d.adapter peer d.inbox }

-- The inbox is fed to its peer at a time, up to the end of one frame, and the owner of the device is asked if the frame
-- is a request to it. The owner is two functions: what it answers, and the owner afterwards. The answer to the frame
-- goes to the outbox.
abbrev pub fed_asking : {O : Type 0} → (O → Asked → Option Reply) → (O → Asked → O) → ℕ → ℕ → O → PeerState → PeerState
fed_asking answer after now peer owner d = record d {
  adapter = after_asking answer after d.adapter owner now peer d.inbox;
  inbox = drop (call_meaning (asking_adapter answer after d.adapter owner now peer d.inbox)
      (Feeds now peer d.inbox)).taken d.inbox;
  outbox = output_bytes (call_answer (asking_adapter answer after d.adapter owner now peer d.inbox)
      (Feeds now peer d.inbox)).output;
  closed = closed_at now (call_answer (asking_adapter answer after d.adapter owner now peer d.inbox)
      (Feeds now peer d.inbox)).close;
}

-- The owner after that.
abbrev pub owner_asked : {O : Type 0} → (O → Asked → Option Reply) → (O → Asked → O) → ℕ → ℕ → O → PeerState → O
owner_asked answer after now peer owner d =
    owner_after answer after owner (asks_of_call d.adapter (Feeds now peer d.inbox))

-- What the frame withdraws is withdrawn first.
abbrev pub fed_once : {O : Type 0} → (O → Asked → Option Reply) → (O → Asked → O) → ℕ → ℕ → O → PeerState → PeerState
fed_once answer after now peer owner d = fed_asking answer after now peer owner (found_with peer d)

abbrev pub owner_fed : {O : Type 0} → (O → Asked → Option Reply) → (O → Asked → O) → ℕ → ℕ → O → PeerState → O
owner_fed answer after now peer owner d = owner_asked answer after now peer owner (found_with peer d)

-- Feeds of a peer at a time. At each of them all answers before it are written, and the adapter has not closed the
-- peer.
pub data AreFed {O : Type 0} (answer : O → Asked → Option Reply) (after : O → Asked → O) (now peer : ℕ)
    : O → PeerState → O → PeerState → Type 0 where
  None_fed : {owner : O} {d : PeerState} → AreFed answer after now peer owner d owner d
  One_more_fed : {first owner : O} {old d new : PeerState} → AreFed answer after now peer first old owner d
      → d.outbox ≡ [] → d.closed ≡ None → IsFlushed (fed_once answer after now peer owner d) new
      → AreFed answer after now peer first old (owner_fed answer after now peer owner d) new

-- When the last byte arrived, after a read at a time.
abbrev pub last_byte_after : ℕ → List ℕ → ℕ → ℕ
last_byte_after now [] last_byte_at = last_byte_at
last_byte_after now (byte ∷ bytes) last_byte_at = now

-- If the inbox is empty, one read is made, which is given 4,096 bytes to fill. What it gives goes to the inbox.
pub record IsFetched (now : ℕ) (old new : PeerState) : Type 0 where
  pub received : List ℕ
  pub few : length received ≤ 4096
  pub only : old.inbox ≢ [] → received ≡ []
  pub read : Consumes old.left new.left received
  pub inbox : new.inbox ≡ old.inbox ++ received
  pub adapter : new.adapter ≡ old.adapter
  pub outbox : new.outbox ≡ old.outbox
  pub closed : new.closed ≡ old.closed
  pub last_byte_at : new.last_byte_at ≡ last_byte_after now received old.last_byte_at
  pub written : new.written ≡ old.written
  pub reads : old.inbox ≡ [] → new.counts.reads ≡ one_more old.counts.reads
  pub no_read : old.inbox ≢ [] → new.counts.reads ≡ old.counts.reads
  pub known : old.inbox ≡ [] → new.known ≡ option_map (with_asked 4096) old.known
  pub known_still : old.inbox ≢ [] → new.known ≡ old.known

-- The inbox is filled, if it is empty, and then fed.
pub record IsServed {O : Type 0} (answer : O → Asked → Option Reply) (after : O → Asked → O) (now peer : ℕ)
    (first : O) (old : PeerState) (last : O) (new : PeerState) : Type 0 where
  pub between : PeerState
  pub fetched : IsFetched now old between
  pub fed : AreFed answer after now peer first between last new

-- For a peer that the adapter closed: the writing side is shut down, and then one read, which is given 4,096 bytes to
-- fill, is made and discarded, and the inbox with it. Nothing else shuts the writing side down.
pub record IsDiscarded (old new : PeerState) : Type 0 where
  pub received : List ℕ
  pub read : Consumes old.left new.left received
  pub same : new ≡ record old { inbox = []; left = new.left; known = new.known; counts = new.counts }
  pub known : new.known ≡ option_map (with_asked 4096) (option_map with_shut old.known)
  pub reads : new.counts.reads ≡ one_more old.counts.reads

-- A turn. The outbox is written first; unless it is empty then, nothing else is done. The owner is asked only while the
-- inbox is fed.
pub record IsTurn {O : Type 0} (answer : O → Asked → Option Reply) (after : O → Asked → O) (now peer : ℕ)
    (first : O) (old : PeerState) (last : O) (new : PeerState) : Type 0 where
  pub between : PeerState
  pub flushed : IsFlushed old between
  pub waits : between.outbox ≢ [] → (new ≡ between) × (last ≡ first)
  pub served : between.outbox ≡ [] → between.closed ≡ None → IsServed answer after now peer first between last new
  pub discarded : between.outbox ≡ [] → between.closed ≢ None → IsDiscarded between new × (last ≡ first)

-- The outcome of a turn fits the buffers. If more input may be available, all that was read is fed, unless the adapter
-- closed the peer.
abbrev pub FitsBuffers : PeerState → Turn → Type 0
FitsBuffers d More = (d.outbox ≡ []) × (d.closed ≡ None → d.inbox ≡ [])
FitsBuffers d UntilReadable = (d.outbox ≡ []) × (d.inbox ≡ [])
FitsBuffers d UntilWritable = d.outbox ≢ []
FitsBuffers d Finished = ⊤

-- The outcome of a turn by its read, once everything is fed. If no more input is available the turn waits for the
-- system, unless the system has reported the end of the stream, which it does only once.
abbrev pub turn_after : ReadOutcome → Bool → Turn
turn_after (Bytes size) end_reported = More
turn_after (Drained size) false = UntilReadable
turn_after (Drained size) true = More
turn_after WouldBlock end_reported = UntilReadable
turn_after End end_reported = Finished
turn_after Failed end_reported = Finished

-- No call of the wire would have blocked, and none failed or met the end of the stream.
abbrev pub IsThrough : WireCounts → WireCounts → Type 0
IsThrough old new = (new.waits ≡ old.waits) × (new.ends ≡ old.ends)

-- The same, and no read drained the wire.
abbrev pub GoesOn : WireCounts → WireCounts → Type 0
GoesOn old new = (new.drained ≡ old.drained) × (new.waits ≡ old.waits) × (new.ends ≡ old.ends)

-- The adapter closed the peer between these.
abbrev pub is_closed_now : Option ℕ → Option ℕ → Bool
is_closed_now None None = false
is_closed_now None (Some last) = true
is_closed_now (Some last) after = false

-- The outcome of a turn fits the counts of the wire's calls. More input may be available: no call would have blocked,
-- and no read drained the wire, unless the end of the stream was reported or the adapter closed the peer in this turn.
-- Until readable: one read drained the wire, and it would have blocked if the end of the stream was reported. Until writable:
-- one call would have blocked. Finished: one call failed or met the end of the stream.
abbrev pub FitsCounts : Bool → Bool → Turn → WireCounts → WireCounts → Type 0
FitsCounts end_reported closed_now More old new =
    IsThrough old new × (end_reported ≡ false → closed_now ≡ false → new.drained ≡ old.drained)
FitsCounts end_reported closed_now UntilReadable old new = (new.drained ≡ one_more old.drained) × (new.ends ≡ old.ends)
    × (end_reported ≡ true → new.waits ≡ one_more old.waits)
FitsCounts end_reported closed_now UntilWritable old new = (new.waits ≡ one_more old.waits) × (new.ends ≡ old.ends)
FitsCounts end_reported closed_now Finished old new = (new.waits ≡ old.waits) × (new.ends ≡ one_more old.ends)

-- A turn that ends while writing: the adapter closed the peer, an answer is not written to its end, or a write failed.
abbrev pub IsCutShort : Option ℕ → Turn → WireCounts → WireCounts → Type 0
IsCutShort closed More old new = (closed ≢ None) × (new.waits ≡ old.waits) × (new.ends ≡ old.ends)
IsCutShort closed UntilReadable old new = ⊥
IsCutShort closed UntilWritable old new = (new.waits ≡ one_more old.waits) × (new.ends ≡ old.ends)
IsCutShort closed Finished old new = (new.waits ≡ old.waits) × (new.ends ≡ one_more old.ends)

-- A turn that ends before its read: an answer is not written to its end, or a write failed.
abbrev pub IsWaiting : Turn → Type 0
IsWaiting More = ⊥
IsWaiting UntilReadable = ⊥
IsWaiting UntilWritable = ⊤
IsWaiting Finished = ⊤

-- The outcomes that a read can have.
abbrev pub IsByRead : Turn → Type 0
IsByRead More = ⊤
IsByRead UntilReadable = ⊤
IsByRead UntilWritable = ⊥
IsByRead Finished = ⊤
