-- The peers of an adapter, and what a round does to them.
use Rattle.std.specs.Prelude.{ℕ, ◌+◌, ◌-◌, ◌*◌, ◌^◌, min, option_map, ◌≡◌, ◌<◌, ◌≤◌, ◌⊎◌, List, [], ◌∷◌, length, replicate, Bool, true, false, not}
use Rattle.std.specs.Prelude.{◌==◌, if◌then◌else◌, Option, Some, None, is_none, slice_get, slice_set, unwrap_or, Result, Ok, Err}
use Rattle.std.specs.Box.{boxed_slice_items}
use Rattle.std.specs.List.{position}
use Rattle.cip_manager.specs.Connection.{earliest_deadline}
use Rattle.byteorder.specs.Endian.{little_number}
use Rattle.cip_objects.specs.Contents.{value_at}
use Rattle.cip_objects.specs.OwnRequests.{Asked}
use Rattle.cip_owner.specs.Replies.{Reply}
use Rattle.cip_owner.specs.declared.owner.NoOwner.{NoOwner}
use Rattle.enip_adapter.specs.declared.adapter.Full.{Full}
use Rattle.enip_adapter.specs.declared.adapter.Full.TheVariants.{Places}
use Rattle.enip_adapter.specs.declared.peer.Rights.TheVariants.{Write}
use Rattle.enip_adapter.specs.Calls.{AdapterState, call_answer, after_call}
use Rattle.enip_adapter.specs.Calls.Call.{Begins_peer, Ends_peer, Ticks, Writes}
use Rattle.enip_adapter.specs.OwnWrites.{OwnWrite}
use Rattle.enip_adapter.specs.Turn.Output.{Begins, Refuses}
use Rattle.enip_server.specs.declared.peer_io.PeerIo.{PeerIo}
use Rattle.enip_server.specs.declared.peer_io.Turn.{Turn}
use Rattle.enip_server.specs.declared.peers.Peers.{Peers}
use Rattle.enip_server.specs.declared.peer_io.Turn.TheVariants.{More, UntilReadable, UntilWritable, Finished}
use Rattle.enip_server.specs.declared.wire_counts.WireCounts.{WireCounts}
use Rattle.enip_server.specs.Wires.{KnownCalls}
use Rattle.enip_server.specs.PeerStates.{moment_after, peer_state_of, IsTurn, FitsBuffers, FitsCounts, is_closed_now}

-- The adapter, for how long a peer may send nothing, and the slots.
pub record ServerState (W : Type 0) : Type 0 where
  pub adapter : AdapterState
  pub idle_timeout : ℕ
  pub slots : List (Option (PeerIo W))

-- The value of `Peers`.
abbrev pub state_of : {W : Type 0} → Peers W → ServerState W
state_of p = record { adapter = p.adapter; idle_timeout = p.idle_timeout; slots = boxed_slice_items p.slots }

-- For how long a peer may send nothing: the encapsulation inactivity timeout of the TCP/IP Interface, if the device has
-- that object, where 0 is forever, or else the time that was given.
abbrev pub idle_by : ℕ → Option ℕ → ℕ
idle_by idle_timeout None = idle_timeout
idle_by idle_timeout (Some seconds) = if seconds == 0 then 2 ^ 64 - 1 else seconds * 1000000

unfoldable pub idle_of : {W : Type 0} → ServerState W → ℕ
idle_of p = idle_by p.idle_timeout
    (option_map (little_number 2) (value_at p.adapter.state.shared.objects.router.objects 0xf5 1 13))

-- The time at which a peer is ended unless a byte arrives: it was idle for too long, or the time for reading a closed
-- peer is over.
abbrev pub earlier_of : ℕ → Option ℕ → ℕ
earlier_of silent None = silent
earlier_of silent (Some last) = min last silent

abbrev pub timeout_at : {W : Type 0} → ℕ → PeerIo W → ℕ
timeout_at idle_timeout io = earlier_of (moment_after io.last_byte_at idle_timeout) io.closed

-- A peer takes one turn. Its wire may be ready again if more input may be available. It goes on unless its stream is
-- over.
abbrev pub is_more : Turn → Bool
is_more More = true
is_more UntilReadable = false
is_more UntilWritable = false
is_more Finished = false

abbrev pub is_finished : Turn → Bool
is_finished More = false
is_finished UntilReadable = false
is_finished UntilWritable = false
is_finished Finished = true

pub record TakesTurn {W O : Type 0} (left written : W → Option (List ℕ)) (known : W → Option KnownCalls)
    (counts : W → WireCounts) (answer : O → Asked → Option Reply) (next : O → Asked → O) (now : ℕ)
    (first : O) (a : AdapterState) (io : PeerIo W) (last : O) (b : AdapterState) (after : PeerIo W) (goes_on : Bool)
    : Type 0 where
  pub turn_end : Turn
  pub turn : IsTurn answer next now io.peer first (peer_state_of left written known counts a io)
      last (peer_state_of left written known counts b after)
  pub fits_buffers : FitsBuffers (peer_state_of left written known counts b after) turn_end
  pub fits_counts : FitsCounts io.end_reported (is_closed_now io.closed after.closed) turn_end (counts io.wire)
      (counts after.wire)
  pub peer : after.peer ≡ io.peer
  pub end_reported : after.end_reported ≡ io.end_reported
  pub ready : after.ready ≡ is_more turn_end
  pub over : goes_on ≡ not (is_finished turn_end)

-- Nothing is done, and nobody is asked.
abbrev pub IsStill : {W O : Type 0} → O → AdapterState → PeerIo W → O → AdapterState → PeerIo W → Type 0
IsStill first a io last b after = (b ≡ a) × (after ≡ io) × (last ≡ first)

-- A peer in a round. If it timed out, it does not go on. Otherwise it takes one turn if its wire may be ready, and none
-- if not.
pub record IsServedPeer {W O : Type 0} (left written : W → Option (List ℕ)) (known : W → Option KnownCalls)
    (counts : W → WireCounts) (answer : O → Asked → Option Reply) (next : O → Asked → O) (now idle_timeout : ℕ)
    (first : O) (a : AdapterState) (io : PeerIo W) (last : O) (b : AdapterState) (after : PeerIo W) (goes_on : Bool)
    : Type 0 where
  pub silent : timeout_at idle_timeout io ≤ now → IsStill first a io last b after × (goes_on ≡ false)
  pub waits : now < timeout_at idle_timeout io → io.ready ≡ false → IsStill first a io last b after × (goes_on ≡ true)
  pub ready : now < timeout_at idle_timeout io → io.ready ≡ true →
      TakesTurn left written known counts answer next now first a io last b after goes_on

-- A peer that goes on keeps its slot. Any other is ended.
abbrev pub IsLeft : {W : Type 0} → AdapterState → PeerIo W → Bool → AdapterState → Option (PeerIo W) → Type 0
IsLeft a io true b slot = (b ≡ a) × (slot ≡ Some io)
IsLeft a io false b slot = (b ≡ after_call a (Ends_peer io.peer)) × (slot ≡ None)

pub record IsServedAt {W O : Type 0} (left written : W → Option (List ℕ)) (known : W → Option KnownCalls)
    (counts : W → WireCounts) (answer : O → Asked → Option Reply) (next : O → Asked → O) (now idle_timeout : ℕ)
    (first : O) (a : AdapterState) (io : PeerIo W) (last : O) (b : AdapterState) (slot : Option (PeerIo W))
    : Type 0 where
  pub adapter : AdapterState
  pub after : PeerIo W
  pub goes_on : Bool
  pub served : IsServedPeer left written known counts answer next now idle_timeout first a io last adapter after goes_on
  pub stays : IsLeft adapter after goes_on b slot

-- A slot in a round. A free slot stays free.
abbrev pub IsSlotServed : {W O : Type 0} → (W → Option (List ℕ)) → (W → Option (List ℕ)) → (W → Option KnownCalls)
    → (W → WireCounts) → (O → Asked → Option Reply) → (O → Asked → O) → ℕ → ℕ
    → O → AdapterState → Option (PeerIo W) → O → AdapterState → Option (PeerIo W) → Type 0
IsSlotServed left written known counts answer next now idle_timeout first a None last b slot =
    (b ≡ a) × (slot ≡ None) × (last ≡ first)
IsSlotServed left written known counts answer next now idle_timeout first a (Some io) last b slot =
    IsServedAt left written known counts answer next now idle_timeout first a io last b slot

-- The slots in a round, one after the other. The same owner is asked for all of them.
abbrev pub AreSlotsServed : {W O : Type 0} → (W → Option (List ℕ)) → (W → Option (List ℕ)) → (W → Option KnownCalls)
    → (W → WireCounts) → (O → Asked → Option Reply) → (O → Asked → O) → ℕ → ℕ
    → O → AdapterState → List (Option (PeerIo W)) → O → AdapterState → List (Option (PeerIo W)) → Type 0
AreSlotsServed left written known counts answer next now idle_timeout first a [] last b [] = (b ≡ a) × (last ≡ first)
AreSlotsServed left written known counts answer next now idle_timeout first a [] last b (slot ∷ places) = ⊥
AreSlotsServed left written known counts answer next now idle_timeout first a (io ∷ slots) last b [] = ⊥
AreSlotsServed {O = O} left written known counts answer next now idle_timeout first a (io ∷ slots) last b
    (slot ∷ places) =
    (between : AdapterState) × (owner : O)
    × IsSlotServed left written known counts answer next now idle_timeout first a io owner between slot
    × AreSlotsServed left written known counts answer next now idle_timeout owner between slots last b places

-- A round: the adapter is given the time, and then each slot is served. The owner of the device is asked about each
-- request to it, when its frame is served.
pub record IsRound {W O : Type 0} (left written : W → Option (List ℕ)) (known : W → Option KnownCalls)
    (counts : W → WireCounts) (answer : O → Asked → Option Reply) (next : O → Asked → O) (now : ℕ)
    (first : O) (old : ServerState W) (last : O) (new : ServerState W) : Type 0 where
  pub idle_timeout : new.idle_timeout ≡ old.idle_timeout
  pub places : AreSlotsServed left written known counts answer next now (idle_of old)
      first (after_call old.adapter (Ticks now)) old.slots last new.adapter new.slots

-- The number of peers that ended in a round.
abbrev pub has_ended : {W : Type 0} → Option (PeerIo W) → Option (PeerIo W) → Bool
has_ended None slot = false
has_ended (Some io) slot = is_none slot

abbrev pub ended_in : {W : Type 0} → List (Option (PeerIo W)) → List (Option (PeerIo W)) → ℕ
ended_in [] places = 0
ended_in (io ∷ slots) [] = 0
ended_in (io ∷ slots) (slot ∷ places) = (if has_ended io slot then 1 else 0) + ended_in slots places

-- At the beginning, each slot is free.
abbrev pub new_peers : {W : Type 0} → AdapterState → ℕ → ServerState W
new_peers adapter idle_timeout = record {
  adapter = adapter;
  idle_timeout = idle_timeout;
  slots = replicate (adapter.state.places - length adapter.state.peers) None;
}

-- A peer that begins now.
abbrev pub new_peer_io : {W : Type 0} → ℕ → W → ℕ → PeerIo W
new_peer_io peer wire now = record {
  peer = peer;
  wire = wire;
  ready = true;
  end_reported = false;
  last_byte_at = now;
  closed = None;
  inbox = [];
  outbox = [];
}

-- The first free slot.
abbrev pub first_free : {W : Type 0} → List (Option (PeerIo W)) → Option ℕ
first_free slots = position (λ io. is_none io) slots

-- A peer is added that may write and has no group: it takes the first free slot. If all slots are taken, or the adapter
-- refuses it, nothing changes.
abbrev pub IsAdded : {W : Type 0} → ℕ → W → ServerState W → ServerState W → Result ℕ Full → Type 0
IsAdded now wire old new (Ok slot) =
    (handle : ℕ) × (first_free old.slots ≡ Some slot)
    × ((call_answer old.adapter (Begins_peer Write None)).output ≡ Begins handle)
    × (new ≡ record old {
      adapter = after_call old.adapter (Begins_peer Write None);
      slots = slice_set old.slots slot (Some (new_peer_io handle wire now));
    })
IsAdded now wire old new (Err full) =
    ((first_free old.slots ≡ None) × (full ≡ Places) × (new ≡ old))
    ⊎ (((call_answer old.adapter (Begins_peer Write None)).output ≡ Refuses full)
    × (new ≡ record old { adapter = after_call old.adapter (Begins_peer Write None) }))

-- The device's own write is a call of the adapter, and changes nothing else.
abbrev pub written_by : {W : Type 0} → OwnWrite → ServerState W → ServerState W
written_by write p = record p { adapter = after_call p.adapter (Writes write) }

-- Several own writes, the first of them first.
abbrev pub written_all : {W : Type 0} → List OwnWrite → ServerState W → ServerState W
written_all [] p = p
written_all (write ∷ writes) p = written_all writes (written_by write p)

-- Between these two states the device made own writes, and nothing else changed.
abbrev pub IsWritten : {W : Type 0} → ServerState W → ServerState W → Type 0
IsWritten old new = (writes : List OwnWrite) × (new ≡ written_all writes old)

-- The wire of a slot may be ready, and the end of its stream may be reported at the same time.
abbrev pub marked_ready_in : {W : Type 0} → Bool → PeerIo W → PeerIo W
marked_ready_in ends io = record io { ready = true; end_reported = if ends then true else io.end_reported }

abbrev pub marked_ready_at : {W : Type 0} → Bool → List (Option (PeerIo W)) → ℕ → Option (Option (PeerIo W)) → List (Option (PeerIo W))
marked_ready_at ends slots slot None = slots
marked_ready_at ends slots slot (Some None) = slots
marked_ready_at ends slots slot (Some (Some io)) = slice_set slots slot (Some (marked_ready_in ends io))

abbrev pub marked_ready : {W : Type 0} → Bool → List (Option (PeerIo W)) → ℕ → List (Option (PeerIo W))
marked_ready ends slots slot = marked_ready_at ends slots slot (slice_get slots slot)

-- Whether a wire may be ready.
abbrev pub is_ready : {W : Type 0} → Option (PeerIo W) → Bool
is_ready None = false
is_ready (Some io) = io.ready

-- The earliest of a time and the times at which peers are ended.
abbrev pub earliest_of : {W : Type 0} → ℕ → ℕ → List (Option (PeerIo W)) → ℕ
earliest_of idle_timeout moment [] = moment
earliest_of idle_timeout moment (None ∷ slots) = earliest_of idle_timeout moment slots
earliest_of idle_timeout moment (Some io ∷ slots) = earliest_of idle_timeout (min moment (timeout_at idle_timeout io)) slots

-- The time that never comes is none.
abbrev pub moment_or_none : ℕ → Option ℕ
moment_or_none moment = if moment == 2 ^ 64 - 1 then None else Some moment

-- The time at which a round is due although no wire is ready: a connection times out, or a peer is ended.
abbrev pub next_moment : {W : Type 0} → ServerState W → Option ℕ
next_moment p = moment_or_none (earliest_of (idle_of p)
    (unwrap_or (earliest_deadline p.adapter.state.shared.manager.connections) (2 ^ 64 - 1)) p.slots)

-- Nobody owns the device: nothing is answered to a request to the owner, and nobody remembers it.
abbrev pub nobody : NoOwner
nobody = record {}

abbrev pub no_answer : NoOwner → Asked → Option Reply
no_answer owner asked = None

abbrev pub same_nobody : NoOwner → Asked → NoOwner
same_nobody owner asked = owner
