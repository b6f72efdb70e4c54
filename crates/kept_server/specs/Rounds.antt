-- Rounds of peers whose wires hold back what is written to them, and what is kept of a device in them.
use Rattle.std.specs.Prelude.{ℕ, zero, suc, ◌≡◌, Bool, List, [], ◌∷◌, ◌++◌, map, false, Option, Some, None, ⊤, Result, slice_get, slice_set}
use Rattle.std.proofs.Common.{sym, ap, ◌∙◌}
use Rattle.std.specs.List.{list_any}
use Rattle.cip_objects.specs.OwnRequests.{Asked}
use Rattle.cip_owner.specs.Replies.{Reply}
use Rattle.enip_adapter.specs.declared.adapter.Full.{Full}
use Rattle.enip_adapter.specs.Calls.{AdapterState, Call}
use Rattle.enip_adapter.specs.Device.{resets_of}
use Rattle.enip_adapter.specs.Calls.Call.{Ticks, Writes}
use Rattle.enip_adapter.specs.OwnWrites.{OwnWrite}
use Rattle.enip_adapter.specs.Runs.{after_calls}
use Rattle.enip_keep.specs.Kept.{Kept}
use Rattle.enip_server.specs.declared.held_wire.HeldWire.{HeldWire}
use Rattle.enip_server.specs.declared.peer_io.PeerIo.{PeerIo}
use Rattle.enip_server.specs.declared.peers.RoundEnd.{RoundEnd}
use Rattle.enip_server.specs.declared.wire_counts.WireCounts.{WireCounts}
use Rattle.enip_server.specs.Held.{held_known, held_written, AreReleased}
use Rattle.enip_server.specs.Evictions.{IsAddedAs, with_room}
use Rattle.enip_server.specs.Resets.{after_reset}
use Rattle.enip_server.specs.Rounds.{ServerState, IsRound, first_free, marked_ready, ended_in, is_ready, next_moment, written_all}
use Rattle.enip_server.specs.Wires.{KnownCalls}
use Rattle.kept_server.specs.Changes.{kept_over, still_waiting, waiting_for}
use Rattle.kept_server.specs.declared.round.Accepted.{Accepted}
use Rattle.kept_server.specs.declared.round.ReadyWire.{ReadyWire}
use Rattle.kept_server.specs.declared.round.RoundInput.{RoundInput}

-- What rounds execute: the adapter. With it, the entries that are to be kept of it, which of these wait, and the entries
-- that were found at the start.
pub record DeviceContents : Type 0 where
  pub adapter : AdapterState
  pub saved : Kept
  pub waits : List Bool
  pub found : Kept

-- The contents at the start with this adapter, if these are the entries of an adapter. The values with these keys wait.
abbrev pub contents_with : (AdapterState → Kept) → List ℕ → Kept → AdapterState → DeviceContents
contents_with save keys found adapter = record {
  adapter = adapter;
  saved = save adapter;
  waits = waiting_for keys (save adapter);
  found = found;
}

-- What is kept of the contents.
abbrev pub kept_of : DeviceContents → Kept
kept_of c = kept_over c.waits c.saved c.found

-- The bytes that were written to the wire inside, of each peer that stays, are the same.
abbrev pub SendsNothing : {W : Type 0} → (W → Option (List ℕ)) → ServerState (HeldWire W) → ServerState (HeldWire W) → Type 0
SendsNothing {W} written old new =
    (slot : ℕ) (io after : PeerIo (HeldWire W)) → slice_get old.slots slot ≡ Some (Some io)
    → slice_get new.slots slot ≡ Some (Some after) → written after.wire.wire ≡ written io.wire.wire

-- What was written to the wire inside of a peer, if there is one.
abbrev pub written_inside : {W : Type 0} → (W → Option (List ℕ)) → Option (Option (PeerIo (HeldWire W)))
    → Option (List ℕ)
written_inside written None = None
written_inside written (Some None) = None
written_inside written (Some (Some io)) = written io.wire.wire

-- If nothing is done, nothing is sent.
pub nothing_by_itself : {W : Type 0} (written : W → Option (List ℕ)) (p : ServerState (HeldWire W))
    → SendsNothing written p p
nothing_by_itself written p slot io after there stays = ap (written_inside written) (sym stays ∙ there)

-- Each peer stays, with its wire as it is.
abbrev pub KeepsWires : {W : Type 0} → ServerState (HeldWire W) → ServerState (HeldWire W) → Type 0
KeepsWires {W} old new =
    (slot : ℕ) (io : PeerIo (HeldWire W)) → slice_get old.slots slot ≡ Some (Some io)
    → (after : PeerIo (HeldWire W)) × (slice_get new.slots slot ≡ Some (Some after)) × (after.wire ≡ io.wire)

-- A wire that holds nothing yet.
abbrev pub new_held : {W : Type 0} → W → HeldWire W
new_held wire = record {
  wire = wire;
  held = [];
  was_deferred = false;
  has_failed = false;
  shut_waits = false;
  is_shut = false;
  asked = 0;
  counts = record { reads = 0; drained = 0; waits = 0; ends = 0 };
}

-- A connection is added at a time, if there is one and a slot is free.
abbrev pub IsAcceptedIn : {W : Type 0} → Option ℕ → ℕ → Accepted W → ServerState (HeldWire W) → ServerState (HeldWire W)
    → Type 0
IsAcceptedIn None now accepted old new = new ≡ old
IsAcceptedIn (Some free) now accepted old new =
    (result : Result ℕ Full)
    × IsAddedAs now (new_held accepted.wire) accepted.rights accepted.group old new result

abbrev pub IsAccepted : {W : Type 0} → ℕ → Option (Accepted W) → ServerState (HeldWire W) → ServerState (HeldWire W)
    → Type 0
IsAccepted now None old new = new ≡ old
IsAccepted now (Some accepted) old new = IsAcceptedIn (first_free old.slots) now accepted old new

-- These wires are marked ready, one after the other.
abbrev pub marked_all : {W : Type 0} → List ReadyWire → List (Option (PeerIo W)) → List (Option (PeerIo W))
marked_all [] slots = slots
marked_all (wire ∷ wires) slots = marked_all wires (marked_ready wire.ends slots wire.slot)

abbrev pub with_marks : {W : Type 0} → List ReadyWire → ServerState W → ServerState W
with_marks wires p = record p { slots = marked_all wires p.slots }

-- A round of such peers, which asks an owner.
abbrev pub IsHeldRound : {W O : Type 0} → (W → Option (List ℕ)) → (W → Option (List ℕ)) → (O → Asked → Option Reply)
    → (O → Asked → O) → ℕ → O → ServerState (HeldWire W) → O → ServerState (HeldWire W) → Type 0
IsHeldRound left written answer next now first old last new =
    IsRound (λ w. left w.wire) (held_written written) (held_known written) (λ w. w.counts) answer next now first old last new

-- A peer whose frame may have been admitted: nothing was read from the wire inside or written to it, and what is held
-- stays held. Nothing else of the peer changes but whether its wire may be ready.
pub record IsAdmittedPeer {W : Type 0} (left written : W → Option (List ℕ)) (io after : PeerIo (HeldWire W)) : Type 0 where
  pub unread : left after.wire.wire ≡ left io.wire.wire
  pub unwritten : written after.wire.wire ≡ written io.wire.wire
  pub same : after ≡ record io { wire = record io.wire { wire = after.wire.wire }; ready = after.ready }

abbrev pub IsAdmittedSlot : {W : Type 0} → (W → Option (List ℕ)) → (W → Option (List ℕ)) → Option (PeerIo (HeldWire W))
    → Option (PeerIo (HeldWire W)) → Type 0
IsAdmittedSlot left written None slot = slot ≡ None
IsAdmittedSlot left written (Some io) None = ⊥
IsAdmittedSlot left written (Some io) (Some after) = IsAdmittedPeer left written io after

abbrev pub AreAdmittedSlots : {W : Type 0} → (W → Option (List ℕ)) → (W → Option (List ℕ))
    → List (Option (PeerIo (HeldWire W))) → List (Option (PeerIo (HeldWire W))) → Type 0
AreAdmittedSlots left written [] [] = ⊤
AreAdmittedSlots left written [] (slot ∷ places) = ⊥
AreAdmittedSlots left written (io ∷ slots) [] = ⊥
AreAdmittedSlots left written (io ∷ slots) (slot ∷ places) =
    IsAdmittedSlot left written io slot × AreAdmittedSlots left written slots places

-- The adapter takes a time into account, so many times.
abbrev pub ticks : ℕ → ℕ → List Call
ticks zero now = []
ticks (suc n) now = Ticks now ∷ ticks n now

-- Frames are admitted, or none: the adapter takes the time into account, once for each frame that waits. Nobody is ended,
-- and nothing is sent.
pub record IsAdmission {W : Type 0} (left written : W → Option (List ℕ)) (now : ℕ) (old new : ServerState (HeldWire W))
    : Type 0 where
  pub times : ℕ
  pub adapter : new.adapter ≡ after_calls old.adapter (ticks times now)
  pub slots : AreAdmittedSlots left written old.slots new.slots
  pub same : new ≡ record old { adapter = new.adapter; slots = new.slots }

-- What a round is asked: its input, and the calls of the adapter that it makes. The guest's own writes are among these.
pub record RoundRequests (W : Type 0) : Type 0 where
  pub input : RoundInput W
  pub calls : List Call

-- The contents after calls of the adapter. An entry that waited waits on if its bytes are the same.
abbrev pub contents_after_calls : (AdapterState → Kept) → DeviceContents → List Call → DeviceContents
contents_after_calls save c calls =
    let adapter = after_calls c.adapter calls in
    record {
      adapter = adapter;
      saved = save adapter;
      waits = still_waiting c.waits c.saved (save adapter);
      found = c.found;
    }

-- The contents after the requests of a round.
abbrev pub after_round : {W : Type 0} → (AdapterState → Kept) → DeviceContents → RoundRequests W → DeviceContents
after_round save c requests = contents_after_calls save c requests.calls

-- One peer is ended: its slot is free now, and all other slots are the same.
abbrev pub IsOneEnded : {W : Type 0} → ServerState W → ServerState W → Type 0
IsOneEnded {W} old new =
    (slot : ℕ) × (io : PeerIo W) × (slice_get old.slots slot ≡ Some (Some io))
    × (new.slots ≡ slice_set old.slots slot None)

-- A guest of rounds, as relations: what it makes of the beginning of a round and of its end, at a time, with the peers
-- before and after it. At the beginning it names the owner of the round, who answers as these functions say.
module _ {W G O : Type 0} (left written : W → Option (List ℕ)) (answer : O → Asked → Option Reply) (next : O → Asked → O)
    (begins : ℕ → G → ServerState (HeldWire W) → G → ServerState (HeldWire W) → O → Type 0)
    (admits : ℕ → G → ServerState (HeldWire W) → G → ServerState (HeldWire W) → Type 0) where
  -- The peers take a round with a guest: the guest begins it, which makes these writes, the connection is added, the wires
  -- are marked ready, and then the round is made at the time of the input, in which the guest's owner is asked. After it
  -- the guest admits frames. If the device was reset, all peers are closed. Last, room is made for the client that waits for
  -- a slot. The adapter is that after these
  -- calls, of which the guest's writes are the first. The outcome is that of the round and of the peer that gave way.
  pub record TakesRound (requests : RoundRequests W) (first : G) (old : ServerState (HeldWire W)) (last : G)
      (new : ServerState (HeldWire W)) (outcome : RoundEnd) : Type 0 where
    pub writes : List OwnWrite
    pub others : List Call
    pub begun : ServerState (HeldWire W)
    pub added : ServerState (HeldWire W)
    pub served : ServerState (HeldWire W)
    pub admitted : ServerState (HeldWire W)
    pub closed : ServerState (HeldWire W)
    pub guest_begun : G
    pub guest_served : G
    pub owner : O
    pub owner_served : O
    pub own_calls : requests.calls ≡ map Writes writes ++ others
    pub guest_begins : begins requests.input.now first old guest_begun begun owner
    pub wrote : begun ≡ written_all writes old
    pub accepted : IsAccepted requests.input.now requests.input.accepted begun added
    pub round : IsHeldRound left written answer next requests.input.now owner (with_marks requests.input.ready.items added)
        owner_served served
    pub guest_admits : admits requests.input.now guest_served served last admitted
    pub admission : IsAdmission left written requests.input.now served admitted
    pub reset : closed ≡ after_reset (resets_of old.adapter) requests.input.now admitted
    pub room : new ≡ with_room closed requests.input.now requests.input.room_for
    pub executed : new.adapter ≡ after_calls old.adapter requests.calls
    pub ended : outcome.ended ≡ ended_in (with_marks requests.input.ready.items added).slots new.slots
    pub next_is : outcome.next ≡ next_moment new

-- What was held leaves, as far as the wires take it, and the outcome says whether a wire may be ready then.
pub record SendsHeld {W : Type 0} (left written : W → Option (List ℕ)) (known : W → Option KnownCalls)
    (counts : W → WireCounts) (old new : ServerState (HeldWire W)) (first last : RoundEnd) : Type 0 where
  pub released : AreReleased left written known counts old new
  pub outcome : last ≡ record first { ready = list_any is_ready new.slots }
