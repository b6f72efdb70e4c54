-- Lists of calls of `Peers`, and one peer that keeps its slot among them.
use Rattle.std.specs.Prelude.{ℕ, ◌≡◌, ⊤, Bool, List, [], ◌∷◌, Option, Some, None, Result, slice_get}
use Rattle.std.specs.Io.KnownBytes.{Keeps}
use Rattle.cip_objects.specs.OwnRequests.{Asked}
use Rattle.cip_owner.specs.Replies.{Reply}
use Rattle.enip_adapter.specs.declared.adapter.Full.{Full}
use Rattle.enip_adapter.specs.declared.peer.Rights.{Rights}
use Rattle.enip_adapter.specs.Calls.{after_call}
use Rattle.enip_adapter.specs.Calls.Call.{Ticks}
use Rattle.enip_adapter.specs.OwnWrites.{OwnWrite}
use Rattle.enip_server.specs.declared.peer_io.PeerIo.{PeerIo}
use Rattle.enip_server.specs.declared.wire_counts.WireCounts.{WireCounts}
use Rattle.enip_server.specs.Wires.{KnownCalls}
use Rattle.enip_server.specs.Evictions.{IsAddedAs, with_room}
use Rattle.enip_server.specs.Resets.{closed_slots}
use Rattle.enip_server.specs.Rounds.{ServerState, IsRound, IsAdded, marked_ready, written_by}
use Rattle.enip_server.specs.Rounds.{nobody, no_answer, same_nobody}

-- A peer whose wire was released: nothing is read, what was written to the wire stays written, and nothing else changes
-- but whether the wire may be ready.
pub record IsStill {W : Type 0} (left written : W → Option (List ℕ)) (io after : PeerIo W) : Type 0 where
  pub unread : left after.wire ≡ left io.wire
  pub kept : Keeps (written io.wire) (written after.wire)
  pub same : after ≡ record io { wire = after.wire; ready = after.ready }

abbrev pub IsStillAt : {W : Type 0} → (W → Option (List ℕ)) → (W → Option (List ℕ)) → Option (PeerIo W) → Option (PeerIo W)
    → Type 0
IsStillAt left written None slot = slot ≡ None
IsStillAt left written (Some io) None = ⊥
IsStillAt left written (Some io) (Some after) = IsStill left written io after

abbrev pub AreStill : {W : Type 0} → (W → Option (List ℕ)) → (W → Option (List ℕ)) → List (Option (PeerIo W))
    → List (Option (PeerIo W)) → Type 0
AreStill left written [] [] = ⊤
AreStill left written [] (slot ∷ places) = ⊥
AreStill left written (io ∷ slots) [] = ⊥
AreStill left written (io ∷ slots) (slot ∷ places) =
    IsStillAt left written io slot × AreStill left written slots places

-- One call: a peer is added, or refused, with rights and a group or without; room is made for a client; a wire may be
-- ready, or at the end of its stream; a round that asks the owner of the device, in any state, or one that asks nobody;
-- the device's own write; a release of all wires, if they hold back what is written to them; the adapter takes the time
-- into account; or all peers are closed.
pub data IsStep {W O : Type 0} (left written : W → Option (List ℕ)) (known : W → Option KnownCalls)
    (counts : W → WireCounts) (answer : O → Asked → Option Reply) (next : O → Asked → O)
    : ServerState W → ServerState W → Type 0 where
  Adds : {old new : ServerState W} (now : ℕ) (wire : W) (result : Result ℕ Full) → IsAdded now wire old new result
      → IsStep left written known counts answer next old new
  Adds_as : {old new : ServerState W} (now : ℕ) (wire : W) (rights : Rights) (group : Option ℕ) (result : Result ℕ Full)
      → IsAddedAs now wire rights group old new result
      → IsStep left written known counts answer next old new
  Makes_room : {old new : ServerState W} (now : ℕ) (group : Option ℕ) → new ≡ with_room old now group
      → IsStep left written known counts answer next old new
  MarksReady : {old new : ServerState W} (slot : ℕ) (ends : Bool)
      → new ≡ record old { slots = marked_ready ends old.slots slot }
      → IsStep left written known counts answer next old new
  Rounds : {old new : ServerState W} (now : ℕ) (first last : O)
      → IsRound left written known counts answer next now first old last new
      → IsStep left written known counts answer next old new
  Rounds_alone : {old new : ServerState W} (now : ℕ)
      → IsRound left written known counts no_answer same_nobody now nobody old nobody new
      → IsStep left written known counts answer next old new
  Writes_own : {old new : ServerState W} (write : OwnWrite) → new ≡ written_by write old
      → IsStep left written known counts answer next old new
  Releases : {old new : ServerState W} → AreStill left written old.slots new.slots
      → new ≡ record old { slots = new.slots }
      → IsStep left written known counts answer next old new
  Takes_time : {old new : ServerState W} (now : ℕ) → new ≡ record old { adapter = after_call old.adapter (Ticks now) }
      → IsStep left written known counts answer next old new
  Closes_all : {old new : ServerState W} (now : ℕ) → new ≡ record old { slots = closed_slots now old.slots }
      → IsStep left written known counts answer next old new

-- Calls, one after the other.
pub data IsRun {W O : Type 0} (left written : W → Option (List ℕ)) (known : W → Option KnownCalls)
    (counts : W → WireCounts) (answer : O → Asked → Option Reply) (next : O → Asked → O)
    : ServerState W → ServerState W → Type 0 where
  Still : {p : ServerState W} → IsRun left written known counts answer next p p
  Goes_on : {old between new : ServerState W} → IsRun left written known counts answer next old between
      → IsStep left written known counts answer next between new
      → IsRun left written known counts answer next old new

-- A slot holds this peer, in this state.
pub record HoldsSlot {W : Type 0} (slot peer : ℕ) (p : ServerState W) (io : PeerIo W) : Type 0 where
  pub there : slice_get p.slots slot ≡ Some (Some io)
  pub peer_of : io.peer ≡ peer

-- Calls, during which a slot holds the same peer: in this state first, and in that one at the end.
pub data KeepsSlot {W O : Type 0} (left written : W → Option (List ℕ)) (known : W → Option KnownCalls)
    (counts : W → WireCounts) (answer : O → Asked → Option Reply) (next : O → Asked → O) (slot peer : ℕ)
    : ServerState W → PeerIo W → ServerState W → PeerIo W → Type 0 where
  Begins : {p : ServerState W} {io : PeerIo W} → HoldsSlot slot peer p io
      → KeepsSlot left written known counts answer next slot peer p io p io
  Stays_on : {old between new : ServerState W} {io mid last : PeerIo W}
      → KeepsSlot left written known counts answer next slot peer old io between mid
      → IsStep left written known counts answer next between new → HoldsSlot slot peer new last
      → KeepsSlot left written known counts answer next slot peer old io new last
