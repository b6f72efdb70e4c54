-- How the frames that wait are admitted.
use Rattle.std.specs.Prelude.{ℕ, ◌≡◌, ◌==◌, ◌||◌, not, if◌then◌else◌, List, [], ◌∷◌, length, Bool, true, false, Option, Some, None, is_some}
use Rattle.cip_objects.specs.OwnRequests.{Asked}
use Rattle.enip_adapter.specs.Asks.{asks_of_call}
use Rattle.enip_adapter.specs.Calls.{AdapterState, after_call}
use Rattle.enip_adapter.specs.Calls.Call.{Feeds, Ticks}
use Rattle.enip_adapter.specs.Executing.{executing}
use Rattle.enip_server.specs.declared.peer_io.PeerIo.{PeerIo}
use Rattle.enip_server.specs.Rounds.{ServerState}

-- Bytes were read and not fed, or are of an answer and were not written.
abbrev pub has_bytes : {W : Type 0} → PeerIo W → Bool
has_bytes io = not (length io.inbox == 0) || not (length io.outbox == 0)

-- The bytes up to the end of the frame that waits, if one does and all bytes before it were fed and answered.
abbrev pub frame_of_peer : {W : Type 0} → (W → Option (List ℕ)) → PeerIo W → Option (List ℕ)
frame_of_peer waiting io = if has_bytes io then None else waiting io.wire

-- The peer of an admitted frame has a turn in the next round. Nothing else changes.
abbrev pub if_admitted : {W : Type 0} → (W → W) → Bool → PeerIo W → PeerIo W
if_admitted admitted_wire false io = io
if_admitted admitted_wire true io = record io { wire = admitted_wire io.wire; ready = true }

-- A gate, as a relation: the gate, the handle of a peer, its wire, what its frame asks, whether that is in a numbered
-- command, whether the frame is admitted, and the gate afterwards. And wires that wait for it: the frame that waits in one,
-- and the wire once that is admitted.
module _ {W G : Type 0} (waiting : W → Option (List ℕ)) (admitted_wire : W → W)
    (shows : G → ℕ → W → Asked → Bool → Bool → G → Type 0) where
  -- A frame that asks nothing is admitted. Otherwise the gate decides about what it asks. Nothing asks more than once.
  abbrev pub IsDecided : G → PeerIo W → Bool → List Asked → Bool → G → Type 0
  IsDecided gate io numbered [] admitted next = (admitted ≡ true) × (next ≡ gate)
  IsDecided gate io numbered (asked ∷ more) admitted next = shows gate io.peer io.wire asked numbered admitted next

  -- The frame that waits, if one does, is looked at by the adapter at a time.
  abbrev pub IsPieceShown : ℕ → G → AdapterState → PeerIo W → Option (List ℕ) → Bool → G → AdapterState → Type 0
  IsPieceShown now gate a io None admitted next b = (admitted ≡ false) × (next ≡ gate) × (b ≡ a)
  IsPieceShown now gate a io (Some piece) admitted next b =
      IsDecided gate io (is_some (executing a io.peer piece)) (asks_of_call a (Feeds now io.peer piece)) admitted next
      × (b ≡ after_call a (Ticks now))

  abbrev pub IsFrameShown : ℕ → G → AdapterState → PeerIo W → Bool → G → AdapterState → Type 0
  IsFrameShown now gate a io admitted next b = IsPieceShown now gate a io (frame_of_peer waiting io) admitted next b

  abbrev pub IsSlotShown : ℕ → G → AdapterState → Option (PeerIo W) → G → AdapterState → Option (PeerIo W) → Type 0
  IsSlotShown now gate a None next b slot = (next ≡ gate) × (b ≡ a) × (slot ≡ None)
  IsSlotShown now gate a (Some io) next b slot =
      (admitted : Bool) × IsFrameShown now gate a io admitted next b × (slot ≡ Some (if_admitted admitted_wire admitted io))

  -- The slots, one after the other.
  abbrev pub AreSlotsShown : ℕ → G → AdapterState → List (Option (PeerIo W)) → G → AdapterState → List (Option (PeerIo W))
      → Type 0
  AreSlotsShown now gate a [] next b [] = (next ≡ gate) × (b ≡ a)
  AreSlotsShown now gate a [] next b (slot ∷ places) = ⊥
  AreSlotsShown now gate a (io ∷ slots) next b [] = ⊥
  AreSlotsShown now gate a (io ∷ slots) next b (slot ∷ places) =
      (between : G) × (mid : AdapterState) × IsSlotShown now gate a io between mid slot
      × AreSlotsShown now between mid slots next b places

  -- All of them. Nothing else changes.
  pub record AreShown (now : ℕ) (gate : G) (old : ServerState W) (next : G) (new : ServerState W) : Type 0 where
    pub slots : AreSlotsShown now gate old.adapter old.slots next new.adapter new.slots
    pub same : new ≡ record old { adapter = new.adapter; slots = new.slots }
