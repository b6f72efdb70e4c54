-- Wires that hold back what is written to them, and what a release does to them and to the peers that have them.
use Rattle.std.specs.Prelude.{ℕ, zero, suc, min, length, take, ◌-◌, ◌≡◌, ◌≢◌, ◌==◌, ◌++◌, ◌||◌, not, if◌then◌else◌, List, [], ◌∷◌, Bool, true, false, Option, Some, None, ⊤}
use Rattle.std.proofs.Common.{ap}
use Rattle.std.specs.Option.{option_map}
use Rattle.std.specs.Io.KnownBytes.{Appends, append_known}
use Rattle.enip_server.specs.declared.held_wire.HeldWire.{HeldWire}
use Rattle.enip_server.specs.declared.peer_io.PeerIo.{PeerIo}
use Rattle.enip_server.specs.declared.wire.ReadOutcome.{ReadOutcome}
use Rattle.enip_server.specs.declared.wire.ReadOutcome.TheVariants.{WouldBlock, Failed}
use Rattle.enip_server.specs.declared.wire_counts.WireCounts.{WireCounts}
use Rattle.enip_server.specs.PeerStates.{GoesOn}
use Rattle.enip_server.specs.Rounds.{ServerState}
use Rattle.enip_server.specs.Wires.{KnownCalls, one_more, after_read, size_taken, with_asked, with_shut}

-- What was written to a held wire is what was written to the wire inside, followed by what is held.
abbrev pub held_written : {W : Type 0} → (W → Option (List ℕ)) → HeldWire W → Option (List ℕ)
held_written written w = append_known (written w.wire) w.held

-- A held wire knows its calls. The bytes that it released are those that were written to the wire inside.
abbrev pub held_known : {W : Type 0} → (W → Option (List ℕ)) → HeldWire W → Option KnownCalls
held_known written w = Some (record { asked = w.asked; is_shut = w.is_shut; released = written w.wire })

-- A write to a held wire: as many of the bytes are held as there is capacity left for. It fails if the wire inside has.
abbrev pub size_held : {W : Type 0} → HeldWire W → List ℕ → ℕ
size_held w bytes = min (length bytes) (4096 - length w.held)

abbrev pub held_unless : Bool → ℕ → Option ℕ
held_unless false size = Some size
held_unless true size = None

-- A write that takes nothing would block.
abbrev pub would_block : Option ℕ → Bool
would_block None = false
would_block (Some zero) = true
would_block (Some (suc n)) = false

-- The state after a write of which this many bytes were taken.
abbrev pub after_hold : {W : Type 0} → Option ℕ → List ℕ → HeldWire W → HeldWire W
after_hold taken bytes w = record w {
  held = w.held ++ take (size_taken taken) bytes;
  was_deferred = w.was_deferred || would_block taken;
}

-- A read of a held wire that is given so many bytes to fill. If the wire inside has failed, so does the read. While bytes
-- are held it would block, and is deferred. Otherwise the wire inside is read.
pub record IsReadInside {W : Type 0} (known : W → Option KnownCalls) (counts : W → WireCounts) (size : ℕ)
    (old new : HeldWire W) (outcome : ReadOutcome) : Type 0 where
  pub failed : old.has_failed ≡ true → (outcome ≡ Failed) × (new ≡ old)
  pub deferred : old.has_failed ≡ false → old.held ≢ [] → (outcome ≡ WouldBlock) × (new ≡ record old { was_deferred = true })
  pub made : old.has_failed ≡ false → old.held ≡ [] → (new ≡ record old { wire = new.wire })
      × (counts new.wire ≡ after_read outcome (counts old.wire))
      × (known new.wire ≡ option_map (with_asked size) (known old.wire))

-- No read is made of the wire inside: it has failed, or bytes are held.
abbrev pub is_held_back : {W : Type 0} → HeldWire W → Bool
is_held_back w = w.has_failed || not (length w.held == 0)

-- The frame that waits in the wire inside, if a read would reach it once it is admitted.
abbrev pub held_waiting : {W : Type 0} → (W → Option (List ℕ)) → HeldWire W → Option (List ℕ)
held_waiting waiting w = if is_held_back w then None else waiting w.wire

-- The frame is admitted in the wire inside. What is held stays held.
abbrev pub held_admitted : {W : Type 0} → (W → W) → HeldWire W → HeldWire W
held_admitted admitted w = record w { wire = admitted w.wire }

-- If nothing is written to the wire inside by that, nothing is written to the held wire.
pub held_unwritten : {W : Type 0} (written : W → Option (List ℕ)) (admitted : W → W)
    (same : (w : W) → written (admitted w) ≡ written w) (w : HeldWire W)
    → held_written written (held_admitted admitted w) ≡ held_written written w
held_unwritten written admitted same w = ap (λ known. append_known known w.held) (same w.wire)

-- What is known of a wire after its writing side was shut down, if a shutdown waits for the release.
abbrev pub shut_if : Bool → Option KnownCalls → Option KnownCalls
shut_if false known = known
shut_if true known = option_map with_shut known

-- All that was held is written: no call of the wire inside failed or would have blocked. A shutdown that waits is made.
-- The peer is ready if one of its calls was deferred.
pub record IsEmptied {W : Type 0} (known : W → Option KnownCalls) (counts : W → WireCounts) (old new : HeldWire W)
    (ready : Bool) : Type 0 where
  pub through : GoesOn (counts old.wire) (counts new.wire)
  pub shut : known new.wire ≡ shut_if old.shut_waits (known old.wire)
  pub same : new ≡ record old { wire = new.wire; held = []; shut_waits = false; was_deferred = false }
  pub resumes : ready ≡ old.was_deferred

-- A write to the wire inside would have blocked, or it failed.
abbrev pub Stops : Bool → WireCounts → WireCounts → Type 0
Stops false old new = (new.waits ≡ one_more old.waits) × (new.ends ≡ old.ends)
Stops true old new = (new.waits ≡ old.waits) × (new.ends ≡ one_more old.ends)

-- Some of what was held is not written, and no shutdown is made. If a write failed, the peer is ready, so that it ends.
pub record IsStopped {W : Type 0} (known : W → Option KnownCalls) (counts : W → WireCounts) (old new : HeldWire W)
    (ready : Bool) : Type 0 where
  pub stops : Stops ready (counts old.wire) (counts new.wire)
  pub not_shut : known new.wire ≡ known old.wire
  pub same : new ≡ record old { wire = new.wire; held = new.held; has_failed = ready }

-- A wire is released: a front of what it holds is written to the wire inside. Nothing is done if that has failed before.
pub record IsReleased {W : Type 0} (left written : W → Option (List ℕ)) (known : W → Option KnownCalls)
    (counts : W → WireCounts) (old new : HeldWire W) (ready : Bool) : Type 0 where
  pub gone : List ℕ
  pub front : old.held ≡ gone ++ new.held
  pub sent : Appends (written old.wire) (written new.wire) gone
  pub unread : left new.wire ≡ left old.wire
  pub reads : (counts new.wire).reads ≡ (counts old.wire).reads
  pub failed : old.has_failed ≡ true → (new ≡ old) × (ready ≡ false)
  pub all : old.has_failed ≡ false → new.held ≡ [] → IsEmptied known counts old new ready
  pub rest : old.has_failed ≡ false → new.held ≢ [] → IsStopped known counts old new ready

-- The wire of a peer is released. The peer stays ready if it was.
pub record IsPeerReleased {W : Type 0} (left written : W → Option (List ℕ)) (known : W → Option KnownCalls)
    (counts : W → WireCounts) (io after : PeerIo (HeldWire W)) : Type 0 where
  pub ready : Bool
  pub wire : IsReleased left written known counts io.wire after.wire ready
  pub same : after ≡ record io { wire = after.wire; ready = ready || io.ready }

-- A slot in a release. A free slot stays free, and no peer is ended.
abbrev pub IsSlotReleased : {W : Type 0} → (W → Option (List ℕ)) → (W → Option (List ℕ)) → (W → Option KnownCalls)
    → (W → WireCounts) → Option (PeerIo (HeldWire W)) → Option (PeerIo (HeldWire W)) → Type 0
IsSlotReleased left written known counts None slot = slot ≡ None
IsSlotReleased left written known counts (Some io) None = ⊥
IsSlotReleased left written known counts (Some io) (Some after) = IsPeerReleased left written known counts io after

-- The slots in a release.
abbrev pub AreSlotsReleased : {W : Type 0} → (W → Option (List ℕ)) → (W → Option (List ℕ)) → (W → Option KnownCalls)
    → (W → WireCounts) → List (Option (PeerIo (HeldWire W))) → List (Option (PeerIo (HeldWire W))) → Type 0
AreSlotsReleased left written known counts [] [] = ⊤
AreSlotsReleased left written known counts [] (slot ∷ places) = ⊥
AreSlotsReleased left written known counts (io ∷ slots) [] = ⊥
AreSlotsReleased left written known counts (io ∷ slots) (slot ∷ places) =
    IsSlotReleased left written known counts io slot × AreSlotsReleased left written known counts slots places

-- A release of all peers: their wires are released, and nothing else changes.
pub record AreReleased {W : Type 0} (left written : W → Option (List ℕ)) (known : W → Option KnownCalls)
    (counts : W → WireCounts) (old new : ServerState (HeldWire W)) : Type 0 where
  pub slots : AreSlotsReleased left written known counts old.slots new.slots
  pub same : new ≡ record old { slots = new.slots }
