-- Frames that a guest admits at the end of a round.
use Rattle.std.proofs.Common.{◌≡◌, ◌+◌, ℕ, zero, suc, List, [], ◌∷◌, slice_get, Bool, true, false, if◌then◌else◌, Option, Some, None}
use Rattle.std.proofs.Common.{refl, sym, ap, subst, ◌∙◌}
use Rattle.cip_ledger.specs.Device.{Device}
use Rattle.cip_objects.specs.OwnRequests.{Asked}
use Rattle.enip_adapter.specs.Calls.{AdapterState, after_call}
use Rattle.enip_adapter.specs.Calls.Call.{Ticks}
use Rattle.enip_adapter.specs.Runs.{after_calls}
use Rattle.enip_adapter.specs.Turn.Event.{At}
use Rattle.enip_adapter.proofs.DeviceLemmas.{step-ends}
use Rattle.enip_server.specs.declared.held_wire.HeldWire.{HeldWire}
use Rattle.enip_server.specs.declared.peer_io.PeerIo.{PeerIo}
use Rattle.enip_server.specs.Admissions.{AreShown, AreSlotsShown, IsPieceShown, IsSlotShown, frame_of_peer, if_admitted}
use Rattle.enip_server.specs.Held.{held_admitted, held_waiting}
use Rattle.enip_server.specs.Rounds.{ServerState, ended_in, has_ended}
use Rattle.enip_server.proofs.ApartLemmas.{AreOf, IsOf}
use Rattle.kept_server.specs.Rounds.{AreAdmittedSlots, IsAdmission, IsAdmittedPeer, IsAdmittedSlot, ticks}

-- the device does not change with the time
pub ticked_device : (times now : ℕ) (a : AdapterState)
    → (after_calls a (ticks times now)).state.shared.objects ≡ a.state.shared.objects
ticked_device zero now a = refl
ticked_device (suc n) now a =
    ticked_device n now (after_call a (Ticks now)) ∙ step-ends a.state (At now)

module _ {W : Type 0} (left written : W → Option (List ℕ)) where
  same_peer : (io : PeerIo (HeldWire W)) → IsAdmittedPeer left written io io
  same_peer io = record { unread = refl; unwritten = refl; same = refl }

  same_slot : (slot : Option (PeerIo (HeldWire W))) → IsAdmittedSlot left written slot slot
  same_slot None = refl
  same_slot (Some io) = same_peer io

  same_slots : (slots : List (Option (PeerIo (HeldWire W)))) → AreAdmittedSlots left written slots slots
  same_slots [] = tt
  same_slots (slot ∷ slots) = (same_slot slot, same_slots slots)

  -- no frame is admitted
  pub nothing_admitted : (now : ℕ) (p : ServerState (HeldWire W)) → IsAdmission left written now p p
  nothing_admitted now p = record { times = 0; adapter = refl; slots = same_slots p.slots; same = refl }

  -- whoever is in a slot afterwards was there before
  pub admitted_back : (slots places : List (Option (PeerIo (HeldWire W)))) → AreAdmittedSlots left written slots places
      → (slot : ℕ) (after : PeerIo (HeldWire W)) → slice_get places slot ≡ Some (Some after)
      → (io : PeerIo (HeldWire W)) × (slice_get slots slot ≡ Some (Some io)) × (written after.wire.wire ≡ written io.wire.wire)
  admitted_back [] [] is slot after there = cc
  admitted_back [] (place ∷ places) is slot after there = absurd is
  admitted_back (io ∷ slots) [] is slot after there = absurd is
  admitted_back (None ∷ slots) (place ∷ places) is zero after there = let free : place ≡ None = is.0 in cc
  admitted_back (Some io ∷ slots) (None ∷ places) is zero after there = absurd is.0
  admitted_back (Some io ∷ slots) (Some place ∷ places) is zero after there =
      let same : place ≡ after = cc in
      let unwritten : written place.wire.wire ≡ written io.wire.wire = is.0.unwritten in
      (io, refl, subst (λ (l : PeerIo (HeldWire W)). written l.wire.wire ≡ written io.wire.wire) same unwritten)
  admitted_back (io ∷ slots) (place ∷ places) is (suc slot) after there = admitted_back slots places is.1 slot after there

  -- nobody ends
  same_ended : (first slot place : Option (PeerIo (HeldWire W))) → IsAdmittedSlot left written slot place
      → has_ended first place ≡ has_ended first slot
  same_ended first None place is = ap (has_ended first) is
  same_ended first (Some found) None is = absurd is
  same_ended None (Some found) (Some after) is = refl
  same_ended (Some io) (Some found) (Some after) is = refl

  pub admitted_ended : (before slots places : List (Option (PeerIo (HeldWire W)))) → AreAdmittedSlots left written slots places
      → ended_in before places ≡ ended_in before slots
  admitted_ended before [] [] is = refl
  admitted_ended before [] (place ∷ places) is = absurd is
  admitted_ended before (slot ∷ slots) [] is = absurd is
  admitted_ended [] (slot ∷ slots) (place ∷ places) is = refl
  admitted_ended (first ∷ before) (slot ∷ slots) (place ∷ places) is =
      ap (λ (b : Bool). (if b then 1 else 0) + ended_in before places) (same_ended first slot place is.0)
      ∙ ap (λ (n : ℕ). (if has_ended first slot then 1 else 0) + n) (admitted_ended before slots places is.1)

  -- the same peers
  same_of : (first slot place : Option (PeerIo (HeldWire W))) → IsOf first slot → IsAdmittedSlot left written slot place
      → IsOf first place
  same_of first None place of is = subst (IsOf first) (sym is) of
  same_of first (Some io) None of is = absurd is
  same_of None (Some io) (Some after) of is = absurd of
  same_of (Some found) (Some io) (Some after) of is =
      ap (λ (l : PeerIo (HeldWire W)). l.peer) is.same ∙ of

  pub admitted_of : (before slots places : List (Option (PeerIo (HeldWire W)))) → AreOf before slots
      → AreAdmittedSlots left written slots places → AreOf before places
  admitted_of [] [] [] of is = tt
  admitted_of before [] (place ∷ places) of is = absurd is
  admitted_of before (slot ∷ slots) [] of is = absurd is
  admitted_of [] (slot ∷ slots) (place ∷ places) of is = absurd of
  admitted_of (first ∷ before) [] [] of is = absurd of
  admitted_of (first ∷ before) (slot ∷ slots) (place ∷ places) of is =
      (same_of first slot place of.0 is.0, admitted_of before slots places of.1 is.1)

-- ---- what `Peers::admit_frames` does to wires that hold back what is written to them

module _ {W G : Type 0} (left written : W → Option (List ℕ)) (waiting : W → Option (List ℕ)) (admitted_wire : W → W)
    (unread : (w : W) → left (admitted_wire w) ≡ left w) (unwritten : (w : W) → written (admitted_wire w) ≡ written w)
    (shows : G → ℕ → HeldWire W → Asked → Bool → Bool → G → Type 0) (now : ℕ) where
  abbrev held_frames : HeldWire W → Option (List ℕ)
  held_frames = held_waiting waiting

  abbrev held_after : HeldWire W → HeldWire W
  held_after = held_admitted admitted_wire

  shown_peer : (admitted : Bool) (io : PeerIo (HeldWire W))
      → IsAdmittedPeer left written io (if_admitted held_after admitted io)
  shown_peer false io = record { unread = refl; unwritten = refl; same = refl }
  shown_peer true io = record { unread = unread io.wire.wire; unwritten = unwritten io.wire.wire; same = refl }

  shown_slot : (gate : G) (a : AdapterState) (io : Option (PeerIo (HeldWire W))) (next : G) (b : AdapterState)
      (slot : Option (PeerIo (HeldWire W))) → IsSlotShown held_frames held_after shows now gate a io next b slot
      → IsAdmittedSlot left written io slot
  shown_slot gate a None next b slot (same, still, free) = free
  shown_slot gate a (Some io) next b slot (admitted, shown, is) =
      subst (IsAdmittedSlot left written (Some io)) (sym is) (shown_peer admitted io)

  shown_slots : (gate : G) (a : AdapterState) (slots : List (Option (PeerIo (HeldWire W)))) (next : G) (b : AdapterState)
      (places : List (Option (PeerIo (HeldWire W))))
      → AreSlotsShown held_frames held_after shows now gate a slots next b places → AreAdmittedSlots left written slots places
  shown_slots gate a [] next b [] is = tt
  shown_slots gate a [] next b (slot ∷ places) is = absurd is
  shown_slots gate a (io ∷ slots) next b [] is = absurd is
  shown_slots gate a (io ∷ slots) next b (slot ∷ places) (between, mid, first, others) =
      (shown_slot gate a io between mid slot first, shown_slots between mid slots next b places others)

  -- the adapter takes the time into account
  abbrev AreTicks : AdapterState → AdapterState → Type 0
  AreTicks a b = (times : ℕ) × (b ≡ after_calls a (ticks times now))

  ticks_piece : (gate : G) (a : AdapterState) (io : PeerIo (HeldWire W)) (piece : Option (List ℕ)) (admitted : Bool) (next : G)
      (b c : AdapterState) → IsPieceShown held_frames held_after shows now gate a io piece admitted next b → AreTicks b c
      → AreTicks a c
  ticks_piece gate a io None admitted next b c (waits, same, still) rest = subst (λ (x : AdapterState). AreTicks x c) still rest
  ticks_piece gate a io (Some piece) admitted next b c (decided, timed) rest =
      (suc rest.0, rest.1 ∙ ap (λ (x : AdapterState). after_calls x (ticks rest.0 now)) timed)

  ticks_slot : (gate : G) (a : AdapterState) (io : Option (PeerIo (HeldWire W))) (next : G) (b c : AdapterState)
      (slot : Option (PeerIo (HeldWire W))) → IsSlotShown held_frames held_after shows now gate a io next b slot
      → AreTicks b c → AreTicks a c
  ticks_slot gate a None next b c slot (same, still, free) rest = subst (λ (x : AdapterState). AreTicks x c) still rest
  ticks_slot gate a (Some io) next b c slot (admitted, shown, is) rest =
      ticks_piece gate a io (frame_of_peer held_frames io) admitted next b c shown rest

  ticks_slots : (gate : G) (a : AdapterState) (slots : List (Option (PeerIo (HeldWire W)))) (next : G) (b : AdapterState)
      (places : List (Option (PeerIo (HeldWire W))))
      → AreSlotsShown held_frames held_after shows now gate a slots next b places → AreTicks a b
  ticks_slots gate a [] next b [] (same, still) = (0, still)
  ticks_slots gate a [] next b (slot ∷ places) is = absurd is
  ticks_slots gate a (io ∷ slots) next b [] is = absurd is
  ticks_slots gate a (io ∷ slots) next b (slot ∷ places) (between, mid, first, others) =
      ticks_slot gate a io between mid b slot first (ticks_slots between mid slots next b places others)

  pub shown_admits : (gate : G) (old : ServerState (HeldWire W)) (next : G) (new : ServerState (HeldWire W))
      → AreShown held_frames held_after shows now gate old next new → IsAdmission left written now old new
  shown_admits gate old next new is =
      let timed : AreTicks old.adapter new.adapter
      = ticks_slots gate old.adapter old.slots next new.adapter new.slots is.slots in
      record {
        times = timed.0;
        adapter = timed.1;
        slots = shown_slots gate old.adapter old.slots next new.adapter new.slots is.slots;
        same = is.same;
      }
