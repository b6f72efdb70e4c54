-- Frames that are admitted: what the calls of `Peers` do not lose, an admission does not lose.
use Rattle.std.proofs.Common.{◌≡◌, ◌||◌, ◌∙◌, ℕ, List, [], ◌∷◌, Bool, true, false, Option, Some, None, refl, sym, ap, subst}
use Rattle.std.specs.Io.KnownBytes.{Keeps}
use Rattle.cip_objects.specs.OwnRequests.{Asked}
use Rattle.cip_owner.specs.Replies.{Reply}
use Rattle.enip_adapter.specs.Calls.{AdapterState}
use Rattle.enip_server.specs.declared.peer_io.PeerIo.{PeerIo}
use Rattle.enip_server.specs.declared.wire_counts.WireCounts.{WireCounts}
use Rattle.enip_server.specs.Admissions.{IsPieceShown, IsSlotShown, AreSlotsShown, AreShown, frame_of_peer, if_admitted}
use Rattle.enip_server.specs.Rounds.{ServerState}
use Rattle.enip_server.specs.Runs.{IsStill, IsStillAt, AreStill, IsRun}
use Rattle.enip_server.specs.Runs.IsRun.{Still, Goes_on}
use Rattle.enip_server.specs.Runs.IsStep.{Releases, Takes_time}
use Rattle.enip_server.specs.Wires.{KnownCalls}

keeps_same : (known : Option (List ℕ)) → Keeps known known
keeps_same None = tt
keeps_same (Some xs) = refl

-- Wires that wait for a gate, from which an admission reads nothing, and to which it writes nothing.
module _ {W G : Type 0} (left written : W → Option (List ℕ)) (waiting : W → Option (List ℕ)) (admitted_wire : W → W)
    (unread : (w : W) → left (admitted_wire w) ≡ left w) (unwritten : (w : W) → written (admitted_wire w) ≡ written w)
    (shows : G → ℕ → W → Asked → Bool → Bool → G → Type 0) (now : ℕ) where
  peer_still : (admitted : Bool) (io : PeerIo W) → IsStill left written io (if_admitted admitted_wire admitted io)
  peer_still false io = record { unread = refl; kept = keeps_same (written io.wire); same = refl }
  peer_still true io = record {
    unread = unread io.wire;
    kept = subst (Keeps (written io.wire)) (sym (unwritten io.wire)) (keeps_same (written io.wire));
    same = refl;
  }

  slot_still : (gate : G) (a : AdapterState) (io : Option (PeerIo W)) (next : G) (b : AdapterState)
      (slot : Option (PeerIo W)) → IsSlotShown waiting admitted_wire shows now gate a io next b slot
      → IsStillAt left written io slot
  slot_still gate a None next b slot (same, still, free) = free
  slot_still gate a (Some io) next b slot (admitted, shown, is) =
      subst (IsStillAt left written (Some io)) (sym is) (peer_still admitted io)

  slots_still : (gate : G) (a : AdapterState) (slots : List (Option (PeerIo W))) (next : G) (b : AdapterState)
      (places : List (Option (PeerIo W))) → AreSlotsShown waiting admitted_wire shows now gate a slots next b places
      → AreStill left written slots places
  slots_still gate a [] next b [] is = tt
  slots_still gate a [] next b (slot ∷ places) is = absurd is
  slots_still gate a (io ∷ slots) next b [] is = absurd is
  slots_still gate a (io ∷ slots) next b (slot ∷ places) (between, mid, first, others) =
      (slot_still gate a io between mid slot first, slots_still between mid slots next b places others)

  module _ {O : Type 0} (known : W → Option KnownCalls) (counts : W → WireCounts) (answer : O → Asked → Option Reply)
      (after : O → Asked → O) (start p : ServerState W) where
    -- calls that lead to this adapter, with the same slots
    abbrev RunTo : AdapterState → Type 0
    RunTo a = IsRun left written known counts answer after start (record p { adapter = a })

    piece_run : (gate : G) (a : AdapterState) (io : PeerIo W) (piece : Option (List ℕ)) (admitted : Bool) (next : G)
        (b : AdapterState) → IsPieceShown waiting admitted_wire shows now gate a io piece admitted next b → RunTo a → RunTo b
    piece_run gate a io None admitted next b (waits, same, still) run = subst RunTo (sym still) run
    piece_run gate a io (Some piece) admitted next b (decided, timed) run =
        Goes_on run (Takes_time now (ap (λ (x : AdapterState). record p { adapter = x }) timed))

    slot_run : (gate : G) (a : AdapterState) (io : Option (PeerIo W)) (next : G) (b : AdapterState)
        (slot : Option (PeerIo W)) → IsSlotShown waiting admitted_wire shows now gate a io next b slot → RunTo a → RunTo b
    slot_run gate a None next b slot (same, still, free) run = subst RunTo (sym still) run
    slot_run gate a (Some io) next b slot (admitted, shown, is) run =
        piece_run gate a io (frame_of_peer waiting io) admitted next b shown run

    slots_run : (gate : G) (a : AdapterState) (slots : List (Option (PeerIo W))) (next : G) (b : AdapterState)
        (places : List (Option (PeerIo W))) → AreSlotsShown waiting admitted_wire shows now gate a slots next b places
        → RunTo a → RunTo b
    slots_run gate a [] next b [] (same, still) run = subst RunTo (sym still) run
    slots_run gate a [] next b (slot ∷ places) is run = absurd is
    slots_run gate a (io ∷ slots) next b [] is run = absurd is
    slots_run gate a (io ∷ slots) next b (slot ∷ places) (between, mid, first, others) run =
        slots_run between mid slots next b places others (slot_run gate a io between mid slot first run)

-- one slot, and then the others
pub slots_more : {W G : Type 0} (waiting : W → Option (List ℕ)) (admitted_wire : W → W)
    (shows : G → ℕ → W → Asked → Bool → Bool → G → Type 0) (now : ℕ) (gate between next : G) (a mid b : AdapterState)
    (slots : List (Option (PeerIo W))) (io : Option (PeerIo W)) (rest : List (Option (PeerIo W))) (slot : Option (PeerIo W))
    (places : List (Option (PeerIo W))) → slots ≡ io ∷ rest
    → IsSlotShown waiting admitted_wire shows now gate a io between mid slot
    → AreSlotsShown waiting admitted_wire shows now between mid rest next b places
    → AreSlotsShown waiting admitted_wire shows now gate a slots next b (slot ∷ places)
slots_more waiting admitted_wire shows now gate between next a mid b slots io rest slot places is first others =
    subst (λ l. AreSlotsShown waiting admitted_wire shows now gate a l next b (slot ∷ places)) (sym is)
    (between, mid, first, others)

pub ready_others : (ready first others : Bool) → ready ≡ true → ready ≡ others → ready ≡ (first || others)
ready_others ready true others is same = is
ready_others ready false others is same = same

pub ready_first : (ready first others all : Bool) → all ≡ false → all ≡ others → ready ≡ first → ready ≡ (first || others)
ready_first ready true others all none same is = is
ready_first ready false others all none same is = is ∙ sym none ∙ same

-- as the law states it
pub admission_runs : {W G O : Type 0} (left written : W → Option (List ℕ)) (known : W → Option KnownCalls)
    (counts : W → WireCounts) (waiting : W → Option (List ℕ)) (admitted_wire : W → W)
    (unread : (w : W) → left (admitted_wire w) ≡ left w) (unwritten : (w : W) → written (admitted_wire w) ≡ written w)
    (shows : G → ℕ → W → Asked → Bool → Bool → G → Type 0) (answer : O → Asked → Option Reply)
    (after : O → Asked → O) (now : ℕ) (gate next : G) (old new : ServerState W)
    → AreShown waiting admitted_wire shows now gate old next new
    → IsRun left written known counts answer after old new
admission_runs left written known counts waiting admitted_wire unread unwritten shows answer after now gate next old new is =
    Goes_on
    (slots_run left written waiting admitted_wire unread unwritten shows now known counts answer after old old gate
    old.adapter old.slots next new.adapter new.slots is.slots Still)
    (Releases (slots_still left written waiting admitted_wire unread unwritten shows now gate old.adapter old.slots next
    new.adapter new.slots is.slots) is.same)
