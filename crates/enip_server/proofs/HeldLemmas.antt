-- Rounds over wires that hold back what is written to them, and releases.
use Rattle.std.proofs.Common.{◌≡◌, ◌≢◌, ◌<◌, ◌≤◌, ℕ, zero, suc, List, [], ◌∷◌, slice_get, Bool, true, false}
use Rattle.std.proofs.Common.{ltb, ltb-true, ltb-false, Option, Some, None, refl, sym, ap, subst, ◌∙◌}
use Rattle.std.proofs.KnownBytes.{append_known-moved}
use Rattle.std.specs.Option.{option_map}
use Rattle.cip_objects.specs.OwnRequests.{Asked}
use Rattle.cip_owner.specs.Replies.{Reply}
use Rattle.enip_adapter.specs.Calls.{AdapterState, after_call}
use Rattle.enip_adapter.specs.Calls.Call.{Ticks}
use Rattle.enip_server.specs.declared.held_wire.HeldWire.{HeldWire}
use Rattle.enip_server.specs.declared.peer_io.PeerIo.{PeerIo}
use Rattle.enip_server.specs.declared.wire_counts.WireCounts.{WireCounts}
use Rattle.enip_server.specs.Wires.{KnownCalls, with_asked, with_shut}
use Rattle.enip_server.specs.PeerStates.{PeerState, peer_state_of, AreFed, IsFetched, IsServed, IsDiscarded, IsTurn}
use Rattle.enip_server.specs.PeerStates.AreFed.{None_fed, One_more_fed}
use Rattle.enip_server.specs.Rounds.{idle_of, ServerState, IsServedPeer, IsServedAt, IsLeft, IsSlotServed}
use Rattle.enip_server.specs.Rounds.{AreSlotsServed, IsRound, timeout_at}
use Rattle.enip_server.specs.Held.{held_known, held_written, IsPeerReleased, IsSlotReleased, AreSlotsReleased, AreReleased}
use Rattle.enip_server.specs.Runs.{IsStill, IsStillAt, AreStill, IsStep}
use Rattle.enip_server.specs.Runs.IsStep.{Releases}
use Rattle.enip_server.proofs.TurnMoves.{not_out}

-- ---- what is released does not change in a round

-- The bytes that a wire released.
abbrev released : Option KnownCalls → Option (Option (List ℕ))
released known = option_map (λ k. k.released) known

asked_released : (size : ℕ) (known : Option KnownCalls) → released (option_map (with_asked size) known) ≡ released known
asked_released size None = refl
asked_released size (Some k) = refl

shut_released : (known : Option KnownCalls) → released (option_map with_shut known) ≡ released known
shut_released None = refl
shut_released (Some k) = refl

fetched_released : (now : ℕ) (old new : PeerState) → IsFetched now old new → (inbox : List ℕ) → old.inbox ≡ inbox
    → released new.known ≡ released old.known
fetched_released now old new f [] is = ap released (f.known is) ∙ asked_released 4096 old.known
fetched_released now old new f (n ∷ ns) is =
    ap released (f.known_still (subst (λ xs. xs ≢ []) (sym is) (not_out n ns)))

module _ {O : Type 0} (answer : O → Asked → Option Reply) (after : O → Asked → O) (now peer : ℕ) where
  fed_released : (first : O) (old : PeerState) (last : O) (new : PeerState) → AreFed answer after now peer first old last new
      → released new.known ≡ released old.known
  fed_released first old last new None_fed = refl
  fed_released first old last new (One_more_fed {owner = owner} {d = d} fed out served flushed) =
      ap released flushed.known ∙ fed_released first old owner d fed

  module _ (first : O) (old : PeerState) (last : O) (new : PeerState) (t : IsTurn answer after now peer first old last new)
    where
      out_released : t.between.outbox ≡ [] → (closed : Option ℕ) → t.between.closed ≡ closed
          → released new.known ≡ released t.between.known
      out_released out None served =
          let s : IsServed answer after now peer first t.between last new = t.served out served in
          fed_released first s.between last new s.fed
          ∙ fetched_released now t.between s.between s.fetched t.between.inbox refl
      out_released out (Some moment) shut =
          let closed : t.between.closed ≢ None = λ none. cc in
          let d : IsDiscarded t.between new = (t.discarded out closed).0 in
          ap released d.known ∙ asked_released 4096 (option_map with_shut t.between.known) ∙ shut_released t.between.known

      rest_released : (outbox : List ℕ) → t.between.outbox ≡ outbox → released new.known ≡ released t.between.known
      rest_released [] out = out_released out t.between.closed refl
      rest_released (n ∷ ns) waits =
          ap (λ d. released d.known) (t.waits (subst (λ xs. xs ≢ []) (sym waits) (not_out n ns))).0

      turn_released : released new.known ≡ released old.known
      turn_released = rest_released t.between.outbox refl ∙ ap released t.flushed.known

module _ {W O : Type 0} (left written : W → Option (List ℕ)) (known : W → Option KnownCalls) (counts : W → WireCounts)
    (answer : O → Asked → Option Reply) (next : O → Asked → O) (now idle_timeout : ℕ) where
  ready_released : (first : O) (a : AdapterState) (io : PeerIo W) (last : O) (b : AdapterState) (after : PeerIo W)
      (goes_on : Bool) → IsServedPeer left written known counts answer next now idle_timeout first a io last b after goes_on
      → now < timeout_at idle_timeout io → (ready : Bool) → io.ready ≡ ready
      → released (known after.wire) ≡ released (known io.wire)
  ready_released first a io last b after goes_on s early false is =
      ap (λ l. released (known l.wire)) (s.waits early is).0.1
  ready_released first a io last b after goes_on s early true is =
      turn_released answer next now io.peer first (peer_state_of left written known counts a io)
      last (peer_state_of left written known counts b after) (s.ready early is).turn

  served_released : (first : O) (a : AdapterState) (io : PeerIo W) (last : O) (b : AdapterState) (after : PeerIo W)
      (goes_on : Bool) → IsServedPeer left written known counts answer next now idle_timeout first a io last b after goes_on
      → (early : Bool) → ltb now (timeout_at idle_timeout io) ≡ early
      → released (known after.wire) ≡ released (known io.wire)
  served_released first a io last b after goes_on s true is =
      ready_released first a io last b after goes_on s (ltb-true now (timeout_at idle_timeout io) is) io.ready refl
  served_released first a io last b after goes_on s false is =
      let late : timeout_at idle_timeout io ≤ now = ltb-false now (timeout_at idle_timeout io) is in
      ap (λ l. released (known l.wire)) (s.silent late).0.1

  left_released : (a : AdapterState) (io : PeerIo W) (goes_on : Bool) (b : AdapterState) (slot : Option (PeerIo W))
      → IsLeft a io goes_on b slot → (after : PeerIo W) → slot ≡ Some after → after ≡ io
  left_released a io true b slot is after stays = let there : slot ≡ Some io = is.1 in cc
  left_released a io false b slot is after stays = let free : slot ≡ None = is.1 in cc

  at_released : (first : O) (a : AdapterState) (io : PeerIo W) (last : O) (b : AdapterState) (slot : Option (PeerIo W))
      → IsServedAt left written known counts answer next now idle_timeout first a io last b slot → (after : PeerIo W)
      → slot ≡ Some after → released (known after.wire) ≡ released (known io.wire)
  at_released first a io last b slot s after stays =
      ap (λ l. released (known l.wire)) (left_released s.adapter s.after s.goes_on b slot s.stays after stays)
      ∙ served_released first a io last s.adapter s.after s.goes_on s.served (ltb now (timeout_at idle_timeout io)) refl

  slot_released : (first : O) (a : AdapterState) (old : Option (PeerIo W)) (last : O) (b : AdapterState)
      (slot : Option (PeerIo W)) → IsSlotServed left written known counts answer next now idle_timeout first a old last b slot
      → (io after : PeerIo W) → old ≡ Some io → slot ≡ Some after
      → released (known after.wire) ≡ released (known io.wire)
  slot_released first a old last b slot is io after there stays =
      at_released first a io last b slot
      (subst (λ o. IsSlotServed left written known counts answer next now idle_timeout first a o last b slot) there is)
      after stays

  slots_released : (first : O) (a : AdapterState) (slots : List (Option (PeerIo W))) (last : O) (b : AdapterState)
      (places : List (Option (PeerIo W)))
      → AreSlotsServed left written known counts answer next now idle_timeout first a slots last b places
      → (slot : ℕ) (io after : PeerIo W) → slice_get slots slot ≡ Some (Some io)
      → slice_get places slot ≡ Some (Some after) → released (known after.wire) ≡ released (known io.wire)
  slots_released first a [] last b [] is slot io after there stays = cc
  slots_released first a [] last b (place ∷ places) is slot io after there stays = absurd is
  slots_released first a (line ∷ slots) last b [] is slot io after there stays = absurd is
  slots_released first a (line ∷ slots) last b (place ∷ places) is zero io after there stays =
      let old : line ≡ Some io = cc in
      let new : place ≡ Some after = cc in
      slot_released first a line is.1 is.0 place is.2 io after old new
  slots_released first a (line ∷ slots) last b (place ∷ places) is (suc slot) io after there stays =
      slots_released is.1 is.0 slots last b places is.3 slot io after there stays

-- as the law states it, for any wire
pub round_released : {W O : Type 0} (left written : W → Option (List ℕ)) (known : W → Option KnownCalls)
    (counts : W → WireCounts) (answer : O → Asked → Option Reply) (next : O → Asked → O) (now slot : ℕ)
    (first last : O) (old new : ServerState W) (io after : PeerIo W)
    → IsRound left written known counts answer next now first old last new → slice_get old.slots slot ≡ Some (Some io)
    → slice_get new.slots slot ≡ Some (Some after) → released (known after.wire) ≡ released (known io.wire)
round_released left written known counts answer next now slot first last old new io after round there stays =
    slots_released left written known counts answer next now (idle_of old) first (after_call old.adapter (Ticks now))
    old.slots last new.adapter new.slots round.places slot io after there stays

pub same_released : {W : Type 0} (written : W → Option (List ℕ)) (first last : HeldWire W)
    → released (held_known written last) ≡ released (held_known written first)
    → written last.wire ≡ written first.wire
same_released written first last same = cc

-- ---- a release

module _ {W : Type 0} (left written : W → Option (List ℕ)) (known : W → Option KnownCalls) (counts : W → WireCounts) where
  abbrev held_left : HeldWire W → Option (List ℕ)
  held_left w = left w.wire

  peer_still : (io after : PeerIo (HeldWire W)) → IsPeerReleased left written known counts io after
      → IsStill held_left (held_written written) io after
  peer_still io after r = record {
    unread = r.wire.unread;
    kept = append_known-moved (written io.wire.wire) (written after.wire.wire) r.wire.gone after.wire.held io.wire.held
        r.wire.sent r.wire.front;
    same = r.same ∙ sym (ap (λ (l : PeerIo (HeldWire W)). record io { wire = after.wire; ready = l.ready }) r.same);
  }

  slot_still : (slot place : Option (PeerIo (HeldWire W))) → IsSlotReleased left written known counts slot place
      → IsStillAt held_left (held_written written) slot place
  slot_still None place is = is
  slot_still (Some io) None is = is
  slot_still (Some io) (Some after) is = peer_still io after is

  slots_still : (slots places : List (Option (PeerIo (HeldWire W)))) → AreSlotsReleased left written known counts slots places
      → AreStill held_left (held_written written) slots places
  slots_still [] [] is = tt
  slots_still [] (place ∷ places) is = is
  slots_still (slot ∷ slots) [] is = is
  slots_still (slot ∷ slots) (place ∷ places) is = (slot_still slot place is.0, slots_still slots places is.1)

  -- as the law states it
  pub release_is_step : {O : Type 0} (held_known : HeldWire W → Option KnownCalls) (held_counts : HeldWire W → WireCounts)
      (answer : O → Asked → Option Reply) (next : O → Asked → O) (old new : ServerState (HeldWire W))
      → AreReleased left written known counts old new
      → IsStep held_left (held_written written) held_known held_counts answer next old new
  release_is_step held_known held_counts answer next old new r =
      Releases (slots_still old.slots new.slots r.slots) r.same
