-- What the owner of the device is asked in a round.
use Rattle.std.proofs.Common.{◌≡◌, ◌<◌, ◌≤◌, ℕ, List, [], ◌∷◌, ◌++◌, Bool, true, false, ltb, ltb-true, ltb-false}
use Rattle.std.proofs.Common.{Option, Some, None, refl, sym, ap, ◌∙◌}
use Rattle.cip_objects.specs.OwnRequests.{Asked}
use Rattle.cip_owner.specs.Replies.{Reply}
use Rattle.enip_adapter.specs.Asks.{asks_of_call, owner_after}
use Rattle.enip_adapter.specs.Calls.{AdapterState, Call, after_call}
use Rattle.enip_adapter.specs.Calls.Call.{Ends_peer, Ticks}
use Rattle.enip_adapter.specs.Runs.{after_calls}
use Rattle.enip_server.specs.declared.peer_io.PeerIo.{PeerIo}
use Rattle.enip_server.specs.declared.wire_counts.WireCounts.{WireCounts}
use Rattle.enip_server.specs.Wires.{KnownCalls}
use Rattle.enip_server.specs.PeerStates.{peer_state_of}
use Rattle.enip_server.specs.Transfers.{AreAsked}
use Rattle.enip_server.specs.Rounds.{idle_of, ServerState, TakesTurn, IsServedPeer, IsLeft, IsSlotServed}
use Rattle.enip_server.specs.Rounds.{AreSlotsServed, IsRound, timeout_at}
use Rattle.enip_server.proofs.AskMoves.{owner_then}
use Rattle.enip_server.proofs.TransferLemmas.{after_calls-append}
use Rattle.enip_server.proofs.TurnMoves.{TurnBy, turn_moves}

module _ {O : Type 0} (answer : O → Asked → Option Reply) (next : O → Asked → O) where
  asked_not : (first : O) (a : AdapterState) (last : O) (b : AdapterState) → b ≡ a → last ≡ first
      → AreAsked answer next first a last b
  asked_not first a last b at same = record { calls = []; adapter = at; owner = same }

  -- one call that asks nothing
  asked_nothing : (owner : O) (a b : AdapterState) (call : Call) → asks_of_call a call ≡ [] → b ≡ after_call a call
      → AreAsked answer next owner a owner b
  asked_nothing owner a b call none at = record {
    calls = call ∷ [];
    adapter = at;
    owner = sym (ap (owner_after answer next owner) none);
  }

  asked_then : (first : O) (a : AdapterState) (owner : O) (b : AdapterState) (last : O) (c : AdapterState)
      → AreAsked answer next first a owner b → AreAsked answer next owner b last c → AreAsked answer next first a last c
  asked_then first a owner b last c m n = record {
    calls = m.calls ++ n.calls;
    adapter = n.adapter ∙ ap (λ x. after_calls x n.calls) m.adapter ∙ sym (after_calls-append a m.calls n.calls);
    owner = owner_then answer next first owner last a b m.calls n.calls m.owner m.adapter n.owner;
  }

module _ {W O : Type 0} (left written : W → Option (List ℕ)) (known : W → Option KnownCalls) (counts : W → WireCounts)
    (answer : O → Asked → Option Reply) (next : O → Asked → O) (now idle_timeout : ℕ) where
  asked_turn : (first : O) (a : AdapterState) (io : PeerIo W) (last : O) (b : AdapterState) (after : PeerIo W)
      (goes_on : Bool) → TakesTurn left written known counts answer next now first a io last b after goes_on
      → AreAsked answer next first a last b
  asked_turn first a io last b after goes_on t =
      let by : TurnBy answer next now io.peer first (peer_state_of left written known counts a io)
      last (peer_state_of left written known counts b after)
      = turn_moves answer next now io.peer first (peer_state_of left written known counts a io)
      last (peer_state_of left written known counts b after) t.turn in
      record { calls = by.moves.calls; adapter = by.moves.moves.adapter; owner = by.owner }

  asked_ready : (first : O) (a : AdapterState) (io : PeerIo W) (last : O) (b : AdapterState) (after : PeerIo W)
      (goes_on : Bool) → IsServedPeer left written known counts answer next now idle_timeout first a io last b after goes_on
      → now < timeout_at idle_timeout io → (ready : Bool) → io.ready ≡ ready → AreAsked answer next first a last b
  asked_ready first a io last b after goes_on s early false is =
      asked_not answer next first a last b (s.waits early is).0.0 (s.waits early is).0.2
  asked_ready first a io last b after goes_on s early true is =
      asked_turn first a io last b after goes_on (s.ready early is)

  asked_line : (first : O) (a : AdapterState) (io : PeerIo W) (last : O) (b : AdapterState) (after : PeerIo W)
      (goes_on : Bool) → IsServedPeer left written known counts answer next now idle_timeout first a io last b after goes_on
      → (early : Bool) → ltb now (timeout_at idle_timeout io) ≡ early → AreAsked answer next first a last b
  asked_line first a io last b after goes_on s true is =
      asked_ready first a io last b after goes_on s (ltb-true now (timeout_at idle_timeout io) is) io.ready refl
  asked_line first a io last b after goes_on s false is =
      let late : timeout_at idle_timeout io ≤ now = ltb-false now (timeout_at idle_timeout io) is in
      asked_not answer next first a last b (s.silent late).0.0 (s.silent late).0.2

  -- the end of a peer asks nothing
  asked_left : (owner : O) (a : AdapterState) (io : PeerIo W) (goes_on : Bool) (b : AdapterState) (slot : Option (PeerIo W))
      → IsLeft a io goes_on b slot → AreAsked answer next owner a owner b
  asked_left owner a io true b slot is = asked_not answer next owner a owner b is.0 refl
  asked_left owner a io false b slot is = asked_nothing answer next owner a b (Ends_peer io.peer) refl is.0

  asked_slot : (first : O) (a : AdapterState) (old : Option (PeerIo W)) (last : O) (b : AdapterState)
      (slot : Option (PeerIo W)) → IsSlotServed left written known counts answer next now idle_timeout first a old last b slot
      → AreAsked answer next first a last b
  asked_slot first a None last b slot is = asked_not answer next first a last b is.0 is.2
  asked_slot first a (Some io) last b slot is =
      asked_then answer next first a last is.adapter last b
      (asked_line first a io last is.adapter is.after is.goes_on is.served (ltb now (timeout_at idle_timeout io)) refl)
      (asked_left last is.adapter is.after is.goes_on b slot is.stays)

  asked_slots : (first : O) (a : AdapterState) (slots : List (Option (PeerIo W))) (last : O) (b : AdapterState)
      (places : List (Option (PeerIo W)))
      → AreSlotsServed left written known counts answer next now idle_timeout first a slots last b places
      → AreAsked answer next first a last b
  asked_slots first a [] last b [] is = asked_not answer next first a last b is.0 is.1
  asked_slots first a [] last b (slot ∷ places) is = absurd is
  asked_slots first a (io ∷ slots) last b [] is = absurd is
  asked_slots first a (io ∷ slots) last b (slot ∷ places) is =
      asked_then answer next first a is.1 is.0 last b (asked_slot first a io is.1 is.0 slot is.2)
      (asked_slots is.1 is.0 slots last b places is.3)

-- as the law states it
pub law_asked : {W O : Type 0} (left written : W → Option (List ℕ)) (known : W → Option KnownCalls) (counts : W → WireCounts)
    (answer : O → Asked → Option Reply) (next : O → Asked → O) (now : ℕ) (first last : O) (old new : ServerState W)
    → IsRound left written known counts answer next now first old last new
    → AreAsked answer next first old.adapter last new.adapter
law_asked left written known counts answer next now first last old new round =
    asked_then answer next first old.adapter first (after_call old.adapter (Ticks now)) last new.adapter
    (asked_nothing answer next first old.adapter (after_call old.adapter (Ticks now)) (Ticks now) refl refl)
    (asked_slots left written known counts answer next now (idle_of old) first (after_call old.adapter (Ticks now))
    old.slots last new.adapter new.slots round.places)
