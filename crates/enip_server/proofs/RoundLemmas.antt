-- A slot in a round.
use Rattle.std.proofs.Common.{◌≡◌, ◌<◌, ℕ, ◌-◌, List, ◌∷◌, length, replicate, get_or, slice_get, slice_set, Bool, true, false}
use Rattle.std.proofs.Common.{Option, Some, None, refl, sym, ap, subst, ◌∙◌, [], arith}
use Rattle.std.proofs.lemmas.List.{set-get_or}
use Rattle.std.specs.Prelude.{◌||◌, ◌^◌, min}
use Rattle.std.specs.Box.{boxed_slice_items}
use Rattle.std.specs.List.{list_any}
use Rattle.cip_objects.specs.OwnRequests.{Asked}
use Rattle.cip_owner.specs.Replies.{Reply}
use Rattle.enip_adapter.proofs.LookupLemmas.{slice_get-within}
use Rattle.enip_adapter.specs.Calls.{AdapterState, after_call}
use Rattle.enip_adapter.specs.Calls.Call.{Ends_peer}
use Rattle.enip_server.specs.declared.peer_io.PeerIo.{PeerIo}
use Rattle.enip_server.specs.declared.wire_counts.WireCounts.{WireCounts}
use Rattle.enip_server.specs.Wires.{KnownCalls}
use Rattle.enip_server.specs.declared.peers.Peers.{Peers}
use Rattle.enip_server.specs.Rounds.{ServerState, state_of, new_peers, marked_ready, marked_ready_at}
use Rattle.enip_server.specs.Rounds.{IsServedPeer, IsLeft, IsSlotServed, AreSlotsServed}
use Rattle.enip_server.specs.Rounds.{timeout_at, is_ready, earliest_of}

module _ {W O : Type 0} (left written : W → Option (List ℕ)) (known : W → Option KnownCalls) (counts : W → WireCounts)
    (answer : O → Asked → Option Reply) (next : O → Asked → O) (now idle_timeout : ℕ)
    (first : O) (a : AdapterState) where
  -- what happened to its peer is what happened to the slot
  place_left : (old : Option (PeerIo W)) (io after : PeerIo W) (last : O) (between b : AdapterState) (goes_on : Bool)
      (slot : Option (PeerIo W)) → old ≡ Some io
      → IsServedPeer left written known counts answer next now idle_timeout first a io last between after goes_on
      → IsLeft between after goes_on b slot
      → IsSlotServed left written known counts answer next now idle_timeout first a old last b slot
  place_left old io after last between b goes_on slot is served stays =
      subst (λ o. IsSlotServed left written known counts answer next now idle_timeout first a o last b slot) (sym is)
      (record { adapter = between; after = after; goes_on = goes_on; served = served; stays = stays })

  -- its peer goes on
  pub place_goes_on : (old : Option (PeerIo W)) (io after : PeerIo W) (last : O) (between : AdapterState) (goes_on : Bool)
      → old ≡ Some io
      → IsServedPeer left written known counts answer next now idle_timeout first a io last between after goes_on
      → goes_on ≡ true
      → IsSlotServed left written known counts answer next now idle_timeout first a old last between (Some after)
  place_goes_on old io after last between goes_on is served stays =
      place_left old io after last between between goes_on (Some after) is served
      (subst (λ r. IsLeft between after r between (Some after)) (sym stays) (refl, refl))

  -- its peer is ended
  pub place_ended : (old : Option (PeerIo W)) (io after : PeerIo W) (last : O) (between b : AdapterState) (goes_on : Bool)
      → old ≡ Some io
      → IsServedPeer left written known counts answer next now idle_timeout first a io last between after goes_on
      → goes_on ≡ false → b ≡ after_call between (Ends_peer after.peer)
      → IsSlotServed left written known counts answer next now idle_timeout first a old last b None
  place_ended old io after last between b goes_on is served leaves ends =
      place_left old io after last between b goes_on None is served
      (subst (λ r. IsLeft between after r b None) (sym leaves) (ends, refl))

  -- one more slot
  pub places_more : (old : List (Option (PeerIo W))) (slot_before : Option (PeerIo W)) (rest : List (Option (PeerIo W)))
      (owner last : O) (between b : AdapterState) (slot : Option (PeerIo W)) (places : List (Option (PeerIo W)))
      → old ≡ slot_before ∷ rest
      → IsSlotServed left written known counts answer next now idle_timeout first a slot_before owner between slot
      → AreSlotsServed left written known counts answer next now idle_timeout owner between rest last b places
      → AreSlotsServed left written known counts answer next now idle_timeout first a old last b (slot ∷ places)
  places_more old slot_before rest owner last between b slot places is served others =
      subst (λ l. AreSlotsServed left written known counts answer next now idle_timeout first a l last b (slot ∷ places))
      (sym is) (between, owner, served, others)

-- the peers by their parts
state_by : {W : Type 0} (p : Peers W) (adapter : AdapterState) (idle_timeout : ℕ) (slots : List (Option (PeerIo W)))
    → p.adapter ≡ adapter → p.idle_timeout ≡ idle_timeout → boxed_slice_items p.slots ≡ slots
    → state_of p ≡ record { adapter = adapter; idle_timeout = idle_timeout; slots = slots }
state_by {W} p adapter idle_timeout slots a s l =
    ap (λ x. let r : ServerState W = record { adapter = x; idle_timeout = p.idle_timeout; slots = boxed_slice_items p.slots } in r) a
    ∙ ap (λ x. let r : ServerState W = record { adapter = adapter; idle_timeout = x; slots = boxed_slice_items p.slots } in r) s
    ∙ ap (λ x. let r : ServerState W = record { adapter = adapter; idle_timeout = idle_timeout; slots = x } in r) l

-- this many slots, all free
pub all_free : {W : Type 0} (p : Peers W) (adapter : AdapterState) (idle_timeout places counter : ℕ)
    → p.adapter ≡ adapter → p.idle_timeout ≡ idle_timeout → places ≡ adapter.state.places - length adapter.state.peers
    → counter ≡ places → boxed_slice_items p.slots ≡ replicate counter None → state_of p ≡ new_peers adapter idle_timeout
all_free p adapter idle_timeout places counter a s free all is =
    state_by p adapter idle_timeout _ a s (is ∙ ap (λ n. replicate n None) (all ∙ free))

woken_none : {W : Type 0} (ends : Bool) (slots : List (Option (PeerIo W))) (slot : ℕ) (o : Option (Option (PeerIo W)))
    → slice_get slots slot ≡ o → o ≡ Some None → marked_ready_at ends slots slot o ≡ slots
woken_none ends slots slot o is none = subst (λ x. marked_ready_at ends slots slot x ≡ slots) (sym none) refl

-- a free slot stays the same
pub woken_free : {W : Type 0} (ends : Bool) (p q : Peers W) (slot : ℕ) (found d : Option (PeerIo W)) → q.adapter ≡ p.adapter
    → q.idle_timeout ≡ p.idle_timeout → boxed_slice_items q.slots ≡ slice_set (boxed_slice_items p.slots) slot found
    → slot < length (boxed_slice_items p.slots) → found ≡ get_or (boxed_slice_items p.slots) slot d → found ≡ None
    → state_of q ≡ record (state_of p) { slots = marked_ready ends (boxed_slice_items p.slots) slot }
woken_free ends p q slot found d a s l within is none =
    state_by q p.adapter p.idle_timeout _ a s
    (l ∙ ap (λ x. slice_set (boxed_slice_items p.slots) slot x) is
    ∙ set-get_or (boxed_slice_items p.slots) slot d
    ∙ sym (woken_none ends (boxed_slice_items p.slots) slot _ refl
    (slice_get-within (boxed_slice_items p.slots) slot d within ∙ ap Some (sym is ∙ none))))
