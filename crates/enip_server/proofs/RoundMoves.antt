-- What a round does to the state of a peer that stays.
use Rattle.std.proofs.Common.{◌≡◌, ◌≢◌, ◌<◌, ◌≤◌, ℕ, zero, suc, List, [], ◌∷◌, ◌++◌, slice_get, Bool, true, false}
use Rattle.std.proofs.Common.{ltb, ltb-true, ltb-false, Option, Some, None, refl, sym, ap, subst, ◌∙◌, arith}
use Rattle.std.specs.List.{AllByRecursion}
use Rattle.cip_objects.specs.OwnRequests.{Asked}
use Rattle.cip_owner.specs.Replies.{Reply}
use Rattle.enip_adapter.specs.Calls.{AdapterState, Call, after_call}
use Rattle.enip_adapter.specs.Calls.Call.{Begins_peer, Feeds, Ends_peer, Ticks, Writes}
use Rattle.enip_adapter.specs.Runs.{after_calls, IsForOther}
use Rattle.enip_server.specs.declared.peer_io.PeerIo.{PeerIo}
use Rattle.enip_server.specs.declared.wire_counts.WireCounts.{WireCounts}
use Rattle.enip_server.specs.Wires.{KnownCalls}
use Rattle.enip_server.specs.PeerStates.{peer_state_of}
use Rattle.enip_server.specs.Transfers.{IsTurnCall, GoesOnWith}
use Rattle.enip_server.specs.Rounds.{idle_of, ServerState, TakesTurn, IsServedPeer, IsServedAt, IsLeft, IsSlotServed}
use Rattle.enip_server.specs.Rounds.{AreSlotsServed, IsRound, timeout_at}
use Rattle.enip_server.proofs.ApartLemmas.{HasNone, AreApart, AreSound, IsOf, AreOf, none_at, none_tail, apart_tail, sound_of}
use Rattle.enip_server.proofs.HandleLemmas.{IsAbout, next_calls}
use Rattle.enip_server.proofs.TransferLemmas.{MovesBy, moves_by_then, moves_by_weaker, moves_not, moves_other, all_join}
use Rattle.enip_server.proofs.TransferLemmas.{all_weaker, after_calls-append}
use Rattle.enip_server.proofs.TurnMoves.{turn_moves}

about_turn : (now peer : ℕ) (call : Call) → IsTurnCall now peer call → IsAbout peer call
about_turn now peer (Begins_peer rights group) is = absurd is
about_turn now peer (Feeds at other piece) is = is.1
about_turn now peer (Ends_peer other) is = absurd is
about_turn now peer (Ticks at) is = absurd is
about_turn now peer (Writes write) is = tt

about_other : (other peer : ℕ) → other ≢ peer → (call : Call) → IsAbout other call → IsForOther peer call
about_other other peer differs (Begins_peer rights group) is = absurd is
about_other other peer differs (Feeds now to piece) is = subst (λ n. n ≢ peer) (sym is) differs
about_other other peer differs (Ends_peer to) is = subst (λ n. n ≢ peer) (sym is) differs
about_other other peer differs (Ticks now) is = absurd is
about_other other peer differs (Writes write) is = tt

-- a call of a turn, or one for another peer, does not end this one
pub turn_goes_on : (now peer : ℕ) (call : Call) → IsTurnCall now peer call → GoesOnWith peer call
turn_goes_on now peer (Begins_peer rights group) is = tt
turn_goes_on now peer (Feeds at other piece) is = tt
turn_goes_on now peer (Ends_peer other) is = absurd is
turn_goes_on now peer (Ticks at) is = tt
turn_goes_on now peer (Writes write) is = tt

pub other_goes_on : (peer : ℕ) (call : Call) → IsForOther peer call → GoesOnWith peer call
other_goes_on peer (Begins_peer rights group) is = tt
other_goes_on peer (Feeds now other piece) is = tt
other_goes_on peer (Ends_peer other) is = is
other_goes_on peer (Ticks now) is = tt
other_goes_on peer (Writes write) is = tt

-- Calls that have a property and lead from one adapter to another.
pub record LeadsBy (P : Call → Type 0) (a b : AdapterState) : Type 0 where
  pub calls : List Call
  pub each : AllByRecursion P calls
  pub after : b ≡ after_calls a calls

leads_not : (P : Call → Type 0) (a : AdapterState) → LeadsBy P a a
leads_not P a = record { calls = []; each = tt; after = refl }

leads_then : (P : Call → Type 0) (a b c : AdapterState) → LeadsBy P a b → LeadsBy P b c → LeadsBy P a c
leads_then P a b c l m = record {
  calls = l.calls ++ m.calls;
  each = all_join P l.calls m.calls l.each m.each;
  after = m.after ∙ ap (λ x. after_calls x m.calls) l.after ∙ sym (after_calls-append a l.calls m.calls);
}

leads_weaker : (P Q : Call → Type 0) (a b : AdapterState) → ((call : Call) → P call → Q call) → LeadsBy P a b
    → LeadsBy Q a b
leads_weaker P Q a b weaker l = record { calls = l.calls; each = all_weaker P Q weaker l.calls l.each; after = l.after }

module _ {W O : Type 0} (left written : W → Option (List ℕ)) (known : W → Option KnownCalls) (counts : W → WireCounts)
    (answer : O → Asked → Option Reply) (next : O → Asked → O) (now idle_timeout : ℕ) where
  -- The result of a peer's turn: the peer is the same, and calls of a turn change its state.
  pub record HasMoved (a : AdapterState) (io : PeerIo W) (b : AdapterState) (after : PeerIo W) : Type 0 where
    pub peer : after.peer ≡ io.peer
    pub moves : MovesBy io.peer (IsTurnCall now io.peer) (peer_state_of left written known counts a io) (peer_state_of left written known counts b after)

  moved_not : (a : AdapterState) (io : PeerIo W) (b : AdapterState) (after : PeerIo W) → b ≡ a → after ≡ io
      → HasMoved a io b after
  moved_not a io b after same is =
      subst (λ x. HasMoved a io x after) (sym same)
      (subst (λ l. HasMoved a io a l) (sym is)
      (record { peer = refl; moves = moves_not io.peer (IsTurnCall now io.peer) (peer_state_of left written known counts a io) }))

  moved_turn : (first : O) (a : AdapterState) (io : PeerIo W) (last : O) (b : AdapterState) (after : PeerIo W)
      (goes_on : Bool) → TakesTurn left written known counts answer next now first a io last b after goes_on
      → HasMoved a io b after
  moved_turn first a io last b after goes_on t = record {
    peer = t.peer;
    moves = (turn_moves answer next now io.peer first (peer_state_of left written known counts a io)
        last (peer_state_of left written known counts b after) t.turn).moves;
  }

  moved_ready : (first : O) (a : AdapterState) (io : PeerIo W) (last : O) (b : AdapterState) (after : PeerIo W)
      (goes_on : Bool) → IsServedPeer left written known counts answer next now idle_timeout first a io last b after goes_on
      → now < timeout_at idle_timeout io → (ready : Bool) → io.ready ≡ ready → HasMoved a io b after
  moved_ready first a io last b after goes_on s early false is =
      moved_not a io b after (s.waits early is).0.0 (s.waits early is).0.1
  moved_ready first a io last b after goes_on s early true is =
      moved_turn first a io last b after goes_on (s.ready early is)

  pub moved_line : (first : O) (a : AdapterState) (io : PeerIo W) (last : O) (b : AdapterState) (after : PeerIo W)
      (goes_on : Bool) → IsServedPeer left written known counts answer next now idle_timeout first a io last b after goes_on
      → (early : Bool) → ltb now (timeout_at idle_timeout io) ≡ early → HasMoved a io b after
  moved_line first a io last b after goes_on s true is =
      moved_ready first a io last b after goes_on s (ltb-true now (timeout_at idle_timeout io) is) io.ready refl
  moved_line first a io last b after goes_on s false is =
      let late : timeout_at idle_timeout io ≤ now = ltb-false now (timeout_at idle_timeout io) is in
      moved_not a io b after (s.silent late).0.0 (s.silent late).0.1

  -- What happened to a slot with a peer: the peer stays, and calls of a turn change its state; or the slot is free, and the calls
  -- were about this peer.
  data Became (a : AdapterState) (io : PeerIo W) (b : AdapterState) : Option (PeerIo W) → Type 0 where
    Stays : {after : PeerIo W} → HasMoved a io b after → Became a io b (Some after)
    Leaves : LeadsBy (IsAbout io.peer) a b → Became a io b None

  leads_moved : (a : AdapterState) (io : PeerIo W) (b : AdapterState) (after : PeerIo W) → HasMoved a io b after
      → LeadsBy (IsAbout io.peer) a b
  leads_moved a io b after m = record {
    calls = m.moves.calls;
    each = all_weaker (IsTurnCall now io.peer) (IsAbout io.peer) (about_turn now io.peer) m.moves.calls m.moves.each;
    after = m.moves.moves.adapter;
  }

  became_left : (a : AdapterState) (io : PeerIo W) (between : AdapterState) (after : PeerIo W) (goes_on : Bool)
      (b : AdapterState) (slot : Option (PeerIo W)) → HasMoved a io between after → IsLeft between after goes_on b slot
      → Became a io b slot
  became_left a io between after true b slot m is =
      subst (λ o. Became a io b o) (sym is.1) (Stays (subst (λ x. HasMoved a io x after) (sym is.0) m))
  became_left a io between after false b slot m is =
      let ends : LeadsBy (IsAbout io.peer) between b
      = record { calls = Ends_peer after.peer ∷ []; each = (m.peer, tt); after = is.0 } in
      subst (λ o. Became a io b o) (sym is.1)
      (Leaves (leads_then (IsAbout io.peer) a between b (leads_moved a io between after m) ends))

  became : (first : O) (a : AdapterState) (io : PeerIo W) (last : O) (b : AdapterState) (slot : Option (PeerIo W))
      → IsServedAt left written known counts answer next now idle_timeout first a io last b slot → Became a io b slot
  became first a io last b slot s =
      became_left a io s.adapter s.after s.goes_on b slot
      (moved_line first a io last s.adapter s.after s.goes_on s.served (ltb now (timeout_at idle_timeout io)) refl) s.stays

  became_leads : (a : AdapterState) (io : PeerIo W) (b : AdapterState) (slot : Option (PeerIo W)) → Became a io b slot
      → LeadsBy (IsAbout io.peer) a b
  became_leads a io b (Some after) (Stays m) = leads_moved a io b after m
  became_leads a io b None (Leaves l) = l

  became_of : (a : AdapterState) (io : PeerIo W) (b : AdapterState) (slot : Option (PeerIo W)) → Became a io b slot
      → IsOf (Some io) slot
  became_of a io b (Some after) (Stays m) = m.peer
  became_of a io b None (Leaves l) = tt

  became_moves : (a : AdapterState) (io : PeerIo W) (b : AdapterState) (after : PeerIo W) → Became a io b (Some after)
      → HasMoved a io b after
  became_moves a io b after (Stays m) = m

  -- ---- all peers

  place_next : (first : O) (a : AdapterState) (old : Option (PeerIo W)) (last : O) (b : AdapterState)
      (slot : Option (PeerIo W)) → IsSlotServed left written known counts answer next now idle_timeout first a old last b slot
      → IsOf old slot × (b.state.next_handle ≡ a.state.next_handle)
  place_next first a None last b slot is =
      (subst (λ o. IsOf None o) (sym is.1) tt, ap (λ x. x.state.next_handle) is.0)
  place_next first a (Some io) last b slot is =
      let r : Became a io b slot = became first a io last b slot is in
      let l : LeadsBy (IsAbout io.peer) a b = became_leads a io b slot r in (
        became_of a io b slot r,
        ap (λ x. x.state.next_handle) l.after ∙ next_calls io.peer a l.calls l.each,
      )

  places_next : (first : O) (a : AdapterState) (slots : List (Option (PeerIo W))) (last : O) (b : AdapterState)
      (places : List (Option (PeerIo W)))
      → AreSlotsServed left written known counts answer next now idle_timeout first a slots last b places
      → AreOf slots places × (b.state.next_handle ≡ a.state.next_handle)
  places_next first a [] last b [] is = (tt, ap (λ x. x.state.next_handle) is.0)
  places_next first a [] last b (slot ∷ places) is = absurd is
  places_next first a (io ∷ slots) last b [] is = absurd is
  places_next first a (io ∷ slots) last b (slot ∷ places) is =
      let here : IsOf io slot × (is.0.state.next_handle ≡ a.state.next_handle) = place_next first a io is.1 is.0 slot is.2 in
      let rest : AreOf slots places × (b.state.next_handle ≡ is.0.state.next_handle)
      = places_next is.1 is.0 slots last b places is.3 in
      ((here.0, rest.0), rest.1 ∙ here.1)

  -- ---- one peer

  -- what is done at another slot is done for another peer
  place_for_other : (peer : ℕ) (first : O) (a : AdapterState) (old : Option (PeerIo W)) (last : O) (b : AdapterState)
      (slot : Option (PeerIo W)) → IsSlotServed left written known counts answer next now idle_timeout first a old last b slot
      → ((io : PeerIo W) → old ≡ Some io → io.peer ≢ peer) → LeadsBy (IsForOther peer) a b
  place_for_other peer first a None last b slot is differs =
      subst (λ x. LeadsBy (IsForOther peer) a x) (sym is.0) (leads_not (IsForOther peer) a)
  place_for_other peer first a (Some io) last b slot is differs =
      leads_weaker (IsAbout io.peer) (IsForOther peer) a b (about_other io.peer peer (differs io refl))
      (became_leads a io b slot (became first a io last b slot is))

  none_head : (peer : ℕ) (first : Option (PeerIo W)) (slots : List (Option (PeerIo W))) → HasNone peer (first ∷ slots)
      → (io : PeerIo W) → first ≡ Some io → io.peer ≢ peer
  none_head peer None slots none io is = cc
  none_head peer (Some first) slots none io is =
      let same : first ≡ io = cc in subst (λ (l : PeerIo W). l.peer ≢ peer) same none.0

  pub places_for_others : (peer : ℕ) (first : O) (a : AdapterState) (slots : List (Option (PeerIo W))) (last : O)
      (b : AdapterState) (places : List (Option (PeerIo W)))
      → AreSlotsServed left written known counts answer next now idle_timeout first a slots last b places
      → HasNone peer slots → LeadsBy (IsForOther peer) a b
  places_for_others peer first a [] last b [] is none =
      subst (λ x. LeadsBy (IsForOther peer) a x) (sym is.0) (leads_not (IsForOther peer) a)
  places_for_others peer first a [] last b (slot ∷ places) is none = absurd is
  places_for_others peer first a (io ∷ slots) last b [] is none = absurd is
  places_for_others peer first a (io ∷ slots) last b (slot ∷ places) is none =
      leads_then (IsForOther peer) a is.0 b
      (place_for_other peer first a io is.1 is.0 slot is.2 (none_head peer io slots none))
      (places_for_others peer is.1 is.0 slots last b places is.3 (none_tail peer io slots none))

  -- calls for other peers change nothing of a peer's state but the adapter
  line_stays : (io : PeerIo W) (a b : AdapterState) → LeadsBy (IsForOther io.peer) a b
      → MovesBy io.peer (GoesOnWith io.peer) (peer_state_of left written known counts a io) (peer_state_of left written known counts b io)
  line_stays io a b l =
      moves_by_weaker io.peer (IsForOther io.peer) (GoesOnWith io.peer) (peer_state_of left written known counts a io)
      (peer_state_of left written known counts b io) (other_goes_on io.peer)
      (moves_other io.peer (peer_state_of left written known counts a io) b l.calls l.each l.after)

  apart_first : (first : Option (PeerIo W)) (slots : List (Option (PeerIo W))) (io : PeerIo W) → first ≡ Some io
      → AreApart (first ∷ slots) → HasNone io.peer slots
  apart_first None slots io is apart = cc
  apart_first (Some first) slots io is apart =
      let same : first ≡ io = cc in subst (λ (l : PeerIo W). HasNone l.peer slots) same apart.0

  apart_before : (first : Option (PeerIo W)) (slots : List (Option (PeerIo W))) (index : ℕ) (io : PeerIo W)
      → AreApart (first ∷ slots) → slice_get slots index ≡ Some (Some io)
      → (other : PeerIo W) → first ≡ Some other → other.peer ≢ io.peer
  apart_before first slots index io apart there other is =
      let differs : io.peer ≢ other.peer
      = none_at other.peer slots index io (apart_first first slots other is apart) there in
      λ same. differs (sym same)

  -- the peer of a slot that stays
  place_moves : (first : O) (a : AdapterState) (old : Option (PeerIo W)) (last : O) (b : AdapterState)
      (slot : Option (PeerIo W)) → IsSlotServed left written known counts answer next now idle_timeout first a old last b slot
      → (io after : PeerIo W) → old ≡ Some io → slot ≡ Some after → HasMoved a io b after
  place_moves first a old last b slot is io after there stays =
      became_moves a io b after
      (became first a io last b (Some after)
      (subst (λ o. IsSlotServed left written known counts answer next now idle_timeout first a (Some io) last b o) stays
      (subst (λ o. IsSlotServed left written known counts answer next now idle_timeout first a o last b slot) there is)))

  places_move : (first : O) (a : AdapterState) (slots : List (Option (PeerIo W))) (last : O) (b : AdapterState)
      (places : List (Option (PeerIo W)))
      → AreSlotsServed left written known counts answer next now idle_timeout first a slots last b places
      → AreApart slots → (index : ℕ) (io after : PeerIo W)
      → slice_get slots index ≡ Some (Some io) → slice_get places index ≡ Some (Some after)
      → MovesBy io.peer (GoesOnWith io.peer) (peer_state_of left written known counts a io)
      (peer_state_of left written known counts b after)
  places_move first a [] last b [] is apart index io after there stays = cc
  places_move first a [] last b (slot ∷ places) is apart index io after there stays = absurd is
  places_move first a (line ∷ slots) last b [] is apart index io after there stays = absurd is
  places_move first a (line ∷ slots) last b (slot ∷ places) is apart zero io after there stays =
      let old : line ≡ Some io = cc in
      let new : slot ≡ Some after = cc in
      let m : HasMoved a io is.0 after = place_moves first a line is.1 is.0 slot is.2 io after old new in
      let none : HasNone io.peer slots = apart_first line slots io old apart in
      let rest : LeadsBy (IsForOther io.peer) is.0 b
      = places_for_others io.peer is.1 is.0 slots last b places is.3 none in
      moves_by_then io.peer (GoesOnWith io.peer) (peer_state_of left written known counts a io)
      (peer_state_of left written known counts is.0 after) (peer_state_of left written known counts b after)
      (moves_by_weaker io.peer (IsTurnCall now io.peer) (GoesOnWith io.peer) (peer_state_of left written known counts a io)
      (peer_state_of left written known counts is.0 after) (turn_goes_on now io.peer) m.moves)
      (subst (λ n. MovesBy n (GoesOnWith n) (peer_state_of left written known counts is.0 after)
      (peer_state_of left written known counts b after)) m.peer
      (line_stays after is.0 b (subst (λ n. LeadsBy (IsForOther n) is.0 b) (sym m.peer) rest)))
  places_move first a (line ∷ slots) last b (slot ∷ places) is apart (suc index) io after there stays =
      let before : LeadsBy (IsForOther io.peer) a is.0
      = place_for_other io.peer first a line is.1 is.0 slot is.2 (apart_before line slots index io apart there) in
      moves_by_then io.peer (GoesOnWith io.peer) (peer_state_of left written known counts a io)
      (peer_state_of left written known counts is.0 io) (peer_state_of left written known counts b after)
      (line_stays io a is.0 before)
      (places_move is.1 is.0 slots last b places is.3 (apart_tail line slots apart) index io after there stays)

ticks : (peer now : ℕ) (a : AdapterState) → LeadsBy (IsForOther peer) a (after_call a (Ticks now))
ticks peer now a = record { calls = Ticks now ∷ []; each = (tt, tt); after = refl }

module _ {W O : Type 0} (left written : W → Option (List ℕ)) (known : W → Option KnownCalls) (counts : W → WireCounts)
    (answer : O → Asked → Option Reply) (next : O → Asked → O) (now : ℕ)
    (first : O) (old : ServerState W) (last : O) (new : ServerState W)
    (round : IsRound left written known counts answer next now first old last new) where
  -- each slot is free afterwards, or holds the same peer
  pub round_of : AreOf old.slots new.slots
  round_of =
      (places_next left written known counts answer next now (idle_of old) first (after_call old.adapter (Ticks now))
      old.slots last new.adapter new.slots round.places).0

  -- the peers stay sound in a round
  pub sound_round : AreSound old → AreSound new
  sound_round sound =
      let r : AreOf old.slots new.slots × (new.adapter.state.next_handle ≡ old.adapter.state.next_handle)
      = places_next left written known counts answer next now (idle_of old) first (after_call old.adapter (Ticks now))
      old.slots last new.adapter new.slots round.places in
      sound_of old new sound r.0 (omega (arith, r.1))

  -- what a round transfers for each peer that stays
  pub round_moves : AreSound old → (slot : ℕ) (io after : PeerIo W) → slice_get old.slots slot ≡ Some (Some io)
      → slice_get new.slots slot ≡ Some (Some after)
      → MovesBy io.peer (GoesOnWith io.peer) (peer_state_of left written known counts old.adapter io)
      (peer_state_of left written known counts new.adapter after)
  round_moves sound slot io after there stays =
      moves_by_then io.peer (GoesOnWith io.peer) (peer_state_of left written known counts old.adapter io)
      (peer_state_of left written known counts (after_call old.adapter (Ticks now)) io) (peer_state_of left written known counts new.adapter after)
      (line_stays left written known counts answer next now (idle_of old) io old.adapter (after_call old.adapter (Ticks now))
      (ticks io.peer now old.adapter))
      (places_move left written known counts answer next now (idle_of old) first (after_call old.adapter (Ticks now))
      old.slots last new.adapter new.slots round.places sound.apart slot io after there stays)
