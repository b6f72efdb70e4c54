-- Whatever calls are made, there are as many free slots as free places, so a new client gets the slot that is for it.
use Rattle.std.proofs.Common.{◌≡◌, ◌≢◌, ◌<◌, ◌≤◌, ◌+◌, ℕ, suc, List, [], ◌∷◌, length, slice_get, slice_set, Bool, true, false}
use Rattle.std.proofs.Common.{cond, not, ltb, ltb-true, lt-ltb, Option, Some, None, is_some, Result, Ok, Err, is_ok, inl, inr}
use Rattle.std.proofs.Common.{refl, sym, ap, subst, ◌∙◌, arith}
use Rattle.std.proofs.lemmas.List.{length-map}
use Rattle.std.specs.List.{AllByRecursion}
use Rattle.cip_objects.specs.OwnRequests.{Asked}
use Rattle.cip_owner.specs.Replies.{Reply}
use Rattle.enip_wire.specs.Stream.{Parsed}
use Rattle.enip_wire.specs.Stream.Parsed.{Incomplete, WholeFrame, TooLongHeader}
use Rattle.enip_adapter.specs.declared.adapter.Full.{Full}
use Rattle.enip_adapter.specs.declared.adapter.Full.TheVariants.{Places, Handles, Share}
use Rattle.enip_adapter.specs.declared.peer.Rights.{Rights}
use Rattle.enip_adapter.specs.declared.peer.Rights.TheVariants.{Write}
use Rattle.enip_adapter.specs.declared.peer.Session.{Session}
use Rattle.enip_adapter.specs.Calls.{AdapterState, Call, call_answer, after_call, events_of_parsed}
use Rattle.enip_adapter.specs.Calls.Call.{Begins_peer, Feeds, Ends_peer, Ticks, Writes}
use Rattle.enip_adapter.specs.Commands.{command_served, long_refused}
use Rattle.enip_adapter.specs.Groups.{has_share, peers_of_group}
use Rattle.enip_adapter.specs.Lookup.{without_first}
use Rattle.enip_adapter.specs.Replies.{Served, leaving}
use Rattle.enip_adapter.specs.Runs.{after_calls, IsForOther}
use Rattle.enip_adapter.specs.Turn.{State, TurnResult, turned, begun, with_peer, session_of, serve_found, end_found, after}
use Rattle.enip_adapter.specs.Turn.Output.{Begins, Refuses}
use Rattle.enip_adapter.proofs.EventLemmas.{of_piece}
use Rattle.enip_adapter.proofs.ListLemmas.{both}
use Rattle.enip_adapter.proofs.PeerLemmas.{at_state}
use Rattle.enip_adapter.proofs.ShareLemmas.{count-without, refused-begin}
use Rattle.enip_adapter.proofs.SoundLemmas.{handles, fed-piece}
use Rattle.enip_server.specs.declared.evictions.Silent.{Silent}
use Rattle.enip_server.specs.declared.peer_io.PeerIo.{PeerIo}
use Rattle.enip_server.specs.declared.wire_counts.WireCounts.{WireCounts}
use Rattle.enip_server.specs.Wires.{KnownCalls}
use Rattle.enip_server.specs.Transfers.{IsTurnCall}
use Rattle.enip_server.specs.Rounds.{idle_of, ServerState, IsServedAt, IsLeft, AreSlotsServed, IsRound, IsAdded, timeout_at}
use Rattle.enip_server.specs.Rounds.{first_free, new_peers, new_peer_io, nobody, no_answer, same_nobody}
use Rattle.enip_server.specs.Evictions.{BeginsIn, IsAddedAt, IsAddedAs, freed, freed_of, gives_way, has_handle, slot_for}
use Rattle.enip_server.specs.Evictions.{slot_found, slot_given, with_handle, with_room, with_room_at}
use Rattle.enip_server.specs.Runs.{IsStep, IsRun, IsStillAt, AreStill}
use Rattle.enip_server.specs.Runs.IsStep.{Adds, Adds_as, Makes_room, MarksReady, Rounds, Rounds_alone, Writes_own, Releases, Takes_time, Closes_all}
use Rattle.enip_server.specs.Resets.{closed_slot, closed_slots}
use Rattle.enip_server.specs.Runs.IsRun.{Still, Goes_on}
use Rattle.enip_server.proofs.ApartLemmas.{AreApart, AreSound, HasNone, sound_new}
use Rattle.enip_server.proofs.EvictionLemmas.{IsFor, is_for, begins_stays, found_there}
use Rattle.enip_server.proofs.LifeLemmas.{get_set_same, freed_elsewhere, freed_next, sound_run}
use Rattle.enip_server.proofs.RoomLemmas.{Holds, length_without, holds_on, IsLess, less_ended, AreHeld, IsAs, AreAs, KeepsRoom}
use Rattle.enip_server.proofs.RoomLemmas.{IsRoomy, roomy_by, room_same, room_as, as_marked, held_without, room_freed}
use Rattle.enip_server.proofs.RoomLemmas.{room_begun, free_in, free_there, free_some, first_none, slots_some, free_only, roomy_new}
use Rattle.enip_server.proofs.RoundMoves.{HasMoved, LeadsBy, moved_line, places_for_others}

-- ---- calls of a turn begin and end no peer

places_served : (s : State) (peer : ℕ) (serve : Session → Served) (o : Option Session)
    → (serve_found s peer serve o).state.places ≡ s.places
places_served s peer serve None = refl
places_served s peer serve (Some session) =
    both (λ (t : TurnResult). t.state.places ≡ s.places) session.closed _ _ refl refl

places_parsed : (s : State) (peer : ℕ) (x : Parsed) → (after s (events_of_parsed peer x)).places ≡ s.places
places_parsed s peer Incomplete = refl
places_parsed s peer (WholeFrame f) =
    places_served s peer (λ session. command_served s.shared session f) (session_of s peer)
places_parsed s peer (TooLongHeader h) =
    places_served s peer (λ session. leaving s.shared (long_refused session h)) (session_of s peer)

-- The same peers, and as many places.
record HasSame (a b : AdapterState) : Type 0 where
  handles_same : handles b.state ≡ handles a.state
  places_same : b.state.places ≡ a.state.places

same_call : (now peer : ℕ) (a : AdapterState) (call : Call) → IsTurnCall now peer call → HasSame a (after_call a call)
same_call now peer a (Begins_peer rights group) is = absurd is
same_call now peer a (Feeds at other piece) is = record {
  handles_same = (fed-piece (at_state a.state at) other piece a.held (session_of a.state other)).handles_same;
  places_same = of_piece (λ m. (after a.state m.events).places ≡ a.state.places) at other piece a.held
      (session_of a.state other) refl (λ x n left. places_parsed (at_state a.state at) other x);
}
same_call now peer a (Ends_peer other) is = absurd is
same_call now peer a (Ticks at) is = absurd is
same_call now peer a (Writes write) is = record { handles_same = refl; places_same = refl }

same_calls : (now peer : ℕ) (a : AdapterState) (calls : List Call) → AllByRecursion (IsTurnCall now peer) calls
    → HasSame a (after_calls a calls)
same_calls now peer a [] each = record { handles_same = refl; places_same = refl }
same_calls now peer a (call ∷ calls) each =
    let first : HasSame a (after_call a call) = same_call now peer a call each.0 in
    let rest : HasSame (after_call a call) (after_calls (after_call a call) calls)
    = same_calls now peer (after_call a call) calls each.1 in
    record {
      handles_same = rest.handles_same ∙ first.handles_same;
      places_same = rest.places_same ∙ first.places_same;
    }

module _ {W O : Type 0} (left written : W → Option (List ℕ)) (known : W → Option KnownCalls) (counts : W → WireCounts)
    (answer : O → Asked → Option Reply) (next : O → Asked → O) (now idle_timeout : ℕ) where
  -- ---- a round

  same_moved : (a : AdapterState) (io : PeerIo W) (b : AdapterState) (after : PeerIo W)
      → HasMoved left written known counts answer next now idle_timeout a io b after → HasSame a b
  same_moved a io b after m =
      subst (HasSame a) (sym m.moves.moves.adapter) (same_calls now io.peer a m.moves.calls m.moves.each)

  -- the first slot holds a peer, which stays or is ended; then the others are served
  room_slot : (a : AdapterState) (io : PeerIo W) (between : AdapterState) (after : PeerIo W) (goes_on : Bool)
      (c : AdapterState) (slot : Option (PeerIo W)) (slots : List (Option (PeerIo W))) (b : AdapterState)
      (places : List (Option (PeerIo W)))
      → HasMoved left written known counts answer next now idle_timeout a io between after
      → IsLeft between after goes_on c slot → AreHeld (handles a.state) (Some io ∷ slots) → HasNone io.peer slots
      → (AreHeld (handles c.state) slots → KeepsRoom c slots b places) → LeadsBy (IsForOther io.peer) c b
      → KeepsRoom a (Some io ∷ slots) b (slot ∷ places)
  room_slot a io between after true c slot slots b places m is held none others leads =
      let same : HasSame a c = subst (HasSame a) (sym is.0) (same_moved a io between after m) in
      let rest : KeepsRoom c slots b places
      = others (subst (λ ns. AreHeld ns slots) (sym same.handles_same) held.1) in
      let here : Holds (handles b.state) io.peer
      = subst (λ x. Holds (handles x.state) io.peer) (sym leads.after)
      (holds_on io.peer c leads.calls leads.each
      (subst (λ ns. Holds ns io.peer) (sym same.handles_same) held.0)) in
      subst (λ o. KeepsRoom a (Some io ∷ slots) b (o ∷ places)) (sym is.1)
      (record {
        held = (subst (Holds (handles b.state)) (sym m.peer) here, rest.held);
        count = rest.count ∙ ap (λ ns. free_in slots + length ns) same.handles_same;
        size = ap suc rest.size;
        limit = rest.limit ∙ same.places_same;
      })
  room_slot a io between after false c slot slots b places m is held none others leads =
      let same : HasSame a between = same_moved a io between after m in
      let less : IsLess after.peer between c
      = subst (IsLess after.peer between) (sym is.0) (less_ended between after.peer) in
      let gone : handles c.state ≡ without_first (λ n. n) io.peer (handles a.state)
      = less.handles_left ∙ ap (without_first (λ n. n) after.peer) same.handles_same
      ∙ ap (λ n. without_first (λ k. k) n (handles a.state)) m.peer in
      let rest : KeepsRoom c slots b places
      = others (subst (λ ns. AreHeld ns slots) (sym gone) (held_without io.peer (handles a.state) slots none held.1)) in
      subst (λ o. KeepsRoom a (Some io ∷ slots) b (o ∷ places)) (sym is.1)
      (record {
        held = rest.held;
        count = omega (arith, rest.count, ap length gone, length_without io.peer (handles a.state) held.0);
        size = ap suc rest.size;
        limit = rest.limit ∙ less.places ∙ same.places_same;
      })

  room_slots : (first : O) (a : AdapterState) (slots : List (Option (PeerIo W))) (last : O) (b : AdapterState)
      (places : List (Option (PeerIo W)))
      → AreSlotsServed left written known counts answer next now idle_timeout first a slots last b places
      → AreApart slots → AreHeld (handles a.state) slots → KeepsRoom a slots b places
  room_slots first a [] last b [] is apart held =
      room_same a b [] (ap (λ x. handles x.state) is.0) (ap (λ x. x.state.places) is.0) tt
  room_slots first a [] last b (slot ∷ places) is apart held = absurd is
  room_slots first a (io ∷ slots) last b [] is apart held = absurd is
  room_slots first a (None ∷ slots) last b (slot ∷ places) is apart held =
      let rest : KeepsRoom a slots b places
      = room_slots is.1 a slots last b places
      (subst (λ x. AreSlotsServed left written known counts answer next now idle_timeout is.1 x slots last b places)
      is.2.0 is.3)
      apart held in
      subst (λ o. KeepsRoom a (None ∷ slots) b (o ∷ places)) (sym is.2.1)
      (record {
        held = rest.held;
        count = omega (arith, rest.count);
        size = ap suc rest.size;
        limit = rest.limit;
      })
  room_slots first a (Some io ∷ slots) last b (slot ∷ places) is apart held =
      let s : IsServedAt left written known counts answer next now idle_timeout first a io is.1 is.0 slot = is.2 in
      room_slot a io s.adapter s.after s.goes_on is.0 slot slots b places
      (moved_line left written known counts answer next now idle_timeout first a io is.1 s.adapter s.after s.goes_on
      s.served (ltb now (timeout_at idle_timeout io)) refl)
      s.stays held apart.0 (room_slots is.1 is.0 slots last b places is.3 apart.1)
      (places_for_others left written known counts answer next now idle_timeout io.peer is.1 is.0 slots last b places is.3
      apart.0)

module _ {W : Type 0} where
  -- ---- a client is added

  -- the slot that is for a client is there
  slot_there : (p : ServerState W) (now : ℕ) (group : Option ℕ) (at : ℕ) → slot_for p now group ≡ Ok at
      → (o : Option (PeerIo W)) × (slice_get p.slots at ≡ Some o)
  slot_there p now group at is = found (first_free p.slots) refl (is_for p now group at is).found
    where
      silent_there : (group : Option ℕ) (s : Silent) → gives_way p now group ≡ Some s
          → (io : PeerIo W) × (slice_get p.slots s.slot ≡ Some (Some io))
      silent_there None s way = cc
      silent_there (Some group) s way = found_there p.adapter now p.slots s way

      given : (silent : Option Silent) → gives_way p now group ≡ silent → slot_given silent ≡ Ok at
          → (o : Option (PeerIo W)) × (slice_get p.slots at ≡ Some o)
      given None way is = absurd (cc)
      given (Some s) way is =
          let same : s.slot ≡ at = cc in
          let l : (io : PeerIo W) × (slice_get p.slots s.slot ≡ Some (Some io)) = silent_there group s way in
          (Some l.0, subst (λ n. slice_get p.slots n ≡ Some (Some l.0)) same l.1)

      found : (free : Option ℕ) → first_free p.slots ≡ free → slot_found free (gives_way p now group) ≡ Ok at
          → (o : Option (PeerIo W)) × (slice_get p.slots at ≡ Some o)
      found None none is = given (gives_way p now group) refl is
      found (Some free) some is =
          let same : free ≡ at = cc in
          (None, subst (λ n. slice_get p.slots n ≡ Some None) same (free_there p.slots free some))

  -- and is free, once it is freed
  free_at : (p : ServerState W) (at : ℕ) (o : Option (PeerIo W)) → slice_get p.slots at ≡ Some o
      → slice_get (freed_of p at (Some o)).slots at ≡ Some None
  free_at p at None there = there
  free_at p at (Some io) there = get_set_same p.slots at None (Some io) there

  free_for : (p : ServerState W) (now : ℕ) (group : Option ℕ) (at : ℕ) → slot_for p now group ≡ Ok at
      → slice_get (freed p at).slots at ≡ Some None
  free_for p now group at is =
      let o : (o : Option (PeerIo W)) × (slice_get p.slots at ≡ Some o) = slot_there p now group at is in
      subst (λ found. slice_get (freed_of p at found).slots at ≡ Some None) (sym o.1) (free_at p at o.0 o.1)

  room_of : (p : ServerState W) (at : ℕ) (found : Option (Option (PeerIo W))) → slice_get p.slots at ≡ found → AreSound p
      → IsRoomy p → IsRoomy (freed_of p at found)
  room_of p at None is sound roomy = roomy
  room_of p at (Some None) is sound roomy = roomy
  room_of p at (Some (Some io)) is sound roomy =
      roomy_by p (freed_of p at (Some (Some io))) roomy
      (room_freed p.adapter p.slots at io sound.apart is roomy.held)

  roomy_freed : (p : ServerState W) (at : ℕ) → AreSound p → IsRoomy p → IsRoomy (freed p at)
  roomy_freed p at sound roomy = room_of p at (slice_get p.slots at) refl sound roomy

  roomy_begins : (p new : ServerState W) (now : ℕ) (wire : W) (rights : Rights) (group : Option ℕ) (at : ℕ)
      (result : Result ℕ Full) → BeginsIn now wire rights group at p new result → slice_get p.slots at ≡ Some None
      → IsRoomy p → IsRoomy new
  roomy_begins p new now wire rights group at (Ok taken) is there roomy =
      subst IsRoomy (sym is.3)
      (roomy_by p
      (record p {
        adapter = after_call p.adapter (Begins_peer rights group);
        slots = slice_set p.slots at (Some (new_peer_io is.0 wire now));
      })
      roomy (room_begun p.adapter rights group p.slots at (new_peer_io is.0 wire now) is.2 there roomy.held))
  roomy_begins p new now wire rights group at (Err full) is there roomy = subst IsRoomy (sym is.1) roomy

  roomy_added_as : (old new : ServerState W) (now : ℕ) (wire : W) (rights : Rights) (group : Option ℕ)
      (chosen result : Result ℕ Full) → slot_for old now group ≡ chosen
      → IsAddedAt now wire rights group chosen old new result → AreSound old → IsRoomy old → IsRoomy new
  roomy_added_as old new now wire rights group (Ok at) result which is sound roomy =
      roomy_begins (freed old at) new now wire rights group at result is (free_for old now group at which)
      (roomy_freed old at sound roomy)
  roomy_added_as old new now wire rights group (Err full) result which is sound roomy = subst IsRoomy (sym is.1) roomy

  roomy_added : (old new : ServerState W) (now : ℕ) (wire : W) (result : Result ℕ Full) → IsAdded now wire old new result
      → IsRoomy old → IsRoomy new
  roomy_added old new now wire (Ok slot) is roomy =
      subst IsRoomy (sym is.3)
      (roomy_by old
      (record old {
        adapter = after_call old.adapter (Begins_peer Write None);
        slots = slice_set old.slots slot (Some (new_peer_io is.0 wire now));
      })
      roomy
      (room_begun old.adapter Write None old.slots slot (new_peer_io is.0 wire now) is.2
      (free_there old.slots slot is.1) roomy.held))
  roomy_added old new now wire (Err full) (inl is) roomy = subst IsRoomy (sym is.2) roomy
  roomy_added old new now wire (Err full) (inr is) roomy =
      subst IsRoomy (sym is.1)
      (subst (λ a. IsRoomy (record old { adapter = a })) (sym (refused-begin old.adapter Write None full is.0)) roomy)

  roomy_room : (p : ServerState W) (chosen : Result ℕ Full) → AreSound p → IsRoomy p → IsRoomy (with_room_at p chosen)
  roomy_room p (Ok at) sound roomy = roomy_freed p at sound roomy
  roomy_room p (Err full) sound roomy = roomy

  as_closed_at : (now : ℕ) (slot : Option (PeerIo W)) → IsAs slot (closed_slot now slot)
  as_closed_at now None = tt
  as_closed_at now (Some io) = refl

  as_closed : (now : ℕ) (slots : List (Option (PeerIo W))) → AreAs slots (closed_slots now slots)
  as_closed now [] = tt
  as_closed now (slot ∷ slots) = (as_closed_at now slot, as_closed now slots)

module _ {W : Type 0} (left written : W → Option (List ℕ)) where
  as_still_at : (slot place : Option (PeerIo W)) → IsStillAt left written slot place → IsAs slot place
  as_still_at None place is = subst (IsAs None) (sym is) tt
  as_still_at (Some io) None is = absurd is
  as_still_at (Some io) (Some after) is = ap (λ (l : PeerIo W). l.peer) is.same

  as_still : (slots places : List (Option (PeerIo W))) → AreStill left written slots places → AreAs slots places
  as_still [] [] is = tt
  as_still [] (place ∷ places) is = absurd is
  as_still (slot ∷ slots) [] is = absurd is
  as_still (slot ∷ slots) (place ∷ places) is = (as_still_at slot place is.0, as_still slots places is.1)

-- ---- all calls

module _ {W O : Type 0} (left written : W → Option (List ℕ)) (known : W → Option KnownCalls) (counts : W → WireCounts)
    (answer : O → Asked → Option Reply) (next : O → Asked → O) where
  roomy_round : (now : ℕ) (first : O) (old : ServerState W) (last : O) (new : ServerState W)
      → IsRound left written known counts answer next now first old last new → AreSound old → IsRoomy old → IsRoomy new
  roomy_round now first old last new round sound roomy =
      let r : KeepsRoom (after_call old.adapter (Ticks now)) old.slots new.adapter new.slots
      = room_slots left written known counts answer next now (idle_of old) first (after_call old.adapter (Ticks now))
      old.slots last new.adapter new.slots round.places sound.apart roomy.held in
      roomy_by old new roomy (record { held = r.held; count = r.count; size = r.size; limit = r.limit })

module _ {W O : Type 0} (left written : W → Option (List ℕ)) (known : W → Option KnownCalls) (counts : W → WireCounts)
    (answer : O → Asked → Option Reply) (next : O → Asked → O) where
  roomy_step : (old new : ServerState W) → IsStep left written known counts answer next old new → AreSound old
      → IsRoomy old → IsRoomy new
  roomy_step old new (Adds now wire result is) sound roomy = roomy_added old new now wire result is roomy
  roomy_step old new (Adds_as now wire rights group result is) sound roomy =
      roomy_added_as old new now wire rights group (slot_for old now group) result refl is sound roomy
  roomy_step old new (Makes_room now group is) sound roomy =
      subst IsRoomy (sym is) (roomy_room old (slot_for old now group) sound roomy)
  roomy_step old new (MarksReady slot ends is) sound roomy =
      subst IsRoomy (sym is)
      (roomy_by old _ roomy
      (room_as old.adapter old.adapter old.slots _ refl (as_marked ends old.slots slot (slice_get old.slots slot) refl)
      roomy.held))
  roomy_step old new (Rounds now first last is) sound roomy =
      roomy_round left written known counts answer next now first old last new is sound roomy
  roomy_step old new (Rounds_alone now is) sound roomy =
      roomy_round left written known counts no_answer same_nobody now nobody old nobody new is sound roomy
  roomy_step old new (Writes_own write is) sound roomy =
      roomy_by old new roomy
      (room_written (ap (λ (p : ServerState W). p.slots) is) (ap (λ (p : ServerState W). p.adapter) is))
    where
      room_written : new.slots ≡ old.slots → new.adapter ≡ after_call old.adapter (Writes write)
          → KeepsRoom old.adapter old.slots new.adapter new.slots
      room_written slots adapter =
          subst (KeepsRoom old.adapter old.slots new.adapter) (sym slots)
          (room_same old.adapter new.adapter old.slots (ap (λ a. handles a.state) adapter)
          (ap (λ a. a.state.places) adapter) roomy.held)
  roomy_step old new (Releases still is) sound roomy =
      roomy_by old new roomy
      (room_as old.adapter new.adapter old.slots new.slots (ap (λ (p : ServerState W). p.adapter) is)
      (as_still left written old.slots new.slots still) roomy.held)
  roomy_step old new (Closes_all now is) sound roomy =
      subst IsRoomy (sym is)
      (roomy_by old _ roomy
      (room_as old.adapter old.adapter old.slots _ refl (as_closed now old.slots) roomy.held))
  roomy_step old new (Takes_time now is) sound roomy =
      roomy_by old new roomy
      (room_timed (ap (λ (p : ServerState W). p.slots) is) (ap (λ (p : ServerState W). p.adapter) is))
    where
      room_timed : new.slots ≡ old.slots → new.adapter ≡ after_call old.adapter (Ticks now)
          → KeepsRoom old.adapter old.slots new.adapter new.slots
      room_timed slots adapter =
          subst (KeepsRoom old.adapter old.slots new.adapter) (sym slots)
          (room_same old.adapter new.adapter old.slots (ap (λ a. handles a.state) adapter)
          (ap (λ a. a.state.places) adapter) roomy.held)

  roomy_run : (old new : ServerState W) → IsRun left written known counts answer next old new → AreSound old
      → IsRoomy old → IsRoomy new
  roomy_run old new Still sound roomy = roomy
  roomy_run old new (Goes_on {between = between} run step) sound roomy =
      roomy_step between new step (sound_run left written known counts answer next old between run sound)
      (roomy_run old between run sound roomy)

-- ---- the slot that is for a client

-- What is left of a begin once the share was checked, and once a place was found.
abbrev with_a_place : State → Rights → Option ℕ → TurnResult
with_a_place s rights group =
    cond (ltb 0xffffffff s.next_handle) (turned s (Refuses Handles) false)
    (turned (with_peer s rights group) (Begins s.next_handle) false)

abbrev with_a_share : State → Rights → Option ℕ → TurnResult
with_a_share s rights group =
    cond (not (ltb (length s.peers) s.places)) (turned s (Refuses Places) false) (with_a_place s rights group)

begins : (s : State) (rights : Rights) (group : Option ℕ) → has_share s.shared.share s.peers group ≡ true
    → length s.peers < s.places → not (ltb 0xffffffff s.next_handle) ≡ true
    → (begun s rights group).answer.output ≡ Begins s.next_handle
begins s rights group share place handle =
    ap (λ b. (cond (not b) (turned s (Refuses Share) false) (with_a_share s rights group)).answer.output) share
    ∙ ap (λ b. (cond (not b) (turned s (Refuses Places) false) (with_a_place s rights group)).answer.output)
    (lt-ltb (length s.peers) s.places place)
    ∙ by (ltb 0xffffffff s.next_handle) handle
  where
    by : (b : Bool) → not b ≡ true
        → (cond b (turned s (Refuses Handles) false)
        (turned (with_peer s rights group) (Begins s.next_handle) false)).answer.output ≡ Begins s.next_handle
    by true left = absurd (cc)
    by false left = refl

-- the share is not smaller when a peer ends
share_ended : (s : State) (peer : ℕ) (o : Option Session) (group : ℕ) → has_share s.shared.share s.peers (Some group) ≡ true
    → has_share (end_found s peer o).shared.share (end_found s peer o).peers (Some group) ≡ true
share_ended s peer None group left = left
share_ended s peer (Some session) group left =
    let before : peers_of_group group s.peers < s.shared.share
    = ltb-true (peers_of_group group s.peers) s.shared.share left in
    let fewer : peers_of_group group (end_found s peer (Some session)).peers ≤ peers_of_group group s.peers
    = count-without group peer s.peers in
    lt-ltb (peers_of_group group (end_found s peer (Some session)).peers) s.shared.share (omega (arith, before, fewer))

module _ {W : Type 0} where
  share_freed : (p : ServerState W) (at : ℕ) (found : Option (Option (PeerIo W))) (group : Option ℕ)
      → has_share p.adapter.state.shared.share p.adapter.state.peers group ≡ true
      → has_share (freed_of p at found).adapter.state.shared.share (freed_of p at found).adapter.state.peers group ≡ true
  share_freed p at found None left = refl
  share_freed p at None (Some group) left = left
  share_freed p at (Some None) (Some group) left = left
  share_freed p at (Some (Some io)) (Some group) left =
      share_ended p.adapter.state io.peer (session_of p.adapter.state io.peer) group left

  handle_freed : (p : ServerState W) (at : ℕ) → has_handle (freed p at).adapter ≡ has_handle p.adapter
  handle_freed p at = ap (λ n. not (ltb 0xffffffff n)) (freed_next p at (slice_get p.slots at))

  -- the adapter has a place for it
  place_for : (p : ServerState W) (at : ℕ) → slice_get p.slots at ≡ Some None → IsRoomy p
      → length p.adapter.state.peers < p.adapter.state.places
  place_for p at there roomy =
      omega (
        arith,
        free_some p.slots at there,
        roomy.all (slots_some p.slots at None there),
        length-map p.adapter.state.peers (λ (q : Session). q.handle),
      )

  begins_for : (old : ServerState W) (now : ℕ) (rights : Rights) (group : Option ℕ) (at : ℕ) → AreSound old → IsRoomy old
      → slot_for old now group ≡ Ok at
      → (call_answer (freed old at).adapter (Begins_peer rights group)).output
      ≡ Begins (freed old at).adapter.state.next_handle
  begins_for old now rights group at sound roomy which =
      let is : IsFor old now group at = is_for old now group at which in
      begins (freed old at).adapter.state rights group
      (share_freed old at (slice_get old.slots at) group is.share)
      (place_for (freed old at) at (free_for old now group at which) (roomy_freed old at sound roomy))
      (handle_freed old at ∙ is.handle)

  -- What a client gets: the slot.
  given_by : (old new : ServerState W) (now : ℕ) (wire : W) (rights : Rights) (group : Option ℕ) (at : ℕ)
      (result : Result ℕ Full) → slot_for old now group ≡ Ok at
      → (call_answer (freed old at).adapter (Begins_peer rights group)).output
      ≡ Begins (freed old at).adapter.state.next_handle
      → BeginsIn now wire rights group at (freed old at) new result
      → (handle : ℕ) × (result ≡ Ok at) × (slice_get new.slots at ≡ Some (Some (new_peer_io handle wire now)))
  given_by old new now wire rights group at (Ok taken) which begins is = (
    is.0,
    ap Ok is.1,
    ap (λ (p : ServerState W). slice_get p.slots at) is.3
        ∙ get_set_same (freed old at).slots at (Some (new_peer_io is.0 wire now)) None (free_for old now group at which),
  )
  given_by old new now wire rights group at (Err full) which begins is =
      let refused : (call_answer (freed old at).adapter (Begins_peer rights group)).output ≡ Refuses full = is.0 in
      let never : Begins (freed old at).adapter.state.next_handle ≡ Refuses full = sym begins ∙ refused in
      absurd (cc)

  given_slot : (old new : ServerState W) (now : ℕ) (wire : W) (rights : Rights) (group : Option ℕ) (at : ℕ)
      (chosen result : Result ℕ Full) → slot_for old now group ≡ chosen → chosen ≡ Ok at
      → IsAddedAt now wire rights group chosen old new result → AreSound old → IsRoomy old
      → (handle : ℕ) × (result ≡ Ok at) × (slice_get new.slots at ≡ Some (Some (new_peer_io handle wire now)))
  given_slot old new now wire rights group at (Err full) result which chosen is sound roomy = absurd (cc)
  given_slot old new now wire rights group at (Ok found) result which chosen is sound roomy =
      let same : found ≡ at = cc in
      subst (λ n. (handle : ℕ) × (result ≡ Ok n) × (slice_get new.slots n ≡ Some (Some (new_peer_io handle wire now))))
      same
      (given_by old new now wire rights group found result which (begins_for old now rights group found sound roomy which)
      is)

  -- and everybody else stays
  others_stay : (old new : ServerState W) (now : ℕ) (wire : W) (rights : Rights) (group : Option ℕ)
      (chosen result : Result ℕ Full) → IsAddedAt now wire rights group chosen old new result → (other : ℕ)
      → chosen ≢ Ok other → slice_get new.slots other ≡ slice_get old.slots other
  others_stay old new now wire rights group (Ok at) result is other differs =
      let elsewhere : at ≢ other = λ same. differs (ap Ok same) in
      begins_stays (freed old at) new now wire rights group at result is other elsewhere
      ∙ freed_elsewhere old at other (slice_get old.slots at) elsewhere
  others_stay old new now wire rights group (Err full) result is other differs =
      ap (λ (q : ServerState W). slice_get q.slots other) is.1

  pub law_others : (now : ℕ) (wire : W) (rights : Rights) (group : Option ℕ) (old new : ServerState W)
      (result : Result ℕ Full) (other : ℕ) → IsAddedAs now wire rights group old new result
      → slot_for old now group ≢ Ok other → slice_get new.slots other ≡ slice_get old.slots other
  law_others now wire rights group old new result other is differs =
      others_stay old new now wire rights group (slot_for old now group) result is other differs

  -- ---- room that is made is for the client

  -- the slot is free already
  freed_free : (p : ServerState W) (at : ℕ) → slice_get p.slots at ≡ Some None → freed p at ≡ p
  freed_free p at there = ap (freed_of p at) there

  room_free_at : (p : ServerState W) (now : ℕ) (group : Option ℕ) (free : ℕ) (chosen : Result ℕ Full)
      → slot_for p now group ≡ chosen → first_free p.slots ≡ Some free → with_room_at p chosen ≡ p
  room_free_at p now group free (Err full) which some = refl
  room_free_at p now group free (Ok at) which some =
      let found : slot_found (Some free) (gives_way p now group) ≡ Ok at
      = subst (λ o. slot_found o (gives_way p now group) ≡ Ok at) some (is_for p now group at which).found in
      let same : free ≡ at = cc in
      freed_free p at (subst (λ n. slice_get p.slots n ≡ Some None) same (free_there p.slots free some))

  -- nothing changes if a slot is free
  pub room_free : (p : ServerState W) (now : ℕ) (group : Option ℕ) (free : ℕ) → first_free p.slots ≡ Some free
      → with_room p now group ≡ p
  room_free p now group free some = room_free_at p now group free (slot_for p now group) refl some

  -- otherwise the slot that is freed is the first free one
  first_freed : (p : ServerState W) (at : ℕ) (o : Option (PeerIo W)) → slice_get p.slots at ≡ Some o
      → first_free p.slots ≡ None → first_free (freed_of p at (Some o)).slots ≡ Some at
  first_freed p at None there none = absurd (first_none p.slots at none there)
  first_freed p at (Some io) there none = free_only p.slots at io none there

  -- whoever gives way when room is made
  pub room_free_some : (p : ServerState W) (now : ℕ) (group : Option ℕ) → is_some (first_free p.slots) ≡ true
      → with_room p now group ≡ p
  room_free_some p now group some = by (first_free p.slots) refl some
    where
      by : (free : Option ℕ) → first_free p.slots ≡ free → is_some free ≡ true → with_room p now group ≡ p
      by None is some = absurd (cc)
      by (Some free) is some = room_free p now group free is

  pub room_given : (p : ServerState W) (now : ℕ) (group : Option ℕ) → is_some (first_free p.slots) ≡ false
      → is_ok (slot_for p now group) ≡ true
      → (slot : ℕ) × (io : PeerIo W) × (slice_get p.slots slot ≡ Some (Some io))
      × ((with_room p now group).slots ≡ slice_set p.slots slot None)
  room_given p now group taken given = by (slot_for p now group) refl given
    where
      no_slot : (free : Option ℕ) → is_some free ≡ false → free ≡ None
      no_slot None is = refl
      no_slot (Some free) is = cc

      none : first_free p.slots ≡ None
      none = no_slot (first_free p.slots) taken

      ended : (at : ℕ) (o : Option (PeerIo W)) → slice_get p.slots at ≡ Some o
          → (slot : ℕ) × (io : PeerIo W) × (slice_get p.slots slot ≡ Some (Some io))
          × ((freed p at).slots ≡ slice_set p.slots slot None)
      ended at None there = absurd (first_none p.slots at none there)
      ended at (Some io) there = (at, io, there, ap (λ found. (freed_of p at found).slots) there)

      by : (chosen : Result ℕ Full) → slot_for p now group ≡ chosen → is_ok chosen ≡ true
          → (slot : ℕ) × (io : PeerIo W) × (slice_get p.slots slot ≡ Some (Some io))
          × ((with_room_at p chosen).slots ≡ slice_set p.slots slot None)
      by (Ok at) which given =
          let o : (o : Option (PeerIo W)) × (slice_get p.slots at ≡ Some o) = slot_there p now group at which in
          ended at o.0 o.1
      by (Err full) which given = absurd (cc)

  slot_again : (p : ServerState W) (now : ℕ) (group : Option ℕ) (at : ℕ)
      → has_share p.adapter.state.shared.share p.adapter.state.peers group ≡ true → has_handle p.adapter ≡ true
      → first_free p.slots ≡ Some at → slot_for p now group ≡ Ok at
  slot_again p now group at share handle free =
      ap (λ b. cond (not b) (Err Share)
      (with_handle (has_handle p.adapter) (slot_found (first_free p.slots) (gives_way p now group)))) share
      ∙ ap (λ b. with_handle b (slot_found (first_free p.slots) (gives_way p now group))) handle
      ∙ ap (λ o. with_handle true (slot_found o (gives_way p now group))) free

  room_taken : (p : ServerState W) (now : ℕ) (group : Option ℕ) (chosen : Result ℕ Full)
      → slot_for p now group ≡ chosen → first_free p.slots ≡ None
      → slot_for (with_room_at p chosen) now group ≡ slot_for p now group
  room_taken p now group (Err full) which none = refl
  room_taken p now group (Ok at) which none =
      let is : IsFor p now group at = is_for p now group at which in
      let o : (o : Option (PeerIo W)) × (slice_get p.slots at ≡ Some o) = slot_there p now group at which in
      slot_again (freed p at) now group at
      (share_freed p at (slice_get p.slots at) group is.share) (handle_freed p at ∙ is.handle)
      (subst (λ found. first_free (freed_of p at found).slots ≡ Some at) (sym o.1) (first_freed p at o.0 o.1 none))
      ∙ sym which

  pub law_room : (now : ℕ) (group : Option ℕ) (p : ServerState W)
      → slot_for (with_room p now group) now group ≡ slot_for p now group
  law_room now group p = by (first_free p.slots) refl
    where
      by : (free : Option ℕ) → first_free p.slots ≡ free
          → slot_for (with_room p now group) now group ≡ slot_for p now group
      by None none = room_taken p now group (slot_for p now group) refl none
      by (Some free) some = ap (λ q. slot_for q now group) (room_free p now group free some)

-- as the law states it
pub law_given : {W O : Type 0} (left written : W → Option (List ℕ)) (known : W → Option KnownCalls)
    (counts : W → WireCounts) (answer : O → Asked → Option Reply) (next : O → Asked → O) (adapter : AdapterState)
    (idle_timeout now slot : ℕ) (wire : W) (rights : Rights) (group : Option ℕ) (old new : ServerState W)
    (result : Result ℕ Full) → IsRun left written known counts answer next (new_peers adapter idle_timeout) old
    → slot_for old now group ≡ Ok slot → IsAddedAs now wire rights group old new result
    → (handle : ℕ) × (result ≡ Ok slot) × (slice_get new.slots slot ≡ Some (Some (new_peer_io handle wire now)))
law_given left written known counts answer next adapter idle_timeout now slot wire rights group old new result run which
    is =
    given_slot old new now wire rights group slot (slot_for old now group) result refl which is
    (sound_run left written known counts answer next (new_peers adapter idle_timeout) old run
    (sound_new adapter idle_timeout))
    (roomy_run left written known counts answer next (new_peers adapter idle_timeout) old run
    (sound_new adapter idle_timeout) (roomy_new adapter idle_timeout))
