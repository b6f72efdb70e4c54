-- Lists of calls, and one peer that keeps its slot among them.
use Rattle.std.proofs.Common.{◌≡◌, ◌≢◌, ◌+◌, ℕ, zero, suc, List, [], ◌∷◌, ◌++◌, get_or, slice_get, slice_set}
use Rattle.std.proofs.Common.{Bool, true, false, eqb, Option, Some, None, is_none, Result, Ok, Err, inl, inr, refl, sym, ap}
use Rattle.std.proofs.Common.{subst, ◌∙◌, append-nil, arith}
use Rattle.std.proofs.lemmas.Bool.{eqb-true, eqb-false}
use Rattle.std.proofs.lemmas.List.Quantifiers.{position-Some}
use Rattle.std.proofs.KnownBytes.{Appends-nil, Appends-kept, Consumes-nil}
use Rattle.std.specs.Io.KnownBytes.{Consumes}
use Rattle.std.specs.List.{AllByRecursion}
use Rattle.cip_objects.specs.OwnRequests.{Asked}
use Rattle.cip_owner.specs.Replies.{Reply}
use Rattle.enip_adapter.specs.declared.adapter.Full.{Full}
use Rattle.enip_adapter.specs.Calls.{AdapterState, Call, after_call}
use Rattle.enip_adapter.specs.declared.peer.Rights.{Rights}
use Rattle.enip_adapter.specs.declared.peer.Rights.TheVariants.{Write}
use Rattle.enip_adapter.specs.Calls.Call.{Begins_peer, Ends_peer, Ticks, Writes}
use Rattle.enip_adapter.specs.OwnWrites.{OwnWrite}
use Rattle.enip_adapter.specs.Runs.{after_calls, IsForOther}
use Rattle.enip_server.specs.declared.peer_io.PeerIo.{PeerIo}
use Rattle.enip_server.specs.declared.wire_counts.WireCounts.{WireCounts}
use Rattle.enip_server.specs.Wires.{KnownCalls}
use Rattle.enip_server.specs.PeerStates.{peer_state_of}
use Rattle.enip_server.specs.Transfers.{Transfers, GoesOnWith}
use Rattle.enip_server.specs.Rounds.{ServerState, new_peers, new_peer_io, first_free, IsAdded, marked_ready_in, marked_ready_at}
use Rattle.enip_server.specs.Evictions.{BeginsIn, IsAddedAt, freed, freed_of, slot_for, with_room_at}
use Rattle.enip_server.specs.Rounds.{written_by, nobody, no_answer, same_nobody}
use Rattle.enip_server.specs.Runs.{IsStep, IsRun, HoldsSlot, KeepsSlot, IsStill, IsStillAt, AreStill}
use Rattle.enip_server.specs.Runs.IsStep.{Adds, Adds_as, Makes_room, MarksReady, Rounds, Rounds_alone, Writes_own, Releases, Takes_time, Closes_all}
use Rattle.enip_server.specs.Resets.{closed_by, closed_peer, closed_slot, closed_slots}
use Rattle.enip_server.specs.Runs.IsRun.{Still, Goes_on}
use Rattle.enip_server.specs.Runs.KeepsSlot.{Begins, Stays_on}
use Rattle.enip_server.proofs.ApartLemmas.{AreSound, sound_new, sound_come, sound_of, of_woken, of_freed, apart_at, below_at}
use Rattle.enip_server.proofs.ApartLemmas.{are_of_themselves, IsOf, AreOf}
use Rattle.enip_server.proofs.HandleLemmas.{next_begun, next_end, next_given}
use Rattle.enip_server.proofs.TransferLemmas.{after_calls-append, MovesBy, moves_by_then, moves_by_weaker, moves_not, moves_other}
use Rattle.enip_server.proofs.RoundMoves.{round_moves, sound_round, other_goes_on}

-- what a list holds at an index after another index was set
pub get_set_other : {X : Type 0} → (xs : List X) (i j : ℕ) (x : X) → i ≢ j → slice_get (slice_set xs i x) j ≡ slice_get xs j
get_set_other [] i j x differs = refl
get_set_other (y ∷ ys) zero zero x differs = absurd (differs refl)
get_set_other (y ∷ ys) zero (suc j) x differs = refl
get_set_other (y ∷ ys) (suc i) zero x differs = refl
get_set_other (y ∷ ys) (suc i) (suc j) x differs = get_set_other ys i j x (λ same. differs (ap suc same))

-- and at that index, if it exists
pub get_set_same : {X : Type 0} → (xs : List X) (i : ℕ) (x y : X) → slice_get xs i ≡ Some y
    → slice_get (slice_set xs i x) i ≡ Some x
get_set_same [] i x y there = cc
get_set_same (z ∷ zs) zero x y there = refl
get_set_same (z ∷ zs) (suc i) x y there = get_set_same zs i x y there

got : {X : Type 0} → (xs : List X) (i : ℕ) (d x : X) → slice_get xs i ≡ Some x → get_or xs i d ≡ x
got [] i d x there = cc
got (y ∷ ys) zero d x there = cc
got (y ∷ ys) (suc i) d x there = got ys i d x there

-- one call more
others_then : (P : Call → Type 0) (calls : List Call) (call : Call) → AllByRecursion P calls → P call
    → AllByRecursion P (calls ++ call ∷ [])
others_then P [] call each is = (is, tt)
others_then P (first ∷ calls) call each is = (each.0, others_then P calls call each.1 is)

module _ {W : Type 0} where
  -- the first free slot is not one that holds a peer
  pub free_elsewhere : (slots : List (Option (PeerIo W))) (free slot : ℕ) (io : PeerIo W) → first_free slots ≡ Some free
      → slice_get slots slot ≡ Some (Some io) → free ≢ slot
  free_elsewhere slots free slot io is there same =
      let none : is_none (get_or slots free (Some io)) ≡ true
      = (position-Some (λ o. is_none o) slots free (Some io) is).1 in
      let some : get_or slots slot (Some io) ≡ Some io = got slots slot (Some io) (Some io) there in
      let here : get_or slots free (Some io) ≡ Some io = ap (λ n. get_or slots n (Some io)) same ∙ some in
      let held : is_none (Some io) ≡ true = subst (λ o. is_none o ≡ true) here none in
      cc

  -- the call that frees a slot
  abbrev pub ends_before : (p : ServerState W) (slot : ℕ) → Option (Option (PeerIo W)) → List Call
  ends_before p slot None = []
  ends_before p slot (Some None) = []
  ends_before p slot (Some (Some io)) = Ends_peer io.peer ∷ []

  pub freed_leads : (p : ServerState W) (slot : ℕ) (found : Option (Option (PeerIo W)))
      → (freed_of p slot found).adapter ≡ after_calls p.adapter (ends_before p slot found)
  freed_leads p slot None = refl
  freed_leads p slot (Some None) = refl
  freed_leads p slot (Some (Some io)) = refl

  -- any other slot stays
  pub freed_elsewhere : (p : ServerState W) (at slot : ℕ) (found : Option (Option (PeerIo W))) → at ≢ slot
      → slice_get (freed_of p at found).slots slot ≡ slice_get p.slots slot
  freed_elsewhere p at slot None differs = refl
  freed_elsewhere p at slot (Some None) differs = refl
  freed_elsewhere p at slot (Some (Some io)) differs = get_set_other p.slots at slot None differs

  -- a freed slot holds nobody
  pub freed_here : (p : ServerState W) (at : ℕ) (found : Option (Option (PeerIo W))) → slice_get p.slots at ≡ found
      → (after : PeerIo W) → slice_get (freed_of p at found).slots at ≡ Some (Some after) → ⊥
  freed_here p at None is after stays = cc
  freed_here p at (Some None) is after stays = cc
  freed_here p at (Some (Some io)) is after stays =
      let none : slice_get (slice_set p.slots at None) at ≡ Some None = get_set_same p.slots at None (Some io) is in
      cc

  -- and the next session handle is the same
  pub freed_next : (p : ServerState W) (at : ℕ) (found : Option (Option (PeerIo W)))
      → (freed_of p at found).adapter.state.next_handle ≡ p.adapter.state.next_handle
  freed_next p at None = refl
  freed_next p at (Some None) = refl
  freed_next p at (Some (Some io)) = next_end p.adapter io.peer

  -- the peer that a slot was set to
  pub set_peer : (slots : List (Option (PeerIo W))) (slot : ℕ) (io after : PeerIo W)
      → slice_get (slice_set slots slot (Some io)) slot ≡ Some (Some after) → after.peer ≡ io.peer
  set_peer [] slot io after there = cc
  set_peer (first ∷ slots) zero io after there = cc
  set_peer (first ∷ slots) (suc slot) io after there = set_peer slots slot io after there

  same_line : (slots : List (Option (PeerIo W))) (slot : ℕ) (io after : PeerIo W) → slice_get slots slot ≡ Some (Some io)
      → slice_get slots slot ≡ Some (Some after) → after ≡ io
  same_line slots slot io after there stays = cc

  -- ---- a release

  -- a peer that is closed is still that peer
  of_closed_at : (now : ℕ) (slot : Option (PeerIo W)) → IsOf slot (closed_slot now slot)
  of_closed_at now None = tt
  of_closed_at now (Some io) = refl

  of_closed : (now : ℕ) (slots : List (Option (PeerIo W))) → AreOf slots (closed_slots now slots)
  of_closed now [] = tt
  of_closed now (slot ∷ slots) = (of_closed_at now slot, of_closed now slots)

  closed_in : (now : ℕ) (slots : List (Option (PeerIo W))) (slot : ℕ) (io after : PeerIo W)
      → slice_get slots slot ≡ Some (Some io) → slice_get (closed_slots now slots) slot ≡ Some (Some after)
      → after ≡ closed_peer now io
  closed_in now [] slot io after there stays = cc
  closed_in now (None ∷ slots) zero io after there stays = cc
  closed_in now (Some found ∷ slots) zero io after there stays =
      let first : found ≡ io = cc in
      let last : closed_peer now found ≡ after = cc in
      sym last ∙ ap (closed_peer now) first
  closed_in now (first ∷ slots) (suc slot) io after there stays = closed_in now slots slot io after there stays

module _ {W : Type 0} (left written : W → Option (List ℕ)) where
  of_still_at : (slot place : Option (PeerIo W)) → IsStillAt left written slot place → IsOf slot place
  of_still_at None place is = subst (IsOf None) (sym is) tt
  of_still_at (Some io) None is = absurd is
  of_still_at (Some io) (Some after) is = ap (λ (l : PeerIo W). l.peer) is.same

  of_still : (slots places : List (Option (PeerIo W))) → AreStill left written slots places → AreOf slots places
  of_still [] [] is = tt
  of_still [] (place ∷ places) is = absurd is
  of_still (slot ∷ slots) [] is = absurd is
  of_still (slot ∷ slots) (place ∷ places) is = (of_still_at slot place is.0, of_still slots places is.1)

  still_here : (slot place : Option (PeerIo W)) → IsStillAt left written slot place → (io after : PeerIo W)
      → slot ≡ Some io → place ≡ Some after → IsStill left written io after
  still_here None place is io after there stays = cc
  still_here (Some found) None is io after there stays = absurd is
  still_here (Some found) (Some placed) is io after there stays =
      let first : found ≡ io = cc in
      let last : placed ≡ after = cc in
      subst (λ l. IsStill left written l after) first (subst (λ l. IsStill left written found l) last is)

  still_in : (slots places : List (Option (PeerIo W))) → AreStill left written slots places → (slot : ℕ)
      (io after : PeerIo W) → slice_get slots slot ≡ Some (Some io) → slice_get places slot ≡ Some (Some after)
      → IsStill left written io after
  still_in [] [] is slot io after there stays = cc
  still_in [] (place ∷ places) is slot io after there stays = absurd is
  still_in (first ∷ slots) [] is slot io after there stays = absurd is
  still_in (first ∷ slots) (place ∷ places) is zero io after there stays =
      let old : first ≡ Some io = cc in
      let new : place ≡ Some after = cc in
      still_here first place is.0 io after old new
  still_in (first ∷ slots) (place ∷ places) is (suc slot) io after there stays =
      still_in slots places is.1 slot io after there stays

module _ {W O : Type 0} (left written : W → Option (List ℕ)) (known : W → Option KnownCalls) (counts : W → WireCounts)
    (answer : O → Asked → Option Reply) (next : O → Asked → O) where
  -- ---- the peers stay sound

  sound_comes : (old new : ServerState W) (now : ℕ) (wire : W) (result : Result ℕ Full) → IsAdded now wire old new result
      → AreSound old → AreSound new
  sound_comes old new now wire (Ok slot) is sound =
      let given : (is.0 ≡ old.adapter.state.next_handle)
      × ((after_call old.adapter (Begins_peer Write None)).state.next_handle ≡ old.adapter.state.next_handle + 1)
      = next_given old.adapter Write None is.0 is.2 in
      sound_come old new slot (new_peer_io is.0 wire now) sound given.0 (ap (λ p. p.slots) is.3)
      (ap (λ p. p.adapter.state.next_handle) is.3 ∙ given.1)
  sound_comes old new now wire (Err full) (inl is) sound = subst AreSound (sym is.2) sound
  sound_comes old new now wire (Err full) (inr is) sound =
      sound_of old new sound (subst (AreOf old.slots) (sym (ap (λ p. p.slots) is.1)) (are_of_themselves old.slots))
      (omega (arith, next_begun old.adapter Write None, ap (λ p. p.adapter.state.next_handle) is.1))

  sound_freed : (p : ServerState W) (slot : ℕ) (found : Option (Option (PeerIo W))) → AreSound p
      → AreSound (freed_of p slot found)
  sound_freed p slot None sound = sound
  sound_freed p slot (Some None) sound = sound
  sound_freed p slot (Some (Some io)) sound =
      sound_of p (freed_of p slot (Some (Some io))) sound (of_freed p.slots slot)
      (omega (arith, next_end p.adapter io.peer))

  sound_begins : (p new : ServerState W) (now : ℕ) (wire : W) (rights : Rights) (group : Option ℕ) (slot : ℕ)
      (result : Result ℕ Full) → BeginsIn now wire rights group slot p new result → AreSound p → AreSound new
  sound_begins p new now wire rights group slot (Ok taken) is sound =
      let given : (is.0 ≡ p.adapter.state.next_handle)
      × ((after_call p.adapter (Begins_peer rights group)).state.next_handle ≡ p.adapter.state.next_handle + 1)
      = next_given p.adapter rights group is.0 is.2 in
      sound_come p new slot (new_peer_io is.0 wire now) sound given.0 (ap (λ p. p.slots) is.3)
      (ap (λ p. p.adapter.state.next_handle) is.3 ∙ given.1)
  sound_begins p new now wire rights group slot (Err full) is sound = subst AreSound (sym is.1) sound

  sound_added_as : (old new : ServerState W) (now : ℕ) (wire : W) (rights : Rights) (group : Option ℕ)
      (slot result : Result ℕ Full) → IsAddedAt now wire rights group slot old new result → AreSound old → AreSound new
  sound_added_as old new now wire rights group (Ok slot) result is sound =
      sound_begins (freed old slot) new now wire rights group slot result is
      (sound_freed old slot (slice_get old.slots slot) sound)
  sound_added_as old new now wire rights group (Err full) result is sound = subst AreSound (sym is.1) sound

  sound_room : (p : ServerState W) (chosen : Result ℕ Full) → AreSound p → AreSound (with_room_at p chosen)
  sound_room p (Ok slot) sound = sound_freed p slot (slice_get p.slots slot) sound
  sound_room p (Err full) sound = sound

  pub sound_step : (old new : ServerState W) → IsStep left written known counts answer next old new → AreSound old → AreSound new
  sound_step old new (Adds now wire result is) sound = sound_comes old new now wire result is sound
  sound_step old new (Adds_as now wire rights group result is) sound =
      sound_added_as old new now wire rights group (slot_for old now group) result is sound
  sound_step old new (Makes_room now group is) sound =
      subst AreSound (sym is) (sound_room old (slot_for old now group) sound)
  sound_step old new (MarksReady slot ends is) sound =
      sound_of old new sound
      (subst (AreOf old.slots) (sym (ap (λ p. p.slots) is)) (of_woken ends old.slots slot (slice_get old.slots slot) refl))
      (omega (arith, ap (λ p. p.adapter.state.next_handle) is))
  sound_step old new (Rounds now first last is) sound =
      sound_round left written known counts answer next now first old last new is sound
  sound_step old new (Rounds_alone now is) sound =
      sound_round left written known counts no_answer same_nobody now nobody old nobody new is sound
  sound_step old new (Writes_own write is) sound =
      sound_of old new sound (subst (AreOf old.slots) (sym (ap (λ p. p.slots) is)) (are_of_themselves old.slots))
      (omega (arith, ap (λ p. p.adapter.state.next_handle) is))
  sound_step old new (Releases still is) sound =
      sound_of old new sound (of_still left written old.slots new.slots still)
      (omega (arith, ap (λ p. p.adapter.state.next_handle) is))
  sound_step old new (Closes_all now is) sound =
      sound_of old new sound (subst (AreOf old.slots) (sym (ap (λ p. p.slots) is)) (of_closed now old.slots))
      (omega (arith, ap (λ p. p.adapter.state.next_handle) is))
  sound_step old new (Takes_time now is) sound =
      sound_of old new sound (subst (AreOf old.slots) (sym (ap (λ p. p.slots) is)) (are_of_themselves old.slots))
      (omega (arith, ap (λ p. p.adapter.state.next_handle) is))

  pub sound_run : (old new : ServerState W) → IsRun left written known counts answer next old new → AreSound old → AreSound new
  sound_run old new Still sound = sound
  sound_run old new (Goes_on {between = between} run step) sound =
      sound_step between new step (sound_run old between run sound)

  -- ---- one step of a peer that stays

  -- The peer is the same except for whether it is ready, and calls for other peers were made.
  record IsKept (a : AdapterState) (io : PeerIo W) (b : AdapterState) (after : PeerIo W) : Type 0 where
    calls : List Call
    each : AllByRecursion (IsForOther io.peer) calls
    leads : b ≡ after_calls a calls
    same : peer_state_of left written known counts b after ≡ peer_state_of left written known counts b io

  kept_moves : (a : AdapterState) (io : PeerIo W) (b : AdapterState) (after : PeerIo W) → IsKept a io b after
      → MovesBy io.peer (GoesOnWith io.peer) (peer_state_of left written known counts a io) (peer_state_of left written known counts b after)
  kept_moves a io b after k =
      subst (λ d. MovesBy io.peer (GoesOnWith io.peer) (peer_state_of left written known counts a io) d) (sym k.same)
      (moves_by_weaker io.peer (IsForOther io.peer) (GoesOnWith io.peer) (peer_state_of left written known counts a io)
      (peer_state_of left written known counts b io) (other_goes_on io.peer)
      (moves_other io.peer (peer_state_of left written known counts a io) b k.calls k.each k.leads))

  -- nothing was called
  kept_still : (a : AdapterState) (io : PeerIo W) (b : AdapterState) (after : PeerIo W) → b ≡ a
      → peer_state_of left written known counts b after ≡ peer_state_of left written known counts b io → IsKept a io b after
  kept_still a io b after is same = record { calls = []; each = tt; leads = is; same = same }

  -- a peer began, or was refused
  kept_begun : (a : AdapterState) (io : PeerIo W) (b : AdapterState) (after : PeerIo W)
      → b ≡ after_call a (Begins_peer Write None) → after ≡ io → IsKept a io b after
  kept_begun a io b after is same = record {
    calls = Begins_peer Write None ∷ [];
    each = (tt, tt);
    leads = is;
    same = ap (peer_state_of left written known counts b) same;
  }

  kept_come : (old new : ServerState W) (now : ℕ) (wire : W) (result : Result ℕ Full) → IsAdded now wire old new result
      → (slot : ℕ) (io after : PeerIo W) → slice_get old.slots slot ≡ Some (Some io)
      → slice_get new.slots slot ≡ Some (Some after) → IsKept old.adapter io new.adapter after
  kept_come old new now wire (Ok free) is slot io after there stays =
      let elsewhere : free ≢ slot = free_elsewhere old.slots free slot io is.1 there in
      let held : slice_get (slice_set old.slots free (Some (new_peer_io is.0 wire now))) slot ≡ Some (Some after)
      = subst (λ (p : ServerState W). slice_get p.slots slot ≡ Some (Some after)) is.3 stays in
      kept_begun old.adapter io new.adapter after (ap (λ p. p.adapter) is.3)
      (same_line old.slots slot io after there
      (sym (get_set_other old.slots free slot (Some (new_peer_io is.0 wire now)) elsewhere) ∙ held))
  kept_come old new now wire (Err full) (inl is) slot io after there stays =
      kept_still old.adapter io new.adapter after (ap (λ p. p.adapter) is.2)
      (ap (peer_state_of left written known counts new.adapter)
      (same_line old.slots slot io after there
      (subst (λ (p : ServerState W). slice_get p.slots slot ≡ Some (Some after)) is.2 stays)))
  kept_come old new now wire (Err full) (inr is) slot io after there stays =
      kept_begun old.adapter io new.adapter after (ap (λ p. p.adapter) is.1)
      (same_line old.slots slot io after there
      (subst (λ (p : ServerState W). slice_get p.slots slot ≡ Some (Some after)) is.1 stays))

  -- another peer is not ended
  freed_others : (p : ServerState W) (at slot : ℕ) (found : Option (Option (PeerIo W))) → slice_get p.slots at ≡ found
      → AreSound p → at ≢ slot → (io : PeerIo W) → slice_get p.slots slot ≡ Some (Some io)
      → AllByRecursion (IsForOther io.peer) (ends_before p at found)
  freed_others p at slot None is sound differs io there = tt
  freed_others p at slot (Some None) is sound differs io there = tt
  freed_others p at slot (Some (Some ended)) is sound differs io there =
      (apart_at p.slots at slot ended io sound.apart is there differs, tt)

  -- another peer stays while a peer begins in a slot that was freed
  kept_elsewhere : (old new : ServerState W) (now : ℕ) (wire : W) (rights : Rights) (group : Option ℕ) (at : ℕ)
      (result : Result ℕ Full) → BeginsIn now wire rights group at (freed old at) new result → AreSound old
      → (slot : ℕ) (io after : PeerIo W) → slice_get old.slots slot ≡ Some (Some io)
      → slice_get new.slots slot ≡ Some (Some after) → at ≢ slot → IsKept old.adapter io new.adapter after
  kept_elsewhere old new now wire rights group at (Ok taken) is sound slot io after there stays differs =
      let found : Option (Option (PeerIo W)) = slice_get old.slots at in
      let held : slice_get (slice_set (freed old at).slots at (Some (new_peer_io is.0 wire now))) slot
      ≡ Some (Some after)
      = subst (λ (p : ServerState W). slice_get p.slots slot ≡ Some (Some after)) is.3 stays in
      let before : slice_get old.slots slot ≡ Some (Some after)
      = sym (freed_elsewhere old at slot found differs)
      ∙ sym (get_set_other (freed old at).slots at slot (Some (new_peer_io is.0 wire now)) differs) ∙ held in
      record {
        calls = ends_before old at found ++ Begins_peer rights group ∷ [];
        each = others_then (IsForOther io.peer) (ends_before old at found) (Begins_peer rights group)
            (freed_others old at slot found refl sound differs io there) tt;
        leads = ap (λ p. p.adapter) is.3
            ∙ ap (λ a. after_call a (Begins_peer rights group)) (freed_leads old at found)
            ∙ sym (after_calls-append old.adapter (ends_before old at found) (Begins_peer rights group ∷ []));
        same = ap (peer_state_of left written known counts new.adapter) (same_line old.slots slot io after there before);
      }
  kept_elsewhere old new now wire rights group at (Err full) is sound slot io after there stays differs =
      let found : Option (Option (PeerIo W)) = slice_get old.slots at in
      let before : slice_get old.slots slot ≡ Some (Some after)
      = sym (freed_elsewhere old at slot found differs)
      ∙ subst (λ (p : ServerState W). slice_get p.slots slot ≡ Some (Some after)) is.1 stays in
      record {
        calls = ends_before old at found;
        each = freed_others old at slot found refl sound differs io there;
        leads = ap (λ p. p.adapter) is.1 ∙ freed_leads old at found;
        same = ap (peer_state_of left written known counts new.adapter) (same_line old.slots slot io after there before);
      }

  -- the peer of that slot does not stay: the one that begins there has another handle
  not_kept : (old new : ServerState W) (now : ℕ) (wire : W) (rights : Rights) (group : Option ℕ) (at : ℕ)
      (result : Result ℕ Full) → BeginsIn now wire rights group at (freed old at) new result → AreSound old
      → (io after : PeerIo W) → slice_get old.slots at ≡ Some (Some io) → slice_get new.slots at ≡ Some (Some after)
      → after.peer ≡ io.peer → ⊥
  not_kept old new now wire rights group at (Ok taken) is sound io after there stays same =
      let found : Option (Option (PeerIo W)) = slice_get old.slots at in
      let given : (is.0 ≡ (freed old at).adapter.state.next_handle)
      × ((after_call (freed old at).adapter (Begins_peer rights group)).state.next_handle
      ≡ (freed old at).adapter.state.next_handle + 1)
      = next_given (freed old at).adapter rights group is.0 is.2 in
      let held : slice_get (slice_set (freed old at).slots at (Some (new_peer_io is.0 wire now))) at ≡ Some (Some after)
      = subst (λ (p : ServerState W). slice_get p.slots at ≡ Some (Some after)) is.3 stays in
      let is_new : after.peer ≡ is.0 = set_peer (freed old at).slots at (new_peer_io is.0 wire now) after held in
      below_at old.adapter.state.next_handle old.slots at io sound.below there
      (sym same ∙ is_new ∙ given.0 ∙ freed_next old at found)
  not_kept old new now wire rights group at (Err full) is sound io after there stays same =
      freed_here old at (slice_get old.slots at) refl after
      (subst (λ (p : ServerState W). slice_get p.slots at ≡ Some (Some after)) is.1 stays)

  kept_beside : (old new : ServerState W) (now : ℕ) (wire : W) (rights : Rights) (group : Option ℕ) (at : ℕ)
      (result : Result ℕ Full) → BeginsIn now wire rights group at (freed old at) new result → AreSound old
      → (slot : ℕ) (io after : PeerIo W) → slice_get old.slots slot ≡ Some (Some io)
      → slice_get new.slots slot ≡ Some (Some after) → after.peer ≡ io.peer → (here : Bool) → eqb at slot ≡ here
      → IsKept old.adapter io new.adapter after
  kept_beside old new now wire rights group at result is sound slot io after there stays same false which =
      kept_elsewhere old new now wire rights group at result is sound slot io after there stays
      (eqb-false at slot which)
  kept_beside old new now wire rights group at result is sound slot io after there stays same true which =
      let here : slot ≡ at = sym (eqb-true at slot which) in
      absurd (not_kept old new now wire rights group at result is sound io after
      (subst (λ n. slice_get old.slots n ≡ Some (Some io)) here there)
      (subst (λ n. slice_get new.slots n ≡ Some (Some after)) here stays) same)

  kept_added_as : (old new : ServerState W) (now : ℕ) (wire : W) (rights : Rights) (group : Option ℕ)
      (chosen result : Result ℕ Full) → IsAddedAt now wire rights group chosen old new result → AreSound old
      → (slot : ℕ) (io after : PeerIo W) → slice_get old.slots slot ≡ Some (Some io)
      → slice_get new.slots slot ≡ Some (Some after) → after.peer ≡ io.peer → IsKept old.adapter io new.adapter after
  kept_added_as old new now wire rights group (Ok at) result is sound slot io after there stays same =
      kept_beside old new now wire rights group at result is sound slot io after there stays same (eqb at slot) refl
  kept_added_as old new now wire rights group (Err full) result is sound slot io after there stays same =
      kept_still old.adapter io new.adapter after (ap (λ p. p.adapter) is.1)
      (ap (peer_state_of left written known counts new.adapter)
      (same_line old.slots slot io after there
      (subst (λ (p : ServerState W). slice_get p.slots slot ≡ Some (Some after)) is.1 stays)))

  -- room was made
  kept_freed : (old new : ServerState W) (at : ℕ) → new ≡ freed old at → AreSound old → (slot : ℕ) (io after : PeerIo W)
      → slice_get old.slots slot ≡ Some (Some io) → slice_get new.slots slot ≡ Some (Some after) → (here : Bool)
      → eqb at slot ≡ here → IsKept old.adapter io new.adapter after
  kept_freed old new at is sound slot io after there stays false which =
      let found : Option (Option (PeerIo W)) = slice_get old.slots at in
      let differs : at ≢ slot = eqb-false at slot which in
      let before : slice_get old.slots slot ≡ Some (Some after)
      = sym (freed_elsewhere old at slot found differs)
      ∙ subst (λ (p : ServerState W). slice_get p.slots slot ≡ Some (Some after)) is stays in
      record {
        calls = ends_before old at found;
        each = freed_others old at slot found refl sound differs io there;
        leads = ap (λ p. p.adapter) is ∙ freed_leads old at found;
        same = ap (peer_state_of left written known counts new.adapter) (same_line old.slots slot io after there before);
      }
  kept_freed old new at is sound slot io after there stays true which =
      let here : slot ≡ at = sym (eqb-true at slot which) in
      absurd (freed_here old at (slice_get old.slots at) refl after
      (subst (λ (p : ServerState W). slice_get p.slots at ≡ Some (Some after)) is
      (subst (λ n. slice_get new.slots n ≡ Some (Some after)) here stays)))

  kept_room : (old new : ServerState W) (chosen : Result ℕ Full) → new ≡ with_room_at old chosen → AreSound old
      → (slot : ℕ) (io after : PeerIo W) → slice_get old.slots slot ≡ Some (Some io)
      → slice_get new.slots slot ≡ Some (Some after) → IsKept old.adapter io new.adapter after
  kept_room old new (Ok at) is sound slot io after there stays =
      kept_freed old new at is sound slot io after there stays (eqb at slot) refl
  kept_room old new (Err full) is sound slot io after there stays =
      kept_still old.adapter io new.adapter after (ap (λ p. p.adapter) is)
      (ap (peer_state_of left written known counts new.adapter)
      (same_line old.slots slot io after there
      (subst (λ (p : ServerState W). slice_get p.slots slot ≡ Some (Some after)) is stays)))

  -- the device wrote, which is a call for no peer
  kept_written : (old new : ServerState W) (write : OwnWrite) → new ≡ written_by write old → (slot : ℕ) (io after : PeerIo W)
      → slice_get old.slots slot ≡ Some (Some io) → slice_get new.slots slot ≡ Some (Some after)
      → IsKept old.adapter io new.adapter after
  kept_written old new write is slot io after there stays = record {
    calls = Writes write ∷ [];
    each = (tt, tt);
    leads = ap (λ p. p.adapter) is;
    same = ap (peer_state_of left written known counts new.adapter)
        (same_line old.slots slot io after there
        (subst (λ (p : ServerState W). slice_get p.slots slot ≡ Some (Some after)) is stays));
  }

  kept_timed : (old new : ServerState W) (now : ℕ) → new ≡ record old { adapter = after_call old.adapter (Ticks now) }
      → (slot : ℕ) (io after : PeerIo W) → slice_get old.slots slot ≡ Some (Some io)
      → slice_get new.slots slot ≡ Some (Some after) → IsKept old.adapter io new.adapter after
  kept_timed old new now is slot io after there stays = record {
    calls = Ticks now ∷ [];
    each = (tt, tt);
    leads = ap (λ p. p.adapter) is;
    same = ap (peer_state_of left written known counts new.adapter)
        (same_line old.slots slot io after there
        (subst (λ (p : ServerState W). slice_get p.slots slot ≡ Some (Some after)) is stays));
  }

  -- marking a slot ready does not show in a peer's state
  woken_desk : (ends : Bool) (a : AdapterState) (slots : List (Option (PeerIo W))) (waken slot : ℕ) (found : Option (Option (PeerIo W)))
      → slice_get slots waken ≡ found → (io after : PeerIo W) → slice_get slots slot ≡ Some (Some io)
      → slice_get (marked_ready_at ends slots waken found) slot ≡ Some (Some after) → (here : Bool) → eqb waken slot ≡ here
      → peer_state_of left written known counts a after ≡ peer_state_of left written known counts a io
  woken_desk ends a slots waken slot None is io after there stays here at =
      ap (peer_state_of left written known counts a) (same_line slots slot io after there stays)
  woken_desk ends a slots waken slot (Some None) is io after there stays here at =
      ap (peer_state_of left written known counts a) (same_line slots slot io after there stays)
  woken_desk ends a slots waken slot (Some (Some found)) is io after there stays false at =
      ap (peer_state_of left written known counts a)
      (same_line slots slot io after there
      (sym (get_set_other slots waken slot (Some (marked_ready_in ends found)) (eqb-false waken slot at)) ∙ stays))
  woken_desk ends a slots waken slot (Some (Some found)) is io after there stays true at =
      let same : waken ≡ slot = eqb-true waken slot at in
      let set : slice_get (slice_set slots waken (Some (marked_ready_in ends found))) waken
      ≡ Some (Some (marked_ready_in ends found))
      = get_set_same slots waken (Some (marked_ready_in ends found)) (Some found) is in
      let new : slice_get (slice_set slots waken (Some (marked_ready_in ends found))) waken ≡ Some (Some after)
      = subst (λ n. slice_get (slice_set slots waken (Some (marked_ready_in ends found))) n ≡ Some (Some after))
      (sym same) stays in
      let old : slice_get slots waken ≡ Some (Some io)
      = subst (λ n. slice_get slots n ≡ Some (Some io)) (sym same) there in
      let is_new : after ≡ marked_ready_in ends found = cc in
      let is_old : found ≡ io = cc in
      ap (peer_state_of left written known counts a) is_new ∙ ap (peer_state_of left written known counts a) is_old

  -- a release calls nothing, and nothing is written to the wire that holds it back
  still_moves : (io after : PeerIo W) (a b : AdapterState) → b ≡ a → IsStill left written io after
      → MovesBy io.peer (GoesOnWith io.peer) (peer_state_of left written known counts a io)
      (peer_state_of left written known counts b after)
  still_moves io after a b same is = record {
    calls = [];
    received = [];
    gone = [];
    each = tt;
    moves = record {
      adapter = same;
      read = subst (λ l. Consumes (left io.wire) l []) (sym is.unread) (Consumes-nil (left io.wire));
      written = Appends-kept (written io.wire) (written io.wire) (written after.wire) [] (Appends-nil (written io.wire))
          is.kept;
      sent = append-nil io.outbox ∙ sym (ap (λ (l : PeerIo W). l.outbox) is.same);
      rest = io.inbox;
      taken = append-nil io.inbox;
      waits = λ _. sym (ap (λ (l : PeerIo W). l.inbox) is.same);
      closed = λ shut. (λ none. shut (sym (ap (λ (l : PeerIo W). l.closed) is.same) ∙ none), refl);
    };
  }

  -- closing calls nothing, and nothing is read or written by it
  closed_some : (now : ℕ) (closed : Option ℕ) → closed_by now closed ≡ None → ⊥
  closed_some now None e = cc
  closed_some now (Some last) e = cc

  closed_moves : (now : ℕ) (io after : PeerIo W) (a b : AdapterState) → b ≡ a → after ≡ closed_peer now io
      → MovesBy io.peer (GoesOnWith io.peer) (peer_state_of left written known counts a io)
      (peer_state_of left written known counts b after)
  closed_moves now io after a b same is =
      subst (λ l. MovesBy io.peer (GoesOnWith io.peer) (peer_state_of left written known counts a io)
      (peer_state_of left written known counts b l)) (sym is)
      (record {
        calls = [];
        received = [];
        gone = [];
        each = tt;
        moves = record {
          adapter = same;
          read = Consumes-nil (left io.wire);
          written = Appends-nil (written io.wire);
          sent = append-nil io.outbox;
          rest = io.inbox;
          taken = append-nil io.inbox;
          waits = λ _. refl;
          closed = λ shut. (closed_some now io.closed, refl);
        };
      })

  step_moves : (old new : ServerState W) → AreSound old → IsStep left written known counts answer next old new → (slot : ℕ) (io after : PeerIo W)
      → slice_get old.slots slot ≡ Some (Some io) → slice_get new.slots slot ≡ Some (Some after) → after.peer ≡ io.peer
      → MovesBy io.peer (GoesOnWith io.peer) (peer_state_of left written known counts old.adapter io)
      (peer_state_of left written known counts new.adapter after)
  step_moves old new sound (Adds now wire result is) slot io after there stays same =
      kept_moves old.adapter io new.adapter after (kept_come old new now wire result is slot io after there stays)
  step_moves old new sound (Adds_as now wire rights group result is) slot io after there stays same =
      kept_moves old.adapter io new.adapter after
      (kept_added_as old new now wire rights group (slot_for old now group) result is sound slot io after there stays
      same)
  step_moves old new sound (Makes_room now group is) slot io after there stays same =
      kept_moves old.adapter io new.adapter after
      (kept_room old new (slot_for old now group) is sound slot io after there stays)
  step_moves old new sound (MarksReady waken ends is) slot io after there stays same =
      kept_moves old.adapter io new.adapter after
      (kept_still old.adapter io new.adapter after (ap (λ p. p.adapter) is)
      (woken_desk ends new.adapter old.slots waken slot (slice_get old.slots waken) refl io after there
      (subst (λ (p : ServerState W). slice_get p.slots slot ≡ Some (Some after)) is stays) (eqb waken slot) refl))
  step_moves old new sound (Rounds now first last is) slot io after there stays same =
      round_moves left written known counts answer next now first old last new is sound slot io after there stays
  step_moves old new sound (Rounds_alone now is) slot io after there stays same =
      round_moves left written known counts no_answer same_nobody now nobody old nobody new is sound slot io after there
      stays
  step_moves old new sound (Writes_own write is) slot io after there stays same =
      kept_moves old.adapter io new.adapter after (kept_written old new write is slot io after there stays)
  step_moves old new sound (Releases still is) slot io after there stays same =
      still_moves io after old.adapter new.adapter (ap (λ p. p.adapter) is)
      (still_in left written old.slots new.slots still slot io after there stays)
  step_moves old new sound (Closes_all now is) slot io after there stays same =
      closed_moves now io after old.adapter new.adapter (ap (λ p. p.adapter) is)
      (closed_in now old.slots slot io after there
      (subst (λ (p : ServerState W). slice_get p.slots slot ≡ Some (Some after)) is stays))
  step_moves old new sound (Takes_time now is) slot io after there stays same =
      kept_moves old.adapter io new.adapter after (kept_timed old new now is slot io after there stays)

  -- ---- a peer that keeps its slot

  holds_at_end : (slot peer : ℕ) (first last : ServerState W) (io after : PeerIo W)
      → KeepsSlot left written known counts answer next slot peer first io last after → HoldsSlot slot peer last after
  holds_at_end slot peer first last io after (Begins holds) = holds
  holds_at_end slot peer first last io after (Stays_on lives step holds) = holds

  sound_life : (slot peer : ℕ) (first last : ServerState W) (io after : PeerIo W)
      → KeepsSlot left written known counts answer next slot peer first io last after → AreSound first → AreSound last
  sound_life slot peer first last io after (Begins holds) sound = sound
  sound_life slot peer first last io after (Stays_on {between = between} {mid = mid} lives step holds) sound =
      sound_step between last step (sound_life slot peer first between io mid lives sound)

  life_moves : (slot peer : ℕ) (first last : ServerState W) (io after : PeerIo W) → AreSound first
      → KeepsSlot left written known counts answer next slot peer first io last after
      → MovesBy peer (GoesOnWith peer) (peer_state_of left written known counts first.adapter io) (peer_state_of left written known counts last.adapter after)
  life_moves slot peer first last io after sound (Begins holds) =
      moves_not peer (GoesOnWith peer) (peer_state_of left written known counts first.adapter io)
  life_moves slot peer first last io after sound (Stays_on {between = between} {mid = mid} lives step holds) =
      let before : HoldsSlot slot peer between mid = holds_at_end slot peer first between io mid lives in
      moves_by_then peer (GoesOnWith peer) (peer_state_of left written known counts first.adapter io)
      (peer_state_of left written known counts between.adapter mid) (peer_state_of left written known counts last.adapter after)
      (life_moves slot peer first between io mid sound lives)
      (subst (
      λ n. MovesBy n (GoesOnWith n) (peer_state_of left written known counts between.adapter mid) (peer_state_of left written known counts last.adapter after)
      ) before.peer_of
      (step_moves between last (sound_life slot peer first between io mid lives sound) step slot mid after before.there
      holds.there (holds.peer_of ∙ sym before.peer_of)))

  -- as the law states it
  pub law_peers : (adapter : AdapterState) (idle_timeout slot peer : ℕ) (first last : ServerState W) (io after : PeerIo W)
      → IsRun left written known counts answer next (new_peers adapter idle_timeout) first → KeepsSlot left written known counts answer next slot peer first io last after
      → (calls : List Call) × (received : List ℕ) × (gone : List ℕ) × AllByRecursion (GoesOnWith peer) calls
      × Transfers peer calls received gone (peer_state_of left written known counts first.adapter io) (peer_state_of left written known counts last.adapter after)
  law_peers adapter idle_timeout slot peer first last io after run lives =
      let m : MovesBy peer (GoesOnWith peer) (peer_state_of left written known counts first.adapter io)
      (peer_state_of left written known counts last.adapter after)
      = life_moves slot peer first last io after
      (sound_run (new_peers adapter idle_timeout) first run (sound_new adapter idle_timeout)) lives in
      (m.calls, m.received, m.gone, m.each, m.moves)
