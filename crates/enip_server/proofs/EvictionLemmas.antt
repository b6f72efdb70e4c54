-- Who gives way to a new client.
use Rattle.std.proofs.Common.{◌≡◌, ◌≢◌, ◌<◌, ◌-◌, ℕ, zero, suc, List, [], ◌∷◌, ◌++◌, slice_get, ltb}
use Rattle.std.proofs.Common.{Bool, true, false, not, ◌&&◌, if◌then◌else◌, Option, Some, None, Result, Ok, Err, ◌⊎◌, inl, inr}
use Rattle.std.proofs.Common.{refl, sym, ap, subst, ◌∙◌}
use Rattle.std.proofs.lemmas.Bool.{lt-ltb}
use Rattle.std.specs.Option.{option_map}
use Rattle.enip_adapter.specs.declared.adapter.Full.{Full}
use Rattle.enip_adapter.specs.declared.adapter.Full.TheVariants.{Share}
use Rattle.enip_adapter.specs.declared.peer.Rights.{Rights}
use Rattle.enip_adapter.specs.Calls.{AdapterState, Call}
use Rattle.enip_adapter.specs.Calls.Call.{Begins_peer}
use Rattle.enip_adapter.specs.Runs.{after_calls}
use Rattle.enip_adapter.specs.Groups.{has_share}
use Rattle.enip_server.specs.declared.evictions.Silent.{Silent}
use Rattle.enip_server.specs.declared.peer_io.PeerIo.{PeerIo}
use Rattle.enip_server.specs.Rounds.{ServerState, first_free, new_peer_io}
use Rattle.enip_server.specs.Evictions.{is_registered, is_without_session, may_give_way, silent_in, longer, one_further}
use Rattle.enip_server.specs.Evictions.{longest_silent, gives_way, slot_given, slot_found, slot_for, freed}
use Rattle.enip_server.specs.Evictions.{has_handle, with_handle, with_room, with_room_at, BeginsIn, IsAddedAt, IsAddedAs}
use Rattle.enip_server.proofs.LifeLemmas.{get_set_other, free_elsewhere, ends_before, freed_elsewhere, freed_leads}
use Rattle.enip_server.proofs.TransferLemmas.{after_calls-append}

-- the longer of two is one of them
longer_is : (x y : Option Silent) (s : Silent) → longer x y ≡ Some s → (x ≡ Some s) ⊎ (y ≡ Some s)
longer_is None y s is = inr is
longer_is (Some first) None s is = inl is
longer_is (Some first) (Some other) s is = by (ltb other.since first.since) is
  where
    by : (b : Bool) → (if b then Some other else Some first) ≡ Some s → (Some first ≡ Some s) ⊎ (Some other ≡ Some s)
    by true is = inr is
    by false is = inl is

-- it is a later slot
in_later : (rest : Option Silent) (s : Silent) → option_map one_further rest ≡ Some s
    → (t : Silent) × (rest ≡ Some t) × (s.slot ≡ suc t.slot)
in_later None s is = cc
in_later (Some t) s is =
    let same : one_further t ≡ s = cc in (t, refl, sym (ap (λ (u : Silent). u.slot) same))

-- a peer with a session may not give way
with_session : (registered : Option Bool) (others : Bool) → registered ≡ Some true
    → is_without_session registered && others ≡ false
with_session None others is = cc
with_session (Some true) others is = refl
with_session (Some false) others is = cc

-- and one from which a byte arrived less than 10 seconds ago may not either
heard_lately : (without : Bool) (silent : ℕ) → silent < 10000000 → without && not (ltb silent 10000000) ≡ false
heard_lately false silent less = refl
heard_lately true silent less = ap not (lt-ltb silent 10000000 less)

module _ {W : Type 0} (a : AdapterState) (now : ℕ) where
  -- it is the first slot, and its peer may give way
  in_first : (slot : Option (PeerIo W)) (s : Silent) → silent_in a now slot ≡ Some s → (io : PeerIo W) → slot ≡ Some io
      → (s.slot ≡ zero) × (may_give_way a now io ≡ true)
  in_first None s is io there = cc
  in_first (Some found) s is io there =
      let same : found ≡ io = cc in
      subst (λ l. (s.slot ≡ zero) × (may_give_way a now l ≡ true)) same (by (may_give_way a now found) refl is)
    where
      by : (b : Bool) → may_give_way a now found ≡ b
          → (if b then Some (record { slot = 0; since = found.last_byte_at }) else None) ≡ Some s
          → (s.slot ≡ zero) × (may_give_way a now found ≡ true)
      by true may is = (
        let same : record { slot = 0; since = found.last_byte_at } ≡ s = cc in
            sym (ap (λ (t : Silent). t.slot) same),
        may,
      )
      by false may is = cc

  at_first : (slot : Option (PeerIo W)) (s : Silent) → silent_in a now slot ≡ Some s → s.slot ≡ zero
  at_first None s is = cc
  at_first (Some found) s is = (in_first (Some found) s is found refl).0

  -- the peer in the slot that is found may give way
  pub found_may : (slots : List (Option (PeerIo W))) (s : Silent) → longest_silent a now slots ≡ Some s → (io : PeerIo W)
      → slice_get slots s.slot ≡ Some (Some io) → may_give_way a now io ≡ true
  found_may [] s is io there = cc
  found_may (slot ∷ slots) s is io there =
      of_one (found_may slots) (longer_is (silent_in a now slot) (option_map one_further (longest_silent a now slots)) s is)
    where
      of_one : ((t : Silent) → longest_silent a now slots ≡ Some t → (l : PeerIo W)
          → slice_get slots t.slot ≡ Some (Some l) → may_give_way a now l ≡ true)
          → (silent_in a now slot ≡ Some s) ⊎ (option_map one_further (longest_silent a now slots) ≡ Some s)
          → may_give_way a now io ≡ true
      of_one others (inl first) =
          let zeroth : slice_get (slot ∷ slots) zero ≡ Some (Some io)
          = subst (λ n. slice_get (slot ∷ slots) n ≡ Some (Some io)) (at_first slot s first) there in
          let same : slot ≡ Some io = cc in
          (in_first slot s first io same).1
      of_one others (inr later) =
          let t : (t : Silent) × (longest_silent a now slots ≡ Some t) × (s.slot ≡ suc t.slot)
          = in_later (longest_silent a now slots) s later in
          others t.0 t.1 io (subst (λ n. slice_get (slot ∷ slots) n ≡ Some (Some io)) t.2 there)

  -- and there is one
  pub found_there : (slots : List (Option (PeerIo W))) (s : Silent) → longest_silent a now slots ≡ Some s
      → (io : PeerIo W) × (slice_get slots s.slot ≡ Some (Some io))
  found_there [] s is = cc
  found_there (slot ∷ slots) s is =
      of_one (found_there slots) slot refl
      (longer_is (silent_in a now slot) (option_map one_further (longest_silent a now slots)) s is)
    where
      of_one : ((t : Silent) → longest_silent a now slots ≡ Some t
          → (l : PeerIo W) × (slice_get slots t.slot ≡ Some (Some l)))
          → (head : Option (PeerIo W)) → slot ≡ head
          → (silent_in a now slot ≡ Some s) ⊎ (option_map one_further (longest_silent a now slots) ≡ Some s)
          → (io : PeerIo W) × (slice_get (slot ∷ slots) s.slot ≡ Some (Some io))
      of_one others None none (inl first) =
          let free : silent_in {W = W} a now None ≡ Some s = subst (λ o. silent_in a now o ≡ Some s) none first in
          absurd (cc)
      of_one others (Some io) some (inl first) =
          (io, subst (λ n. slice_get (slot ∷ slots) n ≡ Some (Some io)) (sym (at_first slot s first)) (ap Some some))
      of_one others head some (inr later) =
          let t : (t : Silent) × (longest_silent a now slots ≡ Some t) × (s.slot ≡ suc t.slot)
          = in_later (longest_silent a now slots) s later in
          let l : (l : PeerIo W) × (slice_get slots t.0.slot ≡ Some (Some l)) = others t.0 t.1 in
          (l.0, subst (λ n. slice_get (slot ∷ slots) n ≡ Some (Some l.0)) (sym t.2) l.1)

module _ {W : Type 0} where
  -- What it means that a slot is for a client: its group has a share left, a session handle is left, and the slot is
  -- free or that of the peer that gives way.
  pub record IsFor (p : ServerState W) (now : ℕ) (group : Option ℕ) (at : ℕ) : Type 0 where
    pub share : has_share p.adapter.state.shared.share p.adapter.state.peers group ≡ true
    pub handle : has_handle p.adapter ≡ true
    pub found : slot_found (first_free p.slots) (gives_way p now group) ≡ Ok at

  pub is_for : (p : ServerState W) (now : ℕ) (group : Option ℕ) (at : ℕ) → slot_for p now group ≡ Ok at
      → IsFor p now group at
  is_for p now group at is = by (has_share p.adapter.state.shared.share p.adapter.state.peers group) refl is
    where
      given : has_share p.adapter.state.shared.share p.adapter.state.peers group ≡ true → (left : Bool)
          → has_handle p.adapter ≡ left → (found : Result ℕ Full)
          → slot_found (first_free p.slots) (gives_way p now group) ≡ found → with_handle left found ≡ Ok at
          → IsFor p now group at
      given share left handle (Err full) found is = absurd (cc)
      given share true handle (Ok slot) found is = record { share = share; handle = handle; found = found ∙ is }
      given share false handle (Ok slot) found is = absurd (cc)

      by : (share : Bool) → has_share p.adapter.state.shared.share p.adapter.state.peers group ≡ share
          → (if not share then Err Share
          else with_handle (has_handle p.adapter) (slot_found (first_free p.slots) (gives_way p now group))) ≡ Ok at
          → IsFor p now group at
      by false share is = absurd (cc)
      by true share is =
          given share (has_handle p.adapter) refl (slot_found (first_free p.slots) (gives_way p now group)) refl is

  gives_way_may : (p : ServerState W) (now : ℕ) (group : Option ℕ) (s : Silent) → gives_way p now group ≡ Some s
      → (io : PeerIo W) → slice_get p.slots s.slot ≡ Some (Some io) → may_give_way p.adapter now io ≡ true
  gives_way_may p now None s is io there = cc
  gives_way_may p now (Some group) s is io there = found_may p.adapter now p.slots s is io there

  -- the slot that is for a client is not that of a peer that may not give way
  slot_elsewhere : (p : ServerState W) (now : ℕ) (group : Option ℕ) (at slot : ℕ) (io : PeerIo W)
      → slot_for p now group ≡ Ok at → slice_get p.slots slot ≡ Some (Some io)
      → may_give_way p.adapter now io ≡ false → at ≢ slot
  slot_elsewhere p now group at slot io is there may =
      found (first_free p.slots) refl (is_for p now group at is).found
    where
      given : (silent : Option Silent) → gives_way p now group ≡ silent → slot_given silent ≡ Ok at → at ≢ slot
      given None way is = absurd (cc)
      given (Some s) way is =
          let same : s.slot ≡ at = cc in
          λ here.
          let may_be : may_give_way p.adapter now io ≡ true
          = gives_way_may p now group s way io
          (subst (λ n. slice_get p.slots n ≡ Some (Some io)) (sym (same ∙ here)) there) in
          cc

      found : (free : Option ℕ) → first_free p.slots ≡ free → slot_found free (gives_way p now group) ≡ Ok at
          → at ≢ slot
      found None none is = given (gives_way p now group) refl is
      found (Some free) some is =
          let same : free ≡ at = cc in
          λ here. free_elsewhere p.slots free slot io some there (same ∙ here)

  pub begins_stays : (p new : ServerState W) (now : ℕ) (wire : W) (rights : Rights) (group : Option ℕ) (at : ℕ)
      (result : Result ℕ Full) → BeginsIn now wire rights group at p new result → (slot : ℕ) → at ≢ slot
      → slice_get new.slots slot ≡ slice_get p.slots slot
  begins_stays p new now wire rights group at (Ok taken) is slot differs =
      ap (λ (q : ServerState W). slice_get q.slots slot) is.3
      ∙ get_set_other p.slots at slot (Some (new_peer_io is.0 wire now)) differs
  begins_stays p new now wire rights group at (Err full) is slot differs =
      ap (λ (q : ServerState W). slice_get q.slots slot) is.1

  added_stays : (old new : ServerState W) (now : ℕ) (wire : W) (rights : Rights) (group : Option ℕ)
      (chosen result : Result ℕ Full) → IsAddedAt now wire rights group chosen old new result
      → slot_for old now group ≡ chosen → (slot : ℕ) (io : PeerIo W) → slice_get old.slots slot ≡ Some (Some io)
      → may_give_way old.adapter now io ≡ false → slice_get new.slots slot ≡ Some (Some io)
  added_stays old new now wire rights group (Ok at) result is which slot io there may =
      let differs : at ≢ slot = slot_elsewhere old now group at slot io which there may in
      begins_stays (freed old at) new now wire rights group at result is slot differs
      ∙ freed_elsewhere old at slot (slice_get old.slots at) differs ∙ there
  added_stays old new now wire rights group (Err full) result is which slot io there may =
      ap (λ (q : ServerState W). slice_get q.slots slot) is.1 ∙ there

  -- room is made for a client, and a peer that may not give way stays
  room_stays : (p : ServerState W) (now : ℕ) (group : Option ℕ) (chosen : Result ℕ Full) → slot_for p now group ≡ chosen
      → (slot : ℕ) (io : PeerIo W) → slice_get p.slots slot ≡ Some (Some io)
      → may_give_way p.adapter now io ≡ false → slice_get (with_room_at p chosen).slots slot ≡ Some (Some io)
  room_stays p now group (Ok at) which slot io there may =
      freed_elsewhere p at slot (slice_get p.slots at) (slot_elsewhere p now group at slot io which there may) ∙ there
  room_stays p now group (Err full) which slot io there may = there

  -- if a slot is free, the client gets that, and all others stay
  pub free_given : (p : ServerState W) (now : ℕ) (group : Option ℕ) (at free : ℕ) → slot_for p now group ≡ Ok at
      → first_free p.slots ≡ Some free → free ≡ at
  free_given p now group at free is some =
      let found : slot_found (Some free) (gives_way p now group) ≡ Ok at
      = subst (λ o. slot_found o (gives_way p now group) ≡ Ok at) some (is_for p now group at is).found in
      cc

  pub added_elsewhere : (old new : ServerState W) (now : ℕ) (wire : W) (rights : Rights) (group : Option ℕ)
      (chosen result : Result ℕ Full) → IsAddedAt now wire rights group chosen old new result
      → slot_for old now group ≡ chosen → (free : ℕ) → first_free old.slots ≡ Some free → (slot : ℕ) (io : PeerIo W)
      → slice_get old.slots slot ≡ Some (Some io) → slice_get new.slots slot ≡ Some (Some io)
  added_elsewhere old new now wire rights group (Ok at) result is which free some slot io there =
      let differs : at ≢ slot
      = λ here. free_elsewhere old.slots free slot io some there (free_given old now group at free which some ∙ here) in
      begins_stays (freed old at) new now wire rights group at result is slot differs
      ∙ freed_elsewhere old at slot (slice_get old.slots at) differs ∙ there
  added_elsewhere old new now wire rights group (Err full) result is which free some slot io there =
      ap (λ (q : ServerState W). slice_get q.slots slot) is.1 ∙ there

  -- the calls of the adapter
  begins_leads : (p new : ServerState W) (now : ℕ) (wire : W) (rights : Rights) (group : Option ℕ) (at : ℕ)
      (result : Result ℕ Full) → BeginsIn now wire rights group at p new result
      → (calls : List Call) × (new.adapter ≡ after_calls p.adapter calls)
  begins_leads p new now wire rights group at (Ok taken) is =
      (Begins_peer rights group ∷ [], ap (λ (q : ServerState W). q.adapter) is.3)
  begins_leads p new now wire rights group at (Err full) is = ([], ap (λ (q : ServerState W). q.adapter) is.1)

  pub added_leads : (old new : ServerState W) (now : ℕ) (wire : W) (rights : Rights) (group : Option ℕ)
      (chosen result : Result ℕ Full) → IsAddedAt now wire rights group chosen old new result
      → (calls : List Call) × (new.adapter ≡ after_calls old.adapter calls)
  added_leads old new now wire rights group (Ok at) result is =
      let begins : (calls : List Call) × (new.adapter ≡ after_calls (freed old at).adapter calls)
      = begins_leads (freed old at) new now wire rights group at result is in
      let ends : List Call = ends_before old at (slice_get old.slots at) in (
        ends ++ begins.0,
        begins.1 ∙ ap (λ a. after_calls a begins.0) (freed_leads old at (slice_get old.slots at))
            ∙ sym (after_calls-append old.adapter ends begins.0),
      )
  added_leads old new now wire rights group (Err full) result is = ([], ap (λ (q : ServerState W). q.adapter) is.1)

  -- as the law states it
  pub law_session : (now : ℕ) (wire : W) (rights : Rights) (group : Option ℕ) (old new : ServerState W)
      (result : Result ℕ Full) (slot : ℕ) (io : PeerIo W) → IsAddedAs now wire rights group old new result
      → slice_get old.slots slot ≡ Some (Some io) → is_registered old.adapter io.peer ≡ Some true
      → slice_get new.slots slot ≡ Some (Some io)
  law_session now wire rights group old new result slot io is there registered =
      added_stays old new now wire rights group (slot_for old now group) result is refl slot io there
      (with_session (is_registered old.adapter io.peer) (not (ltb (now - io.last_byte_at) 10000000)) registered)

  pub law_recent : (now : ℕ) (wire : W) (rights : Rights) (group : Option ℕ) (old new : ServerState W)
      (result : Result ℕ Full) (slot : ℕ) (io : PeerIo W) → IsAddedAs now wire rights group old new result
      → slice_get old.slots slot ≡ Some (Some io) → now - io.last_byte_at < 10000000
      → slice_get new.slots slot ≡ Some (Some io)
  law_recent now wire rights group old new result slot io is there less =
      added_stays old new now wire rights group (slot_for old now group) result is refl slot io there
      (heard_lately (is_without_session (is_registered old.adapter io.peer)) (now - io.last_byte_at) less)

  pub law_room_session : (now : ℕ) (group : Option ℕ) (p : ServerState W) (slot : ℕ) (io : PeerIo W)
      → slice_get p.slots slot ≡ Some (Some io) → is_registered p.adapter io.peer ≡ Some true
      → slice_get (with_room p now group).slots slot ≡ Some (Some io)
  law_room_session now group p slot io there registered =
      room_stays p now group (slot_for p now group) refl slot io there
      (with_session (is_registered p.adapter io.peer) (not (ltb (now - io.last_byte_at) 10000000)) registered)

  pub law_room_recent : (now : ℕ) (group : Option ℕ) (p : ServerState W) (slot : ℕ) (io : PeerIo W)
      → slice_get p.slots slot ≡ Some (Some io) → now - io.last_byte_at < 10000000
      → slice_get (with_room p now group).slots slot ≡ Some (Some io)
  law_room_recent now group p slot io there less =
      room_stays p now group (slot_for p now group) refl slot io there
      (heard_lately (is_without_session (is_registered p.adapter io.peer)) (now - io.last_byte_at) less)
