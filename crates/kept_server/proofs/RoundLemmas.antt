-- Rounds of peers whose wires hold back what is written to them.
use mir.Val.{bool_byte}
use Rattle.std.proofs.Common.{◌≡◌, ◌<◌, ◌≤◌, ◌+◌, ℕ, zero, suc, List, [], ◌∷◌, ◌++◌, length, slice_get, slice_set}
use Rattle.std.proofs.Common.{Bool, true, false, if◌then◌else◌, eqb, Option, Some, None, Result, Ok, Err, refl, sym}
use Rattle.std.proofs.Common.{ap, subst, ◌∙◌, arith, map}
use Rattle.std.proofs.lemmas.Bool.{eqb-true, eqb-false}
use Rattle.enip_adapter.specs.declared.adapter.Full.{Full}
use Rattle.cip_ledger.specs.Device.{Device}
use Rattle.cip_objects.specs.OwnRequests.{Asked}
use Rattle.cip_owner.specs.Replies.{Reply}
use Rattle.enip_adapter.specs.Calls.{AdapterState, Call}
use Rattle.enip_adapter.specs.Device.{resets_of}
use Rattle.enip_adapter.specs.Calls.Call.{Writes}
use Rattle.enip_adapter.specs.declared.peer.Rights.{Rights}
use Rattle.enip_adapter.specs.Runs.{after_calls}
use Rattle.enip_server.specs.declared.held_wire.HeldWire.{HeldWire}
use Rattle.enip_server.specs.declared.peer_io.PeerIo.{PeerIo}
use Rattle.enip_server.specs.Held.{held_known, held_written}
use Rattle.enip_server.specs.Evictions.{IsAddedAs, slot_for, with_room, with_room_at}
use Rattle.enip_server.specs.Resets.{after_reset, closed_peer, closed_slot, closed_slots, was_reset}
use Rattle.enip_server.specs.Rounds.{ServerState, first_free, marked_ready, marked_ready_in, marked_ready_at}
use Rattle.enip_server.specs.Rounds.{ended_in, has_ended, next_moment, IsWritten}
use Rattle.enip_server.specs.declared.peers.RoundEnd.{RoundEnd}
use Rattle.enip_server.specs.Transfers.{AreAsked}
use Rattle.enip_server.proofs.HeldLemmas.{round_released, same_released}
use Rattle.enip_server.proofs.ApartLemmas.{AreOf, IsOf}
use Rattle.enip_server.proofs.LifeLemmas.{get_set_other, get_set_same, ends_before, freed_elsewhere, freed_here, freed_leads}
use Rattle.enip_server.proofs.RoundMoves.{round_of}
use Rattle.enip_server.proofs.EvictionLemmas.{added_elsewhere, added_leads}
use Rattle.enip_server.proofs.OwnWriteLemmas.{written_calls, written_slots}
use Rattle.enip_server.proofs.RoundAsks.{law_asked}
use Rattle.enip_server.proofs.TransferLemmas.{after_calls-append}
use Rattle.enip_server.proofs.WatchRounds.{added_at, room_device}
use Rattle.enip_keep.specs.Kept.{Kept}
use Rattle.kept_server.proofs.AdmissionLemmas.{admitted_back, admitted_ended, admitted_of, ticked_device}
use Rattle.kept_server.proofs.ChangeLemmas.{wait_on}
use Rattle.kept_server.specs.declared.round.Accepted.{Accepted}
use Rattle.kept_server.specs.declared.round.ReadyWire.{ReadyWire}
use Rattle.kept_server.specs.declared.round.RoundInput.{RoundInput}
use Rattle.kept_server.specs.Changes.{still_waiting}
use Rattle.kept_server.specs.Rounds.{DeviceContents, contents_after_calls}
use Rattle.kept_server.specs.Rounds.{IsAccepted, IsAcceptedIn, IsAdmission, IsHeldRound, IsOneEnded, KeepsWires, SendsNothing, TakesRound}
use Rattle.kept_server.specs.Rounds.{new_held, ticks, with_marks}

-- Calls of the adapter lead from one to another.
record Leads (a b : AdapterState) : Type 0 where
  calls : List Call
  after : b ≡ after_calls a calls

leads_then : (a b c : AdapterState) → Leads a b → Leads b c → Leads a c
leads_then a b c first last = record {
  calls = first.calls ++ last.calls;
  after = last.after ∙ ap (λ x. after_calls x last.calls) first.after
      ∙ sym (after_calls-append a first.calls last.calls);
}

at_most_one : (b : Bool) → (if b then 1 else 0) ≤ 1
at_most_one true = omega arith
at_most_one false = omega arith

pub byte_small : (b : Bool) → bool_byte b ≤ 1
byte_small true = omega arith
byte_small false = omega arith

module _ {W : Type 0} where
  keeps_all : (p : ServerState (HeldWire W)) → KeepsWires p p
  keeps_all p slot io there = (io, there, refl)

  keeps_then : (a b c : ServerState (HeldWire W)) → KeepsWires a b → KeepsWires b c → KeepsWires a c
  keeps_then a b c first last slot io there =
      let m : (after : PeerIo (HeldWire W)) × (slice_get b.slots slot ≡ Some (Some after)) × (after.wire ≡ io.wire)
      = first slot io there in
      let n : (after : PeerIo (HeldWire W)) × (slice_get c.slots slot ≡ Some (Some after)) × (after.wire ≡ m.0.wire)
      = last slot m.0 m.1 in
      (n.0, n.1, n.2 ∙ m.2)

  keeps_same : (a b : ServerState (HeldWire W)) → b.slots ≡ a.slots → KeepsWires a b
  keeps_same a b same slot io there = (io, ap (λ slots. slice_get slots slot) same ∙ there, refl)

  -- ---- the guest writes

  keeps_written : (old new : ServerState (HeldWire W)) → IsWritten old new → KeepsWires old new
  keeps_written old new is =
      keeps_same old new (ap (λ (p : ServerState (HeldWire W)). p.slots) is.1 ∙ written_slots is.0 old)

  written_adapter : (old new : ServerState (HeldWire W)) (is : IsWritten old new)
      → new.adapter ≡ after_calls old.adapter (map Writes is.0)
  written_adapter old new is = ap (λ (p : ServerState (HeldWire W)). p.adapter) is.1 ∙ written_calls is.0 old

  -- ---- a connection is added

  keeps_added : (old new : ServerState (HeldWire W)) (now : ℕ) (wire : HeldWire W) (rights : Rights) (group : Option ℕ)
      (result : Result ℕ Full) (free : ℕ) → first_free old.slots ≡ Some free
      → IsAddedAs now wire rights group old new result → KeepsWires old new
  keeps_added old new now wire rights group result free some is = λ slot io there. (
    io,
    added_elsewhere old new now wire rights group (slot_for old now group) result is refl free some slot io there,
    refl,
  )

  leads_added : (old new : ServerState (HeldWire W)) (now : ℕ) (wire : HeldWire W) (rights : Rights) (group : Option ℕ)
      (result : Result ℕ Full) → IsAddedAs now wire rights group old new result → Leads old.adapter new.adapter
  leads_added old new now wire rights group result is =
      let l : (calls : List Call) × (new.adapter ≡ after_calls old.adapter calls)
      = added_leads old new now wire rights group (slot_for old now group) result is in
      record { calls = l.0; after = l.1 }

  -- ---- a wire is marked ready

  keeps_marked_at : (ends : Bool) (slots : List (Option (PeerIo (HeldWire W)))) (waken slot : ℕ)
      (found : Option (Option (PeerIo (HeldWire W)))) → slice_get slots waken ≡ found → (io : PeerIo (HeldWire W))
      → slice_get slots slot ≡ Some (Some io) → (here : Bool) → eqb waken slot ≡ here
      → (after : PeerIo (HeldWire W)) × (slice_get (marked_ready_at ends slots waken found) slot ≡ Some (Some after))
      × (after.wire ≡ io.wire)
  keeps_marked_at ends slots waken slot None is io there here at = (io, there, refl)
  keeps_marked_at ends slots waken slot (Some None) is io there here at = (io, there, refl)
  keeps_marked_at ends slots waken slot (Some (Some found)) is io there false at =
      (io, get_set_other slots waken slot (Some (marked_ready_in ends found)) (eqb-false waken slot at) ∙ there, refl)
  keeps_marked_at ends slots waken slot (Some (Some found)) is io there true at =
      let same : waken ≡ slot = eqb-true waken slot at in
      let set : slice_get (slice_set slots waken (Some (marked_ready_in ends found))) waken
      ≡ Some (Some (marked_ready_in ends found))
      = get_set_same slots waken (Some (marked_ready_in ends found)) (Some found) is in
      let old : slice_get slots waken ≡ Some (Some io)
      = subst (λ n. slice_get slots n ≡ Some (Some io)) (sym same) there in
      let is_old : found ≡ io = cc in (
        marked_ready_in ends found,
        subst (λ n. slice_get (slice_set slots waken (Some (marked_ready_in ends found))) n
            ≡ Some (Some (marked_ready_in ends found))) same set,
        ap (λ (l : PeerIo (HeldWire W)). l.wire) is_old,
      )

  keeps_marked : (p : ServerState (HeldWire W)) (ends : Bool) (waken : ℕ)
      → KeepsWires p (record p { slots = marked_ready ends p.slots waken })
  keeps_marked p ends waken slot io there =
      keeps_marked_at ends p.slots waken slot (slice_get p.slots waken) refl io there (eqb waken slot) refl

  keeps_marks : (wires : List ReadyWire) (p : ServerState (HeldWire W)) → KeepsWires p (with_marks wires p)
  keeps_marks [] p = keeps_all p
  keeps_marks (wire ∷ wires) p =
      keeps_then p (record p { slots = marked_ready wire.ends p.slots wire.slot }) (with_marks (wire ∷ wires) p)
      (keeps_marked p wire.ends wire.slot)
      (keeps_marks wires (record p { slots = marked_ready wire.ends p.slots wire.slot }))

  -- ---- a connection is added, if there is one

  keeps_accepted_in : (free : Option ℕ) (now : ℕ) (accepted : Accepted W) (old new : ServerState (HeldWire W))
      → first_free old.slots ≡ free → IsAcceptedIn free now accepted old new → KeepsWires old new
  keeps_accepted_in None now accepted old new found is = keeps_same old new (ap (λ p. p.slots) is)
  keeps_accepted_in (Some free) now accepted old new found is =
      keeps_added old new now (new_held accepted.wire) accepted.rights accepted.group is.0 free found is.1

  keeps_accepted : (now : ℕ) (accepted : Option (Accepted W)) (old new : ServerState (HeldWire W))
      → IsAccepted now accepted old new → KeepsWires old new
  keeps_accepted now None old new is = keeps_same old new (ap (λ p. p.slots) is)
  keeps_accepted now (Some accepted) old new is =
      keeps_accepted_in (first_free old.slots) now accepted old new refl is

  leads_accepted_in : (free : Option ℕ) (now : ℕ) (accepted : Accepted W) (old new : ServerState (HeldWire W))
      → IsAcceptedIn free now accepted old new → Leads old.adapter new.adapter
  leads_accepted_in None now accepted old new is = record { calls = []; after = ap (λ p. p.adapter) is }
  leads_accepted_in (Some free) now accepted old new is =
      leads_added old new now (new_held accepted.wire) accepted.rights accepted.group is.0 is.1

  leads_accepted : (now : ℕ) (accepted : Option (Accepted W)) (old new : ServerState (HeldWire W))
      → IsAccepted now accepted old new → Leads old.adapter new.adapter
  leads_accepted now None old new is = record { calls = []; after = ap (λ p. p.adapter) is }
  leads_accepted now (Some accepted) old new is =
      leads_accepted_in (first_free old.slots) now accepted old new is

  -- ---- room is made

  -- whoever is in a slot afterwards was there before
  room_kept : (p : ServerState (HeldWire W)) (chosen : Result ℕ Full) (slot : ℕ) (after : PeerIo (HeldWire W))
      → slice_get (with_room_at p chosen).slots slot ≡ Some (Some after) → slice_get p.slots slot ≡ Some (Some after)
  room_kept p (Err full) slot after stays = stays
  room_kept p (Ok at) slot after stays = by (eqb at slot) refl
    where
      by : (here : Bool) → eqb at slot ≡ here → slice_get p.slots slot ≡ Some (Some after)
      by false which =
          sym (freed_elsewhere p at slot (slice_get p.slots at) (eqb-false at slot which)) ∙ stays
      by true which =
          absurd (freed_here p at (slice_get p.slots at) refl after
          (subst (λ n. slice_get (with_room_at p (Ok at)).slots n ≡ Some (Some after)) (sym (eqb-true at slot which)) stays))

  leads_room : (p : ServerState (HeldWire W)) (chosen : Result ℕ Full) → Leads p.adapter (with_room_at p chosen).adapter
  leads_room p (Ok at) =
      record { calls = ends_before p at (slice_get p.slots at); after = freed_leads p at (slice_get p.slots at) }
  leads_room p (Err full) = record { calls = []; after = refl }

  -- ---- the peers are closed

  -- whoever is in a slot afterwards was there before, with the same wire
  closed_back_in : (now : ℕ) (slots : List (Option (PeerIo (HeldWire W)))) (slot : ℕ) (after : PeerIo (HeldWire W))
      → slice_get (closed_slots now slots) slot ≡ Some (Some after)
      → (io : PeerIo (HeldWire W)) × (slice_get slots slot ≡ Some (Some io)) × (after.wire ≡ io.wire)
  closed_back_in now [] slot after there = cc
  closed_back_in now (None ∷ slots) zero after there = cc
  closed_back_in now (Some io ∷ slots) zero after there =
      let same : closed_peer now io ≡ after = cc in
      (io, refl, sym (ap (λ (l : PeerIo (HeldWire W)). l.wire) same))
  closed_back_in now (first ∷ slots) (suc slot) after there = closed_back_in now slots slot after there

  closed_back : (before now : ℕ) (p : ServerState (HeldWire W)) (slot : ℕ) (after : PeerIo (HeldWire W))
      → slice_get (after_reset before now p).slots slot ≡ Some (Some after)
      → (io : PeerIo (HeldWire W)) × (slice_get p.slots slot ≡ Some (Some io)) × (after.wire ≡ io.wire)
  closed_back before now p slot after there = by (was_reset before p.adapter) there
    where
      by : (is : Bool) → slice_get (if is then record p { slots = closed_slots now p.slots } else p).slots slot
          ≡ Some (Some after)
          → (io : PeerIo (HeldWire W)) × (slice_get p.slots slot ≡ Some (Some io)) × (after.wire ≡ io.wire)
      by true there = closed_back_in now p.slots slot after there
      by false there = (after, there, refl)

  -- nobody ends
  closed_ended_at : (now : ℕ) (first slot : Option (PeerIo (HeldWire W)))
      → has_ended first (closed_slot now slot) ≡ has_ended first slot
  closed_ended_at now first None = refl
  closed_ended_at now None (Some io) = refl
  closed_ended_at now (Some found) (Some io) = refl

  closed_ended_in : (now : ℕ) (before slots : List (Option (PeerIo (HeldWire W))))
      → ended_in before (closed_slots now slots) ≡ ended_in before slots
  closed_ended_in now [] slots = refl
  closed_ended_in now (first ∷ before) [] = refl
  closed_ended_in now (first ∷ before) (slot ∷ slots) =
      ap (λ (b : Bool). (if b then 1 else 0) + ended_in before (closed_slots now slots)) (closed_ended_at now first slot)
      ∙ ap (λ (n : ℕ). (if has_ended first slot then 1 else 0) + n) (closed_ended_in now before slots)

  closed_ended : (before now : ℕ) (p : ServerState (HeldWire W)) (slots : List (Option (PeerIo (HeldWire W))))
      → ended_in slots (after_reset before now p).slots ≡ ended_in slots p.slots
  closed_ended before now p slots = by (was_reset before p.adapter)
    where
      by : (is : Bool) → ended_in slots (if is then record p { slots = closed_slots now p.slots } else p).slots
          ≡ ended_in slots p.slots
      by true = closed_ended_in now slots p.slots
      by false = refl

  -- the same peers
  closed_of_at : (now : ℕ) (first slot : Option (PeerIo (HeldWire W))) → IsOf first slot
      → IsOf first (closed_slot now slot)
  closed_of_at now first None of = of
  closed_of_at now None (Some io) of = of
  closed_of_at now (Some found) (Some io) of = of

  closed_of_in : (now : ℕ) (before slots : List (Option (PeerIo (HeldWire W)))) → AreOf before slots
      → AreOf before (closed_slots now slots)
  closed_of_in now [] [] of = of
  closed_of_in now [] (slot ∷ slots) of = absurd of
  closed_of_in now (first ∷ before) [] of = of
  closed_of_in now (first ∷ before) (slot ∷ slots) of =
      (closed_of_at now first slot of.0, closed_of_in now before slots of.1)

  closed_of : (before now : ℕ) (p : ServerState (HeldWire W)) (slots : List (Option (PeerIo (HeldWire W))))
      → AreOf slots p.slots → AreOf slots (after_reset before now p).slots
  closed_of before now p slots of = by (was_reset before p.adapter)
    where
      by : (is : Bool) → AreOf slots (if is then record p { slots = closed_slots now p.slots } else p).slots
      by true = closed_of_in now slots p.slots of
      by false = of

  -- the adapter stays
  closed_adapter : (before now : ℕ) (p : ServerState (HeldWire W)) → (after_reset before now p).adapter ≡ p.adapter
  closed_adapter before now p = by (was_reset before p.adapter)
    where
      by : (is : Bool) → (if is then record p { slots = closed_slots now p.slots } else p).adapter ≡ p.adapter
      by true = refl
      by false = refl

  -- the peer that gave way is one more that ended
  one_ended : (before slots : List (Option (PeerIo (HeldWire W)))) (slot : ℕ) (io : PeerIo (HeldWire W))
      → AreOf before slots → slice_get slots slot ≡ Some (Some io)
      → ended_in before (slice_set slots slot None) ≡ ended_in before slots + 1
  one_ended before [] slot io of there = cc
  one_ended [] (found ∷ slots) slot io of there = absurd of
  one_ended (first ∷ before) (None ∷ slots) zero io of there = cc
  one_ended (None ∷ before) (Some found ∷ slots) zero io of there = absurd of.0
  one_ended (Some first ∷ before) (Some found ∷ slots) zero io of there = omega arith
  one_ended (first ∷ before) (found ∷ slots) (suc slot) io of there =
      omega (arith, one_ended before slots slot io of.1 there)

  pub few_ended : (before slots : List (Option (PeerIo (HeldWire W)))) → ended_in before slots ≤ length slots
  few_ended [] slots = omega arith
  few_ended (first ∷ before) [] = omega arith
  few_ended (first ∷ before) (found ∷ slots) =
      omega (arith, few_ended before slots, at_most_one (has_ended first found))

module _ {W O : Type 0} (left written : W → Option (List ℕ)) (answer : O → Asked → Option Reply)
    (next : O → Asked → O) where
  -- ---- the whole round

  round_sends_nothing : (now : ℕ) (first : O) (old : ServerState (HeldWire W)) (last : O) (new : ServerState (HeldWire W))
      → IsHeldRound left written answer next now first old last new → SendsNothing written old new
  round_sends_nothing now first old last new round slot io after there stays =
      same_released written io.wire after.wire
      (round_released (λ w. left w.wire) (held_written written) (held_known written) (λ w. w.counts) answer next now slot
      first last old new io after round there stays)

  -- the guest wrote; a connection was added, or not; wires were marked ready; then a round was made, frames were admitted,
  -- and then room was made
  pub nothing_sent : (input : RoundInput W) (before : ℕ) (old begun added served admitted closed new : ServerState (HeldWire W))
      (first last : O)
      → IsWritten old begun → IsAccepted input.now input.accepted begun added
      → IsHeldRound left written answer next input.now first (with_marks input.ready.items added) last served
      → IsAdmission left written input.now served admitted → closed ≡ after_reset before input.now admitted
      → new ≡ with_room closed input.now input.room_for → SendsNothing written old new
  nothing_sent input before old begun added served admitted closed new first last wrote accepted round admission reset room
      slot io after there stays =
      let m : (middle : PeerIo (HeldWire W))
      × (slice_get (with_marks input.ready.items added).slots slot ≡ Some (Some middle)) × (middle.wire ≡ io.wire)
      = keeps_then old begun (with_marks input.ready.items added) (keeps_written old begun wrote)
      (keeps_then begun added (with_marks input.ready.items added)
      (keeps_accepted input.now input.accepted begun added accepted) (keeps_marks input.ready.items added)) slot io there in
      let kept : slice_get closed.slots slot ≡ Some (Some after)
      = room_kept closed (slot_for closed input.now input.room_for) slot after
      (subst (λ (p : ServerState (HeldWire W)). slice_get p.slots slot ≡ Some (Some after)) room stays) in
      let shut : (last : PeerIo (HeldWire W)) × (slice_get admitted.slots slot ≡ Some (Some last)) × (after.wire ≡ last.wire)
      = closed_back before input.now admitted slot after
      (subst (λ (p : ServerState (HeldWire W)). slice_get p.slots slot ≡ Some (Some after)) reset kept) in
      let was : (before : PeerIo (HeldWire W)) × (slice_get served.slots slot ≡ Some (Some before))
      × (written shut.0.wire.wire ≡ written before.wire.wire)
      = admitted_back left written served.slots admitted.slots admission.slots slot shut.0 shut.1 in
      ap (λ (w : HeldWire W). written w.wire) shut.2
      ∙ was.2
      ∙ round_sends_nothing input.now first (with_marks input.ready.items added) last served round slot m.0 was.0 m.1 was.1
      ∙ ap (λ (w : HeldWire W). written w.wire) m.2

  round_leads : (now : ℕ) (first : O) (old : ServerState (HeldWire W)) (last : O) (new : ServerState (HeldWire W))
      → IsHeldRound left written answer next now first old last new → Leads old.adapter new.adapter
  round_leads now first old last new round =
      let asked : AreAsked answer next first old.adapter last new.adapter
      = law_asked (λ (w : HeldWire W). left w.wire) (held_written written) (held_known written) (λ w. w.counts) answer next
      now first last old new round in
      record { calls = asked.calls; after = asked.adapter }

  admission_leads : (now : ℕ) (old new : ServerState (HeldWire W)) → IsAdmission left written now old new
      → Leads old.adapter new.adapter
  admission_leads now old new is = record { calls = ticks is.times now; after = is.adapter }

  -- nobody ends while frames are admitted and while peers are closed
  all_ended : (input : RoundInput W) (before : ℕ) (added served admitted closed : ServerState (HeldWire W))
      → IsAdmission left written input.now served admitted → closed ≡ after_reset before input.now admitted
      → ended_in (with_marks input.ready.items added).slots closed.slots
      ≡ ended_in (with_marks input.ready.items added).slots served.slots
  all_ended input before added served admitted closed admission reset =
      ap (λ (p : ServerState (HeldWire W)). ended_in (with_marks input.ready.items added).slots p.slots) reset
      ∙ closed_ended before input.now admitted (with_marks input.ready.items added).slots
      ∙ admitted_ended left written (with_marks input.ready.items added).slots served.slots admitted.slots admission.slots

  -- the peers that ended, with one that gave way, if one did
  pub ended_more : (input : RoundInput W) (before : ℕ) (added served admitted closed new : ServerState (HeldWire W))
      (first last : O)
      → IsHeldRound left written answer next input.now first (with_marks input.ready.items added) last served
      → IsAdmission left written input.now served admitted → closed ≡ after_reset before input.now admitted
      → (gave : Bool) → (gave ≡ true → IsOneEnded closed new) → (gave ≡ false → new ≡ closed)
      → ended_in (with_marks input.ready.items added).slots new.slots
      ≡ ended_in (with_marks input.ready.items added).slots served.slots + bool_byte gave
  ended_more input before added served admitted closed new first last round admission reset true one still =
      let ended : IsOneEnded closed new = one refl in
      let of_admitted : AreOf (with_marks input.ready.items added).slots admitted.slots
      = admitted_of left written (with_marks input.ready.items added).slots served.slots admitted.slots
      (round_of (λ (w : HeldWire W). left w.wire) (held_written written) (held_known written) (λ w. w.counts) answer next
      input.now first (with_marks input.ready.items added) last served round)
      admission.slots in
      let of : AreOf (with_marks input.ready.items added).slots closed.slots
      = subst (λ (p : ServerState (HeldWire W)). AreOf (with_marks input.ready.items added).slots p.slots) (sym reset)
      (closed_of before input.now admitted (with_marks input.ready.items added).slots of_admitted) in
      ap (ended_in (with_marks input.ready.items added).slots) ended.3
      ∙ one_ended (with_marks input.ready.items added).slots closed.slots ended.0 ended.1 of ended.2
      ∙ ap (λ n. n + 1) (all_ended input before added served admitted closed admission reset)
  ended_more input before added served admitted closed new first last round admission reset false one still =
      let same : ended_in (with_marks input.ready.items added).slots new.slots
      ≡ ended_in (with_marks input.ready.items added).slots served.slots
      = ap (λ (p : ServerState (HeldWire W)). ended_in (with_marks input.ready.items added).slots p.slots) (still refl)
      ∙ all_ended input before added served admitted closed admission reset in
      omega (arith, same)

  module _ {G : Type 0} (begins : ℕ → G → ServerState (HeldWire W) → G → ServerState (HeldWire W) → O → Type 0)
      (admits : ℕ → G → ServerState (HeldWire W) → G → ServerState (HeldWire W) → Type 0) where
    pub round_taken : (input : RoundInput W) (first_guest guest_begun guest_served last_guest : G)
        (old begun added served admitted closed new : ServerState (HeldWire W)) (first last : O) (outcome : RoundEnd)
        → begins input.now first_guest old guest_begun begun first → IsWritten old begun
        → IsAccepted input.now input.accepted begun added
        → IsHeldRound left written answer next input.now first (with_marks input.ready.items added) last served
        → admits input.now guest_served served last_guest admitted → IsAdmission left written input.now served admitted
        → closed ≡ after_reset (resets_of old.adapter) input.now admitted
        → new ≡ with_room closed input.now input.room_for
        → outcome.ended ≡ ended_in (with_marks input.ready.items added).slots new.slots → outcome.next ≡ next_moment new
        → (calls : List Call) × TakesRound left written answer next begins admits (record { input = input; calls = calls })
        first_guest old last_guest new outcome
    round_taken input first_guest guest_begun guest_served last_guest old begun added served admitted closed new first last
        outcome guest_begins wrote accepted round guest_admits admission reset room ended next_is =
        let closed_leads : Leads closed.adapter new.adapter
        = subst (λ (p : ServerState (HeldWire W)). Leads closed.adapter p.adapter) (sym room)
        (leads_room closed (slot_for closed input.now input.room_for)) in
        let room_leads : Leads admitted.adapter new.adapter
        = subst (λ (a : AdapterState). Leads a new.adapter)
        (ap (λ (p : ServerState (HeldWire W)). p.adapter) reset
        ∙ closed_adapter (resets_of old.adapter) input.now admitted) closed_leads in
        let others : Leads begun.adapter new.adapter
        = leads_then begun.adapter added.adapter new.adapter
        (leads_accepted input.now input.accepted begun added accepted)
        (leads_then added.adapter served.adapter new.adapter
        (round_leads input.now first (with_marks input.ready.items added) last served round)
        (leads_then served.adapter admitted.adapter new.adapter (admission_leads input.now served admitted admission)
        room_leads)) in (
          map Writes wrote.0 ++ others.calls,
          record {
            writes = wrote.0;
            others = others.calls;
            begun = begun;
            added = added;
            served = served;
            admitted = admitted;
            closed = closed;
            guest_begun = guest_begun;
            guest_served = guest_served;
            owner = first;
            owner_served = last;
            own_calls = refl;
            guest_begins = guest_begins;
            wrote = wrote.1;
            accepted = accepted;
            round = round;
            guest_admits = guest_admits;
            admission = admission;
            reset = reset;
            room = room;
            executed = others.after ∙ ap (λ a. after_calls a others.calls) (written_adapter old begun wrote)
                ∙ sym (after_calls-append old.adapter (map Writes wrote.0) others.calls);
            ended = ended;
            next_is = next_is;
          },
        )

-- ---- what the guest has seen

module _ {W : Type 0} where
  accepted_device : (now : ℕ) (accepted : Option (Accepted W)) (old new : ServerState (HeldWire W))
      → IsAccepted now accepted old new → new.adapter.state.shared.objects ≡ old.adapter.state.shared.objects
  accepted_device now None old new is = ap (λ (p : ServerState (HeldWire W)). p.adapter.state.shared.objects) is
  accepted_device now (Some accepted) old new is = by (first_free old.slots) is
    where
      by : (free : Option ℕ) → IsAcceptedIn free now accepted old new
          → new.adapter.state.shared.objects ≡ old.adapter.state.shared.objects
      by None none = ap (λ (p : ServerState (HeldWire W)). p.adapter.state.shared.objects) none
      by (Some free) added =
          added_at now (new_held accepted.wire) accepted.rights accepted.group (slot_for old now accepted.group) old new
          added.0 added.1

  -- Neither a connection that is added, nor wires that are marked, nor frames that are admitted, nor peers that are closed,
  -- nor room that is made changes the device.
  pub still_seen : {T : Type 0} (has_seen : T → Device → Type 0) (left written : W → Option (List ℕ)) (before after last : T)
      (input : RoundInput W) (resets : ℕ) (begun added marked served admitted closed new : ServerState (HeldWire W))
      → IsAccepted input.now input.accepted begun added → marked ≡ with_marks input.ready.items added
      → (has_seen before marked.adapter.state.shared.objects → has_seen after served.adapter.state.shared.objects)
      → IsAdmission left written input.now served admitted → ((device : Device) → has_seen after device → has_seen last device)
      → closed ≡ after_reset resets input.now admitted → new ≡ with_room closed input.now input.room_for
      → has_seen before begun.adapter.state.shared.objects → has_seen last new.adapter.state.shared.objects
  still_seen has_seen left written before after last input resets begun added marked served admitted closed new accepted
      marks round admission keeps reset room seen =
      let begins : marked.adapter.state.shared.objects ≡ begun.adapter.state.shared.objects
      = ap (λ (p : ServerState (HeldWire W)). p.adapter.state.shared.objects) marks
      ∙ accepted_device input.now input.accepted begun added accepted in
      let ends : new.adapter.state.shared.objects ≡ served.adapter.state.shared.objects
      = ap (λ (p : ServerState (HeldWire W)). p.adapter.state.shared.objects) room
      ∙ room_device closed (slot_for closed input.now input.room_for)
      ∙ ap (λ (p : ServerState (HeldWire W)). p.adapter.state.shared.objects) reset
      ∙ ap (λ (a : AdapterState). a.state.shared.objects) (closed_adapter resets input.now admitted)
      ∙ ap (λ (a : AdapterState). a.state.shared.objects) admission.adapter
      ∙ ticked_device admission.times input.now served.adapter in
      subst (has_seen last) (sym ends)
      (keeps served.adapter.state.shared.objects (round (subst (has_seen before) (sym begins) seen)))

-- ---- a round that changes nothing

pub same_contents : (save : AdapterState → Kept) (old new : AdapterState) (saved : Kept) (waits : List Bool) (found : Kept)
    (calls : List Call) → new ≡ after_calls old calls → saved ≡ save new
    → record { adapter = new; saved = saved; waits = waits; found = found }
    ≡ contents_after_calls save (record { adapter = old; saved = saved; waits = waits; found = found }) calls
same_contents save old new saved waits found calls after same =
    ap (λ es. contents new es waits) same
    ∙ ap (contents new (save new)) (sym (ap (still_waiting waits saved) (sym same) ∙ wait_on waits saved))
    ∙ ap (λ a. contents a (save a) (still_waiting waits saved (save a))) after
  where
    contents : AdapterState → Kept → List Bool → DeviceContents
    contents a es ws = record { adapter = a; saved = es; waits = ws; found = found }
