-- A call of `Peers` changes the device by frames of peers, or by a write of the device itself.
use Rattle.std.proofs.Common.{◌≡◌, ◌≢◌, ◌<◌, ◌≤◌, ℕ, List, [], ◌∷◌, slice_get, Bool, true, false, ltb}
use Rattle.std.proofs.Common.{ltb-true, ltb-false, Option, Some, None, Result, Ok, Err, inl, inr, refl, sym, ap, subst, ◌∙◌}
use Rattle.cip_ledger.specs.Device.{Device}
use Rattle.cip_objects.specs.OwnRequests.{Asked}
use Rattle.cip_owner.specs.Replies.{Reply}
use Rattle.enip_adapter.proofs.DeviceLemmas.{step-ends}
use Rattle.enip_adapter.specs.declared.adapter.Full.{Full}
use Rattle.enip_adapter.specs.declared.peer.Rights.{Rights}
use Rattle.enip_adapter.specs.declared.peer.Rights.TheVariants.{Write}
use Rattle.enip_adapter.specs.Calls.{AdapterState, after_call}
use Rattle.enip_adapter.specs.Calls.Call.{Ends_peer, Ticks}
use Rattle.enip_adapter.specs.Turn.Event.{At, Begin, End}
use Rattle.enip_server.specs.declared.peer_io.PeerIo.{PeerIo}
use Rattle.enip_server.specs.declared.wire_counts.WireCounts.{WireCounts}
use Rattle.enip_server.specs.Wires.{KnownCalls}
use Rattle.enip_server.specs.PeerStates.{PeerState, AreFed, IsServed, IsTurn, peer_state_of}
use Rattle.enip_server.specs.PeerStates.AreFed.{None_fed, One_more_fed}
use Rattle.enip_server.specs.Rounds.{idle_of, ServerState, TakesTurn, IsServedPeer, IsLeft, IsSlotServed, AreSlotsServed, IsRound}
use Rattle.enip_server.specs.Rounds.{IsAdded, timeout_at, nobody, no_answer, same_nobody}
use Rattle.enip_server.specs.Evictions.{BeginsIn, IsAddedAt, freed, freed_of, slot_for, with_room_at}
use Rattle.enip_server.specs.Runs.{IsStep}
use Rattle.enip_server.specs.Runs.IsStep.{Adds, Adds_as, Makes_room, MarksReady, Rounds, Rounds_alone, Writes_own, Releases, Takes_time, Closes_all}
use Rattle.enip_server.specs.Watching.{AreFrames, IsChanged}
use Rattle.enip_server.specs.Watching.AreFrames.{No_frame, One_more_frame}
use Rattle.enip_server.proofs.TurnMoves.{not_out}
use Rattle.enip_server.proofs.WatchLemmas.{fed_frame}

-- ---- frames, one after the other

abbrev pub device_in : AdapterState → Device
device_in a = a.state.shared.objects

-- the same device
same_device : (old new : Device) → new ≡ old → AreFrames old new
same_device old new is = subst (AreFrames old) (sym is) No_frame

same_adapter : (a b : AdapterState) → b ≡ a → AreFrames (device_in a) (device_in b)
same_adapter a b is = same_device (device_in a) (device_in b) (ap (λ (x : AdapterState). device_in x) is)

frames_then : (a b c : Device) → AreFrames a b → AreFrames b c → AreFrames a c
frames_then a b c first No_frame = first
frames_then a b c first (One_more_frame {device = device} more frame) =
    One_more_frame (frames_then a b device first more) frame

-- the end of a peer
ended_device : (a b : AdapterState) (peer : ℕ) → b ≡ after_call a (Ends_peer peer) → device_in b ≡ device_in a
ended_device a b peer is = ap (λ (x : AdapterState). device_in x) is ∙ step-ends a.state (End peer)

-- ---- a turn

module _ {O : Type 0} (answer : O → Asked → Option Reply) (after : O → Asked → O) (now peer : ℕ) where
  fed_frames : (first : O) (old : PeerState) (last : O) (new : PeerState) → AreFed answer after now peer first old last new
      → AreFrames (device_in old.adapter) (device_in new.adapter)
  fed_frames first old last new None_fed = No_frame
  fed_frames first old last new (One_more_fed {owner = owner} {d = d} fed out served flushed) =
      One_more_frame (fed_frames first old owner d fed)
      (fed_frame answer after d.adapter new.adapter owner now peer d.inbox flushed.adapter)

  module _ (first : O) (old : PeerState) (last : O) (new : PeerState) (t : IsTurn answer after now peer first old last new)
    where
      -- once the outbox is empty, by whether the adapter closed the peer
      out_frames : t.between.outbox ≡ [] → (closed : Option ℕ) → t.between.closed ≡ closed
          → AreFrames (device_in t.between.adapter) (device_in new.adapter)
      out_frames out None served =
          let s : IsServed answer after now peer first t.between last new = t.served out served in
          subst (λ (x : AdapterState). AreFrames (device_in x) (device_in new.adapter)) s.fetched.adapter
          (fed_frames first s.between last new s.fed)
      out_frames out (Some moment) shut =
          let closed : t.between.closed ≢ None = λ none. cc in
          same_adapter t.between.adapter new.adapter (ap (λ (d : PeerState). d.adapter) (t.discarded out closed).0.same)

      -- after the outbox was written, by what is left of it
      rest_frames : (outbox : List ℕ) → t.between.outbox ≡ outbox
          → AreFrames (device_in t.between.adapter) (device_in new.adapter)
      rest_frames [] out = out_frames out t.between.closed refl
      rest_frames (n ∷ ns) waits =
          let still : t.between.outbox ≢ [] = subst (λ xs. xs ≢ []) (sym waits) (not_out n ns) in
          same_adapter t.between.adapter new.adapter (ap (λ (d : PeerState). d.adapter) (t.waits still).0)

      turn_frames : AreFrames (device_in old.adapter) (device_in new.adapter)
      turn_frames =
          subst (λ (x : AdapterState). AreFrames (device_in x) (device_in new.adapter)) t.flushed.adapter
          (rest_frames t.between.outbox refl)

-- ---- a round

module _ {W O : Type 0} (left written : W → Option (List ℕ)) (known : W → Option KnownCalls) (counts : W → WireCounts)
    (answer : O → Asked → Option Reply) (next : O → Asked → O) (now idle_timeout : ℕ) where
  ready_frames : (first : O) (a : AdapterState) (io : PeerIo W) (last : O) (b : AdapterState) (after : PeerIo W)
      (goes_on : Bool) → IsServedPeer left written known counts answer next now idle_timeout first a io last b after goes_on
      → now < timeout_at idle_timeout io → (ready : Bool) → io.ready ≡ ready → AreFrames (device_in a) (device_in b)
  ready_frames first a io last b after goes_on s early false is = same_adapter a b (s.waits early is).0.0
  ready_frames first a io last b after goes_on s early true is =
      let t : TakesTurn left written known counts answer next now first a io last b after goes_on = s.ready early is in
      turn_frames answer next now io.peer first (peer_state_of left written known counts a io)
      last (peer_state_of left written known counts b after) t.turn

  line_frames : (first : O) (a : AdapterState) (io : PeerIo W) (last : O) (b : AdapterState) (after : PeerIo W)
      (goes_on : Bool) → IsServedPeer left written known counts answer next now idle_timeout first a io last b after goes_on
      → (early : Bool) → ltb now (timeout_at idle_timeout io) ≡ early → AreFrames (device_in a) (device_in b)
  line_frames first a io last b after goes_on s true is =
      ready_frames first a io last b after goes_on s (ltb-true now (timeout_at idle_timeout io) is) io.ready refl
  line_frames first a io last b after goes_on s false is =
      let late : timeout_at idle_timeout io ≤ now = ltb-false now (timeout_at idle_timeout io) is in
      same_adapter a b (s.silent late).0.0

  left_frames : (a : AdapterState) (io : PeerIo W) (goes_on : Bool) (b : AdapterState) (slot : Option (PeerIo W))
      → IsLeft a io goes_on b slot → AreFrames (device_in a) (device_in b)
  left_frames a io true b slot is = same_adapter a b is.0
  left_frames a io false b slot is = same_device (device_in a) (device_in b) (ended_device a b io.peer is.0)

  slot_frames : (first : O) (a : AdapterState) (old : Option (PeerIo W)) (last : O) (b : AdapterState)
      (slot : Option (PeerIo W)) → IsSlotServed left written known counts answer next now idle_timeout first a old last b slot
      → AreFrames (device_in a) (device_in b)
  slot_frames first a None last b slot is = same_adapter a b is.0
  slot_frames first a (Some io) last b slot is =
      frames_then (device_in a) (device_in is.adapter) (device_in b)
      (line_frames first a io last is.adapter is.after is.goes_on is.served (ltb now (timeout_at idle_timeout io)) refl)
      (left_frames is.adapter is.after is.goes_on b slot is.stays)

  slots_frames : (first : O) (a : AdapterState) (slots : List (Option (PeerIo W))) (last : O) (b : AdapterState)
      (places : List (Option (PeerIo W)))
      → AreSlotsServed left written known counts answer next now idle_timeout first a slots last b places
      → AreFrames (device_in a) (device_in b)
  slots_frames first a [] last b [] is = same_adapter a b is.0
  slots_frames first a [] last b (slot ∷ places) is = absurd is
  slots_frames first a (io ∷ slots) last b [] is = absurd is
  slots_frames first a (io ∷ slots) last b (slot ∷ places) is =
      frames_then (device_in a) (device_in is.0) (device_in b) (slot_frames first a io is.1 is.0 slot is.2)
      (slots_frames is.1 is.0 slots last b places is.3)

-- as the law states it
pub law_round : {W O : Type 0} (left written : W → Option (List ℕ)) (known : W → Option KnownCalls) (counts : W → WireCounts)
    (answer : O → Asked → Option Reply) (next : O → Asked → O) (now : ℕ) (first last : O) (old new : ServerState W)
    → IsRound left written known counts answer next now first old last new
    → AreFrames (device_in old.adapter) (device_in new.adapter)
law_round left written known counts answer next now first last old new round =
    let ticked : AdapterState = after_call old.adapter (Ticks now) in
    frames_then (device_in old.adapter) (device_in ticked) (device_in new.adapter)
    (same_device (device_in old.adapter) (device_in ticked) (step-ends old.adapter.state (At now)))
    (slots_frames left written known counts answer next now (idle_of old) first ticked old.slots last new.adapter
    new.slots round.places)

-- ---- the other calls

module _ {W : Type 0} where
  same_state : (p q : ServerState W) → q ≡ p → device_in q.adapter ≡ device_in p.adapter
  same_state p q is = ap (λ (x : ServerState W). device_in x.adapter) is

  added_device : (now : ℕ) (wire : W) (old new : ServerState W) (result : Result ℕ Full) → IsAdded now wire old new result
      → device_in new.adapter ≡ device_in old.adapter
  added_device now wire old new (Ok slot) is =
      ap (λ (x : ServerState W). device_in x.adapter) is.3 ∙ step-ends old.adapter.state (Begin Write None)
  added_device now wire old new (Err full) (inl is) = same_state old new is.2
  added_device now wire old new (Err full) (inr is) =
      ap (λ (x : ServerState W). device_in x.adapter) is.1 ∙ step-ends old.adapter.state (Begin Write None)

  freed_device : (p : ServerState W) (slot : ℕ) (o : Option (Option (PeerIo W)))
      → device_in (freed_of p slot o).adapter ≡ device_in p.adapter
  freed_device p slot None = refl
  freed_device p slot (Some None) = refl
  freed_device p slot (Some (Some io)) = step-ends p.adapter.state (End io.peer)

  begun_device : (now : ℕ) (wire : W) (rights : Rights) (group : Option ℕ) (slot : ℕ) (old new : ServerState W)
      (result : Result ℕ Full) → BeginsIn now wire rights group slot old new result
      → device_in new.adapter ≡ device_in old.adapter
  begun_device now wire rights group slot old new (Ok taken) is =
      ap (λ (x : ServerState W). device_in x.adapter) is.3 ∙ step-ends old.adapter.state (Begin rights group)
  begun_device now wire rights group slot old new (Err full) is = same_state old new is.1

  pub added_at : (now : ℕ) (wire : W) (rights : Rights) (group : Option ℕ) (found : Result ℕ Full) (old new : ServerState W)
      (result : Result ℕ Full) → IsAddedAt now wire rights group found old new result
      → device_in new.adapter ≡ device_in old.adapter
  added_at now wire rights group (Err full) old new result is = same_state old new is.1
  added_at now wire rights group (Ok slot) old new result is =
      begun_device now wire rights group slot (freed old slot) new result is
      ∙ freed_device old slot (slice_get old.slots slot)

  pub room_device : (p : ServerState W) (found : Result ℕ Full)
      → device_in (with_room_at p found).adapter ≡ device_in p.adapter
  room_device p (Err full) = refl
  room_device p (Ok slot) = freed_device p slot (slice_get p.slots slot)

module _ {W O : Type 0} (left written : W → Option (List ℕ)) (known : W → Option KnownCalls) (counts : W → WireCounts)
    (answer : O → Asked → Option Reply) (next : O → Asked → O) where
  stays : (old new : ServerState W) → device_in new.adapter ≡ device_in old.adapter
      → IsChanged (device_in old.adapter) (device_in new.adapter)
  stays old new is = inl (same_device (device_in old.adapter) (device_in new.adapter) is)

  -- as the law states it
  pub law_step : (old new : ServerState W) → IsStep left written known counts answer next old new
      → IsChanged (device_in old.adapter) (device_in new.adapter)
  law_step old new (Adds now wire result is) = stays old new (added_device now wire old new result is)
  law_step old new (Adds_as now wire rights group result is) =
      stays old new (added_at now wire rights group (slot_for old now group) old new result is)
  law_step old new (Makes_room now group is) =
      stays old new (ap (λ (x : ServerState W). device_in x.adapter) is ∙ room_device old (slot_for old now group))
  law_step old new (MarksReady slot ends is) = stays old new (ap (λ (x : ServerState W). device_in x.adapter) is)
  law_step old new (Rounds now first last round) =
      inl (law_round left written known counts answer next now first last old new round)
  law_step old new (Rounds_alone now round) =
      inl (law_round left written known counts no_answer same_nobody now nobody nobody old new round)
  law_step old new (Writes_own write is) = inr (write, ap (λ (x : ServerState W). device_in x.adapter) is)
  law_step old new (Releases still is) = stays old new (ap (λ (x : ServerState W). device_in x.adapter) is)
  law_step old new (Closes_all now is) = stays old new (ap (λ (x : ServerState W). device_in x.adapter) is)
  law_step old new (Takes_time now is) = stays old new (ap (λ (x : ServerState W). device_in x.adapter) is)
