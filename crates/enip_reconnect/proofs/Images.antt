-- Both ends are the image of the numbered world, step by step.
use Rattle.std.proofs.Common.{◌≡◌, ℕ, ◌+◌, ◌<◌, ◌≤◌, ◌^◌, ◌==◌, nat_lt, nat_le, Bool, true, false, if◌then◌else◌, Option, Some, None, unwrap_or, List, [], ◌∷◌, ◌++◌, length, map, refl, ap, sym, ◌∙◌, subst, arith, slice_index}
use Rattle.std.specs.Prelude.{⊤, option_map, is_some, fold, MatchOption}
use Rattle.std.specs.List.{slice_get, AllByRecursion}
use Rattle.std.proofs.lemmas.Bool.{le-ltb, ltb-true, leb-true, and_parts}
use Rattle.std.proofs.lemmas.Option.{slice_get-map}
use Rattle.std.proofs.lemmas.List.{append-nil, map-append}
use Rattle.cip_message.specs.Reply.{reply_of}
use Rattle.cip_ledger.specs.declared.router.LedgerRouter.{LedgerRouter}
use Rattle.cip_ledger.specs.declared.target.Standing.{Standing}
use Rattle.cip_ledger.specs.Ledger.{LedgerState, slot_of}
use Rattle.cip_message.specs.LedgerCommand.{Command}
use Rattle.cip_ledger.specs.Services.{Replies, Executes, Queues, Frees}
use Rattle.cip_ledger.specs.Turn.{Fate, Passed, Served, fate, Turn, turn, turn_by}
use Rattle.cip_ledger.specs.Runs.{slot_in, node_of, next, StaysFinal}
use Rattle.cip_ledger.specs.Laws.{IsOfAnother}
use Rattle.cip_ledger.proofs.SlotLemmas.{slot_of-with_slot}
use Rattle.cip_ledger.proofs.Settled.{others-run}
use Rattle.cip_ledger.proofs.Finals.{final-embedded, final-after_embedded, final-next}
use Rattle.cip_commander.specs.declared.refusal.CommandRefused.{CommandRefused}
use Rattle.cip_commander.specs.Outcome as outcomes
use Rattle.cip_commander.specs.Outcome.{outcome_of_text}
use Rattle.cip_commander.specs.CommanderRule.{IsInRange, CommanderState, do_once, embedded_refusal, number_refusal, first_refusal, is_request, command_refusal, outcome_of, MOST_NUMBER}
use Rattle.enip_reconnect.specs.Worlds.{Event, NewCommand, Abandon, Send, Reach, Back, Other, Opening, BothEnds, ends_step, ends_reach, ends_back, ends_after, heard, sends, awaits, seen_of_ends}
use Rattle.cip_commander.specs.CommanderRule.{after_given}
use Rattle.enip_reconnect.specs.NumberedWorld.{Own, Another, Said, IsDone, IsRefused, said_bytes, answer_in, Device, device_step, device_after, NumberedWorld, world_at, world_step, world_reach, world_back, world_after, said_of, Arrival, Appended, Answered, arrival, arrived, blank_slot, seen_of_world}
use Rattle.enip_reconnect.specs.CommanderLaws.{IsOthers}
use Rattle.enip_reconnect.proofs.DoOnce.{IsCommand}
use Rattle.enip_reconnect.proofs.Filled.{own_slot}
use Rattle.enip_reconnect.proofs.OtherOriginators.{filled, turn-alike}
use Rattle.enip_reconnect.proofs.Rising.{all_at, all_append, device-after}
use Rattle.enip_reconnect.proofs.Arrivals.{filled_by, IsPlaced, arrived_turn, arrival-turn}

-- ---- what the originator hears of an answer

refused_outcome : (status : ℕ) (done : Bool) → (status == 0) ≡ done →
    outcome_of_text (said_bytes (IsRefused status)) ≡ (if done then outcomes.Malformed else outcomes.Refused status)
unfolding outcome_of_text reply_of
refused_outcome status done is = rw is refl

done_outcome : (reply : List ℕ) → outcome_of_text (said_bytes (IsDone reply)) ≡ outcomes.Done reply
unfolding outcome_of_text reply_of
done_outcome reply =
    let enough : nat_lt (length (0 ∷ reply)) 0 ≡ false = le-ltb _ _ (omega arith) in
    rw enough refl

-- ---- a command is given

given_fits : (request : List ℕ) (is : Bool) (fits : Bool) (whys whyn : CommandRefused) → is_request request ≡ is →
    (if is then (if fits then None else Some whyn) else Some whys) ≡ None → 2 ≤ length request
given_fits request true fits whys whyn is none =
    leb-true 2 (length request) (and_parts (nat_le 2 (length request)) (nat_lt (slice_index request 0) 128) is).0
given_fits request false fits whys whyn is none = absurd (cc)

next_fits : (last_number : ℕ) (below : Bool) (why : CommandRefused) → nat_lt last_number MOST_NUMBER ≡ below →
    (if below then None else Some why) ≡ None → last_number + 1 < 2 ^ 32
next_fits last_number true why is none =
    let under = ltb-true last_number MOST_NUMBER is in
    omega arith
next_fits last_number false why is none = absurd (cc)

parts_of : (pending : Option (List ℕ)) (embedded number : Option CommandRefused) → first_refusal pending embedded number ≡ None →
    (embedded ≡ None) × (number ≡ None)
parts_of (Some request) embedded number none = absurd (cc)
parts_of None (Some why) number none = absurd (cc)
parts_of None None number none = (refl, none)

-- ---- the image

-- a command that can be sent
pub record IsSendable (message : ℕ × List ℕ) : Type 0 where
  pub number : message.0 < 2 ^ 32
  pub request : 2 ≤ length message.1

-- what the originator has pending
abbrev pub IsPendable : Option (List ℕ) → Type 0
IsPendable pending = MatchOption pending ⊤ (λ request. 2 ≤ length request)

-- a commander of the opening's life and originator, in range
pub record IsOurs (opening commander : CommanderState) : Type 0 where
  pub life : commander.life ≡ opening.life
  pub originator : commander.originator ≡ opening.originator
  pub number : commander.last_number < 2 ^ 32
  pub pending : IsPendable commander.pending

given-ours : (opening commander : CommanderState) (request : List ℕ) (refusal : Option CommandRefused) → IsOurs opening commander →
    command_refusal commander request ≡ refusal → IsOurs opening (after_given commander request refusal)
given-ours opening commander request None ours is =
    let parts = parts_of commander.pending (embedded_refusal request) (number_refusal commander.last_number) is in
    record {
      life = ours.life;
      originator = ours.originator;
      number = next_fits commander.last_number _ _ refl parts.1;
      pending = given_fits request _ _ _ _ refl parts.0;
    }
given-ours opening commander request (Some why) ours is = ours

sends-ours : (opening commander : CommanderState) (pending : Option (List ℕ)) → IsPendable pending → commander.last_number < 2 ^ 32 →
    AllByRecursion IsSendable (sends commander pending)
sends-ours opening commander None fits number = tt
sends-ours opening commander (Some request) fits number = (record { number = number; request = fits }, tt)

abbrev pub command_numbered : CommanderState → ℕ × List ℕ → Command
command_numbered opening message = record {
  life = opening.life;
  originator = opening.originator;
  number = message.0;
  request = message.1;
}

abbrev pub message_in : CommanderState → ℕ × List ℕ → ℕ × List ℕ
message_in opening message = (message.0, do_once (command_numbered opening message))

sends-image : (opening commander : CommanderState) (pending : Option (List ℕ)) → commander.life ≡ opening.life →
    commander.originator ≡ opening.originator →
    sends commander (option_map (λ request. do_once (record { life = commander.life; originator = commander.originator; number = commander.last_number; request = request })) pending)
    ≡ map (message_in opening) (sends commander pending)
sends-image opening commander None life originator = refl
sends-image opening commander (Some request) life originator =
    ap (λ l. (commander.last_number, do_once (record { life = l; originator = commander.originator; number = commander.last_number; request = request })) ∷ []) life
    ∙ ap (λ o. (commander.last_number, do_once (record { life = opening.life; originator = o; number = commander.last_number; request = request })) ∷ []) originator

module _ {M : Type 0} (after : M → ℕ → List ℕ → M) (answer : M → ℕ → List ℕ → List ℕ) (standing : M → List ℕ → Standing)
    (opening : Opening M) (range : IsInRange opening.commander) where
  abbrev own : ℕ
  own = opening.commander.originator

  abbrev pub device_of : NumberedWorld → Device M
  device_of world = device_after after answer standing opening world.log

  abbrev pub node_in : Device M → LedgerRouter M
  node_in device = record { ledger = Some (filled_by own device.last device.ledger); router = device.router }

  abbrev pub image : NumberedWorld → BothEnds M
  image world = record {
    device = node_in (device_of world);
    commander = world.commander;
    sent = map (message_in opening.commander) world.sent;
    back = map answer_in world.back;
    accepted = world.accepted;
  }

  pub record IsSound (world : NumberedWorld) : Type 0 where
    pub commander : IsOurs opening.commander world.commander
    pub sent : AllByRecursion IsSendable world.sent
    pub placed : IsPlaced own (device_of world).last (device_of world).ledger.taken
    pub final : StaysFinal after answer standing (device_of world).router

  -- ---- a message reaches the device

  abbrev put : NumberedWorld → ℕ → Turn M → BothEnds M
  put world number done = record (image world) {
    device = node_of done;
    back = map answer_in world.back ++ (number, done.answer) ∷ [];
  }

  arrived-image : (world : NumberedWorld) (message : ℕ × List ℕ) (what : Arrival) →
      put world message.0
      (arrived_turn after answer (device_of world).ledger (device_of world).router opening.commander.life own message.0 message.1 0 (device_of world).last what)
      ≡ image (arrived after answer standing what world (device_of world) message.0 message.1)
  arrived-image world message Appended =
      rw (device-after after answer standing opening world.log (Own message.0 message.1), map-append answer_in world.back) refl
  arrived-image world message (Answered said) = rw (map-append answer_in world.back) refl

  reach-image : (world : NumberedWorld) (max_size : ℕ) (found : Option (ℕ × List ℕ)) → IsSound world → MatchOption found ⊤ IsSendable →
      ends_reach after answer standing (image world) max_size (option_map (message_in opening.commander) found)
      ≡ image (world_reach after answer standing opening world max_size found)
  reach-image world max_size None sound fits = refl
  reach-image world max_size (Some message) sound fits =
      let device = device_of world in
      let is : IsCommand (command_numbered opening.commander message) = record {
        life = range.life;
        originator = range.originator;
        number = fits.number;
        request = fits.request;
      } in
      ap (put world message.0)
      (arrival-turn after answer standing device.ledger device.router opening.commander.life own message.0 message.1 max_size
      (final-embedded after answer standing device.router message.1 sound.final) device.last sound.placed is)
      ∙ arrived-image world message (arrival opening.commander.life device max_size message.0)

  arrived-sound : (world : NumberedWorld) (number : ℕ) (request : List ℕ) (what : Arrival) → IsSound world →
      IsSound (arrived after answer standing what world (device_of world) number request)
  arrived-sound world number request Appended sound = record {
    commander = sound.commander;
    sent = sound.sent;
    placed =
        let taken = (device_of world).ledger.taken in
        let P : Device M → Type 0 = λ device. IsPlaced own device.last device.ledger.taken in
        subst P (sym (device-after after answer standing opening world.log (Own number request))) (blank_slot own, slot_of-with_slot taken (blank_slot own));
    final =
        let P : Device M → Type 0 = λ device. StaysFinal after answer standing device.router in
        subst P (sym (device-after after answer standing opening world.log (Own number request)))
        (final-after_embedded after answer standing (device_of world).router request sound.final);
  }
  arrived-sound world number request (Answered said) sound =
      record { commander = sound.commander; sent = sound.sent; placed = sound.placed; final = sound.final }

  reach-sound : (world : NumberedWorld) (max_size : ℕ) (found : Option (ℕ × List ℕ)) → IsSound world →
      IsSound (world_reach after answer standing opening world max_size found)
  reach-sound world max_size None sound = sound
  reach-sound world max_size (Some message) sound =
      arrived-sound world message.0 message.1 (arrival opening.commander.life (device_of world) max_size message.0) sound

  -- ---- a request of another reaches the device

  ledger-stays : (fate : Fate) (ledger : LedgerState) (router : M) (max_size : ℕ) (text : List ℕ) →
      let done = turn_by after answer fate (Some ledger) router max_size text in
      done.ledger ≡ Some (unwrap_or done.ledger ledger)
  ledger-stays Passed ledger router max_size text = refl
  ledger-stays (Served service (Replies reply)) ledger router max_size text = refl
  ledger-stays (Served service (Executes command)) ledger router max_size text = refl
  ledger-stays (Served service (Queues command ticket)) ledger router max_size text = refl
  ledger-stays (Served service (Frees originator)) ledger router max_size text = refl

  same_node : (one other : Option LedgerState) (router again : M) → one ≡ other → router ≡ again →
      let left : LedgerRouter M = record { ledger = one; router = router } in
      let right : LedgerRouter M = record { ledger = other; router = again } in
      left ≡ right
  same_node one other router again ledgers routers = cc

  abbrev done_by : LedgerState → M → ℕ → List ℕ → Turn M
  done_by ledger router max_size request = turn after answer standing (Some ledger) router max_size request

  other-node : (last : Option (ℕ × List ℕ)) (ledger : LedgerState) (router : M) (max_size : ℕ) (request : List ℕ) →
      IsOfAnother own (max_size, request) →
      next after answer standing (record { ledger = Some (filled_by own last ledger); router = router }) (max_size, request)
      ≡ node_in (device_step after answer standing own (record { ledger = ledger; router = router; last = last }) (Another max_size request))
  other-node None ledger router max_size request others =
      same_node _ _ _ _ (ledger-stays (fate standing (Some ledger) router max_size request) ledger router max_size request) refl
  other-node (Some last) ledger router max_size request others =
      let slot = own_slot own last.0 last.1 in
      let alike = turn-alike after answer standing slot ledger router max_size request others in
      same_node _ _ _ _
      (alike.ledger ∙ ap (option_map (filled slot)) (ledger-stays (fate standing (Some ledger) router max_size request) ledger router max_size request))
      alike.router

  other-slot : (ledger : LedgerState) (router : M) (max_size : ℕ) (request : List ℕ) → IsOfAnother own (max_size, request) →
      slot_of own (unwrap_or (done_by ledger router max_size request).ledger ledger).taken ≡ slot_of own ledger.taken
  other-slot ledger router max_size request others =
      ap (slot_in own) (sym (ledger-stays (fate standing (Some ledger) router max_size request) ledger router max_size request))
      ∙ others-run after answer standing ((max_size, request) ∷ []) (record { ledger = Some ledger; router = router }) own (others, tt)

  other-placed : (last : Option (ℕ × List ℕ)) (ledger : LedgerState) (router : M) (max_size : ℕ) (request : List ℕ) →
      IsOfAnother own (max_size, request) → IsPlaced own last ledger.taken →
      IsPlaced own last (unwrap_or (done_by ledger router max_size request).ledger ledger).taken
  other-placed None ledger router max_size request others placed = other-slot ledger router max_size request others ∙ placed
  other-placed (Some last) ledger router max_size request others placed =
      (placed.0, other-slot ledger router max_size request others ∙ placed.1)

  -- ---- an answer reaches the originator

  pending_outcome : (commander : CommanderState) (pending : Option (List ℕ)) (text : List ℕ) → is_some pending ≡ true →
      outcome_of (record commander { pending = pending }) text ≡ outcome_of_text text
  pending_outcome commander None text is = absurd (cc)
  pending_outcome commander (Some request) text is = refl

  said-image : (world : NumberedWorld) (said : Said) → is_some world.commander.pending ≡ true →
      heard (image world) (outcome_of world.commander (said_bytes said)) ≡ image (said_of said world)
  said-image world (IsDone reply) is =
      ap (heard (image world)) (pending_outcome world.commander world.commander.pending (said_bytes (IsDone reply)) is ∙ done_outcome reply)
  said-image world (IsRefused status) is =
      ap (heard (image world))
      (pending_outcome world.commander world.commander.pending (said_bytes (IsRefused status)) is ∙ refused_outcome status (status == 0) refl)
      ∙ go (status == 0)
    where
      go : (done : Bool) → heard (image world) (if done then outcomes.Malformed else outcomes.Refused status) ≡ image world
      go true = rw append-nil refl
      go false = rw append-nil refl

  back-image : (world : NumberedWorld) (found : Option (ℕ × Said)) →
      ends_back (image world) (option_map answer_in found) ≡ image (world_back world found)
  back-image world None = refl
  back-image world (Some said) = go (awaits world.commander said.0) refl
    where
      go : (is : Bool) → awaits world.commander said.0 ≡ is →
          (if is then heard (image world) (outcome_of world.commander (said_bytes said.1)) else image world)
          ≡ image (if is then said_of said.1 world else world)
      go true is =
          said-image world said.1
          (and_parts (is_some world.commander.pending) (world.commander.last_number == said.0) is).0
      go false is = refl

  said-sound : (world : NumberedWorld) (said : Said) → IsSound world → IsSound (said_of said world)
  said-sound world (IsDone reply) sound = record {
    commander = record {
      life = sound.commander.life;
      originator = sound.commander.originator;
      number = sound.commander.number;
      pending = tt;
    };
    sent = sound.sent;
    placed = sound.placed;
    final = sound.final;
  }
  said-sound world (IsRefused status) sound = sound

  back-sound : (world : NumberedWorld) (found : Option (ℕ × Said)) → IsSound world → IsSound (world_back world found)
  back-sound world None sound = sound
  back-sound world (Some said) sound = go (awaits world.commander said.0)
    where
      go : (is : Bool) → IsSound (if is then said_of said.1 world else world)
      go true = said-sound world said.1 sound
      go false = sound

  -- ---- each event

  pub found_sendable : (found : Option (ℕ × List ℕ)) (sent : List (ℕ × List ℕ)) (position : ℕ) → AllByRecursion IsSendable sent →
      slice_get sent position ≡ found → MatchOption found ⊤ IsSendable
  found_sendable None sent position all is = tt
  found_sendable (Some message) sent position all is = all_at IsSendable sent position message all is

  pub step-image : (world : NumberedWorld) (event : Event) → IsSound world → IsOthers own event →
      ends_step after answer standing (image world) event ≡ image (world_step after answer standing opening world event)
  step-image world (NewCommand request) sound others = refl
  step-image world Abandon sound others = refl
  step-image world Send sound others =
      ap (λ sent. record (image world) { sent = sent })
      (ap (λ more. map (message_in opening.commander) world.sent ++ more)
      (sends-image opening.commander world.commander world.commander.pending sound.commander.life sound.commander.originator)
      ∙ sym (map-append (message_in opening.commander) world.sent (sends world.commander world.commander.pending)))
  step-image world (Reach position max_size) sound others =
      ap (ends_reach after answer standing (image world) max_size) (slice_get-map (message_in opening.commander) world.sent position)
      ∙ reach-image world max_size (slice_get world.sent position) sound
      (found_sendable (slice_get world.sent position) world.sent position sound.sent refl)
  step-image world (Back position) sound others =
      ap (ends_back (image world)) (slice_get-map answer_in world.back position) ∙ back-image world (slice_get world.back position)
  step-image world (Other max_size request) sound others =
      let device = device_of world in
      ap (λ node. record (image world) { device = node })
      (other-node device.last device.ledger device.router max_size request others
      ∙ ap node_in (sym (device-after after answer standing opening world.log (Another max_size request))))

  pub step-sound : (world : NumberedWorld) (event : Event) → IsSound world → IsOthers own event →
      IsSound (world_step after answer standing opening world event)
  step-sound world (NewCommand request) sound others = record {
    commander = given-ours opening.commander world.commander request (command_refusal world.commander request) sound.commander refl;
    sent = sound.sent;
    placed = sound.placed;
    final = sound.final;
  }
  step-sound world Abandon sound others = record {
    commander = record {
      life = sound.commander.life;
      originator = sound.commander.originator;
      number = sound.commander.number;
      pending = tt;
    };
    sent = sound.sent;
    placed = sound.placed;
    final = sound.final;
  }
  step-sound world Send sound others = record {
    commander = sound.commander;
    sent =
        all_append IsSendable world.sent _ sound.sent
        (sends-ours opening.commander world.commander world.commander.pending sound.commander.pending sound.commander.number);
    placed = sound.placed;
    final = sound.final;
  }
  step-sound world (Reach position max_size) sound others = reach-sound world max_size (slice_get world.sent position) sound
  step-sound world (Back position) sound others = back-sound world (slice_get world.back position) sound
  step-sound world (Other max_size request) sound others = record {
    commander = sound.commander;
    sent = sound.sent;
    placed =
        let device = device_of world in
        let P : Device M → Type 0 = λ device. IsPlaced own device.last device.ledger.taken in
        subst P (sym (device-after after answer standing opening world.log (Another max_size request)))
        (other-placed device.last device.ledger device.router max_size request others sound.placed);
    final =
        let device = device_of world in
        let P : Device M → Type 0 = λ device. StaysFinal after answer standing device.router in
        subst P (sym (device-after after answer standing opening world.log (Another max_size request)))
        (final-next after answer standing (record { ledger = Some device.ledger; router = device.router }) (max_size, request)
        sound.final);
  }

  pub run-image : (events : List Event) (world : NumberedWorld) → IsSound world → AllByRecursion (IsOthers own) events →
      fold (ends_step after answer standing) (image world) events ≡ image (fold (world_step after answer standing opening) world events)
  run-image [] world sound others = refl
  run-image (event ∷ events) world sound others =
      ap (λ ends. fold (ends_step after answer standing) ends events) (step-image world event sound others.0)
      ∙ run-image events (world_step after answer standing opening world event) (step-sound world event sound others.0) others.1

  pub opening-sound : StaysFinal after answer standing opening.router → IsSound (world_at opening)
  opening-sound final = record {
    commander = record { life = refl; originator = refl; number = range.last_number; pending = range.pending };
    sent = tt;
    placed = refl;
    final = final;
  }

  -- both ends, after any events, are the image of the numbered world
  pub worlds-image : (events : List Event) → StaysFinal after answer standing opening.router → AllByRecursion (IsOthers own) events →
      ends_after after answer standing opening events ≡ image (world_after after answer standing opening events)
  worlds-image events final others = run-image events (world_at opening) (opening-sound final) others

  pub worlds-agree : (events : List Event) → StaysFinal after answer standing opening.router → AllByRecursion (IsOthers own) events →
      seen_of_ends (ends_after after answer standing opening events) ≡ seen_of_world after answer standing opening (world_after after answer standing opening events)
  worlds-agree events final others = ap seen_of_ends (worlds-image events final others)
