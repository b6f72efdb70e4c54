-- The device's answer to the pending command's message, whatever happened before: the command is done.
use Rattle.std.proofs.Common.{◌≡◌, inl, inr, ℕ, ◌+◌, ◌≤◌, ◌==◌, nat_lt, not, Bool, true, false, if◌then◌else◌}
use Rattle.std.proofs.Common.{Option, Some, None, List, [], ◌∷◌, length, refl, ap, sym, ◌∙◌, subst, arith}
use Rattle.std.specs.Prelude.{MatchOption, ⊤, fold}
use Rattle.std.specs.List.{AllByRecursion}
use Rattle.std.proofs.lemmas.Bool.{eq-eqb, lt-ltb, le-ltb}
use Rattle.cip_bytes.specs.declared.protocol.TheConstants.{UNCONNECTED_LIMIT}
use Rattle.cip_commander.specs.CommanderRule.{IsInRange, message_of, do_once}
use Rattle.enip_reconnect.specs.CommanderLaws.{IsOthers, IsAmong, WasGiven, numbers_in}
use Rattle.enip_reconnect.specs.NumberedWorld.{NumberedWorld, Entry, Own, IsDone, IsRefused, said_bytes, Arrival}
use Rattle.enip_reconnect.specs.NumberedWorld.{Appended, Answered, Device, device_after, arrival, arrival_by, last_again, world_at, world_step}
use Rattle.cip_commander.specs.Outcome.{Done, outcome_of_text}
use Rattle.enip_reconnect.specs.Worlds.{BothEnds}
use Rattle.enip_reconnect.specs.Worlds as messages
use Rattle.enip_reconnect.proofs.Arrivals.{filled_by, IsPlaced, arrived_turn, arrival-turn}
use Rattle.enip_reconnect.proofs.DoOnce.{IsCommand}
use Rattle.enip_reconnect.proofs.Images.{IsSound, image, step-sound, opening-sound, worlds-image}
use Rattle.enip_reconnect.proofs.Logged.{IsExecuted, after-logged}
use Rattle.enip_reconnect.proofs.Numbered.{after-numbered}
use Rattle.enip_reconnect.proofs.Rising.{all_second}
use Rattle.cip_ledger.specs.Device.{owned_standing}
use Rattle.cip_ledger.specs.Ledger.{LedgerState}
use Rattle.cip_ledger.specs.Requests.{is_barred}
use Rattle.cip_message.specs.LedgerCommand.{Command}
use Rattle.cip_ledger.specs.Runs.{answer_to}
use Rattle.cip_ledger.specs.Services.{KEPT_LIMIT, HEAD_SIZE}
use Rattle.cip_ledger.proofs.Finals.{final-embedded}
use Rattle.cip_message.specs.Reply.{reply_of}
use Rattle.cip_ledger.specs.Turn.{Turn, embedded_reply}
use Rattle.cip_owner.specs.Owned.{OwnedState}
use Rattle.cip_owner.specs.OwnedLaws.{exec_owned_within}
use Rattle.enip_adapter.specs.DeviceRuns.{objects_after, objects_answer}
use Rattle.enip_adapter.proofs.ListLemmas.{both}
use Rattle.enip_reconnect.specs.Laws.{MessageEvent, message_ends, numbered_world, opening_in_messages}
use Rattle.enip_reconnect.specs.Retry.{HasSlotFor}
use Rattle.enip_reconnect.specs.World.{Opening}
use Rattle.enip_reconnect.proofs.Finals.{opening-final}

-- The reply to an embedded request is short.
embedded-short : (objects : OwnedState) (request : List ℕ) →
    length (embedded_reply objects_after objects_answer objects request) ≤ KEPT_LIMIT
embedded-short objects request =
    both (λ reply. length reply ≤ KEPT_LIMIT) (is_barred request) _ _ (omega arith)
    (exec_owned_within objects KEPT_LIMIT request (omega arith))

-- ---- the command arrives

-- The command is executed, or was and is answered again.
data IsDoneBy : Arrival → Type 0 where
  Executes : IsDoneBy Appended
  Again : (reply : List ℕ) → IsDoneBy (Answered (IsDone reply))

-- The last command that was executed is not a later one, and its reply is short.
abbrev IsNotLater : ℕ → Option (ℕ × List ℕ) → Type 0
IsNotLater number None = ⊤
IsNotLater number (Some last) = (last.0 ≤ number) × (length last.1 ≤ KEPT_LIMIT)

arrival-done-by : (own number : ℕ) (ledger : LedgerState) (last : Option (ℕ × List ℕ)) → IsPlaced own last ledger.taken →
    HasSlotFor own (filled_by own last ledger) → IsNotLater number last →
    IsDoneBy (arrival_by ledger UNCONNECTED_LIMIT number last)
arrival-done-by own number ledger None placed (inl some) later = absurd (some placed)
arrival-done-by own number ledger None placed (inr free) later =
    subst (λ b. IsDoneBy (if b then Appended else Answered (IsRefused 0x02)))
    (sym (lt-ltb (length ledger.taken) ledger.slots free)) Executes
arrival-done-by own number ledger (Some last) placed slot later =
    subst (λ b. IsDoneBy (if b then Answered (IsRefused 0x0c)
    else (if number == last.0 then last_again UNCONNECTED_LIMIT last.1 else Appended)))
    (sym (le-ltb number last.0 later.0)) (by (number == last.0))
  where
    short : nat_lt UNCONNECTED_LIMIT (HEAD_SIZE + (length last.1 + 1)) ≡ false
    short =
        let few = later.1 in
        le-ltb UNCONNECTED_LIMIT (HEAD_SIZE + (length last.1 + 1)) (omega (arith, few))

    by : (again : Bool) → IsDoneBy (if again then last_again UNCONNECTED_LIMIT last.1 else Appended)
    by true = subst (λ b. IsDoneBy (if b then Answered (IsRefused 0x11) else Answered (IsDone last.1))) (sym short) (Again last.1)
    by false = Executes

filled-life : (own : ℕ) (ledger : LedgerState) (last : Option (ℕ × List ℕ)) →
    (filled_by own last ledger).life ≡ ledger.life
filled-life own ledger None = refl
filled-life own ledger (Some last) = refl

arrival-done : (life own number : ℕ) (device : Device OwnedState) → IsPlaced own device.last device.ledger.taken →
    life ≡ (filled_by own device.last device.ledger).life → HasSlotFor own (filled_by own device.last device.ledger) →
    IsNotLater number device.last → IsDoneBy (arrival life device UNCONNECTED_LIMIT number)
arrival-done life own number device placed same slot later =
    subst (λ b. IsDoneBy (if not b then Answered (IsRefused 0x10) else arrival_by device.ledger UNCONNECTED_LIMIT number device.last))
    (sym (eq-eqb life device.ledger.life (same ∙ filled-life own device.ledger device.last)))
    (arrival-done-by own number device.ledger device.last placed slot later)

-- ---- what was executed is not later

among-below : (number : ℕ) (given : List (ℕ × List ℕ)) (n : ℕ) (request : List ℕ) →
    AllByRecursion (λ (c : ℕ × List ℕ). c.0 ≤ number) given → IsAmong given n request → n ≤ number
among-below number [] n request below among = absurd among
among-below number (first ∷ given) n request below (inl is) =
    subst (λ x. x ≤ number) (ap (λ (c : ℕ × List ℕ). c.0) is) below.0
among-below number (first ∷ given) n request below (inr among) = among-below number given n request below.1 among

module _ (opening : Opening) (range : IsInRange opening.commander) where
  abbrev start : messages.Opening OwnedState
  start = opening_in_messages opening

  abbrev own : ℕ
  own = opening.commander.originator

  abbrev device_of : NumberedWorld → Device OwnedState
  device_of world = device_after objects_after objects_answer owned_standing start world.log

  executed-not-later : (events : List MessageEvent) (number : ℕ) (reply : List ℕ) →
      IsExecuted objects_after objects_answer owned_standing start (numbered_world opening events).log number reply →
      (number ≤ (numbered_world opening events).commander.last_number) × (length reply ≤ KEPT_LIMIT)
  executed-not-later events number reply is =
      let world : NumberedWorld = numbered_world opening events in
      let numbered = after-numbered objects_after objects_answer owned_standing start events in
      let later = all_second (WasGiven world.given) is.earlier (Own number is.request ∷ is.later)
      (subst (AllByRecursion (WasGiven world.given)) is.place numbered.log) in (
        among-below world.commander.last_number world.given number is.request numbered.given.below later.0,
        subst (λ r. length r ≤ KEPT_LIMIT) (sym is.reply_is)
            (embedded-short (device_after objects_after objects_answer owned_standing start is.earlier).router is.request),
      )

  -- The last number of the device is that of the log.
  abbrev IsLast : Option (ℕ × List ℕ) → List Entry → Type 0
  IsLast None log = numbers_in log ≡ []
  IsLast (Some last) log = IsExecuted objects_after objects_answer owned_standing start log last.0 last.1
      × AllByRecursion (λ other. other ≤ last.0) (numbers_in log)

  not-later : (events : List MessageEvent) →
      IsNotLater (numbered_world opening events).commander.last_number (device_of (numbered_world opening events)).last
  not-later events = by (device_of (numbered_world opening events)).last
      (after-logged objects_after objects_answer owned_standing start events).last
    where
      log : List Entry
      log = (numbered_world opening events).log

      by : (last : Option (ℕ × List ℕ)) → IsLast last log →
          IsNotLater (numbered_world opening events).commander.last_number last
      by None is = tt
      by (Some last) is = executed-not-later events last.0 last.1 is.0

  run-sound : (events : List MessageEvent) (world : NumberedWorld) → IsSound objects_after objects_answer owned_standing start range world →
      AllByRecursion (IsOthers own) events →
      IsSound objects_after objects_answer owned_standing start range (fold (world_step objects_after objects_answer owned_standing start) world events)
  run-sound [] world sound others = sound
  run-sound (event ∷ events) world sound others =
      run-sound events (world_step objects_after objects_answer owned_standing start world event)
      (step-sound objects_after objects_answer owned_standing start range world event sound others.0) others.1

-- ---- the answer

done_outcome : (reply : List ℕ) → outcome_of_text (said_bytes (IsDone reply)) ≡ Done reply
unfolding outcome_of_text reply_of
done_outcome reply =
    let enough : nat_lt (length (0 ∷ reply)) 0 ≡ false = le-ltb _ _ (omega arith) in
    rw enough refl

-- The device answers the message of this request: the command is done.
pub record IsAnsweredDone (ends : BothEnds OwnedState) (request : List ℕ) : Type 0 where
  pub reply : List ℕ
  pub outcome : outcome_of_text (answer_to objects_after objects_answer owned_standing ends.device
      (UNCONNECTED_LIMIT, message_of ends.commander request)) ≡ Done reply

-- It does so by what happens when the command arrives.
record IsSaidDone (done : Turn OwnedState) : Type 0 where
  reply : List ℕ
  outcome : outcome_of_text done.answer ≡ Done reply

said-done : (ledger : LedgerState) (router : OwnedState) (life originator number : ℕ) (request : List ℕ)
    (last : Option (ℕ × List ℕ)) (what : Arrival) → IsDoneBy what →
    IsSaidDone (arrived_turn objects_after objects_answer ledger router life originator number request UNCONNECTED_LIMIT last what)
said-done ledger router life originator number request last _ Executes =
    let reply : List ℕ = embedded_reply objects_after objects_answer router request in
    record { reply = reply; outcome = done_outcome reply }
said-done ledger router life originator number request last _ (Again reply) =
    record { reply = reply; outcome = done_outcome reply }

module _ (opening : Opening) (range : IsInRange opening.commander) (events : List MessageEvent)
    (others : AllByRecursion (IsOthers opening.commander.originator) events) (request : List ℕ) where
  abbrev world : NumberedWorld
  world = numbered_world opening events

  abbrev its_device : Device OwnedState
  its_device = device_of opening range world

  abbrev both_ends : BothEnds OwnedState
  both_ends = image objects_after objects_answer owned_standing (opening_in_messages opening) range world

  -- The message as a command of the opening's life and originator.
  abbrev as_given : Command
  as_given = record {
    life = opening.commander.life;
    originator = opening.commander.originator;
    number = world.commander.last_number;
    request = request;
  }

  sound : IsSound objects_after objects_answer owned_standing (opening_in_messages opening) range world
  sound = run-sound opening range events (world_at (opening_in_messages opening))
      (opening-sound objects_after objects_answer owned_standing (opening_in_messages opening) range (opening-final opening)) others

  same-message : message_of world.commander request ≡ do_once as_given
  same-message =
      ap (λ life. do_once (record as_given { life = life; originator = world.commander.originator })) sound.commander.life
      ∙ ap (λ originator. do_once (record as_given { originator = originator })) sound.commander.originator

  is-command : world.commander.pending ≡ Some request → IsCommand as_given
  is-command pending = record {
    life = range.life;
    originator = range.originator;
    number = sound.commander.number;
    request = subst (λ p. MatchOption p ⊤ (λ r. 2 ≤ length r)) pending sound.commander.pending;
  }

  image-done : world.commander.pending ≡ Some request →
      opening.commander.life ≡ (filled_by opening.commander.originator its_device.last its_device.ledger).life →
      HasSlotFor opening.commander.originator
      (filled_by opening.commander.originator its_device.last its_device.ledger) → IsAnsweredDone both_ends request
  image-done pending life slot =
      let own : ℕ = opening.commander.originator in
      let number : ℕ = world.commander.last_number in
      let what : Arrival = arrival opening.commander.life its_device UNCONNECTED_LIMIT number in
      let said : IsSaidDone (arrived_turn objects_after objects_answer its_device.ledger its_device.router
      opening.commander.life own number request UNCONNECTED_LIMIT its_device.last what) =
      said-done its_device.ledger its_device.router opening.commander.life own number request its_device.last what
      (arrival-done opening.commander.life own number its_device sound.placed life slot (not-later opening range events)) in
      record {
        reply = said.reply;
        outcome =
            ap (λ message. outcome_of_text (answer_to objects_after objects_answer owned_standing both_ends.device
            (UNCONNECTED_LIMIT, message))) same-message
            ∙ (ap (λ (done : Turn OwnedState). outcome_of_text done.answer)
            (arrival-turn objects_after objects_answer owned_standing its_device.ledger its_device.router opening.commander.life own number
            request UNCONNECTED_LIMIT
            (final-embedded objects_after objects_answer owned_standing its_device.router request sound.final)
            its_device.last sound.placed (is-command pending))
            ∙ said.outcome);
      }

  pub answered-done : (ledger : LedgerState) → (message_ends opening events).commander.pending ≡ Some request →
      (message_ends opening events).device.ledger ≡ Some ledger → opening.commander.life ≡ ledger.life →
      HasSlotFor opening.commander.originator ledger → IsAnsweredDone (message_ends opening events) request
  answered-done ledger pending ledger_is life slot =
      let same : message_ends opening events ≡ both_ends =
      worlds-image objects_after objects_answer owned_standing (opening_in_messages opening) range events
      (opening-final opening) others in
      let found : Some ledger ≡ Some (filled_by opening.commander.originator its_device.last its_device.ledger) =
      sym ledger_is ∙ ap (λ (x : BothEnds OwnedState). x.device.ledger) same in
      let it : ledger ≡ filled_by opening.commander.originator its_device.last its_device.ledger = cc in
      subst (λ x. IsAnsweredDone x request) (sym same)
      (image-done (sym (ap (λ (x : BothEnds OwnedState). x.commander.pending) same) ∙ pending)
      (life ∙ ap (λ (l : LedgerState). l.life) it)
      (subst (HasSlotFor opening.commander.originator) it slot))
