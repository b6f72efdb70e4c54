-- Every run of both ends over TCP connections amounts to messages.
use Rattle.std.proofs.Common.{◌≡◌, ℕ, Bool, true, false, if◌then◌else◌, Option, Some, None, List, [], ◌∷◌, ◌++◌, refl}
use Rattle.std.proofs.Common.{ap, sym, ◌∙◌, subst, append_assoc, append-nil}
use Rattle.std.specs.Prelude.{fold}
use Rattle.std.specs.List.{slice_get, AllByRecursion}
use Rattle.std.proofs.lemmas.List.Sums.{fold-append}
use Rattle.cip_commander.specs.CommanderRule.{IsInRange}
use Rattle.enip_reconnect.specs.CommanderLaws.{IsOthers, requests_of, request_of}
use Rattle.enip_reconnect.specs.NumberedWorld.{NumberedWorld, world_at, world_step, world_reach, world_back, arrived}
use Rattle.enip_reconnect.specs.NumberedWorld.{Arrival, Appended, Answered, Said, IsDone, IsRefused, said_of}
use Rattle.enip_reconnect.specs.NumberedWorld.{device_after}
use Rattle.enip_reconnect.specs.Worlds.{BothEnds, awaits}
use Rattle.enip_reconnect.specs.Worlds as messages
use Rattle.enip_reconnect.proofs.Images.{IsSound, image, step-image, step-sound, opening-sound}
use Rattle.enip_reconnect.proofs.Rising.{all_append}
use Rattle.cip_ledger.specs.Device.{owned_standing}
use Rattle.cip_owner.specs.Owned.{OwnedState}
use Rattle.enip_adapter.specs.DeviceRuns.{objects_after, objects_answer, requests_of_calls}
use Rattle.enip_adapter.proofs.SoundLemmas.{sound-shared}
use Rattle.enip_reconnect.specs.Events.{Event, NewCommand, Abandon, Connect, Register, Send, Ask, Arrive, Receive}
use Rattle.enip_reconnect.specs.Events.{Break, End, Other}
use Rattle.enip_reconnect.specs.Laws.{IsOfOthers, AreOfOthers, MessageEvent, opening_in_messages, decisions_in}
use Rattle.enip_reconnect.specs.Laws.{decisions_in_messages, requests_in, AmountsTo, messages_law}
use Rattle.enip_reconnect.specs.World.{Ends, Opening, device_at, ends_at, calls_at, ends_step, ends_run}
use Rattle.enip_reconnect.proofs.Arriving.{arrives}
use Rattle.enip_reconnect.proofs.Finals.{opening-final}
use Rattle.enip_reconnect.proofs.Connecting.{connects, registers-session, sends-message, inquires}
use Rattle.enip_reconnect.proofs.Others.{breaks, end, others-call}
use Rattle.enip_reconnect.proofs.Receiving.{receives}
use Rattle.enip_reconnect.proofs.Steps.{StepComes, new-command, abandon, message_step, message_run, given_at, given_by}
use Rattle.enip_reconnect.proofs.Tracking.{Tracks, in_messages}

-- ---- each event

comes : (own : ℕ) (ends : Ends) (sent back : List (ℕ × List ℕ)) (event : Event) → Tracks own ends sent back →
    IsOfOthers own ends event → StepComes own ends event sent back
comes own ends sent back (NewCommand request) is others = new-command own ends sent back request is
comes own ends sent back Abandon is others = abandon own ends sent back is
comes own ends sent back (Connect wants) is others = connects own ends sent back wants ends.connection is
comes own ends sent back Register is others = registers-session own ends sent back ends.connection is
comes own ends sent back Send is others = sends-message own ends sent back ends.commander.pending ends.connection is
comes own ends sent back (Ask request) is others = inquires own ends sent back request ends.connection is others.0 others.1
comes own ends sent back (Arrive now peer count) is others = arrives own ends sent back now peer count is
comes own ends sent back (Receive count) is others = receives own ends sent back count ends.connection is
comes own ends sent back Break is others = breaks own ends sent back is
comes own ends sent back (End peer) is others = end own ends sent back peer is
comes own ends sent back (Other call) is others = others-call own ends sent back call is others

-- ---- several events

-- A run, and what it comes to in messages.
record RunsTo (own : ℕ) (ends : Ends) (events : List Event) (sent back : List (ℕ × List ℕ)) (more : List MessageEvent)
    (new_sent new_back : List (ℕ × List ℕ)) : Type 0 where
  tracks : Tracks own (ends_run ends events) new_sent new_back
  image : message_run (in_messages ends sent back) more ≡ in_messages (ends_run ends events) new_sent new_back
  reached : requests_in ends events ≡ requests_of objects_after objects_answer owned_standing (in_messages ends sent back) more
  decided : decisions_in events ≡ decisions_in_messages more
  given : (ends_run ends events).given ≡ ends.given ++ given_by (in_messages ends sent back) more
  others : AllByRecursion (IsOthers own) more

requests-append : (events more : List MessageEvent) (ends : BothEnds OwnedState) →
    requests_of objects_after objects_answer owned_standing ends (events ++ more)
    ≡ requests_of objects_after objects_answer owned_standing ends events
    ++ requests_of objects_after objects_answer owned_standing (message_run ends events) more
requests-append [] more ends = refl
requests-append (event ∷ events) more ends =
    ap (λ rest. request_of objects_after objects_answer owned_standing ends event ++ rest)
    (requests-append events more (message_step ends event))
    ∙ sym (append_assoc (request_of objects_after objects_answer owned_standing ends event) _ _)

given-append : (events more : List MessageEvent) (ends : BothEnds OwnedState) →
    given_by ends (events ++ more) ≡ given_by ends events ++ given_by (message_run ends events) more
given-append [] more ends = refl
given-append (event ∷ events) more ends =
    ap (λ rest. given_at ends event ++ rest) (given-append events more (message_step ends event))
    ∙ sym (append_assoc (given_at ends event) _ _)

requests_in-append : (events later : List Event) (ends : Ends) →
    requests_in ends (events ++ later) ≡ requests_in ends events ++ requests_in (ends_run ends events) later
requests_in-append [] later ends = refl
requests_in-append (event ∷ events) later ends =
    ap (λ rest. requests_of_calls ends.adapter (calls_at ends event) ++ rest)
    (requests_in-append events later (ends_step ends event))
    ∙ sym (append_assoc (requests_of_calls ends.adapter (calls_at ends event)) _ _)

decisions-append : (events later : List Event) → decisions_in (events ++ later) ≡ decisions_in events ++ decisions_in later
decisions-append [] later = refl
decisions-append (NewCommand request ∷ events) later =
    ap (λ rest. messages.NewCommand request ∷ rest) (decisions-append events later)
decisions-append (Abandon ∷ events) later = ap (λ rest. messages.Abandon ∷ rest) (decisions-append events later)
decisions-append (Connect wants ∷ events) later = decisions-append events later
decisions-append (Register ∷ events) later = decisions-append events later
decisions-append (Send ∷ events) later = decisions-append events later
decisions-append (Ask request ∷ events) later = decisions-append events later
decisions-append (Arrive now peer count ∷ events) later = decisions-append events later
decisions-append (Receive count ∷ events) later = decisions-append events later
decisions-append (Break ∷ events) later = decisions-append events later
decisions-append (End peer ∷ events) later = decisions-append events later
decisions-append (Other call ∷ events) later = decisions-append events later

decided-append : (events more : List MessageEvent) →
    decisions_in_messages (events ++ more) ≡ decisions_in_messages events ++ decisions_in_messages more
decided-append [] more = refl
decided-append (messages.NewCommand request ∷ events) more =
    ap (λ rest. messages.NewCommand request ∷ rest) (decided-append events more)
decided-append (messages.Abandon ∷ events) more =
    ap (λ rest. messages.Abandon ∷ rest) (decided-append events more)
decided-append (messages.Send ∷ events) more = decided-append events more
decided-append (messages.Reach position max_size ∷ events) more = decided-append events more
decided-append (messages.Back position ∷ events) more = decided-append events more
decided-append (messages.Other max_size request ∷ events) more = decided-append events more

runs-two : (own : ℕ) (ends : Ends) (events later : List Event) (sent back : List (ℕ × List ℕ)) (more further : List MessageEvent)
    (new_sent new_back last_sent last_back : List (ℕ × List ℕ)) →
    RunsTo own ends events sent back more new_sent new_back →
    RunsTo own (ends_run ends events) later new_sent new_back further last_sent last_back →
    RunsTo own ends (events ++ later) sent back (more ++ further) last_sent last_back
runs-two own ends events later sent back more further new_sent new_back last_sent last_back first second =
    let joined : ends_run ends (events ++ later) ≡ ends_run (ends_run ends events) later =
    fold-append ends_step ends events later in
    let start : BothEnds OwnedState = in_messages ends sent back in
    record {
      tracks = subst (λ (x : Ends). Tracks own x last_sent last_back) (sym joined) second.tracks;
      image = fold-append message_step start more further
          ∙ (ap (λ (x : BothEnds OwnedState). message_run x further) first.image
          ∙ (second.image ∙ ap (λ (x : Ends). in_messages x last_sent last_back) (sym joined)));
      reached = requests_in-append events later ends
          ∙ (ap (λ r. r ++ requests_in (ends_run ends events) later) first.reached
          ∙ (ap (λ r. requests_of objects_after objects_answer owned_standing start more ++ r)
          (second.reached ∙ ap (λ (x : BothEnds OwnedState). requests_of objects_after objects_answer owned_standing x further) (sym first.image))
          ∙ sym (requests-append more further start)));
      decided = decisions-append events later
          ∙ (ap (λ d. d ++ decisions_in later) first.decided
          ∙ (ap (λ d. decisions_in_messages more ++ d) second.decided ∙ sym (decided-append more further)));
      given = ap (λ (x : Ends). x.given) joined
          ∙ (second.given
          ∙ (ap (λ g. g ++ given_by (in_messages (ends_run ends events) new_sent new_back) further) first.given
          ∙ (append_assoc ends.given (given_by start more) _
          ∙ ap (λ g. ends.given ++ g)
          (ap (λ (x : BothEnds OwnedState). given_by start more ++ given_by x further) (sym first.image)
          ∙ sym (given-append more further start)))));
      others = all_append (IsOthers own) more further first.others second.others;
    }

-- What a run comes to.
record Amounts (own : ℕ) (ends : Ends) (events : List Event) (sent back : List (ℕ × List ℕ)) : Type 0 where
  more : List MessageEvent
  new_sent : List (ℕ × List ℕ)
  new_back : List (ℕ × List ℕ)
  runs : RunsTo own ends events sent back more new_sent new_back

amounts : (own : ℕ) (events : List Event) (ends : Ends) (sent back : List (ℕ × List ℕ)) → Tracks own ends sent back →
    AreOfOthers own ends events → Amounts own ends events sent back
amounts own [] ends sent back is others = record {
  more = [];
  new_sent = sent;
  new_back = back;
  runs = record {
    tracks = is;
    image = refl;
    reached = refl;
    decided = refl;
    given = sym (append-nil ends.given);
    others = tt;
  };
}
amounts own (event ∷ events) ends sent back is others =
    let one : StepComes own ends event sent back = comes own ends sent back event is others.0 in
    let rest : Amounts own (ends_step ends event) events one.new_sent one.new_back =
    amounts own events (ends_step ends event) one.new_sent one.new_back one.tracks others.1 in
    record {
      more = one.more ++ rest.more;
      new_sent = rest.new_sent;
      new_back = rest.new_back;
      runs = runs-two own ends (event ∷ []) events sent back one.more rest.more one.new_sent one.new_back rest.new_sent
          rest.new_back (record {
            tracks = one.tracks;
            image = one.image;
            reached = append-nil (requests_of_calls ends.adapter (calls_at ends event)) ∙ one.reached;
            decided = one.decided;
            given = one.given;
            others = one.others;
          }) rest.runs;
    }

-- ---- the numbered world

module _ (opening : Opening) (range : IsInRange opening.commander) where
  abbrev start : messages.Opening OwnedState
  start = opening_in_messages opening

  abbrev own : ℕ
  own = opening.commander.originator

  reach-gives : (world : NumberedWorld) (max_size : ℕ) (found : Option (ℕ × List ℕ)) →
      (world_reach objects_after objects_answer owned_standing start world max_size found).given ≡ world.given
  reach-gives world max_size None = refl
  reach-gives world max_size (Some message) = by _
    where
      by : (what : Arrival) → (arrived objects_after objects_answer owned_standing what world
          (device_after objects_after objects_answer owned_standing start world.log) message.0 message.1).given ≡ world.given
      by Appended = refl
      by (Answered said) = refl

  back-gives : (world : NumberedWorld) (found : Option (ℕ × Said)) → (world_back world found).given ≡ world.given
  back-gives world None = refl
  back-gives world (Some said) = by (awaits world.commander said.0) said.1
    where
      by : (its : Bool) (what : Said) → (if its then said_of what world else world).given ≡ world.given
      by true (IsDone reply) = refl
      by true (IsRefused status) = refl
      by false what = refl

  step-gives : (world : NumberedWorld) (event : MessageEvent) →
      (world_step objects_after objects_answer owned_standing start world event).given
      ≡ world.given ++ given_at (image objects_after objects_answer owned_standing start range world) event
  step-gives world (messages.NewCommand request) = refl
  step-gives world messages.Abandon = sym (append-nil world.given)
  step-gives world messages.Send = sym (append-nil world.given)
  step-gives world (messages.Reach position max_size) =
      reach-gives world max_size (slice_get world.sent position) ∙ sym (append-nil world.given)
  step-gives world (messages.Back position) =
      back-gives world (slice_get world.back position) ∙ sym (append-nil world.given)
  step-gives world (messages.Other max_size request) = sym (append-nil world.given)

  run-gives : (events : List MessageEvent) (world : NumberedWorld) →
      IsSound objects_after objects_answer owned_standing start range world → AllByRecursion (IsOthers own) events →
      (fold (world_step objects_after objects_answer owned_standing start) world events).given
      ≡ world.given ++ given_by (image objects_after objects_answer owned_standing start range world) events
  run-gives [] world sound others = sym (append-nil world.given)
  run-gives (event ∷ events) world sound others =
      let next : NumberedWorld = world_step objects_after objects_answer owned_standing start world event in
      let ends : BothEnds OwnedState = image objects_after objects_answer owned_standing start range world in
      run-gives events next (step-sound objects_after objects_answer owned_standing start range world event sound others.0) others.1
      ∙ (ap (λ g. g ++ given_by (image objects_after objects_answer owned_standing start range next) events) (step-gives world event)
      ∙ (ap (λ (x : BothEnds OwnedState). (world.given ++ given_at ends event) ++ given_by x events)
      (sym (step-image objects_after objects_answer owned_standing start range world event sound others.0))
      ∙ append_assoc world.given (given_at ends event) _))

  -- A run amounts to its messages.
  amounts-to : (events : List Event) (more : List MessageEvent) (new_sent new_back : List (ℕ × List ℕ)) →
      RunsTo own (ends_at opening) events [] [] more new_sent new_back → AmountsTo opening events more
  amounts-to events more new_sent new_back runs = record {
    device = ap (λ (x : BothEnds OwnedState). x.device) (sym runs.image);
    reached = runs.reached;
    commander = ap (λ (x : BothEnds OwnedState). x.commander) (sym runs.image);
    decisions = runs.decided;
    given = runs.given
        ∙ sym (run-gives more (world_at start) (opening-sound objects_after objects_answer owned_standing start range (opening-final opening)) runs.others);
    accepted = ap (λ (x : BothEnds OwnedState). x.accepted) (sym runs.image);
    others = runs.others;
  }

-- ---- the law

opening-tracks : (opening : Opening) → Tracks opening.commander.originator (ends_at opening) [] []
opening-tracks opening = record {
  sound = sound-shared (device_at opening) opening.listen opening.limits opening.shares;
  connection = tt;
  streams = λ peer stream found. absurd (cc);
}

others-first : (originator : ℕ) (events later : List Event) (ends : Ends) → AreOfOthers originator ends (events ++ later) →
    AreOfOthers originator ends events
others-first originator [] later ends others = tt
others-first originator (event ∷ events) later ends others =
    (others.0, others-first originator events later (ends_step ends event) others.1)

others-later : (originator : ℕ) (events later : List Event) (ends : Ends) → AreOfOthers originator ends (events ++ later) →
    AreOfOthers originator (ends_run ends events) later
others-later originator [] later ends others = others
others-later originator (event ∷ events) later ends others = others-later originator events later (ends_step ends event) others.1

pub messages_come : messages_law
messages_come opening events later range others =
    let own : ℕ = opening.commander.originator in
    let start : Ends = ends_at opening in
    let first : Amounts own start events [] [] =
    amounts own events start [] [] (opening-tracks opening) (others-first own events later start others) in
    let second : Amounts own (ends_run start events) later first.new_sent first.new_back =
    amounts own later (ends_run start events) first.new_sent first.new_back first.runs.tracks
    (others-later own events later start others) in
    let both : RunsTo own start (events ++ later) [] [] (first.more ++ second.more) second.new_sent second.new_back =
    runs-two own start events later [] [] first.more second.more first.new_sent first.new_back second.new_sent
    second.new_back first.runs second.runs in (
      first.more,
      (
        second.more,
        (
          amounts-to opening range events first.more first.new_sent first.new_back first.runs,
          amounts-to opening range (events ++ later) (first.more ++ second.more) second.new_sent second.new_back both,
        ),
      ),
    )
