-- What follows for a run that amounts to messages, by the laws of `cip_commander`.
use Rattle.std.proofs.Common.{◌≡◌, ℕ, Some, List, [], map, ap, sym, ◌∙◌, subst, append-nil}
use Rattle.std.specs.List.{slice_get, AllByRecursion}
use Rattle.cip_commander.specs.CommanderRule.{CommanderState, IsInRange}
use Rattle.enip_reconnect.specs.CommanderLaws.{IsExecutedOnce, Rises, WasGiven, executions_in}
use Rattle.enip_reconnect.specs.NumberedWorld.{NumberedWorld}
use Rattle.enip_reconnect.specs.Worlds as messages
use Rattle.enip_reconnect.proofs.Images.{worlds-agree}
use Rattle.enip_reconnect.proofs.Journals.{log-journal}
use Rattle.enip_reconnect.proofs.Logged.{IsExecuted, after-logged, grows_above, once}
use Rattle.enip_reconnect.proofs.Numbered.{after-numbered}
use Rattle.enip_reconnect.proofs.Rising.{all_at, all_map}
use Rattle.cip_ledger.specs.Device.{Device, owned_standing}
use Rattle.cip_ledger.specs.Runs.{journal}
use Rattle.cip_owner.specs.Owned.{OwnedState}
use Rattle.enip_adapter.specs.DeviceRuns.{objects_after, objects_answer}
use Rattle.enip_reconnect.specs.Events.{Event}
use Rattle.enip_reconnect.specs.Laws.{AmountsTo, AreOfOthers, MessageEvent, Seen, message_ends, numbered_world}
use Rattle.enip_reconnect.specs.Laws.{opening_in_messages}
use Rattle.enip_reconnect.specs.Laws.{messages_law, worlds_law, journal_law, rising_law, given_law, accepted_law}
use Rattle.enip_reconnect.specs.Laws.{accepted_once_law, never_again_law}
use Rattle.enip_reconnect.specs.World.{Ends, Opening, device_at, ends_at, ends_after}
use Rattle.enip_reconnect.proofs.Finals.{opening-final}

-- ---- both worlds

abbrev seen : OwnedState → CommanderState → List (ℕ × List ℕ) → Seen
seen machine commander accepted = record { machine = machine; commander = commander; accepted = accepted }

pub worlds : worlds_law
worlds opening events message_events range amounts =
    let ends : Ends = ends_after opening events in
    let in_messages : messages.BothEnds OwnedState = message_ends opening message_events in
    ap (λ (device : Device). seen device.router ends.commander ends.accepted) amounts.device
    ∙ (ap (λ commander. seen in_messages.device.router commander ends.accepted) amounts.commander
    ∙ (ap (λ accepted. seen in_messages.device.router in_messages.commander accepted) amounts.accepted
    ∙ ap (λ (s : messages.Seen OwnedState). seen s.machine s.commander s.accepted)
    (worlds-agree objects_after objects_answer owned_standing (opening_in_messages opening) range message_events
    (opening-final opening) amounts.others)))

-- The replies that were accepted are those of the numbered world.
same_accepted : (opening : Opening) (events : List Event) (message_events : List MessageEvent) →
    IsInRange opening.commander → AmountsTo opening events message_events →
    (ends_after opening events).accepted ≡ (numbered_world opening message_events).accepted
same_accepted opening events message_events range amounts =
    ap (λ (s : Seen). s.accepted) (worlds opening events message_events range amounts)

-- ---- the log

pub journals : journal_law
journals opening events message_events range amounts =
    ap (λ requests. executions_in opening.commander.originator
    (journal objects_after objects_answer owned_standing (device_at opening) requests)) amounts.reached
    ∙ log-journal objects_after objects_answer owned_standing (opening_in_messages opening) range message_events
    (opening-final opening) amounts.others

pub rising : rising_law
rising opening events message_events amounts =
    (after-logged objects_after objects_answer owned_standing (opening_in_messages opening) message_events).rises

pub given : given_law
given opening events message_events amounts =
    let world : NumberedWorld = numbered_world opening message_events in
    let is = after-numbered objects_after objects_answer owned_standing (opening_in_messages opening) message_events in
    let P : List (ℕ × List ℕ) → Type 0 = λ given. Rises (map (λ (command : ℕ × List ℕ). command.0) given)
    × AllByRecursion (WasGiven given) world.log in
    subst P (sym amounts.given) (is.given.rises, is.log)

-- ---- accepted replies

pub accepted : accepted_law
accepted opening events message_events range amounts =
    let world : NumberedWorld = numbered_world opening message_events in
    let start = opening_in_messages opening in
    let logged = after-logged objects_after objects_answer owned_standing start message_events in
    let One : ℕ × List ℕ → Type 0 = λ a. IsExecuted objects_after objects_answer owned_standing start world.log a.0 a.1 in
    let Once : ℕ × List ℕ → Type 0 = λ a. IsExecutedOnce objects_after objects_answer owned_standing start world.log a.0 a.1 in
    subst (AllByRecursion Once) (sym (same_accepted opening events message_events range amounts))
    (all_map One Once world.accepted (λ a is. once objects_after objects_answer owned_standing start world.log a.0 a.1 logged.rises is)
    logged.accepted)

pub accepted_once : messages_law → accepted_once_law
accepted_once amount opening events range others =
    let to = amount opening events [] range
    (subst (AreOfOthers opening.commander.originator (ends_at opening)) (sym (append-nil events)) others) in
    let P : List (ℕ × List ℕ) → Type 0 = λ accepted. Rises (map (λ (a : ℕ × List ℕ). a.0) accepted) in
    subst P (sym (same_accepted opening events to.0 range to.1.1.0))
    (after-numbered objects_after objects_answer owned_standing (opening_in_messages opening) to.0).rises

pub never_again : never_again_law
never_again opening events message_events more position number reply range amounts is =
    let world : NumberedWorld = numbered_world opening message_events in
    let start = opening_in_messages opening in
    let found : slice_get world.accepted position ≡ Some (number, reply) =
    ap (λ accepted. slice_get accepted position) (sym (same_accepted opening events message_events range amounts))
    ∙ is in
    let One : ℕ × List ℕ → Type 0 = λ a. IsExecuted objects_after objects_answer owned_standing start world.log a.0 a.1 in
    grows_above objects_after objects_answer owned_standing start message_events more number reply
    (all_at One world.accepted position (number, reply)
    (after-logged objects_after objects_answer owned_standing start message_events).accepted found)
