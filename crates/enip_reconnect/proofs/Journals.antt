-- The device is a run of what reached it, and its journal is the log.
use Rattle.std.proofs.Common.{◌≡◌, ℕ, ◌==◌, Bool, true, false, if◌then◌else◌, Option, Some, None, List, [], ◌∷◌, ◌++◌, append_assoc, refl, ap, sym, ◌∙◌}
use Rattle.std.specs.Prelude.{⊤, option_map, fold, MatchOption}
use Rattle.std.specs.List.{slice_get, AllByRecursion}
use Rattle.std.proofs.lemmas.Bool.{ne_eqb, eq-eqb}
use Rattle.std.proofs.lemmas.List.{append-nil}
use Rattle.std.proofs.lemmas.Option.{slice_get-map}
use Rattle.cip_ledger.specs.declared.router.LedgerRouter.{LedgerRouter}
use Rattle.cip_ledger.specs.declared.target.Standing.{Standing}
use Rattle.cip_ledger.specs.Ledger.{LedgerState}
use Rattle.cip_message.specs.LedgerCommand.{Command}
use Rattle.cip_ledger.specs.Services.{Replies, Executes, Queues, Frees}
use Rattle.cip_ledger.specs.Turn.{Fate, Passed, Served, fate, embedded_reply}
use Rattle.cip_ledger.specs.Runs as journal
use Rattle.cip_ledger.specs.Runs.{Executed, Freed, next, node_after, events_by, StaysFinal}
use Rattle.cip_ledger.specs.Laws.{IsOfAnother}
use Rattle.cip_ledger.proofs.Fates.{Means, fate-means}
use Rattle.cip_ledger.proofs.Finals.{final-embedded}
use Rattle.cip_commander.specs.CommanderRule.{IsInRange, outcome_of}
use Rattle.enip_reconnect.specs.Worlds.{Event, NewCommand, Abandon, Send, Reach, Back, Other, Opening, BothEnds, ends_at, ends_step, ends_reach, ends_back, heard, awaits}
use Rattle.enip_reconnect.specs.NumberedWorld.{Entry, Own, Another, Device, device_at, device_step, device_after, NumberedWorld, world_at, world_step, world_reach, world_after, Arrival, Appended, Answered, arrival, arrived}
use Rattle.enip_reconnect.specs.CommanderLaws.{IsOthers, Execution, executions_in, executions_of, request_in, request_of, requests_of}
use Rattle.enip_reconnect.proofs.Arrivals.{arrived_events, arrival-events}
use Rattle.enip_reconnect.proofs.DoOnce.{IsCommand}
use Rattle.enip_reconnect.proofs.Images.{IsSound, IsSendable, command_numbered, message_in, image, found_sendable, step-image, step-sound, opening-sound}
use Rattle.enip_reconnect.proofs.Logged.{back-stays}

-- ---- executions of one originator

executions_in-append : (originator : ℕ) (events more : List journal.Event) →
    executions_in originator (events ++ more) ≡ executions_in originator events ++ executions_in originator more
executions_in-append originator [] more = refl
executions_in-append originator (Executed command reply ∷ events) more =
    go (command.originator == originator) (executions_in-append originator events more)
  where
    first : Execution
    first = record { number = command.number; request = command.request; reply = reply }

    go : (own : Bool) →
        executions_in originator (events ++ more) ≡ executions_in originator events ++ executions_in originator more →
        (if own then first ∷ executions_in originator (events ++ more) else executions_in originator (events ++ more))
        ≡ (if own then first ∷ executions_in originator events else executions_in originator events) ++ executions_in originator more
    go true later = ap (λ all. first ∷ all) later
    go false later = later
executions_in-append originator (Freed freed ∷ events) more = executions_in-append originator events more

module _ {M : Type 0} (after : M → ℕ → List ℕ → M) (answer : M → ℕ → List ℕ → List ℕ) where
  -- what a request of another does is none of the originator's executions
  none_by : (originator : ℕ) (ledger : Option LedgerState) (request : ℕ × List ℕ) (what : Fate) (router : M) →
      Means ledger request what → IsOfAnother originator request → executions_in originator (events_by after answer what router) ≡ []
  none_by originator ledger request Passed router means others = refl
  none_by originator ledger request (Served service (Replies reply)) router means others = refl
  none_by originator ledger request (Served service (Executes command)) router means others =
      let given = means.means.given_is in
      rw (ne_eqb command.originator originator
      (λ e. others.command (ap (option_map (λ (c : Command). c.originator)) given ∙ ap Some e))) refl
  none_by originator ledger request (Served service (Queues command ticket)) router means others =
      let given = means.means.given_is in
      rw (ne_eqb command.originator originator
      (λ e. others.command (ap (option_map (λ (c : Command). c.originator)) given ∙ ap Some e))) refl
  none_by originator ledger request (Served service (Frees freed)) router means others = refl

module _ {M : Type 0} (after : M → ℕ → List ℕ → M) (answer : M → ℕ → List ℕ → List ℕ) (standing : M → List ℕ → Standing) where
  journal-append : (requests more : List (ℕ × List ℕ)) (node : LedgerRouter M) →
      journal.journal after answer standing node (requests ++ more)
      ≡ journal.journal after answer standing node requests ++ journal.journal after answer standing (node_after after answer standing node requests) more
  journal-append [] more node = refl
  journal-append (request ∷ requests) more node =
      let first = events_by after answer (fate standing node.ledger node.router request.0 request.1) node.router in
      let rest = next after answer standing node request in
      ap (λ later. first ++ later) (journal-append requests more rest)
      ∙ sym (append_assoc first (journal.journal after answer standing rest requests) (journal.journal after answer standing (node_after after answer standing rest requests) more))

  node_after-append : (requests more : List (ℕ × List ℕ)) (node : LedgerRouter M) →
      node_after after answer standing node (requests ++ more) ≡ node_after after answer standing (node_after after answer standing node requests) more
  node_after-append [] more node = refl
  node_after-append (request ∷ requests) more node = node_after-append requests more (next after answer standing node request)

  executions_of-snoc : (originator : ℕ) (device : Device M) (log : List Entry) (entry : Entry) →
      executions_of after answer standing originator device (log ++ entry ∷ [])
      ≡ executions_of after answer standing originator device log
      ++ executions_of after answer standing originator (fold (device_step after answer standing originator) device log) (entry ∷ [])
  executions_of-snoc originator device [] entry = refl
  executions_of-snoc originator device (Own number request ∷ log) entry =
      ap (λ all. record { number = number; request = request; reply = embedded_reply after answer device.router request } ∷ all)
      (executions_of-snoc originator (device_step after answer standing originator device (Own number request)) log entry)
  executions_of-snoc originator device (Another max_size request ∷ log) entry =
      executions_of-snoc originator (device_step after answer standing originator device (Another max_size request)) log entry

  -- ---- the device is a run

  reach-node : (ends : BothEnds M) (max_size : ℕ) (found : Option (ℕ × List ℕ)) →
      (ends_reach after answer standing ends max_size found).device ≡ node_after after answer standing ends.device (request_in max_size found)
  reach-node ends max_size None = refl
  reach-node ends max_size (Some message) = refl

  back-node : (ends : BothEnds M) (found : Option (ℕ × List ℕ)) → (ends_back ends found).device ≡ ends.device
  back-node ends None = refl
  back-node ends (Some reply) = go (awaits ends.commander reply.0)
    where
      go : (its : Bool) → (if its then heard ends (outcome_of ends.commander reply.1) else ends).device ≡ ends.device
      go true = refl
      go false = refl

  step-node : (ends : BothEnds M) (event : Event) →
      (ends_step after answer standing ends event).device ≡ node_after after answer standing ends.device (request_of after answer standing ends event)
  step-node ends (NewCommand request) = refl
  step-node ends Abandon = refl
  step-node ends Send = refl
  step-node ends (Reach position max_size) = reach-node ends max_size (slice_get ends.sent position)
  step-node ends (Back position) = back-node ends (slice_get ends.back position)
  step-node ends (Other max_size request) = refl

  pub run-node : (events : List Event) (ends : BothEnds M) →
      (fold (ends_step after answer standing) ends events).device
      ≡ node_after after answer standing ends.device (requests_of after answer standing ends events)
  run-node [] ends = refl
  run-node (event ∷ events) ends =
      let rest = ends_step after answer standing ends event in
      run-node events rest
      ∙ ap (λ node. node_after after answer standing node (requests_of after answer standing rest events)) (step-node ends event)
      ∙ sym (node_after-append (request_of after answer standing ends event) (requests_of after answer standing rest events) ends.device)

-- ---- the journal is the log

module _ {M : Type 0} (after : M → ℕ → List ℕ → M) (answer : M → ℕ → List ℕ → List ℕ) (standing : M → List ℕ → Standing)
    (opening : Opening M) (range : IsInRange opening.commander) where
  abbrev own : ℕ
  own = opening.commander.originator

  abbrev device_of : NumberedWorld → Device M
  device_of world = device_after after answer standing opening world.log

  abbrev imaged : NumberedWorld → BothEnds M
  imaged world = image after answer standing opening range world

  -- what the log executes for the originator, and what the journal of these requests has of it
  abbrev executed : NumberedWorld → List Execution
  executed world = executions_of after answer standing own (device_at opening) world.log

  abbrev journaled : LedgerRouter M → List (ℕ × List ℕ) → List Execution
  journaled node requests = executions_in own (journal.journal after answer standing node requests)

  arrived-journal : (world : NumberedWorld) (number : ℕ) (request : List ℕ) (max_size : ℕ) (what : Arrival) →
      executed (arrived after answer standing what world (device_of world) number request)
      ≡ executed world
      ++ executions_in own
      (arrived_events after answer (device_of world).ledger (device_of world).router opening.commander.life own number request max_size what ++ [])
  arrived-journal world number request max_size Appended =
      rw (eq-eqb own own refl) (executions_of-snoc after answer standing own (device_at opening) world.log (Own number request))
  arrived-journal world number request max_size (Answered said) = sym (append-nil (executed world))

  reach-journal : (world : NumberedWorld) (max_size : ℕ) (found : Option (ℕ × List ℕ)) → IsSound after answer standing opening range world →
      MatchOption found ⊤ IsSendable →
      executed (world_reach after answer standing opening world max_size found)
      ≡ executed world ++ journaled (imaged world).device (request_in max_size (option_map (message_in opening.commander) found))
  reach-journal world max_size None sound fits = sym (append-nil (executed world))
  reach-journal world max_size (Some message) sound fits =
      let device = device_of world in
      let is : IsCommand (command_numbered opening.commander message) = record {
        life = range.life;
        originator = range.originator;
        number = fits.number;
        request = fits.request;
      } in
      arrived-journal world message.0 message.1 max_size (arrival opening.commander.life device max_size message.0)
      ∙ ap (λ events. executed world ++ executions_in own (events ++ []))
      (sym (arrival-events after answer standing device.ledger device.router opening.commander.life own message.0 message.1 max_size
      (final-embedded after answer standing device.router message.1 sound.final) device.last sound.placed is))

  other-journal : (world : NumberedWorld) (max_size : ℕ) (request : List ℕ) → IsOfAnother own (max_size, request) →
      executed world ≡ executed world ++ journaled (imaged world).device ((max_size, request) ∷ [])
  other-journal world max_size request others =
      let node = (imaged world).device in
      let what = fate standing node.ledger node.router max_size request in
      sym (
      ap (λ events. executed world ++ executions_in own events) (append-nil (events_by after answer what node.router))
      ∙ ap (λ none. executed world ++ none)
      (none_by after answer own node.ledger (max_size, request) what node.router (fate-means standing node.ledger node.router (max_size, request)) others)
      ∙ append-nil (executed world))

  step-journal : (world : NumberedWorld) (event : Event) → IsSound after answer standing opening range world → IsOthers own event →
      executed (world_step after answer standing opening world event)
      ≡ executed world ++ journaled (imaged world).device (request_of after answer standing (imaged world) event)
  step-journal world (NewCommand request) sound others = sym (append-nil (executed world))
  step-journal world Abandon sound others = sym (append-nil (executed world))
  step-journal world Send sound others = sym (append-nil (executed world))
  step-journal world (Reach position max_size) sound others =
      reach-journal world max_size (slice_get world.sent position) sound
      (found_sendable after answer standing opening range (slice_get world.sent position) world.sent position sound.sent refl)
      ∙ ap (λ found. executed world ++ journaled (imaged world).device (request_in max_size found))
      (sym (slice_get-map (message_in opening.commander) world.sent position))
  step-journal world (Back position) sound others =
      ap (λ log. executions_of after answer standing own (device_at opening) log)
      (back-stays after answer standing opening world (slice_get world.back position))
      ∙ sym (append-nil (executed world))
  step-journal world (Other max_size request) sound others =
      executions_of-snoc after answer standing own (device_at opening) world.log (Another max_size request)
      ∙ append-nil (executed world)
      ∙ other-journal world max_size request others

  joined : (a b c : List Execution) (d : List Execution) (first second : List journal.Event) → a ≡ b ++ executions_in own first →
      c ≡ a ++ d → d ≡ executions_in own second → c ≡ b ++ executions_in own (first ++ second)
  joined a b c d first second begun ended more =
      ended
      ∙ ap (λ x. x ++ d) begun
      ∙ append_assoc b (executions_in own first) d
      ∙ ap (λ x. b ++ (executions_in own first ++ x)) more
      ∙ ap (λ x. b ++ x) (sym (executions_in-append own first second))

  run-journal : (events : List Event) (world : NumberedWorld) → IsSound after answer standing opening range world →
      AllByRecursion (IsOthers own) events →
      executed (fold (world_step after answer standing opening) world events)
      ≡ executed world ++ journaled (imaged world).device (requests_of after answer standing (imaged world) events)
  run-journal [] world sound others = sym (append-nil (executed world))
  run-journal (event ∷ events) world sound others =
      let ends = imaged world in
      let rest = ends_step after answer standing ends event in
      let requests = request_of after answer standing ends event in
      let more = requests_of after answer standing rest events in
      let further = world_step after answer standing opening world event in
      let same = step-image after answer standing opening range world event sound others.0 in
      joined (executed further) (executed world) (executed (fold (world_step after answer standing opening) further events))
      (journaled (imaged further).device (requests_of after answer standing (imaged further) events))
      (journal.journal after answer standing ends.device requests)
      (journal.journal after answer standing (node_after after answer standing ends.device requests) more)
      (step-journal world event sound others.0)
      (run-journal events further (step-sound after answer standing opening range world event sound others.0) others.1)
      (ap (λ (e : BothEnds M). journaled e.device (requests_of after answer standing e events)) (sym same)
      ∙ ap (λ node. journaled node more) (step-node after answer standing ends event))
      ∙ ap (λ all. executed world ++ executions_in own all) (sym (journal-append after answer standing requests more ends.device))

  pub log-journal : (events : List Event) → StaysFinal after answer standing opening.router → AllByRecursion (IsOthers own) events →
      journaled (ends_at opening).device (requests_of after answer standing (ends_at opening) events)
      ≡ executed (world_after after answer standing opening events)
  log-journal events final others = sym (run-journal events (world_at opening) (opening-sound after answer standing opening range final) others)
