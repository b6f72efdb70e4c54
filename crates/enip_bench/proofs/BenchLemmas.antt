-- The code of the bench follows the counting world.
use Rattle.std.proofs.Common.{◌≡◌, ℕ, zero, suc, ◌+◌, ◌-◌, ◌<◌, ◌≤◌, true, cond, Option, Some, None, option_map, List, [], ◌∷◌, ◌++◌, length, take, map, slice_index_or, slice_get, Result, Ok, Err, refl, ap, ap₂, sym, ◌∙◌, subst, arith}
use Rattle.std.proofs.Math.Seq.{take-suc}
use Rattle.std.proofs.lemmas.List.{take-map, take_all}
use Rattle.std.proofs.lemmas.Option.{same_Some, slice_get_within}
use Rattle.cip_bytes.specs.Reading.{◌>>=◌}
use Rattle.cip_ledger.specs.Device.{Device}
use Rattle.enip_wire.specs.Frames.{frame}
use Rattle.enip_adapter.specs.Calls.{AdapterState, after_call}
use Rattle.enip_adapter.specs.Calls.Call.{Feeds}
use Rattle.enip_client.specs.Calls.{Lent, registers, opens, submits, submitted, item_sent, after_lending, bytes_lent}
use Rattle.enip_client.specs.declared.fault.SubmitFault.{SubmitFault}
use Rattle.enip_client.specs.declared.fault.SubmitFault.TheVariants as submit_faults
use Rattle.enip_client.specs.declared.state.State.{State}
use Rattle.cip_class3.specs.Item.{item}
use Rattle.cip_class3.specs.OriginatorRule.{submit_refusal}
use Rattle.cip_class3.specs.declared.originator.Refused.{Refused}
use Rattle.enip_client.specs.Client.{ClientState, fed, with_state}
use Rattle.enip_client.specs.Frames.{register_frame, request_frame}
use Rattle.enip_bench.specs.CountingOpening.{Setup, Ends, begins_peer, begins, exchange, is_registered_event, is_opened_event, ends_at_beginning, counting_at_opening, opening_between, opening}
use Rattle.enip_bench.specs.CountingWorld.{CountingWorld, reply_heard, acceptance, after_submit, after_back, after_other, counting_step, counting_run}
use Rattle.enip_bench.specs.Events.{Event, Submit, Back, Other, delivery, is_unconnected_request, with_any}
use Rattle.enip_bench.specs.Reached.{IsNewAdapter, IsNewClient, IsReached}
use Rattle.enip_bench.specs.Seen.{Seen}
use Rattle.enip_bench.specs.Stored.{world_in, acceptances_in, event_in, events_in, last_reply, world_opened, IsStepDone, IsStepped, IsOfOpening}
use Rattle.enip_bench.specs.EventResults.{Sends, Accepts, Done, Impossible, submit_result, reply_result, back_result}
use Rattle.enip_bench.specs.declared.event.Event.{Event as EventInCode}
use Rattle.enip_bench.specs.declared.event.StepKind.{StepKind}
use Rattle.enip_bench.specs.declared.event.StepKind.TheVariants as step_kinds
use Rattle.enip_bench.specs.declared.world.Accepted.{Accepted as Accepted_reply}
use Rattle.enip_bench.specs.declared.world.World.{World}
use Rattle.enip_bench.proofs.PositionLemmas.{map-push}
use Rattle.enip_bench.proofs.ReachedLemmas.{run_joined, reached_again, submits_as_ruled}

same_Ok : {E : Type 0} (a b : List ℕ) → (let r : Result (List ℕ) E = Ok a in r) ≡ Ok b → a ≡ b
same_Ok a b e = cc

-- another session's request was executed
pub other_told : (world : CountingWorld) (request bytes : List ℕ) (adapter : AdapterState) →
    is_unconnected_request request ≡ true → bytes ≡ frame (request_frame world.second 0 request) →
    adapter ≡ after_call world.adapter (Feeds 0 world.second bytes) →
    IsStepDone world (Other request) (record world { adapter = adapter }) step_kinds.Done
other_told world request bytes adapter is framed went = record {
  world = ap (λ a. (let x : CountingWorld = record world { adapter = a } in x))
      (went ∙ ap (λ b. after_call world.adapter (Feeds 0 world.second b)) framed)
      ∙ sym (ap (λ b. cond b (after_other world request) world) is);
  result_is = sym (ap (λ b. cond b Done Impossible) is);
}

-- what is appended is the last
pub last-push : (xs : List (ℕ × List ℕ)) (x : ℕ × List ℕ) → last_reply (xs ++ x ∷ []) ≡ x.1
last-push [] x = refl
last-push (y ∷ []) x = refl
last-push (y ∷ z ∷ xs) x = last-push (z ∷ xs) x

last-of : (xs : List Accepted_reply) (n : ℕ) (x : Accepted_reply) → length xs ≡ suc n → slice_get xs n ≡ Some x →
    last_reply (acceptances_in xs) ≡ x.reply.items
last-of [] n x l e = absurd (cc)
last-of (y ∷ []) zero x l e = ap (λ (a : Accepted_reply). a.reply.items) (same_Some y x e)
last-of (y ∷ []) (suc n) x l e = absurd (omega (arith, l))
last-of (y ∷ z ∷ xs) zero x l e = absurd (omega (arith, l))
last-of (y ∷ z ∷ xs) (suc n) x l e = last-of (z ∷ xs) n x (omega (arith, l)) e

pub last-at : (xs : List Accepted_reply) (x : Accepted_reply) → slice_get xs (length xs - 1) ≡ Some x →
    last_reply (acceptances_in xs) ≡ x.reply.items
last-at xs x e = last-of xs (length xs - 1) x (omega (arith, slice_get_within xs (length xs - 1) x e)) e

pub same_seen : (a b : Seen Device) → a.router ≡ b.router → a.back ≡ b.back → a.accepted ≡ b.accepted →
    a.stage ≡ b.stage → a ≡ b
same_seen a b router back accepted stage =
    ap₂ (λ r k. (let x : Seen Device = record { router = r; back = k; accepted = a.accepted; stage = a.stage } in x))
    router back
    ∙ ap₂ (λ c s. (let x : Seen Device = record { router = b.router; back = b.back; accepted = c; stage = s } in x))
    accepted stage

-- a reply was accepted
pub accepted_told : (world : CountingWorld) (position : ℕ) (bytes reply : List ℕ) (client : ClientState)
    (accepted : List (ℕ × List ℕ)) → delivery world.last_back world.back position ≡ Some bytes →
    client ≡ (fed world.client bytes).client → reply_heard (fed world.client bytes).heard_event ≡ Some reply →
    accepted ≡ world.accepted ++ (world.submits - 1, reply) ∷ [] →
    IsStepDone world (Back position)
    (record world { client = client; last_back = Some position; accepted = accepted }) step_kinds.Accepted
accepted_told world position bytes reply client accepted found heard heard_event put =
    let with_accepted : Option (ℕ × List ℕ) → List (ℕ × List ℕ) = λ o. with_any o world.accepted in
    let same : accepted ≡ with_accepted (acceptance world.submits (fed world.client bytes).heard_event)
    = put ∙ sym (ap (λ o. with_accepted (option_map (λ r. (world.submits - 1, r)) o)) heard_event) in
    record {
      world = ap₂ (λ c a. (let x : CountingWorld = record world { client = c; last_back = Some position; accepted = a } in x))
          heard same ∙ sym (ap (λ o. after_back o world position) found);
      result_is = ap (λ r. Accepts r) (ap last_reply put ∙ last-push world.accepted (world.submits - 1, reply))
          ∙ (sym (ap reply_result heard_event) ∙ sym (ap (back_result world) found));
    }

refused_by : (s : State) (request : List ℕ) (o : Option Refused) (why : Refused) →
    bytes_lent (submitted s request o) ≡ Err (submit_faults.Refused why) → o ≡ Some why
refused_by s request (Some other) why e = cc
refused_by s request None why e = absurd (cc)

taken_by : (s : State) (request bytes : List ℕ) (o : Option Refused) →
    bytes_lent (submitted s request o) ≡ Ok bytes → o ≡ None
taken_by s request bytes None e = refl
taken_by s request bytes (Some why) e = absurd (cc)

-- the client after a submit
abbrev went_on : CountingWorld → List ℕ → Result Lent SubmitFault → ClientState
went_on world request lent = with_state world.client (after_lending world.client.state lent)

-- a request was refused
pub refused_told : (world : CountingWorld) (request : List ℕ) (why : Refused) (client : ClientState)
    (sent : List (List ℕ)) → IsReached world →
    bytes_lent (submits world.client.state request) ≡ Err (submit_faults.Refused why) →
    client ≡ went_on world request (submits world.client.state request) → sent ≡ world.sent →
    IsStepDone world (Submit request) (record world { client = client; sent = sent }) (step_kinds.Refused why)
refused_told world request why client sent reached lent went kept =
    let o : Option Refused = submit_refusal world.client.state.originator request in
    let is : o ≡ Some why = refused_by world.client.state request o why
    (sym (ap bytes_lent (submits_as_ruled world request reached)) ∙ lent) in
    let ruled : submits world.client.state request ≡ submitted world.client.state request (Some why) =
    submits_as_ruled world request reached ∙ ap (submitted world.client.state request) is in
    record {
      world = ap₂ (λ c s. (let x : CountingWorld = record world { client = c; sent = s } in x))
          (went ∙ ap (went_on world request) ruled) kept
          ∙ sym (ap (λ r. after_submit r world) ruled);
      result_is = sym (ap (submit_result world) is);
    }

-- a request was taken, and its frame is sent
pub sent_told : (world : CountingWorld) (request bytes : List ℕ) (client : ClientState) (sent : List (List ℕ))
    (position : ℕ) → IsReached world → bytes_lent (submits world.client.state request) ≡ Ok bytes →
    client ≡ went_on world request (submits world.client.state request) → sent ≡ world.sent ++ bytes ∷ [] →
    position ≡ length world.sent →
    IsStepDone world (Submit request) (record world { client = client; sent = sent; submits = world.submits + 1 })
    (step_kinds.Sent world.submits position)
sent_told world request bytes client sent position reached lent went put at =
    let o : Option Refused = submit_refusal world.client.state.originator request in
    let s : State = world.client.state in
    let is : o ≡ None = taken_by s request bytes o
    (sym (ap bytes_lent (submits_as_ruled world request reached)) ∙ lent) in
    let ruled : submits s request ≡ submitted s request None =
    submits_as_ruled world request reached ∙ ap (submitted s request) is in
    let same : bytes ≡ frame (item_sent s (item s.originator.next request)) =
    same_Ok bytes (frame (item_sent s (item s.originator.next request))) (sym lent ∙ ap bytes_lent ruled) in
    record {
      world = ap₂ (λ c f. (let x : CountingWorld = record world { client = c; sent = f; submits = world.submits + 1 } in x))
          (went ∙ ap (went_on world request) ruled) (put ∙ ap (λ b. world.sent ++ b ∷ []) same)
          ∙ sym (ap (λ r. after_submit r world) ruled);
      result_is = ap (λ p. Sends world.submits p) at ∙ sym (ap (submit_result world) is);
    }

-- the world is still reached from an opening
pub told_reached : (old new : CountingWorld) (event : Event) (step_kind : StepKind) → IsReached old → IsStepDone old event new step_kind →
    IsReached new
told_reached old new event step_kind reached is = subst IsReached (sym is.world) (reached_again old event reached)

pub stepped_reached : {E : Type 0} (old new : CountingWorld) (event : Event) (r : Result StepKind E) → IsReached old →
    IsStepped old event new r → IsReached new
stepped_reached old new event (Ok step_kind) reached is = told_reached old new event step_kind reached is
stepped_reached old new event (Err error) reached is = subst IsReached (sym is) reached

-- the first events, up to this number, were done
pub record RunsTo (old : CountingWorld) (events : List EventInCode) (count : ℕ) (world : World) : Type 0 where
  pub run : world_in world ≡ counting_run old (take count (events_in events))
  pub is : IsOfOpening world

plus_one : (n : ℕ) → n + 1 ≡ suc n
plus_one n = omega arith

taken_more : (events : List EventInCode) (position : ℕ) (event : EventInCode) → position < length events →
    event ≡ slice_index_or events position event →
    take (position + 1) (events_in events) ≡ take position (events_in events) ++ event_in event ∷ []
taken_more events position event lt is =
    ap (λ n. take n (events_in events)) (plus_one position)
    ∙ (take-map event_in (suc position) events ∙ (ap (map event_in) (take-suc events position event lt ∙ ap (λ e. take position events ++ e ∷ []) (sym is))
    ∙ (map-push event_in (take position events) event
    ∙ ap (λ es. es ++ event_in event ∷ []) (sym (take-map event_in position events)))))

pub runs_more : (old : CountingWorld) (events : List EventInCode) (position : ℕ) (event : EventInCode) (world next : World)
    (step_kind : StepKind) → RunsTo old events position world → position < length events →
    event ≡ slice_index_or events position event → IsStepDone (world_in world) (event_in event) (world_in next) step_kind →
    next.submits ≤ length next.sent.frames → RunsTo old events (position + 1) next
runs_more old events position event world next step_kind runs lt is done counted = record {
  run = done.world ∙ (ap (λ w. counting_step w (event_in event)) runs.run
      ∙ (sym (run_joined old (take position (events_in events)) (event_in event ∷ []))
      ∙ ap (counting_run old) (sym (taken_more events position event lt is))));
  is = record {
    reached = told_reached (world_in world) (world_in next) (event_in event) step_kind runs.is.reached done;
    counted = counted;
  };
}

pub ran : (old : CountingWorld) (events : List EventInCode) (count : ℕ) (world : World) → RunsTo old events count world →
    length events ≤ count → world_in world ≡ counting_run old (events_in events)
ran old events count world runs all =
    runs.run ∙ ap (counting_run old) (take-map event_in count events ∙ ap (map event_in) (take_all count events all))

-- the opening, step by step
pub opened_so : (adapter one two three four five : AdapterState) (client registered opened : ClientState)
    (peer second : ℕ) (bytes : List ℕ) → begins adapter ≡ Ok peer → one ≡ after_call adapter begins_peer →
    exchange (record { adapter = one; client = client }) peer is_registered_event (registers client.state)
    ≡ Ok (record { adapter = two; client = registered }) →
    exchange (record { adapter = two; client = registered }) peer is_opened_event (opens registered.state)
    ≡ Ok (record { adapter = three; client = opened }) →
    begins three ≡ Ok second → four ≡ after_call three begins_peer → bytes ≡ frame (register_frame 0) →
    five ≡ after_call four (Feeds 0 second bytes) →
    opening_between adapter client ≡ Ok (world_opened five opened (peer, second))
opened_so adapter one two three four five client registered opened peer second bytes e1 a1 e2 e3 e4 a4 f a5 =
    let last : Ends → ℕ → Result CountingWorld Setup
    = λ ends peer. begins ends.adapter >>= λ second. Ok (counting_at_opening ends peer second) in
    let later : Ends → ℕ → Result CountingWorld Setup
    = λ ends peer. exchange ends peer is_opened_event (opens ends.client.state) >>= λ opened. last opened peer in
    let first : ℕ → Result CountingWorld Setup
    = λ peer. exchange (ends_at_beginning adapter client) peer is_registered_event (registers client.state)
    >>= λ registered. later registered peer in
    ap (λ r. r >>= first) e1
    ∙ (ap (λ r. r >>= λ ends. later ends peer)
    (ap (λ a. exchange (record { adapter = a; client = client }) peer is_registered_event (registers client.state)) (sym a1) ∙ e2)
    ∙ (ap (λ r. r >>= λ ends. last ends peer) e3
    ∙ (ap (λ r. r >>= λ second. Ok (counting_at_opening (record { adapter = three; client = opened }) peer second)) e4
    ∙ ap (λ a. (let x : Result CountingWorld Setup = Ok (world_opened a opened (peer, second)) in x))
    (sym (a5 ∙ ap₂ (λ a b. after_call a (Feeds 0 second b)) a4 f)))))

-- the same, with nothing between the ends
pub opened_between : (opened : Result CountingWorld Setup) (adapter : AdapterState) (client : ClientState)
    (peers : ℕ × ℕ) (sent back : List (List ℕ)) (accepted : List (ℕ × List ℕ)) →
    opened ≡ Ok (world_opened adapter client peers) → sent ≡ [] → back ≡ [] → accepted ≡ [] →
    opened ≡ Ok (record (world_opened adapter client peers) { sent = sent; back = back; accepted = accepted })
opened_between opened adapter client peers sent back accepted e s b a =
    e
    ∙ (ap₂ (λ s b. (let x : Result CountingWorld Setup
    = Ok (record (world_opened adapter client peers) { sent = s; back = b }) in x)) (sym s) (sym b)
    ∙ ap (λ a. (let x : Result CountingWorld Setup
    = Ok (record (world_opened adapter client peers) { sent = sent; back = back; accepted = a }) in x)) (sym a))

pub opening_reached : (adapter : AdapterState) (client : ClientState) (world : CountingWorld) → IsNewAdapter adapter →
    IsNewClient client → opening_between adapter client ≡ Ok world → IsReached world
unfolding opening
opening_reached adapter client world a c e = record {
  objects = a.objects;
  listen = a.listen;
  limits = a.limits;
  wants = c.wants;
  wanted = c.wanted;
  begun = world;
  opened = sym (ap₂ opening_between a.is c.is) ∙ e;
  events = [];
  come = refl;
}
