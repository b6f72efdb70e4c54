-- The client's connection is an originator's.
use Rattle.std.proofs.Common.{◌≡◌, ℕ, ◌+◌, ◌%◌, ◌<◌, ◌^◌, Bool, true, false, cond, Option, Some, None, Result, Ok}
use Rattle.std.specs.Prelude.{nat_le}
use Rattle.std.proofs.Common.{Err, List, [], ◌∷◌, ◌&&◌, length, drop, slice_index, refl, sym, ap, subst, ◌∙◌, arith}
use Rattle.std.proofs.lemmas.Bool.{and_parts, eqb-true}
use Rattle.cip_class3.proofs.Counts.{first_refusal-none}
use Rattle.cip_class3.specs.Calls as originators
use Rattle.cip_class3.specs.OriginatorRule.{OriginatorState, Phase, Idle, Waiting, GivenUp, originator_at_opening}
use Rattle.cip_class3.specs.OriginatorRule.{submit_refusal, first_refusal, form_refusal}
use Rattle.cip_class3.specs.OriginatorRule.{with_next_request, after_item, accepted_reply, after_give_up, is_reply}
use Rattle.cip_class3.specs.OriginatorRule.{answers, idle_again, is_waiting}
use Rattle.cip_class3.specs.declared.originator.Refused.{Refused}
use Rattle.cip_class3.specs.Item.{item, message_of}
use Rattle.enip_wire.specs.Frames.{Frame}
use Rattle.enip_client.specs.declared.fault.ClientFault.{ClientFault}
use Rattle.enip_client.specs.declared.fault.ClientFault.TheVariants as faults
use Rattle.enip_client.specs.declared.state.Awaited.{Awaited}
use Rattle.enip_client.specs.declared.state.Awaited.TheVariants as awaited
use Rattle.enip_client.specs.declared.state.State.{State}
use Rattle.enip_client.specs.declared.wants.Wants.{Wants}
use Rattle.enip_client.specs.Frames.{item_frame}
use Rattle.enip_client.specs.State.{session_in, o_to_t_id_in, is_open}
use Rattle.enip_client.specs.Calls.{Lent, refusal, unless, submits, after_lending, is_unconnected}
use Rattle.enip_client.specs.Calls.{can_register, can_open, can_ask, can_submit, can_close, is_connected}
use Rattle.enip_client.specs.Calls.{submits_unless, submitted, asking, item_sent}
use Rattle.enip_client.specs.Client.{ClientState, new_client, fed}
use Rattle.enip_client.specs.Hears.{HeardEvent, TurnResult, accepted}
use Rattle.enip_client.specs.Hears.HeardEvent.{Nothing, Registered, Opened, Replied, Accepted, Closed}
use Rattle.enip_client.specs.Runs.{Action, Call, Event, Act, Feed, Acted, Framed, Long, after_action, frame_lent}
use Rattle.enip_client.specs.Runs.{after_call, lent_in}
use Rattle.enip_client.specs.Runs.{after_calls, frame_before, after_event, after_events, events_of_calls, IsReplyTo}
use Rattle.enip_client.specs.Runs.{call_of_event, call_of_item, call_before, call_where_connected, originator_calls}
use Rattle.enip_client.specs.Runs.{originator_after}
use Rattle.enip_client.specs.Runs.{frames_submitted, ItemsFrom, Exchange, Requested, Heard, requested_before}
use Rattle.enip_client.specs.Runs.{heard_before, exchanges}
use Rattle.enip_client.specs.Runs.{RepliedOnce}
use Rattle.enip_client.specs.Runs.Action.{Register, Open, Unconnected, Submit, Resend, GiveUp, Close, Unregister}
use Rattle.enip_client.specs.Runs.Action.{OpenOver, UnconnectedOver, CloseOver}
use Rattle.enip_client.specs.Frames.{send_request}
use Rattle.cip_bytes.specs.declared.protocol.TheConstants.{UNCONNECTED_LIMIT}
use Rattle.enip_client.proofs.TurnLemmas.{IsTurn, Ignores, Fails, Answers, Receives, is-turn}
use Rattle.enip_client.proofs.RunLemmas.{state-calls, by-turns}

-- A call that requests does not change the originator.
kept : (s : State) (o : Option ClientFault) (r : Result Lent ClientFault)
    → (after_lending s r).originator ≡ s.originator
    → (after_lending s (unless o r)).originator ≡ s.originator
kept s None r e = e
kept s (Some fault) r e = refl

asked-kept : (s : State) (b : Bool) (lent : Lent) → lent.state.originator ≡ s.originator
    → (after_lending s (let r : Result Lent ClientFault = cond b (Ok lent) (Err faults.Request) in r)).originator
    ≡ s.originator
asked-kept s true lent e = e
asked-kept s false lent e = refl

-- An originator after at most one call.
abbrev stepped : OriginatorState → Option originators.OriginatorCall → OriginatorState
stepped originator o = elim o [ None ↦ originator | Some call ↦ originators.after_call originator call ]

-- If the client is connected, a submit is the originator's.
submits-by : (s : State) (request : List ℕ) (o : Option ClientFault) (b : Bool) → refusal s (can_submit s) ≡ o
    → is_connected s ≡ b
    → (after_lending s (submits_unless s request o)).originator
    ≡ stepped s.originator (cond b (Some (originators.Submit request)) None)
    → (after_lending s (submits s request)).originator
    ≡ stepped s.originator (call_where_connected s (originators.Submit request))
submits-by s request o b e d same =
    ap (λ r. (after_lending s (submits_unless s request r)).originator) e
    ∙ (same ∙ sym (ap (λ x. stepped s.originator (cond x (Some (originators.Submit request)) None)) d))

taken-by : (s : State) (request : List ℕ) (o : Option Refused)
    → (after_lending s (submitted s request o)).originator ≡ originators.after_submit o s.originator request
taken-by s request None = refl
taken-by s request (Some why) = refl

allows : (s : State) (request : List ℕ) → (o : Option ClientFault) → s.fault ≡ o → (b : Bool) → is_open s.connection_state ≡ b
    → (after_lending s (submits s request)).originator
    ≡ stepped s.originator (call_where_connected s (originators.Submit request))
allows s request (Some fault) e b d = submits-by s request (Some fault) false (rw e refl) (rw e refl) refl
allows s request None e false d = submits-by s request (Some faults.State) false (rw (e, d) refl) (rw (e, d) refl) refl
allows s request None e true d =
    submits-by s request None true (rw (e, d) refl) (rw (e, d) refl)
    (taken-by s request (submit_refusal s.originator request))

gives : (s : State) (b : Bool)
    → (let t : State = cond b (record s { originator = after_give_up s.originator }) s in t).originator
    ≡ stepped s.originator (cond b (Some originators.GiveUp) None)
gives s true = refl
gives s false = refl

resent : (s : State) (b : Bool) → s.originator ≡ stepped s.originator (cond b (Some originators.Resend) None)
resent s true = refl
resent s false = refl

originator-action : (s : State) (a : Action)
    → (after_action s a).originator ≡ stepped s.originator (call_of_event s (Acted a))
originator-action s Register = kept s (refusal s (can_register s)) (Ok _) refl
originator-action s Open = kept s (refusal s (can_open s)) (Ok _) refl
originator-action s (Unconnected request) =
    kept s (refusal s (can_ask s)) _
    (asked-kept s (is_unconnected request) (asking s (awaited.Reply (slice_index request 0)) request) refl)
originator-action s (Submit request) = allows s request s.fault refl (is_open s.connection_state) refl
originator-action s Resend = resent s (is_connected s)
originator-action s GiveUp = gives s (is_connected s)
originator-action s Close = kept s (refusal s (can_close s)) (Ok _) refl
originator-action s (OpenOver route) = kept s (refusal s (can_open s)) (Ok _) refl
originator-action s (UnconnectedOver [] request) =
    kept s (refusal s (can_ask s)) _
    (asked-kept s (is_unconnected request) (asking s (awaited.Reply (slice_index request 0)) request) refl)
originator-action s (UnconnectedOver (byte ∷ route) request) =
    kept s (refusal s (can_ask s)) _
    (asked-kept s
    (is_unconnected request && nat_le (length (send_request (byte ∷ route) request)) UNCONNECTED_LIMIT)
    (asking s (awaited.Routed (slice_index request 0)) (send_request (byte ∷ route) request)) refl)
originator-action s (CloseOver route) = kept s (refusal s (can_close s)) (Ok _) refl
originator-action s Unregister = kept s (refusal s (can_ask s)) (Ok _) refl

originator-turn : {s : State} {o : Option (List ℕ)} {t : TurnResult} → IsTurn s o t
    → t.state.originator ≡ stepped s.originator (call_of_item o)
originator-turn Ignores = refl
originator-turn (Fails fault) = refl
originator-turn (Answers w registration connection_state heard_event is to) = refl
originator-turn (Receives item) = refl

originator-event : (s : State) (e : Event) → (after_event s e).originator ≡ stepped s.originator (call_of_event s e)
originator-event s (Acted a) = originator-action s a
originator-event s (Framed f) = originator-turn (is-turn s f)
originator-event s (Long h) = refl

after-before : (originator : OriginatorState) (o : Option originators.OriginatorCall) (calls : List originators.OriginatorCall)
    → originator_after originator (call_before o calls) ≡ originator_after (stepped originator o) calls
after-before originator None calls = refl
after-before originator (Some call) calls = refl

originator-events : (s : State) (events : List Event)
    → (after_events s events).originator ≡ originator_after s.originator (originator_calls s events)
originator-events s [] = refl
originator-events s (e ∷ events) =
    originator-events (after_event s e) events
    ∙ (ap (λ x. originator_after x (originator_calls (after_event s e) events)) (originator-event s e)
    ∙ sym (after-before s.originator (call_of_event s e) (originator_calls (after_event s e) events)))

pub of-originator : (wants : Wants) (calls : List Call) → (after_calls (new_client wants) calls).state.originator
    ≡ originator_after (originator_at_opening wants.first_count wants.o_to_t_size wants.t_to_o_size)
    (originator_calls (new_client wants).state (events_of_calls (new_client wants) calls))
of-originator wants calls =
    ap (λ (s : State). s.originator) (state-calls (new_client wants) calls)
    ∙ originator-events (new_client wants).state (events_of_calls (new_client wants) calls)

-- The items' counts.
next-item : (originator : OriginatorState) (item : List ℕ) → (after_item originator item).next ≡ originator.next
next-item originator item = go (is_reply originator.t_to_o_size originator.phase item)
  where
    go : (b : Bool) → (let o : OriginatorState = cond b (idle_again originator) originator in o).next ≡ originator.next
    go true = refl
    go false = refl

next-turn : {s : State} {o : Option (List ℕ)} {t : TurnResult} → IsTurn s o t → t.state.originator.next ≡ s.originator.next
next-turn Ignores = refl
next-turn (Fails fault) = refl
next-turn (Answers w registration connection_state heard_event is to) = refl
next-turn {s} (Receives item) = next-item s.originator item

next-piece : (c : ClientState) (piece : List ℕ) → (fed c piece).client.state.originator.next ≡ c.state.originator.next
next-piece c piece =
    by-turns (λ s heard_event. s.originator.next ≡ c.state.originator.next) c piece refl (λ f. next-turn (is-turn c.state f))
    (λ fault. refl)

next-give_up : (originator : OriginatorState) → (after_give_up originator).next ≡ originator.next
next-give_up originator = go (is_waiting originator.phase)
  where
    go : (b : Bool)
        → (let o : OriginatorState = cond b (record originator { phase = GivenUp }) originator in o).next
        ≡ originator.next
    go true = refl
    go false = refl

next-gives : (s : State) (b : Bool)
    → (let t : State = cond b (record s { originator = after_give_up s.originator }) s in t).originator.next
    ≡ s.originator.next
next-gives s true = next-give_up s.originator
next-gives s false = refl

-- A submit lends nothing and changes nothing, or its request waits from then on.
data IsSubmit (s : State) (request : List ℕ) : Option Frame → State → Type 0 where
  Not_sent : IsSubmit s request None s
  Sent : submit_refusal s.originator request ≡ None
      → IsSubmit s request (Some (item_sent s (item s.originator.next request)))
      (record s { originator = with_next_request s.originator request })

is-submit : (s : State) (request : List ℕ)
    → IsSubmit s request (frame_lent s (Submit request)) (after_action s (Submit request))
is-submit s request = go (refusal s (can_submit s))
  where
    by : (o : Option Refused) → submit_refusal s.originator request ≡ o
        → IsSubmit s request (lent_in (submitted s request o)) (after_lending s (submitted s request o))
    by None is = Sent is
    by (Some why) is = Not_sent

    go : (o : Option ClientFault)
        → IsSubmit s request (lent_in (submits_unless s request o)) (after_lending s (submits_unless s request o))
    go None = by (submit_refusal s.originator request) refl
    go (Some fault) = Not_sent

abbrev next_in : OriginatorState → ℕ
next_in originator = originator.next

items-submit : (n : ℕ) (s t : State) (request : List ℕ) (lent : Option Frame) (later : List Frame)
    → IsSubmit s request lent t
    → s.originator.next ≡ n % 2 ^ 16 → ((m : ℕ) → t.originator.next ≡ m % 2 ^ 16 → ItemsFrom m later)
    → ItemsFrom n (frame_before lent later)
items-submit n s t request lent later Not_sent is rest = rest n is
items-submit n s t request lent later (Sent free) is rest = (
  (
    session_in s.registration,
    o_to_t_id_in s.connection_state,
    request,
    ap (λ count. item_frame (session_in s.registration) (o_to_t_id_in s.connection_state) (item count request)) is,
  ),
  rest (n + 1) (ap (λ k. (k + 1) % 65536) is ∙ omega arith),
)

items-from : (calls : List Call) (c : ClientState) (n : ℕ) → c.state.originator.next ≡ n % 2 ^ 16
    → ItemsFrom n (frames_submitted c calls)
items-from [] c n is = tt
items-from (Act Register ∷ calls) c n is =
    items-from calls (after_call c (Act Register)) n (ap next_in (originator-action c.state Register) ∙ is)
items-from (Act Open ∷ calls) c n is =
    items-from calls (after_call c (Act Open)) n (ap next_in (originator-action c.state Open) ∙ is)
items-from (Act (Unconnected request) ∷ calls) c n is =
    items-from calls (after_call c (Act (Unconnected request))) n
    (ap next_in (originator-action c.state (Unconnected request)) ∙ is)
items-from (Act (Submit request) ∷ calls) c n is =
    items-submit n c.state (after_action c.state (Submit request)) request (frame_lent c.state (Submit request)) _
    (is-submit c.state request) is (items-from calls (after_call c (Act (Submit request))))
items-from (Act Resend ∷ calls) c n is = items-from calls (after_call c (Act Resend)) n is
items-from (Act GiveUp ∷ calls) c n is =
    items-from calls (after_call c (Act GiveUp)) n (next-gives c.state (is_connected c.state) ∙ is)
items-from (Act Close ∷ calls) c n is =
    items-from calls (after_call c (Act Close)) n (ap next_in (originator-action c.state Close) ∙ is)
items-from (Act (OpenOver route) ∷ calls) c n is =
    items-from calls (after_call c (Act (OpenOver route))) n (ap next_in (originator-action c.state (OpenOver route)) ∙ is)
items-from (Act (UnconnectedOver route request) ∷ calls) c n is =
    items-from calls (after_call c (Act (UnconnectedOver route request))) n
    (ap next_in (originator-action c.state (UnconnectedOver route request)) ∙ is)
items-from (Act (CloseOver route) ∷ calls) c n is =
    items-from calls (after_call c (Act (CloseOver route))) n
    (ap next_in (originator-action c.state (CloseOver route)) ∙ is)
items-from (Act Unregister ∷ calls) c n is =
    items-from calls (after_call c (Act Unregister)) n (ap next_in (originator-action c.state Unregister) ∙ is)
items-from (Feed piece ∷ calls) c n is = items-from calls (after_call c (Feed piece)) n (next-piece c piece ∙ is)

pub counts-follow : (wants : Wants) (calls : List Call) → wants.first_count < 2 ^ 16
    → ItemsFrom wants.first_count (frames_submitted (new_client wants) calls)
counts-follow wants calls fits = items-from calls (new_client wants) wants.first_count (omega arith)

-- A property of what is seen from a phase on.
abbrev Once : Phase → List Exchange → Type 0
Once Idle more = RepliedOnce more
Once (Waiting count request) more = RepliedOnce (Requested request ∷ more)
Once GivenUp more = RepliedOnce more

submit-once : (size unaccepted : ℕ) (request : List ℕ) (later : List Exchange) (p : Phase)
    → first_refusal unaccepted (is_waiting p) (form_refusal size request) ≡ None
    → RepliedOnce (Requested request ∷ later) → Once p (Requested request ∷ later)
submit-once size unaccepted request later Idle free once = once
submit-once size unaccepted request later (Waiting count waiting) free once =
    absurd (let no : true ≡ false = (first_refusal-none unaccepted true (form_refusal size request) free).free in cc)
submit-once size unaccepted request later GivenUp free once = once

submitted-once : (s t : State) (request : List ℕ) (lent : Option Frame) (later : List Exchange)
    → IsSubmit s request lent t
    → Once t.originator.phase later → Once s.originator.phase (requested_before lent request later)
submitted-once s t request lent later Not_sent once = once
submitted-once s t request lent later (Sent free) once =
    submit-once s.originator.o_to_t_size s.originator.unaccepted request later s.originator.phase free once

requested-before : (request : List ℕ) (later : List Exchange) → RepliedOnce later
    → RepliedOnce (Requested request ∷ later)
requested-before request [] once = tt
requested-before request (Requested next ∷ later) once = once
requested-before request (Heard reply ∷ later) once = absurd once

abbrev state : ℕ → ℕ → ℕ → ℕ → Phase → OriginatorState
state o_to_t_size t_to_o_size next unaccepted phase =
    record { o_to_t_size = o_to_t_size; t_to_o_size = t_to_o_size; next = next; phase = phase; unaccepted = unaccepted }

give-once : (o_to_t_size t_to_o_size next unaccepted : ℕ) (p : Phase) (later : List Exchange)
    → Once (after_give_up (state o_to_t_size t_to_o_size next unaccepted p)).phase later → Once p later
give-once o_to_t_size t_to_o_size next unaccepted Idle later once = once
give-once o_to_t_size t_to_o_size next unaccepted (Waiting count request) later once = requested-before request later once
give-once o_to_t_size t_to_o_size next unaccepted GivenUp later once = once

gives-once : (s : State) (b : Bool) (later : List Exchange)
    → Once (let t : State = cond b (record s { originator = after_give_up s.originator }) s in t).originator.phase later
    → Once s.originator.phase later
gives-once s true later once =
    give-once s.originator.o_to_t_size s.originator.t_to_o_size s.originator.next s.originator.unaccepted s.originator.phase later once
gives-once s false later once = once

-- The service of an accepted reply follows its count.
service-after : (bytes : List ℕ) → slice_index (drop 2 bytes) 0 ≡ slice_index bytes 2
service-after [] = refl
service-after (x ∷ []) = refl
service-after (x ∷ y ∷ bytes) = refl

item-once : (o_to_t_size t_to_o_size next unaccepted : ℕ) (p : Phase) (bytes : List ℕ) (later : List Exchange)
    → Once (after_item (state o_to_t_size t_to_o_size next unaccepted p) bytes).phase later
    → Once p (heard_before (accepted (accepted_reply (state o_to_t_size t_to_o_size next unaccepted p) bytes)) later)
item-once o_to_t_size t_to_o_size next unaccepted Idle bytes later once = once
item-once o_to_t_size t_to_o_size next unaccepted GivenUp bytes later once = once
item-once o_to_t_size t_to_o_size next unaccepted (Waiting count request) bytes later once =
    go (answers t_to_o_size count (slice_index request 0) bytes) refl once
  where
    go : (b : Bool) → answers t_to_o_size count (slice_index request 0) bytes ≡ b
        → Once (let o : OriginatorState = cond b
        (idle_again (state o_to_t_size t_to_o_size next unaccepted (Waiting count request)))
        (state o_to_t_size t_to_o_size next unaccepted (Waiting count request)) in o).phase later
        → RepliedOnce (Requested request ∷ heard_before (accepted (cond b (Some (message_of bytes)) None)) later)
    go true is once = (service-after bytes ∙ eqb-true _ _ ((and_parts _ _ is).1), once)
    go false is once = once

-- Other replies are not the connection's.
unheard : (what : Awaited) (heard_event : HeardEvent) (later : List Exchange) → IsReplyTo what heard_event → heard_before heard_event later ≡ later
unheard what Nothing later to = refl
unheard what Registered later to = refl
unheard what Opened later to = refl
unheard what (Replied bytes) later to = refl
unheard awaited.Session (Accepted bytes) later to = absurd to
unheard awaited.Connection (Accepted bytes) later to = absurd to
unheard (awaited.Reply service) (Accepted bytes) later to = absurd to
unheard (awaited.Routed service) (Accepted bytes) later to = absurd to
unheard awaited.End (Accepted bytes) later to = absurd to
unheard what (HeardEvent.Refused status extended) later to = refl
unheard what Closed later to = refl

turn-once : {s : State} {o : Option (List ℕ)} {t : TurnResult} → IsTurn s o t → (later : List Exchange)
    → Once t.state.originator.phase later → Once s.originator.phase (heard_before t.heard_event later)
turn-once Ignores later once = once
turn-once (Fails fault) later once = once
turn-once {s} (Answers w registration connection_state heard_event is to) later once =
    subst (Once s.originator.phase) (sym (unheard w.awaited heard_event later to)) once
turn-once {s} (Receives bytes) later once =
    item-once s.originator.o_to_t_size s.originator.t_to_o_size s.originator.next s.originator.unaccepted s.originator.phase bytes
    later once

kept-once : (s t : State) (later : List Exchange) → t.originator ≡ s.originator → Once t.originator.phase later
    → Once s.originator.phase later
kept-once s t later same once = subst (λ (o : OriginatorState). Once o.phase later) same once

replied-from : (calls : List Call) (c : ClientState) → Once c.state.originator.phase (exchanges c calls)
replied-from [] c = go c.state.originator.phase
  where
    go : (p : Phase) → Once p []
    go Idle = tt
    go (Waiting count request) = tt
    go GivenUp = tt
replied-from (Act Register ∷ calls) c =
    kept-once c.state (after_action c.state Register) _ (originator-action c.state Register)
    (replied-from calls (after_call c (Act Register)))
replied-from (Act Open ∷ calls) c =
    kept-once c.state (after_action c.state Open) _ (originator-action c.state Open)
    (replied-from calls (after_call c (Act Open)))
replied-from (Act (Unconnected request) ∷ calls) c =
    kept-once c.state (after_action c.state (Unconnected request)) _ (originator-action c.state (Unconnected request))
    (replied-from calls (after_call c (Act (Unconnected request))))
replied-from (Act (Submit request) ∷ calls) c =
    submitted-once c.state (after_action c.state (Submit request)) request (frame_lent c.state (Submit request)) _
    (is-submit c.state request) (replied-from calls (after_call c (Act (Submit request))))
replied-from (Act Resend ∷ calls) c = replied-from calls (after_call c (Act Resend))
replied-from (Act GiveUp ∷ calls) c =
    gives-once c.state (is_connected c.state) _ (replied-from calls (after_call c (Act GiveUp)))
replied-from (Act Close ∷ calls) c =
    kept-once c.state (after_action c.state Close) _ (originator-action c.state Close)
    (replied-from calls (after_call c (Act Close)))
replied-from (Act (OpenOver route) ∷ calls) c =
    kept-once c.state (after_action c.state (OpenOver route)) _ (originator-action c.state (OpenOver route))
    (replied-from calls (after_call c (Act (OpenOver route))))
replied-from (Act (UnconnectedOver route request) ∷ calls) c =
    kept-once c.state (after_action c.state (UnconnectedOver route request)) _
    (originator-action c.state (UnconnectedOver route request))
    (replied-from calls (after_call c (Act (UnconnectedOver route request))))
replied-from (Act (CloseOver route) ∷ calls) c =
    kept-once c.state (after_action c.state (CloseOver route)) _ (originator-action c.state (CloseOver route))
    (replied-from calls (after_call c (Act (CloseOver route))))
replied-from (Act Unregister ∷ calls) c =
    kept-once c.state (after_action c.state Unregister) _ (originator-action c.state Unregister)
    (replied-from calls (after_call c (Act Unregister)))
replied-from (Feed piece ∷ calls) c =
    by-turns (λ s heard_event. (later : List Exchange) → Once s.originator.phase later
    → Once c.state.originator.phase (heard_before heard_event later)) c piece
    (λ later once. once) (λ f. turn-once (is-turn c.state f)) (λ fault later once. once)
    (exchanges (after_call c (Feed piece)) calls) (replied-from calls (after_call c (Feed piece)))

pub replied-once : (wants : Wants) (calls : List Call) → RepliedOnce (exchanges (new_client wants) calls)
replied-once wants calls = replied-from calls (new_client wants)
