-- What follows what was heard, and what was performed.
use Rattle.std.proofs.Common.{◌≡◌, ℕ, ◌⊎◌, inl, inr, nat_lt, if◌then◌else◌, Bool, true, false, List, [], ◌∷◌, ◌++◌, length, take, append-nil, refl, sym, ap, subst, ◌∙◌, Option, Some, None, Result, Ok, Err}
use Rattle.std.specs.Prelude.{⊤, nat_le, ◌==◌}
use Rattle.std.proofs.KnownBytes.{Appends-nil}
use Rattle.std.specs.Io.KnownBytes.{Appends}
use Rattle.enip_wire.specs.Frames.{Frame, frame}
use Rattle.enip_wire.specs.Bodies.{unit_body_of}
use Rattle.enip_wire.specs.declared.item_list.CpfFault.{CpfFault}
use Rattle.enip_wire.specs.Stream.{Parsed, parsed, held_and_taken, cleared}
use Rattle.enip_wire.specs.Stream.Parsed.{Incomplete, WholeFrame, TooLongHeader}
use Rattle.cip_class3.specs.OriginatorRule.{accepted_reply, after_item}
use Rattle.enip_client.specs.declared.fault.AskFault.{AskFault}
use Rattle.enip_client.specs.declared.fault.AskFault.TheVariants as ask_faults
use Rattle.enip_client.specs.declared.step.Step.{Step}
use Rattle.enip_client.specs.declared.step.Step.TheVariants as steps
use Rattle.enip_client.specs.declared.step.Call.{Call}
use Rattle.enip_client.specs.declared.step.Call.TheVariants as calls
use Rattle.enip_client.specs.declared.step.Asked.{Asked}
use Rattle.enip_client.specs.declared.fault.ClientFault.{ClientFault}
use Rattle.enip_client.specs.declared.fault.ClientFault.TheVariants as faults
use Rattle.enip_client.specs.declared.fault.SubmitFault.{SubmitFault}
use Rattle.enip_client.specs.declared.fault.SubmitFault.TheVariants as submit_faults
use Rattle.enip_client.specs.declared.state.State.{State}
use Rattle.enip_client.specs.declared.state.Awaited.{Awaited}
use Rattle.enip_client.specs.declared.state.Awaited.TheVariants as awaited
use Rattle.enip_client.specs.declared.state.Awaiting.{Awaiting}
use Rattle.enip_client.specs.Calls.{Lent, after_lending, opens_over, closes_over, unregisters, submits, asks_over}
use Rattle.enip_client.specs.Client.{ClientState, fed, fed_unless, with_state}
use Rattle.cip_message.specs.Reply.{Reply}
use Rattle.cip_bytes.specs.Numbers.{number_at}
use Rattle.enip_client.specs.declared.state.ConnectionState.TheVariants.{Open}
use Rattle.enip_client.specs.declared.state.Registration.TheVariants as registrations
use Rattle.cip_route.specs.declared.send.TheConstants.{UNCONNECTED_SEND}
use Rattle.enip_client.specs.Frames.{open_service}
use Rattle.cip_bytes.specs.Protocol.{manager_service_number}
use Rattle.cip_bytes.specs.declared.protocol.ManagerService.TheVariants.{ForwardClose}
use Rattle.enip_client.specs.Hears.{answered, refuses, accepted, is_answer, is_for_connection, TurnResult, HeardEvent, Answer, turned_to, faulted, session_turn, opening_turn, reply_turn, router_turn, routed_turn, closing_turn, shaped, answer_to, answer_turn, item_turn, other_turn, hears_awaiting, hears_parsed}
use Rattle.enip_client.specs.Hears.HeardEvent.{Nothing, Registered, Opened, Replied, Accepted, Refused, Closed}
use Rattle.enip_client.specs.Asking.{AskPhase, Exchange, LONGEST_REPLY, is_awaiting, failed, lends, lends_call, requests_over, submit_failure, sends_lent, opening, requesting, closing, leaving, goes_on, hears_unless, after_parsed}
use Rattle.enip_client.specs.Asking.AskPhase.{Failed}
use Rattle.enip_client.specs.AskSteps.{ask_phase_of, step_after, called, next_of, reply_after, IsPerformed, exchange_as, exchange_now, Held, IsAtPhase, ExchangeResult, IsAdvanced}

-- A turn after which no fault lasts, or in which nothing is heard.
record Mild (t : TurnResult) : Type 0 where
  either : (t.state.fault ≡ None) ⊎ (t.heard_event ≡ Nothing)

mild_if : (b : Bool) (t u : TurnResult) → Mild t → Mild u → Mild (if b then t else u)
mild_if true t u p q = p
mild_if false t u p q = q

mild_faulted : (s : State) (fault : ClientFault) → Mild (faulted s fault)
mild_faulted s fault = record { either = inr refl }

mild_session : (s : State) (f : Frame) → s.fault ≡ None → Mild (session_turn s f)
mild_session s f healthy =
    mild_if (length f.body == 4) (turned_to (record (answered s) { registration = registrations.Registered f.header.session }) Registered)
    (faulted s faults.Malformed) (record { either = inl healthy }) (mild_faulted s faults.Malformed)

mild_refuses : (s : State) (r : Reply) → s.fault ≡ None → Mild (refuses s r)
mild_refuses s r healthy = record { either = inl healthy }

mild_opening : (s : State) (a : Option Answer) → s.fault ≡ None → Mild (opening_turn s a)
mild_opening s None healthy = mild_faulted s faults.Malformed
mild_opening s (Some a) healthy =
    let opened : TurnResult = turned_to (record (answered s) { connection_state = Open (number_at 0 4 a.reply.data) }) Opened in
    let some : TurnResult = if nat_le 26 (length a.reply.data) then opened else faulted s faults.Malformed in
    mild_if (a.reply.status == 0) some (refuses s a.reply)
    (mild_if (nat_le 26 (length a.reply.data)) opened (faulted s faults.Malformed) (record { either = inl healthy }) (mild_faulted s faults.Malformed))
    (mild_refuses s a.reply healthy)

mild_reply : (s : State) (a : Option Answer) → s.fault ≡ None → Mild (reply_turn s a)
mild_reply s None healthy = mild_faulted s faults.Malformed
mild_reply s (Some a) healthy = record { either = inl healthy }

mild_closing : (s : State) (a : Option Answer) → s.fault ≡ None → Mild (closing_turn s a)
mild_closing s None healthy = mild_faulted s faults.Malformed
mild_closing s (Some a) healthy =
    mild_if (a.reply.status == 0) (turned_to (answered s) Closed) (refuses s a.reply) (record { either = inl healthy }) (mild_refuses s a.reply healthy)

mild_router : (s : State) (a : Option Answer) → s.fault ≡ None → Mild (router_turn s a)
mild_router s None healthy = mild_faulted s faults.Malformed
mild_router s (Some a) healthy =
    mild_if (a.reply.status == 0) (faulted s faults.Malformed) (refuses s a.reply)
    (mild_faulted s faults.Malformed) (mild_refuses s a.reply healthy)

mild_routed : (s : State) (a other : Option Answer) → s.fault ≡ None → Mild (routed_turn s a other)
mild_routed s (Some a) other healthy = record { either = inl healthy }
mild_routed s None other healthy = mild_router s other healthy

mild_shaped : (s : State) (w : Awaited) (f : Frame) → s.fault ≡ None → Mild (shaped s w f)
mild_shaped s awaited.Session f healthy = mild_session s f healthy
mild_shaped s awaited.Connection f healthy = mild_opening s (answer_to (manager_service_number (open_service s.wants)) f.body) healthy
mild_shaped s (awaited.Reply service) f healthy = mild_reply s (answer_to service f.body) healthy
mild_shaped s (awaited.Routed service) f healthy =
    mild_routed s (answer_to service f.body) (answer_to UNCONNECTED_SEND f.body) healthy
mild_shaped s awaited.End f healthy = mild_closing s (answer_to (manager_service_number ForwardClose) f.body) healthy

mild_item : (s : State) (r : Result (ℕ × List ℕ) CpfFault) → s.fault ≡ None → Mild (item_turn s r)
mild_item s (Err fault) healthy = record { either = inl healthy }
mild_item s (Ok (id, item)) healthy =
    mild_if (id == s.wants.t_to_o_id)
    (turned_to (record s { originator = after_item s.originator item }) (accepted (accepted_reply s.originator item)))
    (turned_to s Nothing) (record { either = inl healthy }) (record { either = inl healthy })

mild_other : (s : State) (f : Frame) → s.fault ≡ None → Mild (other_turn s f)
mild_other s f healthy =
    mild_if (is_for_connection s f.header) (item_turn s (unit_body_of f.body)) (turned_to s Nothing)
    (mild_item s (unit_body_of f.body) healthy) (record { either = inl healthy })

mild_answer : (s : State) (w : Awaited) (f : Frame) → s.fault ≡ None → Mild (answer_turn s w f)
mild_answer s w f healthy =
    mild_if (f.header.status == 0) (shaped s w f) (faulted s (faults.Status f.header.status))
    (mild_shaped s w f healthy) (mild_faulted s (faults.Status f.header.status))

mild_awaiting : (s : State) (f : Frame) (w : Option Awaiting) → s.fault ≡ None → Mild (hears_awaiting s f w)
mild_awaiting s f None healthy = mild_other s f healthy
mild_awaiting s f (Some w) healthy =
    mild_if (is_answer w f.header) (answer_turn s w.awaited f) (other_turn s f) (mild_answer s w.awaited f healthy) (mild_other s f healthy)

mild_sight : (s : State) (parsed_frame : Parsed) → s.fault ≡ None → Mild (hears_parsed s parsed_frame)
mild_sight s Incomplete healthy = record { either = inl healthy }
mild_sight s (WholeFrame f) healthy = mild_awaiting s f s.awaiting healthy
mild_sight s (TooLongHeader h) healthy = mild_faulted s faults.TooLong

-- What follows, by the next call.
abbrev followed : Exchange → Result (Option Call) AskFault → Exchange
followed e (Err fault) = failed e fault
followed e (Ok None) = e
followed e (Ok (Some call)) = sends_lent e (ask_phase_of (step_after call)) (called e.route call e.state e.request e.connected)

registered_follows : (e : Exchange) (connected : Bool)
    → (if connected then opening e else requesting e)
    ≡ followed e (if connected then Ok (Some calls.Open) else Ok (Some calls.Request))
registered_follows e true = refl
registered_follows e false = refl

reply_follows : (e : Exchange) (bytes : List ℕ) (long connected : Bool)
    → (if long then failed e (ask_faults.Client faults.Malformed)
    else if connected then closing (record e { reply = bytes }) else leaving (record e { reply = bytes }))
    ≡ followed (record e { reply = if long then e.reply else bytes })
    (if long then Err (ask_faults.Client faults.Malformed) else if connected then Ok (Some calls.Close) else Ok (Some calls.Leave))
reply_follows e bytes true connected = refl
reply_follows e bytes false true = refl
reply_follows e bytes false false = refl

follows : (asked : Asked) (s : State) (step : Step) (heard_event : HeardEvent) (reply : List ℕ) (sent : List Frame)
    → goes_on (exchange_as asked s (ask_phase_of step) reply sent) (ask_phase_of step) heard_event
    ≡ followed (exchange_as asked s (ask_phase_of step) (reply_after step heard_event reply) sent) (next_of step asked.connected heard_event)
follows asked s steps.Registering Registered reply sent =
    registered_follows (exchange_as asked s (ask_phase_of steps.Registering) reply sent) asked.connected
follows asked s steps.Requesting (Replied bytes) reply sent =
    reply_follows (exchange_as asked s (ask_phase_of steps.Requesting) reply sent) bytes (nat_lt LONGEST_REPLY (length bytes)) asked.connected
follows asked s steps.Requesting (Accepted bytes) reply sent =
    reply_follows (exchange_as asked s (ask_phase_of steps.Requesting) reply sent) bytes (nat_lt LONGEST_REPLY (length bytes)) asked.connected
follows asked s steps.Opening Opened reply sent = refl
follows asked s steps.Requesting (Refused status extended) reply sent = refl
follows asked s steps.Closing Closed reply sent = refl
follows asked s step heard_event reply sent = refl

-- An exchange that awaits a reply hears.
reach : (asked : Asked) (s : State) (step : Step) (reply : List ℕ) (sent : List Frame) (parsed_frame : Parsed) → is_awaiting (ask_phase_of step) ≡ true
    → after_parsed (exchange_as asked s (ask_phase_of step) reply sent) parsed_frame
    ≡ hears_unless (exchange_as asked (hears_parsed s parsed_frame).state (ask_phase_of step) reply sent) (hears_parsed s parsed_frame).heard_event (hears_parsed s parsed_frame).state.fault
reach asked s step reply sent parsed_frame waits =
    ap (λ b. if b then hears_unless (exchange_as asked (hears_parsed s parsed_frame).state (ask_phase_of step) reply sent) (hears_parsed s parsed_frame).heard_event (hears_parsed s parsed_frame).state.fault
    else exchange_as asked s (ask_phase_of step) reply sent) waits

-- A failure of the client or the connection.
abbrev pub IsOwn : AskFault → Type 0
IsOwn (ask_faults.Client fault) = ⊤
IsOwn (ask_faults.Submit why) = ⊤
IsOwn ask_faults.Read = ⊥
IsOwn ask_faults.Write = ⊥
IsOwn ask_faults.Ended = ⊥
IsOwn ask_faults.Spent = ⊥

abbrev OwnFault : {A : Type 0} → Result A AskFault → Type 0
OwnFault (Ok x) = ⊤
OwnFault (Err fault) = IsOwn fault

own_replied : (long connected : Bool)
    → OwnFault (if long then Err (ask_faults.Client faults.Malformed) else if connected then Ok (Some calls.Close) else Ok (Some calls.Leave))
own_replied true connected = tt
own_replied false true = tt
own_replied false false = tt

own_next : (step : Step) (connected : Bool) (heard_event : HeardEvent) → OwnFault (next_of step connected heard_event)
own_next steps.Registering true Registered = tt
own_next steps.Registering false Registered = tt
own_next steps.Requesting connected (Replied bytes) = own_replied (nat_lt LONGEST_REPLY (length bytes)) connected
own_next steps.Requesting connected (Accepted bytes) = own_replied (nat_lt LONGEST_REPLY (length bytes)) connected
own_next steps.Opening connected Opened = tt
own_next steps.Requesting connected (Refused status extended) = tt
own_next steps.Closing connected Closed = tt
own_next step connected heard_event = tt

own_plainly : (r : Result Lent ClientFault) → OwnFault (lends_call r)
own_plainly (Ok lent) = tt
own_plainly (Err fault) = tt

own_submit : (r : Result Lent SubmitFault) → OwnFault (lends submit_failure r)
own_submit (Ok lent) = tt
own_submit (Err (submit_faults.Client fault)) = tt
own_submit (Err (submit_faults.Refused why)) = tt

own_requests : (route : List ℕ) (s : State) (request : List ℕ) (connected : Bool) → OwnFault (requests_over route s request connected)
own_requests route s request true = own_submit (submits s request)
own_requests route s request false = own_plainly (asks_over route s request)

own_called : (route : List ℕ) (call : Call) (s : State) (request : List ℕ) (connected : Bool) → OwnFault (called route call s request connected)
own_called route calls.Open s request connected = own_plainly (opens_over route s)
own_called route calls.Request s request connected = own_requests route s request connected
own_called route calls.Close s request connected = own_plainly (closes_over route s)
own_called route calls.Leave s request connected = own_plainly (unregisters s)

-- an exchange that failed
failed_came : (asked : Asked) (sent : List Frame) (old new : Held) (e : Exchange) (fault : AskFault) → IsOwn fault
    → IsAtPhase asked sent old new (Failed fault) e → ExchangeResult asked sent old new e (Err fault)
failed_came asked sent old new e (ask_faults.Client fault) own p = p
failed_came asked sent old new e (ask_faults.Submit why) own p = p
failed_came asked sent old new e ask_faults.Read own p = absurd own
failed_came asked sent old new e ask_faults.Write own p = absurd own
failed_came asked sent old new e ask_faults.Ended own p = absurd own
failed_came asked sent old new e ask_faults.Spent own p = absurd own

-- The step after a call whose frame was written.
abbrev pub said_step : Step → Result (Unit {0}) AskFault → Result Step AskFault
said_step step (Ok done) = Ok step
said_step step (Err fault) = Err fault

said_came : (asked : Asked) (sent : List Frame) (s : State) (held : List ℕ) (ask_phase : AskPhase) (reply : List ℕ) (before after : Option (List ℕ)) (old : Held) (step : Step)
    (lent : Result Lent AskFault) (r : Result (Unit {0}) AskFault) → OwnFault lent → old.written ≡ before → IsPerformed lent before after r
    → ExchangeResult asked sent old (record { client = record { state = after_lending s lent; held = held }; written = after; reply = reply })
    (sends_lent (exchange_as asked s ask_phase reply sent) (ask_phase_of step) lent) (said_step step r)
said_came asked sent s held ask_phase reply before after old step (Ok lent) (Ok done) own is said =
    record {
      frames = lent.frame ∷ [];
      exchange = refl;
      written = subst (λ w. Appends w after (frame lent.frame ++ [])) (sym is) (subst (Appends before after) (sym (append-nil (frame lent.frame))) said);
    }
said_came asked sent s held ask_phase reply before after old step (Ok lent) (Err fault) own is said =
    let new : Held = record { client = record { state = lent.state; held = held }; written = after; reply = reply } in
    subst (λ x. ExchangeResult asked sent old new (sends_lent (exchange_as asked s ask_phase reply sent) (ask_phase_of step) (Ok lent)) (Err x)) (sym said.fault_is)
    (record {
      whole = [];
      last = lent.frame;
      ask_phase = ask_phase_of step;
      exchange = refl;
      front = said.front;
      not_all = said.not_all;
      written = subst (λ w. Appends w after (take said.front (frame lent.frame))) (sym is) said.written;
    })
said_came asked sent s held ask_phase reply before after old step (Err why) (Ok done) own is said = absurd said
said_came asked sent s held ask_phase reply before after old step (Err why) (Err fault) own is said =
    let new : Held = record { client = record { state = s; held = held }; written = after; reply = reply } in
    subst (λ x. ExchangeResult asked sent old new (failed (exchange_as asked s ask_phase reply sent) why) (Err x)) (sym said.0)
    (failed_came asked sent old new (failed (exchange_as asked s ask_phase reply sent) why) why own (record {
      frames = [];
      exchange = ap (λ l. exchange_as asked s (Failed why) reply l) (sym (append-nil sent));
      written = subst (λ w. Appends w after []) (sym is) said.1;
    }))

-- What was fed once, and what was returned and kept.
pub record Once (asked : Asked) (step : Step) (piece : List ℕ) (c : ClientState) (reply : List ℕ) (heard_event : HeardEvent) (new : ClientState)
    (after : List ℕ) : Type 0 where
  pub healthy : c.state.fault ≡ None
  pub waits : is_awaiting (ask_phase_of step) ≡ true
  pub client : new ≡ (fed c piece).client
  pub told : heard_event ≡ (fed c piece).heard_event
  pub kept : after ≡ reply_after step heard_event reply

once_client : (asked : Asked) (step : Step) (piece : List ℕ) (c : ClientState) (reply : List ℕ) (heard_event : HeardEvent) (new : ClientState) (after : List ℕ)
    → Once asked step piece c reply heard_event new after
    → new ≡ record {
      state = (hears_parsed c.state (parsed (held_and_taken c.held piece))).state;
      held = cleared (parsed (held_and_taken c.held piece)) (held_and_taken c.held piece);
    }
once_client asked step piece c reply heard_event new after o = o.client ∙ ap (λ w. (fed_unless c piece w).client) o.healthy

once_told : (asked : Asked) (step : Step) (piece : List ℕ) (c : ClientState) (reply : List ℕ) (heard_event : HeardEvent) (new : ClientState) (after : List ℕ)
    → Once asked step piece c reply heard_event new after
    → heard_event ≡ (hears_parsed c.state (parsed (held_and_taken c.held piece))).heard_event
once_told asked step piece c reply heard_event new after o = o.told ∙ ap (λ w. (fed_unless c piece w).heard_event) o.healthy

once_mild : (asked : Asked) (step : Step) (piece : List ℕ) (c : ClientState) (reply : List ℕ) (heard_event : HeardEvent) (new : ClientState) (after : List ℕ)
    → Once asked step piece c reply heard_event new after → (new.state.fault ≡ None) ⊎ (heard_event ≡ Nothing)
once_mild asked step piece c reply heard_event new after o =
    let client = once_client asked step piece c reply heard_event new after o in
    let told = once_told asked step piece c reply heard_event new after o in
    elim (mild_sight c.state (parsed (held_and_taken c.held piece)) o.healthy).either [
      | inl none ↦ inl (ap (λ x. x.state.fault) client ∙ none)
      | inr nothing ↦ inr (told ∙ nothing)
    ]

once_reached : (asked : Asked) (step : Step) (piece : List ℕ) (c : ClientState) (reply : List ℕ) (heard_event : HeardEvent) (new : ClientState) (after : List ℕ)
    (sent : List Frame) → Once asked step piece c reply heard_event new after
    → after_parsed (exchange_as asked c.state (ask_phase_of step) reply sent) (parsed (held_and_taken c.held piece))
    ≡ hears_unless (exchange_as asked new.state (ask_phase_of step) reply sent) heard_event new.state.fault
once_reached asked step piece c reply heard_event new after sent o =
    let client = once_client asked step piece c reply heard_event new after o in
    let told = once_told asked step piece c reply heard_event new after o in
    let turned : TurnResult = hears_parsed c.state (parsed (held_and_taken c.held piece)) in
    reach asked c.state step reply sent (parsed (held_and_taken c.held piece)) o.waits
    ∙ ap (λ x. hears_unless (exchange_as asked x.state (ask_phase_of step) reply sent) turned.heard_event x.state.fault) (sym client)
    ∙ ap (λ n. hears_unless (exchange_as asked new.state (ask_phase_of step) reply sent) n new.state.fault) (sym told)

once_followed : (asked : Asked) (step : Step) (piece : List ℕ) (c : ClientState) (reply : List ℕ) (heard_event : HeardEvent) (new : ClientState) (after : List ℕ)
    (sent : List Frame) → Once asked step piece c reply heard_event new after → new.state.fault ≡ None
    → after_parsed (exchange_as asked c.state (ask_phase_of step) reply sent) (parsed (held_and_taken c.held piece))
    ≡ followed (exchange_as asked new.state (ask_phase_of step) after sent) (next_of step asked.connected heard_event)
once_followed asked step piece c reply heard_event new after sent o none =
    once_reached asked step piece c reply heard_event new after sent o
    ∙ ap (λ w. hears_unless (exchange_as asked new.state (ask_phase_of step) reply sent) heard_event w) none
    ∙ follows asked new.state step heard_event reply sent
    ∙ ap (λ r. followed (exchange_as asked new.state (ask_phase_of step) r sent) (next_of step asked.connected heard_event)) (sym o.kept)

nothing_next : (step : Step) (connected : Bool) → next_of step connected Nothing ≡ Ok None
nothing_next steps.Registering connected = refl
nothing_next steps.Opening connected = refl
nothing_next steps.Requesting connected = refl
nothing_next steps.Closing connected = refl
nothing_next steps.Completed connected = refl

nothing_kept : (step : Step) (reply : List ℕ) → reply_after step Nothing reply ≡ reply
nothing_kept steps.Registering reply = refl
nothing_kept steps.Opening reply = refl
nothing_kept steps.Requesting reply = refl
nothing_kept steps.Closing reply = refl
nothing_kept steps.Completed reply = refl

-- what ended the exchange was heard
pub once_failed : (asked : Asked) (step : Step) (piece : List ℕ) (c : ClientState) (reply : List ℕ) (heard_event : HeardEvent) (new : ClientState) (after : List ℕ)
    (w : Option (List ℕ)) (fault : AskFault) (r : Result Step AskFault) → Once asked step piece c reply heard_event new after
    → Err fault ≡ next_of step asked.connected heard_event → r ≡ Err fault
    → IsAdvanced asked step piece (record { client = c; written = w; reply = reply }) (record { client = new; written = w; reply = after }) r
once_failed asked step piece c reply heard_event new after w fault r o next is =
    let none : new.state.fault ≡ None = elim (once_mild asked step piece c reply heard_event new after o) [
      | inl none ↦ none
      | inr nothing ↦ let e = next ∙ ap (next_of step asked.connected) nothing ∙ nothing_next step asked.connected in cc
    ] in
    let old : Held = record { client = c; written = w; reply = reply } in
    let last : Held = record { client = new; written = w; reply = after } in
    let own : IsOwn fault = subst OwnFault (sym next) (own_next step asked.connected heard_event) in
    record {
      bytes = ap (λ x. x.held) (once_client asked step piece c reply heard_event new after o);
      came = λ sent.
          subst (ExchangeResult asked sent old last (after_parsed (exchange_now asked step old sent) (parsed (held_and_taken c.held piece)))) (sym is)
          (failed_came asked sent old last (after_parsed (exchange_now asked step old sent) (parsed (held_and_taken c.held piece))) fault own (record {
            frames = [];
            exchange = once_followed asked step piece c reply heard_event new after sent o none
                ∙ ap (followed (exchange_as asked new.state (ask_phase_of step) after sent)) (sym next)
                ∙ ap (λ l. exchange_as asked new.state (Failed fault) after l) (sym (append-nil sent));
            written = Appends-nil w;
          }));
    }

-- a fault lasts
pub once_faulted : (asked : Asked) (step : Step) (piece : List ℕ) (c : ClientState) (reply : List ℕ) (heard_event : HeardEvent) (new : ClientState) (after : List ℕ)
    (w : Option (List ℕ)) (fault : ClientFault) → Once asked step piece c reply heard_event new after
    → Some fault ≡ new.state.fault
    → IsAdvanced asked step piece (record { client = c; written = w; reply = reply }) (record { client = new; written = w; reply = after })
    (Err (ask_faults.Client fault))
once_faulted asked step piece c reply heard_event new after w fault o lasts =
    let nothing : heard_event ≡ Nothing = elim (once_mild asked step piece c reply heard_event new after o) [
      | inl none ↦ let e = lasts ∙ none in cc
      | inr nothing ↦ nothing
    ] in
    let same : after ≡ reply = o.kept ∙ ap (λ n. reply_after step n reply) nothing ∙ nothing_kept step reply in
    record {
      bytes = ap (λ x. x.held) (once_client asked step piece c reply heard_event new after o);
      came = λ sent. record {
        frames = [];
        exchange = once_reached asked step piece c reply heard_event new after sent o
            ∙ ap (λ f. hears_unless (exchange_as asked new.state (ask_phase_of step) reply sent) heard_event f) (sym lasts)
            ∙ ap (λ r. exchange_as asked new.state (Failed (ask_faults.Client fault)) r sent) (sym same)
            ∙ ap (λ l. exchange_as asked new.state (Failed (ask_faults.Client fault)) after l) (sym (append-nil sent));
        written = Appends-nil w;
      };
    }

-- nothing follows
pub once_waits : (asked : Asked) (step : Step) (piece : List ℕ) (c : ClientState) (reply : List ℕ) (heard_event : HeardEvent) (new : ClientState) (after : List ℕ)
    (w : Option (List ℕ)) → Once asked step piece c reply heard_event new after → None ≡ new.state.fault
    → Ok None ≡ next_of step asked.connected heard_event
    → IsAdvanced asked step piece (record { client = c; written = w; reply = reply }) (record { client = new; written = w; reply = after })
    (Ok step)
once_waits asked step piece c reply heard_event new after w o none next =
    record {
      bytes = ap (λ x. x.held) (once_client asked step piece c reply heard_event new after o);
      came = λ sent. record {
        frames = [];
        exchange = once_followed asked step piece c reply heard_event new after sent o (sym none)
            ∙ ap (followed (exchange_as asked new.state (ask_phase_of step) after sent)) (sym next)
            ∙ ap (λ l. exchange_as asked new.state (ask_phase_of step) after l) (sym (append-nil sent));
        written = Appends-nil w;
      };
    }

-- a call follows
pub once_said : (asked : Asked) (step : Step) (piece : List ℕ) (c : ClientState) (reply : List ℕ) (heard_event : HeardEvent) (new : ClientState) (after : List ℕ)
    (w v : Option (List ℕ)) (call : Call) (last : ClientState) (said : Result (Unit {0}) AskFault) (r : Result Step AskFault)
    → Once asked step piece c reply heard_event new after → None ≡ new.state.fault
    → Ok (Some call) ≡ next_of step asked.connected heard_event
    → last ≡ with_state new (after_lending new.state (called asked.route.now call new.state asked.request.now asked.connected))
    → IsPerformed (called asked.route.now call new.state asked.request.now asked.connected) w v said
    → r ≡ said_step (step_after call) said
    → IsAdvanced asked step piece (record { client = c; written = w; reply = reply }) (record { client = last; written = v; reply = after }) r
once_said asked step piece c reply heard_event new after w v call last said r o none next is wrote gives =
    let old : Held = record { client = c; written = w; reply = reply } in
    let lent : Result Lent AskFault = called asked.route.now call new.state asked.request.now asked.connected in
    let made : ClientState = record { state = after_lending new.state lent; held = new.held } in
    record {
      bytes = ap (λ x. x.held) is ∙ ap (λ x. x.held) (once_client asked step piece c reply heard_event new after o);
      came = λ sent.
          let path = once_followed asked step piece c reply heard_event new after sent o (sym none)
          ∙ ap (followed (exchange_as asked new.state (ask_phase_of step) after sent)) (sym next) in
          let came = said_came asked sent new.state new.held (ask_phase_of step) after w v old (step_after call) lent said
          (own_called asked.route.now call new.state asked.request.now asked.connected) refl wrote in
          subst (λ x. ExchangeResult asked sent old (record { client = x; written = v; reply = after })
          (after_parsed (exchange_now asked step old sent) (parsed (held_and_taken c.held piece))) r) (sym is)
          (subst (ExchangeResult asked sent old (record { client = made; written = v; reply = after })
          (after_parsed (exchange_now asked step old sent) (parsed (held_and_taken c.held piece)))) (sym gives)
          (subst (λ e. ExchangeResult asked sent old (record { client = made; written = v; reply = after }) e (said_step (step_after call) said)) (sym path) came));
    }
