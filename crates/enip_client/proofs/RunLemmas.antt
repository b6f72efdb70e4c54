-- Calls of a client and their events.
use Rattle.std.proofs.Common.{◌≡◌, ℕ, ◌+◌, ◌%◌, ◌^◌, Option, Some, None, List, [], ◌∷◌, ◌++◌, refl, sym, ap, subst}
use Rattle.std.proofs.Common.{◌∙◌, arith}
use Rattle.cip_bytes.specs.Numbers.{le}
use Rattle.enip_wire.specs.Frames.{Frame}
use Rattle.enip_wire.specs.Stream.{Parsed, held_and_taken, parsed}
use Rattle.enip_wire.specs.Stream.Parsed.{Incomplete, WholeFrame, TooLongHeader}
use Rattle.enip_client.specs.declared.fault.ClientFault.{ClientFault}
use Rattle.enip_client.specs.declared.fault.ClientFault.TheVariants as faults
use Rattle.enip_client.specs.declared.state.Awaited.{Awaited}
use Rattle.enip_client.specs.declared.state.Awaited.TheVariants as awaited
use Rattle.enip_client.specs.declared.state.Awaiting.{Awaiting}
use Rattle.enip_client.specs.declared.state.State.{State}
use Rattle.enip_client.specs.declared.wants.Wants.{Wants}
use Rattle.enip_client.specs.Calls.{next_number}
use Rattle.enip_client.specs.Client.{ClientState, new_client, fed, fed_unless}
use Rattle.enip_client.specs.Hears.{HeardEvent, TurnResult, hears, hears_parsed, faulted}
use Rattle.enip_client.specs.Hears.HeardEvent.{Nothing, Registered, Opened, Replied, Accepted, Refused, Closed}
use Rattle.cip_class3.specs.OriginatorRule.{accepted_reply}
use Rattle.enip_client.specs.Hears.{accepted}
use Rattle.enip_client.specs.Runs.{Call, Event, Act, Feed, after_action, frame_lent, after_call}
use Rattle.enip_client.specs.Runs.{lent_by_call, heard_events_of_call, after_calls, frame_before, frames_lent, heard_events_before}
use Rattle.enip_client.specs.Runs.{heard_events_of_calls}
use Rattle.enip_client.specs.Runs.{after_event, lent_by_event, heard_events_of_event, after_events, lent_by_events}
use Rattle.enip_client.specs.Runs.{heard_events_of_events}
use Rattle.enip_client.specs.Runs.{events_of_parsed, events_of_piece, events_of_call, events_of_calls}
use Rattle.enip_client.specs.Runs.{awaited_by, context_before, contexts_lent, CountFrom}
use Rattle.enip_client.specs.Runs.{Seen, Asked, asked_before, answered_before, seen_of_calls, IsReplyTo, AnsweredOnce}
use Rattle.enip_client.proofs.TurnLemmas.{IsTurn, Ignores, Fails, Answers, Receives, is-turn}
use Rattle.enip_client.proofs.ActionLemmas.{IsAction, Stays, Asks, Sends, is-action}

-- Events, one list after another.
after-append : (s : State) (xs ys : List Event) → after_events s (xs ++ ys) ≡ after_events (after_events s xs) ys
after-append s [] ys = refl
after-append s (x ∷ xs) ys = after-append (after_event s x) xs ys

frame-more : (o : Option Frame) (xs ys : List Frame) → frame_before o (xs ++ ys) ≡ frame_before o xs ++ ys
frame-more None xs ys = refl
frame-more (Some f) xs ys = refl

lent-append : (s : State) (xs ys : List Event)
    → lent_by_events s (xs ++ ys) ≡ lent_by_events s xs ++ lent_by_events (after_events s xs) ys
lent-append s [] ys = refl
lent-append s (x ∷ xs) ys =
    ap (frame_before (lent_by_event s x)) (lent-append (after_event s x) xs ys)
    ∙ frame-more (lent_by_event s x) (lent_by_events (after_event s x) xs) _

pub heard_event-more : (heard_event : HeardEvent) (xs ys : List HeardEvent) → heard_events_before heard_event (xs ++ ys) ≡ heard_events_before heard_event xs ++ ys
heard_event-more Nothing xs ys = refl
heard_event-more Registered xs ys = refl
heard_event-more Opened xs ys = refl
heard_event-more (Replied bytes) xs ys = refl
heard_event-more (Accepted bytes) xs ys = refl
heard_event-more (Refused status extended) xs ys = refl
heard_event-more Closed xs ys = refl

heard_event-append : (s : State) (xs ys : List Event)
    → heard_events_of_events s (xs ++ ys) ≡ heard_events_of_events s xs ++ heard_events_of_events (after_events s xs) ys
heard_event-append s [] ys = refl
heard_event-append s (x ∷ xs) ys =
    ap (heard_events_before (heard_events_of_event s x)) (heard_event-append (after_event s x) xs ys)
    ∙ heard_event-more (heard_events_of_event s x) (heard_events_of_events (after_event s x) xs) _

-- A piece is its event.
parsed_frame-state : (s : State) (x : Parsed) → (hears_parsed s x).state ≡ after_events s (events_of_parsed x)
parsed_frame-state s Incomplete = refl
parsed_frame-state s (WholeFrame f) = refl
parsed_frame-state s (TooLongHeader h) = refl

parsed_frame-lent : (s : State) (x : Parsed) → [] ≡ lent_by_events s (events_of_parsed x)
parsed_frame-lent s Incomplete = refl
parsed_frame-lent s (WholeFrame f) = refl
parsed_frame-lent s (TooLongHeader h) = refl

parsed_frame-heard_event : (s : State) (x : Parsed) → heard_events_before (hears_parsed s x).heard_event [] ≡ heard_events_of_events s (events_of_parsed x)
parsed_frame-heard_event s Incomplete = refl
parsed_frame-heard_event s (WholeFrame f) = refl
parsed_frame-heard_event s (TooLongHeader h) = refl

piece-state : (c : ClientState) (piece : List ℕ) (o : Option ClientFault)
    → (fed_unless c piece o).client.state ≡ after_events c.state (events_of_piece c.held piece o)
piece-state c piece None = parsed_frame-state c.state (parsed (held_and_taken c.held piece))
piece-state c piece (Some fault) = refl

piece-lent : (c : ClientState) (piece : List ℕ) (o : Option ClientFault)
    → [] ≡ lent_by_events c.state (events_of_piece c.held piece o)
piece-lent c piece None = parsed_frame-lent c.state (parsed (held_and_taken c.held piece))
piece-lent c piece (Some fault) = refl

piece-heard_event : (c : ClientState) (piece : List ℕ) (o : Option ClientFault)
    → heard_events_before (fed_unless c piece o).heard_event [] ≡ heard_events_of_events c.state (events_of_piece c.held piece o)
piece-heard_event c piece None = parsed_frame-heard_event c.state (parsed (held_and_taken c.held piece))
piece-heard_event c piece (Some fault) = refl

call-state : (c : ClientState) (call : Call) → (after_call c call).state ≡ after_events c.state (events_of_call c call)
call-state c (Act a) = refl
call-state c (Feed piece) = piece-state c piece c.state.fault

call-lent : (c : ClientState) (call : Call)
    → frame_before (lent_by_call c call) [] ≡ lent_by_events c.state (events_of_call c call)
call-lent c (Act a) = refl
call-lent c (Feed piece) = piece-lent c piece c.state.fault

call-heard_event : (c : ClientState) (call : Call)
    → heard_events_before (heard_events_of_call c call) [] ≡ heard_events_of_events c.state (events_of_call c call)
call-heard_event c (Act a) = refl
call-heard_event c (Feed piece) = piece-heard_event c piece c.state.fault

pub state-calls : (c : ClientState) (calls : List Call)
    → (after_calls c calls).state ≡ after_events c.state (events_of_calls c calls)
state-calls c [] = refl
state-calls c (call ∷ calls) =
    state-calls (after_call c call) calls
    ∙ (ap (λ s. after_events s (events_of_calls (after_call c call) calls)) (call-state c call)
    ∙ sym (after-append c.state (events_of_call c call) (events_of_calls (after_call c call) calls)))

pub lent-calls : (c : ClientState) (calls : List Call)
    → frames_lent c calls ≡ lent_by_events c.state (events_of_calls c calls)
lent-calls c [] = refl
lent-calls c (call ∷ calls) =
    let rest : List Frame = frames_lent (after_call c call) calls in
    frame-more (lent_by_call c call) [] (frames_lent (after_call c call) calls)
    ∙ (ap (λ fs. fs ++ frames_lent (after_call c call) calls) (call-lent c call)
    ∙ (ap (λ fs. lent_by_events c.state (events_of_call c call) ++ fs)
    (lent-calls (after_call c call) calls
    ∙ ap (λ s. lent_by_events s (events_of_calls (after_call c call) calls)) (call-state c call))
    ∙ sym (lent-append c.state (events_of_call c call) (events_of_calls (after_call c call) calls))))

pub heard_event-calls : (c : ClientState) (calls : List Call)
    → heard_events_of_calls c calls ≡ heard_events_of_events c.state (events_of_calls c calls)
heard_event-calls c [] = refl
heard_event-calls c (call ∷ calls) =
    heard_event-more (heard_events_of_call c call) [] (heard_events_of_calls (after_call c call) calls)
    ∙ (ap (λ fs. fs ++ heard_events_of_calls (after_call c call) calls) (call-heard_event c call)
    ∙ (ap (λ fs. heard_events_of_events c.state (events_of_call c call) ++ fs)
    (heard_event-calls (after_call c call) calls
    ∙ ap (λ s. heard_events_of_events s (events_of_calls (after_call c call) calls)) (call-state c call))
    ∙ sym (heard_event-append c.state (events_of_call c call) (events_of_calls (after_call c call) calls))))

pub each-call : (c : ClientState) (call : Call)
    → ((after_call c call).state ≡ after_events c.state (events_of_call c call))
    × (frame_before (lent_by_call c call) [] ≡ lent_by_events c.state (events_of_call c call))
    × (heard_events_before (heard_events_of_call c call) [] ≡ heard_events_of_events c.state (events_of_call c call))
each-call c call = (call-state c call, call-lent c call, call-heard_event c call)

-- What holds after each turn of a state holds after a piece.
pub by-turns : (P : State → HeardEvent → Type 0) (c : ClientState) (piece : List ℕ) → P c.state Nothing
    → ((f : Frame) → P (hears c.state f).state (hears c.state f).heard_event)
    → ((fault : ClientFault) → P (faulted c.state fault).state Nothing)
    → P (fed c piece).client.state (fed c piece).heard_event
by-turns P c piece same framed failed = go c.state.fault
  where
    parse_frame : (x : Parsed) → P (hears_parsed c.state x).state (hears_parsed c.state x).heard_event
    parse_frame Incomplete = same
    parse_frame (WholeFrame f) = framed f
    parse_frame (TooLongHeader h) = failed faults.TooLong

    go : (o : Option ClientFault) → P (fed_unless c piece o).client.state (fed_unless c piece o).heard_event
    go None = parse_frame (parsed (held_and_taken c.held piece))
    go (Some fault) = same

-- Contexts count.
frames-turn : {s : State} {o : Option (List ℕ)} {t : TurnResult} → IsTurn s o t → t.state.frames ≡ s.frames
frames-turn Ignores = refl
frames-turn (Fails fault) = refl
frames-turn (Answers w registration connection_state heard_event is to) = refl
frames-turn (Receives item) = refl

pub frames-piece : (c : ClientState) (piece : List ℕ) → (fed c piece).client.state.frames ≡ c.state.frames
frames-piece c piece =
    by-turns (λ s heard_event. s.frames ≡ c.state.frames) c piece refl (λ f. frames-turn (is-turn c.state f)) (λ fault. refl)

context-none : (what : Option Awaited) (later : List (List ℕ)) → context_before what None later ≡ later
context-none None later = refl
context-none (Some w) later = refl

contexts-action : (n : ℕ) (later : List (List ℕ)) (s t : State) (what : Option Awaited) (lent : Option Frame)
    → IsAction s what lent t → s.frames ≡ n % 2 ^ 64
    → ((m : ℕ) → t.frames ≡ m % 2 ^ 64 → CountFrom (m + 1) later)
    → CountFrom (n + 1) (context_before what lent later)
contexts-action n later s t what lent Stays is rest =
    subst (CountFrom (n + 1)) (sym (context-none what later)) (rest n is)
contexts-action n later s t what lent (Asks w f connection_state e free numbered) is rest =
    let next : next_number s ≡ (n + 1) % 2 ^ 64 = ap (λ k. (k + 1) % 2 ^ 64) is ∙ omega arith in
    subst (λ o. CountFrom (n + 1) (context_before o (Some f) later)) (sym e)
    (numbered ∙ ap (le 8) next, rest (n + 1) next)
contexts-action n later s t what lent (Sends f registration connection_state originator e) is rest =
    subst (λ o. CountFrom (n + 1) (context_before o lent later)) (sym e) (rest n is)

count-from : (calls : List Call) (c : ClientState) (n : ℕ) → c.state.frames ≡ n % 2 ^ 64
    → CountFrom (n + 1) (contexts_lent c calls)
count-from [] c n is = tt
count-from (Act a ∷ calls) c n is =
    contexts-action n (contexts_lent (after_call c (Act a)) calls) c.state (after_action c.state a) (awaited_by a)
    (frame_lent c.state a) (is-action c.state a) is (count-from calls (after_call c (Act a)))
count-from (Feed piece ∷ calls) c n is =
    count-from calls (after_call c (Feed piece)) n (frames-piece c piece ∙ is)

pub contexts-count : (wants : Wants) (calls : List Call) → CountFrom 1 (contexts_lent (new_client wants) calls)
contexts-count wants calls = count-from calls (new_client wants) 0 refl

-- Each reply is heard once.
abbrev Once : Option Awaiting → List Seen → Type 0
Once None seen = AnsweredOnce seen
Once (Some w) seen = AnsweredOnce (Asked w.awaited ∷ seen)

asked-none : (what : Option Awaited) (later : List Seen) → asked_before what None later ≡ later
asked-none None later = refl
asked-none (Some w) later = refl

seen-action : (s t : State) (what : Option Awaited) (lent : Option Frame) (later : List Seen) → IsAction s what lent t
    → Once t.awaiting later → Once s.awaiting (asked_before what lent later)
seen-action s t what lent later Stays once = subst (Once s.awaiting) (sym (asked-none what later)) once
seen-action s t what lent later (Asks w f connection_state e free numbered) once =
    subst (λ o. Once o (asked_before what (Some f) later)) (sym free)
    (subst (λ o. AnsweredOnce (asked_before o (Some f) later)) (sym e) once)
seen-action s t what lent later (Sends f registration connection_state originator e) once =
    subst (λ o. Once s.awaiting (asked_before o lent later)) (sym e) once

answer-seen : (what : Awaited) (heard_event : HeardEvent) (later : List Seen) → IsReplyTo what heard_event → AnsweredOnce later
    → AnsweredOnce (Asked what ∷ answered_before heard_event later)
answer-seen awaited.Session Registered later to once = (tt, once)
answer-seen awaited.Session Nothing later to once = absurd to
answer-seen awaited.Session Opened later to once = absurd to
answer-seen awaited.Session (Replied bytes) later to once = absurd to
answer-seen awaited.Session (Accepted bytes) later to once = absurd to
answer-seen awaited.Session (Refused status extended) later to once = absurd to
answer-seen awaited.Session Closed later to once = absurd to
answer-seen awaited.Connection Opened later to once = (tt, once)
answer-seen awaited.Connection (Refused status extended) later to once = (tt, once)
answer-seen awaited.Connection Nothing later to once = absurd to
answer-seen awaited.Connection Registered later to once = absurd to
answer-seen awaited.Connection (Replied bytes) later to once = absurd to
answer-seen awaited.Connection (Accepted bytes) later to once = absurd to
answer-seen awaited.Connection Closed later to once = absurd to
answer-seen (awaited.Reply service) (Replied bytes) later to once = (to, once)
answer-seen (awaited.Reply service) Nothing later to once = absurd to
answer-seen (awaited.Reply service) Registered later to once = absurd to
answer-seen (awaited.Reply service) Opened later to once = absurd to
answer-seen (awaited.Reply service) (Accepted bytes) later to once = absurd to
answer-seen (awaited.Reply service) (Refused status extended) later to once = absurd to
answer-seen (awaited.Reply service) Closed later to once = absurd to
answer-seen (awaited.Routed service) (Replied bytes) later to once = (to, once)
answer-seen (awaited.Routed service) (Refused status extended) later to once = (tt, once)
answer-seen (awaited.Routed service) Nothing later to once = absurd to
answer-seen (awaited.Routed service) Registered later to once = absurd to
answer-seen (awaited.Routed service) Opened later to once = absurd to
answer-seen (awaited.Routed service) (Accepted bytes) later to once = absurd to
answer-seen (awaited.Routed service) Closed later to once = absurd to
answer-seen awaited.End Closed later to once = (tt, once)
answer-seen awaited.End (Refused status extended) later to once = (tt, once)
answer-seen awaited.End Nothing later to once = absurd to
answer-seen awaited.End Registered later to once = absurd to
answer-seen awaited.End Opened later to once = absurd to
answer-seen awaited.End (Replied bytes) later to once = absurd to
answer-seen awaited.End (Accepted bytes) later to once = absurd to

accepted-seen : (o : Option (List ℕ)) (later : List Seen) → answered_before (accepted o) later ≡ later
accepted-seen None later = refl
accepted-seen (Some bytes) later = refl

seen-turn : {s : State} {o : Option (List ℕ)} {t : TurnResult} → IsTurn s o t → (later : List Seen)
    → Once t.state.awaiting later
    → Once s.awaiting (answered_before t.heard_event later)
seen-turn Ignores later once = once
seen-turn (Fails fault) later once = once
seen-turn (Answers w registration connection_state heard_event is to) later once =
    subst (λ o. Once o (answered_before heard_event later)) (sym is) (answer-seen w.awaited heard_event later to once)
seen-turn {s} (Receives item) later once =
    subst (Once s.awaiting) (sym (accepted-seen (accepted_reply s.originator item) later)) once

once-from : (calls : List Call) (c : ClientState) → Once c.state.awaiting (seen_of_calls c calls)
once-from [] c = go c.state.awaiting
  where
    go : (o : Option Awaiting) → Once o []
    go None = tt
    go (Some w) = tt
once-from (Act a ∷ calls) c =
    seen-action c.state (after_action c.state a) (awaited_by a) (frame_lent c.state a)
    (seen_of_calls (after_call c (Act a)) calls) (is-action c.state a) (once-from calls (after_call c (Act a)))
once-from (Feed piece ∷ calls) c =
    by-turns (λ s heard_event. (later : List Seen) → Once s.awaiting later
    → Once c.state.awaiting (answered_before heard_event later)) c piece
    (λ later once. once) (λ f. seen-turn (is-turn c.state f)) (λ fault later once. once)
    (seen_of_calls (after_call c (Feed piece)) calls) (once-from calls (after_call c (Feed piece)))

pub heard-once : (wants : Wants) (calls : List Call) → AnsweredOnce (seen_of_calls (new_client wants) calls)
heard-once wants calls = once-from calls (new_client wants)
