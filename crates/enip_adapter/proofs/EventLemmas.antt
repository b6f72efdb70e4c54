-- Each call is the turns of its events.
use Rattle.std.proofs.Common.{◌≡◌, ℕ, List, [], ◌∷◌, ◌++◌, Bool, true, false, cond, ◌||◌, Option, Some, None, refl}
use Rattle.std.proofs.Common.{sym, ap, ◌∙◌}
use Rattle.std.specs.List.{flat_map, list_any}
use Rattle.enip_wire.specs.Stream.{Parsed}
use Rattle.enip_wire.specs.Stream.Parsed.{Incomplete, WholeFrame, TooLongHeader}
use Rattle.enip_adapter.specs.declared.peer.Session.{Session}
use Rattle.enip_adapter.specs.Turn.{State, Event, Output, Answer, turn, answers, after, session_of}
use Rattle.enip_adapter.specs.Turn.Output.{NoReply, Sends, Begins, Refuses}
use Rattle.enip_adapter.specs.Calls.{AdapterState, Held, Call, Meaning, call_meaning, after_call, call_answer}
use Rattle.enip_adapter.specs.Calls.{answer_of, at_a_moment, piece_to, piece_meaning, dropped_piece, bytes_held}
use Rattle.enip_adapter.specs.Calls.{events_of_parsed}
use Rattle.enip_adapter.specs.Calls.Call.{Begins_peer, Feeds, Ends_peer, Ticks, Writes}
use Rattle.enip_adapter.specs.Runs.{after_calls, call_answers, events_of_calls, answers_by_call, outputs_before, outputs_in}

-- The answers and the state of events, in two parts.
answers-append : (s : State) (es fs : List Event) → answers s (es ++ fs) ≡ answers s es ++ answers (after s es) fs
answers-append s [] fs = refl
answers-append s (e ∷ es) fs = ap (λ r. (turn s e).answer ∷ r) (answers-append (turn s e).state es fs)

after-append : (s : State) (es fs : List Event) → after s (es ++ fs) ≡ after (after s es) fs
after-append s [] fs = refl
after-append s (e ∷ es) fs = after-append (turn s e).state es fs

pub state-events : (a : AdapterState) (calls : List Call) → (after_calls a calls).state
    ≡ after a.state (events_of_calls a calls)
state-events a [] = refl
state-events a (c ∷ cs) =
    state-events (after_call a c) cs
    ∙ sym (after-append a.state (call_meaning a c).events (events_of_calls (after_call a c) cs))

pub answers-events : (a : AdapterState) (calls : List Call)
    → answers a.state (events_of_calls a calls) ≡ flat_map (λ own. own) (answers_by_call a calls)
answers-events a [] = refl
answers-events a (c ∷ cs) =
    answers-append a.state (call_meaning a c).events (events_of_calls (after_call a c) cs)
    ∙ ap (λ r. answers a.state (call_meaning a c).events ++ r) (answers-events (after_call a c) cs)

-- A property of all calls whose meaning has these forms is one of every call.
pub of_piece : (P : Meaning → Type 0) (now peer : ℕ) (piece : List ℕ) (held : List Held) (o : Option Session)
    → P (at_a_moment now (dropped_piece held))
    → ((x : Parsed) (n : ℕ) (left : List Held)
    → P (at_a_moment now (record { events = events_of_parsed peer x; taken = n; held = left; dropped = false })))
    → P (at_a_moment now (piece_to held peer piece o))
of_piece P now peer piece held None drops feeds = drops
of_piece P now peer piece held (Some session) drops feeds = go session.closed
  where
    go : (b : Bool) → P (at_a_moment now
        (cond b (dropped_piece held) (piece_meaning held peer (bytes_held held peer) piece)))
    go true = drops
    go false = feeds _ _ _

-- The outputs of a call are those of its events, and it closes if one of them does or its piece is dropped.
record IsTold (s : State) (m : Meaning) : Type 0 where
  output : outputs_in (answer_of s m ∷ []) ≡ outputs_in (answers s m.events)
  close : (answer_of s m).close ≡ (m.dropped || list_any (λ x. x.close) (answers s m.events))

last-or : (b : Bool) → b ≡ (b || false)
last-or true = refl
last-or false = refl

told-parsed_frame : (s : State) (now peer : ℕ) (x : Parsed) (n : ℕ) (left : List Held)
    → IsTold s (at_a_moment now (record { events = events_of_parsed peer x; taken = n; held = left; dropped = false }))
told-parsed_frame s now peer Incomplete n left = record { output = refl; close = refl }
told-parsed_frame s now peer (WholeFrame f) n left = record { output = refl; close = last-or _ }
told-parsed_frame s now peer (TooLongHeader h) n left = record { output = refl; close = last-or _ }

told-call : (a : AdapterState) (c : Call) → IsTold a.state (call_meaning a c)
told-call a (Begins_peer rights group) = record { output = refl; close = last-or _ }
told-call a (Feeds now peer piece) =
    of_piece (IsTold a.state) now peer piece a.held (session_of a.state peer) (record { output = refl; close = refl })
    (told-parsed_frame a.state now peer)
told-call a (Ends_peer peer) = record { output = refl; close = refl }
told-call a (Ticks now) = record { output = refl; close = refl }
told-call a (Writes write) = record { output = refl; close = refl }

pub close-call : (a : AdapterState) (c : Call)
    → (call_answer a c).close
    ≡ ((call_meaning a c).dropped || list_any (λ x. x.close) (answers a.state (call_meaning a c).events))
close-call a c = (told-call a c).close

before-append : (output : Output) (xs ys : List Output) → outputs_before output (xs ++ ys) ≡ outputs_before output xs ++ ys
before-append (NoReply why) xs ys = refl
before-append (Sends bytes) xs ys = refl
before-append (Begins handle) xs ys = refl
before-append (Refuses full) xs ys = refl

spoken-append : (xs ys : List Answer) → outputs_in (xs ++ ys) ≡ outputs_in xs ++ outputs_in ys
spoken-append [] ys = refl
spoken-append (x ∷ xs) ys = ap (outputs_before x.output) (spoken-append xs ys)
    ∙ before-append x.output (outputs_in xs) (outputs_in ys)

pub output-events : (a : AdapterState) (calls : List Call)
    → outputs_in (call_answers a calls) ≡ outputs_in (answers a.state (events_of_calls a calls))
output-events a [] = refl
output-events a (c ∷ cs) =
    spoken-append (call_answer a c ∷ []) (call_answers (after_call a c) cs)
    ∙ ap (λ r. r ++ outputs_in (call_answers (after_call a c) cs)) (told-call a c).output
    ∙ ap (λ r. outputs_in (answers a.state (call_meaning a c).events) ++ r) (output-events (after_call a c) cs)
    ∙ sym (spoken-append (answers a.state (call_meaning a c).events)
    (answers (after_call a c).state (events_of_calls (after_call a c) cs)))
    ∙ ap outputs_in (sym (answers-append a.state (call_meaning a c).events (events_of_calls (after_call a c) cs)))
