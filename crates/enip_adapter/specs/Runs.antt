-- Lists of calls of the adapter.
use Rattle.std.specs.Prelude.{ℕ, ◌+◌, max, ◌≡◌, ◌≢◌, ◌≤◌, ◌==◌, List, [], ◌∷◌, ◌++◌, map, filter, take, drop}
use Rattle.std.specs.Prelude.{length, nat_lt, if◌then◌else◌, Bool, true, false, not, ◌||◌, ⊤, Option}
use Rattle.std.specs.List.{concat, flat_map, list_all, list_any, AllByRecursion}
use Rattle.cip_bytes.specs.Numbers.{AreBytes}
use Rattle.cip_manager.specs.declared.connection.Connection.{Connection}
use Rattle.cip_manager.specs.Connection.{is_open_at}
use Rattle.cip_ledger.specs.Device.{Device}
use Rattle.enip_wire.specs.Frames.{Frame}
use Rattle.enip_adapter.specs.declared.adapter.Limits.{Limits}
use Rattle.enip_adapter.specs.declared.adapter.Shares.{Shares}
use Rattle.enip_adapter.specs.declared.peer.Rights.{Rights}
use Rattle.enip_adapter.specs.declared.peer.Session.{Session}
use Rattle.enip_adapter.specs.declared.shared.Listen.{Listen}
use Rattle.enip_adapter.specs.Adapter.{shared_adapter}
use Rattle.enip_adapter.specs.Calls.{AdapterState, Call, Meaning, call_meaning, after_call, call_answer}
use Rattle.enip_adapter.specs.Calls.Call.{Begins_peer, Feeds, Ends_peer, Ticks, Writes}
use Rattle.enip_adapter.specs.Turn.{State, Event, Output, Answer, turn, answers}
use Rattle.enip_adapter.specs.Turn.Event.{Begin, End, At, Framed, Long, Written}
use Rattle.enip_adapter.specs.Turn.Output.{NoReply, Sends, Begins, Refuses}

-- The adapter after calls, one after the other.
abbrev pub after_calls : AdapterState → List Call → AdapterState
after_calls a [] = a
after_calls a (call ∷ calls) = after_calls (after_call a call) calls

-- The meaning of each call.
abbrev pub meanings : AdapterState → List Call → List Meaning
meanings a [] = []
meanings a (call ∷ calls) = call_meaning a call ∷ meanings (after_call a call) calls

-- The answer of each call.
abbrev pub call_answers : AdapterState → List Call → List Answer
call_answers a [] = []
call_answers a (call ∷ calls) = call_answer a call ∷ call_answers (after_call a call) calls

-- All events that calls amount to, in order.
abbrev pub events_of_calls : AdapterState → List Call → List Event
events_of_calls a calls = flat_map (λ m. m.events) (meanings a calls)

-- For each call, the answers to its own events.
abbrev pub answers_by_call : AdapterState → List Call → List (List Answer)
answers_by_call a [] = []
answers_by_call a (call ∷ calls) =
    answers a.state (call_meaning a call).events ∷ answers_by_call (after_call a call) calls

-- An output before others. No reply is left out.
abbrev pub outputs_before : Output → List Output → List Output
outputs_before (NoReply why) more = more
outputs_before (Sends bytes) more = Sends bytes ∷ more
outputs_before (Begins handle) more = Begins handle ∷ more
outputs_before (Refuses full) more = Refuses full ∷ more

-- The outputs in answers.
abbrev pub outputs_in : List Answer → List Output
outputs_in [] = []
outputs_in (answer ∷ answers) = outputs_before answer.output (outputs_in answers)

-- The call is for another peer than this one, or for none.
abbrev pub IsForOther : ℕ → Call → Type 0
IsForOther peer (Begins_peer rights group) = ⊤
IsForOther peer (Feeds now other piece) = other ≢ peer
IsForOther peer (Ends_peer other) = other ≢ peer
IsForOther peer (Ticks now) = ⊤
IsForOther peer (Writes write) = ⊤

-- The current times at the feeds and ticks of calls. Each is the greatest time so far.
abbrev pub moments_of_calls : ℕ → List Call → List ℕ
moments_of_calls moment [] = []
moments_of_calls moment (Begins_peer rights group ∷ calls) = moments_of_calls moment calls
moments_of_calls moment (Feeds now peer piece ∷ calls) = max moment now ∷ moments_of_calls (max moment now) calls
moments_of_calls moment (Ends_peer peer ∷ calls) = moments_of_calls moment calls
moments_of_calls moment (Ticks now ∷ calls) = max moment now ∷ moments_of_calls (max moment now) calls
moments_of_calls moment (Writes write ∷ calls) = moments_of_calls moment calls

-- The deadline of the connection is after each of these times.
abbrev pub is_open_at_all : List ℕ → Connection → Bool
is_open_at_all moments connection = list_all (λ moment. is_open_at moment connection) moments

-- The handle that an answer assigns, if any, before others.
abbrev pub handle_before : Output → List ℕ → List ℕ
handle_before (NoReply why) more = more
handle_before (Sends bytes) more = more
handle_before (Begins handle) more = handle ∷ more
handle_before (Refuses full) more = more

-- The handles that answers assign.
abbrev pub handles_in : List Answer → List ℕ
handles_in [] = []
handles_in (answer ∷ answers) = handle_before answer.output (handles_in answers)

-- Each number is greater than those before it, and the first is n or more.
abbrev pub RisesFrom : ℕ → List ℕ → Type 0
RisesFrom n [] = ⊤
RisesFrom n (m ∷ ms) = (n ≤ m) × RisesFrom (m + 1) ms

-- No connection had this one's O->T ID before.
abbrev pub is_new : List Connection → Connection → Bool
is_new before connection = not (list_any (λ old. old.o_to_t_id == connection.o_to_t_id) before)

-- The connections that are new.
abbrev pub new_connections : List Connection → List Connection → List Connection
new_connections before connections = filter (is_new before) connections

-- The O->T IDs that events assign: after each event, those of the new connections.
abbrev pub ids_of_events : State → List Event → List ℕ
ids_of_events s [] = []
ids_of_events s (e ∷ es) =
    map (λ connection. connection.o_to_t_id)
    (new_connections s.shared.manager.connections (turn s e).state.shared.manager.connections)
    ++ ids_of_events (turn s e).state es

-- The bytes that a call takes of a peer's stream.
abbrev pub taken_by_call : ℕ → AdapterState → Call → List ℕ
taken_by_call peer a (Begins_peer rights group) = []
taken_by_call peer a (Feeds now other piece) =
    if other == peer then take (call_meaning a (Feeds now other piece)).taken piece else []
taken_by_call peer a (Ends_peer other) = []
taken_by_call peer a (Ticks now) = []
taken_by_call peer a (Writes write) = []

-- The bytes that calls take of it, joined.
abbrev pub taken_by_calls : ℕ → AdapterState → List Call → List ℕ
taken_by_calls peer a [] = []
taken_by_calls peer a (call ∷ calls) = taken_by_call peer a call ++ taken_by_calls peer (after_call a call) calls

-- The whole frames of a peer among events.
abbrev pub frames_of_peer : ℕ → List Event → List Frame
frames_of_peer peer [] = []
frames_of_peer peer (Begin rights group ∷ events) = frames_of_peer peer events
frames_of_peer peer (End other ∷ events) = frames_of_peer peer events
frames_of_peer peer (At now ∷ events) = frames_of_peer peer events
frames_of_peer peer (Framed other f ∷ events) =
    if other == peer then f ∷ frames_of_peer peer events else frames_of_peer peer events
frames_of_peer peer (Long other header ∷ events) = frames_of_peer peer events
frames_of_peer peer (Written write ∷ events) = frames_of_peer peer events

-- A piece consists of bytes, and the call does not end this peer.
abbrev pub GoesOn : ℕ → Call → Type 0
GoesOn peer (Begins_peer rights group) = ⊤
GoesOn peer (Feeds now other piece) = AreBytes piece
GoesOn peer (Ends_peer other) = other ≢ peer
GoesOn peer (Ticks now) = ⊤
GoesOn peer (Writes write) = ⊤

-- The pieces of one peer's stream are fed at one time, each until all of it is taken. Once the peer is closed, the rest
-- is dropped. The indices are the answers and the last adapter.
pub data FeedsPieces (now peer : ℕ) : AdapterState → List (List ℕ) → List Answer → AdapterState → Type 0 where
  Ended : {a : AdapterState} → FeedsPieces now peer a [] [] a
  Taken : {a last : AdapterState} {pieces : List (List ℕ)} {answers : List Answer}
      → FeedsPieces now peer a pieces answers last → FeedsPieces now peer a ([] ∷ pieces) answers last
  Continued : {a last : AdapterState} {b : ℕ} {bs : List ℕ} {pieces : List (List ℕ)} {answers : List Answer}
      → (call_answer a (Feeds now peer (b ∷ bs))).close ≡ false
      → FeedsPieces now peer (after_call a (Feeds now peer (b ∷ bs)))
      (drop (call_meaning a (Feeds now peer (b ∷ bs))).taken (b ∷ bs) ∷ pieces) answers last
      → FeedsPieces now peer a ((b ∷ bs) ∷ pieces) (call_answer a (Feeds now peer (b ∷ bs)) ∷ answers) last
  Closed : {a : AdapterState} {b : ℕ} {bs : List ℕ} {pieces : List (List ℕ)}
      → (call_answer a (Feeds now peer (b ∷ bs))).close ≡ true
      → FeedsPieces now peer a ((b ∷ bs) ∷ pieces) (call_answer a (Feeds now peer (b ∷ bs)) ∷ [])
      (after_call a (Feeds now peer (b ∷ bs)))

-- Bytes of a peer's stream that arrive at a time.
pub record TimedPiece : Type 0 where
  pub now : ℕ
  pub bytes : List ℕ

-- The bytes of timed pieces, joined.
abbrev pub joined : List TimedPiece → List ℕ
joined pieces = concat (map (λ piece. piece.bytes) pieces)

-- A feed with this meaning completes a frame, or a header whose length is over the limit, or drops its piece.
abbrev pub is_completing : Meaning → Bool
is_completing m = nat_lt 1 (length m.events) || m.dropped

-- The current time at a feed, if the feed completes something.
abbrev pub completion_moments : AdapterState → ℕ → ℕ → List ℕ → List ℕ
completion_moments a now peer piece =
    if is_completing (call_meaning a (Feeds now peer piece)) then max a.state.shared.moment now ∷ [] else []

-- The pieces of one peer's stream are fed, each at its own time, until all of it is taken. Once the peer is closed, the
-- rest is dropped. The indices are the current times at the feeds that complete something, the answers, and the last
-- adapter.
pub data FeedsTimedPieces (peer : ℕ) :
    AdapterState → List TimedPiece → List ℕ → List Answer → AdapterState → Type 0 where
  Ended : {a : AdapterState} → FeedsTimedPieces peer a [] [] [] a
  Taken : {a last : AdapterState} {now : ℕ} {pieces : List TimedPiece} {moments : List ℕ} {answers : List Answer}
      → FeedsTimedPieces peer a pieces moments answers last
      → FeedsTimedPieces peer a (record { now = now; bytes = [] } ∷ pieces) moments answers last
  Continued : {a last : AdapterState} {now b : ℕ} {bs : List ℕ} {pieces : List TimedPiece} {moments : List ℕ}
      {answers : List Answer}
      → (call_answer a (Feeds now peer (b ∷ bs))).close ≡ false
      → FeedsTimedPieces peer (after_call a (Feeds now peer (b ∷ bs)))
      (record { now = now; bytes = drop (call_meaning a (Feeds now peer (b ∷ bs))).taken (b ∷ bs) } ∷ pieces)
      moments answers last
      → FeedsTimedPieces peer a (record { now = now; bytes = b ∷ bs } ∷ pieces)
      (completion_moments a now peer (b ∷ bs) ++ moments)
      (call_answer a (Feeds now peer (b ∷ bs)) ∷ answers) last
  Closed : {a : AdapterState} {now b : ℕ} {bs : List ℕ} {pieces : List TimedPiece}
      → (call_answer a (Feeds now peer (b ∷ bs))).close ≡ true
      → FeedsTimedPieces peer a (record { now = now; bytes = b ∷ bs } ∷ pieces)
      (max a.state.shared.moment now ∷ []) (call_answer a (Feeds now peer (b ∷ bs)) ∷ [])
      (after_call a (Feeds now peer (b ∷ bs)))

-- Nothing is output.
abbrev pub is_no_reply : Output → Bool
is_no_reply (NoReply why) = true
is_no_reply (Sends bytes) = false
is_no_reply (Begins handle) = false
is_no_reply (Refuses full) = false

-- The answers that have an output, or close.
abbrev pub visible_answers : List Answer → List Answer
visible_answers answers = filter (λ answer. not (is_no_reply answer.output) || answer.close) answers

-- A run of a peer: earlier calls lead from a new adapter to one at which the peer begins, and then come calls that do
-- not end it.
pub record Run (peer : ℕ) : Type 0 where
  pub device : Device
  pub listen : Listen
  pub limits : Limits
  pub shares : Shares
  pub earlier : List Call
  pub rights : Rights
  pub group : Option ℕ
  pub calls : List Call
  pub begins : (call_answer (after_calls (shared_adapter device listen limits shares) earlier)
      (Begins_peer rights group)).output ≡ Begins peer
  pub goes_on : AllByRecursion (GoesOn peer) calls

-- The adapter when the peer begins, and after the run.
abbrev pub at_beginning : (peer : ℕ) → Run peer → AdapterState
at_beginning peer run =
    after_call (after_calls (shared_adapter run.device run.listen run.limits run.shares) run.earlier)
    (Begins_peer run.rights run.group)

abbrev pub at_end : (peer : ℕ) → Run peer → AdapterState
at_end peer run = after_calls (at_beginning peer run) run.calls

-- The bytes taken of the peer's stream in a run, and the frames that are served to it.
abbrev pub taken_in : (peer : ℕ) → Run peer → List ℕ
taken_in peer run = taken_by_calls peer (at_beginning peer run) run.calls

abbrev pub frames_in : (peer : ℕ) → Run peer → List Frame
frames_in peer run = frames_of_peer peer (events_of_calls (at_beginning peer run) run.calls)

-- What a peer has become: whether it has registered, and whether it is closed.
abbrev pub progress_of : Session → Bool × Bool
progress_of session = (session.registered, session.closed)
