-- A session for several requests: what each of its turns sends, hears and keeps.
use Rattle.std.specs.Prelude.{ℕ, ◌-◌, ◌+◌, ◌^◌, ◌≡◌, ◌⊎◌, ◌<◌, nat_lt, if◌then◌else◌, Bool, true, false, List, [], ◌∷◌}
use Rattle.std.specs.Prelude.{◌++◌, length, take, Option, Some, None, Result, Ok, Err}
use Rattle.std.specs.List.{list_any}
use Rattle.std.specs.Io.KnownBytes.{Appends, Consumes, IsAtEnd}
use Rattle.enip_wire.specs.Frames.{Frame, frame}
use Rattle.enip_client.specs.Asking.{LONGEST_REPLY, lends_call, requests_over}
use Rattle.enip_client.specs.Calls.{Lent, lending, registers, opens_over, closes_over, unregisters, resends}
use Rattle.enip_client.specs.Client.{ClientState, fed, new_client, with_state}
use Rattle.enip_client.specs.Hears.{HeardEvent}
use Rattle.enip_client.specs.Hears.HeardEvent.{Registered, Opened, Replied, Accepted, Refused, Closed}
use Rattle.enip_client.specs.declared.fault.AskFault.{AskFault}
use Rattle.enip_client.specs.declared.fault.AskFault.TheVariants as ask
use Rattle.enip_client.specs.declared.fault.ClientFault.{ClientFault}
use Rattle.enip_client.specs.declared.fault.ClientFault.TheVariants as client
use Rattle.enip_client.specs.declared.state.State.{State}
use Rattle.enip_client.specs.declared.wants.Wants.{Wants}
use Rattle.enip_commands.specs.Failures.{stop_of}
use Rattle.enip_commands.specs.declared.request_failure.RequestFailure.{RequestFailure}
use Rattle.enip_commands.specs.declared.request_failure.RequestFailure.TheVariants.{Session, Program}
use Rattle.enip_faults.specs.declared.fault.ProgramFault.TheVariants.{Memory}
use Rattle.enip_commands.specs.declared.session.DeviceSession.{DeviceSession}
use Rattle.enip_commands.specs.declared.turns.Turn.{Turn}
use Rattle.enip_commands.specs.declared.turns.Turn.TheVariants as turns

-- The client, the reader (the bytes that are left, how many reads it made and how many of them failed), the writer (the
-- bytes that it has and how many writes failed), and the reply that is kept.
pub record SessionEnds : Type 0 where
  pub client : ClientState
  pub left : Option (List ℕ)
  pub reads : ℕ
  pub read_failures : ℕ
  pub written : Option (List ℕ)
  pub write_failures : ℕ
  pub reply : List ℕ

abbrev pub session_ends : ClientState → Option (List ℕ) → ℕ → ℕ → Option (List ℕ) → ℕ → List ℕ → SessionEnds
session_ends client left reads read_failures written write_failures reply = record {
  client = client;
  left = left;
  reads = reads;
  read_failures = read_failures;
  written = written;
  write_failures = write_failures;
  reply = reply;
}

-- ---- what is heard

-- What the awaited answer is heard as.
abbrev pub is_answer : Turn → HeardEvent → Bool
is_answer turns.Register Registered = true
is_answer turns.Open Opened = true
is_answer turns.Request (Replied bytes) = true
is_answer turns.Request (Accepted bytes) = true
is_answer turns.Close Closed = true
is_answer turn event = false

-- A reply is longer than is kept.
abbrev pub fault_of_length : List ℕ → Option ClientFault
fault_of_length bytes = if nat_lt LONGEST_REPLY (length bytes) then Some client.Malformed else None

-- What ends a turn with a fault, although the client has none: a refused open or close, a request that a router refused,
-- and a reply that is too long.
abbrev pub fault_heard : Turn → HeardEvent → Option ClientFault
fault_heard turns.Open (Refused status extended) = Some (client.Refused status extended)
fault_heard turns.Close (Refused status extended) = Some (client.Refused status extended)
fault_heard turns.Request (Refused status extended) = Some (client.Refused status extended)
fault_heard turns.Request (Replied bytes) = fault_of_length bytes
fault_heard turns.Request (Accepted bytes) = fault_of_length bytes
fault_heard turn event = None

-- The reply that is kept after an event.
abbrev pub kept_after : Turn → List ℕ → HeardEvent → List ℕ
kept_after turns.Request old (Replied bytes) = bytes
kept_after turns.Request old (Accepted bytes) = bytes
kept_after turn old event = old

-- The same after several events: the last reply among them, or the old one if there is none.
abbrev pub last_kept : Turn → List ℕ → List HeardEvent → List ℕ
last_kept turn old [] = old
last_kept turn old (event ∷ events) = last_kept turn (kept_after turn old event) events

-- A client took these bytes, piece by piece, and heard these events, one for each time that it was fed.
pub data Hearing (c : ClientState) : List ℕ → List HeardEvent → ClientState → Type 0 where
  Start : Hearing c [] [] c
  More : (bytes : List ℕ) (events : List HeardEvent) (mid : ClientState) (piece : List ℕ) → Hearing c bytes events mid
      → Hearing c (bytes ++ take (fed mid piece).taken piece) (events ++ (fed mid piece).heard_event ∷ []) (fed mid piece).client

-- ---- a turn

-- The frame that a call lends was written, or a front of it if the writer failed, or nothing if the call was refused.
pub record IsWritten (lent : Lent) (old new : SessionEnds) (bytes : List ℕ) : Type 0 where
  pub written : Appends old.written new.written bytes
  pub client : new.client ≡ with_state old.client lent.state
  pub left : new.left ≡ old.left
  pub reads : new.reads ≡ old.reads
  pub read_failures : new.read_failures ≡ old.read_failures
  pub reply : new.reply ≡ old.reply

-- The writer failed, or can't count another failure.
abbrev pub HasWriteFailed : SessionEnds → SessionEnds → Type 0
HasWriteFailed old new = (new.write_failures ≡ old.write_failures + 1) ⊎ (old.write_failures ≡ 2 ^ 64 - 1)

abbrev pub IsSent : Result Lent AskFault → SessionEnds → SessionEnds → Result (Unit {0}) AskFault → Type 0
IsSent (Err why) old new result = (result ≡ Err why) × (new ≡ old)
IsSent (Ok lent) old new (Ok done) =
    IsWritten lent old new (frame lent.frame) × (new.write_failures ≡ old.write_failures)
IsSent (Ok lent) old new (Err fault) =
    (fault ≡ ask.Write) × HasWriteFailed old new × ((front : ℕ) × IsWritten lent old new (take front (frame lent.frame)))

-- The answer was heard in the bytes that were read, all of which were fed. A reply is kept.
pub record IsAnswered (turn : Turn) (old new : SessionEnds) : Type 0 where
  pub bytes : List ℕ
  pub events : List HeardEvent
  pub consumed : Consumes old.left new.left bytes
  pub hearing : Hearing old.client bytes events new.client
  pub heard : list_any (is_answer turn) events ≡ true
  pub reply : new.reply ≡ last_kept turn old.reply events
  pub read_failures : new.read_failures ≡ old.read_failures
  pub written : new.written ≡ old.written
  pub write_failures : new.write_failures ≡ old.write_failures

-- The last event is heard as this fault.
pub record EndsWith (turn : Turn) (events : List HeardEvent) (fault : ClientFault) : Type 0 where
  pub before : List HeardEvent
  pub event : HeardEvent
  pub last : events ≡ before ++ event ∷ []
  pub is : fault_heard turn event ≡ Some fault

-- Why no answer was heard: the reader failed, its bytes ended, it can't count another call, or the client met a fault.
abbrev pub IsCause : Turn → SessionEnds → SessionEnds → List HeardEvent → AskFault → Type 0
IsCause turn old new events ask.Read = new.read_failures ≡ old.read_failures + 1
IsCause turn old new events ask.Ended = IsAtEnd new.left
IsCause turn old new events ask.Spent = (new.reads ≡ 2 ^ 64 - 1) ⊎ (new.read_failures ≡ 2 ^ 64 - 1)
IsCause turn old new events (ask.Client fault) =
    (new.client.state.fault ≡ Some fault) ⊎ EndsWith turn events fault
IsCause turn old new events other = ⊥

-- No answer was heard, for this cause. What was read last may have been fed in part.
pub record IsUnanswered (turn : Turn) (old new : SessionEnds) (fault : AskFault) : Type 0 where
  pub bytes : List ℕ
  pub rest : List ℕ
  pub events : List HeardEvent
  pub consumed : Consumes old.left new.left (bytes ++ rest)
  pub hearing : Hearing old.client bytes events new.client
  pub cause : IsCause turn old new events fault
  pub written : new.written ≡ old.written
  pub write_failures : new.write_failures ≡ old.write_failures

abbrev pub IsAwaited : Turn → SessionEnds → SessionEnds → Result (Unit {0}) AskFault → Type 0
IsAwaited turn old new (Ok done) = IsAnswered turn old new
IsAwaited turn old new (Err fault) = IsUnanswered turn old new fault

-- After a frame was sent its answer is awaited, otherwise nothing more is done.
abbrev pub IsAwaitedIf : Result (Unit {0}) AskFault → Turn → SessionEnds → SessionEnds → Result (Unit {0}) AskFault → Type 0
IsAwaitedIf (Err fault) turn mid new result = (result ≡ Err fault) × (new ≡ mid)
IsAwaitedIf (Ok done) turn mid new result = IsAwaited turn mid new result

-- A turn: a frame is sent, and its answer is heard.
pub record IsTurn (lent : Result Lent AskFault) (turn : Turn) (old new : SessionEnds) (result : Result (Unit {0}) AskFault)
    : Type 0 where
  pub sent : Result (Unit {0}) AskFault
  pub mid : SessionEnds
  pub sending : IsSent lent old mid sent
  pub awaiting : IsAwaitedIf sent turn mid new result

-- ---- the steps of a turn

-- What a writer has after it was given a frame.
abbrev pub IsWrittenBy : Option (List ℕ) → Option (List ℕ) → ℕ → ℕ → List ℕ → Result (Unit {0}) AskFault → Type 0
IsWrittenBy before after failures_before failures_after bytes (Ok done) =
    Appends before after bytes × (failures_after ≡ failures_before)
IsWrittenBy before after failures_before failures_after bytes (Err fault) =
    (fault ≡ ask.Write) × ((failures_after ≡ failures_before + 1) ⊎ (failures_before ≡ 2 ^ 64 - 1))
    × ((front : ℕ) × Appends before after (take front bytes))

-- What a read gave.
abbrev pub IsReadBy : Option (List ℕ) → Option (List ℕ) → ℕ → ℕ → ℕ → ℕ → List ℕ → Result ℕ AskFault → Type 0
IsReadBy before after reads_before reads_after failures_before failures_after into (Ok size) =
    Consumes before after (take size into) × (0 < size) × (reads_after ≡ reads_before + 1)
    × (reads_before < 2 ^ 64 - 1) × (failures_after ≡ failures_before)
IsReadBy before after reads_before reads_after failures_before failures_after into (Err ask.Ended) =
    Consumes before after [] × IsAtEnd after
IsReadBy before after reads_before reads_after failures_before failures_after into (Err ask.Read) =
    Consumes before after [] × (failures_after ≡ failures_before + 1)
IsReadBy before after reads_before reads_after failures_before failures_after into (Err ask.Spent) =
    Consumes before after [] × ((reads_after ≡ 2 ^ 64 - 1) ⊎ (failures_after ≡ 2 ^ 64 - 1))
IsReadBy before after reads_before reads_after failures_before failures_after into (Err other) = ⊥

-- What was heard in a piece, and the reply that is kept after it.
pub record HearsWhole (turn : Turn) (old new : ClientState) (before after bytes : List ℕ) (is_heard : Bool) : Type 0 where
  pub events : List HeardEvent
  pub hearing : Hearing old bytes events new
  pub heard : is_heard ≡ list_any (is_answer turn) events
  pub reply : after ≡ last_kept turn before events

-- A front of a piece was fed, up to a fault.
pub record HearsFront (turn : Turn) (old new : ClientState) (bytes : List ℕ) (fault : AskFault) : Type 0 where
  pub front : List ℕ
  pub rest : List ℕ
  pub events : List HeardEvent
  pub parts : bytes ≡ front ++ rest
  pub hearing : Hearing old front events new
  pub of_client : ClientFault
  pub is : fault ≡ ask.Client of_client
  pub cause : (new.state.fault ≡ Some of_client) ⊎ EndsWith turn events of_client

abbrev pub IsHeard : Turn → ClientState → ClientState → List ℕ → List ℕ → List ℕ → Result Bool AskFault → Type 0
IsHeard turn old new before after bytes (Ok is_heard) = HearsWhole turn old new before after bytes is_heard
IsHeard turn old new before after bytes (Err fault) = HearsFront turn old new bytes fault

abbrev pub IsFaultHeard : Turn → HeardEvent → AskFault → Type 0
IsFaultHeard turn event fault = (of_client : ClientFault) × (fault ≡ ask.Client of_client) × (fault_heard turn event ≡ Some of_client)

-- ---- a session

-- How a session that did not begin is reported: a status in the answer to RegisterSession is the device's refusal.
abbrev pub begin_failure : AskFault → RequestFailure
begin_failure (ask.Client (client.Status status)) = Session status
begin_failure fault = stop_of fault

abbrev pub reported : Result (Unit {0}) AskFault → Result (Unit {0}) RequestFailure
reported (Ok done) = Ok done
reported (Err fault) = Err (stop_of fault)

-- The connection is opened over the route, if one is wanted and the session is registered.
abbrev pub IsOpenedIf : List ℕ → Bool → Result (Unit {0}) AskFault → SessionEnds → SessionEnds → Result (Unit {0}) RequestFailure → Type 0
IsOpenedIf route connected (Err fault) mid new result = (result ≡ Err (begin_failure fault)) × (new ≡ mid)
IsOpenedIf route false (Ok done) mid new result = (result ≡ Ok done) × (new ≡ mid)
IsOpenedIf route true (Ok done) mid new result =
    (opened : Result (Unit {0}) AskFault) × IsTurn (lends_call (opens_over route mid.client.state)) turns.Open mid new opened
    × (result ≡ reported opened)

-- A session is registered, and a connection is opened if one is wanted.
pub record IsBegun (route : List ℕ) (connected : Bool) (old new : SessionEnds) (result : Result (Unit {0}) RequestFailure) : Type 0 where
  pub registered : Result (Unit {0}) AskFault
  pub mid : SessionEnds
  pub registering : IsTurn (lends_call (registers old.client.state)) turns.Register old mid registered
  pub opening : IsOpenedIf route connected registered mid new result

-- A request is sent, on the connection if there is one, otherwise over the route, and the reply to it is kept.
abbrev pub IsAskedInSession : List ℕ → List ℕ → Bool → SessionEnds → SessionEnds → Result (Unit {0}) RequestFailure → Type 0
IsAskedInSession route request connected old new result =
    (asked : Result (Unit {0}) AskFault)
    × IsTurn (requests_over route old.client.state request connected) turns.Request old new asked × (result ≡ reported asked)

-- The frame of the request that waits on the connection, once more. The client stays as it is. If no request waits, the
-- call is refused.
abbrev pub lent_again : State → Option Frame → Result Lent ClientFault
lent_again s (Some again) = Ok (lending again s)
lent_again s None = Err client.State

-- The request that waits is sent once more, and the reply to it is kept.
abbrev pub IsAskedAgain : SessionEnds → SessionEnds → Result (Unit {0}) RequestFailure → Type 0
IsAskedAgain old new result =
    (asked : Result (Unit {0}) AskFault)
    × IsTurn (lends_call (lent_again old.client.state (resends old.client.state))) turns.Request old new asked
    × (result ≡ reported asked)

-- The connection is closed, if there is one.
abbrev pub IsClosedIf : List ℕ → Bool → SessionEnds → SessionEnds → Result (Unit {0}) AskFault → Type 0
IsClosedIf route true old new result = IsTurn (lends_call (closes_over route old.client.state)) turns.Close old new result
IsClosedIf route false old new result = (result ≡ Ok tt) × (new ≡ old)

-- The session is unregistered, unless the connection was not closed.
abbrev pub IsUnregisteredIf : Result (Unit {0}) AskFault → SessionEnds → SessionEnds → Result (Unit {0}) RequestFailure → Type 0
IsUnregisteredIf (Err fault) mid new result = (result ≡ Err (stop_of fault)) × (new ≡ mid)
IsUnregisteredIf (Ok done) mid new result =
    (sent : Result (Unit {0}) AskFault) × IsSent (lends_call (unregisters mid.client.state)) mid new sent
    × (result ≡ reported sent)

-- A session ends: the connection is closed, if there is one, and the session is unregistered.
pub record IsEnded (route : List ℕ) (connected : Bool) (old new : SessionEnds) (result : Result (Unit {0}) RequestFailure) : Type 0 where
  pub closed : Result (Unit {0}) AskFault
  pub mid : SessionEnds
  pub closing : IsClosedIf route connected old mid closed
  pub leaving : IsUnregisteredIf closed mid new result

-- No client could be made: nothing was read, written or changed.
abbrev pub IsWithoutSession : Wants → (ClientState → List ℕ → SessionEnds) → (ClientState → List ℕ → SessionEnds)
    → RequestFailure → Type 0
IsWithoutSession wants old new failure =
    (failure ≡ Program Memory) × (new (new_client wants) [] ≡ old (new_client wants) [])

-- A session of a new client that wants this connection, over a route, whose ends are these for each state of the client
-- and each reply that is kept.
abbrev pub IsSessionBegunOver : Wants → List ℕ → Bool → (ClientState → List ℕ → SessionEnds) → (ClientState → List ℕ → SessionEnds)
    → Result DeviceSession RequestFailure → Type 0
IsSessionBegunOver wants route connected old new (Ok session) =
    (session.connected ≡ connected) × (session.route ≡ route)
    × IsBegun route connected (old (new_client wants) []) (new session.client session.reply.items) (Ok tt)
IsSessionBegunOver wants route connected old new (Err failure) =
    IsWithoutSession wants old new failure
    ⊎ ((left : ClientState) × ((kept : List ℕ)
    × IsBegun route connected (old (new_client wants) []) (new left kept) (Err failure)))

-- A request was asked, by this relation of the ends before and after, and what is lent is the reply that is kept, as it is
-- after some state of the client.
abbrev pub IsLentAfter : (SessionEnds → Result (Unit {0}) RequestFailure → Type 0) → (ClientState → List ℕ → SessionEnds)
    → Result (List ℕ) RequestFailure → Type 0
IsLentAfter IsAsked new (Ok reply) = (left : ClientState) × IsAsked (new left reply) (Ok tt)
IsLentAfter IsAsked new (Err failure) = (left : ClientState) × ((kept : List ℕ) × IsAsked (new left kept) (Err failure))

abbrev pub IsReplyLent : List ℕ → List ℕ → Bool → SessionEnds → (ClientState → List ℕ → SessionEnds)
    → Result (List ℕ) RequestFailure → Type 0
IsReplyLent route request connected old new result =
    IsLentAfter (IsAskedInSession route request connected old) new result

abbrev pub IsReplyLentAgain : SessionEnds → (ClientState → List ℕ → SessionEnds) → Result (List ℕ) RequestFailure → Type 0
IsReplyLentAgain old new result = IsLentAfter (IsAskedAgain old) new result
