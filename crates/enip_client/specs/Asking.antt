-- One exchange: what a client sends and hears, from RegisterSession to UnRegisterSession.
use Rattle.std.specs.Prelude.{ℕ, ◌-◌, ◌^◌, ◌≡◌, ◌<◌, nat_lt, if◌then◌else◌, Bool, true, false, ⊤, List, [], ◌∷◌}
use Rattle.std.specs.Prelude.{◌++◌, length, take, Option, Some, None, Result, Ok, Err}
use Rattle.std.specs.List.{flat_map, AllByRecursion}
use Rattle.std.specs.Io.KnownBytes.{Appends, Consumes, IsAtEnd}
use Rattle.cip_bytes.specs.Numbers.{AreBytes}
use Rattle.enip_wire.specs.Frames.{Frame, frame, IsFrame}
use Rattle.enip_wire.specs.Stream.{Parsed, parsed}
use Rattle.enip_wire.specs.Stream.Parsed.{Incomplete, WholeFrame, TooLongHeader}
use Rattle.enip_client.specs.declared.fault.AskFault.{AskFault}
use Rattle.enip_client.specs.declared.fault.AskFault.TheVariants as ask_faults
use Rattle.enip_client.specs.declared.fault.ClientFault.{ClientFault}
use Rattle.enip_client.specs.declared.fault.ClientFault.TheVariants as faults
use Rattle.enip_client.specs.declared.fault.SubmitFault.{SubmitFault}
use Rattle.enip_client.specs.declared.fault.SubmitFault.TheVariants as submit_faults
use Rattle.enip_client.specs.declared.state.State.{State}
use Rattle.enip_client.specs.Calls.{Lent, registers, opens_over, asks_over, asks, submits, closes_over, unregisters}
use Rattle.enip_client.specs.Client.{ClientState}
use Rattle.enip_client.specs.Hears.{TurnResult, HeardEvent, hears_parsed}
use Rattle.enip_client.specs.Hears.HeardEvent.{Registered, Opened, Replied, Accepted, Refused, Closed}

-- The greatest size of a reply that is accepted, in bytes.
abbrev pub LONGEST_REPLY : ℕ
LONGEST_REPLY = 4000

-- Which reply the exchange awaits, or how it ended.
pub data AskPhase : Type 0 where
  Registering : AskPhase
  Opening : AskPhase
  Requesting : AskPhase
  Closing : AskPhase
  Completed : AskPhase
  Failed : (fault : AskFault) → AskPhase

abbrev pub is_awaiting : AskPhase → Bool
is_awaiting Registering = true
is_awaiting Opening = true
is_awaiting Requesting = true
is_awaiting Closing = true
is_awaiting Completed = false
is_awaiting (Failed fault) = false

-- An exchange: its route, its request, whether it goes on a connection, the state of the client, the frames that it sent,
-- the reply that was heard, and the phase of the exchange.
pub record Exchange : Type 0 where
  pub route : List ℕ
  pub request : List ℕ
  pub connected : Bool
  pub state : State
  pub sent : List Frame
  pub reply : List ℕ
  pub ask_phase : AskPhase

abbrev pub failed : Exchange → AskFault → Exchange
failed e fault = record e { ask_phase = Failed fault }

-- How the exchange fails if a call is refused.
abbrev pub client_failure : ClientFault → AskFault
client_failure fault = ask_faults.Client fault

abbrev pub submit_failure : SubmitFault → AskFault
submit_failure (submit_faults.Client fault) = ask_faults.Client fault
submit_failure (submit_faults.Refused why) = ask_faults.Submit why

-- What a call lends, or how the exchange fails.
abbrev pub lends : {E : Type 0} → (E → AskFault) → Result Lent E → Result Lent AskFault
lends failure (Ok lent) = Ok lent
lends failure (Err fault) = Err (failure fault)

abbrev pub lends_call : Result Lent ClientFault → Result Lent AskFault
lends_call lent = lends client_failure lent

-- The request, on the connection or unconnected.
abbrev pub requests : State → List ℕ → Bool → Result Lent AskFault
requests s request connected =
    if connected then lends submit_failure (submits s request) else lends_call (asks s request)

-- The same over a route. A connection is opened and closed over it.
abbrev pub requests_over : List ℕ → State → List ℕ → Bool → Result Lent AskFault
requests_over route s request connected =
    if connected then lends submit_failure (submits s request) else lends_call (asks_over route s request)

-- The frame that a call lends is sent, and its reply is awaited. A call that is refused ends the exchange.
abbrev pub sends_lent : Exchange → AskPhase → Result Lent AskFault → Exchange
sends_lent e next (Ok lent) = record e { state = lent.state; sent = e.sent ++ (lent.frame ∷ []); ask_phase = next }
sends_lent e next (Err fault) = failed e fault

abbrev pub opening : Exchange → Exchange
opening e = sends_lent e Opening (lends_call (opens_over e.route e.state))

abbrev pub requesting : Exchange → Exchange
requesting e = sends_lent e Requesting (requests_over e.route e.state e.request e.connected)

abbrev pub closing : Exchange → Exchange
closing e = sends_lent e Closing (lends_call (closes_over e.route e.state))

-- The session ends, and the exchange with it: an UnRegisterSession has no reply.
abbrev pub leaving : Exchange → Exchange
leaving e = sends_lent e Completed (lends_call (unregisters e.state))

-- The reply is kept, and the connection is closed, if there is one. A longer reply ends the exchange (ours).
abbrev pub replied : Exchange → List ℕ → Exchange
replied e bytes =
    if nat_lt LONGEST_REPLY (length bytes) then failed e (ask_faults.Client faults.Malformed)
    else if e.connected then closing (record e { reply = bytes })
    else leaving (record e { reply = bytes })

-- The Connection Manager refused, or a router on the route.
abbrev pub refused : Exchange → ℕ → ℕ → Exchange
refused e status extended = failed e (ask_faults.Client (faults.Refused status extended))

-- What follows what was heard: the next call, as soon as the one before is answered.
abbrev pub goes_on : Exchange → AskPhase → HeardEvent → Exchange
goes_on e Registering Registered = if e.connected then opening e else requesting e
goes_on e Opening Opened = requesting e
goes_on e Opening (Refused status extended) = refused e status extended
goes_on e Requesting (Replied bytes) = replied e bytes
goes_on e Requesting (Accepted bytes) = replied e bytes
goes_on e Requesting (Refused status extended) = refused e status extended
goes_on e Closing Closed = leaving e
goes_on e Closing (Refused status extended) = refused e status extended
goes_on e ask_phase heard = e

-- A lasting fault ends the exchange.
abbrev pub hears_unless : Exchange → HeardEvent → Option ClientFault → Exchange
hears_unless e heard (Some fault) = failed e (ask_faults.Client fault)
hears_unless e heard None = goes_on e e.ask_phase heard

abbrev pub after_turn : Exchange → TurnResult → Exchange
after_turn e turned = hears_unless (record e { state = turned.state }) turned.heard_event turned.state.fault

-- The exchange after the bytes that arrived. Once it has ended it hears nothing.
abbrev pub after_parsed : Exchange → Parsed → Exchange
after_parsed e parsed_frame = if is_awaiting e.ask_phase then after_turn e (hears_parsed e.state parsed_frame) else e

-- The exchange begins by registering a session.
abbrev pub begun_over : List ℕ → State → List ℕ → Bool → List ℕ → Exchange
begun_over route s request connected reply =
    sends_lent (record { route = route; request = request; connected = connected; state = s; sent = []; reply = reply; ask_phase = Registering })
    Registering (lends_call (registers s))

-- The exchange after whole frames.
abbrev pub over : Exchange → List Frame → Exchange
over e [] = e
over e (f ∷ fs) = over (after_parsed e (WholeFrame f)) fs

-- At each of these frames the exchange awaits a reply.
abbrev pub AllAwaited : Exchange → List Frame → Type 0
AllAwaited e [] = ⊤
AllAwaited e (f ∷ fs) = (is_awaiting e.ask_phase ≡ true) × AllAwaited (after_parsed e (WholeFrame f)) fs

-- A header whose length is over the limit ends the exchange.
abbrev pub at_last : Exchange → Parsed → Exchange
at_last e Incomplete = e
at_last e (WholeFrame f) = e
at_last e (TooLongHeader h) = after_parsed e (TooLongHeader h)

-- The bytes that the client held before, joined with those that it was fed, are these frames followed by what it still
-- holds, which is not a whole frame. The exchange is the one over these frames, unless the length in a header that is
-- held is over the limit.
pub record Heard (begins : Exchange) (before fed : List ℕ) (after : ClientState) (ends : Exchange) : Type 0 where
  pub frames : List Frame
  pub parts : before ++ fed ≡ flat_map frame frames ++ after.held
  pub each : AllByRecursion IsFrame frames
  pub awaited : AllAwaited begins frames
  pub unheard : (f : Frame) → parsed after.held ≡ WholeFrame f → ⊥
  pub exchange : ends ≡ at_last (over begins frames) (parsed after.held)
  pub state : after.state ≡ ends.state

-- The bytes held are a front of a frame, or none.
pub record IsPartial (held : List ℕ) : Type 0 where
  pub bytes : AreBytes held
  pub partly : parsed held ≡ Incomplete

-- These frames were written.
abbrev pub Writes : Option (List ℕ) → Option (List ℕ) → List Frame → Type 0
Writes before after frames = Appends before after (flat_map frame frames)

-- All of these frames but the last were written, and of the last a front that is not all of it.
pub record WritesFront (before after : Option (List ℕ)) (frames : List Frame) : Type 0 where
  pub whole : List Frame
  pub last : Frame
  pub all : frames ≡ whole ++ (last ∷ [])
  pub front : ℕ
  pub not_all : front < length (frame last)
  pub written : Appends before after (flat_map frame whole ++ take front (frame last))

-- The client, the bytes that are left to the reader and how many reads it made, those that the writer has, and the
-- reply.
pub record Ends : Type 0 where
  pub client : ClientState
  pub left : Option (List ℕ)
  pub reads : ℕ
  pub written : Option (List ℕ)
  pub reply : List ℕ

abbrev pub ends : ClientState → Option (List ℕ) → ℕ → Option (List ℕ) → List ℕ → Ends
ends client left reads written reply =
    record { client = client; left = left; reads = reads; written = written; reply = reply }

-- The exchange that was heard. A front of the bytes that were read was fed. What was not fed belongs to the last read,
-- which gave at most 4,096 bytes and of which at least one byte was fed.
pub record AskingOver (route request : List ℕ) (connected : Bool) (old new : Ends) : Type 0 where
  pub exchange : Exchange
  pub fed : List ℕ
  pub rest : List ℕ
  pub few : length rest < 4096
  pub consumed : Consumes old.left new.left (fed ++ rest)
  pub heard : Heard (begun_over route old.client.state request connected old.reply) old.client.held fed new.client exchange
  pub reply : new.reply ≡ exchange.reply

-- The exchange awaits a reply, and all that was read was fed.
pub record IsAwaiting (e : Exchange) (rest : List ℕ) : Type 0 where
  pub ask_phase : is_awaiting e.ask_phase ≡ true
  pub all : rest ≡ []

-- What an exchange over a route does, by its result.
abbrev pub IsAskedOver : List ℕ → List ℕ → Bool → Ends → Ends → Result (Unit {0}) AskFault → Type 0
IsAskedOver route request connected old new (Ok done) =
    (a : AskingOver route request connected old new) × (a.exchange.ask_phase ≡ Completed)
    × Writes old.written new.written a.exchange.sent
IsAskedOver route request connected old new (Err ask_faults.Read) =
    (a : AskingOver route request connected old new) × IsAwaiting a.exchange a.rest
    × Writes old.written new.written a.exchange.sent
IsAskedOver route request connected old new (Err ask_faults.Write) =
    (a : AskingOver route request connected old new) × WritesFront old.written new.written a.exchange.sent
IsAskedOver route request connected old new (Err ask_faults.Ended) =
    (a : AskingOver route request connected old new) × IsAwaiting a.exchange a.rest × IsAtEnd new.left
    × Writes old.written new.written a.exchange.sent
IsAskedOver route request connected old new (Err (ask_faults.Client fault)) =
    (a : AskingOver route request connected old new) × (a.exchange.ask_phase ≡ Failed (ask_faults.Client fault))
    × Writes old.written new.written a.exchange.sent
IsAskedOver route request connected old new (Err (ask_faults.Submit why)) =
    (a : AskingOver route request connected old new) × (a.exchange.ask_phase ≡ Failed (ask_faults.Submit why))
    × Writes old.written new.written a.exchange.sent
IsAskedOver route request connected old new (Err ask_faults.Spent) =
    (a : AskingOver route request connected old new) × IsAwaiting a.exchange a.rest × (new.reads ≡ 2 ^ 64 - 1)
    × Writes old.written new.written a.exchange.sent

-- The same without a route.
abbrev pub IsAsked : List ℕ → Bool → Ends → Ends → Result (Unit {0}) AskFault → Type 0
IsAsked request connected old new result = IsAskedOver [] request connected old new result

-- If no session can be registered, that is the result, and nothing is read, written or changed.
abbrev pub IsRefused : Ends → Ends → Result (Unit {0}) AskFault → Type 0
IsRefused old new result = (fault : ClientFault) → registers old.client.state ≡ Err fault
    → (result ≡ Err (ask_faults.Client fault)) × (new ≡ old)

-- How many calls of the reader failed, and how many of the writer, by the result.
abbrev pub read_faults : {A : Type 0} → Result A AskFault → ℕ
read_faults (Ok x) = 0
read_faults (Err ask_faults.Read) = 1
read_faults (Err other) = 0

abbrev pub write_faults : {A : Type 0} → Result A AskFault → ℕ
write_faults (Ok x) = 0
write_faults (Err ask_faults.Write) = 1
write_faults (Err other) = 0
