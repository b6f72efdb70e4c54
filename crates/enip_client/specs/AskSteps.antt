-- What the functions that `ask` calls return, in terms of the exchange.
use Rattle.std.specs.Prelude.{ℕ, ◌-◌, ◌^◌, ◌≡◌, ◌<◌, suc, nat_lt, if◌then◌else◌, Bool, true, ⊤, List, [], ◌∷◌, ◌++◌}
use Rattle.std.specs.Prelude.{length, take, Option, Some, None, Result, Ok, Err}
use Rattle.std.specs.List.{flat_map, AllByRecursion}
use Rattle.std.specs.Io.KnownBytes.{Appends, Consumes, IsAtEnd}
use Rattle.enip_wire.specs.Frames.{Frame, frame, IsFrame}
use Rattle.enip_wire.specs.Stream.{parsed, held_and_taken, cleared}
use Rattle.enip_client.specs.declared.fault.AskFault.{AskFault}
use Rattle.enip_client.specs.declared.fault.AskFault.TheVariants as ask_faults
use Rattle.enip_client.specs.declared.step.Step.{Step}
use Rattle.enip_client.specs.declared.step.Step.TheVariants as steps
use Rattle.enip_client.specs.declared.step.Call.{Call}
use Rattle.enip_client.specs.declared.step.Call.TheVariants as calls
use Rattle.enip_client.specs.declared.step.Asked.{Asked}
use Rattle.enip_client.specs.declared.step.Progress.{Progress}
use Rattle.enip_client.specs.declared.fault.ClientFault.TheVariants as faults
use Rattle.enip_client.specs.declared.state.State.{State}
use Rattle.enip_client.specs.Calls.{Lent, opens_over, closes_over, unregisters}
use Rattle.enip_client.specs.Client.{ClientState}
use Rattle.enip_client.specs.Hears.{HeardEvent}
use Rattle.enip_client.specs.Hears.HeardEvent.{Registered, Opened, Replied, Accepted, Refused, Closed}
use Rattle.enip_client.specs.Asking.{AskPhase, Exchange, Heard, LONGEST_REPLY, is_awaiting, over, AllAwaited, IsPartial}
use Rattle.enip_client.specs.Asking.{lends_call, requests_over, after_parsed}
use Rattle.enip_client.specs.Asking.AskPhase.{Registering, Opening, Requesting, Closing, Completed, Failed}

abbrev pub ask_phase_of : Step → AskPhase
ask_phase_of steps.Registering = Registering
ask_phase_of steps.Opening = Opening
ask_phase_of steps.Requesting = Requesting
ask_phase_of steps.Closing = Closing
ask_phase_of steps.Completed = Completed

-- Which reply is awaited after a call.
abbrev pub step_after : Call → Step
step_after calls.Open = steps.Opening
step_after calls.Request = steps.Requesting
step_after calls.Close = steps.Closing
step_after calls.Leave = steps.Completed

-- What a call lends.
abbrev pub called : List ℕ → Call → State → List ℕ → Bool → Result Lent AskFault
called route calls.Open s request connected = lends_call (opens_over route s)
called route calls.Request s request connected = requests_over route s request connected
called route calls.Close s request connected = lends_call (closes_over route s)
called route calls.Leave s request connected = lends_call (unregisters s)

-- The call that follows a reply, unless it is too long.
abbrev pub next_replied : Bool → List ℕ → Result (Option Call) AskFault
next_replied connected bytes =
    if nat_lt LONGEST_REPLY (length bytes) then Err (ask_faults.Client faults.Malformed)
    else if connected then Ok (Some calls.Close)
    else Ok (Some calls.Leave)

-- The call that follows what was heard, if any.
abbrev pub next_of : Step → Bool → HeardEvent → Result (Option Call) AskFault
next_of steps.Registering connected Registered =
    if connected then Ok (Some calls.Open) else Ok (Some calls.Request)
next_of steps.Opening connected Opened = Ok (Some calls.Request)
next_of steps.Opening connected (Refused status extended) =
    Err (ask_faults.Client (faults.Refused status extended))
next_of steps.Requesting connected (Replied bytes) = next_replied connected bytes
next_of steps.Requesting connected (Accepted bytes) = next_replied connected bytes
next_of steps.Requesting connected (Refused status extended) =
    Err (ask_faults.Client (faults.Refused status extended))
next_of steps.Closing connected Closed = Ok (Some calls.Leave)
next_of steps.Closing connected (Refused status extended) =
    Err (ask_faults.Client (faults.Refused status extended))
next_of step connected heard = Ok None

-- A reply is kept if it is not too long.
abbrev pub fits : List ℕ → Result (Unit {0}) AskFault
fits bytes = if nat_lt LONGEST_REPLY (length bytes) then Err (ask_faults.Client faults.Malformed) else Ok tt

-- The reply that is kept: the new one, unless it is too long.
abbrev pub kept : List ℕ → List ℕ → List ℕ
kept old bytes = if nat_lt LONGEST_REPLY (length bytes) then old else bytes

abbrev pub reply_after : Step → HeardEvent → List ℕ → List ℕ
reply_after steps.Requesting (Replied bytes) old = kept old bytes
reply_after steps.Requesting (Accepted bytes) old = kept old bytes
reply_after step heard old = old

-- The writer failed within these bytes.
pub record FailsWithin (before after : Option (List ℕ)) (bytes : List ℕ) (fault : AskFault) : Type 0 where
  pub fault_is : fault ≡ ask_faults.Write
  pub front : ℕ
  pub not_all : front < length bytes
  pub written : Appends before after (take front bytes)

-- A call was made, and its frame was written.
abbrev pub IsPerformed : Result Lent AskFault → Option (List ℕ) → Option (List ℕ) → Result (Unit {0}) AskFault → Type 0
IsPerformed (Ok lent) before after (Ok done) = Appends before after (frame lent.frame)
IsPerformed (Ok lent) before after (Err fault) = FailsWithin before after (frame lent.frame) fault
IsPerformed (Err why) before after (Ok done) = ⊥
IsPerformed (Err why) before after (Err fault) = (fault ≡ why) × Appends before after []

-- The exchange, as the code holds it.
abbrev pub exchange_as : Asked → State → AskPhase → List ℕ → List Frame → Exchange
exchange_as asked s ask_phase reply sent = record {
  route = asked.route.now;
  request = asked.request.now;
  connected = asked.connected;
  state = s;
  sent = sent;
  reply = reply;
  ask_phase = ask_phase;
}

-- The client, what was written, and the reply.
pub record Held : Type 0 where
  pub client : ClientState
  pub written : Option (List ℕ)
  pub reply : List ℕ

-- An exchange has sent further frames, and is at this phase.
pub record IsAtPhase (asked : Asked) (sent : List Frame) (old new : Held) (ask_phase : AskPhase) (e : Exchange) : Type 0 where
  pub frames : List Frame
  pub exchange : e ≡ exchange_as asked new.client.state ask_phase new.reply (sent ++ frames)
  pub written : Appends old.written new.written (flat_map frame frames)

-- An exchange has sent further frames, and the writer failed within the last of them.
pub record FailsAtWrite (asked : Asked) (sent : List Frame) (old new : Held) (e : Exchange) : Type 0 where
  pub whole : List Frame
  pub last : Frame
  pub ask_phase : AskPhase
  pub exchange : e ≡ exchange_as asked new.client.state ask_phase new.reply (sent ++ (whole ++ (last ∷ [])))
  pub front : ℕ
  pub not_all : front < length (frame last)
  pub written : Appends old.written new.written (flat_map frame whole ++ take front (frame last))

-- The state of an exchange, by the result.
abbrev pub ExchangeResult : Asked → List Frame → Held → Held → Exchange → Result Step AskFault → Type 0
ExchangeResult asked sent old new e (Ok step) = IsAtPhase asked sent old new (ask_phase_of step) e
ExchangeResult asked sent old new e (Err ask_faults.Write) = FailsAtWrite asked sent old new e
ExchangeResult asked sent old new e (Err ask_faults.Read) = ⊥
ExchangeResult asked sent old new e (Err ask_faults.Ended) = ⊥
ExchangeResult asked sent old new e (Err ask_faults.Spent) = ⊥
ExchangeResult asked sent old new e (Err (ask_faults.Client fault)) =
    IsAtPhase asked sent old new (Failed (ask_faults.Client fault)) e
ExchangeResult asked sent old new e (Err (ask_faults.Submit why)) =
    IsAtPhase asked sent old new (Failed (ask_faults.Submit why)) e

abbrev pub step_in : Result Progress AskFault → Result Step AskFault
step_in (Ok p) = Ok p.step
step_in (Err fault) = Err fault

-- The exchange that the code holds after these frames were sent.
abbrev pub exchange_now : Asked → Step → Held → List Frame → Exchange
exchange_now asked step held sent = exchange_as asked held.client.state (ask_phase_of step) held.reply sent

-- A piece was fed once.
pub record IsAdvanced (asked : Asked) (step : Step) (piece : List ℕ) (old new : Held)
    (result : Result Step AskFault) : Type 0 where
  pub bytes : new.client.held ≡ cleared (parsed (held_and_taken old.client.held piece)) (held_and_taken old.client.held piece)
  pub came : (sent : List Frame)
      → ExchangeResult asked sent old new
      (after_parsed (exchange_now asked step old sent) (parsed (held_and_taken old.client.held piece))) result

-- A reply is awaited.
abbrev pub IsAwaited : Result Step AskFault → Type 0
IsAwaited (Ok step) = is_awaiting (ask_phase_of step) ≡ true
IsAwaited (Err fault) = ⊥

-- While a reply is awaited, no fault lasts.
abbrev pub IsHealthy : State → Result Step AskFault → Type 0
IsHealthy s (Ok steps.Completed) = ⊤
IsHealthy s (Ok step) = s.fault ≡ None
IsHealthy s (Err fault) = ⊤

-- The exchange over the frames of these bytes, of which the client still holds some.
pub record Hears (begins : Exchange) (before fed held : List ℕ) (ends : Exchange) : Type 0 where
  pub frames : List Frame
  pub parts : before ++ fed ≡ flat_map frame frames ++ held
  pub each : AllByRecursion IsFrame frames
  pub awaited : AllAwaited begins frames
  pub exchange : ends ≡ over begins frames
  pub partial : IsPartial held

-- A front of a piece was fed. It is not empty if the piece is not, and it is the whole piece if a reply is still
-- awaited.
pub record IsPieceFed (asked : Asked) (step : Step) (piece : List ℕ) (old new : Held) (result : Result Step AskFault)
    (sent : List Frame) : Type 0 where
  pub exchange : Exchange
  pub fed : List ℕ
  pub rest : List ℕ
  pub some : 0 < length piece → length rest < length piece
  pub parts : piece ≡ fed ++ rest
  pub heard : Heard (exchange_now asked step old sent) old.client.held fed new.client exchange
  pub came : ExchangeResult asked sent old new exchange result
  pub more : IsAwaited result
      → (rest ≡ []) × Hears (exchange_now asked step old sent) old.client.held fed new.client.held exchange

-- The result of a read.
abbrev pub IsRead : Option (List ℕ) → Option (List ℕ) → ℕ → ℕ → List ℕ → Result ℕ AskFault → Type 0
IsRead before after reads_before reads_after into (Ok size) =
    Consumes before after (take size into) × (0 < size) × (reads_after ≡ suc reads_before)
IsRead before after reads_before reads_after into (Err ask_faults.Ended) = Consumes before after [] × IsAtEnd after
IsRead before after reads_before reads_after into (Err ask_faults.Read) = Consumes before after []
IsRead before after reads_before reads_after into (Err ask_faults.Spent) =
    Consumes before after [] × (reads_after ≡ 2 ^ 64 - 1)
IsRead before after reads_before reads_after into (Err other) = ⊥
