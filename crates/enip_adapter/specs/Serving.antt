-- An adapter over a reader and a writer: what was read is fed until nothing is left or the peer is closed.
use Rattle.std.specs.Prelude.{ℕ, zero, suc, ◌≡◌, ◌<◌, ◌≤◌, List, [], ◌++◌, length, take, drop, not, Bool, true, false}
use Rattle.std.specs.Prelude.{⊤, Option, Some, None, Result, Ok, Err}
use Rattle.std.specs.Io.KnownBytes.{Appends, Consumes, Keeps, IsAtEnd}
use Rattle.enip_adapter.specs.declared.peer.Session.{Session}
use Rattle.enip_adapter.specs.declared.serving.Served.{Served}
use Rattle.enip_adapter.specs.declared.serving.Served.TheVariants.{More, Input, Closed}
use Rattle.enip_adapter.specs.declared.serving.ServeFault.{ServeFault}
use Rattle.enip_adapter.specs.declared.serving.ServeFault.TheVariants.{Read, Write}
use Rattle.enip_adapter.specs.Calls.{AdapterState, call_meaning, call_answer, after_call}
use Rattle.enip_adapter.specs.Calls.Call.{Feeds}
use Rattle.enip_adapter.specs.Turn.{Output, Answer, session_of}
use Rattle.enip_adapter.specs.Turn.Output.{Sends}

-- The number of a fault of `serve`.
abbrev pub serve_fault_number : ServeFault → ℕ
serve_fault_number Read = 1
serve_fault_number Write = 2

-- A peer is served if it is held and not closed.
abbrev pub is_open : Option Session → Bool
is_open None = false
is_open (Some session) = not session.closed

abbrev pub is_peer_served : AdapterState → ℕ → Bool
is_peer_served a peer = is_open (session_of a.state peer)

-- The bytes that an output sends.
abbrev pub output_bytes : Output → List ℕ
output_bytes (Sends bytes) = bytes
output_bytes other = []

-- A front of these bytes was written, and not all of them.
abbrev pub AppendsFront : Option (List ℕ) → Option (List ℕ) → List ℕ → Type 0
AppendsFront before after bytes = (front : ℕ) × (front < length bytes) × Appends before after (take front bytes)

-- The state of feeding a piece: the adapter, the bytes of the piece that are left, and the answers, joined.
pub record FeedState : Type 0 where
  pub adapter : AdapterState
  pub rest : List ℕ
  pub sent : List ℕ

-- The answer to the next feed of what is left.
abbrev pub next_answer : ℕ → ℕ → FeedState → Answer
next_answer now peer f = call_answer f.adapter (Feeds now peer f.rest)

-- What is left is fed once more.
abbrev pub fed_more : ℕ → ℕ → FeedState → FeedState
fed_more now peer f = record {
  adapter = after_call f.adapter (Feeds now peer f.rest);
  rest = drop (call_meaning f.adapter (Feeds now peer f.rest)).taken f.rest;
  sent = f.sent ++ output_bytes (next_answer now peer f).output;
}

-- A piece is fed to a peer at one time, this many times.
abbrev pub feeds : ℕ → ℕ → AdapterState → List ℕ → ℕ → FeedState
feeds now peer a piece zero = record { adapter = a; rest = piece; sent = [] }
feeds now peer a piece (suc k) = fed_more now peer (feeds now peer a piece k)

-- At least one byte is left, and feeding it does not close.
pub record GoesOn (now peer : ℕ) (f : FeedState) : Type 0 where
  pub some : 0 < length f.rest
  pub open_then : (next_answer now peer f).close ≡ false

-- This holds at each of the first `times` feeds.
abbrev pub AllGoOn : ℕ → ℕ → AdapterState → List ℕ → ℕ → Type 0
AllGoOn now peer a piece zero = ⊤
AllGoOn now peer a piece (suc k) = AllGoOn now peer a piece k × GoesOn now peer (feeds now peer a piece k)

-- A piece was fed to its end, and each answer was written.
pub record FedWhole (now peer : ℕ) (a : AdapterState) (piece : List ℕ) (new : AdapterState)
    (before after : Option (List ℕ)) : Type 0 where
  pub times : ℕ
  pub each : AllGoOn now peer a piece times
  pub whole : (feeds now peer a piece times).rest ≡ []
  pub adapter : new ≡ (feeds now peer a piece times).adapter
  pub written : Appends before after (feeds now peer a piece times).sent

-- A piece was fed until a feed closed, and each answer was written, including that of the feed that closed.
pub record FedToClose (now peer : ℕ) (a : AdapterState) (piece : List ℕ) (new : AdapterState)
    (before after : Option (List ℕ)) : Type 0 where
  pub times : ℕ
  pub each : AllGoOn now peer a piece times
  pub some : 0 < length (feeds now peer a piece times).rest
  pub close : (next_answer now peer (feeds now peer a piece times)).close ≡ true
  pub adapter : new ≡ (feeds now peer a piece (suc times)).adapter
  pub written : Appends before after (feeds now peer a piece (suc times)).sent

-- A piece was fed until an answer could not be written. The answers before it were written, and a front of it that is
-- not all of it.
pub record FedToFault (now peer : ℕ) (a : AdapterState) (piece : List ℕ) (new : AdapterState)
    (before after : Option (List ℕ)) : Type 0 where
  pub times : ℕ
  pub each : AllGoOn now peer a piece times
  pub some : 0 < length (feeds now peer a piece times).rest
  pub adapter : new ≡ (feeds now peer a piece (suc times)).adapter
  pub front : ℕ
  pub not_all : front < length (output_bytes (next_answer now peer (feeds now peer a piece times)).output)
  pub written : Appends before after ((feeds now peer a piece times).sent
      ++ take front (output_bytes (next_answer now peer (feeds now peer a piece times)).output))

-- A piece was fed to its end, or closed, or met a fault of the writer.
abbrev pub IsFedAll : {E : Type 0} → ℕ → ℕ → AdapterState → List ℕ → AdapterState
    → Option (List ℕ) → Option (List ℕ) → Result Bool E → Type 0
IsFedAll now peer a piece new before after (Ok false) = FedWhole now peer a piece new before after
IsFedAll now peer a piece new before after (Ok true) = FedToClose now peer a piece new before after
IsFedAll now peer a piece new before after (Err e) = FedToFault now peer a piece new before after

-- One read gave these bytes.
pub record IsRead (before after : Option (List ℕ)) (bytes : List ℕ) : Type 0 where
  pub some : 0 < length bytes
  pub few : length bytes ≤ 4096
  pub consumed : Consumes before after bytes

-- The adapter, the bytes that are left to the reader, and those that the writer has.
pub record ServeState : Type 0 where
  pub adapter : AdapterState
  pub left : Option (List ℕ)
  pub written : Option (List ℕ)

-- What `serve` does to a peer that is served, by its result. The time is the reader's moment after the read.
abbrev pub IsServed : ℕ → ℕ → ServeState → ServeState → Result Served ServeFault → Type 0
IsServed now peer old new (Ok More) =
    (bytes : List ℕ) × IsRead old.left new.left bytes
    × FedWhole now peer old.adapter bytes new.adapter old.written new.written
IsServed now peer old new (Ok Closed) =
    (bytes : List ℕ) × IsRead old.left new.left bytes
    × FedToClose now peer old.adapter bytes new.adapter old.written new.written
IsServed now peer old new (Err Write) =
    (bytes : List ℕ) × IsRead old.left new.left bytes
    × FedToFault now peer old.adapter bytes new.adapter old.written new.written
IsServed now peer old new (Ok Input) = Keeps old.left new.left × IsAtEnd new.left
IsServed now peer old new (Err Read) = Keeps old.left new.left

-- Nothing is fed at the end of the input, and nothing if the read failed.
abbrev pub IfNothingFed : Result Served ServeFault → Type 0 → Type 0
IfNothingFed (Ok Input) P = P
IfNothingFed (Err Read) P = P
IfNothingFed other P = ⊤

-- How many calls of the reader failed, and how many of the writer, by the result of `serve`.
abbrev pub read_faults : Result Served ServeFault → ℕ
read_faults (Err Read) = 1
read_faults other = 0

abbrev pub write_faults : Result Served ServeFault → ℕ
write_faults (Err Write) = 1
write_faults other = 0
