-- What calls of the adapter do to the state of one peer, whoever they are for.
use Rattle.std.specs.Prelude.{ℕ, ◌≡◌, ◌≢◌, ◌==◌, ⊤, List, [], ◌∷◌, ◌++◌, if◌then◌else◌, Option, None}
use Rattle.std.specs.Io.KnownBytes.{Appends, Consumes}
use Rattle.cip_objects.specs.OwnRequests.{Asked}
use Rattle.cip_owner.specs.Replies.{Reply}
use Rattle.enip_adapter.specs.AdapterActions.{IsFeedOf}
use Rattle.enip_adapter.specs.Asks.{asks_of_calls, owner_after}
use Rattle.enip_adapter.specs.Calls.{AdapterState, Call, call_answer, after_call}
use Rattle.enip_adapter.specs.Calls.Call.{Begins_peer, Feeds, Ends_peer, Ticks, Writes}
use Rattle.enip_adapter.specs.OwnWrites.{Prepares, Withdraws}
use Rattle.enip_adapter.specs.Runs.{after_calls, taken_by_calls}
use Rattle.enip_adapter.specs.Serving.{output_bytes}
use Rattle.enip_server.specs.PeerStates.{PeerState}

-- The bytes that a call sends to a peer.
abbrev pub sent_by_call : ℕ → AdapterState → Call → List ℕ
sent_by_call peer a (Begins_peer rights group) = []
sent_by_call peer a (Feeds now other piece) =
    if other == peer then output_bytes (call_answer a (Feeds now other piece)).output else []
sent_by_call peer a (Ends_peer other) = []
sent_by_call peer a (Ticks now) = []
sent_by_call peer a (Writes write) = []

-- The bytes that calls send to a peer, joined.
abbrev pub sent_by_calls : ℕ → AdapterState → List Call → List ℕ
sent_by_calls peer a [] = []
sent_by_calls peer a (call ∷ calls) = sent_by_call peer a call ++ sent_by_calls peer (after_call a call) calls

-- No byte is lost and none is mixed up: these calls were made, these bytes were read from the peer's wire, and these
-- were written. The inbox before and the bytes read are what the calls took of this peer, and the inbox after. The
-- outbox before and what the calls sent to it are the bytes written, and the outbox after. Nothing more is taken of a
-- peer that the adapter closed.
pub record Transfers (peer : ℕ) (calls : List Call) (received gone : List ℕ) (old new : PeerState) : Type 0 where
  pub adapter : new.adapter ≡ after_calls old.adapter calls
  pub read : Consumes old.left new.left received
  pub written : Appends old.written new.written gone
  pub sent : old.outbox ++ sent_by_calls peer old.adapter calls ≡ gone ++ new.outbox
  pub rest : List ℕ
  pub taken : old.inbox ++ received ≡ taken_by_calls peer old.adapter calls ++ rest
  pub waits : new.closed ≡ None → rest ≡ new.inbox
  pub closed : old.closed ≢ None → (new.closed ≢ None) × (taken_by_calls peer old.adapter calls ≡ [])

-- A call that does not end this peer.
abbrev pub GoesOnWith : ℕ → Call → Type 0
GoesOnWith peer (Begins_peer rights group) = ⊤
GoesOnWith peer (Feeds now other piece) = ⊤
GoesOnWith peer (Ends_peer other) = other ≢ peer
GoesOnWith peer (Ticks now) = ⊤
GoesOnWith peer (Writes write) = ⊤

-- A call of a turn: a feed of this peer at this time, the owner's reply that is prepared for it or dropped, or what its
-- request withdraws.
abbrev pub IsTurnCall : ℕ → ℕ → Call → Type 0
IsTurnCall now peer (Writes (Prepares reply)) = ⊤
IsTurnCall now peer (Writes (Withdraws request)) = ⊤
IsTurnCall now peer call = IsFeedOf now peer call

-- Calls lead from one adapter to another. The owner of the device was asked what they ask, in this order, and nothing
-- else.
pub record AreAsked {O : Type 0} (answer : O → Asked → Option Reply) (next : O → Asked → O)
    (first : O) (a : AdapterState) (last : O) (b : AdapterState) : Type 0 where
  pub calls : List Call
  pub adapter : b ≡ after_calls a calls
  pub owner : last ≡ owner_after answer next first (asks_of_calls a calls)
