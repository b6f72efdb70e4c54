-- The cases of a call that passes no piece.
use Rattle.std.proofs.Common.{◌≡◌, Bool, true, false, cond, ◌&&◌, Option, Some, None, Ok, Err, ℕ, List, [], ◌∷◌, length, slice_index, refl}
use Rattle.std.specs.Prelude.{nat_le}
use Rattle.std.proofs.Common.{is_none}
use Rattle.std.proofs.lemmas.Bool.{and_parts}
use Rattle.cip_bytes.specs.Numbers.{le}
use Rattle.cip_class3.specs.OriginatorRule.{OriginatorState, submit_refusal, with_next_request, after_give_up}
use Rattle.cip_class3.specs.declared.originator.Refused.{Refused}
use Rattle.enip_wire.specs.Frames.{Frame}
use Rattle.enip_client.specs.declared.fault.ClientFault.{ClientFault}
use Rattle.enip_client.specs.declared.fault.ClientFault.TheVariants as faults
use Rattle.enip_client.specs.declared.state.Awaited.{Awaited}
use Rattle.enip_client.specs.declared.state.Awaited.TheVariants as awaited
use Rattle.enip_client.specs.declared.state.Awaiting.{Awaiting}
use Rattle.enip_client.specs.declared.state.ConnectionState.{ConnectionState}
use Rattle.enip_client.specs.declared.state.ConnectionState.TheVariants.{Closed}
use Rattle.enip_client.specs.declared.state.Registration.{Registration}
use Rattle.enip_client.specs.declared.state.Registration.TheVariants.{Unregistered}
use Rattle.enip_client.specs.declared.state.State.{State}
use Rattle.enip_client.specs.Frames.{unregister_frame}
use Rattle.enip_client.specs.Calls.{refusal, unless, lending, next_number, awaiting, asking, submits_unless, submitted}
use Rattle.enip_client.specs.Calls.{after_lending, asks, can_register, can_open, can_ask, can_submit, can_close}
use Rattle.enip_client.specs.Calls.{is_unconnected, is_connected}
use Rattle.enip_client.specs.State.{is_not_registered, is_registered, session_in, is_not_opened, is_open, ended}
use Rattle.enip_client.specs.State.{is_free}
use Rattle.enip_client.specs.Runs.{Action, frame_lent, after_action, awaited_by, lent_in}
use Rattle.enip_client.specs.Runs.Action.{Register, Open, Unconnected, Submit, Resend, GiveUp, Close, Unregister}
use Rattle.enip_client.specs.Runs.Action.{OpenOver, UnconnectedOver, CloseOver}
use Rattle.enip_client.specs.Frames.{send_request}
use Rattle.cip_bytes.specs.declared.protocol.TheConstants.{UNCONNECTED_LIMIT}

-- It changes nothing and lends nothing; its frame is lent and its reply is awaited; or it may lend a frame, and awaits
-- no reply.
pub data IsAction (s : State) (what : Option Awaited) : Option Frame → State → Type 0 where
  Stays : IsAction s what None s
  Asks : (w : Awaited) (f : Frame) (connection_state : ConnectionState) → what ≡ Some w → s.awaiting ≡ None
      → f.header.context ≡ le 8 (next_number s)
      → IsAction s what (Some f) (record (awaiting w s) { connection_state = connection_state })
  Sends : (f : Option Frame) (registration : Registration) (connection_state : ConnectionState) (originator : OriginatorState) → what ≡ None
      → IsAction s what f (record s { registration = registration; connection_state = connection_state; originator = originator })

-- A call that is not refused is possible.
pub possible-not_refused : (s : State) (possible : Bool) → refusal s possible ≡ None → possible ≡ true
possible-not_refused s possible is = go s.fault refl is
  where
    by : (b : Bool) → (let r : Option ClientFault = cond b None (Some faults.State) in r) ≡ None → b ≡ true
    by true e = refl
    by false e = cc

    go : (o : Option ClientFault) → s.fault ≡ o
        → (let r : Option ClientFault =
        elim o [ Some fault ↦ Some fault | None ↦ cond possible None (Some faults.State) ] in r) ≡ None
        → possible ≡ true
    go (Some fault) e is = cc
    go None e is = by possible is

free-none : (o : Option Awaiting) → is_none o ≡ true → o ≡ None
free-none None e = refl
free-none (Some w) e = cc

-- A request, by whether it is refused.
asks-unless : (s : State) (what : Option Awaited) (o : Option ClientFault) (w : Awaited) (f : Frame) (connection_state : ConnectionState)
    → what ≡ Some w → (o ≡ None → s.awaiting ≡ None) → f.header.context ≡ le 8 (next_number s)
    → IsAction s what (lent_in (unless o (Ok (lending f (record (awaiting w s) { connection_state = connection_state })))))
    (after_lending s (unless o (Ok (lending f (record (awaiting w s) { connection_state = connection_state })))))
asks-unless s what None w f connection_state is free numbered = Asks w f connection_state is (free refl) numbered
asks-unless s what (Some fault) w f connection_state is free numbered = Stays

sends-unless : (s : State) (o : Option ClientFault) (f : Frame) (registration : Registration) (connection_state : ConnectionState)
    → IsAction s None (lent_in (unless o (Ok (lending f (record s { registration = registration; connection_state = connection_state })))))
    (after_lending s (unless o (Ok (lending f (record s { registration = registration; connection_state = connection_state })))))
sends-unless s None f registration connection_state = Sends (Some f) registration connection_state s.originator refl
sends-unless s (Some fault) f registration connection_state = Stays

is-free : (s : State) (more : Bool) → refusal s (more && is_free s) ≡ None → s.awaiting ≡ None
is-free s more is =
    free-none s.awaiting ((and_parts more (is_free s) (possible-not_refused s (more && is_free s) is)).1)

is-free-first : (s : State) (before more : Bool) → refusal s (before && is_free s && more) ≡ None → s.awaiting ≡ None
is-free-first s before more is =
    free-none s.awaiting (parts before (is_free s) more (possible-not_refused s (before && is_free s && more) is))
  where
    parts : (x y z : Bool) → (x && y && z) ≡ true → y ≡ true
    parts true true z e = refl
    parts true false z e = e
    parts false true z e = refl
    parts false false z e = e

unconnected-action : (s : State) (request : List ℕ)
    → IsAction s (Some (awaited.Reply (slice_index request 0))) (lent_in (asks s request)) (after_lending s (asks s request))
unconnected-action s request = go (refusal s (can_ask s)) refl (is_unconnected request)
  where
    go : (o : Option ClientFault) → refusal s (can_ask s) ≡ o → (b : Bool)
        → IsAction s (Some (awaited.Reply (slice_index request 0)))
        (lent_in (unless o
        (cond b (Ok (asking s (awaited.Reply (slice_index request 0)) request)) (Err faults.Request))))
        (after_lending s
        (unless o (cond b (Ok (asking s (awaited.Reply (slice_index request 0)) request)) (Err faults.Request))))
    go None is true = Asks _ _ s.connection_state refl (is-free s (is_registered s.registration) is) refl
    go None is false = Stays
    go (Some fault) is b = Stays

pub is-action : (s : State) (a : Action) → IsAction s (awaited_by a) (frame_lent s a) (after_action s a)
is-action s Register =
    asks-unless s (Some awaited.Session) (refusal s (can_register s)) awaited.Session _ s.connection_state refl
    (is-free s (is_not_registered s.registration)) refl
is-action s Open =
    asks-unless s (Some awaited.Connection) (refusal s (can_open s)) awaited.Connection _ s.connection_state refl
    (is-free-first s (is_registered s.registration) (is_not_opened s.connection_state)) refl
is-action s (Unconnected request) = unconnected-action s request
is-action s (Submit request) = go (refusal s (can_submit s))
  where
    by : (o : Option Refused)
        → IsAction s None (lent_in (submitted s request o)) (after_lending s (submitted s request o))
    by None = Sends _ s.registration s.connection_state (with_next_request s.originator request) refl
    by (Some why) = Stays

    go : (o : Option ClientFault)
        → IsAction s None (lent_in (submits_unless s request o)) (after_lending s (submits_unless s request o))
    go None = by (submit_refusal s.originator request)
    go (Some fault) = Stays
is-action s Resend = Sends _ s.registration s.connection_state s.originator refl
is-action s GiveUp = go (is_connected s)
  where
    go : (b : Bool) → IsAction s None None (cond b (record s { originator = after_give_up s.originator }) s)
    go true = Sends None s.registration s.connection_state (after_give_up s.originator) refl
    go false = Stays
is-action s Close =
    asks-unless s (Some awaited.End) (refusal s (can_close s)) awaited.End _ Closed refl
    (is-free s (is_open s.connection_state)) refl
is-action s (OpenOver route) =
    asks-unless s (Some awaited.Connection) (refusal s (can_open s)) awaited.Connection _ s.connection_state refl
    (is-free-first s (is_registered s.registration) (is_not_opened s.connection_state)) refl
is-action s (UnconnectedOver [] request) = unconnected-action s request
is-action s (UnconnectedOver (byte ∷ route) request) =
    go (refusal s (can_ask s)) refl
    (is_unconnected request && nat_le (length (send_request (byte ∷ route) request)) UNCONNECTED_LIMIT)
  where
    go : (o : Option ClientFault) → refusal s (can_ask s) ≡ o → (b : Bool)
        → IsAction s (awaited_by (UnconnectedOver (byte ∷ route) request))
        (lent_in (unless o
        (cond b (Ok (asking s (awaited.Routed (slice_index request 0)) (send_request (byte ∷ route) request)))
        (Err faults.Request))))
        (after_lending s
        (unless o
        (cond b (Ok (asking s (awaited.Routed (slice_index request 0)) (send_request (byte ∷ route) request)))
        (Err faults.Request))))
    go None is true = Asks _ _ s.connection_state refl (is-free s (is_registered s.registration) is) refl
    go None is false = Stays
    go (Some fault) is b = Stays
is-action s (CloseOver route) =
    asks-unless s (Some awaited.End) (refusal s (can_close s)) awaited.End _ Closed refl
    (is-free s (is_open s.connection_state)) refl
is-action s Unregister =
    sends-unless s (refusal s (can_ask s)) (unregister_frame (session_in s.registration)) Unregistered (ended s.connection_state)
