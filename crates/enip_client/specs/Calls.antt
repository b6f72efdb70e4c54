-- The calls that lend a frame to send: when each is possible, its frame, and the client after it.
use Rattle.std.specs.Prelude.{ℕ, ◌+◌, ◌%◌, ◌^◌, ◌&&◌, nat_le, nat_lt, if◌then◌else◌, Bool, false, List, [], ◌∷◌, length}
use Rattle.std.specs.Prelude.{slice_index, Option, Some, None, option_map, Result, Ok, Err}
use Rattle.cip_class3.specs.Item.{item}
use Rattle.cip_class3.specs.OriginatorRule.{submit_refusal, with_next_request, waiting_item, is_waiting}
use Rattle.cip_class3.specs.OriginatorRule.{after_give_up, stage_of}
use Rattle.cip_class3.specs.declared.originator.Refused.{Refused}
use Rattle.cip_class3.specs.declared.originator.Stage.{Stage}
use Rattle.std.specs.Borrow.{Bor}
use Rattle.cip_bytes.specs.Reading.{map_ok}
use Rattle.cip_bytes.specs.declared.protocol.TheConstants.{SMALLEST_REQUEST, UNCONNECTED_LIMIT}
use Rattle.enip_wire.specs.Frames.{Frame, frame}
use Rattle.enip_client.specs.declared.fault.ClientFault.{ClientFault}
use Rattle.enip_client.specs.declared.fault.ClientFault.TheVariants as faults
use Rattle.enip_client.specs.declared.fault.SubmitFault.{SubmitFault}
use Rattle.enip_client.specs.declared.fault.SubmitFault.TheVariants as submit_faults
use Rattle.enip_client.specs.declared.state.Awaited.{Awaited}
use Rattle.enip_client.specs.declared.state.Awaited.TheVariants.{Session, Connection, Reply, Routed, End}
use Rattle.enip_client.specs.declared.state.ConnectionState.TheVariants.{Closed}
use Rattle.enip_client.specs.declared.state.Registration.TheVariants.{Unregistered}
use Rattle.enip_client.specs.declared.state.State.{State}
use Rattle.enip_client.specs.Frames.{register_frame, unregister_frame, request_frame, item_frame, open_request}
use Rattle.enip_client.specs.Frames.{close_request, open_request_over, close_request_over, send_request}
use Rattle.enip_client.specs.State.{is_not_registered, is_registered, session_in, is_not_opened, is_open}
use Rattle.enip_client.specs.State.{o_to_t_id_in, ended, is_free}

-- When each call is possible.
--
-- | call       | session        | awaited | connection |
-- |------------|----------------|---------|------------|
-- | register   | not yet        | nothing |            |
-- | open       | registered     | nothing | not yet    |
-- | unconnected| registered     | nothing |            |
-- | submit     |                |         | open       |
-- | close      |                | nothing | open       |
-- | unregister | registered     | nothing |            |
abbrev pub can_register : State → Bool
can_register s = is_not_registered s.registration && is_free s

abbrev pub can_open : State → Bool
can_open s = is_registered s.registration && is_free s && is_not_opened s.connection_state

abbrev pub can_ask : State → Bool
can_ask s = is_registered s.registration && is_free s

abbrev pub can_submit : State → Bool
can_submit s = is_open s.connection_state

abbrev pub can_close : State → Bool
can_close s = is_open s.connection_state && is_free s

-- A lasting fault is reported again. Otherwise a call that is not possible now is `State`.
abbrev pub refusal : State → Bool → Option ClientFault
refusal s possible = elim s.fault [ Some fault ↦ Some fault | None ↦ if possible then None else Some faults.State ]

abbrev pub unless : {A : Type 0} → Option ClientFault → Result A ClientFault → Result A ClientFault
unless (Some fault) lent = Err fault
unless None lent = lent

-- A frame that is lent, and the client after the call.
pub record Lent : Type 0 where
  pub frame : Frame
  pub state : State

abbrev pub lending : Frame → State → Lent
lending f s = record { frame = f; state = s }

-- The number of the next frame that is counted. The frames of register, open, unconnected and close are counted, from
-- 1.
abbrev pub next_number : State → ℕ
next_number s = (s.frames + 1) % 2 ^ 64

-- Such a frame was sent, and this reply is awaited.
abbrev pub awaiting : Awaited → State → State
awaiting awaited s =
    record s { awaiting = Some (record { number = next_number s; awaited = awaited }); frames = next_number s }

-- A request to the message router was sent.
abbrev pub asking : State → Awaited → List ℕ → Lent
asking s awaited request =
    lending (request_frame (session_in s.registration) (next_number s) request) (awaiting awaited s)

abbrev pub registers : State → Result Lent ClientFault
registers s = unless (refusal s (can_register s)) (Ok (lending (register_frame (next_number s)) (awaiting Session s)))

abbrev pub opens : State → Result Lent ClientFault
opens s = unless (refusal s (can_open s)) (Ok (asking s Connection (open_request s.wants)))

-- An unconnected request has 2 to 504 bytes, and a service without bit 7.
abbrev pub is_unconnected : List ℕ → Bool
is_unconnected request =
    nat_le SMALLEST_REQUEST (length request) && nat_le (length request) UNCONNECTED_LIMIT
    && nat_lt (slice_index request 0) 128

abbrev pub asks : State → List ℕ → Result Lent ClientFault
asks s request =
    unless (refusal s (can_ask s))
    (if is_unconnected request then Ok (asking s (Reply (slice_index request 0)) request) else Err faults.Request)

-- The connection is over once close is called.
abbrev pub closes : State → Result Lent ClientFault
closes s = unless (refusal s (can_close s)) (Ok (asking (record s { connection_state = Closed }) End (close_request s.wants)))

-- The same over a route: the segments of its hops, which are empty without a route. An Unconnected_Send takes the
-- request to the first router, and is at most 504 bytes as well.
abbrev pub opens_over : List ℕ → State → Result Lent ClientFault
opens_over route s = unless (refusal s (can_open s)) (Ok (asking s Connection (open_request_over route s.wants)))

abbrev pub asks_routed : List ℕ → State → List ℕ → Result Lent ClientFault
asks_routed route s request =
    unless (refusal s (can_ask s))
    (if is_unconnected request && nat_le (length (send_request route request)) UNCONNECTED_LIMIT
    then Ok (asking s (Routed (slice_index request 0)) (send_request route request))
    else Err faults.Request)

abbrev pub asks_over : List ℕ → State → List ℕ → Result Lent ClientFault
asks_over [] s request = asks s request
asks_over (byte ∷ route) s request = asks_routed (byte ∷ route) s request

abbrev pub closes_over : List ℕ → State → Result Lent ClientFault
closes_over route s =
    unless (refusal s (can_close s))
    (Ok (asking (record s { connection_state = Closed }) End (close_request_over route s.wants)))

-- The session is over once unregister is called, and the connection with it.
abbrev pub unregisters : State → Result Lent ClientFault
unregisters s =
    unless (refusal s (can_ask s))
    (Ok (lending (unregister_frame (session_in s.registration))
    (record s { registration = Unregistered; connection_state = ended s.connection_state })))

-- A frame with an item of the connection.
abbrev pub item_sent : State → List ℕ → Frame
item_sent s bytes = item_frame (session_in s.registration) (o_to_t_id_in s.connection_state) bytes

abbrev pub submitted : State → List ℕ → Option Refused → Result Lent SubmitFault
submitted s request (Some why) = Err (submit_faults.Refused why)
submitted s request None =
    Ok (lending (item_sent s (item s.originator.next request))
    (record s { originator = with_next_request s.originator request }))

abbrev pub submits_unless : State → List ℕ → Option ClientFault → Result Lent SubmitFault
submits_unless s request (Some fault) = Err (submit_faults.Client fault)
submits_unless s request None = submitted s request (submit_refusal s.originator request)

abbrev pub submits : State → List ℕ → Result Lent SubmitFault
submits s request = submits_unless s request (refusal s (can_submit s))

-- The client has no lasting fault, and an open connection.
abbrev pub is_connected : State → Bool
is_connected s = elim s.fault [ Some fault ↦ false | None ↦ is_open s.connection_state ]

-- The frame of the waiting request, once more.
abbrev pub resends : State → Option Frame
resends s = if is_connected s then option_map (item_sent s) (waiting_item s.originator.phase) else None

-- Whether a request waited, which is then given up; and the client after it.
abbrev pub gives_up : State → Bool
gives_up s = is_connected s && is_waiting s.originator.phase

abbrev pub after_giving_up : State → State
after_giving_up s = if is_connected s then record s { originator = after_give_up s.originator } else s

-- The stage of the connection's originator, if a connection is open.
abbrev pub stage_in : State → Option Stage
stage_in s = if is_open s.connection_state then Some (stage_of s.originator.phase) else None

-- The client after a call that lends a frame. A call that is refused changes nothing.
abbrev pub after_lending : {E : Type 0} → State → Result Lent E → State
after_lending s (Ok lent) = lent.state
after_lending s (Err fault) = s

-- The bytes of the frame that is lent.
abbrev pub bytes_lent : {E : Type 0} → Result Lent E → Result (List ℕ) E
bytes_lent lent = map_ok (λ l. frame l.frame) lent

-- The bytes that a call returned.
abbrev pub bytes_in : {E : Type 0} → Result (Bor (List ℕ)) E → Result (List ℕ) E
bytes_in result = map_ok (λ b. b.now) result
