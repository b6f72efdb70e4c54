-- Lists of calls of a client.
use Rattle.std.specs.Prelude.{◌≡◌, ℕ, ◌+◌, ◌%◌, ◌^◌, ◌==◌, if◌then◌else◌, ⊤, Option, Some, None, Result, Ok, Err}
use Rattle.std.specs.Prelude.{List, [], ◌∷◌, ◌++◌, take, drop, slice_index}
use Rattle.cip_bytes.specs.Numbers.{le, AreBytes}
use Rattle.cip_message.specs.Reply.{reply_service}
use Rattle.cip_class3.specs.Item.{item}
use Rattle.cip_class3.specs.OriginatorRule.{OriginatorState}
use Rattle.cip_class3.specs.Calls as originators
use Rattle.enip_wire.specs.Bodies.{unit_body_of}
use Rattle.enip_wire.specs.Frames.{Frame}
use Rattle.enip_wire.specs.Stream.{Parsed, held_and_taken, parsed}
use Rattle.enip_wire.specs.Stream.Parsed.{Incomplete, WholeFrame, TooLongHeader}
use Rattle.enip_wire.specs.declared.header.Header.{Header}
use Rattle.enip_wire.specs.declared.item_list.CpfFault.{CpfFault}
use Rattle.enip_client.specs.declared.fault.ClientFault.{ClientFault}
use Rattle.enip_client.specs.declared.fault.ClientFault.TheVariants as faults
use Rattle.enip_client.specs.declared.state.Awaited.{Awaited}
use Rattle.enip_client.specs.declared.state.Awaited.TheVariants as awaited
use Rattle.enip_client.specs.declared.state.State.{State}
use Rattle.enip_client.specs.Frames.{item_frame}
use Rattle.enip_client.specs.Calls.{Lent, registers, opens, asks, submits, resends, closes, unregisters}
use Rattle.enip_client.specs.Calls.{after_giving_up, opens_over, asks_over, closes_over}
use Rattle.enip_client.specs.Calls.{after_lending, is_connected}
use Rattle.enip_client.specs.Hears.{HeardEvent, hears, faulted, is_for_connection}
use Rattle.enip_client.specs.Hears.HeardEvent.{Nothing, Registered, Opened, Replied, Accepted, Refused, Closed}
use Rattle.enip_client.specs.Client.{ClientState, fed, with_state}

-- A call that passes no piece.
pub data Action : Type 0 where
  Register : Action
  Open : Action
  Unconnected : (request : List ℕ) → Action
  Submit : (request : List ℕ) → Action
  Resend : Action
  GiveUp : Action
  Close : Action
  Unregister : Action
  OpenOver : (route : List ℕ) → Action
  UnconnectedOver : (route request : List ℕ) → Action
  CloseOver : (route : List ℕ) → Action

-- A call of a client.
pub data Call : Type 0 where
  Act : (action : Action) → Call
  Feed : (piece : List ℕ) → Call

-- The frame that was lent, if any.
abbrev pub lent_in : {E : Type 0} → Result Lent E → Option Frame
lent_in (Ok lent) = Some lent.frame
lent_in (Err fault) = None

-- The frame that a call lends.
abbrev pub frame_lent : State → Action → Option Frame
frame_lent s Register = lent_in (registers s)
frame_lent s Open = lent_in (opens s)
frame_lent s (Unconnected request) = lent_in (asks s request)
frame_lent s (Submit request) = lent_in (submits s request)
frame_lent s Resend = resends s
frame_lent s GiveUp = None
frame_lent s Close = lent_in (closes s)
frame_lent s Unregister = lent_in (unregisters s)
frame_lent s (OpenOver route) = lent_in (opens_over route s)
frame_lent s (UnconnectedOver route request) = lent_in (asks_over route s request)
frame_lent s (CloseOver route) = lent_in (closes_over route s)

-- The state of the client after it.
abbrev pub after_action : State → Action → State
after_action s Register = after_lending s (registers s)
after_action s Open = after_lending s (opens s)
after_action s (Unconnected request) = after_lending s (asks s request)
after_action s (Submit request) = after_lending s (submits s request)
after_action s Resend = s
after_action s GiveUp = after_giving_up s
after_action s Close = after_lending s (closes s)
after_action s Unregister = after_lending s (unregisters s)
after_action s (OpenOver route) = after_lending s (opens_over route s)
after_action s (UnconnectedOver route request) = after_lending s (asks_over route s request)
after_action s (CloseOver route) = after_lending s (closes_over route s)

-- The client after a call, the frame that the call lends, and what it hears.
abbrev pub after_call : ClientState → Call → ClientState
after_call c (Act action) = with_state c (after_action c.state action)
after_call c (Feed piece) = (fed c piece).client

abbrev pub lent_by_call : ClientState → Call → Option Frame
lent_by_call c (Act action) = frame_lent c.state action
lent_by_call c (Feed piece) = None

abbrev pub heard_events_of_call : ClientState → Call → HeardEvent
heard_events_of_call c (Act action) = Nothing
heard_events_of_call c (Feed piece) = (fed c piece).heard_event

-- The client after calls, one after the other.
abbrev pub after_calls : ClientState → List Call → ClientState
after_calls c [] = c
after_calls c (call ∷ calls) = after_calls (after_call c call) calls

abbrev pub frame_before : Option Frame → List Frame → List Frame
frame_before None more = more
frame_before (Some f) more = f ∷ more

-- The frames that calls lend.
abbrev pub frames_lent : ClientState → List Call → List Frame
frames_lent c [] = []
frames_lent c (call ∷ calls) = frame_before (lent_by_call c call) (frames_lent (after_call c call) calls)

-- A heard event before others. If nothing was heard, it is left out.
abbrev pub heard_events_before : HeardEvent → List HeardEvent → List HeardEvent
heard_events_before Nothing more = more
heard_events_before Registered more = Registered ∷ more
heard_events_before Opened more = Opened ∷ more
heard_events_before (Replied bytes) more = Replied bytes ∷ more
heard_events_before (Accepted bytes) more = Accepted bytes ∷ more
heard_events_before (Refused status extended) more = Refused status extended ∷ more
heard_events_before Closed more = Closed ∷ more

abbrev pub heard_in : List HeardEvent → List HeardEvent
heard_in [] = []
heard_in (heard_event ∷ more) = heard_events_before heard_event (heard_in more)

-- What calls hear.
abbrev pub heard_events_of_calls : ClientState → List Call → List HeardEvent
heard_events_of_calls c [] = []
heard_events_of_calls c (call ∷ calls) = heard_events_before (heard_events_of_call c call) (heard_events_of_calls (after_call c call) calls)

-- What happens to a client: a call that passes no piece, a whole frame, or a header whose length is over the limit.
pub data Event : Type 0 where
  Acted : (action : Action) → Event
  Framed : (f : Frame) → Event
  Long : (header : Header) → Event

-- The state of a client after an event, the frame that is lent, and what is heard.
abbrev pub after_event : State → Event → State
after_event s (Acted action) = after_action s action
after_event s (Framed f) = (hears s f).state
after_event s (Long header) = (faulted s faults.TooLong).state

abbrev pub lent_by_event : State → Event → Option Frame
lent_by_event s (Acted action) = frame_lent s action
lent_by_event s (Framed f) = None
lent_by_event s (Long header) = None

abbrev pub heard_events_of_event : State → Event → HeardEvent
heard_events_of_event s (Acted action) = Nothing
heard_events_of_event s (Framed f) = (hears s f).heard_event
heard_events_of_event s (Long header) = Nothing

-- The same for events, one after the other.
abbrev pub after_events : State → List Event → State
after_events s [] = s
after_events s (event ∷ events) = after_events (after_event s event) events

abbrev pub lent_by_events : State → List Event → List Frame
lent_by_events s [] = []
lent_by_events s (event ∷ events) = frame_before (lent_by_event s event) (lent_by_events (after_event s event) events)

abbrev pub heard_events_of_events : State → List Event → List HeardEvent
heard_events_of_events s [] = []
heard_events_of_events s (event ∷ events) = heard_events_before (heard_events_of_event s event) (heard_events_of_events (after_event s event) events)

-- The event, if any, that the bytes are.
abbrev pub events_of_parsed : Parsed → List Event
events_of_parsed Incomplete = []
events_of_parsed (WholeFrame f) = Framed f ∷ []
events_of_parsed (TooLongHeader header) = Long header ∷ []

-- Once a fault lasts, a piece is not an event.
abbrev pub events_of_piece : List ℕ → List ℕ → Option ClientFault → List Event
events_of_piece held piece None = events_of_parsed (parsed (held_and_taken held piece))
events_of_piece held piece (Some fault) = []

-- The events that a call amounts to.
abbrev pub events_of_call : ClientState → Call → List Event
events_of_call c (Act action) = Acted action ∷ []
events_of_call c (Feed piece) = events_of_piece c.held piece c.state.fault

abbrev pub events_of_calls : ClientState → List Call → List Event
events_of_calls c [] = []
events_of_calls c (call ∷ calls) = events_of_call c call ++ events_of_calls (after_call c call) calls

-- The whole frames among events.
abbrev pub frames_of_events : List Event → List Frame
frames_of_events [] = []
frames_of_events (Acted action ∷ events) = frames_of_events events
frames_of_events (Framed f ∷ events) = f ∷ frames_of_events events
frames_of_events (Long header ∷ events) = frames_of_events events

-- The bytes that a call takes of the stream.
abbrev pub taken_by_call : ClientState → Call → List ℕ
taken_by_call c (Act action) = []
taken_by_call c (Feed piece) = take (fed c piece).taken piece

-- The bytes that calls take of it, joined.
abbrev pub taken_by_calls : ClientState → List Call → List ℕ
taken_by_calls c [] = []
taken_by_calls c (call ∷ calls) = taken_by_call c call ++ taken_by_calls (after_call c call) calls

-- The pieces consist of bytes.
abbrev pub IsOfBytes : Call → Type 0
IsOfBytes (Act action) = ⊤
IsOfBytes (Feed piece) = AreBytes piece

-- The pieces of a stream are fed, each until all of it is taken. Once a fault lasts, the rest is dropped. The indices
-- are what is heard, and the last client.
pub data FeedsPieces : ClientState → List (List ℕ) → List HeardEvent → ClientState → Type 0 where
  Ended : {c : ClientState} → FeedsPieces c [] [] c
  Taken : {c last : ClientState} {pieces : List (List ℕ)} {heard_event : List HeardEvent}
      → FeedsPieces c pieces heard_event last → FeedsPieces c ([] ∷ pieces) heard_event last
  Continued : {c last : ClientState} {b : ℕ} {bs : List ℕ} {pieces : List (List ℕ)} {heard_event : List HeardEvent}
      → c.state.fault ≡ None
      → FeedsPieces (fed c (b ∷ bs)).client (drop (fed c (b ∷ bs)).taken (b ∷ bs) ∷ pieces) heard_event last
      → FeedsPieces c ((b ∷ bs) ∷ pieces) ((fed c (b ∷ bs)).heard_event ∷ heard_event) last
  Dropped : {c : ClientState} {fault : ClientFault} {b : ℕ} {bs : List ℕ} {pieces : List (List ℕ)}
      → c.state.fault ≡ Some fault → FeedsPieces c ((b ∷ bs) ∷ pieces) [] c

-- Which reply a call awaits once its frame is lent.
abbrev pub awaited_by : Action → Option Awaited
awaited_by Register = Some awaited.Session
awaited_by Open = Some awaited.Connection
awaited_by (Unconnected request) = Some (awaited.Reply (slice_index request 0))
awaited_by (Submit request) = None
awaited_by Resend = None
awaited_by GiveUp = None
awaited_by Close = Some awaited.End
awaited_by Unregister = None
awaited_by (OpenOver route) = Some awaited.Connection
awaited_by (UnconnectedOver [] request) = Some (awaited.Reply (slice_index request 0))
awaited_by (UnconnectedOver (byte ∷ route) request) = Some (awaited.Routed (slice_index request 0))
awaited_by (CloseOver route) = Some awaited.End

-- The context of a frame whose reply is awaited, before others.
abbrev pub context_before : Option Awaited → Option Frame → List (List ℕ) → List (List ℕ)
context_before None lent more = more
context_before (Some what) None more = more
context_before (Some what) (Some f) more = f.header.context ∷ more

-- The contexts of the frames that register, open, unconnected and close lend.
abbrev pub contexts_lent : ClientState → List Call → List (List ℕ)
contexts_lent c [] = []
contexts_lent c (Act action ∷ calls) =
    context_before (awaited_by action) (frame_lent c.state action) (contexts_lent (after_call c (Act action)) calls)
contexts_lent c (Feed piece ∷ calls) = contexts_lent (after_call c (Feed piece)) calls

-- They are the numbers from n on, modulo 2^64, each in eight bytes.
abbrev pub CountFrom : ℕ → List (List ℕ) → Type 0
CountFrom n [] = ⊤
CountFrom n (context ∷ contexts) = (context ≡ le 8 (n % 2 ^ 64)) × CountFrom (n + 1) contexts

-- What can be seen of a client and its replies: a frame was lent whose reply is awaited, or such a reply was heard.
pub data Seen : Type 0 where
  Asked : (what : Awaited) → Seen
  Answered : (heard_event : HeardEvent) → Seen

abbrev pub asked_before : Option Awaited → Option Frame → List Seen → List Seen
asked_before None lent more = more
asked_before (Some what) None more = more
asked_before (Some what) (Some f) more = Asked what ∷ more

abbrev pub answered_before : HeardEvent → List Seen → List Seen
answered_before Nothing more = more
answered_before Registered more = Answered Registered ∷ more
answered_before Opened more = Answered Opened ∷ more
answered_before (Replied bytes) more = Answered (Replied bytes) ∷ more
answered_before (Accepted bytes) more = more
answered_before (Refused status extended) more = Answered (Refused status extended) ∷ more
answered_before Closed more = Answered Closed ∷ more

-- What is seen of calls, in order.
abbrev pub seen_of_calls : ClientState → List Call → List Seen
seen_of_calls c [] = []
seen_of_calls c (Act action ∷ calls) =
    asked_before (awaited_by action) (frame_lent c.state action) (seen_of_calls (after_call c (Act action)) calls)
seen_of_calls c (Feed piece ∷ calls) =
    answered_before (fed c piece).heard_event (seen_of_calls (after_call c (Feed piece)) calls)

-- The heard event is a reply to what was awaited. The reply to a request has the service of that request, with bit 7
-- set. Over a route, a router may refuse in its place.
abbrev pub IsReplyTo : Awaited → HeardEvent → Type 0
IsReplyTo awaited.Session Registered = ⊤
IsReplyTo awaited.Connection Opened = ⊤
IsReplyTo awaited.Connection (Refused status extended) = ⊤
IsReplyTo (awaited.Reply service) (Replied bytes) = slice_index bytes 0 ≡ reply_service service
IsReplyTo (awaited.Routed service) (Replied bytes) = slice_index bytes 0 ≡ reply_service service
IsReplyTo (awaited.Routed service) (Refused status extended) = ⊤
IsReplyTo awaited.End Closed = ⊤
IsReplyTo awaited.End (Refused status extended) = ⊤
IsReplyTo what heard_event = ⊥

-- Each reply follows its own request, with no other between them: no reply is heard without a request or twice, and
-- nothing is requested while a reply is awaited.
abbrev pub AnsweredOnce : List Seen → Type 0
AnsweredOnce [] = ⊤
AnsweredOnce (Answered heard_event ∷ seen) = ⊥
AnsweredOnce (Asked what ∷ []) = ⊤
AnsweredOnce (Asked what ∷ Answered heard_event ∷ seen) = IsReplyTo what heard_event × AnsweredOnce seen
AnsweredOnce (Asked what ∷ Asked more ∷ seen) = ⊥

-- The item in a body for the client's connection.
abbrev pub item_of : State → Result (ℕ × List ℕ) CpfFault → Option (List ℕ)
item_of s (Err fault) = None
item_of s (Ok (id, item)) = if id == s.wants.t_to_o_id then Some item else None

-- The item in a frame for it.
abbrev pub item_in : State → Frame → Option (List ℕ)
item_in s f = if is_for_connection s f.header then item_of s (unit_body_of f.body) else None

-- What an event is to the connection's originator: one of its calls, or none.
abbrev pub call_where_connected : State → originators.OriginatorCall → Option originators.OriginatorCall
call_where_connected s call = if is_connected s then Some call else None

abbrev pub call_of_action : State → Action → Option originators.OriginatorCall
call_of_action s Register = None
call_of_action s Open = None
call_of_action s (Unconnected request) = None
call_of_action s (Submit request) = call_where_connected s (originators.Submit request)
call_of_action s Resend = call_where_connected s originators.Resend
call_of_action s GiveUp = call_where_connected s originators.GiveUp
call_of_action s Close = None
call_of_action s Unregister = None
call_of_action s (OpenOver route) = None
call_of_action s (UnconnectedOver route request) = None
call_of_action s (CloseOver route) = None

abbrev pub call_of_item : Option (List ℕ) → Option originators.OriginatorCall
call_of_item None = None
call_of_item (Some item) = Some (originators.Receive item)

abbrev pub call_of_event : State → Event → Option originators.OriginatorCall
call_of_event s (Acted action) = call_of_action s action
call_of_event s (Framed f) = call_of_item (item_in s f)
call_of_event s (Long header) = None

abbrev pub call_before : Option originators.OriginatorCall → List originators.OriginatorCall → List originators.OriginatorCall
call_before None more = more
call_before (Some call) more = call ∷ more

-- The calls of the connection's originator among events.
abbrev pub originator_calls : State → List Event → List originators.OriginatorCall
originator_calls s [] = []
originator_calls s (event ∷ events) =
    call_before (call_of_event s event) (originator_calls (after_event s event) events)

-- An originator after calls of its own.
abbrev pub originator_after : OriginatorState → List originators.OriginatorCall → OriginatorState
originator_after originator [] = originator
originator_after originator (call ∷ calls) = originator_after (originators.after_call originator call) calls

-- The frames that submit lends.
abbrev pub frames_submitted : ClientState → List Call → List Frame
frames_submitted c [] = []
frames_submitted c (Act (Submit request) ∷ calls) =
    frame_before (frame_lent c.state (Submit request)) (frames_submitted (after_call c (Act (Submit request))) calls)
frames_submitted c (call ∷ calls) = frames_submitted (after_call c call) calls

-- Each frame has an item of the connection, with the counts from n on, modulo 65,536.
abbrev pub HasItem : ℕ → Frame → Type 0
HasItem count f = (session : ℕ) × (id : ℕ) × (request : List ℕ) × (f ≡ item_frame session id (item count request))

abbrev pub ItemsFrom : ℕ → List Frame → Type 0
ItemsFrom n [] = ⊤
ItemsFrom n (f ∷ frames) = HasItem (n % 2 ^ 16) f × ItemsFrom (n + 1) frames

-- What can be seen of the connection: a request was submitted, or a reply accepted.
pub data Exchange : Type 0 where
  Requested : (request : List ℕ) → Exchange
  Heard : (reply : List ℕ) → Exchange

abbrev pub requested_before : Option Frame → List ℕ → List Exchange → List Exchange
requested_before None request more = more
requested_before (Some f) request more = Requested request ∷ more

abbrev pub heard_before : HeardEvent → List Exchange → List Exchange
heard_before Nothing more = more
heard_before Registered more = more
heard_before Opened more = more
heard_before (Replied bytes) more = more
heard_before (Accepted bytes) more = Heard bytes ∷ more
heard_before (Refused status extended) more = more
heard_before Closed more = more

-- What is seen of the connection, in order.
abbrev pub exchanges : ClientState → List Call → List Exchange
exchanges c [] = []
exchanges c (Act (Submit request) ∷ calls) =
    requested_before (frame_lent c.state (Submit request)) request
    (exchanges (after_call c (Act (Submit request))) calls)
exchanges c (Act action ∷ calls) = exchanges (after_call c (Act action)) calls
exchanges c (Feed piece ∷ calls) = heard_before (fed c piece).heard_event (exchanges (after_call c (Feed piece)) calls)

-- The reply has the service of the request, with bit 7 set.
abbrev pub IsReplyOf : List ℕ → List ℕ → Type 0
IsReplyOf request reply = slice_index reply 0 ≡ reply_service (slice_index request 0)

-- Each accepted reply is to the request that was submitted last before it, and no other is accepted before the next
-- request is submitted.
abbrev pub RepliedOnce : List Exchange → Type 0
RepliedOnce [] = ⊤
RepliedOnce (Heard reply ∷ more) = ⊥
RepliedOnce (Requested request ∷ []) = ⊤
RepliedOnce (Requested request ∷ Heard reply ∷ more) = IsReplyOf request reply × RepliedOnce more
RepliedOnce (Requested request ∷ Requested next ∷ more) = RepliedOnce (Requested next ∷ more)
