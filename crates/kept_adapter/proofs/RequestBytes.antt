-- The requests that reach a device consist of bytes if what its peers send does.
use Rattle.std.proofs.Common.{◌≡◌, ℕ, zero, suc, ◌+◌, ◌==◌, ◌&&◌, nat_lt, not, Bool, true, false, if◌then◌else◌, Option}
use Rattle.std.proofs.Common.{Some}
use Rattle.std.proofs.Common.{None, List, [], ◌∷◌, ◌++◌, map, length, take, drop, Result, Ok, Err, refl, sym, subst}
use Rattle.std.proofs.Common.{lit<, ap, ◌∙◌}
use Rattle.std.specs.Prelude.{⊤, find, option_map}
use Rattle.std.specs.List.{AllByRecursion}
use Rattle.cip_bytes.specs.Numbers.{number_at, AreBytes}
use Rattle.cip_bytes.specs.Protocol.{command_of}
use Rattle.cip_bytes.specs.Reading.{map_ok, ◌>>=◌}
use Rattle.cip_bytes.specs.declared.protocol.Command.{Command}
use Rattle.cip_bytes.specs.declared.protocol.Command.TheVariants.{SendRRData, SendUnitData}
use Rattle.cip_bytes.proofs.Bytes.{AreBytes-take, AreBytes-drop, AreBytes-append}
use Rattle.cip_class3.specs.Item.{sequence_count_of, message_of}
use Rattle.cip_class3.specs.TargetRule.{TargetState, has_accepted_size, is_held}
use Rattle.cip_ledger.specs.Runs.{Request}
use Rattle.cip_manager.specs.declared.connection.Connection.{Connection}
use Rattle.cip_manager.specs.Connection.{is_named}
use Rattle.enip_wire.specs.declared.item_list.CpfFault.{CpfFault}
use Rattle.enip_wire.specs.Bodies.{body_items_of, data_of, rr_items_of, unit_items_of, with_id, rr_body_of}
use Rattle.enip_wire.specs.Bodies.{unit_body_of}
use Rattle.enip_wire.specs.Frames.{Frame}
use Rattle.enip_wire.specs.Items.{Item, size_at, first_items, whole, items_of, after as bytes_after}
use Rattle.enip_wire.specs.Stream.{Parsed, bytes_taken, held_and_taken, parsed, cleared}
use Rattle.enip_wire.specs.Stream.Parsed.{Incomplete, WholeFrame, TooLongHeader}
use Rattle.enip_adapter.specs.declared.peer.Rights.{Rights}
use Rattle.enip_adapter.specs.declared.peer.Session.{Session}
use Rattle.enip_adapter.specs.Rights.{is_refused}
use Rattle.enip_adapter.specs.declared.shared.Shared.{Shared}
use Rattle.enip_adapter.specs.Calls.{AdapterState, Call, Held, Meaning, call_meaning, after_call, bytes_found}
use Rattle.enip_adapter.specs.Calls.{bytes_held}
use Rattle.enip_adapter.specs.Calls.{held_at_beginning, piece_to, piece_meaning, dropped_piece, events_of_parsed}
use Rattle.enip_adapter.specs.Calls.Call.{Begins_peer, Feeds, Ends_peer, Ticks, Writes}
use Rattle.enip_adapter.specs.DeviceRuns.{DeviceStep, Requested, steps_by_event, device_steps}
use Rattle.enip_adapter.specs.DeviceRuns.{steps_of_calls}
use Rattle.enip_adapter.specs.DeviceRuns.{requests_by_route, requests_in_rr, requests_by_target, requests_by_connection}
use Rattle.enip_adapter.specs.DeviceRuns.{requests_in_unit, requests_by_command, requests_in_frame, requests_by_session}
use Rattle.enip_adapter.specs.DeviceRuns.{requests_by_event}
use Rattle.enip_adapter.specs.Lookup.{first_with, with_first, without_first}
use Rattle.enip_adapter.specs.Replies.{is_registered_as}
use Rattle.enip_adapter.specs.Runs.{after_calls, events_of_calls}
use Rattle.enip_adapter.specs.SendRRData.{Route, Opens, Closes, Executes, route_of}
use Rattle.enip_adapter.specs.Turn.{State, Event, Output, turn, session_of}
use Rattle.enip_adapter.specs.Turn.Event.{Begin, End, At, Framed, Long, Written}
use Rattle.enip_adapter.specs.Turn.Output.{NoReply, Sends, Begins, Refuses}
use Rattle.enip_keep.specs.Lives.{Executed, Restarted}
use Rattle.kept_adapter.specs.Restarts.{LifeStep, Does, AdapterStep, steps_over_restarts, IsWriteOfBytes, IsOfBytes, IsStep}
use Rattle.kept_adapter.specs.Restarts.{FeedsBytes, HoldsBytes, IsHeldInBytes, IsAdapterStep}
use Rattle.kept_adapter.specs.Restarts.{Sizes, sizes_of, configured_sizes, slots_of, places_of, IsGoingOn, RestartsGoOn}
use Rattle.kept_adapter.specs.Restarts.{IsConfiguration}
use Rattle.kept_adapter.specs.RestartLaws.{GoOn}
use Rattle.kept_adapter.specs.Saved.{saved_adapter}
use Rattle.kept_adapter.specs.Started.{started, new_ledger, new_queue}
use Rattle.kept_adapter.specs.declared.adapter_start.AdapterStart.{AdapterStart}
use Rattle.kept_adapter.specs.declared.adapter_start.LedgerStart.{LedgerStart}
use Rattle.kept_adapter.proofs.QueueBack.{trusted_new}
use Rattle.kept_adapter.proofs.Restarted.{first_device}

-- ---- the data in a body

abbrev HasBytes : Item → Type 0
HasBytes item = AreBytes item.bytes

no_bytes : AreBytes []
no_bytes i = lit< tt

first_bytes : (n : ℕ) (text : List ℕ) → AreBytes text → AllByRecursion HasBytes (first_items n text)
first_bytes zero text fits = tt
first_bytes (suc n) text fits =
    by (nat_lt (length text) (size_at text))
    (first_bytes n (drop (size_at text) text) (AreBytes-drop (size_at text) text fits))
  where
    by : (short : Bool) → AllByRecursion HasBytes (first_items n (drop (size_at text) text))
        → AllByRecursion HasBytes (if short then [] else
        record { kind = number_at 0 2 text; bytes = take (number_at 2 2 text) (drop 4 text) }
        ∷ first_items n (drop (size_at text) text))
    by true more = tt
    by false more = (AreBytes-take (number_at 2 2 text) (drop 4 text) (AreBytes-drop 4 text fits), more)

same_ok : {A : Type 0} (x y : A) → ◌≡◌ {A = Result A CpfFault} (Ok x) (Ok y) → x ≡ y
same_ok x y e = cc

whole_bytes : (l made : List Item) (rest : Result (List ℕ) CpfFault) → AllByRecursion HasBytes l
    → whole l rest ≡ Ok made → AllByRecursion HasBytes made
whole_bytes l made (Ok []) all e = subst (AllByRecursion HasBytes) (same_ok l made e) all
whole_bytes l made (Ok (b ∷ rest)) all e = absurd (cc)
whole_bytes l made (Err fault) all e = absurd (cc)

items_bytes : (text : List ℕ) (made : List Item) → AreBytes text → items_of text ≡ Ok made
    → AllByRecursion HasBytes made
items_bytes text made fits e = by (nat_lt (length text) 2) _ e
  where
    by : (short : Bool) (fault : CpfFault) → (if short then Err fault else
        whole (first_items (number_at 0 2 text) (drop 2 text)) (bytes_after (number_at 0 2 text) (drop 2 text)))
        ≡ Ok made
        → AllByRecursion HasBytes made
    by true fault is = absurd (cc)
    by false fault is =
        whole_bytes (first_items (number_at 0 2 text) (drop 2 text)) made
        (bytes_after (number_at 0 2 text) (drop 2 text))
        (first_bytes (number_at 0 2 text) (drop 2 text) (AreBytes-drop 2 text fits)) is

body_bytes : (text : List ℕ) (made : List Item) → AreBytes text → body_items_of text ≡ Ok made
    → AllByRecursion HasBytes made
body_bytes text made fits e = by (nat_lt (length text) 6) (number_at 0 4 text == 0) _ _ e
  where
    by : (short right : Bool) (fault other : CpfFault) → (if short then Err fault
        else (if right then items_of (drop 6 text) else Err other)) ≡ Ok made → AllByRecursion HasBytes made
    by true right fault other is = absurd (cc)
    by false true fault other is = items_bytes (drop 6 text) made (AreBytes-drop 6 text fits) is
    by false false fault other is = absurd (cc)

data_bytes : (kind : ℕ) (l : List Item) (bytes : List ℕ) → AllByRecursion HasBytes l → data_of kind l ≡ Ok bytes
    → AreBytes bytes
data_bytes kind [] bytes all e = absurd (cc)
data_bytes kind (d ∷ further) bytes all e = by (d.kind == kind) _ e
  where
    by : (right : Bool) (fault : CpfFault) → (if right then Ok d.bytes else Err fault) ≡ Ok bytes → AreBytes bytes
    by true fault is = subst AreBytes (same_ok d.bytes bytes is) all.0
    by false fault is = absurd (cc)

rr_bytes : (l : List Item) (bytes : List ℕ) → AllByRecursion HasBytes l → rr_items_of l ≡ Ok bytes → AreBytes bytes
rr_bytes [] bytes all e = absurd (cc)
rr_bytes (a ∷ others) bytes all e = by ((a.kind == 0) && (length a.bytes == 0)) _ e
  where
    by : (right : Bool) (fault : CpfFault) → (if right then data_of 0xb2 others else Err fault) ≡ Ok bytes
        → AreBytes bytes
    by true fault is = data_bytes 0xb2 others bytes all.1 is
    by false fault is = absurd (cc)

with_id_bytes : (id : ℕ) (x : Result (List ℕ) CpfFault) (made : ℕ × List ℕ)
    → ((bytes : List ℕ) → x ≡ Ok bytes → AreBytes bytes) → map_ok (with_id id) x ≡ Ok made → AreBytes made.1
with_id_bytes id (Ok bytes) made fits e =
    subst (λ (p : ℕ × List ℕ). AreBytes p.1) (same_ok (id, bytes) made e) (fits bytes refl)
with_id_bytes id (Err fault) made fits e = absurd (cc)

unit_bytes : (l : List Item) (made : ℕ × List ℕ) → AllByRecursion HasBytes l → unit_items_of l ≡ Ok made
    → AreBytes made.1
unit_bytes [] made all e = absurd (cc)
unit_bytes (a ∷ others) made all e = by ((a.kind == 0xa1) && (length a.bytes == 4)) _ e
  where
    by : (right : Bool) (fault : CpfFault) → (if right then
        map_ok (with_id (number_at 0 4 a.bytes)) (data_of 0xb1 others) else Err fault) ≡ Ok made → AreBytes made.1
    by true fault is =
        with_id_bytes (number_at 0 4 a.bytes) (data_of 0xb1 others) made
        (λ bytes same. data_bytes 0xb1 others bytes all.1 same) is
    by false fault is = absurd (cc)

rr_body_bytes : (text bytes : List ℕ) → AreBytes text → rr_body_of text ≡ Ok bytes → AreBytes bytes
unfolding rr_body_of
rr_body_bytes text bytes fits e = by (body_items_of text) refl e
  where
    by : (x : Result (List Item) CpfFault) → body_items_of text ≡ x
        → x >>= rr_items_of ≡ Ok bytes → AreBytes bytes
    by (Ok l) same is = rr_bytes l bytes (body_bytes text l fits same) is
    by (Err fault) same is = absurd (cc)

unit_body_bytes : (text : List ℕ) (made : ℕ × List ℕ) → AreBytes text → unit_body_of text ≡ Ok made → AreBytes made.1
unfolding unit_body_of
unit_body_bytes text made fits e = by (body_items_of text) refl e
  where
    by : (x : Result (List Item) CpfFault) → body_items_of text ≡ x
        → x >>= unit_items_of ≡ Ok made → AreBytes made.1
    by (Ok l) same is = unit_bytes l made (body_bytes text l fits same) is
    by (Err fault) same is = absurd (cc)

-- ---- the requests in a frame

abbrev AllOfBytes : List Request → Type 0
AllOfBytes requests = AllByRecursion (λ (request : Request). AreBytes request.1) requests

all_if : (t : Bool) (a b : List Request) → AllOfBytes a → AllOfBytes b → AllOfBytes (if t then a else b)
all_if true a b one other = one
all_if false a b one other = other

route_bytes : (rights : Rights) (request : List ℕ) (to : Route) → AreBytes request
    → AllOfBytes (requests_by_route rights request to)
route_bytes rights request (Opens layout bytes) fits = tt
route_bytes rights request (Closes bytes) fits = tt
route_bytes rights request Executes fits = all_if (is_refused rights request) _ _ tt (fits, tt)

in_rr : (rights : Rights) (body : Result (List ℕ) CpfFault) → ((bytes : List ℕ) → body ≡ Ok bytes → AreBytes bytes)
    → AllOfBytes (requests_in_rr rights body)
in_rr rights (Err fault) fits = tt
in_rr rights (Ok request) fits =
    all_if (nat_lt (length request) 2) _ _ tt (route_bytes rights request (route_of request) (fits request refl))

by_target : (rights : Rights) (target : TargetState) (item : List ℕ) → AreBytes item
    → AllOfBytes (requests_by_target rights target item)
by_target rights target item fits =
    all_if (has_accepted_size target item) _ _
    (all_if (is_held target.held (sequence_count_of item)) _ _ tt
    (all_if (is_refused rights (message_of item)) _ _ tt (AreBytes-drop 2 item fits, tt))) tt

by_connection : (rights : Rights) (item : List ℕ) (o : Option Connection) → AreBytes item
    → AllOfBytes (requests_by_connection rights item o)
by_connection rights item None fits = tt
by_connection rights item (Some connection) fits = by_target rights connection.target item fits

in_unit : (shared : Shared) (session : Session) (body : Result (ℕ × List ℕ) CpfFault)
    → ((made : ℕ × List ℕ) → body ≡ Ok made → AreBytes made.1) → AllOfBytes (requests_in_unit shared session body)
in_unit shared session (Err fault) fits = tt
in_unit shared session (Ok (id, item)) fits =
    by_connection session.rights item (find (is_named session.handle id) shared.manager.connections)
    (fits (id, item) refl)

by_command : (shared : Shared) (session : Session) (f : Frame) (command : Option Command) → AreBytes f.body
    → AllOfBytes (requests_by_command shared session f command)
by_command shared session f (Some SendRRData) fits =
    all_if (not (is_registered_as session f.header.session)) _ _ tt
    (in_rr session.rights (rr_body_of f.body) (λ bytes same. rr_body_bytes f.body bytes fits same))
by_command shared session f (Some SendUnitData) fits =
    all_if (not (is_registered_as session f.header.session)) _ _ tt
    (in_unit shared session (unit_body_of f.body) (λ made same. unit_body_bytes f.body made fits same))
by_command shared session f other fits = tt

in_frame : (shared : Shared) (session : Session) (f : Frame) → AreBytes f.body
    → AllOfBytes (requests_in_frame shared session f)
in_frame shared session f fits =
    all_if (not (f.header.options == 0)) _ _ tt
    (all_if (not (f.header.status == 0)) _ _ tt (by_command shared session f (command_of f.header.command) fits))

by_session : (shared : Shared) (f : Frame) (o : Option Session) → AreBytes f.body
    → AllOfBytes (requests_by_session shared f o)
by_session shared f None fits = tt
by_session shared f (Some session) fits = all_if session.closed _ _ tt (in_frame shared session f fits)

-- ---- the steps of events

abbrev BringsBytes : Event → Type 0
BringsBytes (Begin rights group) = ⊤
BringsBytes (End peer) = ⊤
BringsBytes (At now) = ⊤
BringsBytes (Framed peer f) = AreBytes f.body
BringsBytes (Long peer header) = ⊤
BringsBytes (Written write) = IsWriteOfBytes write

requested_bytes : (requests : List Request) → AllOfBytes requests
    → AllByRecursion IsOfBytes (map Requested requests)
requested_bytes [] all = tt
requested_bytes (request ∷ requests) all = (all.0, requested_bytes requests all.1)

event_bytes : (s : State) (event : Event) → BringsBytes event → AllByRecursion IsOfBytes (steps_by_event s event)
event_bytes s (Begin rights group) fits = tt
event_bytes s (End peer) fits = tt
event_bytes s (At now) fits = tt
event_bytes s (Framed peer f) fits =
    requested_bytes (requests_by_event s (Framed peer f)) (by_session s.shared f (session_of s peer) fits)
event_bytes s (Long peer header) fits = tt
event_bytes s (Written write) fits = (fits, tt)

all_both : {A : Type 0} (P : A → Type 0) (xs ys : List A) → AllByRecursion P xs → AllByRecursion P ys
    → AllByRecursion P (xs ++ ys)
all_both P [] ys all more = more
all_both P (x ∷ xs) ys all more = (all.0, all_both P xs ys all.1 more)

events_bytes : (s : State) (events : List Event) → AllByRecursion BringsBytes events
    → AllByRecursion IsOfBytes (device_steps s events)
events_bytes s [] all = tt
events_bytes s (event ∷ events) all =
    all_both IsOfBytes (steps_by_event s event) (device_steps (turn s event).state events)
    (event_bytes s event all.0) (events_bytes (turn s event).state events all.1)

-- ---- the events of calls

found_bytes : (held : List Held) (peer : ℕ) → AllByRecursion IsHeldInBytes held → AreBytes (bytes_held held peer)
found_bytes [] peer all = no_bytes
found_bytes (h ∷ held) peer all = by (h.peer == peer) (found_bytes held peer all.1)
  where
    by : (own : Bool) → AreBytes (bytes_held held peer)
        → AreBytes (bytes_found (if own then Some h else first_with (λ (x : Held). x.peer) peer held))
    by true later = all.0
    by false later = later

with_bytes : (held : List Held) (peer : ℕ) (new : Held) → IsHeldInBytes new → AllByRecursion IsHeldInBytes held
    → AllByRecursion IsHeldInBytes (with_first (λ (x : Held). x.peer) peer new held)
with_bytes [] peer new fits all = tt
with_bytes (h ∷ held) peer new fits all = by (h.peer == peer) (with_bytes held peer new fits all.1)
  where
    by : (own : Bool) → AllByRecursion IsHeldInBytes (with_first (λ (x : Held). x.peer) peer new held)
        → AllByRecursion IsHeldInBytes
        (if own then new ∷ held else h ∷ with_first (λ (x : Held). x.peer) peer new held)
    by true later = (fits, all.1)
    by false later = (all.0, later)

without_bytes : (held : List Held) (peer : ℕ) → AllByRecursion IsHeldInBytes held
    → AllByRecursion IsHeldInBytes (without_first (λ (x : Held). x.peer) peer held)
without_bytes [] peer all = tt
without_bytes (h ∷ held) peer all = by (h.peer == peer) (without_bytes held peer all.1)
  where
    by : (own : Bool) → AllByRecursion IsHeldInBytes (without_first (λ (x : Held). x.peer) peer held)
        → AllByRecursion IsHeldInBytes (if own then held else h ∷ without_first (λ (x : Held). x.peer) peer held)
    by true later = all.1
    by false later = (all.0, later)

begun_bytes : (held : List Held) (output : Output) → AllByRecursion IsHeldInBytes held
    → AllByRecursion IsHeldInBytes (held_at_beginning held output)
begun_bytes held (NoReply why) all = all
begun_bytes held (Sends bytes) all = all
begun_bytes held (Begins handle) all =
    all_both IsHeldInBytes held (record { peer = handle; bytes = [] } ∷ []) all (no_bytes, tt)
begun_bytes held (Refuses full) all = all

-- What a call means consists of bytes.
record MeansBytes (m : Meaning) : Type 0 where
  events : AllByRecursion BringsBytes m.events
  held : AllByRecursion IsHeldInBytes m.held

parsed_events : (peer : ℕ) (bytes : List ℕ) → AreBytes bytes
    → AllByRecursion BringsBytes (events_of_parsed peer (parsed bytes))
parsed_events peer bytes fits =
    by (nat_lt (length bytes) 24) (nat_lt 65511 (number_at 2 2 bytes)) (length bytes == 24 + number_at 2 2 bytes) _ _
    refl (tt, tt)
  where
    by : (short long right : Bool) (too_long : Parsed) (f : Frame) → f.body ≡ drop 24 bytes
        → AllByRecursion BringsBytes (events_of_parsed peer too_long)
        → AllByRecursion BringsBytes (events_of_parsed peer (if short then Incomplete
        else (if long then too_long else (if right then WholeFrame f else Incomplete))))
    by true long right too_long f same none = tt
    by false true right too_long f same none = none
    by false false true too_long f same none = (subst AreBytes (sym same) (AreBytes-drop 24 bytes fits), tt)
    by false false false too_long f same none = tt

cleared_bytes : (x : Parsed) (bytes : List ℕ) → AreBytes bytes → AreBytes (cleared x bytes)
cleared_bytes Incomplete bytes fits = fits
cleared_bytes (WholeFrame f) bytes fits = no_bytes
cleared_bytes (TooLongHeader h) bytes fits = fits

piece_bytes : (held : List Held) (peer : ℕ) (piece : List ℕ) → AllByRecursion IsHeldInBytes held → AreBytes piece
    → MeansBytes (piece_meaning held peer (bytes_held held peer) piece)
piece_bytes held peer piece all fits =
    let bytes = bytes_held held peer in
    let joined = held_and_taken bytes piece in
    let whole : AreBytes joined
    = AreBytes-append bytes (take (bytes_taken bytes piece) piece) (found_bytes held peer all)
    (AreBytes-take (bytes_taken bytes piece) piece fits) in
    record {
      events = parsed_events peer joined whole;
      held = with_bytes held peer (record { peer = peer; bytes = cleared (parsed joined) joined })
          (cleared_bytes (parsed joined) joined whole) all;
    }

to_session : (held : List Held) (peer : ℕ) (piece : List ℕ) (o : Option Session) → AllByRecursion IsHeldInBytes held
    → AreBytes piece → MeansBytes (piece_to held peer piece o)
to_session held peer piece None all fits = record { events = tt; held = all }
to_session held peer piece (Some session) all fits = by session.closed
  where
    by : (closed : Bool) → MeansBytes (if closed then dropped_piece held
        else piece_meaning held peer (bytes_held held peer) piece)
    by true = record { events = tt; held = all }
    by false = piece_bytes held peer piece all fits

call_bytes : (a : AdapterState) (call : Call) → HoldsBytes a → FeedsBytes call → MeansBytes (call_meaning a call)
call_bytes a (Begins_peer rights group) all fits =
    record { events = (tt, tt); held = begun_bytes a.held (turn a.state (Begin rights group)).answer.output all }
call_bytes a (Feeds now peer piece) all fits =
    let means = to_session a.held peer piece (session_of a.state peer) all fits in
    record { events = (tt, means.events); held = means.held }
call_bytes a (Ends_peer peer) all fits = record { events = (tt, tt); held = without_bytes a.held peer all }
call_bytes a (Ticks now) all fits = record { events = (tt, tt); held = all }
call_bytes a (Writes write) all fits = record { events = (fits, tt); held = all }

calls_bytes : (a : AdapterState) (calls : List Call) → HoldsBytes a → AllByRecursion FeedsBytes calls
    → AllByRecursion BringsBytes (events_of_calls a calls)
calls_bytes a [] holds fit = tt
calls_bytes a (call ∷ calls) holds fit =
    let means = call_bytes a call holds fit.0 in
    all_both BringsBytes (call_meaning a call).events (events_of_calls (after_call a call) calls) means.events
    (calls_bytes (after_call a call) calls means.held fit.1)

holds_on : (a : AdapterState) (calls : List Call) → HoldsBytes a → AllByRecursion FeedsBytes calls
    → HoldsBytes (after_calls a calls)
holds_on a [] holds fit = holds
holds_on a (call ∷ calls) holds fit =
    let means = call_bytes a call holds fit.0 in
    holds_on (after_call a call) calls means.held fit.1

-- ---- over restarts

does_bytes : (steps : List DeviceStep) (more : List LifeStep) → AllByRecursion IsOfBytes steps
    → AllByRecursion IsStep more → AllByRecursion IsStep (map Does steps ++ more)
does_bytes [] more all rest = rest
does_bytes (step ∷ steps) more all rest = (all.0, does_bytes steps more all.1 rest)

pub steps_fit : (a : AdapterState) (steps : List AdapterStep) → HoldsBytes a → AllByRecursion IsAdapterStep steps
    → AllByRecursion IsStep (steps_over_restarts a steps)
steps_fit a [] holds fit = tt
steps_fit a (Executed calls ∷ steps) holds fit =
    does_bytes (steps_of_calls a calls) (steps_over_restarts (after_calls a calls) steps)
    (events_bytes a.state (events_of_calls a calls) (calls_bytes a calls holds fit.0))
    (steps_fit (after_calls a calls) steps (holds_on a calls holds fit.0) fit.1)
steps_fit a (Restarted start ∷ steps) holds fit =
    (fit.0, steps_fit (started start (saved_adapter a)) steps tt fit.1)

does_going : (own : Sizes) (steps : List DeviceStep) (more : List LifeStep)
    → AllByRecursion (IsGoingOn own) more → AllByRecursion (IsGoingOn own) (map Does steps ++ more)
does_going own [] more rest = rest
does_going own (step ∷ steps) more rest = (tt, does_going own steps more rest)

all_going : (own : Sizes) (a : AdapterState) (steps : List AdapterStep)
    → AllByRecursion (RestartsGoOn own) steps → AllByRecursion (IsGoingOn own) (steps_over_restarts a steps)
all_going own a [] on = tt
all_going own a (Executed calls ∷ steps) on =
    does_going own (steps_of_calls a calls) (steps_over_restarts (after_calls a calls) steps)
    (all_going own (after_calls a calls) steps on.1)
all_going own a (Restarted start ∷ steps) on =
    (on.0, all_going own (started start (saved_adapter a)) steps on.1)

new_slots : (ledger : Option LedgerStart) → slots_of (new_ledger ledger) ≡ option_map (λ l. l.originators) ledger
new_slots None = refl
new_slots (Some l) = refl

new_places : (queue : Option ℕ) → places_of (new_queue queue) ≡ queue
new_places None = refl
new_places (Some n) = refl

-- the sizes of an adapter that starts from nothing
abbrev sized : Option ℕ → Option ℕ → Sizes
sized slots places = record { slots = slots; places = places }

first_sizes : (start : AdapterStart) → sizes_of (started start []).state.shared.objects ≡ configured_sizes start
first_sizes start =
    ap (λ q. sized (slots_of (new_ledger start.ledger)) (places_of q)) (trusted_new start)
    ∙ ap (λ n. sized n (places_of (new_queue start.queue))) (new_slots start.ledger)
    ∙ ap (sized (option_map (λ l. l.originators) start.ledger)) (new_places start.queue)

-- An adapter that starts from nothing, over any calls and restarts.
pub from_nothing : (start : AdapterStart) (steps : List AdapterStep) → IsConfiguration start
    → AllByRecursion IsAdapterStep steps
    → AllByRecursion (RestartsGoOn (configured_sizes start)) steps
    → GoOn (started start []).state.shared.objects (steps_over_restarts (started start []) steps)
from_nothing start steps configuration fit on =
    let a = started start [] in
    record {
      is = first_device start configuration;
      fit = steps_fit a steps tt fit;
      on = all_going (sizes_of a.state.shared.objects) a steps
          (subst (λ own. AllByRecursion (RestartsGoOn own) steps) (sym (first_sizes start)) on);
    }
