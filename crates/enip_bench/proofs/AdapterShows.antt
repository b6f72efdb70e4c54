-- The adapter while it serves a connection's items, and how each event changes it.
use Rattle.std.proofs.Common.{◌≡◌, ◌≢◌, ℕ, ◌<◌, ◌≤◌, ◌^◌, max, Bool, true, false, not, ◌&&◌, cond, eqb, ltb, Option, Some, None, option_map, List, [], ◌∷◌, length, refl, ap, sym, ◌∙◌, subst, arith}
use Rattle.std.specs.Prelude.{filter}
use Rattle.std.proofs.lemmas.Bool.{eq-eqb, lt-ltb, le-ltb}
use Rattle.cip_bytes.specs.declared.protocol.TheConstants.{LARGEST_CONNECTION_SIZE}
use Rattle.cip_class3.specs.Deliveries.{answer_to}
use Rattle.cip_class3.specs.TargetRule.{TargetState, TargetStep, target_step, kept_bytes}
use Rattle.cip_class3.specs.declared.target.Received.{Received}
use Rattle.cip_class3.specs.declared.target.Received.TheVariants.{Dropped, Repeated, Executed}
use Rattle.cip_manager.specs.declared.connection.Connection.{Connection}
use Rattle.cip_manager.specs.Connection.{is_of_session, is_open_at, is_answered, after_item, deadline_at_item}
use Rattle.cip_manager.specs.Items.{ItemTurn, turn_of_found, reply_of}
use Rattle.cip_manager.specs.Runs.{of_session}
use Rattle.cip_manager.proofs.ListLemmas.{filter-swap}
use Rattle.cip_ledger.specs.Device.{Device}
use Rattle.enip_wire.specs.Bodies.{rr_body_bytes, unit_body_bytes, unit_body_of}
use Rattle.enip_wire.specs.Frames.{Frame, frame, IsFrame}
use Rattle.enip_wire.proofs.WriteLemmas.{rr_again, unit_again}
use Rattle.enip_adapter.specs.declared.peer.Rights.TheVariants.{Write}
use Rattle.enip_adapter.specs.declared.peer.Session.{Session}
use Rattle.enip_adapter.specs.declared.shared.Shared.{Shared}
use Rattle.enip_adapter.specs.declared.no_reply_reason.NoReplyReason.TheVariants.{AnotherSession}
use Rattle.enip_adapter.specs.Calls.{AdapterState, after_call, call_answer}
use Rattle.enip_adapter.specs.Calls.Call.{Feeds, Ticks, Writes}
use Rattle.enip_adapter.specs.Commands.{command_served}
use Rattle.enip_adapter.specs.OwnWrites.{OwnWrite, device_written}
use Rattle.enip_adapter.specs.Replies.{Served, leaving, no_reply, replied}
use Rattle.enip_adapter.specs.Runs.{is_open_at_all}
use Rattle.enip_adapter.specs.SendRRData.{routed, reply_to_body}
use Rattle.enip_adapter.specs.SendUnitData.{turn_of_item, served_item, item_of_body, item_reply}
use Rattle.enip_adapter.specs.Turn.{session_after, without_connections, sent, at_moment, shared_written}
use Rattle.enip_adapter.proofs.PeerLemmas.{session-call, held-call, connections-calls}
use Rattle.enip_client.specs.declared.wants.Wants.{Wants}
use Rattle.enip_client.specs.Frames.{item_frame, request_frame}
use Rattle.enip_bench.specs.CountingWorld.{output_bytes, LAST_MOMENT}
use Rattle.cip_bytes.specs.declared.protocol.TheConstants.{UNCONNECTED_LIMIT}
use Rattle.enip_bench.specs.ObjectsRun.{after_exec, exec_answer}
use Rattle.enip_bench.proofs.FeedLemmas.{IsReady, IsServed, served_at, adapter-fed, ready-again, is_unit, is_rr}
use Rattle.enip_bench.proofs.NamedLemmas.{named-none, IsNamedAlone, named-alone}
use Rattle.enip_bench.proofs.RoutedLemmas.{IsRouted, routed-objects}

-- what the client wants, both peers' handles, and the connection's O->T ID
pub record Wire : Type 0 where
  pub wants : Wants
  pub peer : ℕ
  pub second : ℕ
  pub id : ℕ

pub record IsWire (wire : Wire) : Type 0 where
  pub peer : wire.peer < 2 ^ 32
  pub second : wire.second < 2 ^ 32
  pub apart : wire.second ≢ wire.peer
  pub id : wire.id < 2 ^ 32
  pub t_to_o_id : wire.wants.t_to_o_id < 2 ^ 32

-- the bytes of the frame with an item, to the adapter and back
abbrev pub frame_out : Wire → List ℕ → List ℕ
frame_out wire item = frame (item_frame wire.peer wire.id item)

abbrev pub frame_back : Wire → List ℕ → List ℕ
frame_back wire item = frame (item_frame wire.peer wire.wants.t_to_o_id item)

abbrev pub registered_as : ℕ → Session
registered_as handle = record { handle = handle; registered = true; closed = false; rights = Write; group = None }

-- the client has one connection, with this target
pub record Serves (wire : Wire) (shared : Shared) (target : TargetState) : Type 0 where
  pub connection : Connection
  pub alone : of_session wire.peer shared.manager.connections ≡ connection ∷ []
  pub session : connection.session ≡ wire.peer
  pub id : connection.o_to_t_id ≡ wire.id
  pub t_to_o_id : connection.t_to_o_id ≡ wire.wants.t_to_o_id
  pub is_target : connection.target ≡ target
  pub moment : shared.moment ≡ 0
  pub deadline : 0 < connection.deadline
  pub last : connection.deadline ≤ 18446744073709551615
  pub timeout : 0 < connection.timeout

-- the client has the connection while it is open, and none afterwards
abbrev pub Connected : Wire → Shared → TargetState → Bool → Type 0
Connected wire shared target true = Serves wire shared target
Connected wire shared target false = of_session wire.peer shared.manager.connections ≡ []

pub record AdapterShows (wire : Wire) (a : AdapterState) (target : TargetState) (router : Device) (is_open : Bool) : Type 0 where
  pub peer : IsReady a wire.peer (registered_as wire.peer)
  pub second : IsReady a wire.second (registered_as wire.second)
  pub objects : a.state.shared.objects ≡ router
  pub connected : Connected wire a.state.shared target is_open

-- the adapter after a frame with this result
pub record IsOwnFed (a : AdapterState) (peer : ℕ) (session : Session) (f : Frame) (served : Served) : Type 0 where
  pub shared : (after_call a (Feeds 0 peer (frame f))).state.shared ≡ served.shared
  pub ready : IsReady (after_call a (Feeds 0 peer (frame f))) peer (session_after session served)
  pub output : (call_answer a (Feeds 0 peer (frame f))).output ≡ sent served.reaction.answer

pub own-fed : (a : AdapterState) (peer : ℕ) (session : Session) (f : Frame) (served : Served) →
    IsReady a peer session → IsFrame f → served_at a session f ≡ served → served.reaction.close ≡ false →
    IsOwnFed a peer session f served
own-fed a peer session f served ready ok same stays =
    let is : IsServed a peer session f served = subst (IsServed a peer session f) same (adapter-fed a peer session f ready ok) in
    record {
      shared = ap (λ (x : AdapterState). x.state.shared) is.adapter
          ∙ ap (λ b. cond b (without_connections served.shared session.handle) served.shared) stays;
      ready = ready-again a peer session f served ready is stays;
      output = is.output;
    }

-- the other peer is unchanged
pub other-ready : (a : AdapterState) (peer other : ℕ) (session : Session) (piece : List ℕ) → other ≢ peer →
    IsReady a peer session → IsReady (after_call a (Feeds 0 other piece)) peer session
other-ready a peer other session piece apart ready = record {
  found = session-call peer session a (Feeds 0 other piece) apart ready.found;
  alive = ready.alive;
  blank = held-call peer a (Feeds 0 other piece) apart ∙ ready.blank;
}

-- at moment 0 no connection ends
pub at-zero : (wire : Wire) (shared : Shared) (target : TargetState) (is_open : Bool) →
    Connected wire shared target is_open → Connected wire (at_moment shared 0) target is_open
at-zero wire shared target true serves =
    let c : Connection = serves.connection in
    let still : max shared.moment 0 ≡ 0 = omega (arith, serves.moment) in
    record {
      connection = c;
      alone = filter-swap (is_of_session wire.peer) (is_open_at (max shared.moment 0)) shared.manager.connections
          ∙ (ap (filter (is_open_at (max shared.moment 0))) serves.alone
          ∙ ap (λ b. cond b (c ∷ []) []) (lt-ltb (max shared.moment 0) c.deadline (omega (arith, still, serves.deadline))));
      session = serves.session;
      id = serves.id;
      t_to_o_id = serves.t_to_o_id;
      is_target = serves.is_target;
      moment = still;
      deadline = serves.deadline;
      last = serves.last;
      timeout = serves.timeout;
    }
at-zero wire shared target false none =
    filter-swap (is_of_session wire.peer) (is_open_at (max shared.moment 0)) shared.manager.connections
    ∙ ap (filter (is_open_at (max shared.moment 0))) none

-- an item's frame is served as an item
item-served : (shared : Shared) (peer id : ℕ) (item : List ℕ) → id < 2 ^ 32 → length item ≤ LARGEST_CONNECTION_SIZE →
    command_served shared (registered_as peer) (item_frame peer id item)
    ≡ served_item shared (registered_as peer) (item_frame peer id item)
    (turn_of_item shared (registered_as peer) id item)
unfolding command_served
item-served shared peer id item below small =
    ap (λ b. cond (not b) (leaving shared (no_reply (registered_as peer) AnotherSession))
    (item_of_body shared (registered_as peer) (item_frame peer id item) (unit_body_of (unit_body_bytes id item))))
    (eq-eqb peer peer refl)
    ∙ ap (item_of_body shared (registered_as peer) (item_frame peer id item))
    (unit_again id item below (omega (arith, small)))

abbrev turn_by : Shared → ℕ → ℕ → List ℕ → Option Connection → ItemTurn Device
turn_by shared peer id item found =
    turn_of_found after_exec exec_answer shared.manager.connections shared.moment peer id item shared.objects found

abbrev served_by : Shared → ℕ → ℕ → List ℕ → Option Connection → Served
served_by shared peer id item found =
    served_item shared (registered_as peer) (item_frame peer id item) (turn_by shared peer id item found)

-- what a frame with an item does
pub record IsReached (wire : Wire) (a : AdapterState) (item : List ℕ) (target : TargetState) (router : Device)
    (is_open : Bool) (back : Option (List ℕ)) : Type 0 where
  pub shows : AdapterShows wire (after_call a (Feeds 0 wire.peer (frame_out wire item))) target router is_open
  pub output : output_bytes (call_answer a (Feeds 0 wire.peer (frame_out wire item))).output ≡ option_map (frame_back wire) back

answer-same : (wire : Wire) (item : List ℕ) (c new : Connection) (step : TargetStep Device) →
    new.t_to_o_id ≡ wire.wants.t_to_o_id → new.target ≡ step.target →
    output_bytes (sent (item_reply (item_frame wire.peer wire.id item).header
    (cond (is_answered step.received) (Some (reply_of new)) None)))
    ≡ option_map (frame_back wire) (answer_to step)
answer-same wire item c new step id same = go step.received
  where
    same_bytes : Some (frame (item_frame wire.peer new.t_to_o_id (kept_bytes new.target.held)))
        ≡ Some (frame_back wire (kept_bytes step.target.held))
    same_bytes = ap (λ n. Some (frame (item_frame wire.peer n (kept_bytes new.target.held)))) id
        ∙ ap (λ t. Some (frame_back wire (kept_bytes t.held))) same

    go : (r : Received) →
        output_bytes (sent (item_reply (item_frame wire.peer wire.id item).header
        (cond (is_answered r) (Some (reply_of new)) None)))
        ≡ option_map (frame_back wire) (answer_to (record step { received = r }))
    go Dropped = refl
    go Repeated = same_bytes
    go Executed = same_bytes

-- the deadline moves with an item that is answered, and is still in the future
deadline-moves : (b : Bool) (timeout deadline : ℕ) → 0 < timeout → 0 < deadline → deadline ≤ 18446744073709551615 →
    (0 < cond b (deadline_at_item 0 timeout) deadline)
    × (cond b (deadline_at_item 0 timeout) deadline ≤ 18446744073709551615)
deadline-moves true timeout deadline t d l = (omega arith, omega arith)
deadline-moves false timeout deadline t d l = (d, l)

-- the connection after an item
serves-item : (wire : Wire) (shared : Shared) (target : TargetState) (item : List ℕ) (serves : Serves wire shared target) →
    Serves wire (served_by shared wire.peer wire.id item (Some serves.connection)).shared
    (target_step after_exec exec_answer serves.connection.target shared.objects item).target
serves-item wire shared target item serves =
    let c : Connection = serves.connection in
    let step : TargetStep Device = target_step after_exec exec_answer c.target shared.objects item in
    let new : Connection = after_item shared.moment step.received step.target c in
    let alone : IsNamedAlone wire.peer wire.id shared.manager.connections c
    = named-alone wire.peer wire.id shared.manager.connections c serves.alone serves.id in
    let moves = deadline-moves (is_answered step.received) c.timeout c.deadline serves.timeout serves.deadline serves.last in
    let same : new.deadline ≡ cond (is_answered step.received) (deadline_at_item 0 c.timeout) c.deadline
    = ap (λ m. cond (is_answered step.received) (deadline_at_item m c.timeout) c.deadline) serves.moment in
    record {
      connection = new;
      alone = alone.changed new serves.session;
      session = serves.session;
      id = serves.id;
      t_to_o_id = serves.t_to_o_id;
      is_target = refl;
      moment = serves.moment;
      deadline = subst (λ n. 0 < n) (sym same) moves.0;
      last = subst (λ n. n ≤ 18446744073709551615) (sym same) moves.1;
      timeout = serves.timeout;
    }

-- an item's frame at an open connection
reached-connection : (wire : Wire) (a : AdapterState) (target : TargetState) (router : Device) (item : List ℕ) →
    IsWire wire → AdapterShows wire a target router true → length item ≤ LARGEST_CONNECTION_SIZE →
    (serves : Serves wire (at_moment a.state.shared 0) target) →
    (let step : TargetStep Device = target_step after_exec exec_answer serves.connection.target a.state.shared.objects item in
    IsReached wire a item step.target step.router true (answer_to step))
reached-connection wire a target router item is shows small serves =
    let shared : Shared = at_moment a.state.shared 0 in
    let c : Connection = serves.connection in
    let step : TargetStep Device = target_step after_exec exec_answer c.target shared.objects item in
    let f : Frame = item_frame wire.peer wire.id item in
    let alone : IsNamedAlone wire.peer wire.id shared.manager.connections c
    = named-alone wire.peer wire.id shared.manager.connections c serves.alone serves.id in
    let served : Served = served_by shared wire.peer wire.id item (Some c) in
    let same : served_at a (registered_as wire.peer) f ≡ served
    = item-served shared wire.peer wire.id item is.id small ∙ ap (served_by shared wire.peer wire.id item) alone.found in
    let fed : IsOwnFed a wire.peer (registered_as wire.peer) f served
    = own-fed a wire.peer (registered_as wire.peer) f served shows.peer (is_unit wire.peer wire.id item is.peer small) same refl in
    record {
      shows = record {
        peer = fed.ready;
        second = other-ready a wire.second wire.peer (registered_as wire.second) (frame f) (λ e. is.apart (sym e)) shows.second;
        objects = ap (λ (s : Shared). s.objects) fed.shared;
        connected = subst (λ s. Serves wire s step.target) (sym fed.shared) (serves-item wire shared target item serves);
      };
      output = ap output_bytes fed.output
          ∙ answer-same wire item c (after_item shared.moment step.received step.target c) step serves.t_to_o_id refl;
    }

pub reached-open : (wire : Wire) (a : AdapterState) (target : TargetState) (router : Device) (item : List ℕ) →
    IsWire wire → AdapterShows wire a target router true → length item ≤ LARGEST_CONNECTION_SIZE →
    (let step : TargetStep Device = target_step after_exec exec_answer target router item in
    IsReached wire a item step.target step.router true (answer_to step))
reached-open wire a target router item is shows small =
    let serves : Serves wire (at_moment a.state.shared 0) target
    = at-zero wire a.state.shared target true shows.connected in
    subst (λ t. (let step : TargetStep Device = target_step after_exec exec_answer t router item in
    IsReached wire a item step.target step.router true (answer_to step))) serves.is_target
    (subst (λ m. (let step : TargetStep Device = target_step after_exec exec_answer serves.connection.target m item in
    IsReached wire a item step.target step.router true (answer_to step))) shows.objects
    (reached-connection wire a target router item is shows small serves))

-- after the connection has ended, nothing is answered
pub reached-shut : (wire : Wire) (a : AdapterState) (target : TargetState) (router : Device) (item : List ℕ) →
    IsWire wire → AdapterShows wire a target router false → length item ≤ LARGEST_CONNECTION_SIZE →
    IsReached wire a item target router false None
reached-shut wire a target router item is shows small =
    let shared : Shared = at_moment a.state.shared 0 in
    let f : Frame = item_frame wire.peer wire.id item in
    let none : of_session wire.peer shared.manager.connections ≡ []
    = at-zero wire a.state.shared target false shows.connected in
    let served : Served = served_by shared wire.peer wire.id item None in
    let same : served_at a (registered_as wire.peer) f ≡ served
    = item-served shared wire.peer wire.id item is.id small
    ∙ ap (served_by shared wire.peer wire.id item) (named-none wire.peer wire.id shared.manager.connections none) in
    let fed : IsOwnFed a wire.peer (registered_as wire.peer) f served
    = own-fed a wire.peer (registered_as wire.peer) f served shows.peer (is_unit wire.peer wire.id item is.peer small) same refl in
    record {
      shows = record {
        peer = fed.ready;
        second = other-ready a wire.second wire.peer (registered_as wire.second) (frame f) (λ e. is.apart (sym e)) shows.second;
        objects = ap (λ (s : Shared). s.objects) fed.shared ∙ shows.objects;
        connected = ap (λ (s : Shared). of_session wire.peer s.manager.connections) fed.shared ∙ none;
      };
      output = ap output_bytes fed.output;
    }

pub otherwise : {A : Type 0} (b : Bool) (x y : A) → b ≡ false → cond b x y ≡ y
otherwise true x y e = absurd (cc)
otherwise false x y e = refl

-- a request of another session
pub request-served : (shared : Shared) (peer number : ℕ) (request : List ℕ) → 2 ≤ length request →
    length request ≤ LARGEST_CONNECTION_SIZE →
    command_served shared (registered_as peer) (request_frame peer number request)
    ≡ leaving (routed shared (registered_as peer) request).shared
    (replied (registered_as peer) (request_frame peer number request).header
    (rr_body_bytes (routed shared (registered_as peer) request).reply))
unfolding command_served
request-served shared peer number request least small =
    let session : Session = registered_as peer in
    let f : Frame = request_frame peer number request in
    otherwise (not (eqb peer peer)) _ _ (ap not (eq-eqb peer peer refl))
    ∙ (ap (reply_to_body shared session f) (rr_again request (omega (arith, small)))
    ∙ otherwise (ltb (length request) 2) _ _ (le-ltb (length request) 2 least))

-- calls for another session at moment 0 don't change the connection
spared : (wire : Wire) (a : AdapterState) (piece : List ℕ) (target : TargetState) (is_open : Bool) (now : Shared) →
    wire.second ≢ wire.peer → Connected wire a.state.shared target is_open →
    now ≡ (after_call a (Feeds 0 wire.second piece)).state.shared →
    now.moment ≡ max a.state.shared.moment 0 → Connected wire now target is_open
spared wire a piece target true now apart serves is moment =
    let c : Connection = serves.connection in
    let still : max a.state.shared.moment 0 ≡ 0 = omega (arith, serves.moment) in
    record {
      connection = c;
      alone = ap (λ (s : Shared). of_session wire.peer s.manager.connections) is
          ∙ (connections-calls wire.peer a (Feeds 0 wire.second piece ∷ []) (apart, tt)
          ∙ (ap (filter (is_open_at_all (max a.state.shared.moment 0 ∷ []))) serves.alone
          ∙ ap (λ b. cond (b && true) (c ∷ []) [])
          (lt-ltb (max a.state.shared.moment 0) c.deadline (omega (arith, still, serves.deadline)))));
      session = serves.session;
      id = serves.id;
      t_to_o_id = serves.t_to_o_id;
      is_target = serves.is_target;
      moment = moment ∙ still;
      deadline = serves.deadline;
      last = serves.last;
      timeout = serves.timeout;
    }
spared wire a piece target false now apart none is moment =
    ap (λ (s : Shared). of_session wire.peer s.manager.connections) is
    ∙ (connections-calls wire.peer a (Feeds 0 wire.second piece ∷ []) (apart, tt)
    ∙ ap (filter (is_open_at_all (max a.state.shared.moment 0 ∷ []))) none)

pub asked-other : (wire : Wire) (a : AdapterState) (target : TargetState) (router : Device) (is_open : Bool)
    (request : List ℕ) →
    IsWire wire → AdapterShows wire a target router is_open → 2 ≤ length request → length request ≤ 504 →
    AdapterShows wire (after_call a (Feeds 0 wire.second (frame (request_frame wire.second 0 request)))) target
    (after_exec router UNCONNECTED_LIMIT request) is_open
asked-other wire a target router is_open request is shows least most =
    let shared : Shared = at_moment a.state.shared 0 in
    let session : Session = registered_as wire.second in
    let f : Frame = request_frame wire.second 0 request in
    let done : IsRouted shared request (routed shared session request) = routed-objects shared session request refl in
    let served : Served = leaving (routed shared session request).shared
    (replied session f.header (rr_body_bytes (routed shared session request).reply)) in
    let same : served_at a session f ≡ served = request-served shared wire.second 0 request least (omega (arith, most)) in
    let fed : IsOwnFed a wire.second session f served
    = own-fed a wire.second session f served shows.second (is_rr wire.second 0 request is.second (omega (arith, most))) same refl in
    record {
      peer = other-ready a wire.peer wire.second (registered_as wire.peer) (frame f) is.apart shows.peer;
      second = fed.ready;
      objects = ap (λ (s : Shared). s.objects) fed.shared
          ∙ (done.objects ∙ ap (λ m. after_exec m UNCONNECTED_LIMIT request) shows.objects);
      connected = spared wire a (frame f) target is_open (after_call a (Feeds 0 wire.second (frame f))).state.shared
          is.apart shows.connected refl (ap (λ (s : Shared). s.moment) fed.shared ∙ done.moment);
    }

-- the last moment ends the connection
ends : (wire : Wire) (shared : Shared) (target : TargetState) (is_open : Bool) → Connected wire shared target is_open →
    of_session wire.peer (at_moment shared LAST_MOMENT).manager.connections ≡ []
ends wire shared target true serves =
    let c : Connection = serves.connection in
    filter-swap (is_of_session wire.peer) (is_open_at (max shared.moment LAST_MOMENT)) shared.manager.connections
    ∙ (ap (filter (is_open_at (max shared.moment LAST_MOMENT))) serves.alone
    ∙ ap (λ b. cond b (c ∷ []) []) (le-ltb (max shared.moment LAST_MOMENT) c.deadline (omega (arith, serves.last))))
ends wire shared target false none =
    filter-swap (is_of_session wire.peer) (is_open_at (max shared.moment LAST_MOMENT)) shared.manager.connections
    ∙ ap (filter (is_open_at (max shared.moment LAST_MOMENT))) none

pub shut : (wire : Wire) (a : AdapterState) (target : TargetState) (router : Device) (is_open : Bool) →
    AdapterShows wire a target router is_open → AdapterShows wire (after_call a (Ticks LAST_MOMENT)) target router false
shut wire a target router is_open shows = record {
  peer = record { found = shows.peer.found; alive = shows.peer.alive; blank = shows.peer.blank };
  second = record { found = shows.second.found; alive = shows.second.alive; blank = shows.second.blank };
  objects = shows.objects;
  connected = ends wire a.state.shared target is_open shows.connected;
}

-- a write of the device leaves the connection as it is
kept : (wire : Wire) (shared : Shared) (target : TargetState) (is_open : Bool) (write : OwnWrite) →
    Connected wire shared target is_open → Connected wire (shared_written shared write) target is_open
kept wire shared target true write serves = record {
  connection = serves.connection;
  alone = serves.alone;
  session = serves.session;
  id = serves.id;
  t_to_o_id = serves.t_to_o_id;
  is_target = serves.is_target;
  moment = serves.moment;
  deadline = serves.deadline;
  last = serves.last;
  timeout = serves.timeout;
}
kept wire shared target false write none = none

pub written_by : (wire : Wire) (a : AdapterState) (target : TargetState) (router : Device) (is_open : Bool)
    (write : OwnWrite) → AdapterShows wire a target router is_open →
    AdapterShows wire (after_call a (Writes write)) target (device_written write router) is_open
written_by wire a target router is_open write shows = record {
  peer = record { found = shows.peer.found; alive = shows.peer.alive; blank = shows.peer.blank };
  second = record { found = shows.second.found; alive = shows.second.alive; blank = shows.second.blank };
  objects = ap (device_written write) shows.objects;
  connected = kept wire a.state.shared target is_open write shows.connected;
}
