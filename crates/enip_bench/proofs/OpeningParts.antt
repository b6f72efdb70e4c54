-- The parts of an opening: a peer that begins, an exchange, and the Forward_Open that the client writes.
use Rattle.std.proofs.Common.{◌≡◌, ℕ, ◌+◌, ◌%◌, ◌<◌, ◌≤◌, ◌^◌, Bool, true, false, not, ◌||◌, cond, ltb, Some, None, List, [], ◌∷◌, ◌++◌, length, Result, Ok, Err, refl, ap, ap₂, sym, ◌∙◌, subst, arith, ltb-false}
use Rattle.std.proofs.lemmas.Bool.{eq-eqb}
use Rattle.cip_bytes.proofs.Bytes.{le2_again, le4_again}
use Rattle.cip_bytes.specs.declared.protocol.TheConstants.{LARGEST_CONNECTION_SIZE}
use Rattle.cip_message.specs.Open.{Layout, small, large, Open, open_of, open_fields, large_open_of, large_open_fields}
use Rattle.cip_message.specs.Open.{connection_type, size_of, large_connection_type, large_size_of}
use Rattle.cip_message.specs.PathReading.{path_of, class_of, instance_of, attribute_of, member_of, whole_of, segment_of}
use Rattle.cip_message.specs.Request.{request_of}
use Rattle.cip_message.proofs.Opens.{same_open}
use Rattle.cip_manager.specs.declared.opening.Direction.{Direction}
use Rattle.cip_manager.specs.declared.opening.Opening.{Opening}
use Rattle.cip_manager.specs.Opening.{direction_of, large_direction_of, opening_with, open_in, opening_in}
use Rattle.enip_wire.specs.Frames.{Frame, frame, IsFrame}
use Rattle.enip_adapter.specs.declared.adapter.Full.TheVariants.{Places, Handles}
use Rattle.enip_adapter.specs.declared.peer.Rights.TheVariants.{Write}
use Rattle.enip_adapter.specs.declared.peer.Session.{Session}
use Rattle.enip_adapter.specs.declared.shared.Shared.{Shared}
use Rattle.enip_adapter.specs.Calls.{AdapterState, Call, after_call, call_answer, held_at_beginning, bytes_found}
use Rattle.enip_adapter.specs.Calls.Call.{Feeds}
use Rattle.enip_adapter.specs.Commands.{command_served}
use Rattle.enip_adapter.specs.Replies.{Served, leaving}
use Rattle.enip_adapter.specs.RegisterSession.{register_session}
use Rattle.enip_adapter.specs.SendRRData.{Opens, route_of}
use Rattle.enip_adapter.specs.Turn.{State, TurnResult, turned, with_peer, session_after, without_connections, sent, at_moment}
use Rattle.enip_adapter.specs.Turn.Output.{Sends, Begins, Refuses}
use Rattle.enip_client.specs.Client.{ClientState, fed}
use Rattle.enip_client.specs.Frames.{register_frame, parameters_of, large_parameters_of, is_large, layout_of, open_asked, large_asked}
use Rattle.enip_client.specs.Frames.{open_data_in, open_request_in}
use Rattle.enip_client.specs.Hears.{HeardEvent}
use Rattle.enip_client.specs.declared.wants.Wants.{Wants}
use Rattle.enip_bench.specs.CountingOpening.{ARefusal, IsWanted, begins_peer, begins, handle_in_output, fed_any, if_heard}
use Rattle.enip_bench.specs.CountingWorld.{output_bytes}
use Rattle.enip_bench.proofs.FeedLemmas.{IsReady, IsServed, adapter-fed, no_bytes}

-- a peer that begins gets the next handle, and no bytes of it are held
pub record IsBegun (a : AdapterState) (handle : ℕ) : Type 0 where
  pub next : handle ≡ a.state.next_handle
  pub below : handle < 2 ^ 32
  pub adapter : after_call a begins_peer
      ≡ record { state = with_peer a.state Write None; held = a.held ++ no_bytes a.state.next_handle ∷ [] }

ok_same : {A E : Type 0} (x y : A) → ◌≡◌ {A = Result A E} (Ok x) (Ok y) → x ≡ y
ok_same x y e = cc

record AreBegun (a : AdapterState) (handle : ℕ) (t : TurnResult) : Type 0 where
  next : handle ≡ a.state.next_handle
  below : handle < 2 ^ 32
  state : t.state ≡ with_peer a.state Write None
  held : held_at_beginning a.held t.answer.output ≡ a.held ++ no_bytes a.state.next_handle ∷ []

abbrev begun_by : State → Bool → Bool → TurnResult
begun_by s full late = cond full (turned s (Refuses Places) false)
    (cond late (turned s (Refuses Handles) false) (turned (with_peer s Write None) (Begins s.next_handle) false))

begun-by : (a : AdapterState) (handle : ℕ) (full late : Bool) → ltb 0xffffffff a.state.next_handle ≡ late →
    handle_in_output (begun_by a.state full late).answer.output ≡ Ok handle → AreBegun a handle (begun_by a.state full late)
begun-by a handle true late e output = absurd (cc)
begun-by a handle false true e output = absurd (cc)
begun-by a handle false false e output =
    let same : a.state.next_handle ≡ handle = ok_same a.state.next_handle handle output in
    record {
      next = sym same;
      below = omega (arith, same, ltb-false 0xffffffff a.state.next_handle e);
      state = refl;
      held = refl;
    }

pub begun-ok : (a : AdapterState) (handle : ℕ) → begins a ≡ Ok handle → IsBegun a handle
begun-ok a handle output =
    let are = begun-by a handle (not (ltb (length a.state.peers) a.state.places)) (ltb 0xffffffff a.state.next_handle) refl output in
    record {
      next = are.next;
      below = are.below;
      adapter = ap₂ (λ s h. (let x : AdapterState = record { state = s; held = h } in x)) are.state are.held;
    }

-- an adapter with one peer, of which no bytes are held
abbrev pub single : ℕ → ℕ → Shared → Session → AdapterState
single places next shared session = record {
  state = record { places = places; next_handle = next; shared = shared; peers = session ∷ [] };
  held = no_bytes session.handle ∷ [];
}

pub single-ready : (places next : ℕ) (shared : Shared) (session : Session) → session.closed ≡ false →
    IsReady (single places next shared session) session.handle session
single-ready places next shared session alive = record {
  found = ap (λ b. cond b (Some session) None) (eq-eqb session.handle session.handle refl);
  alive = alive;
  blank = ap (λ b. bytes_found (cond b (Some (no_bytes session.handle)) None)) (eq-eqb session.handle session.handle refl);
}

pub record IsSingleFed (places next : ℕ) (shared : Shared) (session : Session) (f : Frame) (served : Served) : Type 0 where
  pub adapter : after_call (single places next shared session) (Feeds 0 session.handle (frame f))
      ≡ single places next served.shared (session_after session served)
  pub output : (call_answer (single places next shared session) (Feeds 0 session.handle (frame f))).output
      ≡ sent served.reaction.answer

pub single-fed : (places next : ℕ) (shared : Shared) (session : Session) (f : Frame) (served : Served) →
    session.closed ≡ false → IsFrame f → command_served (at_moment shared 0) session f ≡ served →
    served.reaction.close ≡ false → IsSingleFed places next shared session f served
single-fed places next shared session f served alive ok same stays =
    let a : AdapterState = single places next shared session in
    let is : IsServed a session.handle session f served
    = subst (IsServed a session.handle session f) same
    (adapter-fed a session.handle session f (single-ready places next shared session alive) ok) in
    record {
      adapter = is.adapter
          ∙ ap₂ (λ own close. (let x : AdapterState = record {
            state = record {
              places = places;
              next_handle = next;
              shared = cond close (without_connections served.shared session.handle) served.shared;
              peers = cond own (session_after session served ∷ []) (session ∷ []);
            };
            held = cond own (no_bytes session.handle ∷ []) (no_bytes session.handle ∷ []);
          } in x)) (eq-eqb session.handle session.handle refl) stays;
      output = is.output;
    }

-- an exchange in which the client heard what it has to, and one in which it did not
pub heard-done : (is_wanted : HeardEvent → Bool) (a after : AdapterState) (c then : ClientState) (call : Call) (bytes : List ℕ)
    (heard_event : HeardEvent) → after_call a call ≡ after → (call_answer a call).output ≡ Sends bytes → (fed c bytes).client ≡ then →
    (fed c bytes).heard_event ≡ heard_event → is_wanted heard_event ≡ true →
    if_heard is_wanted (after_call a call) (fed_any c (output_bytes (call_answer a call).output))
    ≡ Ok (record { adapter = after; client = then })
heard-done is_wanted a after c then call bytes heard_event goes output client heard wanted =
    ap (λ s. if_heard is_wanted (after_call a call) (fed_any c (output_bytes s))) output
    ∙ (ap (λ b. cond b (Ok (record { adapter = after_call a call; client = (fed c bytes).client })) (Err ARefusal))
    (ap is_wanted heard ∙ wanted)
    ∙ ap₂ (λ x y. Ok (record { adapter = x; client = y })) goes client)

pub heard-refused : (is_wanted : HeardEvent → Bool) (a : AdapterState) (c : ClientState) (call : Call) (bytes : List ℕ)
    (heard_event : HeardEvent) → (call_answer a call).output ≡ Sends bytes → (fed c bytes).heard_event ≡ heard_event → is_wanted heard_event ≡ false →
    if_heard is_wanted (after_call a call) (fed_any c (output_bytes (call_answer a call).output)) ≡ Err ARefusal
heard-refused is_wanted a c call bytes heard_event output heard wanted =
    ap (λ s. if_heard is_wanted (after_call a call) (fed_any c (output_bytes s))) output
    ∙ ap (λ b. cond b (Ok (record { adapter = after_call a call; client = (fed c bytes).client })) (Err ARefusal))
    (ap is_wanted heard ∙ wanted)

-- the answer to a RegisterSession
pub register-served : (shared : Shared) (session : Session) (number : ℕ) →
    command_served shared session (register_frame number) ≡ leaving shared (register_session session (register_frame number))
unfolding command_served
register-served shared session number = refl

-- the open request is routed to the Connection Manager, and read as it was written
pub goes-to-manager : (layout : Layout) (wants : Wants) →
    route_of (open_request_in layout wants) ≡ Opens layout (open_data_in layout wants)
unfolding request_of path_of class_of instance_of attribute_of member_of whole_of segment_of
goes-to-manager small wants = refl
goes-to-manager large wants = refl

abbrev pub asked_in : Layout → Wants → Open
asked_in small wants = open_asked wants
asked_in large wants = large_asked wants

pub open-read : (layout : Layout) (wants : Wants) → IsWanted wants →
    open_in layout (open_data_in layout wants) ≡ Ok (asked_in layout wants)
unfolding open_of open_fields large_open_of large_open_fields
open-read large wants is =
    ap (λ o. Ok o)
    (same_open (large_asked wants) _ _ _ _ _ _ _ _ _ _ _ _ _ _ refl refl refl (le4_again wants.t_to_o_id is.t_to_o_id [])
    (le2_again wants.connection_serial is.connection_serial []) (le2_again wants.originator_vendor is.originator_vendor [])
    (le4_again wants.originator_serial is.originator_serial []) refl (le4_again wants.rpi is.rpi [])
    (le4_again (0x42000000 + wants.o_to_t_size) (omega (arith, is.o_to_t_to)) []) (le4_again wants.rpi is.rpi [])
    (le4_again (0x42000000 + wants.t_to_o_size) (omega (arith, is.t_to_o_to)) []) refl refl)
open-read small wants is =
    ap (λ o. Ok o)
    (same_open (open_asked wants) _ _ _ _ _ _ _ _ _ _ _ _ _ _ refl refl refl (le4_again wants.t_to_o_id is.t_to_o_id [])
    (le2_again wants.connection_serial is.connection_serial []) (le2_again wants.originator_vendor is.originator_vendor [])
    (le4_again wants.originator_serial is.originator_serial []) refl (le4_again wants.rpi is.rpi [])
    (le2_again (0x4200 + wants.o_to_t_size % 512) (omega arith) []) (le4_again wants.rpi is.rpi [])
    (le2_again (0x4200 + wants.t_to_o_size % 512) (omega arith) []) refl refl)

-- the size of the open request
pub request-size : (layout : Layout) (wants : Wants) →
    (2 ≤ length (open_request_in layout wants)) × (length (open_request_in layout wants) ≤ 50)
request-size small wants = (omega arith, omega arith)
request-size large wants = (omega arith, omega arith)

-- what the client asks for, in either layout
abbrev pub wanted_direction : Wants → ℕ → Direction
wanted_direction wants size = record { rpi = wants.rpi; connection_type = 2; size = size }

abbrev pub wanted : Wants → Opening
wanted wants =
    opening_with (wanted_direction wants wants.o_to_t_size) (wanted_direction wants wants.t_to_o_size) (open_asked wants)

small-direction : (wants : Wants) (size : ℕ) → size ≤ 511 →
    direction_of wants.rpi (parameters_of size) ≡ wanted_direction wants size
small-direction wants size fits =
    let kind : connection_type (parameters_of size) ≡ 2 = omega (arith, fits) in
    let same : size_of (parameters_of size) ≡ size = omega (arith, fits) in
    ap₂ (λ k n. (let d : Direction = record { rpi = wants.rpi; connection_type = k; size = n } in d)) kind same

large-direction : (wants : Wants) (size : ℕ) → size ≤ LARGEST_CONNECTION_SIZE →
    large_direction_of wants.rpi (large_parameters_of size) ≡ wanted_direction wants size
large-direction wants size fits =
    let kind : large_connection_type (large_parameters_of size) ≡ 2 = omega (arith, fits) in
    let same : large_size_of (large_parameters_of size) ≡ size = omega (arith, fits) in
    ap₂ (λ k n. (let d : Direction = record { rpi = wants.rpi; connection_type = k; size = n } in d)) kind same

neither : (a b : Bool) → (a || b) ≡ false → (a ≡ false) × (b ≡ false)
neither true b e = absurd (cc)
neither false b e = (refl, e)

pub asked-is : (wants : Wants) → IsWanted wants →
    opening_in (layout_of wants) (asked_in (layout_of wants) wants) ≡ wanted wants
asked-is wants is = go (is_large wants) refl
  where
    go : (b : Bool) → is_large wants ≡ b →
        opening_in (cond b large small) (asked_in (cond b large small) wants) ≡ wanted wants
    go true e =
        ap₂ (λ x y. opening_with x y (open_asked wants)) (large-direction wants wants.o_to_t_size is.o_to_t_to)
        (large-direction wants wants.t_to_o_size is.t_to_o_to)
    go false e =
        let fit = neither (ltb 511 wants.o_to_t_size) (ltb 511 wants.t_to_o_size) e in
        ap₂ (λ x y. opening_with x y (open_asked wants))
        (small-direction wants wants.o_to_t_size (ltb-false 511 wants.o_to_t_size fit.0))
        (small-direction wants wants.t_to_o_size (ltb-false 511 wants.t_to_o_size fit.1))
