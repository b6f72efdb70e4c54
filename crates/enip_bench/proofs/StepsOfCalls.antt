-- The requests that reach the device by each call of the adapter in a counting world.
use Rattle.std.proofs.Common.{◌≡◌, ℕ, ◌<◌, ◌≤◌, ◌^◌, Bool, true, false, not, cond, eqb, ltb, List, [], ◌∷◌, ◌++◌, length, map, append-nil, refl, ap, ◌∙◌, arith}
use Rattle.std.specs.Prelude.{find}
use Rattle.std.proofs.lemmas.Bool.{eq-eqb, le-ltb}
use Rattle.cip_bytes.specs.declared.protocol.TheConstants.{LARGEST_CONNECTION_SIZE}
use Rattle.cip_class3.specs.TargetRule.{TargetState}
use Rattle.cip_ledger.specs.Device.{Device}
use Rattle.cip_ledger.specs.Runs.{Request}
use Rattle.cip_manager.specs.Connection.{is_named}
use Rattle.cip_manager.specs.Runs.{of_session}
use Rattle.enip_wire.specs.Bodies.{unit_body_bytes, unit_body_of}
use Rattle.enip_wire.specs.Frames.{Frame, frame, IsFrame}
use Rattle.enip_wire.proofs.WriteLemmas.{rr_again, unit_again}
use Rattle.enip_adapter.specs.declared.peer.Session.{Session}
use Rattle.enip_adapter.specs.declared.shared.Shared.{Shared}
use Rattle.enip_adapter.specs.Calls.{AdapterState, Meaning}
use Rattle.enip_adapter.specs.Calls.Call.{Feeds}
use Rattle.enip_adapter.specs.declared.peer.Rights.TheVariants.{Write}
use Rattle.enip_adapter.specs.DeviceRuns.{DeviceStep, Requested, requests_by_route, requests_in_rr, requests_by_target, requests_by_connection, requests_in_unit, requests_in_frame, requests_by_session, device_steps, steps_of_calls}
use Rattle.enip_adapter.specs.SendRRData.{route_of}
use Rattle.enip_adapter.specs.Turn.{at_moment}
use Rattle.enip_client.specs.Frames.{item_frame, request_frame}
use Rattle.enip_bench.proofs.AdapterShows.{Wire, IsWire, AdapterShows, Serves, registered_as, frame_out, at-zero, otherwise}
use Rattle.enip_bench.proofs.FeedLemmas.{IsReady, whole, is_unit, is_rr}
use Rattle.enip_bench.proofs.NamedLemmas.{named-none, IsNamedAlone, named-alone}

abbrev asked_for : List Request → List DeviceStep
asked_for requests = map Requested requests

-- a whole frame of a peer
frame-steps : (a : AdapterState) (peer : ℕ) (session : Session) (f : Frame) → IsReady a peer session → IsFrame f →
    steps_of_calls a (Feeds 0 peer (frame f) ∷ []) ≡ asked_for (requests_in_frame (at_moment a.state.shared 0) session f)
frame-steps a peer session f ready ok =
    ap (λ (m : Meaning). device_steps a.state (m.events ++ [])) (whole a peer session f ready ok)
    ∙ append-nil (asked_for (requests_by_session (at_moment a.state.shared 0) f _))
    ∙ ap (λ s. asked_for (requests_by_session (at_moment a.state.shared 0) f s)) ready.found
    ∙ ap (λ b. asked_for (cond b [] (requests_in_frame (at_moment a.state.shared 0) session f))) ready.alive

-- an item's frame
item-requests : (shared : Shared) (peer id : ℕ) (item : List ℕ) → id < 2 ^ 32 → length item ≤ LARGEST_CONNECTION_SIZE →
    requests_in_frame shared (registered_as peer) (item_frame peer id item)
    ≡ requests_by_connection Write item (find (is_named peer id) shared.manager.connections)
item-requests shared peer id item below small =
    ap (λ b. cond (not b) [] (requests_in_unit shared (registered_as peer) (unit_body_of (unit_body_bytes id item))))
    (eq-eqb peer peer refl)
    ∙ ap (requests_in_unit shared (registered_as peer)) (unit_again id item below (omega (arith, small)))

pub open-steps : (wire : Wire) (a : AdapterState) (target : TargetState) (router : Device) (item : List ℕ) →
    IsWire wire → AdapterShows wire a target router true → length item ≤ LARGEST_CONNECTION_SIZE →
    steps_of_calls a (Feeds 0 wire.peer (frame_out wire item) ∷ []) ≡ map Requested (requests_by_target Write target item)
open-steps wire a target router item is shows small =
    let shared : Shared = at_moment a.state.shared 0 in
    let serves : Serves wire shared target = at-zero wire a.state.shared target true shows.connected in
    let alone : IsNamedAlone wire.peer wire.id shared.manager.connections serves.connection
    = named-alone wire.peer wire.id shared.manager.connections serves.connection serves.alone serves.id in
    frame-steps a wire.peer (registered_as wire.peer) (item_frame wire.peer wire.id item) shows.peer
    (is_unit wire.peer wire.id item is.peer small)
    ∙ ap asked_for (item-requests shared wire.peer wire.id item is.id small)
    ∙ ap (λ found. asked_for (requests_by_connection Write item found)) alone.found
    ∙ ap (λ t. asked_for (requests_by_target Write t item)) serves.is_target

pub shut-steps : (wire : Wire) (a : AdapterState) (target : TargetState) (router : Device) (item : List ℕ) →
    IsWire wire → AdapterShows wire a target router false → length item ≤ LARGEST_CONNECTION_SIZE →
    steps_of_calls a (Feeds 0 wire.peer (frame_out wire item) ∷ []) ≡ []
shut-steps wire a target router item is shows small =
    let shared : Shared = at_moment a.state.shared 0 in
    let none : of_session wire.peer shared.manager.connections ≡ []
    = at-zero wire a.state.shared target false shows.connected in
    frame-steps a wire.peer (registered_as wire.peer) (item_frame wire.peer wire.id item) shows.peer
    (is_unit wire.peer wire.id item is.peer small)
    ∙ ap asked_for (item-requests shared wire.peer wire.id item is.id small)
    ∙ ap (λ found. asked_for (requests_by_connection Write item found))
    (named-none wire.peer wire.id shared.manager.connections none)

-- an unconnected request of another session
pub other-steps : (wire : Wire) (a : AdapterState) (target : TargetState) (router : Device) (is_open : Bool)
    (request : List ℕ) → IsWire wire → AdapterShows wire a target router is_open → 2 ≤ length request →
    length request ≤ 504 →
    steps_of_calls a (Feeds 0 wire.second (frame (request_frame wire.second 0 request)) ∷ [])
    ≡ map Requested (requests_by_route Write request (route_of request))
other-steps wire a target router is_open request is shows least most =
    let shared : Shared = at_moment a.state.shared 0 in
    frame-steps a wire.second (registered_as wire.second) (request_frame wire.second 0 request) shows.second
    (is_rr wire.second 0 request is.second (omega (arith, most)))
    ∙ ap asked_for
    (otherwise (not (eqb wire.second wire.second)) _ _ (ap not (eq-eqb wire.second wire.second refl))
    ∙ ap (requests_in_rr Write) (rr_again request (omega (arith, most)))
    ∙ otherwise (ltb (length request) 2) _ _ (le-ltb (length request) 2 least))
