-- The client while its connection is open, and how each of its calls changes it.
use Rattle.std.proofs.Common.{◌≡◌, ℕ, ◌≤◌, Bool, true, false, ◌&&◌, cond, eqb, Option, Some, None, option_map, List, [], length, refl, ap, sym, ◌∙◌, arith}
use Rattle.std.proofs.lemmas.Bool.{eq-eqb}
use Rattle.cip_bytes.specs.declared.protocol.TheConstants.{LARGEST_CONNECTION_SIZE}
use Rattle.cip_class3.specs.OriginatorRule.{OriginatorState, submit_refusal, waiting_item, after_item, accepted_reply, after_give_up}
use Rattle.enip_wire.specs.Frames.{Frame, frame}
use Rattle.enip_wire.proofs.WriteLemmas.{unit_again}
use Rattle.enip_client.specs.Calls.{refusal, submits, submits_unless, submitted, resends, item_sent, is_connected, after_giving_up}
use Rattle.enip_client.specs.Client.{ClientState, Fed, fed}
use Rattle.enip_client.specs.Frames.{item_frame}
use Rattle.enip_client.specs.Hears.{hears, hears_awaiting, item_turn, is_for_connection, accepted}
use Rattle.enip_client.specs.State.{is_registered, session_in, is_open, o_to_t_id_in}
use Rattle.enip_bench.proofs.AdapterShows.{Wire, IsWire, frame_out, frame_back}
use Rattle.enip_bench.proofs.FeedLemmas.{IsHeardWhole, client-fed, is_unit}

-- the session is registered and the connection open, nothing is awaited or held, and there is no fault
pub record ClientShows (wire : Wire) (c : ClientState) (end : OriginatorState) : Type 0 where
  pub held : c.held ≡ []
  pub registered : is_registered c.state.registration ≡ true
  pub session : session_in c.state.registration ≡ wire.peer
  pub is_open : is_open c.state.connection_state ≡ true
  pub id : o_to_t_id_in c.state.connection_state ≡ wire.id
  pub awaiting : c.state.awaiting ≡ None
  pub fault : c.state.fault ≡ None
  pub originator : c.state.originator ≡ end
  pub t_to_o_id : c.state.wants.t_to_o_id ≡ wire.wants.t_to_o_id

-- the client with another originator
abbrev pub with_originator : ClientState → OriginatorState → ClientState
with_originator c originator = record { state = record c.state { originator = originator }; held = [] }

pub shows-originator : (wire : Wire) (c : ClientState) (old new other : OriginatorState) → ClientShows wire c old →
    new ≡ other → ClientShows wire (with_originator c new) other
shows-originator wire c old new other shows same = record {
  held = refl;
  registered = shows.registered;
  session = shows.session;
  is_open = shows.is_open;
  id = shows.id;
  awaiting = shows.awaiting;
  fault = shows.fault;
  originator = same;
  t_to_o_id = shows.t_to_o_id;
}

-- an item's frame, as the client lends it
pub item-out : (wire : Wire) (c : ClientState) (originator : OriginatorState) (item : List ℕ) →
    ClientShows wire c originator → frame (item_sent c.state item) ≡ frame_out wire item
item-out wire c originator item shows =
    ap (λ n. frame (item_frame n (o_to_t_id_in c.state.connection_state) item)) shows.session
    ∙ ap (λ n. frame (item_frame wire.peer n item)) shows.id

pub submits-allowed : (wire : Wire) (c : ClientState) (originator : OriginatorState) (request : List ℕ) →
    ClientShows wire c originator →
    submits c.state request ≡ submitted c.state request (submit_refusal originator request)
submits-allowed wire c originator request shows =
    let free : refusal c.state (is_open c.state.connection_state) ≡ None = rw (shows.fault, shows.is_open) refl in
    ap (submits_unless c.state request) free
    ∙ ap (λ (o : OriginatorState). submitted c.state request (submit_refusal o request)) shows.originator

pub connected : (wire : Wire) (c : ClientState) (originator : OriginatorState) → ClientShows wire c originator →
    is_connected c.state ≡ true
connected wire c originator shows = rw (shows.fault, shows.is_open) refl

-- the frame of the pending item, if one is pending
pub resends-waiting : (wire : Wire) (c : ClientState) (originator : OriginatorState) → ClientShows wire c originator →
    option_map frame (resends c.state) ≡ option_map (frame_out wire) (waiting_item originator.phase)
resends-waiting wire c originator shows =
    ap (λ b. option_map frame (cond b (option_map (item_sent c.state) (waiting_item c.state.originator.phase)) None))
    (connected wire c originator shows)
    ∙ (ap (λ (o : OriginatorState). option_map frame (option_map (item_sent c.state) (waiting_item o.phase))) shows.originator
    ∙ go (waiting_item originator.phase))
  where
    go : (o : Option (List ℕ)) → option_map frame (option_map (item_sent c.state) o) ≡ option_map (frame_out wire) o
    go None = refl
    go (Some item) = ap (λ b. Some b) (item-out wire c originator item shows)

pub gives-up : (wire : Wire) (c : ClientState) (originator : OriginatorState) → ClientShows wire c originator →
    after_giving_up c.state ≡ record c.state { originator = after_give_up c.state.originator }
gives-up wire c originator shows =
    ap (λ b. cond b (record c.state { originator = after_give_up c.state.originator }) c.state)
    (connected wire c originator shows)

-- the client after a frame with an item of the connection
pub record IsHeardItem (c : ClientState) (item : List ℕ) (fed : Fed) : Type 0 where
  pub client : fed.client ≡ with_originator c (after_item c.state.originator item)
  pub heard_event : fed.heard_event ≡ accepted (accepted_reply c.state.originator item)

hears-item : (wire : Wire) (c : ClientState) (originator : OriginatorState) (item : List ℕ) → IsWire wire →
    ClientShows wire c originator → length item ≤ LARGEST_CONNECTION_SIZE →
    hears c.state (item_frame wire.peer wire.wants.t_to_o_id item) ≡ record {
      state = record c.state { originator = after_item c.state.originator item };
      heard_event = accepted (accepted_reply c.state.originator item);
    }
hears-item wire c originator item is shows small =
    let f : Frame = item_frame wire.peer wire.wants.t_to_o_id item in
    let for : is_for_connection c.state f.header ≡ true
    = ap (λ b. (b && is_registered c.state.registration) && eqb wire.peer (session_in c.state.registration)) shows.is_open
    ∙ (ap (λ b. b && eqb wire.peer (session_in c.state.registration)) shows.registered
    ∙ eq-eqb wire.peer (session_in c.state.registration) (sym shows.session)) in
    ap (hears_awaiting c.state f) shows.awaiting
    ∙ (otherwise (is_for_connection c.state f.header) _ _ for
    ∙ (ap (item_turn c.state) (unit_again wire.wants.t_to_o_id item is.t_to_o_id (omega (arith, small)))
    ∙ otherwise (eqb wire.wants.t_to_o_id c.state.wants.t_to_o_id) _ _
    (eq-eqb wire.wants.t_to_o_id c.state.wants.t_to_o_id (sym shows.t_to_o_id))))
  where
    otherwise : {A : Type 0} (b : Bool) (x y : A) → b ≡ true → cond b x y ≡ x
    otherwise true x y e = refl
    otherwise false x y e = absurd (cc)

pub heard-item : (wire : Wire) (c : ClientState) (originator : OriginatorState) (item : List ℕ) → IsWire wire →
    ClientShows wire c originator → length item ≤ LARGEST_CONNECTION_SIZE → IsHeardItem c item (fed c (frame_back wire item))
heard-item wire c originator item is shows small =
    let f : Frame = item_frame wire.peer wire.wants.t_to_o_id item in
    let whole : IsHeardWhole c f (fed c (frame f))
    = client-fed c f shows.held shows.fault (is_unit wire.peer wire.wants.t_to_o_id item is.peer small) in
    let turn = hears-item wire c originator item is shows small in
    record {
      client = whole.client ∙ ap (λ t. (let x : ClientState = record { state = t.state; held = [] } in x)) turn;
      heard_event = whole.heard_event ∙ ap (λ t. t.heard_event) turn;
    }
