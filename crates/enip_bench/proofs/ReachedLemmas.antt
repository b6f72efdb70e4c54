-- What holds for every world reached from an opening.
use Rattle.std.proofs.Common.{◌≡◌, ℕ, ◌≤◌, Bool, true, false, cond, Option, Some, None, option_map, List, [], ◌∷◌, ◌++◌, length, Err, append-nil, refl, ap, sym, ◌∙◌, subst, arith}
use Rattle.std.proofs.lemmas.List.{length-drop}
use Rattle.std.proofs.lemmas.Option.{same_Some}
use Rattle.cip_class3.specs.Item.{message_of}
use Rattle.cip_class3.specs.OriginatorRule.{OriginatorState, submit_refusal, stage_of, is_reply, accepted_reply}
use Rattle.cip_ledger.specs.Device.{Device}
use Rattle.enip_adapter.specs.Calls.{AdapterState}
use Rattle.enip_client.specs.Calls.{submits, submitted, stage_in, bytes_lent}
use Rattle.enip_client.specs.Client.{ClientState, fed}
use Rattle.enip_client.specs.declared.fault.ClientFault.{ClientFault}
use Rattle.enip_client.specs.declared.fault.SubmitFault.TheVariants as submit_faults
use Rattle.enip_client.specs.declared.state.State.{State}
use Rattle.cip_class3.specs.declared.originator.Refused.{Refused}
use Rattle.enip_client.specs.Hears.{accepted}
use Rattle.enip_adapter.specs.OwnWrites.{device_written}
use Rattle.enip_bench.specs.CountingWorld.{CountingWorld, reply_heard, counting_step, counting_run, counting_seen}
use Rattle.enip_bench.specs.Events.{Event, delivery}
use Rattle.enip_bench.specs.FrameLaw.{headline, ShowsNumbers}
use Rattle.enip_bench.specs.ItemWorld.{ItemWorld, items_at_opening, item_run}
use Rattle.enip_bench.specs.ObjectsRun.{after_exec, exec_answer}
use Rattle.enip_bench.specs.Reached.{IsReached}
use Rattle.enip_bench.specs.Seen.{Seen}
use Rattle.enip_bench.specs.Stored.{IsCapacityFor}
use Rattle.enip_bench.proofs.AdapterShows.{Wire, IsWire, frame_back}
use Rattle.enip_bench.proofs.ClientShows.{ClientShows, submits-allowed, IsHeardItem, heard-item}
use Rattle.enip_bench.proofs.FrameAgreement.{frames_agree}
use Rattle.enip_bench.proofs.FrameSteps.{shown, Agrees, Shows, run_shows}
use Rattle.enip_bench.proofs.OpenedLemmas.{IsOpened}
use Rattle.enip_bench.proofs.OpeningRun.{opening_shows}
use Rattle.enip_bench.proofs.PositionLemmas.{delivered, delivery-map}
use Rattle.enip_bench.proofs.SmallLemmas.{IsShort}

pub run_joined : (world : CountingWorld) (events later : List Event) →
    counting_run world (events ++ later) ≡ counting_run (counting_run world events) later
run_joined world [] later = refl
run_joined world (event ∷ events) later = run_joined (counting_step world event) events later

-- one more event
pub reached_again : (world : CountingWorld) (event : Event) → IsReached world → IsReached (counting_step world event)
reached_again world event reached = record {
  objects = reached.objects;
  listen = reached.listen;
  limits = reached.limits;
  wants = reached.wants;
  wanted = reached.wanted;
  begun = reached.begun;
  opened = reached.opened;
  events = reached.events ++ event ∷ [];
  come = ap (λ w. counting_step w event) reached.come ∙ sym (run_joined reached.begun reached.events (event ∷ []));
}

-- the item world that a world shows
record Item (world : CountingWorld) : Type 0 where
  wire : Wire
  ok : IsWire wire
  items : ItemWorld Device
  shows : Shows wire world items

item_of : (world : CountingWorld) → IsReached world → Item world
item_of world reached =
    let opened : IsOpened reached.objects reached.wants reached.begun
    = opening_shows reached.objects reached.listen reached.limits reached.wants reached.wanted reached.begun reached.opened in
    let start : ItemWorld Device
    = items_at_opening reached.wants.first_count reached.wants.o_to_t_size reached.wants.t_to_o_size reached.objects in
    record {
      wire = opened.wire;
      ok = opened.ok;
      items = item_run after_exec exec_answer device_written start reached.events;
      shows = subst (λ w. Shows opened.wire w
          (item_run after_exec exec_answer device_written start reached.events)) (sym reached.come)
          (run_shows opened.wire reached.events reached.begun start opened.ok opened.shows);
    }

-- the client of a world has its connection open
record Connected (world : CountingWorld) : Type 0 where
  wire : Wire
  originator : OriginatorState
  shows : ClientShows wire world.client originator

connected_in : (world : CountingWorld) → IsReached world → Connected world
connected_in world reached =
    let item : Item world = item_of world reached in
    record {
      wire = item.wire;
      originator = item.items.originator;
      shows = subst (λ c. ClientShows item.wire c item.items.originator) (sym (ap (λ w. w.client) item.shows.is))
          item.shows.agrees.client_shows;
    }

-- a request is refused only by the originator's rule
pub submits_as_ruled : (world : CountingWorld) (request : List ℕ) → IsReached world →
    submits world.client.state request
    ≡ submitted world.client.state request (submit_refusal world.client.state.originator request)
submits_as_ruled world request reached =
    let c : Connected world = connected_in world reached in
    submits-allowed c.wire world.client c.originator request c.shows
    ∙ ap (λ (o : OriginatorState). submitted world.client.state request (submit_refusal o request)) (sym c.shows.originator)

-- so a submit never returns a fault of the client
not_of_client : (s : State) (request : List ℕ) (why : Option Refused) (fault : ClientFault) →
    bytes_lent (submitted s request why) ≡ Err (submit_faults.Client fault) → ⊥
not_of_client s request (Some why) fault e = absurd (cc)
not_of_client s request None fault e = absurd (cc)

pub no_client_fault : (world : CountingWorld) (request : List ℕ) (fault : ClientFault) → IsReached world →
    bytes_lent (submits world.client.state request) ≡ Err (submit_faults.Client fault) → ⊥
no_client_fault world request fault reached e =
    not_of_client world.client.state request (submit_refusal world.client.state.originator request) fault
    (sym (ap bytes_lent (submits_as_ruled world request reached)) ∙ e)

-- the client has a stage
pub stage_there : (world : CountingWorld) → IsReached world →
    stage_in world.client.state ≡ Some (stage_of world.client.state.originator.phase)
stage_there world reached =
    ap (λ b. cond b (Some (stage_of world.client.state.originator.phase)) None) (connected_in world reached).shows.is_open

-- a frame is longer than the item in it
longer : (wire : Wire) (bytes : List ℕ) → length bytes ≤ length (frame_back wire bytes)
longer wire bytes = omega (arith, ap length (append-nil bytes))

reply-within : (originator : OriginatorState) (bytes reply : List ℕ) →
    reply_heard (accepted (accepted_reply originator bytes)) ≡ Some reply → length reply ≤ length bytes
reply-within originator bytes reply e = go (is_reply originator.t_to_o_size originator.phase bytes) e
  where
    go : (is : Bool) → reply_heard (accepted (cond is (Some (message_of bytes)) None)) ≡ Some reply → length reply ≤ length bytes
    go true e = subst (λ r. length r ≤ length bytes) (same_Some (message_of bytes) reply e) (omega (arith, length-drop 2 bytes))
    go false e = absurd (cc)

-- an accepted reply is not longer than its frame
shown-fits : (wire : Wire) (a : AdapterState) (c : ClientState) (world : ItemWorld Device) (position : ℕ) (bytes reply : List ℕ) →
    IsWire wire → Agrees wire a c world →
    delivery world.last_back (shown wire a c world).back position ≡ Some bytes → reply_heard (fed c bytes).heard_event ≡ Some reply →
    length reply ≤ length bytes
shown-fits wire a c world position bytes reply ok agrees e heard_event =
    go (delivery world.last_back world.back position) refl (sym (delivery-map (frame_back wire) world.last_back world.back position) ∙ e)
  where
    go : (found : Option (List ℕ)) → delivery world.last_back world.back position ≡ found →
        option_map (frame_back wire) found ≡ Some bytes → length reply ≤ length bytes
    go None f g = absurd (cc)
    go (Some item) f g =
        let same : frame_back wire item ≡ bytes = same_Some (frame_back wire item) bytes g in
        let short : IsShort item = agrees.small.back position item (delivered world.last_back world.back position item f) in
        let heard : IsHeardItem c item (fed c (frame_back wire item)) = heard-item wire c world.originator item ok agrees.client_shows short in
        let within : length reply ≤ length item
        = reply-within c.state.originator item reply (sym (ap reply_heard heard.heard_event) ∙ (ap (λ b. reply_heard (fed c b).heard_event) same ∙ heard_event)) in
        let long : length item ≤ length bytes = subst (λ b. length item ≤ length b) same (longer wire item) in
        omega (arith, within, long)

pub accepted_fits : (world : CountingWorld) (position : ℕ) (bytes : List ℕ) → IsReached world →
    delivery world.last_back world.back position ≡ Some bytes → IsCapacityFor (length bytes) (fed world.client bytes).heard_event
accepted_fits world position bytes reached e reply heard_event =
    let item : Item world = item_of world reached in
    shown-fits item.wire item.shows.ends_at item.shows.starts_at item.items position bytes reply item.ok item.shows.agrees
    (subst (λ (w : CountingWorld). delivery w.last_back w.back position ≡ Some bytes) item.shows.is e)
    (subst (λ (w : CountingWorld). reply_heard (fed w.client bytes).heard_event ≡ Some reply) item.shows.is heard_event)

-- the headline, for a world after these events
pub headline_holds : (old : CountingWorld) (events : List Event) (new : CountingWorld) → new ≡ counting_run old events →
    headline old events new
headline_holds old events new went objects listen limits wants opened before is e come =
    ap counting_seen (went ∙ (ap (λ w. counting_run w events) come ∙ sym (run_joined opened before events)))
    ∙ frames_agree objects listen limits wants opened (before ++ events) is e

-- the headline, for what a world shows now
pub shows_numbers : (world : CountingWorld) (seen : Seen Device) → IsReached world → seen ≡ counting_seen world →
    ShowsNumbers world seen
shows_numbers world seen reached is = record {
  came = reached;
  shown = λ by. is ∙ (ap counting_seen by.come
      ∙ frames_agree by.objects by.listen by.limits by.wants by.begun by.events by.wanted by.opened);
}
