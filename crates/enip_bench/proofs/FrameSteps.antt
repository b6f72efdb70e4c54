-- Each event has the same effect on the counting world as on the item world.
use Rattle.std.proofs.Common.{◌≡◌, ℕ, ◌+◌, ◌-◌, Bool, true, false, cond, Option, Some, None, option_map, List, [], ◌∷◌, ◌++◌, map, length, refl, ap, ap₂, sym, ◌∙◌, subst, leb, leb-true}
use Rattle.std.proofs.lemmas.Bool.{and_parts}
use Rattle.std.proofs.lemmas.Option.{same_Some}
use Rattle.cip_class3.specs.Deliveries.{answer_to}
use Rattle.cip_class3.specs.Item.{item}
use Rattle.cip_class3.specs.OriginatorRule.{OriginatorState, form_refusal, submit_refusal, waiting_item, with_next_request, after_item, accepted_reply, after_give_up}
use Rattle.cip_class3.specs.TargetRule.{TargetStep, target_step}
use Rattle.cip_class3.specs.declared.originator.Refused.{Refused}
use Rattle.cip_ledger.specs.Device.{Device}
use Rattle.enip_wire.specs.Frames.{frame}
use Rattle.enip_adapter.specs.Calls.{AdapterState, after_call}
use Rattle.enip_adapter.specs.Calls.Call.{Feeds, Ticks, Writes}
use Rattle.enip_client.specs.Calls.{submitted, item_sent}
use Rattle.enip_client.specs.Client.{ClientState, fed}
use Rattle.enip_client.specs.Frames.{request_frame}
use Rattle.enip_client.specs.Hears.{accepted}
use Rattle.enip_adapter.specs.OwnWrites.{OwnWrite, device_written}
use Rattle.enip_bench.specs.CountingWorld as counting
use Rattle.enip_bench.specs.CountingWorld.{CountingWorld, counting_step, counting_run, counting_seen, with_fed, LAST_MOMENT}
use Rattle.cip_bytes.specs.declared.protocol.TheConstants.{UNCONNECTED_LIMIT}
use Rattle.enip_bench.specs.Events.{Event, Submit, Resend, Reach, Back, Other, Write, Shut, GiveUp, delivery, is_unconnected_request, with_any}
use Rattle.enip_bench.specs.ItemWorld as items
use Rattle.enip_bench.specs.ItemWorld.{ItemWorld, item_step, item_run, with_step, with_waiting_item_sent}
use Rattle.enip_bench.specs.ObjectsRun.{after_exec, exec_answer}
use Rattle.enip_bench.proofs.AdapterShows.{Wire, IsWire, AdapterShows, IsReached, frame_out, frame_back, reached-open, reached-shut, asked-other, written_by, shut}
use Rattle.enip_bench.proofs.ClientShows.{ClientShows, with_originator, shows-originator, item-out, submits-allowed, resends-waiting, gives-up, IsHeardItem, heard-item}
use Rattle.enip_bench.proofs.PositionLemmas.{Each, delivered, delivery-map, map-push, map-with_any}
use Rattle.enip_bench.proofs.SmallLemmas.{IsShort, IsSmallOriginator, IsSmallTarget, each-any, allowed-formed, submitted-short, small-submit, small-item, small-give_up, small-step, answer-short}

-- the counting world with these ends, and the items of the item world in their frames
abbrev pub shown : Wire → AdapterState → ClientState → ItemWorld Device → CountingWorld
shown wire adapter client world = record {
  adapter = adapter;
  client = client;
  peer = wire.peer;
  second = wire.second;
  sent = map (frame_out wire) world.sent;
  back = map (frame_back wire) world.back;
  last_reached = world.last_reached;
  last_back = world.last_back;
  submits = world.submits;
  accepted = world.accepted;
}

-- each end and each item is within the sizes
pub record IsSmall (world : ItemWorld Device) : Type 0 where
  pub ours : IsSmallOriginator world.originator
  pub theirs : IsSmallTarget world.target
  pub sent : Each IsShort world.sent
  pub back : Each IsShort world.back

-- both ends agree with the item world
pub record Agrees (wire : Wire) (adapter : AdapterState) (client : ClientState) (world : ItemWorld Device) : Type 0 where
  pub adapter_shows : AdapterShows wire adapter world.target world.router world.is_open
  pub client_shows : ClientShows wire client world.originator
  pub small : IsSmall world

-- the counting world shows the item world
pub record Shows (wire : Wire) (counting : CountingWorld) (world : ItemWorld Device) : Type 0 where
  pub ends_at : AdapterState
  pub starts_at : ClientState
  pub is : counting ≡ shown wire ends_at starts_at world
  pub agrees : Agrees wire ends_at starts_at world

-- a request is taken; for that its form is enough
pub at_taken : (wire : Wire) (a : AdapterState) (c : ClientState) (world : ItemWorld Device) (request : List ℕ) →
    form_refusal world.originator.o_to_t_size request ≡ None → Agrees wire a c world →
    Shows wire (counting.after_submit (submitted c.state request None) (shown wire a c world))
    (items.after_submit None world request)
at_taken wire a c world request e agrees =
    let o : OriginatorState = world.originator in
    let next : List ℕ = item o.next request in
    let shows : ClientShows wire c o = agrees.client_shows in
    let small : IsSmall world = agrees.small in
    record {
      ends_at = a;
      starts_at = with_originator c (with_next_request c.state.originator request);
      is = ap₂ (λ held last. (let x : CountingWorld = record (shown wire a c world) {
        client = record { state = record c.state { originator = with_next_request c.state.originator request }; held = held };
        sent = map (frame_out wire) world.sent ++ last ∷ [];
        submits = world.submits + 1;
      } in x)) shows.held
          (ap (λ (p : OriginatorState). frame (item_sent c.state (item p.next request))) shows.originator ∙ item-out wire c o next shows)
          ∙ ap (λ sent. (let x : CountingWorld = record (shown wire a c world) {
            client = with_originator c (with_next_request c.state.originator request);
            sent = sent;
            submits = world.submits + 1;
          } in x)) (sym (map-push (frame_out wire) world.sent next));
      agrees = record {
        adapter_shows = agrees.adapter_shows;
        client_shows = shows-originator wire c o (with_next_request c.state.originator request) (with_next_request o request)
            shows (ap (λ p. with_next_request p request) shows.originator);
        small = record {
          ours = small-submit o request small.ours e;
          theirs = small.theirs;
          sent = each-any (Some next) world.sent small.sent (λ x f. subst IsShort
              (same_Some next x f) (submitted-short o request small.ours e));
          back = small.back;
        };
      };
    }

at_submit : (wire : Wire) (a : AdapterState) (c : ClientState) (world : ItemWorld Device) (request : List ℕ)
    (why : Option Refused) → submit_refusal world.originator request ≡ why → Agrees wire a c world →
    Shows wire (counting.after_submit (submitted c.state request why) (shown wire a c world))
    (items.after_submit why world request)
at_submit wire a c world request (Some why) e agrees =
    record { ends_at = a; starts_at = c; is = refl; agrees = agrees }
at_submit wire a c world request None e agrees =
    at_taken wire a c world request (allowed-formed world.originator request e) agrees

at_resend : (wire : Wire) (a : AdapterState) (c : ClientState) (world : ItemWorld Device) → Agrees wire a c world →
    Shows wire (counting_step (shown wire a c world) Resend) (with_waiting_item_sent world)
at_resend wire a c world agrees =
    let small : IsSmall world = agrees.small in
    record {
      ends_at = a;
      starts_at = c;
      is = ap (λ sent. (let x : CountingWorld = record (shown wire a c world) { sent = sent } in x))
          (ap (λ o. with_any o (map (frame_out wire) world.sent)) (resends-waiting wire c world.originator agrees.client_shows)
          ∙ sym (map-with_any (frame_out wire) (waiting_item world.originator.phase) world.sent));
      agrees = record {
        adapter_shows = agrees.adapter_shows;
        client_shows = agrees.client_shows;
        small = record {
          ours = small.ours;
          theirs = small.theirs;
          sent = each-any (waiting_item world.originator.phase) world.sent small.sent small.ours.waiting;
          back = small.back;
        };
      };
    }

at_give_up : (wire : Wire) (a : AdapterState) (c : ClientState) (world : ItemWorld Device) → Agrees wire a c world →
    Shows wire (counting_step (shown wire a c world) GiveUp)
    (item_step after_exec exec_answer device_written world GiveUp)
at_give_up wire a c world agrees =
    let shows : ClientShows wire c world.originator = agrees.client_shows in
    let small : IsSmall world = agrees.small in
    record {
      ends_at = a;
      starts_at = with_originator c (after_give_up c.state.originator);
      is = ap₂ (λ held s. (let x : CountingWorld = record (shown wire a c world) { client = record { state = s; held = held } } in x))
          shows.held (gives-up wire c world.originator shows);
      agrees = record {
        adapter_shows = agrees.adapter_shows;
        client_shows = shows-originator wire c world.originator (after_give_up c.state.originator)
            (after_give_up world.originator) shows (ap after_give_up shows.originator);
        small = record {
          ours = small-give_up world.originator small.ours;
          theirs = small.theirs;
          sent = small.sent;
          back = small.back;
        };
      };
    }

at_shut : (wire : Wire) (a : AdapterState) (c : ClientState) (world : ItemWorld Device) → Agrees wire a c world →
    Shows wire (counting_step (shown wire a c world) Shut) (record world { is_open = false })
at_shut wire a c world agrees = record {
  ends_at = after_call a (Ticks LAST_MOMENT);
  starts_at = c;
  is = refl;
  agrees = record {
    adapter_shows = shut wire a world.target world.router world.is_open agrees.adapter_shows;
    client_shows = agrees.client_shows;
    small = record {
      ours = agrees.small.ours;
      theirs = agrees.small.theirs;
      sent = agrees.small.sent;
      back = agrees.small.back;
    };
  };
}

at_write : (wire : Wire) (a : AdapterState) (c : ClientState) (world : ItemWorld Device) (write : OwnWrite) →
    Agrees wire a c world →
    Shows wire (counting_step (shown wire a c world) (Write write))
    (record world { router = device_written write world.router })
at_write wire a c world write agrees = record {
  ends_at = after_call a (Writes write);
  starts_at = c;
  is = refl;
  agrees = record {
    adapter_shows = written_by wire a world.target world.router world.is_open write agrees.adapter_shows;
    client_shows = agrees.client_shows;
    small = record {
      ours = agrees.small.ours;
      theirs = agrees.small.theirs;
      sent = agrees.small.sent;
      back = agrees.small.back;
    };
  };
}

at_other : (wire : Wire) (a : AdapterState) (c : ClientState) (world : ItemWorld Device) (request : List ℕ) (is : Bool) →
    is_unconnected_request request ≡ is → IsWire wire → Agrees wire a c world →
    Shows wire (cond is (counting.after_other (shown wire a c world) request) (shown wire a c world))
    (cond is (record world { router = after_exec world.router UNCONNECTED_LIMIT request }) world)
at_other wire a c world request false e ok agrees = record { ends_at = a; starts_at = c; is = refl; agrees = agrees }
at_other wire a c world request true e ok agrees = record {
  ends_at = after_call a (Feeds 0 wire.second (frame (request_frame wire.second 0 request)));
  starts_at = c;
  is = refl;
  agrees = record {
    adapter_shows = asked-other wire a world.target world.router world.is_open request ok agrees.adapter_shows
        (leb-true 2 (length request) (and_parts (leb 2 (length request)) (leb (length request) 504) e).0)
        (leb-true (length request) 504 (and_parts (leb 2 (length request)) (leb (length request) 504) e).1);
    client_shows = agrees.client_shows;
    small = record {
      ours = agrees.small.ours;
      theirs = agrees.small.theirs;
      sent = agrees.small.sent;
      back = agrees.small.back;
    };
  };
}

-- after an item's frame, at an open or a closed target
at_reached : (wire : Wire) (a : AdapterState) (c : ClientState) (world : ItemWorld Device) (bytes : List ℕ) (position : ℕ)
    (is_open : Bool) → world.is_open ≡ is_open → IsWire wire → IsShort bytes → Agrees wire a c world →
    Shows wire (counting.after_reach (Some (frame_out wire bytes)) (shown wire a c world) position)
    (let moved : ItemWorld Device = record world { last_reached = Some position } in
    cond is_open (with_step moved (target_step after_exec exec_answer world.target world.router bytes)) moved)
at_reached wire a c world bytes position true e ok short agrees =
    let step : TargetStep Device = target_step after_exec exec_answer world.target world.router bytes in
    let small : IsSmall world = agrees.small in
    let theirs : IsSmallTarget step.target = small-step world.target world.router bytes small.theirs in
    let done : IsReached wire a bytes step.target step.router true (answer_to step)
    = reached-open wire a world.target world.router bytes ok
    (subst (AdapterShows wire a world.target world.router) e agrees.adapter_shows) short in
    record {
      ends_at = after_call a (Feeds 0 wire.peer (frame_out wire bytes));
      starts_at = c;
      is = ap (λ back. (let x : CountingWorld = record (shown wire a c world) {
        adapter = after_call a (Feeds 0 wire.peer (frame_out wire bytes));
        back = back;
        last_reached = Some position;
      } in x))
          (ap (λ o. with_any o (map (frame_back wire) world.back)) done.output
          ∙ sym (map-with_any (frame_back wire) (answer_to step) world.back));
      agrees = record {
        adapter_shows = subst (AdapterShows wire (after_call a (Feeds 0 wire.peer (frame_out wire bytes))) step.target step.router)
            (sym e) done.shows;
        client_shows = agrees.client_shows;
        small = record {
          ours = small.ours;
          theirs = theirs;
          sent = small.sent;
          back = each-any (answer_to step) world.back small.back (answer-short step theirs);
        };
      };
    }
at_reached wire a c world bytes position false e ok short agrees =
    let small : IsSmall world = agrees.small in
    let done : IsReached wire a bytes world.target world.router false None
    = reached-shut wire a world.target world.router bytes ok
    (subst (AdapterShows wire a world.target world.router) e agrees.adapter_shows) short in
    record {
      ends_at = after_call a (Feeds 0 wire.peer (frame_out wire bytes));
      starts_at = c;
      is = ap (λ o. (let x : CountingWorld = record (shown wire a c world) {
        adapter = after_call a (Feeds 0 wire.peer (frame_out wire bytes));
        back = with_any o (map (frame_back wire) world.back);
        last_reached = Some position;
      } in x)) done.output;
      agrees = record {
        adapter_shows = subst (AdapterShows wire (after_call a (Feeds 0 wire.peer (frame_out wire bytes))) world.target world.router)
            (sym e) done.shows;
        client_shows = agrees.client_shows;
        small = record { ours = small.ours; theirs = small.theirs; sent = small.sent; back = small.back };
      };
    }

at_reach : (wire : Wire) (a : AdapterState) (c : ClientState) (world : ItemWorld Device) (position : ℕ)
    (found : Option (List ℕ)) → ((bytes : List ℕ) → found ≡ Some bytes → IsShort bytes) → IsWire wire →
    Agrees wire a c world →
    Shows wire (counting.after_reach (option_map (frame_out wire) found) (shown wire a c world) position)
    (items.after_reach after_exec exec_answer device_written found world position)
at_reach wire a c world position None short ok agrees =
    record { ends_at = a; starts_at = c; is = refl; agrees = agrees }
at_reach wire a c world position (Some bytes) short ok agrees =
    at_reached wire a c world bytes position world.is_open refl ok (short bytes refl) agrees

-- a reply that the client accepts is the one of the item world
acceptance-same : (submits : ℕ) (o : Option (List ℕ)) →
    counting.acceptance submits (accepted o) ≡ option_map (λ reply. (submits - 1, reply)) o
acceptance-same submits None = refl
acceptance-same submits (Some reply) = refl

at_back : (wire : Wire) (a : AdapterState) (c : ClientState) (world : ItemWorld Device) (position : ℕ)
    (found : Option (List ℕ)) → ((bytes : List ℕ) → found ≡ Some bytes → IsShort bytes) → IsWire wire →
    Agrees wire a c world →
    Shows wire (counting.after_back (option_map (frame_back wire) found) (shown wire a c world) position)
    (items.after_back found world position)
at_back wire a c world position None short ok agrees =
    record { ends_at = a; starts_at = c; is = refl; agrees = agrees }
at_back wire a c world position (Some bytes) short ok agrees =
    let shows : ClientShows wire c world.originator = agrees.client_shows in
    let small : IsSmall world = agrees.small in
    let heard : IsHeardItem c bytes (fed c (frame_back wire bytes))
    = heard-item wire c world.originator bytes ok shows (short bytes refl) in
    record {
      ends_at = a;
      starts_at = with_originator c (after_item c.state.originator bytes);
      is = ap₂ (λ client heard_event. (let x : CountingWorld = record (shown wire a c world) {
        client = client;
        last_back = Some position;
        accepted = with_any (counting.acceptance world.submits heard_event) world.accepted;
      } in x)) heard.client heard.heard_event
          ∙ ap (λ o. (let x : CountingWorld = record (shown wire a c world) {
            client = with_originator c (after_item c.state.originator bytes);
            last_back = Some position;
            accepted = with_any o world.accepted;
          } in x))
          (acceptance-same world.submits (accepted_reply c.state.originator bytes)
          ∙ ap (λ p. option_map (λ reply. (world.submits - 1, reply)) (accepted_reply p bytes)) shows.originator);
      agrees = record {
        adapter_shows = agrees.adapter_shows;
        client_shows = shows-originator wire c world.originator (after_item c.state.originator bytes)
            (after_item world.originator bytes) shows (ap (λ p. after_item p bytes) shows.originator);
        small = record {
          ours = small-item world.originator bytes small.ours;
          theirs = small.theirs;
          sent = small.sent;
          back = small.back;
        };
      };
    }

-- this holds for each event
step-shown : (wire : Wire) (a : AdapterState) (c : ClientState) (world : ItemWorld Device) (event : Event) → IsWire wire →
    Agrees wire a c world →
    Shows wire (counting_step (shown wire a c world) event)
    (item_step after_exec exec_answer device_written world event)
step-shown wire a c world (Submit request) ok agrees =
    subst (λ lent. Shows wire (counting.after_submit lent (shown wire a c world))
    (items.after_submit (submit_refusal world.originator request) world request))
    (sym (submits-allowed wire c world.originator request agrees.client_shows))
    (at_submit wire a c world request (submit_refusal world.originator request) refl agrees)
step-shown wire a c world Resend ok agrees = at_resend wire a c world agrees
step-shown wire a c world (Reach position) ok agrees =
    subst (λ found. Shows wire (counting.after_reach found (shown wire a c world) position)
    (items.after_reach after_exec exec_answer device_written (delivery world.last_reached world.sent position) world
    position))
    (sym (delivery-map (frame_out wire) world.last_reached world.sent position))
    (at_reach wire a c world position (delivery world.last_reached world.sent position)
    (λ bytes e. agrees.small.sent position bytes (delivered world.last_reached world.sent position bytes e)) ok agrees)
step-shown wire a c world (Back position) ok agrees =
    subst (λ found. Shows wire (counting.after_back found (shown wire a c world) position)
    (items.after_back (delivery world.last_back world.back position) world position))
    (sym (delivery-map (frame_back wire) world.last_back world.back position))
    (at_back wire a c world position (delivery world.last_back world.back position)
    (λ bytes e. agrees.small.back position bytes (delivered world.last_back world.back position bytes e)) ok agrees)
step-shown wire a c world (Other request) ok agrees =
    at_other wire a c world request (is_unconnected_request request) refl ok agrees
step-shown wire a c world (Write write) ok agrees = at_write wire a c world write agrees
step-shown wire a c world Shut ok agrees = at_shut wire a c world agrees
step-shown wire a c world GiveUp ok agrees = at_give_up wire a c world agrees

pub step_shows : (wire : Wire) (world : CountingWorld) (item_world : ItemWorld Device) (event : Event) → IsWire wire →
    Shows wire world item_world →
    Shows wire (counting_step world event) (item_step after_exec exec_answer device_written item_world event)
step_shows wire world item_world event ok shows =
    subst (λ w. Shows wire (counting_step w event)
    (item_step after_exec exec_answer device_written item_world event)) (sym shows.is)
    (step-shown wire shows.ends_at shows.starts_at item_world event ok shows.agrees)

-- and for any list of events
pub run_shows : (wire : Wire) (events : List Event) (world : CountingWorld) (item_world : ItemWorld Device) → IsWire wire →
    Shows wire world item_world →
    Shows wire (counting_run world events) (item_run after_exec exec_answer device_written item_world events)
run_shows wire [] world item_world ok shows = shows
run_shows wire (event ∷ events) world item_world ok shows =
    run_shows wire events (counting_step world event)
    (item_step after_exec exec_answer device_written item_world event) ok
    (step_shows wire world item_world event ok shows)
