-- What the owner is asked over whole frames, by the numbers with their requests.
use Rattle.std.proofs.Common.{◌≡◌, ℕ, ◌≤◌, ◌-◌, Bool, true, false, cond, leb, leb-true, Option, Some, None, option_map, List, [], ◌∷◌, ◌++◌, length, map, append-nil, append_assoc, Result, Ok, Err, refl, ap, sym, ◌∙◌, subst, arith}
use Rattle.std.proofs.lemmas.Bool.{and_parts}
use Rattle.std.proofs.lemmas.Option.{slice_get_within, get_or_from_slice_get}
use Rattle.cip_class3.specs.declared.originator.Refused.{Refused}
use Rattle.cip_bytes.specs.declared.protocol.TheConstants.{UNCONNECTED_LIMIT}
use Rattle.cip_ledger.specs.Device.{Device}
use Rattle.cip_objects.specs.OwnRequests.{Asked}
use Rattle.enip_adapter.specs.Asks.{asks_by_step, asks_by_steps}
use Rattle.enip_adapter.specs.Calls.{Call}
use Rattle.enip_adapter.specs.Calls.Call.{Feeds}
use Rattle.enip_adapter.specs.declared.peer.Rights.TheVariants as rights
use Rattle.enip_adapter.specs.DeviceRuns.{DeviceStep, Requested, requests_by_route, requests_by_target, steps_of_calls}
use Rattle.enip_adapter.specs.OwnWrites.{device_written}
use Rattle.enip_adapter.specs.Runs.{after_calls}
use Rattle.enip_adapter.specs.SendRRData.{route_of}
use Rattle.enip_client.specs.Calls.{Lent, submits}
use Rattle.enip_client.specs.declared.fault.SubmitFault.{SubmitFault}
use Rattle.enip_client.specs.Frames.{request_frame}
use Rattle.enip_wire.specs.Frames.{frame}
use Rattle.enip_bench.specs.CountingWorld as counting
use Rattle.enip_bench.specs.CountingWorld.{CountingWorld, counting_step, counting_run}
use Rattle.enip_bench.specs.Events.{Event, Submit, Resend, Reach, Back, Other, Write, Shut, GiveUp, delivery, is_unconnected_request}
use Rattle.enip_bench.specs.FrameAsks.{calls_of_reach, calls_of_event, asks_by_event, asks_by_events, calls_in_frames, asks_in_frames, first_asks_in_frames, other_asks_in_frames, unasked_in_frames, one_ask_in_frames}
use Rattle.enip_bench.specs.FrameOnce.{objects_in, numbers_of, IsFirstArrival}
use Rattle.enip_bench.specs.ItemWorld.{ItemWorld}
use Rattle.enip_bench.specs.NumberedWorld.{NumberedWorld, refusal, stands, request_of}
use Rattle.enip_bench.specs.ObjectsRun.{after_exec, exec_answer, steps_of_log}
use Rattle.enip_bench.specs.Reached.{IsReached}
use Rattle.enip_bench.proofs.AdapterShows.{AdapterShows, frame_out}
use Rattle.enip_bench.proofs.AgreementLemmas.{items_after-image}
use Rattle.enip_bench.proofs.ArrivalLemmas.{arrival}
use Rattle.enip_bench.proofs.AskLemmas.{after_asking, answer_asking, written_asking, alone-asks, asking-log, asked_by, device_by, target-requests, arrival-asks, other-asks, routed-asks, one-ask}
use Rattle.enip_bench.proofs.FrameOnceLemmas.{begins, within, items_of, opened_of, shows_of, tracked, not_stood}
use Rattle.enip_bench.proofs.HeldLemmas.{has_form, held-logged}
use Rattle.enip_bench.proofs.Image.{item_of, image}
use Rattle.enip_bench.proofs.LogLemmas.{IsSubmitted}
use Rattle.enip_bench.proofs.Plain.{number_of, entries_of, plain}
use Rattle.enip_bench.proofs.PlainLemmas.{run_plain, stands-logged}
use Rattle.enip_bench.proofs.PositionLemmas.{delivered, delivery-map}
use Rattle.enip_bench.proofs.ReachedLemmas.{run_joined}
use Rattle.enip_bench.proofs.SeenLemmas.{router-same}
use Rattle.enip_bench.proofs.SmallLemmas.{IsShort}
use Rattle.enip_bench.proofs.SoundLemmas.{opening_sound, run_sound}
use Rattle.enip_bench.proofs.Soundness.{IsSound}
use Rattle.enip_bench.proofs.StepsOfCalls.{open-steps, shut-steps, other-steps}
use Rattle.enip_bench.proofs.TrackedSteps as tracks
use Rattle.enip_bench.proofs.TrackedSteps.{tracked_step, tracked_run}
use Rattle.enip_bench.proofs.TrackedWorld.{Own, Logged, is_logged, TrackedWorld, tracked_at_opening}

-- ---- what reaches the device by an event

-- the step of an arrival: its request, if the target is open and the log does not have it yet
abbrev arrival_steps : ℕ → Bool → Bool → Own → List DeviceStep
arrival_steps t_to_o_size is_open is_in_log own =
    cond is_open (map Requested (cond is_in_log [] ((t_to_o_size - 2, own.request) ∷ []))) []

abbrev reach_steps : ℕ → TrackedWorld → Option Own → List DeviceStep
reach_steps t_to_o_size world None = []
reach_steps t_to_o_size world (Some own) =
    arrival_steps t_to_o_size world.is_open (is_logged own.number world.log) own

module _ {world : CountingWorld} (by : IsReached world) where
  abbrev image_of : ItemWorld Device
  image_of =
      image after_exec exec_answer device_written by.wants.first_count by.wants.t_to_o_size by.objects
      by.wants.o_to_t_size (tracked by)

  image-same : items_of by ≡ image_of
  image-same =
      items_after-image after_exec exec_answer device_written begins within by.wants.first_count
      by.wants.o_to_t_size by.wants.t_to_o_size by.objects by.events by.wanted.first_count by.wanted.t_to_o_from

  sound_of : IsSound by.wants.o_to_t_size (tracked by)
  sound_of = run_sound by.wants.o_to_t_size by.events tracked_at_opening (opening_sound by.wants.o_to_t_size)

  adapter-shows : AdapterShows (opened_of by).wire world.adapter image_of.target image_of.router image_of.is_open
  adapter-shows =
      subst (λ (w : CountingWorld). AdapterShows (opened_of by).wire w.adapter image_of.target image_of.router
      image_of.is_open)
      (sym (shows_of by).is)
      (subst (λ (w : ItemWorld Device). AdapterShows (opened_of by).wire (shows_of by).ends_at w.target w.router
      w.is_open)
      image-same (shows_of by).agrees.adapter_shows)

  -- the objects are those after the log
  abbrev device_of : Device
  device_of = device_by by.wants.first_count by.wants.o_to_t_size by.wants.t_to_o_size by.objects (tracked by).log

  objects-by : objects_in world ≡ device_of
  objects-by = adapter-shows.objects

  -- what is delivered, in its frame
  abbrev framed : Option Own → Option (List ℕ)
  framed found = option_map (frame_out (opened_of by).wire) (option_map (item_of by.wants.first_count) found)

  items-delivered : (position : ℕ) →
      delivery (items_of by).last_reached (items_of by).sent position
      ≡ option_map (item_of by.wants.first_count) (delivery (tracked by).last_reached (tracked by).sent position)
  items-delivered position =
      ap (λ (w : ItemWorld Device). delivery w.last_reached w.sent position) image-same
      ∙ delivery-map (item_of by.wants.first_count) (tracked by).last_reached (tracked by).sent position

  frames-delivered : (position : ℕ) →
      delivery world.last_reached world.sent position
      ≡ framed (delivery (tracked by).last_reached (tracked by).sent position)
  frames-delivered position =
      ap (λ (w : CountingWorld). delivery w.last_reached w.sent position) (shows_of by).is
      ∙ delivery-map (frame_out (opened_of by).wire) (items_of by).last_reached (items_of by).sent position
      ∙ ap (option_map (frame_out (opened_of by).wire)) (items-delivered position)

  delivered-short : (position : ℕ) (own : Own) →
      delivery (tracked by).last_reached (tracked by).sent position ≡ Some own →
      IsShort (item_of by.wants.first_count own)
  delivered-short position own e =
      (shows_of by).agrees.small.sent position (item_of by.wants.first_count own)
      (delivered (items_of by).last_reached (items_of by).sent position (item_of by.wants.first_count own)
      (items-delivered position ∙ ap (option_map (item_of by.wants.first_count)) e))

  -- a frame with a request, at the adapter
  abbrev feeds : Own → List Call
  feeds own = Feeds 0 world.peer (frame_out (opened_of by).wire (item_of by.wants.first_count own)) ∷ []

  feeds-same : (own : Own) →
      steps_of_calls world.adapter (feeds own)
      ≡ steps_of_calls world.adapter
      (Feeds 0 (opened_of by).wire.peer (frame_out (opened_of by).wire (item_of by.wants.first_count own)) ∷ [])
  feeds-same own =
      ap (λ peer. steps_of_calls world.adapter
      (Feeds 0 peer (frame_out (opened_of by).wire (item_of by.wants.first_count own)) ∷ []))
      (ap (λ (w : CountingWorld). w.peer) (shows_of by).is)

  target-same : (position : ℕ) (own : Own) →
      delivery (tracked by).last_reached (tracked by).sent position ≡ Some own →
      requests_by_target rights.Write image_of.target (item_of by.wants.first_count own)
      ≡ cond (is_logged own.number (tracked by).log) [] ((by.wants.t_to_o_size - 2, own.request) ∷ [])
  target-same position own e =
      let numbers : TrackedWorld = tracked by in
      let sound : IsSound by.wants.o_to_t_size numbers = sound_of in
      let sent : IsSubmitted numbers.submits own
      = sound.sent.submitted position own (delivered numbers.last_reached numbers.sent position own e) in
      target-requests by.wants.first_count by.wants.o_to_t_size by.wants.t_to_o_size by.objects numbers.log own
      (has_form by.wants.o_to_t_size own.request (sound.form own.number own.request sent))
      (held-logged after_exec exec_answer device_written by.wants.first_count by.wants.t_to_o_size by.objects
      numbers.log own.number sound.log.falls (sound.sent.above position own e)
      (omega (
        arith,
        slice_get_within numbers.submits own.number own.request sent,
        sound.window.span,
        sound.window.bound,
      )))

  arrived-steps : (position : ℕ) (own : Own) (is_open : Bool) → (tracked by).is_open ≡ is_open →
      delivery (tracked by).last_reached (tracked by).sent position ≡ Some own →
      steps_of_calls world.adapter (feeds own)
      ≡ arrival_steps by.wants.t_to_o_size is_open (is_logged own.number (tracked by).log) own
  arrived-steps position own true opens e =
      feeds-same own
      ∙ open-steps (opened_of by).wire world.adapter image_of.target image_of.router
      (item_of by.wants.first_count own) (opened_of by).ok
      (subst (AdapterShows (opened_of by).wire world.adapter image_of.target image_of.router) opens adapter-shows)
      (delivered-short position own e)
      ∙ ap (map Requested) (target-same position own e)
  arrived-steps position own false opens e =
      feeds-same own
      ∙ shut-steps (opened_of by).wire world.adapter image_of.target image_of.router
      (item_of by.wants.first_count own) (opened_of by).ok
      (subst (AdapterShows (opened_of by).wire world.adapter image_of.target image_of.router) opens adapter-shows)
      (delivered-short position own e)

  found-steps : (position : ℕ) (found : Option Own) →
      delivery (tracked by).last_reached (tracked by).sent position ≡ found →
      steps_of_calls world.adapter (calls_of_reach world (framed found))
      ≡ reach_steps by.wants.t_to_o_size (tracked by) found
  found-steps position None e = refl
  found-steps position (Some own) e = arrived-steps position own (tracked by).is_open refl e

  pub reached-steps : (position : ℕ) →
      steps_of_calls world.adapter (calls_of_event world (Reach position))
      ≡ reach_steps by.wants.t_to_o_size (tracked by)
      (delivery (tracked by).last_reached (tracked by).sent position)
  reached-steps position =
      ap (λ found. steps_of_calls world.adapter (calls_of_reach world found)) (frames-delivered position)
      ∙ found-steps position (delivery (tracked by).last_reached (tracked by).sent position) refl

  -- a request of the other session
  abbrev other_call : List ℕ → Call
  other_call request = Feeds 0 world.second (frame (request_frame world.second 0 request))

  others-steps : (request : List ℕ) → is_unconnected_request request ≡ true →
      steps_of_calls world.adapter (other_call request ∷ [])
      ≡ map Requested (requests_by_route rights.Write request (route_of request))
  others-steps request e =
      let parts = and_parts (leb 2 (length request)) (leb (length request) 504) e in
      ap (λ second. steps_of_calls world.adapter (Feeds 0 second (frame (request_frame second 0 request)) ∷ []))
      (ap (λ (w : CountingWorld). w.second) (shows_of by).is)
      ∙ other-steps (opened_of by).wire world.adapter image_of.target image_of.router image_of.is_open request
      (opened_of by).ok adapter-shows (leb-true 2 (length request) parts.0) (leb-true (length request) 504 parts.1)

  -- ---- what is added to the log asks what the event asks

  abbrev asked : List Logged → List Asked
  asked log = (asked_by by.wants.first_count by.wants.o_to_t_size by.wants.t_to_o_size by.objects log).1

  abbrev adds : List Logged → List DeviceStep → Type 0
  adds log steps = asked log ≡ asked (tracked by).log ++ asks_by_steps device_of steps

  adds-nothing : (log : List Logged) → log ≡ (tracked by).log → adds log []
  adds-nothing log e = ap asked e ∙ sym (append-nil (asked (tracked by).log))

  submit-log : (why : Option Refused) (request : List ℕ) →
      (tracks.after_submit why (tracked by) request).log ≡ (tracked by).log
  submit-log None request = refl
  submit-log (Some why) request = refl

  came-log : (own : Own) (position : ℕ) (is : Bool) →
      (tracks.came_back is (tracked by) own position).log ≡ (tracked by).log
  came-log own position true = refl
  came-log own position false = refl

  back-log : (found : Option Own) (position : ℕ) →
      (tracks.after_back found (tracked by) position).log ≡ (tracked by).log
  back-log None position = refl
  back-log (Some own) position =
      came-log own position (tracks.is_own_awaited (tracked by).course own.number)

  arrives-adds : (own : Own) (position : ℕ) (is_open : Bool) →
      adds (tracks.reached is_open (tracked by) own position).log
      (arrival_steps by.wants.t_to_o_size is_open (is_logged own.number (tracked by).log) own)
  arrives-adds own position true =
      arrival-asks by.wants.first_count by.wants.o_to_t_size by.wants.t_to_o_size by.objects (tracked by).log own
      (is_logged own.number (tracked by).log)
  arrives-adds own position false = adds-nothing (tracked by).log refl

  reach-adds : (found : Option Own) (position : ℕ) →
      adds (tracks.after_reach found (tracked by) position).log (reach_steps by.wants.t_to_o_size (tracked by) found)
  reach-adds None position = adds-nothing (tracked by).log refl
  reach-adds (Some own) position = arrives-adds own position (tracked by).is_open

  other-adds : (request : List ℕ) (is : Bool) → is_unconnected_request request ≡ is →
      adds (tracks.after_other is (tracked by) request).log
      (steps_of_calls world.adapter (cond is (other_call request ∷ []) []))
  other-adds request true e =
      other-asks by.wants.first_count by.wants.o_to_t_size by.wants.t_to_o_size by.objects (tracked by).log request
      ∙ ap (λ steps. asked (tracked by).log ++ asks_by_steps device_of steps) (sym (others-steps request e))
  other-adds request false e = adds-nothing (tracked by).log refl

  event-adds : (event : Event) →
      adds (tracked_step by.wants.o_to_t_size (tracked by) event).log
      (steps_of_calls world.adapter (calls_of_event world event))
  event-adds (Submit request) =
      adds-nothing (tracked_step by.wants.o_to_t_size (tracked by) (Submit request)).log
      (submit-log (refusal by.wants.o_to_t_size (plain (tracked by)) request) request)
  event-adds Resend = adds-nothing (tracked by).log refl
  event-adds (Reach position) =
      let found : Option Own = delivery (tracked by).last_reached (tracked by).sent position in
      reach-adds found position
      ∙ ap (λ steps. asked (tracked by).log ++ asks_by_steps device_of steps) (sym (reached-steps position))
  event-adds (Back position) =
      adds-nothing (tracked_step by.wants.o_to_t_size (tracked by) (Back position)).log
      (back-log (delivery (tracked by).last_back (tracked by).back position) position)
  event-adds (Other request) = other-adds request (is_unconnected_request request) refl
  event-adds (Write write) =
      sym (append-nil (asked (tracked by).log))
      ∙ ap (λ asks. asked (tracked by).log ++ asks) (sym (alone-asks write device_of))
  event-adds Shut = adds-nothing (tracked by).log refl
  event-adds GiveUp = adds-nothing (tracked by).log refl

  pub event-asks : (event : Event) →
      asked (tracked_step by.wants.o_to_t_size (tracked by) event).log
      ≡ asked (tracked by).log ++ asks_by_event world event
  event-asks event =
      event-adds event
      ∙ ap (λ d. asked (tracked by).log
      ++ asks_by_steps d (steps_of_calls world.adapter (calls_of_event world event))) (sym objects-by)

  -- one more event
  abbrev pub again : (event : Event) → IsReached (counting_step world event)
  again event = record {
    objects = by.objects;
    listen = by.listen;
    limits = by.limits;
    wants = by.wants;
    wanted = by.wanted;
    begun = by.begun;
    opened = by.opened;
    events = by.events ++ event ∷ [];
    come = ap (λ w. counting_step w event) by.come ∙ sym (run_joined by.begun by.events (event ∷ []));
  }

-- ---- the laws

tracked-joined : (o_to_t_size : ℕ) (world : TrackedWorld) (events : List Event) (event : Event) →
    tracked_run o_to_t_size world (events ++ event ∷ [])
    ≡ tracked_step o_to_t_size (tracked_run o_to_t_size world events) event
tracked-joined o_to_t_size world [] event = refl
tracked-joined o_to_t_size world (before ∷ events) event =
    tracked-joined o_to_t_size (tracked_step o_to_t_size world before) events event

-- from a world on, what was asked before and what these events ask is what the log asks after them
asks-on : (later : List Event) {world : CountingWorld} (by : IsReached world) (before : List Asked) →
    before ≡ asked by (tracked by).log →
    before ++ asks_by_events world later ≡ asked by (tracked_run by.wants.o_to_t_size (tracked by) later).log
asks-on [] by before e = append-nil before ∙ e
asks-on (event ∷ later) {world} by before e =
    let more : List Asked = before ++ asks_by_event world event in
    let joined : tracked (again by event) ≡ tracked_step by.wants.o_to_t_size (tracked by) event
    = tracked-joined by.wants.o_to_t_size tracked_at_opening by.events event in
    sym (append_assoc before (asks_by_event world event) (asks_by_events (counting_step world event) later))
    ∙ asks-on later (again by event) more
    (ap (λ asks. asks ++ asks_by_event world event) e ∙ sym (event-asks by event)
    ∙ ap (λ (w : TrackedWorld). asked by w.log) (sym joined))
    ∙ ap (λ w. asked by (tracked_run by.wants.o_to_t_size w later).log) joined

abbrev begun_of : {world : CountingWorld} (by : IsReached world) → IsReached by.begun
begun_of by = record {
  objects = by.objects;
  listen = by.listen;
  limits = by.limits;
  wants = by.wants;
  wanted = by.wanted;
  begun = by.begun;
  opened = by.opened;
  events = [];
  come = refl;
}

pub asks_framed : asks_in_frames
asks_framed world by =
    let numbers : TrackedWorld = tracked by in
    asks-on by.events (begun_of by) [] refl
    ∙ sym (ap (λ asking. asking.1)
    (router-same after_asking answer_asking written_asking by.wants.first_count by.wants.t_to_o_size (by.objects, [])
    numbers.submits numbers.log (sound_of by).log.submitted))
    ∙ asking-log by.wants.t_to_o_size numbers.submits by.objects [] (entries_of numbers.log)
    ∙ ap (λ (w : NumberedWorld). asks_by_steps by.objects (steps_of_log by.wants.t_to_o_size w.submits w.log))
    (sym (run_plain by.wants.o_to_t_size by.events tracked_at_opening))

reach-calls : (world : CountingWorld) (position : ℕ) (found : Option (List ℕ)) →
    (counting.after_reach found world position).adapter ≡ after_calls world.adapter (calls_of_reach world found)
reach-calls world position None = refl
reach-calls world position (Some bytes) = refl

submit-calls : (world : CountingWorld) (lent : Result Lent SubmitFault) →
    (counting.after_submit lent world).adapter ≡ world.adapter
submit-calls world (Ok lent) = refl
submit-calls world (Err fault) = refl

back-calls : (world : CountingWorld) (position : ℕ) (found : Option (List ℕ)) →
    (counting.after_back found world position).adapter ≡ world.adapter
back-calls world position None = refl
back-calls world position (Some bytes) = refl

other-calls : (world : CountingWorld) (request : List ℕ) (is : Bool) →
    (let after : CountingWorld = cond is (counting.after_other world request) world in after.adapter)
    ≡ after_calls world.adapter
    (cond is (Feeds 0 world.second (frame (request_frame world.second 0 request)) ∷ []) [])
other-calls world request true = refl
other-calls world request false = refl

pub calls_framed : calls_in_frames
calls_framed world (Submit request) = submit-calls world (submits world.client.state request)
calls_framed world Resend = refl
calls_framed world (Reach position) =
    reach-calls world position (delivery world.last_reached world.sent position)
calls_framed world (Back position) = back-calls world position (delivery world.last_back world.back position)
calls_framed world (Other request) = other-calls world request (is_unconnected_request request)
calls_framed world (Write write) = refl
calls_framed world Shut = refl
calls_framed world GiveUp = refl

pub other_asks_framed : other_asks_in_frames
other_asks_framed world by request e =
    ap (λ is. asks_by_steps (objects_in world)
    (steps_of_calls world.adapter (cond is (other_call by request ∷ []) []))) e
    ∙ ap (asks_by_steps (objects_in world)) (others-steps by request e)
    ∙ routed-asks (objects_in world) request

module _ {world : CountingWorld} (by : IsReached world) where
  numbers-plain : numbers_of by ≡ plain (tracked by)
  numbers-plain = run_plain by.wants.o_to_t_size by.events tracked_at_opening

  numbers-delivered : (position : ℕ) →
      delivery (numbers_of by).last_reached (numbers_of by).sent position
      ≡ option_map number_of (delivery (tracked by).last_reached (tracked by).sent position)
  numbers-delivered position =
      ap (λ (w : NumberedWorld). delivery w.last_reached w.sent position) numbers-plain
      ∙ delivery-map number_of (tracked by).last_reached (tracked by).sent position

  numbers-stand : (number : ℕ) → stands number (numbers_of by).log ≡ is_logged number (tracked by).log
  numbers-stand number =
      ap (λ (w : NumberedWorld). stands number w.log) numbers-plain ∙ stands-logged (tracked by).log number

  -- the request of what is delivered is the submitted one
  request-same : (position : ℕ) (own : Own) →
      delivery (tracked by).last_reached (tracked by).sent position ≡ Some own →
      own.request ≡ request_of (numbers_of by).submits own.number
  request-same position own e =
      let numbers : TrackedWorld = tracked by in
      sym (get_or_from_slice_get numbers.submits own.number own.request []
      ((sound_of by).sent.submitted position own (delivered numbers.last_reached numbers.sent position own e)))
      ∙ ap (λ (w : NumberedWorld). request_of w.submits own.number) (sym numbers-plain)

  asks-by : (position : ℕ) (found : Option Own) →
      delivery (tracked by).last_reached (tracked by).sent position ≡ found →
      asks_by_event world (Reach position)
      ≡ asks_by_steps (objects_in world) (reach_steps by.wants.t_to_o_size (tracked by) found)
  asks-by position found e =
      ap (asks_by_steps (objects_in world)) (reached-steps by position)
      ∙ ap (λ o. asks_by_steps (objects_in world) (reach_steps by.wants.t_to_o_size (tracked by) o)) e

  first-asks : (position number : ℕ) (found : Option Own) →
      delivery (tracked by).last_reached (tracked by).sent position ≡ found → IsFirstArrival by (Reach position) number →
      asks_by_event world (Reach position)
      ≡ asks_by_step (objects_in world)
      (Requested (by.wants.t_to_o_size - 2, request_of (numbers_of by).submits number))
  first-asks position number None e is =
      let none : ◌≡◌ {A = Option ℕ} None (Some number)
      = sym (ap (option_map number_of) e) ∙ sym (numbers-delivered position) ∙ is.arrives.1 in
      absurd (cc)
  first-asks position number (Some own) e is =
      let found : Some own.number ≡ Some number
      = sym (ap (option_map number_of) e) ∙ sym (numbers-delivered position) ∙ is.arrives.1 in
      let same : own.number ≡ number = cc in
      let new : is_logged own.number (tracked by).log ≡ false
      = ap (λ n. is_logged n (tracked by).log) same ∙ sym (numbers-stand number)
      ∙ not_stood by number is.not_before in
      let opens : (tracked by).is_open ≡ true
      = sym (ap (λ (w : NumberedWorld). w.is_open) numbers-plain) ∙ is.arrives.0 in
      asks-by position (Some own) e
      ∙ ap (λ is_open. asks_by_steps (objects_in world)
      (arrival_steps by.wants.t_to_o_size is_open (is_logged own.number (tracked by).log) own)) opens
      ∙ ap (λ is_in_log. asks_by_steps (objects_in world)
      (arrival_steps by.wants.t_to_o_size true is_in_log own)) new
      ∙ append-nil _
      ∙ ap (λ request. asks_by_step (objects_in world) (Requested (by.wants.t_to_o_size - 2, request)))
      (request-same position own e ∙ ap (request_of (numbers_of by).submits) same)

  repeat-asks : (position : ℕ) (own : Own) (is_open is_in_log : Bool) →
      (is_open ≡ true → is_in_log ≡ false → ⊥) →
      asks_by_steps (objects_in world) (arrival_steps by.wants.t_to_o_size is_open is_in_log own) ≡ []
  repeat-asks position own false is_in_log never = refl
  repeat-asks position own true true never = refl
  repeat-asks position own true false never = absurd (never refl refl)

  unasked-by : (position : ℕ) (found : Option Own) →
      delivery (tracked by).last_reached (tracked by).sent position ≡ found →
      ((number : ℕ) → IsFirstArrival by (Reach position) number → ⊥) → asks_by_event world (Reach position) ≡ []
  unasked-by position None e never = asks-by position None e
  unasked-by position (Some own) e never =
      asks-by position (Some own) e
      ∙ repeat-asks position own (tracked by).is_open (is_logged own.number (tracked by).log)
      (λ opens new. never own.number (record {
        arrives = (
          ap (λ (w : NumberedWorld). w.is_open) numbers-plain ∙ opens,
          numbers-delivered position ∙ ap (option_map number_of) e,
        );
        not_before = λ before.
            let stood : stands own.number (numbers_of by).log ≡ true
            = (arrival by.wants.o_to_t_size own.number by.events).1 before in
            let not : true ≡ false = sym stood ∙ numbers-stand own.number ∙ new in
            absurd (cc);
      }))

  one-arrival : (own : Own) (is_open is_in_log : Bool) →
      length (asks_by_steps (objects_in world) (arrival_steps by.wants.t_to_o_size is_open is_in_log own)) ≤ 1
  one-arrival own false is_in_log = omega arith
  one-arrival own true true = omega arith
  one-arrival own true false =
      subst (λ asks. length asks ≤ 1)
      (sym (append-nil (asks_by_step (objects_in world) (Requested (by.wants.t_to_o_size - 2, own.request)))))
      (one-ask (objects_in world) (by.wants.t_to_o_size - 2, own.request))

  one-reach : (found : Option Own) →
      length (asks_by_steps (objects_in world) (reach_steps by.wants.t_to_o_size (tracked by) found)) ≤ 1
  one-reach None = omega arith
  one-reach (Some own) = one-arrival own (tracked by).is_open (is_logged own.number (tracked by).log)

  one-other : (request : List ℕ) (is : Bool) → is_unconnected_request request ≡ is →
      length (asks_by_steps (objects_in world)
      (steps_of_calls world.adapter (cond is (other_call by request ∷ []) []))) ≤ 1
  one-other request true e =
      subst (λ asks. length asks ≤ 1)
      (sym (ap (asks_by_steps (objects_in world)) (others-steps by request e)
      ∙ routed-asks (objects_in world) request))
      (one-ask (objects_in world) (UNCONNECTED_LIMIT, request))
  one-other request false e = omega arith

pub one_ask_framed : one_ask_in_frames
one_ask_framed world by (Submit request) = omega arith
one_ask_framed world by Resend = omega arith
one_ask_framed world by (Reach position) =
    let found : Option Own = delivery (tracked by).last_reached (tracked by).sent position in
    subst (λ asks. length asks ≤ 1) (sym (asks-by by position found refl)) (one-reach by found)
one_ask_framed world by (Back position) = omega arith
one_ask_framed world by (Other request) = one-other by request (is_unconnected_request request) refl
one_ask_framed world by (Write write) =
    subst (λ asks. length asks ≤ 1) (sym (alone-asks write (objects_in world))) (omega arith)
one_ask_framed world by Shut = omega arith
one_ask_framed world by GiveUp = omega arith

pub first_asks_framed : first_asks_in_frames
first_asks_framed world by (Submit request) number is = absurd is.arrives
first_asks_framed world by Resend number is = absurd is.arrives
first_asks_framed world by (Reach position) number is =
    first-asks by position number (delivery (tracked by).last_reached (tracked by).sent position) refl is
first_asks_framed world by (Back position) number is = absurd is.arrives
first_asks_framed world by (Other request) number is = absurd is.arrives
first_asks_framed world by (Write write) number is = absurd is.arrives
first_asks_framed world by Shut number is = absurd is.arrives
first_asks_framed world by GiveUp number is = absurd is.arrives

pub unasked_framed : unasked_in_frames
unasked_framed world by (Submit request) never alone = refl
unasked_framed world by Resend never alone = refl
unasked_framed world by (Reach position) never alone =
    unasked-by by position (delivery (tracked by).last_reached (tracked by).sent position) refl never
unasked_framed world by (Back position) never alone = refl
unasked_framed world by (Other request) never alone = absurd (alone request refl)
unasked_framed world by (Write write) never alone = alone-asks write (objects_in world)
unasked_framed world by Shut never alone = refl
unasked_framed world by GiveUp never alone = refl
