-- What becomes of each request over whole frames, from what both worlds show and from the numbered world.
use Rattle.std.proofs.Common.{◌≡◌, ℕ, ◌-◌, ◌≤◌, Bool, true, false, cond, Option, Some, None, option_map, List, [], ◌∷◌, ◌++◌, map, length, slice_get, Result, Ok, Err, refl, ap, ap₂, sym, ◌∙◌, subst}
use Rattle.std.proofs.lemmas.Option.{same_Some, slice_get-map, get_or_from_slice_get}
use Rattle.cip_class3.specs.Item.{item}
use Rattle.cip_ledger.specs.Device.{Device}
use Rattle.cip_message.specs.Router.{IsReplyTo}
use Rattle.cip_ledger.proofs.Devices.{exec_device-begins, exec_device-within}
use Rattle.enip_client.specs.Calls.{Lent, submits}
use Rattle.enip_client.specs.Frames.{item_frame}
use Rattle.enip_client.specs.State.{o_to_t_id_in}
use Rattle.enip_client.specs.declared.fault.SubmitFault.{SubmitFault}
use Rattle.enip_client.specs.declared.wants.Wants.{Wants}
use Rattle.enip_wire.specs.Frames.{frame}
use Rattle.enip_adapter.specs.OwnWrites.{device_written}
use Rattle.enip_bench.specs.CountingWorld as counting
use Rattle.enip_bench.specs.CountingWorld.{CountingWorld, counting_step}
use Rattle.enip_bench.specs.Events.{Event, Submit, Resend, Reach, Back, Other, Write, Shut, GiveUp, delivery}
use Rattle.enip_bench.specs.Executions.{AreRising, Arrives}
use Rattle.enip_bench.specs.FrameOnce.{objects_in, numbers_of, count_of, request_frame, answer_frame, IsAnswer, IsFirstArrival}
use Rattle.enip_bench.specs.FrameOnce.{accepted_in_frames, accepted_order_in_frames, answers_in_frames, same_frames}
use Rattle.enip_bench.specs.FrameOnce.{once_in_frames, requests_in_frames, first_in_frames, written_in_frames, unchanged_in_frames}
use Rattle.enip_bench.specs.ItemWorld.{ItemWorld, items_at_opening}
use Rattle.enip_bench.specs.NumberedWorld.{Entry, OwnRequest, NumberedWorld, numbers_at_opening, stands, with_number, after_reach, numbered_step, numbered_run, request_of, router_after, reply_to}
use Rattle.enip_bench.specs.ObjectsRun.{after_exec, exec_answer}
use Rattle.enip_bench.specs.Reached.{IsReached}
use Rattle.enip_bench.specs.WorldLaws.{items_after}
use Rattle.enip_bench.proofs.AdapterShows.{Wire, frame_out}
use Rattle.enip_bench.proofs.AgreementLemmas.{items_after-image}
use Rattle.enip_bench.proofs.AnswerLemmas.{accepted, accepted_order, back_same, same_bytes, answered}
use Rattle.enip_bench.proofs.ArrivalLemmas.{arrival}
use Rattle.enip_bench.proofs.FrameAgreement.{frames_agree}
use Rattle.enip_bench.proofs.FrameSteps.{Shows, run_shows}
use Rattle.enip_bench.proofs.Image.{item_of}
use Rattle.enip_bench.proofs.LogLemmas.{IsSubmitted}
use Rattle.enip_bench.proofs.OnceLemmas.{once, order}
use Rattle.enip_bench.proofs.OpenedLemmas.{IsOpened}
use Rattle.enip_bench.proofs.OpeningRun.{opening_shows}
use Rattle.enip_bench.proofs.Plain.{number_of}
use Rattle.enip_bench.proofs.PlainLemmas.{run_plain}
use Rattle.enip_bench.proofs.PositionLemmas.{delivered, delivery-map}
use Rattle.enip_bench.proofs.ReachedLemmas.{run_joined}
use Rattle.enip_bench.proofs.RunLemmas.{are_steps}
use Rattle.enip_bench.proofs.SeenLemmas.{router_after-push}
use Rattle.enip_bench.proofs.SoundLemmas.{opening_sound, run_sound}
use Rattle.enip_bench.proofs.Soundness.{IsSound}
use Rattle.enip_bench.proofs.TrackedSteps.{tracked_run}
use Rattle.enip_bench.proofs.TrackedWorld.{Own, TrackedWorld, tracked_at_opening}
use Rattle.enip_bench.proofs.WriteLemmas.{writes}

-- the objects' replies have the form of a reply
pub begins : (objects : Device) (room : ℕ) (request : List ℕ) → 8 ≤ room → 2 ≤ length request →
    IsReplyTo request (exec_answer objects room request)
begins objects room request roomy least = exec_device-begins objects room request roomy least

pub within : (objects : Device) (room : ℕ) (request : List ℕ) → 8 ≤ room → 2 ≤ length request →
    length (exec_answer objects room request) ≤ room
within objects room request roomy least = exec_device-within objects room request roomy

module _ {world : CountingWorld} (by : IsReached world) where
  -- the item world after the same events
  abbrev pub items_of : ItemWorld Device
  items_of =
      items_after after_exec exec_answer device_written by.wants.first_count by.wants.o_to_t_size
      by.wants.t_to_o_size by.objects by.events

  pub opened_of : IsOpened by.objects by.wants by.begun
  opened_of = opening_shows by.objects by.listen by.limits by.wants by.wanted by.begun by.opened

  pub shows_of : Shows opened_of.wire world items_of
  shows_of =
      subst (λ w. Shows opened_of.wire w items_of) (sym by.come)
      (run_shows opened_of.wire by.events by.begun
      (items_at_opening by.wants.first_count by.wants.o_to_t_size by.wants.t_to_o_size by.objects)
      opened_of.ok opened_of.shows)

  accepted-same : world.accepted ≡ items_of.accepted
  accepted-same = ap (λ (w : CountingWorld). w.accepted) shows_of.is

  -- an item to the client, in a frame
  abbrev framed : List ℕ → List ℕ
  framed item = frame (item_frame by.begun.peer by.wants.t_to_o_id item)

  back-same : world.back ≡ map framed items_of.back
  back-same =
      ap (λ (w : CountingWorld). w.back) shows_of.is
      ∙ ap₂ (λ (asked : Wants) peer. map (λ item. frame (item_frame peer asked.t_to_o_id item)) items_of.back)
      opened_of.asked_for (sym opened_of.same_peer)

  back-at : (position : ℕ) → slice_get world.back position ≡ option_map framed (slice_get items_of.back position)
  back-at position =
      ap (λ back. slice_get back position) back-same ∙ slice_get-map framed items_of.back position

  -- the objects after the log
  objects-same : objects_in world
      ≡ router_after after_exec exec_answer device_written by.wants.t_to_o_size (numbers_of by).submits by.objects
      (numbers_of by).log
  objects-same =
      ap objects_in by.come
      ∙ ap (λ seen. seen.router)
      (frames_agree by.objects by.listen by.limits by.wants by.begun by.events by.wanted by.opened)

pub accepted_framed : accepted_in_frames
accepted_framed world by position number reply e =
    accepted after_exec exec_answer device_written begins within
    by.wants.first_count by.wants.o_to_t_size by.wants.t_to_o_size by.objects by.events position number reply
    by.wanted.first_count by.wanted.t_to_o_from (sym (ap (λ xs. slice_get xs position) (accepted-same by)) ∙ e)

pub accepted_order_framed : accepted_order_in_frames
accepted_order_framed world by =
    subst (λ (xs : List (ℕ × List ℕ)). AreRising (map (λ x. x.0) xs)) (sym (accepted-same by))
    (accepted_order after_exec exec_answer device_written begins within
    by.wants.first_count by.wants.o_to_t_size by.wants.t_to_o_size by.objects by.events
    by.wanted.first_count by.wanted.t_to_o_from)

-- the frame sent back at a position has a number in the numbered world
answer_found : {world : CountingWorld} (by : IsReached world) (position : ℕ) (bytes : List ℕ) (found : Option ℕ) →
    slice_get (numbers_of by).back position ≡ found → slice_get world.back position ≡ Some bytes →
    IsAnswer by position bytes
answer_found by position bytes None e f =
    let none : ◌≡◌ {A = Option (List ℕ)} None (Some bytes)
    = sym (back-at by position
    ∙ ap (option_map (framed by))
    (back_same after_exec exec_answer device_written begins within by.wants.first_count by.wants.o_to_t_size
    by.wants.t_to_o_size
    by.objects by.events position by.wanted.first_count by.wanted.t_to_o_from
    ∙ ap (option_map (λ n. item (count_of by n)
    (reply_to after_exec exec_answer device_written by.wants.t_to_o_size (numbers_of by).submits by.objects
    (numbers_of by).log
    n))) e))
    ∙ f in
    absurd (cc)
answer_found by position bytes (Some number) e f =
    let one = answered after_exec exec_answer device_written begins within by.wants.first_count by.wants.o_to_t_size
    by.wants.t_to_o_size by.objects by.events position number by.wanted.first_count by.wanted.t_to_o_from e in
    record {
      number = number;
      reply = one.0;
      answers = e;
      replied = one.1;
      is = sym (same_Some (answer_frame by number one.0) bytes
          (sym (back-at by position ∙ ap (option_map (framed by)) one.2) ∙ f));
    }

pub answers_framed : answers_in_frames
answers_framed world by position bytes e =
    answer_found by position bytes (slice_get (numbers_of by).back position) refl e

pub same_framed : same_frames
same_framed world by one other number e f =
    back-at by one
    ∙ ap (option_map (framed by))
    (same_bytes after_exec exec_answer device_written begins within by.wants.first_count by.wants.o_to_t_size
    by.wants.t_to_o_size
    by.objects by.events one other number by.wanted.first_count by.wanted.t_to_o_from e f)
    ∙ sym (back-at by other)

pub once_framed : once_in_frames
once_framed world by = record {
  objects = objects-same by;
  steps = objects-same by
      ∙ (are_steps by.wants.t_to_o_size (numbers_of by).submits by.objects (numbers_of by).log).after;
  once = λ number. once by.wants.o_to_t_size number by.events;
  order = order by.wants.o_to_t_size by.events;
  writes = writes by.wants.o_to_t_size by.events;
}

module _ {world : CountingWorld} (by : IsReached world) where
  -- the numbers with their requests
  abbrev pub tracked : TrackedWorld
  tracked = tracked_run by.wants.o_to_t_size tracked_at_opening by.events

  -- a submitted request, in its frame
  sent-frame : (own : Own) → IsSubmitted (numbers_of by).submits own →
      frame_out (opened_of by).wire (item_of by.wants.first_count own) ≡ request_frame by own.number
  sent-frame own e =
      ap (λ peer. frame (item_frame peer (opened_of by).wire.id (item_of by.wants.first_count own)))
      (sym (opened_of by).same_peer)
      ∙ ap (λ id. frame (item_frame by.begun.peer id (item_of by.wants.first_count own)))
      (sym (shows_of by).agrees.client_shows.id
      ∙ sym (ap (λ (w : CountingWorld). o_to_t_id_in w.client.state.connection_state) (shows_of by).is))
      ∙ ap (λ request. frame (item_frame by.begun.peer (o_to_t_id_in world.client.state.connection_state)
      (item (count_of by own.number) request)))
      (sym (get_or_from_slice_get (numbers_of by).submits own.number own.request [] e))

  -- both worlds deliver the same
  request-delivered : (position : ℕ) (found : Option Own) →
      delivery tracked.last_reached tracked.sent position ≡ found →
      option_map (frame_out (opened_of by).wire) (option_map (item_of by.wants.first_count) found)
      ≡ option_map (request_frame by) (option_map number_of found)
  request-delivered position None e = refl
  request-delivered position (Some own) e =
      let sound : IsSound by.wants.o_to_t_size tracked
      = run_sound by.wants.o_to_t_size by.events tracked_at_opening (opening_sound by.wants.o_to_t_size) in
      ap (λ b. Some b) (sent-frame own (subst (λ (w : NumberedWorld). IsSubmitted w.submits own)
      (sym (run_plain by.wants.o_to_t_size by.events tracked_at_opening))
      (sound.sent.submitted position own (delivered tracked.last_reached tracked.sent position own e))))

pub requests_framed : requests_in_frames
requests_framed world by position =
    let wire : Wire = (opened_of by).wire in
    let numbers : TrackedWorld = tracked by in
    ap (λ (w : CountingWorld). delivery w.last_reached w.sent position) (shows_of by).is
    ∙ delivery-map (frame_out wire) (items_of by).last_reached (items_of by).sent position
    ∙ ap (λ (w : ItemWorld Device). option_map (frame_out wire) (delivery w.last_reached w.sent position))
    (items_after-image after_exec exec_answer device_written begins within by.wants.first_count by.wants.o_to_t_size
    by.wants.t_to_o_size by.objects by.events by.wanted.first_count by.wanted.t_to_o_from)
    ∙ ap (option_map (frame_out wire))
    (delivery-map (item_of by.wants.first_count) numbers.last_reached numbers.sent position)
    ∙ request-delivered by position (delivery numbers.last_reached numbers.sent position) refl
    ∙ ap (option_map (request_frame by))
    (sym (delivery-map number_of numbers.last_reached numbers.sent position)
    ∙ ap (λ (w : NumberedWorld). delivery w.last_reached w.sent position)
    (sym (run_plain by.wants.o_to_t_size by.events tracked_at_opening)))

numbers_joined : (o_to_t_size : ℕ) (world : NumberedWorld) (events later : List Event) →
    numbered_run o_to_t_size world (events ++ later)
    ≡ numbered_run o_to_t_size (numbered_run o_to_t_size world events) later
numbers_joined o_to_t_size world [] later = refl
numbers_joined o_to_t_size world (event ∷ events) later =
    numbers_joined o_to_t_size (numbered_step o_to_t_size world event) events later

not_true : (b : Bool) → (b ≡ true → ⊥) → b ≡ false
not_true true never = absurd (never refl)
not_true false never = refl

module _ {world : CountingWorld} (by : IsReached world) where
  -- the objects after a log
  abbrev logged : List Entry → Device
  logged log =
      router_after after_exec exec_answer device_written by.wants.t_to_o_size (numbers_of by).submits by.objects log

  -- and after these numbers
  abbrev objects_by : NumberedWorld → Device
  objects_by numbers =
      router_after after_exec exec_answer device_written by.wants.t_to_o_size numbers.submits by.objects numbers.log

  step-objects : (event : Event) →
      objects_in (counting_step world event) ≡ objects_by (numbered_step by.wants.o_to_t_size (numbers_of by) event)
  step-objects event =
      ap (λ w. objects_in (counting_step w event)) by.come
      ∙ sym (ap objects_in (run_joined by.begun by.events (event ∷ [])))
      ∙ ap (λ seen. seen.router)
      (frames_agree by.objects by.listen by.limits by.wants by.begun (by.events ++ event ∷ []) by.wanted by.opened)
      ∙ ap objects_by (numbers_joined by.wants.o_to_t_size numbers_at_opening by.events (event ∷ []))

  pub not_stood : (number : ℕ) → (Arrives by.wants.o_to_t_size numbers_at_opening by.events number → ⊥) →
      stands number (numbers_of by).log ≡ false
  not_stood number never =
      not_true (stands number (numbers_of by).log) (λ is. never ((arrival by.wants.o_to_t_size number by.events).0 is))

  -- the world after the target got this number
  abbrev got : ℕ → ℕ → Bool → NumberedWorld
  got number position is_open =
      let moved : NumberedWorld = record (numbers_of by) { last_reached = Some position } in
      cond is_open (with_number moved number) moved

  -- an arrival that is not the first does not change the objects
  got-unchanged : (number position : ℕ) (is_open : Bool) →
      (is_open ≡ true → stands number (numbers_of by).log ≡ false → ⊥) →
      objects_by (got number position is_open) ≡ objects_by (numbers_of by)
  got-unchanged number position false never = refl
  got-unchanged number position true never = go (stands number (numbers_of by).log) (never refl)
    where
      go : (is : Bool) → (is ≡ false → ⊥) →
          logged (cond is (numbers_of by).log ((numbers_of by).log ++ OwnRequest number ∷ []))
          ≡ logged (numbers_of by).log
      go true never = refl
      go false never = absurd (never refl)

  reach-unchanged : (position : ℕ) (found : Option ℕ) →
      delivery (numbers_of by).last_reached (numbers_of by).sent position ≡ found →
      ((number : ℕ) → IsFirstArrival by (Reach position) number → ⊥) →
      objects_by (after_reach found (numbers_of by) position) ≡ objects_by (numbers_of by)
  reach-unchanged position None e never = refl
  reach-unchanged position (Some number) e never =
      got-unchanged number position (numbers_of by).is_open
      (λ is not. never number (record {
        arrives = (is, e);
        not_before = λ before.
            let stood : stands number (numbers_of by).log ≡ true
            = (arrival by.wants.o_to_t_size number by.events).1 before in
            absurd (cc);
      }))

pub first_framed : first_in_frames
first_framed world by (Submit request) number is = absurd is.arrives
first_framed world by Resend number is = absurd is.arrives
first_framed world by (Reach position) number is =
    let numbers : NumberedWorld = numbers_of by in
    step-objects by (Reach position)
    ∙ ap (λ found. objects_by by (after_reach found numbers position)) is.arrives.1
    ∙ ap (λ is_open. objects_by by (got by number position is_open)) is.arrives.0
    ∙ ap (λ stood. logged by (cond stood numbers.log (numbers.log ++ OwnRequest number ∷ [])))
    (not_stood by number is.not_before)
    ∙ router_after-push after_exec exec_answer device_written by.wants.t_to_o_size numbers.submits by.objects
    numbers.log
    (OwnRequest number)
    ∙ ap (λ objects. after_exec objects (by.wants.t_to_o_size - 2) (request_of numbers.submits number))
    (sym (objects-same by))
first_framed world by (Back position) number is = absurd is.arrives
first_framed world by (Other request) number is = absurd is.arrives
first_framed world by (Write write) number is = absurd is.arrives
first_framed world by Shut number is = absurd is.arrives
first_framed world by GiveUp number is = absurd is.arrives

submit-objects : (world : CountingWorld) (lent : Result Lent SubmitFault) →
    objects_in (counting.after_submit lent world) ≡ objects_in world
submit-objects world (Ok lent) = refl
submit-objects world (Err fault) = refl

back-objects : (world : CountingWorld) (position : ℕ) (found : Option (List ℕ)) →
    objects_in (counting.after_back found world position) ≡ objects_in world
back-objects world position None = refl
back-objects world position (Some bytes) = refl

pub written_framed : written_in_frames
written_framed world by write = refl

pub unchanged_framed : unchanged_in_frames
unchanged_framed world by (Submit request) never alone own = submit-objects world (submits world.client.state request)
unchanged_framed world by Resend never alone own = refl
unchanged_framed world by (Reach position) never alone own =
    step-objects by (Reach position)
    ∙ reach-unchanged by position (delivery (numbers_of by).last_reached (numbers_of by).sent position) refl never
    ∙ sym (objects-same by)
unchanged_framed world by (Back position) never alone own =
    back-objects world position (delivery world.last_back world.back position)
unchanged_framed world by (Other request) never alone own = absurd (alone request refl)
unchanged_framed world by (Write write) never alone own = absurd (own write refl)
unchanged_framed world by Shut never alone own = refl
unchanged_framed world by GiveUp never alone own = refl
