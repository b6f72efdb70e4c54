-- Each event has the same effect on the item world as on the tracked world.
use Rattle.std.proofs.Common.{◌≡◌, ℕ, ◌+◌, ◌-◌, ◌<◌, ◌≤◌, Bool, true, false, cond, ◌==◌, Option, Some, None, option_map, List, [], ◌∷◌, ◌++◌, map, length, slice_get, slice_index, refl, ap, ap₂, sym, ◌∙◌, arith, eqb-true, eq-eqb, ne_eqb, le-leb}
use Rattle.std.proofs.lemmas.Bool.{and_from, and_right, and_left, both_ways}
use Rattle.std.proofs.lemmas.List.{length_push}
use Rattle.std.proofs.lemmas.Option.{same_Some, slice_get_within}
use Rattle.cip_class3.proofs.Repeats.{sequence_count_of-item, has_accepted_size-item, step-first}
use Rattle.cip_class3.specs.Deliveries.{Delivery, IsDeliverable}
use Rattle.cip_class3.specs.Item.{item, sequence_count_of}
use Rattle.cip_class3.specs.OriginatorRule.{Waiting, is_waiting, form_refusal, first_refusal, submit_refusal, waiting_item, answers, is_reply, idle_again}
use Rattle.cip_class3.specs.TargetRule.{TargetState, KeptReply, TargetStep, step_of, target_step, has_accepted_size, is_held}
use Rattle.cip_class3.specs.declared.originator.Refused.{Refused}
use Rattle.cip_class3.specs.declared.target.Received.TheVariants.{Repeated, Executed}
use Rattle.cip_message.specs.Reply.{reply_service}
use Rattle.cip_message.specs.Router.{IsReplyTo}
use Rattle.cip_bytes.specs.declared.protocol.TheConstants.{UNCONNECTED_LIMIT}
use Rattle.enip_adapter.specs.OwnWrites.{OwnWrite}
use Rattle.enip_bench.specs.Events.{Event, Submit, Resend, Reach, Back, Other, Write, Shut, GiveUp, delivery, is_unconnected_request, with_any}
use Rattle.enip_bench.specs.ItemWorld as items
use Rattle.enip_bench.specs.ItemWorld.{ItemWorld, item_step, item_run, with_waiting_item_sent, with_step}
use Rattle.enip_bench.proofs.CountLemmas.{count_of, count_of-below, count_of-next, count_of-differs}
use Rattle.enip_bench.proofs.HeldLemmas.{IsOfForm, has_form, IsAnswered, held-logged, kept-newest, reply-new, reply-kept, reply-answers}
use Rattle.enip_bench.proofs.Image.{item_of, phase_of, router_of, reply_of, held_of, answer_of, acceptance_of, image}
use Rattle.enip_bench.proofs.LogLemmas.{next_logged, IsSubmitted}
use Rattle.enip_bench.specs.NumberedWorld.{submits_since_accepted, is_awaiting, refusal}
use Rattle.enip_bench.proofs.Plain.{progress_of, plain}
use Rattle.enip_bench.proofs.PositionLemmas.{delivered, delivery-map, map-push, map-with_any, map-same}
use Rattle.enip_bench.proofs.SoundLemmas.{step_sound}
use Rattle.enip_bench.proofs.Soundness.{IsCourseSound, IsSound}
use Rattle.enip_bench.proofs.TrackedSteps.{own_awaited, is_own_awaited, abandoned, with_own_sent, next_own, after_submit, with_execution, reached, after_reach, came_back, after_back, after_other, tracked_step, tracked_run}
use Rattle.enip_bench.proofs.TrackedWorld.{Own, Logged, OwnLogged, Course, Resting, Awaiting, Abandoned, is_logged, TrackedWorld}

-- item worlds with the same parts
same_items : {M : Type 0} (a b : ItemWorld M) → a.target ≡ b.target → a.router ≡ b.router → a.is_open ≡ b.is_open →
    a.originator ≡ b.originator → a.sent ≡ b.sent → a.back ≡ b.back → a.last_reached ≡ b.last_reached → a.last_back
    ≡ b.last_back →
    a.submits ≡ b.submits → a.accepted ≡ b.accepted → a ≡ b
same_items a b target router is_open originator sent back last_reached last_back submits accepted = λ i. record {
  target = target i;
  router = router i;
  is_open = is_open i;
  originator = originator i;
  sent = sent i;
  back = back i;
  last_reached = last_reached i;
  last_back = last_back i;
  submits = submits i;
  accepted = accepted i;
}

module _ {M : Type 0} (after : M → ℕ → List ℕ → M) (answer : M → ℕ → List ℕ → List ℕ)
    (written : OwnWrite → M → M) (first o_to_t_size t_to_o_size : ℕ) (start : M) where
  abbrev shown : TrackedWorld → ItemWorld M
  shown world = image after answer written first t_to_o_size start o_to_t_size world

  waiting-awaited : (course : Course) → waiting_item (phase_of first course)
      ≡ option_map (item_of first) (own_awaited course)
  waiting-awaited Resting = refl
  waiting-awaited (Awaiting own) = refl
  waiting-awaited Abandoned = refl

  waiting-same : (course : Course) → is_waiting (phase_of first course) ≡ is_awaiting (progress_of course)
  waiting-same Resting = refl
  waiting-same (Awaiting own) = refl
  waiting-same Abandoned = refl

  -- the submits since the last accepted reply, by the counter
  unaccepted-since : (world : TrackedWorld) → IsSound o_to_t_size world → world.unaccepted ≡ submits_since_accepted (plain world)
  unaccepted-since world sound = omega (arith, sound.window.since)

  pub refusal-same : (world : TrackedWorld) (request : List ℕ) → IsSound o_to_t_size world →
      submit_refusal (shown world).originator request ≡ refusal o_to_t_size (plain world) request
  refusal-same world request sound =
      ap₂ (λ unaccepted waits. first_refusal unaccepted waits (form_refusal o_to_t_size request)) (unaccepted-since world sound)
      (waiting-same world.course)

  pub at_submit : (world : TrackedWorld) (why : Option Refused) (request : List ℕ) →
      items.after_submit why (shown world) request ≡ shown (after_submit why world request)
  at_submit world None request =
      let more : length (world.submits ++ request ∷ []) ≡ length world.submits + 1 =
      length_push world.submits request in
      same_items (items.after_submit None (shown world) request) (shown (after_submit None world request)) refl refl
      refl
      (ap (λ next. record (shown world).originator
      { next = next; phase = Waiting (count_of first (length world.submits)) request; unaccepted = world.unaccepted + 1 })
      (count_of-next first (length world.submits) ∙ ap (count_of first) (sym more)))
      (sym (map-push (item_of first) world.sent (next_own world request))) refl refl refl (sym more) refl
  at_submit world (Some why) request = refl

  at_resend : (world : TrackedWorld) → with_waiting_item_sent (shown world) ≡ shown (with_own_sent world)
  at_resend world =
      let same = ap (λ o. with_any o (map (item_of first) world.sent)) (waiting-awaited world.course)
      ∙ sym (map-with_any (item_of first) (own_awaited world.course) world.sent) in
      same_items (with_waiting_item_sent (shown world)) (shown (with_own_sent world)) refl refl refl refl same refl
      refl refl refl refl

  at_give_up : (world : TrackedWorld) (course : Course) →
      item_step after answer written (shown (record world { course = course })) GiveUp
      ≡ shown (record world { course = abandoned course })
  at_give_up world Resting = refl
  at_give_up world (Awaiting own) = refl
  at_give_up world Abandoned = refl

  at_other : (world : TrackedWorld) (request : List ℕ) (is : Bool) →
      cond is (record (shown world) {
        router = after (router_of after answer written first t_to_o_size start world.log) UNCONNECTED_LIMIT request;
      }) (shown world)
      ≡ shown (after_other is world request)
  at_other world request true = refl
  at_other world request false = refl

module _ {M : Type 0} (after : M → ℕ → List ℕ → M) (answer : M → ℕ → List ℕ → List ℕ)
    (written : OwnWrite → M → M) (first o_to_t_size t_to_o_size : ℕ) (start : M)
    (roomy : 10 ≤ t_to_o_size)
    (begins : (router : M) (room : ℕ) (request : List ℕ) → 8 ≤ room → 2 ≤ length request →
    IsReplyTo request (answer router room request))
    (within : (router : M) (room : ℕ) (request : List ℕ) → 8 ≤ room → 2 ≤ length request →
    length (answer router room request) ≤ room) where
  abbrev show : TrackedWorld → ItemWorld M
  show world = image after answer written first t_to_o_size start o_to_t_size world

  abbrev replies : List Logged → ℕ → List ℕ
  replies log number = reply_of after answer written first t_to_o_size start log number

  abbrev answers_by : List Logged → Own → List ℕ
  answers_by log own = answer_of after answer written first t_to_o_size start log own

  abbrev target : TrackedWorld → TargetState
  target world = (show world).target

  abbrev deliverable : Own → Delivery
  deliverable own = record { sequence_count = count_of first own.number; request = own.request; repeats = 0 }

  is_deliverable : (own : Own) → IsOfForm o_to_t_size own.request → IsDeliverable o_to_t_size (deliverable own)
  is_deliverable own form = record { sequence_count = count_of-below first own.number; request = form.least; size = form.fits }

  pub repeats : (world : TrackedWorld) (own : Own) → IsOfForm o_to_t_size own.request →
      is_held (held_of after answer written first t_to_o_size start world.log) (count_of first own.number) ≡ true →
      target_step after answer (target world) (show world).router (item_of first own)
      ≡ step_of Repeated (target world) (show world).router
  repeats world own form same =
      let sized : has_accepted_size (target world) (item_of first own) ≡ true =
      has_accepted_size-item (target world) (deliverable own) (is_deliverable own form) in
      let held : is_held (held_of after answer written first t_to_o_size start world.log)
      (sequence_count_of (item_of first own)) ≡ true =
      ap (is_held (held_of after answer written first t_to_o_size start world.log))
      (sequence_count_of-item (count_of first own.number) own.request (count_of-below first own.number)) ∙ same in
      rw (sized, held) refl

  -- what the open target does when a number arrives
  at_target : (world : TrackedWorld) (own : Own) (position : ℕ) (is : Bool) → IsSound o_to_t_size world →
      IsOfForm o_to_t_size own.request →
      is_held (held_of after answer written first t_to_o_size start world.log) (count_of first own.number) ≡ is →
      is_logged own.number world.log ≡ is →
      next_logged world.log ≤ own.number + 1 →
      with_step (record (show world) { last_reached = Some position })
      (target_step after answer (target world) (show world).router (item_of first own))
      ≡ show (record world {
        last_reached = Some position;
        log = with_execution is world.log own;
        back = world.back ++ own ∷ [];
      })
  at_target world own position true sound form held is above =
      let moved : TrackedWorld = record world { last_reached = Some position; back = world.back ++ own ∷ [] } in
      ap (with_step (record (show world) { last_reached = Some position })) (repeats world own form held)
      ∙ same_items (with_step (record (show world) { last_reached = Some position })
      (step_of Repeated (target world) (show world).router)) (show moved)
      refl refl refl refl refl
      (ap (λ bytes. map (answers_by world.log) world.back ++ bytes ∷ [])
      (kept-newest after answer written first t_to_o_size start world.log own.number sound.log.falls above is)
      ∙ sym (map-push (answers_by world.log) world.back own)) refl refl refl refl
  at_target world own position false sound form held is above =
      let log : List Logged = OwnLogged own ∷ world.log in
      let router : M = router_of after answer written first t_to_o_size start world.log in
      let moved : TrackedWorld = record world
      { last_reached = Some position; log = log; back = world.back ++ own ∷ [] } in
      let kept : KeptReply = record {
        sequence_count = count_of first own.number;
        reply = answer router (t_to_o_size - 2) own.request;
      } in
      let step : TargetStep M = step_of Executed (record (target world) { held = Some kept })
      (after router (t_to_o_size - 2) own.request) in
      ap (with_step (record (show world) { last_reached = Some position }))
      (step-first after answer (target world) router (deliverable own) (is_deliverable own form) held)
      ∙ same_items (with_step (record (show world) { last_reached = Some position }) step) (show moved) refl refl refl
      refl refl
      (ap₂ (λ bytes last. bytes ++ last ∷ [])
      (map-same (answers_by world.log) (answers_by log) world.back (λ i x e. ap (item (count_of first x.number))
      (reply-kept after answer written first t_to_o_size start world.log own x.number is (sound.back.logged i x e))))
      (ap (item (count_of first own.number))
      (sym (reply-new after answer written first t_to_o_size start world.log own)))
      ∙ sym (map-push (answers_by log) world.back own)) refl refl refl
      (map-same (acceptance_of after answer written first t_to_o_size start world.log)
      (acceptance_of after answer written first t_to_o_size start log) world.accepted
      (λ i x e. ap (λ (reply : List ℕ). (x.number, reply))
      (reply-kept after answer written first t_to_o_size start world.log own x.number is
      (sound.accepted.logged i x e))))

  at_reached : (world : TrackedWorld) (own : Own) (position : ℕ) (is_open : Bool) → IsSound o_to_t_size world →
      delivery world.last_reached world.sent position ≡ Some own →
      (let moved : ItemWorld M = record (show world) { last_reached = Some position } in
      cond is_open (with_step moved (target_step after answer (target world) (show world).router (item_of first own)))
      moved)
      ≡ show (reached is_open world own position)
  at_reached world own position true sound found =
      let sent : IsSubmitted world.submits own =
      sound.sent.submitted position own (delivered world.last_reached world.sent position own found) in
      let above : next_logged world.log ≤ own.number + 1 = sound.sent.above position own found in
      let near : own.number < next_logged world.log + 65535 =
      omega (arith, slice_get_within world.submits own.number own.request sent, sound.window.span, sound.window.bound)
      in
      at_target world own position (is_logged own.number world.log) sound
      (has_form o_to_t_size own.request (sound.form own.number own.request sent))
      (held-logged after answer written first t_to_o_size start world.log own.number sound.log.falls above near)
      refl above
  at_reached world own position false sound found = refl

  at_reach : (world : TrackedWorld) (position : ℕ) (found : Option Own) → IsSound o_to_t_size world →
      delivery world.last_reached world.sent position ≡ found →
      items.after_reach after answer written (option_map (item_of first) found) (show world) position
      ≡ show (after_reach found world position)
  at_reach world position None sound e = refl
  at_reach world position (Some own) sound e = at_reached world own position world.is_open sound e

  -- an item is taken as the pending request's reply if and only if it has the pending number
  pub is_reply-same : (submits : List (List ℕ)) (waiting : Own) (number : ℕ) (reply : List ℕ) (is : Bool) →
      (waiting.number == number) ≡ is →
      IsAnswered t_to_o_size submits number reply → IsSubmitted submits waiting → number ≤ waiting.number →
      waiting.number ≤ number + 65535 →
      answers t_to_o_size (count_of first waiting.number) (slice_index waiting.request 0)
      (item (count_of first number) reply) ≡ is
  is_reply-same submits waiting number reply true e answered is_submitted below near =
      let same : waiting.number ≡ number = eqb-true waiting.number number e in
      let request : answered.request ≡ waiting.request =
      same_Some answered.request waiting.request
      (sym answered.submitted ∙ ap (slice_get submits) (sym same) ∙ is_submitted) in
      and_from _ _ (and_from _ _ (and_from _ _
      (le-leb 6 (length (item (count_of first number) reply)) (omega (arith, answered.answers.head)))
      (le-leb (length (item (count_of first number) reply)) t_to_o_size (omega (arith, answered.within))))
      (eq-eqb _ _ (sequence_count_of-item (count_of first number) reply (count_of-below first number)
      ∙ ap (count_of first) (sym same))))
      (eq-eqb _ _ (answered.answers.service ∙ ap (λ (q : List ℕ). reply_service (slice_index q 0)) request))
  is_reply-same submits waiting number reply false e answered is_submitted below near =
      let other : waiting.number ≡ number → ⊥ =
      λ same. both_ways (waiting.number == number) e (eq-eqb waiting.number number same) in
      let lower : number < waiting.number = omega arith in
      and_left _ _ (and_right _ _ (ne_eqb _ _ (λ same. count_of-differs first number waiting.number lower near
      (sym (sequence_count_of-item (count_of first number) reply (count_of-below first number)) ∙ same))))

  is_reply-awaited : (world : TrackedWorld) (course : Course) (own : Own) (position : ℕ) → IsSound o_to_t_size world →
      IsCourseSound world.submits world.accepted course → delivery world.last_back world.back position
      ≡ Some own →
      is_reply t_to_o_size (phase_of first course) (answers_by world.log own) ≡ is_own_awaited course own.number
  is_reply-awaited world Resting own position sound course found = refl
  is_reply-awaited world (Awaiting waiting) own position sound course found =
      let is : is_logged own.number world.log ≡ true =
      sound.back.logged position own (delivered world.last_back world.back position own found) in
      let answered : IsAnswered t_to_o_size world.submits own.number (replies world.log own.number) =
      reply-answers after answer written first t_to_o_size start roomy begins within o_to_t_size world.submits world.log
      own.number sound.form sound.log.submitted is in
      is_reply-same world.submits waiting own.number (replies world.log own.number) (waiting.number == own.number)
      refl answered course.1
      (omega (arith, course.0, slice_get_within world.submits own.number answered.request answered.submitted))
      (omega (arith, course.0, sound.back.near position own found, sound.window.bound))
  is_reply-awaited world Abandoned own position sound course found = refl

  -- the item world after an item came back, which was the pending request's reply or not
  abbrev came : Bool → TrackedWorld → Own → ℕ → ItemWorld M
  came is world own position = record (show world) {
    last_back = Some position;
    originator = cond is (idle_again (show world).originator) (show world).originator;
    accepted = with_any (option_map (λ reply. (length world.submits - 1, reply))
        (cond is (Some (replies world.log own.number)) None)) (show world).accepted;
  }

  came-same : (world : TrackedWorld) (course : Course) (own : Own) (position : ℕ) (is : Bool) →
      is_own_awaited course own.number ≡ is →
      IsCourseSound world.submits world.accepted course →
      came is (record world { course = course }) own position
      ≡ show (came_back is (record world { course = course }) own position)
  came-same world course own position false e sound = refl
  came-same world Resting own position true e sound = absurd (cc)
  came-same world (Awaiting waiting) own position true e sound =
      let here : TrackedWorld = record world { course = Awaiting waiting } in
      let number : length world.submits - 1 ≡ own.number =
      omega (arith, sound.0, eqb-true waiting.number own.number e) in
      same_items (came true here own position) (show (came_back true here own position)) refl refl refl refl refl refl
      refl refl refl
      (ap (λ (n : ℕ). (show here).accepted ++ (n, replies world.log own.number) ∷ []) number
      ∙ sym (map-push (acceptance_of after answer written first t_to_o_size start world.log) world.accepted own))
  came-same world Abandoned own position true e sound = absurd (cc)

  at_back : (world : TrackedWorld) (position : ℕ) (found : Option Own) → IsSound o_to_t_size world →
      delivery world.last_back world.back position ≡ found →
      items.after_back (option_map (answers_by world.log) found) (show world) position
      ≡ show (after_back found world position)
  at_back world position None sound e = refl
  at_back world position (Some own) sound e =
      ap (λ is. came is world own position) (is_reply-awaited world world.course own position sound sound.course e)
      ∙ came-same world world.course own position (is_own_awaited world.course own.number) refl sound.course

  pub step_same : (world : TrackedWorld) (event : Event) → IsSound o_to_t_size world →
      item_step after answer written (show world) event ≡ show (tracked_step o_to_t_size world event)
  step_same world (Submit request) sound =
      ap (λ why. items.after_submit why (show world) request)
      (refusal-same after answer written first o_to_t_size t_to_o_size start world request sound)
      ∙ at_submit after answer written first o_to_t_size t_to_o_size start world
      (refusal o_to_t_size (plain world) request) request
  step_same world Resend sound = at_resend after answer written first o_to_t_size t_to_o_size start world
  step_same world (Reach position) sound =
      ap (λ found. items.after_reach after answer written found (show world) position)
      (delivery-map (item_of first) world.last_reached world.sent position)
      ∙ at_reach world position (delivery world.last_reached world.sent position) sound refl
  step_same world (Back position) sound =
      ap (λ found. items.after_back found (show world) position)
      (delivery-map (answers_by world.log) world.last_back world.back position)
      ∙ at_back world position (delivery world.last_back world.back position) sound refl
  step_same world (Other request) sound =
      at_other after answer written first o_to_t_size t_to_o_size start world request (is_unconnected_request request)
  step_same world (Write write) sound = refl
  step_same world Shut sound = refl
  step_same world GiveUp sound = at_give_up after answer written first o_to_t_size t_to_o_size start world world.course

  pub run_same : (events : List Event) (world : TrackedWorld) → IsSound o_to_t_size world →
      item_run after answer written (show world) events ≡ show (tracked_run o_to_t_size world events)
  run_same [] world sound = refl
  run_same (event ∷ events) world sound =
      ap (λ w. item_run after answer written w events) (step_same world event sound)
      ∙ run_same events (tracked_step o_to_t_size world event) (step_sound o_to_t_size world event sound)
