-- Each event keeps the invariants of the tracked world.
use Rattle.std.proofs.Common.{◌≡◌, ℕ, ◌+◌, ◌<◌, ◌≤◌, ◌⊎◌, inl, inr, Bool, true, false, Option, Some, None, List, [], ◌∷◌, ◌++◌, length, map, refl, ap, arith, eqb-true, eq-eqb}
use Rattle.std.proofs.lemmas.Bool.{cases_lt, or_left}
use Rattle.std.proofs.lemmas.List.{length_push}
use Rattle.std.proofs.lemmas.Option.{slice_get_within}
use Rattle.cip_class3.proofs.Counts.{IsAllowed, first_refusal-none}
use Rattle.cip_class3.specs.OriginatorRule.{form_refusal}
use Rattle.cip_class3.specs.declared.originator.Refused.{Refused}
use Rattle.enip_adapter.specs.OwnWrites.{OwnWrite}
use Rattle.enip_bench.specs.Events.{Event, Submit, Resend, Reach, Back, Other, Write, Shut, GiveUp, delivery, is_unconnected_request}
use Rattle.enip_bench.proofs.LogLemmas.{next_logged, Falls, IsSubmitted, AreSubmitted, logged_below, new_above, next_logged-within, submitted-kept, logged-kept}
use Rattle.enip_bench.specs.NumberedWorld.{after_last, submits_since_accepted, is_awaiting, refusal}
use Rattle.enip_bench.proofs.Plain.{number_of, plain}
use Rattle.enip_bench.proofs.PositionLemmas.{map-push, get-kept, get-last, each-push, ordered-push, delivered, delivered_later, delivered-push, not_lower}
use Rattle.enip_bench.proofs.Soundness.{IsSentSound, IsBackSound, IsSound}
use Rattle.enip_bench.proofs.TrackedSteps.{is_own_awaited, abandoned, with_own_sent, next_own, after_submit, with_execution, reached, after_reach, came_back, after_back, after_other, tracked_step, tracked_run}
use Rattle.enip_bench.proofs.TrackedWorld.{Own, Logged, OwnLogged, WriteLogged, Course, Resting, Awaiting, Abandoned, is_logged, TrackedWorld, tracked_at_opening}

pub opening_sound : (o_to_t_size : ℕ) → IsSound o_to_t_size tracked_at_opening
opening_sound o_to_t_size = record {
  form = λ i x e. absurd (cc);
  log = record { falls = tt; submitted = tt };
  sent = record {
    submitted = λ i x e. absurd (cc);
    order = λ i j x y lt e f. absurd (cc);
    above = λ k own e. omega arith;
  };
  back = record {
    logged = λ i x e. absurd (cc);
    order = λ i j x y lt e f. absurd (cc);
    near = λ k own e. omega arith;
  };
  accepted = record { logged = λ i x e. absurd (cc); order = λ i j x y lt e f. absurd (cc) };
  course = tt;
  window = record { since = refl; span = omega arith; bound = omega arith };
}

after_last-push : (numbers : List ℕ) (number : ℕ) → after_last (numbers ++ number ∷ []) ≡ number + 1
after_last-push [] number = refl
after_last-push (before ∷ []) number = refl
after_last-push (before ∷ next ∷ numbers) number = after_last-push (next ∷ numbers) number

-- A request is taken only if fewer than 65,535 were submitted since the last accepted reply.
allowed : (o_to_t_size : ℕ) (world : TrackedWorld) (request : List ℕ) → IsSound o_to_t_size world →
    refusal o_to_t_size (plain world) request ≡ None →
    (form_refusal o_to_t_size request ≡ None) × (world.unaccepted < 65535)
allowed o_to_t_size world request sound e =
    let is : IsAllowed (submits_since_accepted (plain world)) (is_awaiting (plain world).progress)
    (form_refusal o_to_t_size request) =
    first_refusal-none (submits_since_accepted (plain world)) (is_awaiting (plain world).progress)
    (form_refusal o_to_t_size request) e in
    (is.formed, omega (arith, is.room, sound.window.since))

-- a number is sent again, or the next one is sent
sent-push : (submits : List (List ℕ)) (sent : List Own) (last : Option ℕ) (log : List Logged) (own : Own) →
    IsSentSound submits sent last log → AreSubmitted submits log → IsSubmitted submits own → length submits
    ≡ own.number + 1 →
    IsSentSound submits (sent ++ own ∷ []) last log
sent-push submits sent last log own sound are is end = record {
  submitted = each-push (IsSubmitted submits) sent own sound.submitted is;
  order = ordered-push (λ (x : Own) (y : Own). x.number ≤ y.number) sent own sound.order
      (λ i x e. omega (arith, slice_get_within submits x.number x.request (sound.submitted i x e)));
  above = λ k x e. elim (delivered-push last sent own x k e) [
    | inl f ↦ sound.above k x f
    | inr f ↦ omega (arith, next_logged-within submits log are, ap (λ (o : Own). o.number) f.1)
  ];
}

-- what was sent stays valid after a new submit
sent-submit : (submits : List (List ℕ)) (sent : List Own) (last : Option ℕ) (log : List Logged) (request : List ℕ) →
    IsSentSound submits sent last log → IsSentSound (submits ++ request ∷ []) sent last log
sent-submit submits sent last log request sound = record {
  submitted = λ i x e. get-kept submits request x.request x.number (sound.submitted i x e);
  order = sound.order;
  above = sound.above;
}

submit_sound : (o_to_t_size : ℕ) (world : TrackedWorld) (request : List ℕ) → IsSound o_to_t_size world →
    (form_refusal o_to_t_size request ≡ None) × (world.unaccepted < 65535) →
    IsSound o_to_t_size (after_submit None world request)
submit_sound o_to_t_size world request sound allows =
    let more : length (world.submits ++ request ∷ []) ≡ length world.submits + 1 = length_push world.submits request in
    let own : Own = next_own world request in
    let is : IsSubmitted (world.submits ++ request ∷ []) own = get-last world.submits request in
    let are : AreSubmitted (world.submits ++ request ∷ []) world.log =
    submitted-kept world.submits request world.log sound.log.submitted in
    record {
      form = each-push (λ q. form_refusal o_to_t_size q ≡ None) world.submits request sound.form allows.0;
      log = record { falls = sound.log.falls; submitted = are };
      sent = sent-push (world.submits ++ request ∷ []) world.sent world.last_reached world.log own
          (sent-submit world.submits world.sent world.last_reached world.log request sound.sent) are is more;
      back = record {
        logged = sound.back.logged;
        order = sound.back.order;
        near = λ k x e. omega (arith, more, sound.back.near k x e);
      };
      accepted = sound.accepted;
      course = (
        more,
        is,
        λ i x e. omega (
          arith,
          next_logged-within world.submits world.log sound.log.submitted,
          logged_below world.log x.number sound.log.falls (sound.accepted.logged i x e),
        ),
      );
      window = record {
        since = omega (arith, more, sound.window.since);
        span = omega (arith, more, sound.window.span);
        bound = omega (arith, allows.1);
      };
    }

at_submit : (o_to_t_size : ℕ) (world : TrackedWorld) (request : List ℕ) (why : Option Refused) →
    IsSound o_to_t_size world →
    refusal o_to_t_size (plain world) request ≡ why → IsSound o_to_t_size (after_submit why world request)
at_submit o_to_t_size world request None sound e =
    submit_sound o_to_t_size world request sound
    (allowed o_to_t_size world request sound e)
at_submit o_to_t_size world request (Some why) sound e = sound

at_resend : (o_to_t_size : ℕ) (world : TrackedWorld) (course : Course) →
    IsSound o_to_t_size (record world { course = course }) →
    IsSound o_to_t_size (with_own_sent (record world { course = course }))
at_resend o_to_t_size world Resting sound = sound
at_resend o_to_t_size world (Awaiting own) sound = record {
  form = sound.form;
  log = sound.log;
  sent = sent-push world.submits world.sent world.last_reached world.log own sound.sent sound.log.submitted
      sound.course.1 sound.course.0;
  back = sound.back;
  accepted = sound.accepted;
  course = sound.course;
  window = sound.window;
}
at_resend o_to_t_size world Abandoned sound = sound

-- what can be delivered after a delivery is not below it
sent-reached : (submits : List (List ℕ)) (sent : List Own) (last : Option ℕ) (log later : List Logged) (own : Own)
    (position : ℕ) →
    IsSentSound submits sent last log → delivery last sent position ≡ Some own →
    (next_logged later ≤ next_logged log) ⊎ (next_logged later ≡ own.number + 1) →
    IsSentSound submits sent (Some position) later
sent-reached submits sent last log later own position sound found new = record {
  submitted = sound.submitted;
  order = sound.order;
  above = λ k x e.
      let behind = delivered_later last sent position k own x found e in
      let not_below : own.number ≤ x.number =
      not_lower (λ (o : Own). o.number) sent sound.order position k own x behind.0
      (delivered last sent position own found) (delivered last sent k x behind.1) (cases_lt position k) in
      let before : next_logged log ≤ x.number + 1 = sound.above k x behind.1 in
      elim new [ inl h ↦ omega arith | inr h ↦ omega arith ];
}

-- what was executed is sent back
back-push : (submits : List (List ℕ)) (back : List Own) (last : Option ℕ) (log : List Logged) (unaccepted : ℕ) (own : Own) →
    IsBackSound submits back last log unaccepted → Falls log → is_logged own.number log ≡ true →
    next_logged log ≤ own.number + 1 →
    length submits ≤ next_logged log + unaccepted → IsBackSound submits (back ++ own ∷ []) last log unaccepted
back-push submits back last log unaccepted own sound falls is near span = record {
  logged = each-push (λ (o : Own). is_logged o.number log ≡ true) back own sound.logged is;
  order = ordered-push (λ (x : Own) (y : Own). x.number ≤ y.number) back own sound.order
      (λ i x e. omega (arith, logged_below log x.number falls (sound.logged i x e)));
  near = λ k x e. elim (delivered-push last back own x k e) [
    | inl f ↦ sound.near k x f
    | inr f ↦ omega (arith, ap (λ (o : Own). o.number) f.1)
  ];
}

-- what was sent back stays valid after another execution
back-kept : (submits : List (List ℕ)) (back : List Own) (last : Option ℕ) (log : List Logged) (unaccepted : ℕ) (own : Own) →
    IsBackSound submits back last log unaccepted → IsBackSound submits back last (OwnLogged own ∷ log) unaccepted
back-kept submits back last log unaccepted own sound = record {
  logged = λ i x e. logged-kept log own x.number (sound.logged i x e);
  order = sound.order;
  near = sound.near;
}

-- a repeat, and a first arrival
execution_sound : (o_to_t_size : ℕ) (world : TrackedWorld) (own : Own) (position : ℕ) (is : Bool) →
    IsSound o_to_t_size world →
    delivery world.last_reached world.sent position ≡ Some own → is_logged own.number world.log ≡ is →
    IsSound o_to_t_size (record world
    { last_reached = Some position; log = with_execution is world.log own; back = world.back ++ own ∷ [] })
execution_sound o_to_t_size world own position true sound found is = record {
  form = sound.form;
  log = sound.log;
  sent = sent-reached world.submits world.sent world.last_reached world.log world.log own position sound.sent found
      (inl (omega arith));
  back = back-push world.submits world.back world.last_back world.log world.unaccepted own sound.back sound.log.falls is
      (sound.sent.above position own found) sound.window.span;
  accepted = sound.accepted;
  course = sound.course;
  window = sound.window;
}
execution_sound o_to_t_size world own position false sound found is =
    let above : next_logged world.log ≤ own.number =
    new_above world.log own.number (sound.sent.above position own found) is in
    let falls : Falls (OwnLogged own ∷ world.log) = (above, sound.log.falls) in
    record {
      form = sound.form;
      log = record {
        falls = falls;
        submitted = (
          sound.sent.submitted position own (delivered world.last_reached world.sent position own found),
          sound.log.submitted,
        );
      };
      sent = sent-reached world.submits world.sent world.last_reached world.log (OwnLogged own ∷ world.log) own
          position sound.sent found (inr refl);
      back = back-push world.submits world.back world.last_back (OwnLogged own ∷ world.log) world.unaccepted own
          (back-kept world.submits world.back world.last_back world.log world.unaccepted own sound.back) falls
          (or_left _ _ (eq-eqb own.number own.number refl)) (omega arith) (omega (arith, sound.window.span));
      accepted = record {
        logged = λ i x e. logged-kept world.log own x.number (sound.accepted.logged i x e);
        order = sound.accepted.order;
      };
      course = sound.course;
      window = record {
        since = sound.window.since;
        span = omega (arith, sound.window.span);
        bound = sound.window.bound;
      };
    }

reached_sound : (o_to_t_size : ℕ) (world : TrackedWorld) (own : Own) (position : ℕ) (is_open : Bool) →
    IsSound o_to_t_size world →
    delivery world.last_reached world.sent position ≡ Some own →
    IsSound o_to_t_size (reached is_open world own position)
reached_sound o_to_t_size world own position true sound found =
    execution_sound o_to_t_size world own position (is_logged own.number world.log) sound found refl
reached_sound o_to_t_size world own position false sound found = record {
  form = sound.form;
  log = sound.log;
  sent = sent-reached world.submits world.sent world.last_reached world.log world.log own position sound.sent found
      (inl (omega arith));
  back = sound.back;
  accepted = sound.accepted;
  course = sound.course;
  window = sound.window;
}

at_reach : (o_to_t_size : ℕ) (world : TrackedWorld) (position : ℕ) (found : Option Own) → IsSound o_to_t_size world →
    delivery world.last_reached world.sent position ≡ found → IsSound o_to_t_size (after_reach found world position)
at_reach o_to_t_size world position None sound e = sound
at_reach o_to_t_size world position (Some own) sound e =
    reached_sound o_to_t_size world own position world.is_open sound e

-- what can come back after a delivery could come back before it
back-came : (submits : List (List ℕ)) (back : List Own) (last : Option ℕ) (log : List Logged) (unaccepted : ℕ) (own : Own)
    (position : ℕ) →
    IsBackSound submits back last log unaccepted → delivery last back position ≡ Some own →
    IsBackSound submits back (Some position) log unaccepted
back-came submits back last log unaccepted own position sound found = record {
  logged = sound.logged;
  order = sound.order;
  near = λ k x e. sound.near k x (delivered_later last back position k own x found e).1;
}

-- nothing is far below the last submit
back-last : (submits : List (List ℕ)) (back : List Own) (last : Option ℕ) (log : List Logged) (unaccepted : ℕ) (own : Own)
    (position : ℕ) →
    IsBackSound submits back last log unaccepted → delivery last back position ≡ Some own → length submits ≡ own.number + 1 →
    IsBackSound submits back (Some position) log 0
back-last submits back last log unaccepted own position sound found end = record {
  logged = sound.logged;
  order = sound.order;
  near = λ k x e.
      let behind = delivered_later last back position k own x found e in
      let not_below : own.number ≤ x.number =
      not_lower (λ (o : Own). o.number) back sound.order position k own x behind.0
      (delivered last back position own found) (delivered last back k x behind.1) (cases_lt position k) in
      omega arith;
}

accepted_sound : (o_to_t_size : ℕ) (world : TrackedWorld) (own waiting : Own) (position : ℕ) →
    IsSound o_to_t_size (record world { course = Awaiting waiting }) → delivery world.last_back world.back position
    ≡ Some own →
    waiting.number ≡ own.number → IsSound o_to_t_size (came_back true world own position)
accepted_sound o_to_t_size world own waiting position sound found same =
    let is : is_logged own.number world.log ≡ true =
    sound.back.logged position own (delivered world.last_back world.back position own found) in
    let below : own.number < next_logged world.log = logged_below world.log own.number sound.log.falls is in
    let end : length world.submits ≡ own.number + 1 = omega (arith, sound.course.0) in
    record {
      form = sound.form;
      log = sound.log;
      sent = sound.sent;
      back = back-last world.submits world.back world.last_back world.log world.unaccepted own position sound.back found end;
      accepted = record {
        logged = each-push (λ (o : Own). is_logged o.number world.log ≡ true) world.accepted own sound.accepted.logged
            is;
        order = ordered-push (λ (x : Own) (y : Own). x.number < y.number) world.accepted own sound.accepted.order
            (λ i x e. omega (arith, sound.course.2 i x e));
      };
      course = tt;
      window = record {
        since = omega (
          arith,
          end,
          ap after_last (map-push number_of world.accepted own),
          after_last-push
              (map number_of world.accepted) own.number,
        );
        span = omega arith;
        bound = omega arith;
      };
    }

came_sound : (o_to_t_size : ℕ) (world : TrackedWorld) (own : Own) (position : ℕ) → IsSound o_to_t_size world →
    delivery world.last_back world.back position ≡ Some own → IsSound o_to_t_size (came_back false world own position)
came_sound o_to_t_size world own position sound found = record {
  form = sound.form;
  log = sound.log;
  sent = sound.sent;
  back = back-came world.submits world.back world.last_back world.log world.unaccepted own position sound.back found;
  accepted = sound.accepted;
  course = sound.course;
  window = sound.window;
}

came_back_sound : (o_to_t_size : ℕ) (world : TrackedWorld) (own waiting : Own) (position : ℕ) (is : Bool) →
    IsSound o_to_t_size (record world { course = Awaiting waiting }) → delivery world.last_back world.back position
    ≡ Some own →
    is_own_awaited (Awaiting waiting) own.number ≡ is →
    IsSound o_to_t_size (came_back is (record world { course = Awaiting waiting }) own position)
came_back_sound o_to_t_size world own waiting position true sound found is =
    accepted_sound o_to_t_size world own waiting position sound found (eqb-true waiting.number own.number is)
came_back_sound o_to_t_size world own waiting position false sound found is =
    came_sound o_to_t_size (record world { course = Awaiting waiting }) own position sound found

awaited_sound : (o_to_t_size : ℕ) (world : TrackedWorld) (own : Own) (position : ℕ) (course : Course) →
    IsSound o_to_t_size (record world { course = course }) → delivery world.last_back world.back position ≡ Some own →
    IsSound o_to_t_size (came_back (is_own_awaited course own.number) (record world { course = course }) own position)
awaited_sound o_to_t_size world own position Resting sound found =
    came_sound o_to_t_size (record world { course = Resting }) own position sound found
awaited_sound o_to_t_size world own position (Awaiting waiting) sound found =
    came_back_sound o_to_t_size world own waiting position (is_own_awaited (Awaiting waiting) own.number) sound found
    refl
awaited_sound o_to_t_size world own position Abandoned sound found =
    came_sound o_to_t_size (record world { course = Abandoned }) own position sound found

at_back : (o_to_t_size : ℕ) (world : TrackedWorld) (position : ℕ) (found : Option Own) → IsSound o_to_t_size world →
    delivery world.last_back world.back position ≡ found → IsSound o_to_t_size (after_back found world position)
at_back o_to_t_size world position None sound e = sound
at_back o_to_t_size world position (Some own) sound e =
    awaited_sound o_to_t_size world own position world.course sound e

at_other : (o_to_t_size : ℕ) (world : TrackedWorld) (request : List ℕ) (is : Bool) → IsSound o_to_t_size world →
    IsSound o_to_t_size (after_other is world request)
at_other o_to_t_size world request true sound = record {
  form = sound.form;
  log = record { falls = sound.log.falls; submitted = sound.log.submitted };
  sent = record { submitted = sound.sent.submitted; order = sound.sent.order; above = sound.sent.above };
  back = record { logged = sound.back.logged; order = sound.back.order; near = sound.back.near };
  accepted = record { logged = sound.accepted.logged; order = sound.accepted.order };
  course = sound.course;
  window = record { since = sound.window.since; span = sound.window.span; bound = sound.window.bound };
}
at_other o_to_t_size world request false sound = sound

at_write : (o_to_t_size : ℕ) (world : TrackedWorld) (write : OwnWrite) → IsSound o_to_t_size world →
    IsSound o_to_t_size (record world { log = WriteLogged write ∷ world.log })
at_write o_to_t_size world write sound = record {
  form = sound.form;
  log = record { falls = sound.log.falls; submitted = sound.log.submitted };
  sent = record { submitted = sound.sent.submitted; order = sound.sent.order; above = sound.sent.above };
  back = record { logged = sound.back.logged; order = sound.back.order; near = sound.back.near };
  accepted = record { logged = sound.accepted.logged; order = sound.accepted.order };
  course = sound.course;
  window = record { since = sound.window.since; span = sound.window.span; bound = sound.window.bound };
}

at_shut : (o_to_t_size : ℕ) (world : TrackedWorld) → IsSound o_to_t_size world →
    IsSound o_to_t_size (record world { is_open = false })
at_shut o_to_t_size world sound = record {
  form = sound.form;
  log = sound.log;
  sent = sound.sent;
  back = sound.back;
  accepted = sound.accepted;
  course = sound.course;
  window = sound.window;
}

at_give_up : (o_to_t_size : ℕ) (world : TrackedWorld) (course : Course) →
    IsSound o_to_t_size (record world { course = course }) →
    IsSound o_to_t_size (record world { course = abandoned course })
at_give_up o_to_t_size world Resting sound = sound
at_give_up o_to_t_size world (Awaiting own) sound = record {
  form = sound.form;
  log = sound.log;
  sent = sound.sent;
  back = sound.back;
  accepted = sound.accepted;
  course = tt;
  window = sound.window;
}
at_give_up o_to_t_size world Abandoned sound = sound

pub step_sound : (o_to_t_size : ℕ) (world : TrackedWorld) (event : Event) → IsSound o_to_t_size world →
    IsSound o_to_t_size (tracked_step o_to_t_size world event)
step_sound o_to_t_size world (Submit request) sound =
    at_submit o_to_t_size world request (refusal o_to_t_size (plain world) request) sound refl
step_sound o_to_t_size world Resend sound = at_resend o_to_t_size world world.course sound
step_sound o_to_t_size world (Reach position) sound =
    at_reach o_to_t_size world position (delivery world.last_reached world.sent position) sound refl
step_sound o_to_t_size world (Back position) sound =
    at_back o_to_t_size world position (delivery world.last_back world.back position) sound refl
step_sound o_to_t_size world (Other request) sound =
    at_other o_to_t_size world request (is_unconnected_request request) sound
step_sound o_to_t_size world (Write write) sound = at_write o_to_t_size world write sound
step_sound o_to_t_size world Shut sound = at_shut o_to_t_size world sound
step_sound o_to_t_size world GiveUp sound = at_give_up o_to_t_size world world.course sound

pub run_sound : (o_to_t_size : ℕ) (events : List Event) (world : TrackedWorld) → IsSound o_to_t_size world →
    IsSound o_to_t_size (tracked_run o_to_t_size world events)
run_sound o_to_t_size [] world sound = sound
run_sound o_to_t_size (event ∷ events) world sound =
    run_sound o_to_t_size events (tracked_step o_to_t_size world event) (step_sound o_to_t_size world event sound)
