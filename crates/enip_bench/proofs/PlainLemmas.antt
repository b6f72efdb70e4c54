-- Each event has the same effect on the numbered world as on the tracked world.
use Rattle.std.proofs.Common.{◌≡◌, ℕ, Bool, true, false, cond, ◌||◌, ◌==◌, Option, Some, None, option_map, List, [], ◌∷◌, ◌++◌, map, refl, ap, sym, ◌∙◌}
use Rattle.cip_class3.specs.declared.originator.Refused.{Refused}
use Rattle.enip_adapter.specs.OwnWrites.{OwnWrite}
use Rattle.enip_bench.specs.Events.{Event, Submit, Resend, Reach, Back, Other, Write, Shut, GiveUp, delivery, is_unconnected_request, with_any}
use Rattle.enip_bench.specs.NumberedWorld as numbered
use Rattle.enip_bench.specs.NumberedWorld.{Entry, OwnRequest, OtherRequest, DeviceWrite, NumberedWorld, refusal, awaited, is_awaited, stands, with_awaited_sent, with_number, numbered_step, numbered_run}
use Rattle.enip_bench.proofs.Plain.{number_of, entries_of, progress_of, plain}
use Rattle.enip_bench.proofs.PositionLemmas.{delivery-map, map-push, map-with_any}
use Rattle.enip_bench.proofs.TrackedSteps.{own_awaited, is_own_awaited, abandoned, with_own_sent, next_own, after_submit, with_execution, reached, after_reach, came_back, after_back, after_other, tracked_step, tracked_run}
use Rattle.enip_bench.proofs.TrackedWorld.{Own, Logged, OwnLogged, OtherLogged, WriteLogged, Course, Resting, Awaiting, Abandoned, is_logged, TrackedWorld}

-- numbered worlds with the same parts
same_numbers : (a b : NumberedWorld) → a.submits ≡ b.submits → a.sent ≡ b.sent → a.back ≡ b.back → a.last_reached
    ≡ b.last_reached →
    a.last_back ≡ b.last_back → a.log ≡ b.log → a.is_open ≡ b.is_open → a.progress ≡ b.progress → a.accepted
    ≡ b.accepted → a ≡ b
same_numbers a b submits sent back last_reached last_back log is_open progress accepted = λ i. record {
  submits = submits i;
  sent = sent i;
  back = back i;
  last_reached = last_reached i;
  last_back = last_back i;
  log = log i;
  is_open = is_open i;
  progress = progress i;
  accepted = accepted i;
}

or_swap : (a b c : Bool) → (a || (b || c)) ≡ (b || (a || c))
or_swap true true c = refl
or_swap true false c = refl
or_swap false true c = refl
or_swap false false c = refl

pub stands-own : (log : List Entry) (own number : ℕ) → stands number (log ++ OwnRequest own ∷ [])
    ≡ ((own == number) || stands number log)
stands-own [] own number = refl
stands-own (OwnRequest before ∷ log) own number =
    ap (λ is. (before == number) || is) (stands-own log own number)
    ∙ or_swap (before == number) (own == number) (stands number log)
stands-own (OtherRequest request ∷ log) own number = stands-own log own number
stands-own (DeviceWrite write ∷ log) own number = stands-own log own number

pub stands-other : (log : List Entry) (request : List ℕ) (number : ℕ) →
    stands number (log ++ OtherRequest request ∷ []) ≡ stands number log
stands-other [] request number = refl
stands-other (OwnRequest before ∷ log) request number =
    ap (λ is. (before == number) || is) (stands-other log request number)
stands-other (OtherRequest before ∷ log) request number = stands-other log request number
stands-other (DeviceWrite write ∷ log) request number = stands-other log request number

pub stands-write : (log : List Entry) (write : OwnWrite) (number : ℕ) →
    stands number (log ++ DeviceWrite write ∷ []) ≡ stands number log
stands-write [] write number = refl
stands-write (OwnRequest before ∷ log) write number =
    ap (λ is. (before == number) || is) (stands-write log write number)
stands-write (OtherRequest request ∷ log) write number = stands-write log write number
stands-write (DeviceWrite before ∷ log) write number = stands-write log write number

pub stands-logged : (log : List Logged) (number : ℕ) → stands number (entries_of log) ≡ is_logged number log
stands-logged [] number = refl
stands-logged (OwnLogged own ∷ log) number =
    stands-own (entries_of log) own.number number ∙ ap (λ is. (own.number == number) || is) (stands-logged log number)
stands-logged (OtherLogged request ∷ log) number = stands-other (entries_of log) request number
    ∙ stands-logged log number
stands-logged (WriteLogged write ∷ log) number = stands-write (entries_of log) write number
    ∙ stands-logged log number

awaited-same : (course : Course) → awaited (progress_of course) ≡ option_map number_of (own_awaited course)
awaited-same Resting = refl
awaited-same (Awaiting own) = refl
awaited-same Abandoned = refl

pub is_awaited-same : (course : Course) (number : ℕ) → is_awaited (progress_of course) number
    ≡ is_own_awaited course number
is_awaited-same Resting number = refl
is_awaited-same (Awaiting own) number = refl
is_awaited-same Abandoned number = refl

at_submit : (world : TrackedWorld) (why : Option Refused) (request : List ℕ) →
    numbered.after_submit why (plain world) request ≡ plain (after_submit why world request)
at_submit world None request =
    same_numbers (numbered.after_submit None (plain world) request) (plain (after_submit None world request)) refl
    (sym (map-push number_of world.sent (next_own world request))) refl refl refl refl refl refl refl
at_submit world (Some why) request = refl

at_resend : (world : TrackedWorld) → with_awaited_sent (plain world) ≡ plain (with_own_sent world)
at_resend world =
    same_numbers (with_awaited_sent (plain world)) (plain (with_own_sent world)) refl
    (ap (λ o. with_any o (map number_of world.sent)) (awaited-same world.course)
    ∙ sym (map-with_any number_of (own_awaited world.course) world.sent))
    refl refl refl refl refl refl refl

log-same : (log : List Logged) (own : Own) (is : Bool) →
    cond is (entries_of log) (entries_of log ++ OwnRequest own.number ∷ []) ≡ entries_of (with_execution is log own)
log-same log own true = refl
log-same log own false = refl

at_reached : (world : TrackedWorld) (own : Own) (position : ℕ) (is_open : Bool) →
    (let moved : NumberedWorld = record (plain world) { last_reached = Some position } in cond is_open
    (with_number moved own.number) moved)
    ≡ plain (reached is_open world own position)
at_reached world own position true =
    same_numbers (with_number (record (plain world) { last_reached = Some position }) own.number)
    (plain (reached true world own position))
    refl refl (sym (map-push number_of world.back own)) refl refl
    (ap (λ is. cond is (entries_of world.log) (entries_of world.log ++ OwnRequest own.number ∷ []))
    (stands-logged world.log own.number)
    ∙ log-same world.log own (is_logged own.number world.log)) refl refl refl
at_reached world own position false = refl

at_reach : (world : TrackedWorld) (position : ℕ) (found : Option Own) →
    numbered.after_reach (option_map number_of found) (plain world) position ≡ plain (after_reach found world position)
at_reach world position None = refl
at_reach world position (Some own) = at_reached world own position world.is_open

at_came : (world : TrackedWorld) (own : Own) (position : ℕ) (is : Bool) →
    (let moved : NumberedWorld = record (plain world) { last_back = Some position } in
    cond is (record moved { progress = numbered.Idle; accepted = map number_of world.accepted ++ own.number ∷ [] })
    moved)
    ≡ plain (came_back is world own position)
at_came world own position true =
    same_numbers (record (plain world) {
      last_back = Some position;
      progress = numbered.Idle;
      accepted = map number_of world.accepted ++ own.number ∷ [];
    })
    (plain (came_back true world own position)) refl refl refl refl refl refl refl refl
    (sym (map-push number_of world.accepted own))
at_came world own position false = refl

at_back : (world : TrackedWorld) (position : ℕ) (found : Option Own) →
    numbered.after_back (option_map number_of found) (plain world) position ≡ plain (after_back found world position)
at_back world position None = refl
at_back world position (Some own) =
    ap (λ is. (let moved : NumberedWorld = record (plain world) { last_back = Some position } in
    cond is (record moved { progress = numbered.Idle; accepted = map number_of world.accepted ++ own.number ∷ [] })
    moved))
    (is_awaited-same world.course own.number)
    ∙ at_came world own position (is_own_awaited world.course own.number)

at_other : (world : TrackedWorld) (request : List ℕ) (is : Bool) →
    cond is (record (plain world) { log = entries_of world.log ++ OtherRequest request ∷ [] }) (plain world)
    ≡ plain (after_other is world request)
at_other world request true = refl
at_other world request false = refl

at_give_up : (world : TrackedWorld) (course : Course) → numbered.given_up (progress_of course)
    ≡ progress_of (abandoned course)
at_give_up world Resting = refl
at_give_up world (Awaiting own) = refl
at_give_up world Abandoned = refl

pub step_plain : (o_to_t_size : ℕ) (world : TrackedWorld) (event : Event) →
    numbered_step o_to_t_size (plain world) event ≡ plain (tracked_step o_to_t_size world event)
step_plain o_to_t_size world (Submit request) = at_submit world (refusal o_to_t_size (plain world) request) request
step_plain o_to_t_size world Resend = at_resend world
step_plain o_to_t_size world (Reach position) =
    ap (λ found. numbered.after_reach found (plain world) position)
    (delivery-map number_of world.last_reached world.sent position)
    ∙ at_reach world position (delivery world.last_reached world.sent position)
step_plain o_to_t_size world (Back position) =
    ap (λ found. numbered.after_back found (plain world) position)
    (delivery-map number_of world.last_back world.back position)
    ∙ at_back world position (delivery world.last_back world.back position)
step_plain o_to_t_size world (Other request) = at_other world request (is_unconnected_request request)
step_plain o_to_t_size world (Write write) = refl
step_plain o_to_t_size world Shut = refl
step_plain o_to_t_size world GiveUp =
    ap (λ progress. record (plain world) { progress = progress }) (at_give_up world world.course)

pub run_plain : (o_to_t_size : ℕ) (events : List Event) (world : TrackedWorld) →
    numbered_run o_to_t_size (plain world) events ≡ plain (tracked_run o_to_t_size world events)
run_plain o_to_t_size [] world = refl
run_plain o_to_t_size (event ∷ events) world =
    ap (λ w. numbered_run o_to_t_size w events) (step_plain o_to_t_size world event)
    ∙ run_plain o_to_t_size events (tracked_step o_to_t_size world event)
