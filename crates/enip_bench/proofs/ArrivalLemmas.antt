-- The log has exactly the numbers that reached the open target.
use Rattle.std.proofs.Common.{◌≡◌, ℕ, ◌⊎◌, inl, inr, Bool, true, false, cond, ◌==◌, Option, Some, None, List, [], ◌∷◌, ◌++◌, refl, ap, sym, ◌∙◌, subst, eqb-true, eq-eqb}
use Rattle.std.proofs.lemmas.Bool.{or_cases, or_left, or_right}
use Rattle.std.proofs.lemmas.Option.{same_Some}
use Rattle.cip_class3.specs.declared.originator.Refused.{Refused}
use Rattle.enip_bench.specs.Events.{Event, Submit, Resend, Reach, Back, Other, Write, Shut, GiveUp, delivery, is_unconnected_request}
use Rattle.enip_bench.specs.Executions.{IsArrival, Arrives}
use Rattle.enip_bench.specs.NumberedWorld.{Entry, OwnRequest, OtherRequest, NumberedWorld, Idle, refusal, is_awaited, stands, after_submit, after_reach, after_back, numbers_at_opening, numbered_step, numbered_run}
use Rattle.enip_bench.specs.WorldLaws.{arrival_law}
use Rattle.enip_bench.proofs.PlainLemmas.{stands-own, stands-other, stands-write}

-- the log after an event: unchanged, except by an arrival, another session's request and a write of the device
pub submit-log : (why : Option Refused) (world : NumberedWorld) (request : List ℕ) →
    (after_submit why world request).log ≡ world.log
submit-log None world request = refl
submit-log (Some why) world request = refl

came-log : (is : Bool) (world : NumberedWorld) (position number : ℕ) →
    (let moved : NumberedWorld = record world { last_back = Some position } in
    let came : NumberedWorld = cond is (record moved { progress = Idle; accepted = world.accepted ++ number ∷ [] })
    moved in came.log) ≡ world.log
came-log true world position number = refl
came-log false world position number = refl

pub back-log : (found : Option ℕ) (world : NumberedWorld) (position : ℕ) →
    (after_back found world position).log ≡ world.log
back-log None world position = refl
back-log (Some number) world position = came-log (is_awaited world.progress number) world position number

-- what is in the log after an arrival was there before, or is the one that arrived
execution-before : (log : List Entry) (own number : ℕ) (is : Bool) → stands own log ≡ is →
    stands number (cond is log (log ++ OwnRequest own ∷ [])) ≡ true → (stands number log ≡ true) ⊎ (own ≡ number)
execution-before log own number true e is = inl is
execution-before log own number false e is =
    elim (or_cases (own == number) (stands number log) (sym (stands-own log own number) ∙ is)) [
      | inl h ↦ inr (eqb-true own number h)
      | inr h ↦ inl h
    ]

-- what was in the log is there after it, and so is the one that arrived
execution-after : (log : List Entry) (own number : ℕ) (is : Bool) → stands own log ≡ is →
    (stands number log ≡ true) ⊎ (own ≡ number) →
    stands number (cond is log (log ++ OwnRequest own ∷ [])) ≡ true
execution-after log own number true e (inl old) = old
execution-after log own number true e (inr new) = subst (λ n. stands n log ≡ true) new e
execution-after log own number false e (inl old) = stands-own log own number
    ∙ or_right (own == number) (stands number log) old
execution-after log own number false e (inr new) = stands-own log own number
    ∙ or_left (own == number) (stands number log) (eq-eqb own number new)

reach-before : (world : NumberedWorld) (position number : ℕ) (found : Option ℕ) (is_open : Bool) →
    stands number (after_reach found (record world { is_open = is_open }) position).log ≡ true →
    (stands number world.log ≡ true) ⊎ ((is_open ≡ true) × (found ≡ Some number))
reach-before world position number None is_open is = inl is
reach-before world position number (Some own) true is =
    elim (execution-before world.log own number (stands own world.log) refl is)
    [ inl h ↦ inl h | inr h ↦ inr (refl, ap (λ n. Some n) h) ]
reach-before world position number (Some own) false is = inl is

reach-after : (world : NumberedWorld) (position number : ℕ) (found : Option ℕ) (is_open : Bool) →
    (stands number world.log ≡ true) ⊎ ((is_open ≡ true) × (found ≡ Some number)) →
    stands number (after_reach found (record world { is_open = is_open }) position).log ≡ true
reach-after world position number None is_open (inl old) = old
reach-after world position number None is_open (inr new) = absurd (cc)
reach-after world position number (Some own) true (inl old) =
    execution-after world.log own number (stands own world.log) refl (inl old)
reach-after world position number (Some own) true (inr new) =
    execution-after world.log own number (stands own world.log) refl (inr (same_Some own number new.1))
reach-after world position number (Some own) false (inl old) = old
reach-after world position number (Some own) false (inr new) = absurd (cc)

other-log : (is : Bool) (world : NumberedWorld) (request : List ℕ) (number : ℕ) →
    (let after : NumberedWorld = cond is (record world { log = world.log ++ OtherRequest request ∷ [] }) world
    in stands number after.log) ≡ stands number world.log
other-log true world request number = stands-other world.log request number
other-log false world request number = refl

step-before : (o_to_t_size : ℕ) (world : NumberedWorld) (event : Event) (number : ℕ) →
    stands number (numbered_step o_to_t_size world event).log ≡ true →
    (stands number world.log ≡ true) ⊎ IsArrival world event number
step-before o_to_t_size world (Submit request) number is =
    inl (ap (stands number) (sym (submit-log (refusal o_to_t_size world request) world request)) ∙ is)
step-before o_to_t_size world Resend number is = inl is
step-before o_to_t_size world (Reach position) number is =
    reach-before world position number (delivery world.last_reached world.sent position) world.is_open is
step-before o_to_t_size world (Back position) number is =
    inl (ap (stands number) (sym (back-log (delivery world.last_back world.back position) world position)) ∙ is)
step-before o_to_t_size world (Other request) number is =
    inl (sym (other-log (is_unconnected_request request) world request number) ∙ is)
step-before o_to_t_size world (Write write) number is = inl (sym (stands-write world.log write number) ∙ is)
step-before o_to_t_size world Shut number is = inl is
step-before o_to_t_size world GiveUp number is = inl is

step-after : (o_to_t_size : ℕ) (world : NumberedWorld) (event : Event) (number : ℕ) →
    (stands number world.log ≡ true) ⊎ IsArrival world event number →
    stands number (numbered_step o_to_t_size world event).log ≡ true
step-after o_to_t_size world (Submit request) number (inl old) =
    ap (stands number) (submit-log (refusal o_to_t_size world request) world request) ∙ old
step-after o_to_t_size world (Submit request) number (inr new) = absurd new
step-after o_to_t_size world Resend number (inl old) = old
step-after o_to_t_size world Resend number (inr new) = absurd new
step-after o_to_t_size world (Reach position) number arrived =
    reach-after world position number (delivery world.last_reached world.sent position) world.is_open arrived
step-after o_to_t_size world (Back position) number (inl old) =
    ap (stands number) (back-log (delivery world.last_back world.back position) world position) ∙ old
step-after o_to_t_size world (Back position) number (inr new) = absurd new
step-after o_to_t_size world (Other request) number (inl old) =
    other-log (is_unconnected_request request) world request number ∙ old
step-after o_to_t_size world (Other request) number (inr new) = absurd new
step-after o_to_t_size world (Write write) number (inl old) = stands-write world.log write number ∙ old
step-after o_to_t_size world (Write write) number (inr new) = absurd new
step-after o_to_t_size world Shut number (inl old) = old
step-after o_to_t_size world Shut number (inr new) = absurd new
step-after o_to_t_size world GiveUp number (inl old) = old
step-after o_to_t_size world GiveUp number (inr new) = absurd new

run-before : (o_to_t_size : ℕ) (events : List Event) (world : NumberedWorld) (number : ℕ) →
    stands number (numbered_run o_to_t_size world events).log ≡ true →
    (stands number world.log ≡ true) ⊎ Arrives o_to_t_size world events number
run-before o_to_t_size [] world number is = inl is
run-before o_to_t_size (event ∷ events) world number is =
    elim (run-before o_to_t_size events (numbered_step o_to_t_size world event) number is) [
      | inl now ↦ elim (step-before o_to_t_size world event number now) [ inl old ↦ inl old | inr new ↦ inr (inl new) ]
      | inr later ↦ inr (inr later)
    ]

run-after : (o_to_t_size : ℕ) (events : List Event) (world : NumberedWorld) (number : ℕ) →
    (stands number world.log ≡ true) ⊎ Arrives o_to_t_size world events number →
    stands number (numbered_run o_to_t_size world events).log ≡ true
run-after o_to_t_size [] world number (inl old) = old
run-after o_to_t_size [] world number (inr none) = absurd none
run-after o_to_t_size (event ∷ events) world number (inl old) =
    run-after o_to_t_size events (numbered_step o_to_t_size world event) number
    (inl (step-after o_to_t_size world event number (inl old)))
run-after o_to_t_size (event ∷ events) world number (inr (inl new)) =
    run-after o_to_t_size events (numbered_step o_to_t_size world event) number
    (inl (step-after o_to_t_size world event number (inr new)))
run-after o_to_t_size (event ∷ events) world number (inr (inr later)) =
    run-after o_to_t_size events (numbered_step o_to_t_size world event) number (inr later)

none_stands : (number : ℕ) (events : List Event) (o_to_t_size : ℕ) →
    (stands number [] ≡ true) ⊎ Arrives o_to_t_size numbers_at_opening events number →
    Arrives o_to_t_size numbers_at_opening events number
none_stands number events o_to_t_size (inl old) = absurd (cc)
none_stands number events o_to_t_size (inr arrived) = arrived

pub arrival : arrival_law
arrival o_to_t_size number events = (
  (λ is. none_stands number events o_to_t_size (run-before o_to_t_size events numbers_at_opening number is)),
  (λ arrived. run-after o_to_t_size events numbers_at_opening number (inr arrived)),
)
