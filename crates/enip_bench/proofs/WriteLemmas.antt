-- The log has each write of the device once, in order.
use Rattle.std.proofs.Common.{◌≡◌, ℕ, Bool, true, false, cond, Option, Some, None, List, [], ◌∷◌, ◌++◌, append-nil, append_assoc, refl, ap, sym, ◌∙◌}
use Rattle.enip_bench.specs.Events.{Event, Submit, Resend, Reach, Back, Other, Write, Shut, GiveUp, delivery, is_unconnected_request}
use Rattle.enip_bench.specs.Executions.{writes_in, writes_among}
use Rattle.enip_bench.specs.NumberedWorld.{Entry, OwnRequest, OtherRequest, DeviceWrite, NumberedWorld, refusal, stands, after_reach, numbers_at_opening, numbered_step, numbered_run}
use Rattle.enip_bench.specs.WorldLaws.{writes_law}
use Rattle.enip_bench.proofs.ArrivalLemmas.{submit-log, back-log}

-- one more entry
writes-push : (log : List Entry) (entry : Entry) →
    writes_in (log ++ entry ∷ []) ≡ writes_in log ++ writes_in (entry ∷ [])
writes-push [] entry = refl
writes-push (OwnRequest number ∷ log) entry = writes-push log entry
writes-push (OtherRequest request ∷ log) entry = writes-push log entry
writes-push (DeviceWrite write ∷ log) entry = ap (λ writes. write ∷ writes) (writes-push log entry)

-- requests add no write
own-writes : (log : List Entry) (number : ℕ) (is : Bool) →
    writes_in (cond is log (log ++ OwnRequest number ∷ [])) ≡ writes_in log
own-writes log number true = refl
own-writes log number false = writes-push log (OwnRequest number) ∙ append-nil (writes_in log)

reach-writes : (found : Option ℕ) (world : NumberedWorld) (position : ℕ) (is_open : Bool) →
    writes_in (after_reach found (record world { is_open = is_open }) position).log ≡ writes_in world.log
reach-writes None world position is_open = refl
reach-writes (Some number) world position true = own-writes world.log number (stands number world.log)
reach-writes (Some number) world position false = refl

other-writes : (is : Bool) (world : NumberedWorld) (request : List ℕ) →
    (let after : NumberedWorld = cond is (record world { log = world.log ++ OtherRequest request ∷ [] }) world
    in writes_in after.log) ≡ writes_in world.log
other-writes true world request = writes-push world.log (OtherRequest request) ∙ append-nil (writes_in world.log)
other-writes false world request = refl

-- an event adds its own write, if it is one
step-writes : (o_to_t_size : ℕ) (world : NumberedWorld) (event : Event) →
    writes_in (numbered_step o_to_t_size world event).log ≡ writes_in world.log ++ writes_among (event ∷ [])
step-writes o_to_t_size world (Submit request) =
    ap writes_in (submit-log (refusal o_to_t_size world request) world request)
    ∙ sym (append-nil (writes_in world.log))
step-writes o_to_t_size world Resend = sym (append-nil (writes_in world.log))
step-writes o_to_t_size world (Reach position) =
    reach-writes (delivery world.last_reached world.sent position) world position world.is_open
    ∙ sym (append-nil (writes_in world.log))
step-writes o_to_t_size world (Back position) =
    ap writes_in (back-log (delivery world.last_back world.back position) world position)
    ∙ sym (append-nil (writes_in world.log))
step-writes o_to_t_size world (Other request) =
    other-writes (is_unconnected_request request) world request ∙ sym (append-nil (writes_in world.log))
step-writes o_to_t_size world (Write write) = writes-push world.log (DeviceWrite write)
step-writes o_to_t_size world Shut = sym (append-nil (writes_in world.log))
step-writes o_to_t_size world GiveUp = sym (append-nil (writes_in world.log))

first-write : (event : Event) (events : List Event) →
    writes_among (event ∷ []) ++ writes_among events ≡ writes_among (event ∷ events)
first-write (Submit request) events = refl
first-write Resend events = refl
first-write (Reach position) events = refl
first-write (Back position) events = refl
first-write (Other request) events = refl
first-write (Write write) events = refl
first-write Shut events = refl
first-write GiveUp events = refl

run-writes : (o_to_t_size : ℕ) (events : List Event) (world : NumberedWorld) →
    writes_in (numbered_run o_to_t_size world events).log ≡ writes_in world.log ++ writes_among events
run-writes o_to_t_size [] world = sym (append-nil (writes_in world.log))
run-writes o_to_t_size (event ∷ events) world =
    run-writes o_to_t_size events (numbered_step o_to_t_size world event)
    ∙ ap (λ writes. writes ++ writes_among events) (step-writes o_to_t_size world event)
    ∙ append_assoc (writes_in world.log) (writes_among (event ∷ [])) (writes_among events)
    ∙ ap (λ writes. writes_in world.log ++ writes) (first-write event events)

pub writes : writes_law
writes o_to_t_size events = run-writes o_to_t_size events numbers_at_opening
