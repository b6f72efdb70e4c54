-- One request in the numbered world: when it is executed, how often, and with which reply.
use Rattle.std.specs.Prelude.{◌≡◌, ℕ, ◌+◌, ◌-◌, ◌<◌, ◌⊎◌, true, false, if◌then◌else◌, Some, List, [], ◌∷◌, ◌++◌}
use Rattle.std.specs.List.{AllByRecursion}
use Rattle.enip_adapter.specs.OwnWrites.{OwnWrite}
use Rattle.enip_bench.specs.Events.{Event, Submit, Resend, Reach, Back, Other, Write, Shut, GiveUp, delivery}
use Rattle.enip_bench.specs.NumberedWorld.{Entry, OwnRequest, OtherRequest, DeviceWrite, NumberedWorld, numbered_step, stands, is_execution_of, request_of, router_after}

-- how often the request of this number was executed
abbrev pub executions_of : ℕ → List Entry → ℕ
executions_of number [] = 0
executions_of number (entry ∷ log) = (if is_execution_of number entry then 1 else 0) + executions_of number log

-- the numbers that were executed, in order
abbrev pub own_numbers : List Entry → List ℕ
own_numbers [] = []
own_numbers (OwnRequest number ∷ log) = number ∷ own_numbers log
own_numbers (OtherRequest request ∷ log) = own_numbers log
own_numbers (DeviceWrite write ∷ log) = own_numbers log

-- the device's own writes in a log, and among events, in order
abbrev pub writes_in : List Entry → List OwnWrite
writes_in [] = []
writes_in (OwnRequest number ∷ log) = writes_in log
writes_in (OtherRequest request ∷ log) = writes_in log
writes_in (DeviceWrite write ∷ log) = write ∷ writes_in log

abbrev pub writes_among : List Event → List OwnWrite
writes_among [] = []
writes_among (Write write ∷ events) = write ∷ writes_among events
writes_among (event ∷ events) = writes_among events

-- each number is below all later ones
abbrev pub AreRising : List ℕ → Type 0
AreRising [] = Unit {0}
AreRising (number ∷ numbers) = AllByRecursion (λ later. number < later) numbers × AreRising numbers

-- the event brings this number to the open target
abbrev pub IsArrival : NumberedWorld → Event → ℕ → Type 0
IsArrival world (Submit request) number = ⊥
IsArrival world Resend number = ⊥
IsArrival world (Reach position) number =
    (world.is_open ≡ true) × (delivery world.last_reached world.sent position ≡ Some number)
IsArrival world (Back position) number = ⊥
IsArrival world (Other request) number = ⊥
IsArrival world (Write write) number = ⊥
IsArrival world Shut number = ⊥
IsArrival world GiveUp number = ⊥

-- one of the events, starting from this world, brings this number to the open target
abbrev pub Arrives : ℕ → NumberedWorld → List Event → ℕ → Type 0
Arrives o_to_t_size world [] number = ⊥
Arrives o_to_t_size world (event ∷ events) number =
    IsArrival world event number ⊎ Arrives o_to_t_size (numbered_step o_to_t_size world event) events number

module _ {M : Type 0} (after : M → ℕ → List ℕ → M) (answer : M → ℕ → List ℕ → List ℕ)
    (written : OwnWrite → M → M) where
  -- the log has exactly one execution of this number's request, and this is the reply of it
  pub record IsOnlyExecution (t_to_o_size : ℕ) (submits : List (List ℕ)) (router : M) (log : List Entry) (number : ℕ)
      (reply : List ℕ) : Type 0 where
    pub before : List Entry
    pub later : List Entry
    pub there : log ≡ before ++ OwnRequest number ∷ later
    pub not_before : stands number before ≡ false
    pub not_later : stands number later ≡ false
    pub replied : reply ≡ answer (router_after after answer written t_to_o_size submits router before) (t_to_o_size - 2)
        (request_of submits number)
