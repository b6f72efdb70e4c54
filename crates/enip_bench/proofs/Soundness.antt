-- The invariants of the tracked world.
use Rattle.std.proofs.Common.{◌≡◌, ℕ, ◌+◌, ◌<◌, ◌≤◌, true, Option, Some, None, List, length, map}
use Rattle.cip_class3.specs.OriginatorRule.{form_refusal}
use Rattle.enip_bench.specs.Events.{delivery}
use Rattle.enip_bench.specs.NumberedWorld.{after_last}
use Rattle.enip_bench.proofs.LogLemmas.{next_logged, Falls, IsSubmitted, AreSubmitted}
use Rattle.enip_bench.proofs.Plain.{number_of}
use Rattle.enip_bench.proofs.PositionLemmas.{Each, Ordered}
use Rattle.enip_bench.proofs.TrackedWorld.{Own, Logged, Course, Resting, Awaiting, Abandoned, is_logged, TrackedWorld}

-- each submit has a valid form
abbrev pub HaveForm : ℕ → List (List ℕ) → Type 0
HaveForm o_to_t_size submits = Each (λ request. form_refusal o_to_t_size request ≡ None) submits

abbrev pub AreNotLower : List Own → Type 0
AreNotLower owns = Ordered (λ x y. x.number ≤ y.number) owns

-- each execution has the request that was submitted, and numbers rise
pub record IsLogSound (submits : List (List ℕ)) (log : List Logged) : Type 0 where
  pub falls : Falls log
  pub submitted : AreSubmitted submits log

-- what was sent was submitted, in order; what can still be delivered is not below the last execution
pub record IsSentSound (submits : List (List ℕ)) (sent : List Own) (last : Option ℕ) (log : List Logged) : Type 0 where
  pub submitted : Each (IsSubmitted submits) sent
  pub order : AreNotLower sent
  pub above : (k : ℕ) (own : Own) → delivery last sent k ≡ Some own → next_logged log ≤ own.number + 1

-- what was sent back was executed, in order; what can still be delivered is not too far below the last submit
pub record IsBackSound (submits : List (List ℕ)) (back : List Own) (last : Option ℕ) (log : List Logged)
    (unaccepted : ℕ) : Type 0 where
  pub logged : Each (λ own. is_logged own.number log ≡ true) back
  pub order : AreNotLower back
  pub near : (k : ℕ) (own : Own) → delivery last back k ≡ Some own → length submits ≤ own.number + 1 + unaccepted

-- each accepted reply is that of an execution, in order
pub record IsAcceptedSound (accepted : List Own) (log : List Logged) : Type 0 where
  pub logged : Each (λ own. is_logged own.number log ≡ true) accepted
  pub order : Ordered (λ (x : Own) (y : Own). x.number < y.number) accepted

-- The pending request is the last submit, and is above all requests whose reply was accepted.
abbrev pub IsCourseSound : List (List ℕ) → List Own → Course → Type 0
IsCourseSound submits accepted Resting = Unit {0}
IsCourseSound submits accepted (Awaiting own) =
    (length submits ≡ own.number + 1) × IsSubmitted submits own × Each (λ before. before.number < own.number) accepted
IsCourseSound submits accepted Abandoned = Unit {0}

-- fewer submits than counts since the last accepted reply; all earlier requests were executed or passed over
pub record IsWindow (submits : List (List ℕ)) (accepted : List Own) (log : List Logged) (unaccepted : ℕ) : Type 0 where
  pub since : unaccepted + after_last (map number_of accepted) ≡ length submits
  pub span : length submits ≤ next_logged log + unaccepted
  pub bound : unaccepted ≤ 65535

pub record IsSound (o_to_t_size : ℕ) (world : TrackedWorld) : Type 0 where
  pub form : HaveForm o_to_t_size world.submits
  pub log : IsLogSound world.submits world.log
  pub sent : IsSentSound world.submits world.sent world.last_reached world.log
  pub back : IsBackSound world.submits world.back world.last_back world.log world.unaccepted
  pub accepted : IsAcceptedSound world.accepted world.log
  pub course : IsCourseSound world.submits world.accepted world.course
  pub window : IsWindow world.submits world.accepted world.log world.unaccepted
