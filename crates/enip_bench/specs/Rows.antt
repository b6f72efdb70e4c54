-- Worked examples of both worlds, over a router that keeps a sum.
use Rattle.std.specs.Prelude.{◌≡◌, ℕ, ◌+◌, List, [], ◌∷◌, replicate, slice_index, refl}
use Rattle.cip_bytes.specs.Numbers.{le}
use Rattle.cip_class3.specs.declared.originator.Stage.TheVariants as stages
use Rattle.enip_adapter.specs.OwnWrites.{OwnWrite, WritesData, WritesAttribute, SetsStatus, SetsState, Prepares, Settles, Finishes, Marks, Withdraws}
use Rattle.enip_bench.specs.Events.{Event, Submit, Resend, Reach, Back, Other, Write, Shut, GiveUp}
use Rattle.enip_bench.specs.Executions.{executions_of}
use Rattle.enip_bench.specs.ItemWorld.{items_seen}
use Rattle.enip_bench.specs.NumberedWorld.{OwnRequest, DeviceWrite, numbers_seen}
use Rattle.enip_bench.specs.Seen.{Seen}
use Rattle.enip_bench.specs.WorldLaws.{items_after, numbers_after}

-- service 0x32 of class 0x64, instance 1, with a number below 256
abbrev pub add : ℕ → List ℕ
add number = 0x32 ∷ 2 ∷ 0x20 ∷ 0x64 ∷ 0x24 ∷ 1 ∷ number ∷ 0 ∷ 0 ∷ 0 ∷ []

-- the reply with the new sum
abbrev pub added : ℕ → List ℕ
added sum = 0xb2 ∷ 0 ∷ 0 ∷ 0 ∷ le 4 sum

-- a router that adds each number, and replies with the sum
abbrev pub sum_after : ℕ → ℕ → List ℕ → ℕ
sum_after sum room request = sum + slice_index request 6

abbrev pub sum_answer : ℕ → ℕ → List ℕ → List ℕ
sum_answer sum room request = added (sum + slice_index request 6)

-- the device's status is the sum
abbrev pub sum_written : OwnWrite → ℕ → ℕ
sum_written (WritesData instance offset bytes) sum = sum
sum_written (WritesAttribute class instance attribute offset bytes) sum = sum
sum_written (SetsStatus status) sum = status
sum_written (SetsState state) sum = sum
sum_written (Prepares reply) sum = sum
sum_written (Settles originator number reply) sum = sum
sum_written (Finishes ticket reply) sum = sum
sum_written (Marks ticket) sum = sum
sum_written (Withdraws request) sum = sum

-- what each world shows, with sizes of 500 bytes, from sum 0
abbrev pub by_items : ℕ → List Event → Seen ℕ
by_items first events = items_seen (items_after sum_after sum_answer sum_written first 500 500 0 events)

abbrev pub by_numbers : ℕ → List Event → Seen ℕ
by_numbers first events = numbers_seen sum_after sum_answer sum_written first 500 0 (numbers_after 500 events)

-- A request reaches the target twice and is executed once. While it is pending, no other is taken. Its reply is
-- accepted, and the late duplicate of the reply is ignored.
abbrev pub late_double : List Event
late_double =
    Submit (add 5) ∷ Reach 0 ∷ Reach 0 ∷ Submit (add 7) ∷ Back 0 ∷ Submit (add 7) ∷ Back 1 ∷ Reach 1 ∷ Back 2 ∷ []

abbrev pub late_double_seen : Seen ℕ
late_double_seen = record {
  router = 12;
  back = (1 ∷ 0 ∷ added 5) ∷ (1 ∷ 0 ∷ added 5) ∷ (2 ∷ 0 ∷ added 12) ∷ [];
  accepted = (0, added 5) ∷ (1, added 12) ∷ [];
  stage = stages.Idle;
}

pub late_double-items : by_items 1 late_double ≡ late_double_seen
late_double-items = refl

pub late_double-numbers : by_numbers 1 late_double ≡ late_double_seen
late_double-numbers = refl

pub late_double-once : executions_of 0 (numbers_after 500 late_double).log ≡ 1
late_double-once = refl

-- Equal bytes with the counts 65,535 and 0 are two requests. What was sent before the last position delivered, or was
-- not sent yet, can't be delivered.
abbrev pub wrap : List Event
wrap = Submit (add 5) ∷ Reach 0 ∷ Back 0 ∷ Submit (add 5) ∷ Resend ∷ Reach 2 ∷ Reach 1 ∷ Reach 0 ∷ Reach 3 ∷ Back 1 ∷ []

abbrev pub wrap_seen : Seen ℕ
wrap_seen = record {
  router = 10;
  back = (0xff ∷ 0xff ∷ added 5) ∷ (0 ∷ 0 ∷ added 10) ∷ [];
  accepted = (0, added 5) ∷ (1, added 10) ∷ [];
  stage = stages.Idle;
}

pub wrap-items : by_items 65535 wrap ≡ wrap_seen
wrap-items = refl

pub wrap-numbers : by_numbers 65535 wrap ≡ wrap_seen
wrap-numbers = refl

-- Count 0 is executed if nothing is held. A request that was given up can still be executed, and its reply is not
-- accepted. Unconnected requests are executed as often as they come, except those under 2 or over 504 bytes.
abbrev pub giving_up : List Event
giving_up =
    Submit (add 5) ∷ GiveUp ∷ Submit (0x32 ∷ []) ∷ Resend ∷ Reach 0 ∷ Back 0 ∷ Other (add 20) ∷ Other (add 20)
    ∷ Other (0x32 ∷ []) ∷ Other (replicate 505 1) ∷ []

abbrev pub giving_up_seen : Seen ℕ
giving_up_seen = record { router = 45; back = (0 ∷ 0 ∷ added 5) ∷ []; accepted = []; stage = stages.GivenUp }

pub giving_up-items : by_items 0 giving_up ≡ giving_up_seen
giving_up-items = refl

pub giving_up-numbers : by_numbers 0 giving_up ≡ giving_up_seen
giving_up-numbers = refl

-- An originator that gave up goes on. The late reply to what it gave up is not accepted, although that was executed.
abbrev pub going_on : List Event
going_on = Submit (add 5) ∷ GiveUp ∷ Submit (add 7) ∷ Reach 0 ∷ Back 0 ∷ Reach 1 ∷ Back 1 ∷ []

abbrev pub going_on_seen : Seen ℕ
going_on_seen = record {
  router = 12;
  back = (1 ∷ 0 ∷ added 5) ∷ (2 ∷ 0 ∷ added 12) ∷ [];
  accepted = (1, added 12) ∷ [];
  stage = stages.Idle;
}

pub going_on-items : by_items 1 going_on ≡ going_on_seen
going_on-items = refl

pub going_on-numbers : by_numbers 1 going_on ≡ going_on_seen
going_on-numbers = refl

-- A lost request is never executed, and no reply is accepted but the awaited one.
abbrev pub lost : List Event
lost = Submit (add 5) ∷ GiveUp ∷ Submit (add 7) ∷ Reach 1 ∷ Reach 0 ∷ Back 0 ∷ GiveUp ∷ Submit (add 1) ∷ []

abbrev pub lost_seen : Seen ℕ
lost_seen = record {
  router = 7;
  back = (2 ∷ 0 ∷ added 7) ∷ [];
  accepted = (1, added 7) ∷ [];
  stage = stages.Waiting;
}

pub lost-items : by_items 1 lost ≡ lost_seen
lost-items = refl

pub lost-numbers : by_numbers 1 lost ≡ lost_seen
lost-numbers = refl

-- a closed target does not answer and executes nothing; other sessions are still served
abbrev pub closing : List Event
closing = Submit (add 5) ∷ Shut ∷ Reach 0 ∷ Other (add 1) ∷ Back 0 ∷ []

abbrev pub closing_seen : Seen ℕ
closing_seen = record { router = 1; back = []; accepted = []; stage = stages.Waiting }

pub closing-items : by_items 1 closing ≡ closing_seen
closing-items = refl

pub closing-numbers : by_numbers 1 closing ≡ closing_seen
closing-numbers = refl

-- The device writes between the two arrivals of a request. The second one is answered with the reply of its execution,
-- from before the write. The next request is executed after it.
abbrev pub writing : List Event
writing =
    Submit (add 5) ∷ Reach 0 ∷ Write (SetsStatus 20) ∷ Reach 0 ∷ Back 1 ∷ Submit (add 7) ∷ Write (SetsState 3) ∷ Reach 1
    ∷ Back 2 ∷ []

abbrev pub writing_seen : Seen ℕ
writing_seen = record {
  router = 27;
  back = (1 ∷ 0 ∷ added 5) ∷ (1 ∷ 0 ∷ added 5) ∷ (2 ∷ 0 ∷ added 27) ∷ [];
  accepted = (0, added 5) ∷ (1, added 27) ∷ [];
  stage = stages.Idle;
}

pub writing-items : by_items 1 writing ≡ writing_seen
writing-items = refl

pub writing-numbers : by_numbers 1 writing ≡ writing_seen
writing-numbers = refl

-- the log has both requests and both writes, in order
pub writing-log : (numbers_after 500 writing).log
    ≡ OwnRequest 0 ∷ DeviceWrite (SetsStatus 20) ∷ DeviceWrite (SetsState 3) ∷ OwnRequest 1 ∷ []
writing-log = refl
