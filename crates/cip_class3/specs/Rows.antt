-- Worked examples of the two rules.
use Rattle.std.specs.Prelude.{◌≡◌, ℕ, true, false, Some, None, List, [], ◌∷◌, replicate, refl}
use Rattle.cip_class3.specs.Item.{item, sequence_count_of}
use Rattle.cip_class3.specs.TargetRule.{TargetState, target_at_opening, is_held, execution_limit}
use Rattle.cip_class3.specs.OriginatorRule.{OriginatorState, Waiting, originator_at_opening, submit_refusal}
use Rattle.cip_class3.specs.OriginatorRule.{with_next_request, is_reply, after_give_up, after_item}
use Rattle.cip_class3.specs.declared.originator.Refused.TheVariants.{Busy, TooLong, NoRequest, TooManyAbandoned}

-- Service 0x32 at class 0x64, instance 1, with the number 5.
abbrev pub add_five : List ℕ
add_five = 0x32 ∷ 2 ∷ 0x20 ∷ 0x64 ∷ 0x24 ∷ 1 ∷ 5 ∷ 0 ∷ 0 ∷ 0 ∷ []

-- The least byte of the count comes first.
pub item-add_five : item 1 add_five ≡ 1 ∷ 0 ∷ add_five
item-add_five = refl

pub sequence_count_of-item : sequence_count_of (1 ∷ 0 ∷ add_five) ≡ 1
sequence_count_of-item = refl

-- If nothing is held, count 0 is not held either.
pub is_held-nothing : is_held None 0 ≡ false
is_held-nothing = refl

pub is_held-zero : (reply : List ℕ) → is_held (Some (record { sequence_count = 0; reply = reply })) 0 ≡ true
is_held-zero reply = refl

abbrev pub after_count_one : TargetState
after_count_one = record (target_at_opening 12 500) { held = Some (record { sequence_count = 1; reply = [] }) }

-- A request with another count would be executed, with up to 498 bytes of reply.
pub execution_limit-another : execution_limit after_count_one (item 2 add_five) ≡ Some 498
execution_limit-another = refl

pub execution_limit-repeat : execution_limit after_count_one (item 1 add_five) ≡ None
execution_limit-repeat = refl

-- The item has 12 bytes, which fit the O->T size. With 13 it is dropped, and with 3.
pub execution_limit-long : execution_limit after_count_one (item 2 (5 ∷ add_five)) ≡ None
execution_limit-long = refl

pub execution_limit-short : execution_limit after_count_one (item 2 (5 ∷ [])) ≡ None
execution_limit-short = refl

abbrev pub idle : OriginatorState
idle = originator_at_opening 65535 500 500

-- 498 bytes with their count are 500. With 499 they are too many.
pub submit_refusal-longest : submit_refusal idle (replicate 498 14) ≡ None
submit_refusal-longest = refl

pub submit_refusal-longer : submit_refusal idle (replicate 499 14) ≡ Some TooLong
submit_refusal-longer = refl

-- One byte, or a service with bit 7.
pub submit_refusal-short : submit_refusal idle (0x32 ∷ []) ≡ Some NoRequest
submit_refusal-short = refl

pub submit_refusal-reply : submit_refusal idle (0xb2 ∷ 2 ∷ 0x20 ∷ 0x64 ∷ 0x24 ∷ 1 ∷ []) ≡ Some NoRequest
submit_refusal-reply = refl

-- A second request while one is waiting, whatever its form.
pub submit_refusal-waiting : submit_refusal (with_next_request idle add_five) (0x32 ∷ []) ≡ Some Busy
submit_refusal-waiting = refl

-- This many were submitted since the last accepted reply, and the last one was given up.
abbrev pub abandoned : ℕ → OriginatorState
abandoned unaccepted = record (after_give_up (with_next_request idle add_five)) { unaccepted = unaccepted }

-- After a request was given up, another is accepted, up to the 65,535th since the last accepted reply.
pub submit_refusal-given_up : submit_refusal (abandoned 65534) add_five ≡ None
submit_refusal-given_up = refl

pub submit_refusal-too_many : submit_refusal (abandoned 65535) add_five ≡ Some TooManyAbandoned
submit_refusal-too_many = refl

-- While the 65,535th is waiting, whatever the form of the next one.
pub submit_refusal-last : submit_refusal (with_next_request (abandoned 65534) add_five) (0x32 ∷ []) ≡ Some TooManyAbandoned
submit_refusal-last = refl

-- Its reply is accepted, and the count of submitted requests starts again.
pub unaccepted-accepted : (after_item (with_next_request (abandoned 65534) add_five) (0 ∷ 0 ∷ 0xb2 ∷ 0 ∷ 0 ∷ 0 ∷ [])).unaccepted ≡ 0
unaccepted-accepted = refl

-- Count 0 follows count 65,535.
pub next-with_next_request : (with_next_request idle add_five).next ≡ 0
next-with_next_request = refl

-- The reply has the count, and the service with bit 7 set. Five bytes are not a reply.
pub is_reply-reply : is_reply 500 (Waiting 1 add_five) (1 ∷ 0 ∷ 0xb2 ∷ 0 ∷ 0 ∷ 0 ∷ []) ≡ true
is_reply-reply = refl

pub is_reply-short : is_reply 500 (Waiting 1 add_five) (1 ∷ 0 ∷ 0xb2 ∷ 0 ∷ 0 ∷ []) ≡ false
is_reply-short = refl
