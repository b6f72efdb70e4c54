-- Calls of an originator in any order, and the events that can be observed.
use Rattle.std.specs.Prelude.{◌≡◌, ℕ, ◌+◌, if◌then◌else◌, Option, Some, None, List, [], ◌∷◌}
use Rattle.cip_class3.specs.Item.{sequence_count_of}
use Rattle.cip_class3.specs.OriginatorRule.{OriginatorState, submit_refusal, with_next_request, is_reply, after_item}
use Rattle.cip_class3.specs.OriginatorRule.{after_give_up}
use Rattle.cip_class3.specs.declared.originator.Refused.{Refused}

-- A call.
pub data OriginatorCall : Type 0 where
  Submit : (request : List ℕ) → OriginatorCall
  Resend : OriginatorCall
  Receive : (bytes : List ℕ) → OriginatorCall
  GiveUp : OriginatorCall

-- An observable event: a request is accepted with this count, or a reply with this count is accepted.
pub data Event : Type 0 where
  Submitted : (sequence_count : ℕ) → Event
  Accepted : (sequence_count : ℕ) → Event

abbrev pub after_submit : Option Refused → OriginatorState → List ℕ → OriginatorState
after_submit None originator request = with_next_request originator request
after_submit (Some why) originator request = originator

abbrev pub after_call : OriginatorState → OriginatorCall → OriginatorState
after_call originator (Submit request) = after_submit (submit_refusal originator request) originator request
after_call originator Resend = originator
after_call originator (Receive bytes) = after_item originator bytes
after_call originator GiveUp = after_give_up originator

-- The events of a submit, followed by later ones.
abbrev pub events_of_submit : Option Refused → ℕ → List Event → List Event
events_of_submit None sequence_count later = Submitted sequence_count ∷ later
events_of_submit (Some why) sequence_count later = later

-- The events of a call, followed by later ones.
abbrev pub events_of_call : OriginatorState → OriginatorCall → List Event → List Event
events_of_call originator (Submit request) later =
    events_of_submit (submit_refusal originator request) originator.next later
events_of_call originator Resend later = later
events_of_call originator (Receive bytes) later =
    if is_reply originator.t_to_o_size originator.phase bytes then Accepted (sequence_count_of bytes) ∷ later else later
events_of_call originator GiveUp later = later

-- The events of the calls, in order.
abbrev pub events_of : OriginatorState → List OriginatorCall → List Event
events_of originator [] = []
events_of originator (call ∷ calls) = events_of_call originator call (events_of (after_call originator call) calls)

-- The counts of the requests that were submitted.
abbrev pub counts_taken : List Event → List ℕ
counts_taken [] = []
counts_taken (Submitted sequence_count ∷ events) = sequence_count ∷ counts_taken events
counts_taken (Accepted sequence_count ∷ events) = counts_taken events

-- How many requests were submitted since the last accepted reply, after these events, if there were `before` of
-- them at the start.
abbrev pub taken_since_accepted : ℕ → List Event → ℕ
taken_since_accepted before [] = before
taken_since_accepted before (Submitted sequence_count ∷ events) = taken_since_accepted (before + 1) events
taken_since_accepted before (Accepted sequence_count ∷ events) = taken_since_accepted 0 events

-- Each accepted reply has the count of the last submitted request, and no other reply is accepted before the next
-- request is submitted.
abbrev pub AcceptedOnce : List Event → Type 0
AcceptedOnce [] = Unit {0}
AcceptedOnce (Accepted sequence_count ∷ events) = ⊥
AcceptedOnce (Submitted sequence_count ∷ []) = Unit {0}
AcceptedOnce (Submitted sequence_count ∷ Accepted same ∷ events) = (sequence_count ≡ same) × AcceptedOnce events
AcceptedOnce (Submitted sequence_count ∷ Submitted next ∷ events) = AcceptedOnce (Submitted next ∷ events)
