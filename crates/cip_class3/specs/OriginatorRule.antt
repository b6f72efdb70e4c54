-- The originator's end of a class 3 connection (Volume 1, transport class 3, sequence counts).
use Rattle.std.specs.Prelude.{ℕ, ◌+◌, ◌%◌, ◌==◌, nat_lt, nat_le, Bool, true, false, ◌&&◌, if◌then◌else◌, Option, Some}
use Rattle.std.specs.Prelude.{None, List, length, slice_index}
use Rattle.cip_message.specs.Reply.{reply_service}
use Rattle.cip_class3.specs.Item.{item, sequence_count_of, message_of}
use Rattle.cip_class3.specs.declared.originator.Stage.{Stage}
use Rattle.cip_class3.specs.declared.originator.Stage.TheVariants as stages
use Rattle.cip_class3.specs.declared.originator.Refused.{Refused}
use Rattle.cip_class3.specs.declared.originator.Refused.TheVariants as refusals

-- No request is waiting, this request is waiting with this count, or the last one was given up.
pub data Phase : Type 0 where
  Idle : Phase
  Waiting : (sequence_count : ℕ) (request : List ℕ) → Phase
  GivenUp : Phase

-- The originator's end: both sizes (including the sequence count), the count of the next request, the phase, and
-- how many requests were submitted since the last accepted reply.
pub record OriginatorState : Type 0 where
  pub o_to_t_size : ℕ
  pub t_to_o_size : ℕ
  pub next : ℕ
  pub phase : Phase
  pub unaccepted : ℕ

-- The originator of a connection that was just opened.
abbrev pub originator_at_opening : ℕ → ℕ → ℕ → OriginatorState
originator_at_opening first o_to_t_size t_to_o_size =
    record { o_to_t_size = o_to_t_size; t_to_o_size = t_to_o_size; next = first; phase = Idle; unaccepted = 0 }

-- The number of a refusal, as printed.
abbrev pub refused_number : Refused → ℕ
refused_number refusals.Busy = 1
refused_number refusals.TooLong = 2
refused_number refusals.NoRequest = 3
refused_number refusals.GivenUp = 4
refused_number refusals.TooManyAbandoned = 5

-- The most requests that may be submitted since the last accepted reply: one less than there are sequence counts.
-- One more would have the count of that reply's request, which a target may still hold.
abbrev pub MOST_UNACCEPTED : ℕ
MOST_UNACCEPTED = 65535

-- A request has two bytes at least, and a service without bit 7.
abbrev pub is_request : List ℕ → Bool
is_request request = nat_le 2 (length request) && nat_lt (slice_index request 0) 128

-- Why a request is refused for its form or length, at this O->T size.
abbrev pub form_refusal : ℕ → List ℕ → Option Refused
form_refusal o_to_t_size request =
    if is_request request then (if nat_le (length request + 2) o_to_t_size then None else Some refusals.TooLong)
    else Some refusals.NoRequest

abbrev pub is_waiting : Phase → Bool
is_waiting Idle = false
is_waiting (Waiting sequence_count request) = true
is_waiting GivenUp = false

-- The first reason to refuse a request, if there is one: too many were submitted since the last accepted reply, one
-- is waiting, or its form is wrong. A request that was given up is not a reason.
abbrev pub first_refusal : ℕ → Bool → Option Refused → Option Refused
first_refusal since_accepted waits form =
    if nat_lt since_accepted MOST_UNACCEPTED then (if waits then Some refusals.Busy else form)
    else Some refusals.TooManyAbandoned

-- Why a request is refused now, if it is.
abbrev pub submit_refusal : OriginatorState → List ℕ → Option Refused
submit_refusal originator request =
    first_refusal originator.unaccepted (is_waiting originator.phase) (form_refusal originator.o_to_t_size request)

-- The request waits with the next count, and the next count rises by one, modulo 65,536.
abbrev pub with_next_request : OriginatorState → List ℕ → OriginatorState
with_next_request originator request =
    record originator {
      phase = Waiting originator.next request;
      next = (originator.next + 1) % 65536;
      unaccepted = originator.unaccepted + 1;
    }

-- The item of the waiting request.
abbrev pub waiting_item : Phase → Option (List ℕ)
waiting_item Idle = None
waiting_item (Waiting sequence_count request) = Some (item sequence_count request)
waiting_item GivenUp = None

-- An item of 6 to `t_to_o_size` bytes, with this count and this service with bit 7 set.
abbrev pub answers : ℕ → ℕ → ℕ → List ℕ → Bool
answers t_to_o_size sequence_count service bytes =
    nat_le 6 (length bytes) && nat_le (length bytes) t_to_o_size && (sequence_count_of bytes == sequence_count)
    && (slice_index bytes 2 == reply_service service)

-- The item is the reply to the waiting request.
abbrev pub is_reply : ℕ → Phase → List ℕ → Bool
is_reply t_to_o_size Idle bytes = false
is_reply t_to_o_size (Waiting sequence_count request) bytes =
    answers t_to_o_size sequence_count (slice_index request 0) bytes
is_reply t_to_o_size GivenUp bytes = false

-- No request is waiting any more, and the count of submitted requests starts again.
abbrev pub idle_again : OriginatorState → OriginatorState
idle_again originator = record originator { phase = Idle; unaccepted = 0 }

-- The originator after it received an item.
abbrev pub after_item : OriginatorState → List ℕ → OriginatorState
after_item originator bytes =
    if is_reply originator.t_to_o_size originator.phase bytes then idle_again originator else originator

-- The reply that is accepted from an item, if one is.
abbrev pub accepted_reply : OriginatorState → List ℕ → Option (List ℕ)
accepted_reply originator bytes =
    if is_reply originator.t_to_o_size originator.phase bytes then Some (message_of bytes) else None

-- The waiting request is given up.
abbrev pub after_give_up : OriginatorState → OriginatorState
after_give_up originator = if is_waiting originator.phase then record originator { phase = GivenUp } else originator

abbrev pub stage_of : Phase → Stage
stage_of Idle = stages.Idle
stage_of (Waiting sequence_count request) = stages.Waiting
stage_of GivenUp = stages.GivenUp
