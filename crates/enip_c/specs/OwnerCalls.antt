-- What the owner of the device is asked, as it is returned to C, and a feed with the owner's reply.
use Rattle.std.specs.Prelude.{ℕ, List, [], ◌∷◌, ◌≡◌, nat_le, nat_lt, if◌then◌else◌, Bool, ◌==◌, ◌||◌, length, Option, Some, None}
use Rattle.std.specs.Prelude.{is_some, unwrap_or}
use Rattle.cip_objects.specs.OwnRequests.{Asked}
use Rattle.cip_message.specs.Router.{REPLY_TOO_LARGE}
use Rattle.cip_owner.specs.declared.owner.TheConstants.{OWNER_REPLY_LIMIT}
use Rattle.cip_owner.specs.Replies.{Reply}
use Rattle.enip_adapter.specs.declared.reply.TheConstants.{LONGEST_ANSWER}
use Rattle.enip_adapter.specs.Asks.{asks_of_call, prepared_feed, with_reply}
use Rattle.enip_adapter.specs.Calls.{AdapterState, Call, call_answer}
use Rattle.enip_adapter.specs.Calls.Call.{Feeds}
use Rattle.enip_adapter.specs.Runs.{after_calls}
use Rattle.enip_c.specs.declared.adapter.Fed.{Fed}
use Rattle.enip_c.specs.declared.owner.CAsked.{CAsked}
use Rattle.enip_c.specs.declared.status.Status.{Status}
use Rattle.enip_c.specs.declared.status.Status.TheVariants as status
use Rattle.enip_c.specs.AdapterCalls.{answer_bytes, bool_number, returned_fed}
use Rattle.enip_c.specs.Buffer.{status_number, in_buffer}

-- What the owner is asked by a call.
abbrev pub asks_kept : Option AdapterState → Call → List Asked
asks_kept None call = []
asks_kept (Some a) call = asks_of_call a call

-- All of it but the data.
abbrev pub c_asked : Asked → CAsked
c_asked asked = record {
  length = length asked.content;
  instance = asked.instance;
  class = asked.class;
  attribute = unwrap_or asked.attribute 0;
  reply_limit = asked.reply_limit;
  service = asked.service;
  has_attribute = bool_number (is_some asked.attribute);
}

-- The status, what is asked, and the buffer after a call.
pub record ReturnedAsked : Type 0 where
  pub status : ℕ
  pub asked : CAsked
  pub buffer : List ℕ

abbrev pub asked_with : Status → CAsked → List ℕ → ReturnedAsked
asked_with s asked buffer = record { status = status_number s; asked = asked; buffer = buffer }

-- The data are copied if they fit. If nothing is asked, or they do not fit, nothing changes.
abbrev pub returned_asked : List Asked → CAsked → List ℕ → ReturnedAsked
returned_asked [] old buffer = asked_with status.Absent old buffer
returned_asked (asked ∷ more) old buffer =
    if nat_le (length asked.content) (length buffer)
    then asked_with status.Done (c_asked asked) (in_buffer asked.content buffer)
    else asked_with status.Room old buffer

-- A reply cannot be given if it says that it is too large, or is longer than the request allows.
abbrev pub is_unfit : ℕ → Reply → Bool
is_unfit limit reply =
    (reply.status == REPLY_TOO_LARGE) || (nat_lt limit (length reply.content)
    || nat_lt OWNER_REPLY_LIMIT (length reply.content))

-- The status of a feed with a reply, by the size of the buffer.
abbrev pub prepared_status : ℕ → ℕ → Reply → Status
prepared_status size limit reply =
    if nat_lt size LONGEST_ANSWER then status.Room else (if is_unfit limit reply then status.Misuse else status.Done)

-- A piece was fed with a reply of the owner, which is prepared for it alone: its answer is at the front of the buffer,
-- and `fed` is the result.
pub record IsFedPrepared (old new : AdapterState) (now peer : ℕ) (piece : List ℕ) (reply : Reply)
    (buffer_old buffer_new : List ℕ) (fed : Fed) : Type 0 where
  pub state : new ≡ after_calls old (prepared_feed now peer piece (Some reply))
  pub answer : buffer_new ≡ in_buffer
      (answer_bytes (call_answer (with_reply old (Some reply)) (Feeds now peer piece)).output) buffer_old
  pub returned : fed ≡ returned_fed (with_reply old (Some reply)) (Feeds now peer piece)

-- The same for what C keeps.
abbrev pub IsFedPreparedKept : Option AdapterState → Option AdapterState → ℕ → ℕ → List ℕ → Reply → List ℕ → List ℕ → Fed
    → Type 0
IsFedPreparedKept (Some old) (Some new) now peer piece reply buffer_old buffer_new fed =
    IsFedPrepared old new now peer piece reply buffer_old buffer_new fed
IsFedPreparedKept old new now peer piece reply buffer_old buffer_new fed = ⊥
