-- The requests that wait for the owner's answer, and the reply that the next round gives.
use Rattle.std.specs.Prelude.{◌≡◌, ℕ, zero, suc, ◌+◌, ◌-◌, ◌^◌, ◌==◌, ◌&&◌, min, nat_le, nat_lt, not, if◌then◌else◌, Bool, true, false, List, [], ◌∷◌, ◌++◌, length, map, filter, slice_index_or, remove}
use Rattle.std.specs.Prelude.{Option, Some, None, is_some, Vec}
use Rattle.std.specs.List.{position}
use Rattle.std.specs.Str.{bytes_eq}
use Rattle.std.specs.declared.alloc.Global.{Global}
use Rattle.cip_objects.specs.OwnRequests.{Asked}
use Rattle.cip_message.specs.Router.{REPLY_TOO_LARGE}
use Rattle.cip_owner.specs.Owned.{is_fit}
use Rattle.cip_owner.specs.Replies.{Reply}
use Rattle.owner_port.specs.declared.asked_request.AskedRequest.{AskedRequest}
use Rattle.owner_port.specs.declared.fault.LineFault.{LineFault}
use Rattle.owner_port.specs.declared.fault.LineFault.TheVariants as faults
use Rattle.owner_port.specs.declared.prepared_reply.PreparedReply.{PreparedReply}
use Rattle.owner_port.specs.declared.prepared_reply.ReplyTo.{ReplyTo}
use Rattle.owner_port.specs.declared.questions.Question.{Question}
use Rattle.owner_port.specs.declared.questions.Questions.{Questions}
use Rattle.owner_port.specs.declared.questions.QuestionState.{QuestionState}
use Rattle.owner_port.specs.declared.questions.QuestionState.TheVariants as states

-- ---- requests

-- A copy of what a request asks.
pub record IsCopied (asked : Asked) (request : AskedRequest) : Type 0 where
  pub class_is : request.class ≡ asked.class
  pub instance_is : request.instance ≡ asked.instance
  pub service_is : request.service ≡ asked.service
  pub attribute_is : request.attribute ≡ asked.attribute
  pub limit_is : request.reply_limit ≡ asked.reply_limit
  pub content_is : request.content.items ≡ asked.content

abbrev pub is_same_number : Option ℕ → Option ℕ → Bool
is_same_number None None = true
is_same_number None (Some other) = false
is_same_number (Some one) None = false
is_same_number (Some one) (Some other) = one == other

-- The request asks this.
abbrev pub is_same : AskedRequest → Asked → Bool
is_same request asked =
    (request.class == asked.class) && ((request.instance == asked.instance) && ((request.service == asked.service)
    && (is_same_number request.attribute asked.attribute && bytes_eq request.content.items asked.content)))

-- ---- the reply that a round gives

abbrev pub fits_reply : ReplyTo → Asked → Bool
fits_reply r asked = is_same r.request asked && is_fit asked r.reply

-- The reply is given to the request that the owner was asked, if it can be, and to no other.
abbrev pub reply_if : Option ReplyTo → Asked → Option Reply
reply_if None asked = None
reply_if (Some r) asked = if fits_reply r asked then Some r.reply else None

abbrev pub reply_given : PreparedReply → Asked → Option Reply
reply_given p asked = reply_if p.prepared asked

-- It is given once.
abbrev pub left_after : Option ReplyTo → Asked → Option ReplyTo
left_after None asked = None
left_after (Some r) asked = if fits_reply r asked then None else Some r

abbrev pub after_given : PreparedReply → Asked → PreparedReply
after_given p asked = record { prepared = left_after p.prepared asked }

-- ---- questions

abbrev pub is_open_state : QuestionState → Bool
is_open_state states.Open = true
is_open_state (states.Answered reply) = false
is_open_state states.Failed = false

-- It is settled what the request is answered.
abbrev pub is_settled : Question → Bool
is_settled q = not (is_open_state q.state)

-- The open question with this number.
abbrev pub is_question : ℕ → Question → Bool
is_question number q = is_open_state q.state && (q.number == number)

abbrev pub is_of : ℕ → Question → Bool
is_of peer q = q.peer == peer

abbrev pub limit_of : Option AskedRequest → ℕ
limit_of None = 0
limit_of (Some request) = request.reply_limit

-- Nobody answers what is open.
abbrev pub failed : Question → Question
failed q = if is_open_state q.state then record q { state = states.Failed } else q

-- Nobody answers it once its time is over.
abbrev pub expired : ℕ → Question → Question
expired now q = if nat_le q.deadline now then failed q else q

abbrev pub hidden : Question → Question
hidden q = record q { is_shown = false }

abbrev pub shown_by : ℕ → Question → Question
shown_by peer q = if q.peer == peer then record q { is_shown = true } else q

abbrev pub deadline_after : ℕ → ℕ → ℕ
deadline_after now timeout = min (now + timeout) (2 ^ 64 - 1)

-- Why a reply cannot be given to a request whose reply may have so many bytes of data.
abbrev pub unfit_fault : ℕ → Reply → Option LineFault
unfit_fault limit reply =
    if reply.status == REPLY_TOO_LARGE then Some faults.ReservedStatus
    else if nat_lt limit (length reply.content) then Some faults.LongReply
    else None

-- The owner answers a question. If the reply cannot be given, nothing changes.
abbrev pub settled_by : Reply → Question → Question
settled_by reply q =
    if is_some (unfit_fault (limit_of q.request) reply) then q else record q { state = states.Answered reply }

-- The question with this number is answered, if it is open. Otherwise nothing changes.
abbrev pub answered_in : ℕ → Reply → List Question → List Question
answered_in number reply [] = []
answered_in number reply (q ∷ qs) =
    if is_question number q then settled_by reply q ∷ qs else q ∷ answered_in number reply qs

-- Why the answer is refused, if it is.
abbrev pub fault_in : ℕ → Reply → List Question → Option LineFault
fault_in number reply [] = Some (faults.NoQuestion number)
fault_in number reply (q ∷ qs) =
    if is_question number q then unfit_fault (limit_of q.request) reply else fault_in number reply qs

-- When the first open question is over.
abbrev pub earlier_by : ℕ → Option ℕ → ℕ
earlier_by one None = one
earlier_by one (Some other) = min one other

abbrev pub earliest_in : List Question → Option ℕ
earliest_in [] = None
earliest_in (q ∷ qs) = if is_open_state q.state then Some (earlier_by q.deadline (earliest_in qs)) else earliest_in qs

-- ---- the table

pub record IsNoQuestions (timeout : ℕ) (questions : Questions) : Type 0 where
  pub timeout_is : questions.timeout ≡ timeout
  pub next_is : questions.next ≡ 1
  pub list_is : questions.list.items ≡ []
  pub prepared_is : questions.prepared ≡ None

abbrev pub with_list : Vec Question Global → Questions → Questions
with_list list questions = record questions { list = list }

-- A request is added, if there is memory for it.
abbrev pub IsAdded : Question → Bool → List Question → List Question → Type 0
IsAdded question true old new = new ≡ old ++ question ∷ []
IsAdded question false old new = new ≡ old

-- A pass over the frames that wait begins at a time: none was shown or admitted.
pub record IsPassBegun (now : ℕ) (old new : Questions) : Type 0 where
  pub list : new.list.items ≡ map hidden old.list.items
  pub same : new ≡ record old { time = now; is_taken = false; list = new.list }

-- It ends: a request that was not shown does not wait any longer.
pub record IsPassEnded (old new : Questions) : Type 0 where
  pub list : new.list.items ≡ filter (λ (q : Question). q.is_shown) old.list.items
  pub same : new ≡ record old { list = new.list }

-- The reply to a request, if the owner has answered.
abbrev pub reply_by : Option AskedRequest → QuestionState → Option ReplyTo
reply_by None state = None
reply_by (Some request) states.Open = None
reply_by (Some request) (states.Answered reply) = Some (record { request = request; reply = reply })
reply_by (Some request) states.Failed = None

abbrev pub reply_of_question : Question → Option ReplyTo
reply_of_question q = reply_by q.request q.state

-- The request of a peer is admitted: it is the first one that is settled, and none was admitted before in this pass. It
-- waits no longer, and its reply is prepared. Otherwise nothing changes.
pub record IsTaken (index : ℕ) (old new : Questions) : Type 0 where
  pub question : Question
  pub there : question ≡ slice_index_or old.list.items index question
  pub list : new.list.items ≡ remove old.list.items index
  pub same : new ≡ record old { list = new.list; is_taken = true; prepared = reply_of_question question }

abbrev pub IsAdmittedBy : Bool → ℕ → Questions → Bool → Questions → Type 0
IsAdmittedBy true index old admitted new = (admitted ≡ true) × IsTaken index old new
IsAdmittedBy false index old admitted new = (admitted ≡ false) × (new ≡ old)

-- Whether the request at this index is that of the peer.
abbrev pub is_at : ℕ → List Question → ℕ → Bool
is_at peer [] index = false
is_at peer (q ∷ qs) zero = q.peer == peer
is_at peer (q ∷ qs) (suc index) = is_at peer qs index

abbrev pub IsAdmittedAt : ℕ → Option ℕ → Questions → Bool → Questions → Type 0
IsAdmittedAt peer None old admitted new = (admitted ≡ false) × (new ≡ old)
IsAdmittedAt peer (Some index) old admitted new =
    IsAdmittedBy (not old.is_taken && is_at peer old.list.items index) index old admitted new

abbrev pub IsAdmitted : ℕ → Questions → Bool → Questions → Type 0
IsAdmitted peer old admitted new = IsAdmittedAt peer (position is_settled old.list.items) old admitted new

abbrev pub taken_reply : Questions → PreparedReply
taken_reply questions = record { prepared = questions.prepared }

-- ---- the laws

-- Once a prepared reply is given, none is.
abbrev pub given_once_law : Type 0
given_once_law = (p : PreparedReply) (asked other : Asked) (reply : Reply)
    → reply_given p asked ≡ Some reply → reply_given (after_given p asked) other ≡ None

-- It is given to the request that the owner was asked.
abbrev pub given_to_asked_law : Type 0
given_to_asked_law = (p : PreparedReply) (asked : Asked) (reply : Reply) → reply_given p asked ≡ Some reply
    → (r : ReplyTo) × (p.prepared ≡ Some r) × (is_same r.request asked ≡ true) × (is_fit asked reply ≡ true)
    × (r.reply ≡ reply)
