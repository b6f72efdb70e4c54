-- Execution of router requests by the objects (Volume 1, Message Router): the object map after a request, and its
-- reply.
use Rattle.std.specs.Prelude.{ℕ, List, [], ◌∷◌, ◌++◌, length, slice_index, nat_lt, if◌then◌else◌, Result, Ok, Err}
use Rattle.cip_message.specs.declared.path.Path.{Path}
use Rattle.cip_message.specs.declared.path.PathFault.{PathFault}
use Rattle.cip_message.specs.declared.request.RequestFault.{RequestFault}
use Rattle.cip_message.specs.PathReading.{path_of}
use Rattle.cip_message.specs.Request.{Request, request_of}
use Rattle.cip_message.specs.Reply.{reply, reply_of_fields}
use Rattle.cip_objects.specs.declared.service.Service.{Service}
use Rattle.cip_objects.specs.declared.service.Service.TheVariants.{GetAttributesAll, GetAttributeList, SetAttributeList}
use Rattle.cip_objects.specs.declared.service.Service.TheVariants.{GetAttributeSingle, SetAttributeSingle, GetMember}
use Rattle.cip_objects.specs.declared.service.Service.TheVariants.{SetMember, Add, Clear}
use Rattle.cip_bytes.specs.declared.protocol.GeneralStatus.{GeneralStatus}
use Rattle.cip_objects.specs.declared.status.Completion.{Completion}
use Rattle.cip_objects.specs.declared.status.Completion.TheVariants.{Whole}
use Rattle.cip_objects.specs.declared.status.Refusal.{Refusal}
use Rattle.cip_objects.specs.declared.status.Refusal.TheVariants.{PathSizeInvalid, PathSegmentError, ReplyDataTooLarge}
use Rattle.cip_bytes.specs.Reading.{◌>>=◌}
use Rattle.cip_objects.specs.Contents.{Contents}
use Rattle.cip_objects.specs.ReadServices.{Answer, service_at, get_attribute_single, get_attributes_all}
use Rattle.cip_objects.specs.ReadServices.{get_attribute_list, get_member}
use Rattle.cip_objects.specs.ChangeServices.{Change, set_attribute_single, set_member, add, clear}
use Rattle.cip_objects.specs.SetLists.{ListOutcome, set_attribute_list}
use Rattle.cip_message.specs.Reply.{reply_service}
use Rattle.cip_bytes.specs.Protocol.{general_status_number}
use Rattle.cip_objects.specs.Status.{completion_status, refusal_status}

-- The contents after an execution, how completely the service was performed, and the data of the reply.
pub record Outcome : Type 0 where
  pub after : Contents
  pub status : Completion
  pub content : List ℕ

-- A service that reads changes nothing.
abbrev pub outcome_of_read : Contents → Result Answer Refusal → Result Outcome Refusal
outcome_of_read m (Ok a) = Ok (record { after = m; status = a.status; content = a.content })
outcome_of_read m (Err s) = Err s

abbrev pub outcome_of_change : Result Change Refusal → Result Outcome Refusal
outcome_of_change (Ok c) = Ok (record { after = c.after; status = Whole; content = c.content })
outcome_of_change (Err s) = Err s

abbrev pub outcome_of_list : Result ListOutcome Refusal → Result Outcome Refusal
outcome_of_list (Ok l) = Ok (record { after = l.after; status = l.status; content = l.content })
outcome_of_list (Err s) = Err s

abbrev pub perform : Contents → Service → Path → List ℕ → Result Outcome Refusal
perform m GetAttributesAll path content = outcome_of_read m (get_attributes_all m path content)
perform m GetAttributeList path content = outcome_of_read m (get_attribute_list m path content)
perform m SetAttributeList path content = outcome_of_list (set_attribute_list m path content)
perform m GetAttributeSingle path content = outcome_of_read m (get_attribute_single m path content)
perform m SetAttributeSingle path content = outcome_of_change (set_attribute_single m path content)
perform m GetMember path content = outcome_of_read m (get_member m path content)
perform m SetMember path content = outcome_of_change (set_member m path content)
perform m Add path content = outcome_of_change (add m content)
perform m Clear path content = outcome_of_change (clear m content)

-- The refusals of a request whose path goes past its end, and of a malformed path.
abbrev pub request_or_refusal : Result Request RequestFault → Result Request Refusal
request_or_refusal (Ok q) = Ok q
request_or_refusal (Err f) = Err PathSizeInvalid

abbrev pub path_or_refusal : Result Path PathFault → Result Path Refusal
path_or_refusal (Ok p) = Ok p
path_or_refusal (Err f) = Err PathSegmentError

-- The bytes, if there are at most `max_size` of them.
abbrev pub within_max_size : ℕ → List ℕ → Result (List ℕ) Refusal
within_max_size max_size text = if nat_lt max_size (length text) then Err ReplyDataTooLarge else Ok text

-- An outcome with its data appended to `front`, if that has at most `max_size` bytes.
abbrev pub outcome_within : ℕ → List ℕ → Result Outcome Refusal → Result Outcome Refusal
outcome_within max_size front r = do
  o ← r
  text ← within_max_size max_size (front ++ o.content)
  Ok (record { after = o.after; status = o.status; content = text })

-- The result of a call of the code: its return value, with the contents and the reply afterwards.
abbrev pub outcome_result : Contents → Result Completion Refusal → List ℕ → Result Outcome Refusal
outcome_result after (Ok completion) text = Ok (record { after = after; status = completion; content = text })
outcome_result after (Err s) text = Err s

-- The outcome of a request, before the size of its reply is checked. The first check that fails decides.
unfoldable pub outcome : Contents → List ℕ → Result Outcome Refusal
outcome m text = do
  request ← request_or_refusal (request_of text)
  path ← path_or_refusal (path_of request.path)
  service ← service_at m.shapes path.class path.instance request.service
  perform m service path request.data

-- A reply with this status: the service of the request with bit 7 set, and no additional status words.
abbrev pub reply_to : List ℕ → GeneralStatus → List ℕ → List ℕ
reply_to text status content =
    reply (reply_of_fields (reply_service (slice_index text 0)) (general_status_number status) [] content)

-- The contents after a request, and its reply.
pub record Executed : Type 0 where
  pub after : Contents
  pub answer : List ℕ

-- An outcome with its reply, if that has at most `max_size` bytes.
abbrev pub with_reply : ℕ → List ℕ → Outcome → Result Executed Refusal
with_reply max_size text o = do
  answer ← within_max_size max_size (reply_to text (completion_status o.status) o.content)
  Ok (record { after = o.after; answer = answer })

-- A refused request changes nothing, and its reply has no data.
abbrev pub or_refusal : Contents → List ℕ → Result Executed Refusal → Executed
or_refusal m text (Ok executed) = executed
or_refusal m text (Err s) = record { after = m; answer = reply_to text (refusal_status s) [] }

-- Executes a request whose reply may have `max_size` bytes. The size of the reply is checked last.
unfoldable pub exec : Contents → ℕ → List ℕ → Executed
exec m max_size text = or_refusal m text (outcome m text >>= with_reply max_size text)

-- The contents after these requests, from left to right, and their replies. Each request comes with the maximum
-- size of its reply.
pub record Ran : Type 0 where
  pub after : Contents
  pub answers : List (List ℕ)

abbrev pub run : Contents → List (ℕ × List ℕ) → Ran
run m [] = record { after = m; answers = [] }
run m (request ∷ requests) =
    let now = exec m request.0 request.1 in
    let later = run now.after requests in
    record { after = later.after; answers = now.answer ∷ later.answers }
