-- The objects, with a reply that the owner of the device prepared and the queue of commands: what becomes of a request.
use Rattle.std.specs.Prelude.{◌≡◌, ℕ, ◌+◌, ◌==◌, ◌&&◌, ◌||◌, Bool, true, false, not, nat_lt, nat_le, if◌then◌else◌}
use Rattle.std.specs.Prelude.{List, [], ◌∷◌, length, slice_index, Option, Some, None, is_some, Result, Ok, Err}
use Rattle.cip_application.specs.declared.config.ServiceKind.{ServiceKind}
use Rattle.cip_application.specs.declared.config.ServiceKind.TheVariants as kinds
use Rattle.cip_bytes.specs.Numbers.{le}
use Rattle.cip_bytes.specs.Protocol.{general_status_number}
use Rattle.cip_message.specs.Reply.{reply, reply_of_fields, reply_service}
use Rattle.cip_objects.specs.declared.status.Refusal.{Refusal}
use Rattle.cip_objects.specs.Contents.{Contents}
use Rattle.cip_objects.specs.Packets.{exec_routed}
use Rattle.cip_objects.specs.OwnRequests.{Asked, own_request, with_stored}
use Rattle.cip_message.specs.Router.{REPLY_TOO_LARGE}
use Rattle.cip_objects.specs.Status.{refusal_status}
use Rattle.cip_owner.specs.declared.owned.OwnedObjects.{OwnedObjects}
use Rattle.cip_owner.specs.Queue.{QueueState, QueueResult, QueueOutcome, Pending, Done, Unknown}
use Rattle.cip_owner.specs.Queue.{takes, next_ticket, pushed, result_of}
use Rattle.cip_owner.specs.Replies.{Reply}
use Rattle.cip_owner.specs.declared.reset.ResetType.{ResetType}
use Rattle.cip_owner.specs.Reset.{ResetState, reset_data, reset_type, after_one, objects_after_reset}

-- The objects, the reply that is prepared, the queue of commands, and what is needed to reset the device.
abbrev pub OwnedState : Type 0
OwnedState = OwnedObjects

-- No reply is prepared: device state conflict.
abbrev pub NOT_PREPARED : ℕ
NOT_PREPARED = 0x10

-- The queue does not take a command, or there is none: resource unavailable.
abbrev pub RESOURCE_UNAVAILABLE : ℕ
RESOURCE_UNAVAILABLE = 0x02

-- An object has no command with a ticket: object does not exist.
abbrev pub UNKNOWN_OBJECT : ℕ
UNKNOWN_OBJECT = 0x16

-- The data of a Reset say no type: invalid parameter.
abbrev pub INVALID_PARAMETER : ℕ
INVALID_PARAMETER = 0x20

-- The owner is asked for services of this kind while the peer waits.
abbrev pub is_asked : ServiceKind → Bool
is_asked kinds.Asked = true
is_asked kinds.Queued = false
is_asked kinds.Result = false

-- What the owner is asked by a request whose reply may have `max_size` bytes, if anything. There must be room for the
-- longest reply, as no reply of the owner may be too large. The owner is not asked for a service that is queued, nor
-- for a result.
abbrev pub asked_within : ℕ → Option (Result Asked Refusal) → Option Asked
asked_within max_size None = None
asked_within max_size (Some (Err refusal)) = None
asked_within max_size (Some (Ok asked)) =
    if not (is_asked asked.kind) || nat_lt max_size (4 + asked.reply_limit) then None else Some asked

unfoldable pub asks : Contents → ℕ → List ℕ → Option Asked
asks m max_size text = asked_within max_size (own_request m text)

-- A reply that can be given to a request: it is not longer than the service allows, and it does not say that it is too
-- large, as the owner has executed the request.
abbrev pub is_fit : Asked → Reply → Bool
is_fit asked reply = not (reply.status == REPLY_TOO_LARGE) && nat_le (length reply.content) asked.reply_limit

-- The objects after a set of a checked attribute, if the path names one.
abbrev pub stored_at : Contents → Asked → Option ℕ → Contents
stored_at m asked None = m
stored_at m asked (Some attribute) = with_stored m asked.class asked.instance attribute asked.content

-- The objects after a reply of the owner with this status. A set of a checked attribute is stored if the owner accepts
-- it.
abbrev pub after_reply : Contents → Asked → ℕ → Contents
after_reply m asked status =
    if (asked.service == 0x10) && (status == 0) then stored_at m asked asked.attribute else m

-- The reply to a request of this service with this status and these data, and no additional status words.
abbrev pub answer_with : ℕ → ℕ → List ℕ → List ℕ
answer_with service status content = reply (reply_of_fields (reply_service service) status [] content)

-- The objects after a request, and its reply.
pub record Executed : Type 0 where
  pub after : OwnedState
  pub answer : List ℕ

abbrev pub answered : OwnedState → List ℕ → Executed
answered after answer = record { after = after; answer = answer }

-- A refused request changes nothing, and its reply has no data.
abbrev pub refused_with : OwnedState → ℕ → ℕ → Executed
refused_with w service status = answered w (answer_with service status [])

-- A prepared reply is given once. One that cannot be given is dropped.
abbrev pub given : OwnedState → ℕ → Asked → Option Reply → Executed
given w service asked None = refused_with w service NOT_PREPARED
given w service asked (Some reply) =
    if is_fit asked reply then
    answered (record w { objects = after_reply w.objects asked reply.status; prepared = None })
    (answer_with service reply.status reply.content)
    else refused_with (record w { prepared = None }) service NOT_PREPARED

-- A request that the owner is asked about leaves no room for the longest reply, or gets the prepared reply.
abbrev pub asked_now : OwnedState → ℕ → ℕ → Asked → Executed
asked_now w max_size service asked =
    if nat_lt max_size (4 + asked.reply_limit) then refused_with w service REPLY_TOO_LARGE
    else given w service asked w.prepared

-- The ticket that a request would have in the queue. None if there is no queue, or if it does not take the request.
abbrev pub ticket_by : Option QueueState → Asked → Option ℕ
ticket_by None asked = None
ticket_by (Some q) asked = next_ticket q asked

-- A request that the queue takes is answered by its ticket. Any other is refused, and nothing changes.
abbrev pub queued : OwnedState → ℕ → Asked → Option QueueState → Executed
queued w service asked None = refused_with w service RESOURCE_UNAVAILABLE
queued w service asked (Some q) =
    if takes q asked then
    answered (record w { queue = Some (pushed q asked) }) (answer_with service 0 (le 4 q.next))
    else refused_with w service RESOURCE_UNAVAILABLE

-- A result is answered by its state, 0, and then the owner's general status and data.
abbrev pub done_answer : ℕ → ℕ → QueueResult → List ℕ
done_answer max_size service r =
    if nat_lt max_size (6 + length r.content) then answer_with service REPLY_TOO_LARGE []
    else answer_with service 0 (0 ∷ r.status ∷ r.content)

-- A command that waits is answered by its state, 1.
abbrev pub outcome_answer : ℕ → ℕ → QueueOutcome → List ℕ
outcome_answer max_size service Pending = answer_with service 0 (1 ∷ [])
outcome_answer max_size service (Done r) = done_answer max_size service r
outcome_answer max_size service Unknown = answer_with service UNKNOWN_OBJECT []

-- The reply to Get_Result. It changes nothing.
abbrev pub result_answer : ℕ → ℕ → Asked → Option QueueState → List ℕ
result_answer max_size service asked None = answer_with service UNKNOWN_OBJECT []
result_answer max_size service asked (Some q) = outcome_answer max_size service (result_of q asked)

-- What becomes of a request of a service of this kind.
abbrev pub of_kind : ServiceKind → OwnedState → ℕ → ℕ → Asked → Executed
of_kind kinds.Asked w max_size service asked = asked_now w max_size service asked
of_kind kinds.Queued w max_size service asked = queued w service asked w.queue
of_kind kinds.Result w max_size service asked = answered w (result_answer max_size service asked w.queue)

-- What becomes of a request to the owner: it is refused before the owner is asked, or executed by the kind of its
-- service.
abbrev pub own_executed : OwnedState → ℕ → ℕ → Result Asked Refusal → Executed
own_executed w max_size service (Err refusal) =
    refused_with w service (general_status_number (refusal_status refusal))
own_executed w max_size service (Ok asked) = of_kind asked.kind w max_size service asked

abbrev pub by_owner : OwnedState → ℕ → List ℕ → Option (Result Asked Refusal) → Executed
by_owner w max_size text None =
    answered (record w { objects = (exec_routed w.objects max_size text).after })
    (exec_routed w.objects max_size text).answer
by_owner w max_size text (Some own) = own_executed w max_size (slice_index text 0) own

-- What becomes of a Reset of this type. The reply that is prepared and the queue stay.
abbrev pub reset_by : OwnedState → ℕ → ResetState → Option ResetType → Executed
reset_by w service r None = refused_with w service INVALID_PARAMETER
reset_by w service r (Some type) =
    answered
    (record w { objects = objects_after_reset type r w.objects; reset = Some (after_one type r) })
    (answer_with service 0 [])

abbrev pub by_reset : OwnedState → ℕ → List ℕ → Option ResetState → Option (List ℕ) → Executed
by_reset w max_size text None content = by_owner w max_size text (own_request w.objects text)
by_reset w max_size text (Some r) None = by_owner w max_size text (own_request w.objects text)
by_reset w max_size text (Some r) (Some content) = reset_by w (slice_index text 0) r (reset_type content)

-- Executes a request whose reply may have `max_size` bytes. A device that can be reset executes a Reset of the Identity
-- object. A request to the owner gets the reply that is prepared, is put into the queue, or gets the result of one that
-- was; every other request is executed by the objects.
unfoldable pub exec_owned : OwnedState → ℕ → List ℕ → Executed
exec_owned w max_size text = by_reset w max_size text w.reset (reset_data text)

-- The request is a Reset, and the device can be reset.
abbrev pub is_reset : OwnedState → List ℕ → Bool
is_reset w text = is_some (reset_data text) && is_some w.reset

-- The general status of a request that the objects may leave to the owner.
abbrev pub is_left : ℕ → Bool
is_left status = (status == 0x08) || (status == 0x0e)

-- What a call leaves that executes a request if it is to the owner, and else leaves the state and the reply.
abbrev pub IsDone : OwnedState → ℕ → List ℕ → List ℕ → Option (Result Asked Refusal) → OwnedState → List ℕ → Type 0
IsDone w max_size text old None after new = (after ≡ w) × (new ≡ old)
IsDone w max_size text old (Some own) after new =
    (after ≡ (own_executed w max_size (slice_index text 0) own).after)
    × (new ≡ (own_executed w max_size (slice_index text 0) own).answer)

-- What a call leaves that executes a request to the owner and returns true, or returns false and leaves the state.
abbrev pub IsTaken : OwnedState → ℕ → List ℕ → Bool → OwnedState → List ℕ → Type 0
IsTaken w max_size text true after new =
    (after ≡ (exec_owned w max_size text).after) × (new ≡ (exec_owned w max_size text).answer)
IsTaken w max_size text false after new = after ≡ w

-- What a call leaves that executes a Reset and returns true, or returns false and leaves the state.
abbrev pub IsReset : OwnedState → List ℕ → Option ResetState → Option (List ℕ) → Bool → OwnedState → List ℕ → Type 0
IsReset w text None content did after new = (did ≡ false) × (after ≡ w)
IsReset w text (Some r) None did after new = (did ≡ false) × (after ≡ w)
IsReset w text (Some r) (Some content) did after new =
    (did ≡ true)
    × ((after ≡ (reset_by w (slice_index text 0) r (reset_type content)).after)
    × (new ≡ (reset_by w (slice_index text 0) r (reset_type content)).answer))
