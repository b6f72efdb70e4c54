-- Every reply of a device is one that a client takes for the reply to its request.
use Rattle.std.proofs.Common.{◌≡◌, ℕ, ◌+◌, ◌-◌, ◌*◌, ◌≤◌, nat_lt, Bool, true, false, if◌then◌else◌, List, [], ◌∷◌, length}
use Rattle.std.proofs.Common.{slice_index, Option, Some, None, Result, Ok, Err, refl, sym, ap, subst, ◌∙◌, arith}
use Rattle.std.proofs.lemmas.Bool.{le-ltb, ltb-false}
use Rattle.cip_application.specs.declared.config.ServiceKind.{ServiceKind}
use Rattle.cip_application.specs.declared.config.ServiceKind.TheVariants as kinds
use Rattle.cip_bytes.specs.Numbers.{le}
use Rattle.cip_bytes.specs.Reading.{◌>>=◌}
use Rattle.cip_bytes.specs.Protocol.{general_status_number}
use Rattle.cip_message.specs.Reply.{Reply, reply_of, reply_of_fields, reply_service}
use Rattle.cip_objects.specs.Contents.{Contents}
use Rattle.cip_objects.specs.Execution.{Outcome, outcome, Executed, with_reply, or_refusal, exec}
use Rattle.cip_objects.specs.ExecutionLaws.{is_outcome}
use Rattle.cip_message.specs.Router.{REPLY_TOO_LARGE}
use Rattle.cip_objects.specs.Status.{completion_status, refusal_status}
use Rattle.cip_objects.specs.declared.status.Refusal.{Refusal}
use Rattle.cip_objects.specs.OwnRequests.{Asked, own_request}
use Rattle.cip_objects.specs.PacketLaws.{run_by}
use Rattle.cip_objects.specs.Packets.{LEAST_ROOM, front_size, run_packet, run_within, requests_of, packet_of, has_router, routed_by, exec_routed, any_refused, status_of, packet_content}
use Rattle.cip_owner.specs.Replies.{Reply as OwnReply}
use Rattle.cip_owner.specs.declared.reset.ResetType.{ResetType}
use Rattle.cip_owner.specs.Owned.{OwnedState, Executed as Done, exec_owned, by_owner, by_reset, reset_by, of_kind, given, is_fit, queued, result_answer, outcome_answer, answer_with, INVALID_PARAMETER}
use Rattle.cip_owner.specs.Reset.{ResetState, reset_data, reset_type}
use Rattle.cip_owner.specs.Owned.{NOT_PREPARED, RESOURCE_UNAVAILABLE, UNKNOWN_OBJECT}
use Rattle.cip_owner.specs.Queue.{QueueState, QueueOutcome, takes, result_of}
use Rattle.cip_owner.specs.Queue as queues
use Rattle.cip_ledger.specs.Device.{Device, owned_standing, exec_device}
use Rattle.cip_ledger.specs.Services.{Replies, Executes, Queues, Frees}
use Rattle.cip_ledger.specs.Status.{status_number}
use Rattle.cip_ledger.specs.Turn.{Fate, Passed, Served, fate, turn_by}
use Rattle.cip_ledger.proofs.Devices.{after, answer, exec_device-begins, exec_device-within}
use Rattle.enip_adapter.proofs.ListLemmas.{both}

-- a reply without additional status words
record IsPlain (text : List ℕ) : Type 0 where
  service : ℕ
  status : ℕ
  content : List ℕ
  spelled : text ≡ service ∷ 0 ∷ status ∷ 0 ∷ content

exec-plain : (objects : Contents) (max_size : ℕ) (request : List ℕ) → IsPlain (exec objects max_size request).answer
unfolding exec
exec-plain objects max_size request =
    go (outcome objects request) (outcome objects request >>= with_reply max_size request) refl
  where
    go : (r : Result Outcome _) (q : Result Executed _) → (r >>= with_reply max_size request) ≡ q →
        IsPlain (or_refusal objects request q).answer
    go r (Err why) e = record {
      service = reply_service (slice_index request 0);
      status = general_status_number (refusal_status why);
      content = [];
      spelled = refl;
    }
    go r (Ok executed) e =
        let done = is_outcome max_size request r executed e in
        record {
          service = reply_service (slice_index request 0);
          status = general_status_number (completion_status done.made.status);
          content = done.made.content;
          spelled = done.answer;
        }

-- and so is that to a packet
packet-plain : (objects : Contents) (max_size : ℕ) (request : List ℕ) (r : Result (List (List ℕ)) Refusal) →
    IsPlain (or_refusal objects request (r >>= run_within objects max_size request)).answer
packet-plain objects max_size request (Err why) = record {
  service = reply_service (slice_index request 0);
  status = general_status_number (refusal_status why);
  content = [];
  spelled = refl;
}
packet-plain objects max_size request (Ok requests) =
    by (nat_lt max_size (front_size (length requests) + LEAST_ROOM * length requests))
  where
    by : (short : Bool) → IsPlain (or_refusal objects request (run_by short objects max_size request requests)).answer
    by true = record { service = reply_service (slice_index request 0); status = _; content = []; spelled = refl }
    by false =
        let answers = (run_packet objects (max_size - front_size (length requests)) requests).answers in
        record {
          service = reply_service (slice_index request 0);
          status = status_of (any_refused answers);
          content = packet_content answers;
          spelled = refl;
        }

routed-plain : (objects : Contents) (max_size : ℕ) (request : List ℕ) →
    IsPlain (exec_routed objects max_size request).answer
unfolding exec_routed
routed-plain objects max_size request = by (packet_of request)
  where
    by : (packet : Option (List ℕ)) → IsPlain (routed_by objects max_size request packet).answer
    by None = exec-plain objects max_size request
    by (Some content) =
        both (λ (x : Executed). IsPlain x.answer) (has_router objects.shapes) _ _
        (packet-plain objects max_size request (requests_of content)) (exec-plain objects max_size request)

-- and so are those of the owner
given-plain : (w : OwnedState) (service : ℕ) (asked : Asked) (prepared : Option OwnReply) →
    IsPlain (given w service asked prepared).answer
given-plain w service asked None =
    record { service = reply_service service; status = NOT_PREPARED; content = []; spelled = refl }
given-plain w service asked (Some reply) =
    both (λ (done : Done). IsPlain done.answer) (is_fit asked reply) _ _
    (record { service = reply_service service; status = reply.status; content = reply.content; spelled = refl })
    (record { service = reply_service service; status = NOT_PREPARED; content = []; spelled = refl })

plain-with : (service status : ℕ) (content : List ℕ) → IsPlain (answer_with service status content)
plain-with service status content =
    record { service = reply_service service; status = status; content = content; spelled = refl }

queued-plain : (w : OwnedState) (service : ℕ) (asked : Asked) (queue : Option QueueState) →
    IsPlain (queued w service asked queue).answer
queued-plain w service asked None = plain-with service RESOURCE_UNAVAILABLE []
queued-plain w service asked (Some queue) =
    both (λ (done : Done). IsPlain done.answer) (takes queue asked) _ _ (plain-with service 0 (le 4 queue.next))
    (plain-with service RESOURCE_UNAVAILABLE [])

outcome-plain : (max_size service : ℕ) (outcome : QueueOutcome) → IsPlain (outcome_answer max_size service outcome)
outcome-plain max_size service queues.Pending = plain-with service 0 (1 ∷ [])
outcome-plain max_size service (queues.Done result) =
    both IsPlain (nat_lt max_size (6 + length result.content)) _ _ (plain-with service REPLY_TOO_LARGE [])
    (plain-with service 0 (0 ∷ result.status ∷ result.content))
outcome-plain max_size service queues.Unknown = plain-with service UNKNOWN_OBJECT []

result-plain : (max_size service : ℕ) (asked : Asked) (queue : Option QueueState) →
    IsPlain (result_answer max_size service asked queue)
result-plain max_size service asked None = plain-with service UNKNOWN_OBJECT []
result-plain max_size service asked (Some queue) = outcome-plain max_size service (result_of queue asked)

kind-plain : (kind : ServiceKind) (w : OwnedState) (max_size service : ℕ) (asked : Asked) →
    IsPlain (of_kind kind w max_size service asked).answer
kind-plain kinds.Asked w max_size service asked =
    both (λ (done : Done). IsPlain done.answer) (nat_lt max_size (4 + asked.reply_limit)) _ _
    (plain-with service REPLY_TOO_LARGE []) (given-plain w service asked w.prepared)
kind-plain kinds.Queued w max_size service asked = queued-plain w service asked w.queue
kind-plain kinds.Result w max_size service asked = result-plain max_size service asked w.queue

by-owner-plain : (w : OwnedState) (max_size : ℕ) (request : List ℕ) (own : Option (Result Asked Refusal)) →
    IsPlain (by_owner w max_size request own).answer
by-owner-plain w max_size request None = routed-plain w.objects max_size request
by-owner-plain w max_size request (Some (Err why)) =
    plain-with (slice_index request 0) (general_status_number (refusal_status why)) []
by-owner-plain w max_size request (Some (Ok asked)) =
    kind-plain asked.kind w max_size (slice_index request 0) asked

type-plain : (w : OwnedState) (service : ℕ) (r : ResetState) (type : Option ResetType) →
    IsPlain (reset_by w service r type).answer
type-plain w service r None = plain-with service INVALID_PARAMETER []
type-plain w service r (Some type) = plain-with service 0 []

reset-plain : (w : OwnedState) (max_size : ℕ) (request : List ℕ) (reset : Option ResetState)
    (content : Option (List ℕ)) → IsPlain (by_reset w max_size request reset content).answer
reset-plain w max_size request None content = by-owner-plain w max_size request (own_request w.objects request)
reset-plain w max_size request (Some r) None = by-owner-plain w max_size request (own_request w.objects request)
reset-plain w max_size request (Some r) (Some content) =
    type-plain w (slice_index request 0) r (reset_type content)

owned-plain : (w : OwnedState) (max_size : ℕ) (request : List ℕ) → IsPlain (answer w max_size request)
unfolding exec_owned
owned-plain w max_size request = reset-plain w max_size request w.reset (reset_data request)

turn-plain : (f : Fate) (device : Device) (max_size : ℕ) (request : List ℕ) →
    IsPlain (turn_by after answer f device.ledger device.router max_size request).answer
turn-plain Passed device max_size request = owned-plain device.router max_size request
turn-plain (Served service (Replies reply)) device max_size request =
    record {
      service = reply_service service;
      status = status_number reply.status;
      content = reply.content;
      spelled = refl;
    }
turn-plain (Served service (Executes command)) device max_size request =
    record { service = reply_service service; status = 0; content = _; spelled = refl }
turn-plain (Served service (Queues command ticket)) device max_size request =
    record { service = reply_service service; status = 0; content = _; spelled = refl }
turn-plain (Served service (Frees originator)) device max_size request =
    record { service = reply_service service; status = 0; content = []; spelled = refl }

-- bit 7 of a reply's service is set
bit7 : (service : ℕ) → 128 ≤ reply_service service
bit7 service = go (nat_lt service 128) refl
  where
    go : (small : Bool) → nat_lt service 128 ≡ small → 128 ≤ (if small then service + 128 else service)
    go true e = omega arith
    go false e = ltb-false service 128 e

plain-read : (service status : ℕ) (content : List ℕ) → 128 ≤ service →
    reply_of (service ∷ 0 ∷ status ∷ 0 ∷ content) ≡ Ok (reply_of_fields service status [] content)
unfolding reply_of
plain-read service status content high =
    let marked : nat_lt service 128 ≡ false = le-ltb _ _ high in
    let whole : nat_lt (length content) (2 * 0) ≡ false = le-ltb _ _ (omega arith) in
    rw (marked, whole) refl

-- a reply to a request of this service that fits an unconnected message
pub record IsTaken (service : ℕ) (text : List ℕ) : Type 0 where
  pub reply : Reply
  pub read : reply_of text ≡ Ok reply
  pub service_is : reply.service ≡ reply_service service
  pub within : length text ≤ 504

plain-taken : (service : ℕ) (text : List ℕ) → IsPlain text → slice_index text 0 ≡ reply_service service →
    length text ≤ 504 → IsTaken service text
plain-taken service text plain first within =
    let same : plain.service ≡ reply_service service = ap (λ t. slice_index t 0) (sym plain.spelled) ∙ first in
    record {
      reply = reply_of_fields plain.service plain.status [] plain.content;
      read = ap reply_of plain.spelled
          ∙ plain-read plain.service plain.status plain.content (subst (λ n. 128 ≤ n) (sym same) (bit7 service));
      service_is = same;
      within = within;
    }

pub exec_device-taken : (device : Device) (request : List ℕ) → 2 ≤ length request →
    IsTaken (slice_index request 0) (exec_device device 504 request).answer
exec_device-taken device request long =
    plain-taken (slice_index request 0) (exec_device device 504 request).answer
    (turn-plain (fate owned_standing device.ledger device.router 504 request) device 504 request)
    (exec_device-begins device 504 request (omega arith) long).service
    (exec_device-within device 504 request (omega arith))
