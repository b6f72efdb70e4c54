-- What a function of an adapter returns to C.
use Rattle.std.specs.Prelude.{ℕ, ◌==◌, ◌+◌, ◌*◌, ◌^◌, if◌then◌else◌, List, [], ◌++◌, ◌≡◌, ◌⊎◌, ◌-◌, length, Bool, true, false, Option, Some, None, ⊤}
use Rattle.std.specs.Prelude.{is_some}
use Rattle.std.specs.Option.{IsSomeAnd}
use Rattle.cip_manager.specs.Connection.{earliest_deadline}
use Rattle.cip_objects.specs.Contents.{value_at}
use Rattle.enip_adapter.specs.declared.adapter.Full.{Full}
use Rattle.enip_adapter.specs.declared.adapter.Full.TheVariants.{Places, Handles, Share}
use Rattle.enip_adapter.specs.declared.peer.Rights.{Rights}
use Rattle.enip_adapter.specs.declared.peer.Rights.TheVariants.{Read, Write}
use Rattle.enip_adapter.specs.declared.no_reply_reason.NoReplyReason.{NoReplyReason}
use Rattle.enip_adapter.specs.declared.no_reply_reason.NoReplyReason.TheVariants as no_reply_reason
use Rattle.enip_adapter.specs.Calls.{AdapterState, Call, call_meaning, call_answer, after_call}
use Rattle.enip_adapter.specs.Calls.Call.{Begins_peer, Feeds}
use Rattle.enip_adapter.specs.Discovery.{discovered}
use Rattle.enip_adapter.specs.Turn.{Output, Answer}
use Rattle.enip_adapter.specs.Turn.Output.{NoReply, Sends, Begins, Refuses}
use Rattle.config_refusal.specs.declared.fault.ConfigurationRefusal.{ConfigurationRefusal}
use Rattle.config_refusal.specs.declared.fault.ConfigurationRefusal.TheVariants as refused
use Rattle.enip_config.specs.declared.configuration.Configuration.{Configuration}
use Rattle.config_refusal.specs.declared.fault.LoadFault.{LoadFault}
use Rattle.config_refusal.specs.declared.fault.LoadFault.TheVariants as load_fault
use Rattle.enip_config.specs.Commands.{queue_limit}
use Rattle.config_refusal.specs.Refusals.{refusal_number}
use Rattle.enip_config.specs.Documents.{IsDescribed, IsRefused}
use Rattle.enip_c.specs.declared.adapter.Fed.{Fed}
use Rattle.enip_c.specs.declared.make_fault.MakeFault.{MakeFault}
use Rattle.enip_c.specs.declared.make_fault.MakeFault.TheVariants as make
use Rattle.enip_c.specs.declared.status.Status.{Status}
use Rattle.enip_c.specs.declared.status.Status.TheVariants as status
use Rattle.enip_c.specs.Buffer.{status_number, in_buffer, IsMadeStatus}

-- The number of a reason in enip.h; 0 if there is an answer.
abbrev pub no_reply_reason_number : NoReplyReason → ℕ
no_reply_reason_number no_reply_reason.NoFrame = 1
no_reply_reason_number no_reply_reason.Options = 2
no_reply_reason_number no_reply_reason.Status = 3
no_reply_reason_number no_reply_reason.Nop = 4
no_reply_reason_number no_reply_reason.AnotherSession = 5
no_reply_reason_number (no_reply_reason.NotAPacket fault) = 6
no_reply_reason_number no_reply_reason.NotTaken = 7
no_reply_reason_number no_reply_reason.Unregistered = 8
no_reply_reason_number no_reply_reason.NotServed = 9

abbrev pub returned_no_reply_reason : Output → ℕ
returned_no_reply_reason (NoReply why) = no_reply_reason_number why
returned_no_reply_reason other = 0

-- The bytes of the answer; empty if there is no answer.
abbrev pub answer_bytes : Output → List ℕ
answer_bytes (Sends bytes) = bytes
answer_bytes other = []

abbrev pub bool_number : Bool → ℕ
bool_number true = 1
bool_number false = 0

-- The result of a feed: the number of bytes taken, the length of the answer, why there is none, and whether the peer is
-- closed.
abbrev pub fed_of : ℕ → Answer → Fed
fed_of taken answer = record {
  taken = taken;
  answer = length (answer_bytes answer.output);
  no_reply_reason = returned_no_reply_reason answer.output;
  close = bool_number answer.close;
}

abbrev pub returned_fed : AdapterState → Call → Fed
returned_fed a call = fed_of (call_meaning a call).taken (call_answer a call)

-- A piece was fed to an adapter: its answer is at the front of the buffer, and `fed` is the result.
pub record IsFed (old new : AdapterState) (call : Call) (buffer_old buffer_new : List ℕ) (fed : Fed) : Type 0 where
  pub state : new ≡ after_call old call
  pub answer : buffer_new ≡ in_buffer (answer_bytes (call_answer old call).output) buffer_old
  pub returned : fed ≡ returned_fed old call

-- The same for what C keeps.
abbrev pub IsFedKept : Option AdapterState → Option AdapterState → Call → List ℕ → List ℕ → Fed → Type 0
IsFedKept (Some old) (Some new) call buffer_old buffer_new fed = IsFed old new call buffer_old buffer_new fed
IsFedKept old new call buffer_old buffer_new fed = ⊥

-- The status of adding a peer, and the peer's number.
abbrev pub full_status : Full → Status
full_status Places = status.Places
full_status Handles = status.Handles
full_status Share = status.Share

abbrev pub IsBegun : Output → ℕ → ℕ → ℕ → Type 0
IsBegun (Begins handle) old new result = (result ≡ status_number status.Done) × (new ≡ handle)
IsBegun (Refuses full) old new result = (result ≡ status_number (full_status full)) × (new ≡ old)
IsBegun other old new result = ⊥

abbrev pub IsBegunKept : Rights → Option ℕ → Option AdapterState → ℕ → ℕ → ℕ → Type 0
IsBegunKept rights group None old new result = ⊥
IsBegunKept rights group (Some a) old new result =
    IsBegun (call_answer a (Begins_peer rights group)).output old new result

-- What a peer may do: ENIP_MAY_READ is 1, any other number stands for ENIP_MAY_WRITE.
abbrev pub rights_of : ℕ → Rights
rights_of rights = if rights == 1 then Read else Write

-- The group of 16 bytes, the most significant first: the first eight and the last eight, as numbers. Without bytes,
-- nobody's.
abbrev pub group_of : ℕ → ℕ → ℕ → Option ℕ
group_of has_group high low = if has_group == 0 then None else Some (high * 2 ^ 64 + low)

-- The number of a check in C. 13 is that of ENIP_CONFIG_ORDER.
abbrev pub check_number : ConfigurationRefusal → ℕ
check_number refused.Access = 14
check_number refused.Commands = 15
check_number refusal = refusal_number refusal

-- A service of the text is queued: the library has no queue of commands. Its number is 16.
abbrev pub IsQueuedText : List ℕ → Type 0
IsQueuedText text = (c : Configuration) × (IsDescribed text c × (is_some (queue_limit c) ≡ true))

abbrev pub has_no_queue : AdapterState → Type 0
has_no_queue a = a.state.shared.objects.router.queue ≡ None

-- Why there is no adapter of a text.
abbrev pub make_fault : LoadFault → MakeFault
make_fault load_fault.Memory = make.Memory
make_fault (load_fault.Refused refusal) = make.Refused refusal

abbrev pub IsMakeFault : List ℕ → MakeFault → Type 0
IsMakeFault text make.Memory = ⊤
IsMakeFault text (make.Refused refusal) = IsRefused text refusal
IsMakeFault text make.Queued = IsQueuedText text

-- The check with this number refuses the text, or a service is queued.
abbrev pub IsRefusedBy : List ℕ → ℕ → Type 0
IsRefusedBy text number =
    ((refusal : ConfigurationRefusal) × ((number ≡ check_number refusal) × IsRefused text refusal))
    ⊎ ((number ≡ 16) × IsQueuedText text)

-- The status of making an adapter: the configuration is refused, or as for any object.
abbrev pub IsAdapterStatus : ℕ → Type 0
IsAdapterStatus result = IsMadeStatus result ⊎ (result ≡ status_number status.Configuration)

-- The numbers of free slots for peers and for connections.
pub record AreFree (a : AdapterState) (peers connections : ℕ) : Type 0 where
  pub peers_free : peers ≡ a.state.places - length a.state.peers
  pub connections_free : connections ≡ a.state.shared.manager.places - length a.state.shared.manager.connections

abbrev pub AreFreeKept : Option AdapterState → ℕ → ℕ → Type 0
AreFreeKept None peers connections = ⊥
AreFreeKept (Some a) peers connections = AreFree a peers connections

-- The earliest deadline of the open connections, if one is open.
abbrev pub deadline_kept : Option AdapterState → Option ℕ
deadline_kept None = None
deadline_kept (Some a) = earliest_deadline a.state.shared.manager.connections

-- The bytes of an attribute, if it can be read.
abbrev pub attribute_kept : Option AdapterState → ℕ → ℕ → ℕ → Option (List ℕ)
attribute_kept None class instance attribute = None
attribute_kept (Some a) class instance attribute = value_at a.state.shared.objects.router.objects class instance attribute

-- The answer to a datagram, if it has one.
abbrev pub discovered_kept : Option AdapterState → List ℕ → Option (List ℕ)
discovered_kept None datagram = None
discovered_kept (Some a) datagram = discovered a.state.shared datagram
