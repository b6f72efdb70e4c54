-- The port of a device's owner: what a frame of a peer, a line of the owner and a round do to it.
use Rattle.std.specs.Prelude.{◌≡◌, ◌↔◌, ℕ, ◌-◌, Bool, true, false, IsTrue, if◌then◌else◌, nat_lt, is_some, map, option_map, List, [], ◌∷◌, Option, Some, None, Vec}
use Rattle.std.specs.declared.alloc.Global.{Global}
use Rattle.std.specs.declared.net.ip_addr.IpAddr.{IpAddr}
use Rattle.cip_ledger.specs.Device.{Device}
use Rattle.cip_objects.specs.Contents.{Contents}
use Rattle.cip_owner.specs.Queue.{QueueState}
use Rattle.enip_adapter.specs.Calls.{AdapterState}
use Rattle.enip_adapter.specs.Device.{resets_by, resets_of}
use Rattle.enip_adapter.specs.Endings.{updated}
use Rattle.enip_owner.specs.declared.hand_over.HandOver.{HandOver}
use Rattle.enip_owner.specs.declared.line_buffer.LineOutcome.{LineOutcome}
use Rattle.enip_owner.specs.declared.line_buffer.LineOutcome.TheVariants as outcomes
use Rattle.enip_owner.specs.HandOvers.{with_new_session}
use Rattle.enip_owner.specs.Streams.{no_line, IsFed}
use Rattle.enip_adapter.specs.OwnWrites.{Marks}
use Rattle.enip_server.specs.Rounds.{ServerState, written_by}
use Rattle.owner_port.specs.declared.attribute_table.TypedAttribute.{TypedAttribute}
use Rattle.owner_port.specs.declared.device_table.DeviceTable.{DeviceTable}
use Rattle.owner_port.specs.declared.execution.Answer.{Answer}
use Rattle.owner_port.specs.declared.execution.Answer.TheVariants as answers
use Rattle.owner_port.specs.declared.fault.SessionEnd.TheVariants as ends
use Rattle.owner_port.specs.declared.port.OwnerPort.{OwnerPort}
use Rattle.owner_port.specs.declared.senders.Sender.{Sender}
use Rattle.owner_port.specs.declared.session.Session.{Session}
use Rattle.owner_port.specs.declared.set_count.SetCount.{SetCount}
use Rattle.owner_port.specs.Execution.{IsAnswered}
use Rattle.owner_port.specs.Handing.{AreHanded, last_in}
use Rattle.owner_port.specs.Questions.{IsNoQuestions, with_list}
use Rattle.owner_port.specs.Senders.{next_in, without_sender, still_known, AreNoted, IsNobody}
use Rattle.owner_port.specs.Sessions.{no_session, begun, opened, is_open, awaits_token, can_feed, with_end, with_next_line, AreSent, IsSent, IsSetReported, IsResetSeen, AreEndsReported, IsHelloLine, IsErrorLine, IsLineAnswered}
use Rattle.owner_port.specs.Sets.{sets_since, with_reported, new_count, tallies_in, AreCounted}

abbrev pub contents_in : AdapterState → Contents
contents_in a = a.state.shared.objects.router.objects

abbrev pub queue_in : AdapterState → Option QueueState
queue_in a = a.state.shared.objects.router.queue

-- The greatest ticket that was handed over, or 0.
abbrev pub handed_of : Option QueueState → ℕ
handed_of None = 0
handed_of (Some queue) = queue.handed

-- The life of the command ledger, if there is one.
abbrev pub life_in : AdapterState → Option ℕ
life_in a = option_map (λ ledger. ledger.life) a.state.shared.objects.ledger

-- ---- frames of peers

-- Each set that was not reported is queued, with the address of the peer. Then it counts as reported.
abbrev pub AreReported : List TypedAttribute → AdapterState → IpAddr → List SetCount → Session → List SetCount → Session → Type 0
AreReported types a by [] old [] new = new ≡ old
AreReported types a by [] old (after ∷ afters) new = ⊥
AreReported types a by (count ∷ counts) old [] new = ⊥
AreReported types a by (count ∷ counts) old (after ∷ afters) new =
    (between : Session) × (after ≡ with_reported (tallies_in a) count)
    × AreSent (sets_since (tallies_in a) count) (IsSetReported types (contents_in a) by count.attribute) old between
    × AreReported types a by counts between afters new

-- The commands in the queue, if there is one.
abbrev pub IsQueueHanded : Option QueueState → List Sender → HandOver → Session → HandOver → Session → Type 0
IsQueueHanded None known h s last new = (last ≡ h) × (new ≡ s)
IsQueueHanded (Some queue) known h s last new = AreHanded queue known h s last new

-- A frame of the peer at this address was served: the sets are queued, then a Reset, then the commands, and the peer is the
-- sender of those that are new.
pub record IsFrameSeen (by : IpAddr) (a : AdapterState) (old new : OwnerPort) : Type 0 where
  pub between : Session
  pub reported : AreReported old.table.types.items a by old.counts.sets.items old.session new.counts.sets.items between
  pub after_reset : Session
  pub reset : IsResetSeen a by old.counts.resets between after_reset
  pub resets : new.counts.resets ≡ resets_of a
  pub next : new.senders.next ≡ next_in (queue_in a)
  pub noted : AreNoted (next_in (queue_in a) - old.senders.next) old.senders.next by
      (still_known old.senders.next (queue_in a) old.senders.known.items) new.senders.known.items
  pub handed : IsQueueHanded (queue_in a) new.senders.known.items old.hand_over after_reset new.hand_over new.session
  pub types : new.table.types ≡ old.table.types
  pub token : new.token ≡ old.token
  pub endings : new.endings ≡ old.endings
  pub lines : new.lines ≡ old.lines
  pub questions : new.questions ≡ old.questions

-- All that happened up to this device was seen: each set and each Reset was reported, or came while there was no session
-- that could report it, and the sender of each command was noted.
pub record HasSeen (port : OwnerPort) (device : Device) : Type 0 where
  pub counted : AreCounted device.router.objects.changes port.counts.sets.items
  pub resets : port.counts.resets ≡ resets_by device.router.reset
  pub next : port.senders.next ≡ next_in device.router.queue

-- ---- rounds

-- The connections that ended are queued, and then the commands.
pub record IsHandedOver (a : AdapterState) (old new : OwnerPort) : Type 0 where
  pub endings : new.endings ≡ updated old.endings a
  pub between : Session
  pub ended : AreEndsReported (updated old.endings a).ended old.session between
  pub handed : IsQueueHanded (queue_in a) old.senders.known.items old.hand_over between new.hand_over new.session
  pub counts : new.counts ≡ old.counts
  pub senders : new.senders ≡ old.senders
  pub types : new.table.types ≡ old.table.types
  pub token : new.token ≡ old.token
  pub lines : new.lines ≡ old.lines
  pub questions : new.questions ≡ old.questions

-- ---- sessions

abbrev pub with_session : Session → OwnerPort → OwnerPort
with_session session port = record port { session = session }

abbrev pub with_output : List ℕ → OwnerPort → OwnerPort
with_output output port = record port { session = record port.session { output = output } }

-- `hello` is queued, if the session is open.
pub record IsHelloSent (table : DeviceTable) (life : Option ℕ) (old new : Session) : Type 0 where
  pub while_open : is_open old.phase ≡ true → IsSent (IsHelloLine table life) old new
  pub while_closed : is_open old.phase ≡ false → new ≡ old

-- The ticket up to which commands are marked now: there is an owner, and it may have them in hand.
abbrev pub mark_of : OwnerPort → AdapterState → Option ℕ
mark_of port a = if is_open port.session.phase then last_in port.table.ahead (queue_in a) else None

-- The peers and their device after a mark.
abbrev pub after_mark : {W : Type 0} → Option ℕ → ServerState W → ServerState W
after_mark None before = before
after_mark (Some ticket) before = written_by (Marks ticket) before

abbrev pub is_above : ℕ → Option ℕ → Bool
is_above handed None = false
is_above handed (Some ticket) = nat_lt handed ticket

-- All sets up to now count as reported. Commands that are marked already were handed over before.
pub record IsNewPort (table : DeviceTable) (timeout : ℕ) (a : AdapterState) (new : OwnerPort) : Type 0 where
  pub table_is : new.table ≡ table
  pub counts : new.counts.sets.items ≡ map (new_count (tallies_in a)) table.settable.items
  pub resets : new.counts.resets ≡ resets_of a
  pub senders : IsNobody (queue_in a) new.senders
  pub hand_over : new.hand_over ≡ record { ahead = table.ahead; earlier = handed_of (queue_in a); handed = 0 }
  pub lines : new.lines ≡ no_line
  pub session : new.session ≡ no_session
  pub questions : IsNoQuestions timeout new.questions

-- A session begins, and commands are handed over from the first that waits.
pub record IsBegun (a : AdapterState) (old new : OwnerPort) : Type 0 where
  pub lines : new.lines ≡ no_line
  pub hand_over : new.hand_over ≡ with_new_session old.hand_over
  pub endings : new.endings ≡ updated old.endings a
  pub session : IsHelloSent old.table (life_in a) (begun (is_some old.token)) new.session
  pub counts : new.counts ≡ old.counts
  pub senders : new.senders ≡ old.senders
  pub types : new.table.types ≡ old.table.types
  pub token : new.token ≡ old.token
  pub questions : new.questions ≡ record old.questions { next = 1 }

-- ---- lines of the owner

-- Whether a line is the token.
abbrev pub IsRight : Option (Vec ℕ Global) → List ℕ → Bool → Type 0
IsRight None line right = right ≡ true
IsRight (Some token) line right = IsTrue right ↔ (line ≡ token.items)

-- The token did not come: the session is over.
abbrev pub IsTokenRefused : Session → Session → Type 0
IsTokenRefused old new =
    (between : Session) × IsSent (IsErrorLine old.line) (opened old) between × (new ≡ with_end ends.Token between)

abbrev pub IsTokenTaken : Bool → DeviceTable → Option ℕ → Session → Session → Type 0
IsTokenTaken true table life old new = IsHelloSent table life (opened old) new
IsTokenTaken false table life old new = IsTokenRefused old new

-- The first line is compared with the token.
abbrev pub IsFirstLineTaken : DeviceTable → Option ℕ → Option (Vec ℕ Global) → List ℕ → Session → Session → Type 0
IsFirstLineTaken table life token line old new =
    (right : Bool) × IsRight token line right × IsTokenTaken right table life old new

-- What a line of the owner leaves of the senders: that of a command that is done is not needed any more.
abbrev pub senders_after : Answer → List Sender → List Sender
senders_after answers.Done known = known
senders_after (answers.Finished ticket) known = without_sender ticket known
senders_after (answers.Value attribute) known = known
senders_after (answers.Refused fault) known = known

-- A line is executed, and answered with the next number.
abbrev pub IsRequestTaken : {W : Type 0} → OwnerPort → ServerState W → OwnerPort → ServerState W → Type 0
IsRequestTaken old before new after =
    (answer : Answer) × IsAnswered old.table.types.items old.lines.text old.questions.list.items before answer
    new.questions.list.items after
    × IsLineAnswered old.table.types.items (contents_in after.adapter) answer old.session new.session
    × (new.senders.known.items ≡ senders_after answer old.senders.known.items)

-- The first line of the owner is the token, if there is one.
abbrev pub IsLineTakenBy : {W : Type 0} → Bool → OwnerPort → ServerState W → OwnerPort → ServerState W → Type 0
IsLineTakenBy true old before new after =
    IsFirstLineTaken old.table (life_in before.adapter) old.token old.lines.text old.session new.session × (after ≡ before)
    × (new.questions ≡ old.questions)
IsLineTakenBy false old before new after = IsRequestTaken old before new after

abbrev pub IsLineTaken : {W : Type 0} → OwnerPort → ServerState W → OwnerPort → ServerState W → Type 0
IsLineTaken old before new after = IsLineTakenBy (awaits_token old.session.phase) old before new after

-- A line that is too long has a number, too. As a token it is not the right one.
abbrev pub IsLongRefusedBy : Bool → Session → Session → Type 0
IsLongRefusedBy true old new = IsTokenRefused old new
IsLongRefusedBy false old new = IsSent (IsErrorLine (with_next_line old).line) (with_next_line old) new

abbrev pub IsLongLineRefused : Session → Session → Type 0
IsLongLineRefused old new = IsLongRefusedBy (awaits_token old.phase) old new

-- The port is the same but for its session, the line that it takes, the senders of commands that are done, and the
-- questions that are answered.
pub record SameRest (old new : OwnerPort) : Type 0 where
  pub types : new.table.types ≡ old.table.types
  pub token : new.token ≡ old.token
  pub counts : new.counts ≡ old.counts
  pub next : new.senders.next ≡ old.senders.next
  pub hand_over : new.hand_over ≡ old.hand_over
  pub endings : new.endings ≡ old.endings
  pub questions : new.questions ≡ with_list new.questions.list old.questions

-- The end of a line, or no end, after its bytes were taken.
abbrev pub IsEndTaken : {W : Type 0} → LineOutcome → OwnerPort → ServerState W → OwnerPort → ServerState W → Type 0
IsEndTaken outcomes.Unfinished old before new after =
    (new.session ≡ old.session) × (new.senders ≡ old.senders) × (after ≡ before) × (new.questions ≡ old.questions)
IsEndTaken outcomes.Whole old before new after = IsLineTaken old before new after
IsEndTaken outcomes.TooLong old before new after =
    IsLongLineRefused old.session new.session × (new.senders ≡ old.senders) × (after ≡ before)
    × (new.questions ≡ old.questions)

-- Bytes of the owner are taken up to the end of one line, which is executed and answered.
pub record IsLineFed {W : Type 0} (old : OwnerPort) (bytes : List ℕ) (before : ServerState W) (rest : List ℕ) (new : OwnerPort) (after : ServerState W) : Type 0 where
  pub outcome : LineOutcome
  pub fed : IsFed old.lines bytes outcome rest new.lines
  pub taken : IsEndTaken outcome (record old { lines = new.lines }) before new after
  pub same : SameRest old new

-- No byte is taken if there is no session, if it is over, or if the answer may not fit.
abbrev pub IsPortFedBy : {W : Type 0} → Bool → OwnerPort → List ℕ → ServerState W → List ℕ → OwnerPort → ServerState W → Type 0
IsPortFedBy true old bytes before rest new after = IsLineFed old bytes before rest new after
IsPortFedBy false old bytes before rest new after = (rest ≡ bytes) × (new ≡ old) × (after ≡ before)

abbrev pub IsPortFed : {W : Type 0} → OwnerPort → List ℕ → ServerState W → List ℕ → OwnerPort → ServerState W → Type 0
IsPortFed old bytes before rest new after = IsPortFedBy (can_feed old.session) old bytes before rest new after
