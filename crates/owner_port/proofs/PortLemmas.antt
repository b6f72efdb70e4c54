-- What a line of the owner does is not a set, and gives no ticket.
use Rattle.std.proofs.Common.{◌≡◌, ℕ, Bool, true, false, List, [], ◌∷◌, Option, Some, None, unwrap_or, Result, Ok, Err, refl, sym, ap, subst, ◌∙◌, ◌⊎◌, inl, inr}
use Rattle.std.specs.Prelude.{option_map}
use Rattle.cip_ledger.specs.Withdrawing.{withdrawal_result}
use Rattle.cip_owner.specs.Owned.{OwnedState}
use Rattle.cip_owner.specs.Queue.{QueueState, QueuedCommand, command_of, can_be_reply, with_finished, finished_by}
use Rattle.cip_owner.specs.QueueRuns.{after_step, Marks as Marked}
use Rattle.cip_owner.proofs.QueueLemmas.{by_mark}
use Rattle.cip_owner.specs.Replies.{Reply}
use Rattle.cip_values.specs.declared.element.ValueType.{ValueType}
use Rattle.enip_adapter.specs.OwnWrites.{OwnWrite, WritesData, WritesAttribute, SetsStatus, SetsState, Prepares, Settles, Finishes, Marks, Withdraws}
use Rattle.enip_owner.specs.declared.attribute_ref.AttributeRef.{AttributeRef}
use Rattle.enip_owner.specs.declared.line_buffer.LineOutcome.{LineOutcome}
use Rattle.enip_owner.specs.declared.line_buffer.LineOutcome.TheVariants as outcomes
use Rattle.enip_adapter.specs.Calls.{AdapterState}
use Rattle.enip_adapter.specs.Device.{resets_by, resets_of}
use Rattle.enip_owner.specs.Streams.{BufferedLine, IsFed}
use Rattle.enip_owner.specs.Requests as requests
use Rattle.enip_owner.specs.Requests.{Request, Given}
use Rattle.enip_adapter.proofs.SettleLemmas.{finished-router}
use Rattle.enip_adapter.proofs.WithdrawalLemmas.{by-ticket}
use Rattle.enip_server.specs.Rounds.{ServerState, written_by, written_all}
use Rattle.owner_port.specs.declared.attribute_table.TypedAttribute.{TypedAttribute}
use Rattle.owner_port.specs.declared.execution.Answer.{Answer}
use Rattle.owner_port.specs.declared.execution.Answer.TheVariants as answers
use Rattle.owner_port.specs.declared.fault.LineFault.{LineFault}
use Rattle.owner_port.specs.declared.fault.LineFault.TheVariants as faults
use Rattle.owner_port.specs.declared.port.OwnerPort.{OwnerPort}
use Rattle.owner_port.specs.declared.questions.Question.{Question}
use Rattle.owner_port.specs.Execution.{IsFinishDone, IsWriteDone, AreValuesOfTypeWritten, IsExecuted, IsAnswered, settled_answer}
use Rattle.owner_port.specs.Questions.{answered_in, fault_in}
use Rattle.owner_port.proofs.QuestionLemmas.{refused_still}
use Rattle.owner_port.specs.declared.senders.Sender.{Sender}
use Rattle.owner_port.specs.declared.session.Session.{Session}
use Rattle.owner_port.specs.Ports.{contents_in, queue_in, HasSeen, SameRest, senders_after, IsRequestTaken, IsLineTaken, IsLineTakenBy, IsEndTaken, IsLineFed, IsPortFed, IsPortFedBy}
use Rattle.owner_port.specs.Senders.{next_in}
use Rattle.owner_port.specs.Sessions.{awaits_token, can_feed, with_next_line, IsAnswerSent, IsLineAnswered}
use Rattle.owner_port.specs.Sets.{tallies_in, AreCounted}
use Rattle.owner_port.specs.Tables.{type_at}
use Rattle.owner_port.proofs.SetLemmas.{own_write}

-- The same sets, the same resets and the same tickets.
pub record IsUnseen {W : Type 0} (before after : ServerState W) : Type 0 where
  pub tallies : tallies_in after.adapter ≡ tallies_in before.adapter
  pub resets : resets_of after.adapter ≡ resets_of before.adapter
  pub next : next_in (queue_in after.adapter) ≡ next_in (queue_in before.adapter)

pub nothing_new : {W : Type 0} (before : ServerState W) → IsUnseen before before
nothing_new before = record { tallies = refl; resets = refl; next = refl }

same_device : {W : Type 0} (before after : ServerState W) → after ≡ before → IsUnseen before after
same_device before after is = subst (λ s. IsUnseen before s) (sym is) (nothing_new before)

-- ---- the device's own writes

next-finished : (queue : QueueState) (ticket : ℕ) (reply : Reply) (found : Option QueuedCommand)
    → (unwrap_or (finished_by queue ticket reply found) queue).next ≡ queue.next
next-finished queue ticket reply None = refl
next-finished queue ticket reply (Some command) = go (can_be_reply command reply) refl
  where
    go : (can : Bool) → can_be_reply command reply ≡ can
        → (unwrap_or (finished_by queue ticket reply (Some command)) queue).next ≡ queue.next
    go true is = rw is refl
    go false is = rw is refl

next-of : (queue : Option QueueState) (ticket : ℕ) (reply : Reply)
    → next_in (option_map (λ q. unwrap_or (finished_by q ticket reply (command_of ticket q.waiting)) q) queue) ≡ next_in queue
next-of None ticket reply = refl
next-of (Some queue) ticket reply = next-finished queue ticket reply (command_of ticket queue.waiting)

next-marked : (queue : Option QueueState) (ticket : ℕ)
    → next_in (option_map (λ q. after_step q (Marked ticket)) queue) ≡ next_in queue
next-marked None ticket = refl
next-marked (Some queue) ticket = by_mark (λ q. q.next ≡ queue.next) queue ticket refl (λ c e. refl)

own_next : {W : Type 0} (write : OwnWrite) (before : ServerState W)
    → next_in (queue_in (written_by write before).adapter) ≡ next_in (queue_in before.adapter)
own_next (WritesData instance offset bytes) before = refl
own_next (WritesAttribute class instance attribute offset bytes) before = refl
own_next (SetsStatus status) before = refl
own_next (SetsState state) before = refl
own_next (Prepares reply) before = refl
own_next (Settles originator number reply) before = refl
own_next (Finishes ticket reply) before = next-of before.adapter.state.shared.objects.router.queue ticket reply
own_next (Marks ticket) before = next-marked before.adapter.state.shared.objects.router.queue ticket
own_next (Withdraws request) before =
    let device = before.adapter.state.shared.objects in
    by-ticket (λ d ticket. next_in d.router.queue ≡ next_in device.router.queue) device request refl
    (λ ledger w is facts. refl)
    (λ ledger w ticket is facts of not_handed some.
    ap (λ (o : OwnedState). next_in o.queue) (finished-router ticket withdrawal_result device)
    ∙ next-of device.router.queue ticket withdrawal_result)

own_resets : {W : Type 0} (write : OwnWrite) (before : ServerState W)
    → resets_of (written_by write before).adapter ≡ resets_of before.adapter
own_resets (WritesData instance offset bytes) before = refl
own_resets (WritesAttribute class instance attribute offset bytes) before = refl
own_resets (SetsStatus status) before = refl
own_resets (SetsState state) before = refl
own_resets (Prepares reply) before = refl
own_resets (Settles originator number reply) before = refl
own_resets (Finishes ticket reply) before = refl
own_resets (Marks ticket) before = refl
own_resets (Withdraws request) before =
    let device = before.adapter.state.shared.objects in
    by-ticket (λ d ticket. resets_by d.router.reset ≡ resets_by device.router.reset) device request refl
    (λ ledger w is facts. refl)
    (λ ledger w ticket is facts of not_handed some.
    ap (λ (o : OwnedState). resets_by o.reset) (finished-router ticket withdrawal_result device))

written-unseen : {W : Type 0} (write : OwnWrite) (before after : ServerState W) → after ≡ written_by write before
    → IsUnseen before after
written-unseen write before after is =
    subst (λ s. IsUnseen before s) (sym is) (record {
      tallies = own_write before.adapter write;
      resets = own_resets write before;
      next = own_next write before;
    })

all-unseen : {W : Type 0} (writes : List OwnWrite) (before : ServerState W) → IsUnseen before (written_all writes before)
all-unseen [] before = nothing_new before
all-unseen (write ∷ writes) before =
    let first = written-unseen write before (written_by write before) refl in
    let rest = all-unseen writes (written_by write before) in
    record { tallies = rest.tallies ∙ first.tallies; resets = rest.resets ∙ first.resets; next = rest.next ∙ first.next }

-- What was seen stays seen after own writes that the port has no part in.
pub still_seen_after : {W : Type 0} (port : OwnerPort) (writes : List OwnWrite) (before after : ServerState W)
    → after ≡ written_all writes before
    → HasSeen port before.adapter.state.shared.objects → HasSeen port after.adapter.state.shared.objects
still_seen_after port writes before after is seen =
    let unseen = subst (λ s. IsUnseen before s) (sym is) (all-unseen writes before) in
    record {
      counted = subst (λ tallies. AreCounted tallies port.counts.sets.items) (sym unseen.tallies) seen.counted;
      resets = seen.resets ∙ sym unseen.resets;
      next = seen.next ∙ sym unseen.next;
    }

-- ---- lines

finish-unseen : {W : Type 0} (ticket : ℕ) (reply : Reply) (before : ServerState W) (answer : Answer) (after : ServerState W)
    → IsFinishDone ticket reply before answer after → IsUnseen before after
finish-unseen ticket reply before answer after (inl (can, is, done)) = written-unseen (Finishes ticket reply) before after done
finish-unseen ticket reply before answer after (inr (cannot, is, same)) = same_device before after same

write-unseen : {W : Type 0} (types : List TypedAttribute) (a : AttributeRef) (bytes : List ℕ) (before : ServerState W)
    (answer : Answer) (after : ServerState W) → IsWriteDone types a bytes before answer after → IsUnseen before after
write-unseen types a bytes before answer after (inl (can, is, done)) =
    written-unseen (WritesAttribute a.class a.instance a.attribute 0 bytes) before after done
write-unseen types a bytes before answer after (inr (cannot, is, same)) = same_device before after same

values-unseen : {W : Type 0} (types : List TypedAttribute) (a : AttributeRef) (values : List Given) (found : Option ValueType)
    (before : ServerState W) (answer : Answer) (after : ServerState W)
    → AreValuesOfTypeWritten types a values found before answer after → IsUnseen before after
values-unseen types a values None before answer after (is, same) = same_device before after same
values-unseen types a values (Some value_type) before answer after (inl (bytes, are, done)) =
    write-unseen types a bytes before answer after done
values-unseen types a values (Some value_type) before answer after (inr (fault, why, is, same)) =
    same_device before after same

executed-unseen : {W : Type 0} (types : List TypedAttribute) (request : Request) (waiting left : List Question)
    (before : ServerState W) (answer : Answer) (after : ServerState W)
    → IsExecuted types request waiting before answer left after → IsUnseen before after
executed-unseen types (requests.Done ticket reply) waiting left before answer after (still, done) =
    finish-unseen ticket reply before answer after done
executed-unseen types (requests.Answer question reply) waiting left before answer after (settled, is, same) =
    same_device before after same
executed-unseen types (requests.WriteData a bytes) waiting left before answer after (still, done) =
    write-unseen types a bytes before answer after done
executed-unseen types (requests.WriteValues a values) waiting left before answer after (still, done) =
    values-unseen types a values (type_at a types) before answer after done
executed-unseen types (requests.Read a) waiting left before answer after (still, is, same) = same_device before after same
executed-unseen types (requests.Status status) waiting left before answer after (still, is, done) =
    written-unseen (SetsStatus status) before after done
executed-unseen types (requests.State state) waiting left before answer after (still, is, done) =
    written-unseen (SetsState state) before after done

answered-unseen : {W : Type 0} (types : List TypedAttribute) (line : List ℕ) (waiting left : List Question)
    (before : ServerState W) (answer : Answer) (after : ServerState W)
    → IsAnswered types line waiting before answer left after → IsUnseen before after
answered-unseen types line waiting left before answer after (inl (request, says, done)) =
    executed-unseen types request waiting left before answer after done
answered-unseen types line waiting left before answer after (inr (fault, refused, is, still, same)) =
    same_device before after same

taken-unseen : {W : Type 0} (token : Bool) (old : OwnerPort) (before : ServerState W) (new : OwnerPort) (after : ServerState W)
    → IsLineTakenBy token old before new after → IsUnseen before after
taken-unseen true old before new after (taken, same, still) = same_device before after same
taken-unseen false old before new after (answer, is, sent, known) =
    answered-unseen old.table.types.items old.lines.text old.questions.list.items new.questions.list.items before answer after is

end-unseen : {W : Type 0} (outcome : LineOutcome) (old : OwnerPort) (before : ServerState W) (new : OwnerPort) (after : ServerState W)
    → IsEndTaken outcome old before new after → IsUnseen before after
end-unseen outcomes.Unfinished old before new after (session, senders, same, still) = same_device before after same
end-unseen outcomes.Whole old before new after taken = taken-unseen (awaits_token old.session.phase) old before new after taken
end-unseen outcomes.TooLong old before new after (session, senders, same, still) = same_device before after same

-- What was seen stays seen.
still_seen : {W : Type 0} (old new : OwnerPort) (before after : ServerState W) → SameRest old new → IsUnseen before after
    → HasSeen old before.adapter.state.shared.objects → HasSeen new after.adapter.state.shared.objects
still_seen old new before after same unseen seen = record {
  counted = subst (λ counts. AreCounted (tallies_in after.adapter) counts.sets.items) (sym same.counts)
      (subst (λ tallies. AreCounted tallies old.counts.sets.items) (sym unseen.tallies) seen.counted);
  resets = ap (λ counts. counts.resets) same.counts ∙ seen.resets ∙ sym unseen.resets;
  next = same.next ∙ seen.next ∙ sym unseen.next;
}

pub fed-seen : {W : Type 0} (can : Bool) (old : OwnerPort) (bytes : List ℕ) (before : ServerState W) (rest : List ℕ)
    (new : OwnerPort) (after : ServerState W) → IsPortFedBy can old bytes before rest new after
    → HasSeen old before.adapter.state.shared.objects → HasSeen new after.adapter.state.shared.objects
fed-seen true old bytes before rest new after fed seen =
    still_seen old new before after fed.same (end-unseen fed.outcome (record old { lines = new.lines }) before new after fed.taken) seen
fed-seen false old bytes before rest new after (left, same, still) seen =
    subst (λ (p : OwnerPort). HasSeen p after.adapter.state.shared.objects) (sym same)
    (subst (λ s. HasSeen old s.adapter.state.shared.objects) (sym still) seen)

-- ---- a line, by the parts of the port

abbrev pub IsTakenBy : {W : Type 0} → OwnerPort → ServerState W → Session → List Sender → List Question → ServerState W
    → Type 0
IsTakenBy old before session known left after =
    (answer : Answer)
    × IsAnswered old.table.types.items old.lines.text old.questions.list.items before answer left after
    × IsLineAnswered old.table.types.items (contents_in after.adapter) answer old.session session
    × (known ≡ senders_after answer old.senders.known.items)

pub taken_by : {W : Type 0} (old : OwnerPort) (before after : ServerState W) (types more : List TypedAttribute) (line : List ℕ)
    (left : List Question) (answer : Answer) (adapter : AdapterState) (counted session : Session) (known : List Sender)
    → types ≡ old.table.types.items → more ≡ old.table.types.items → line ≡ old.lines.text → adapter ≡ after.adapter
    → counted ≡ with_next_line old.session
    → IsAnswered types line old.questions.list.items before answer left after
    → IsAnswerSent more (contents_in adapter) answer counted session
    → known ≡ senders_after answer old.senders.known.items
    → IsTakenBy old before session known left after
taken_by {W} old before after types more line left answer adapter counted session known one two text device next is sent forgets =
    let done : IsAnswered old.table.types.items old.lines.text old.questions.list.items before answer left after =
    subst (λ l. IsAnswered old.table.types.items l old.questions.list.items before answer left after) text
    (subst (λ l. IsAnswered l line old.questions.list.items before answer left after) one is) in
    let queued : IsAnswerSent old.table.types.items (contents_in after.adapter) answer (with_next_line old.session) session =
    subst (λ (s : Session). IsAnswerSent old.table.types.items (contents_in after.adapter) answer s session) next
    (subst (λ (a : AdapterState). IsAnswerSent old.table.types.items (contents_in a) answer counted session) device
    (subst (λ l. IsAnswerSent l (contents_in adapter) answer counted session) two sent)) in
    (answer, done, queued, forgets)

pub line_fed : {W : Type 0} (old : OwnerPort) (bytes : List ℕ) (before : ServerState W) (rest : List ℕ) (new : OwnerPort)
    (after : ServerState W) (outcome : LineOutcome) (lines : BufferedLine) → can_feed old.session ≡ true
    → IsFed old.lines bytes outcome rest lines → IsEndTaken outcome (record old { lines = lines }) before new after
    → SameRest (record old { lines = lines }) new → new.lines ≡ lines → IsPortFed old bytes before rest new after
line_fed {W} old bytes before rest new after outcome lines can fed taken same is =
    let all : IsLineFed old bytes before rest new after = record {
      outcome = outcome;
      fed = subst (λ (l : BufferedLine). IsFed old.lines bytes outcome rest l) (sym is) fed;
      taken = subst (λ (l : BufferedLine). IsEndTaken outcome (record old { lines = l }) before new after) (sym is) taken;
      same = record {
        types = same.types;
        token = same.token;
        counts = same.counts;
        next = same.next;
        hand_over = same.hand_over;
        endings = same.endings;
        questions = same.questions;
      };
    } in
    subst (λ c. IsPortFedBy c old bytes before rest new after) (sym can) all

pub nothing_fed : {W : Type 0} (old : OwnerPort) (bytes : List ℕ) (before : ServerState W) → can_feed old.session ≡ false
    → IsPortFed old bytes before bytes old before
nothing_fed {W} old bytes before cannot =
    subst (λ c. IsPortFedBy c old bytes before bytes old before) (sym cannot) (refl, refl, refl)

-- ---- the laws of refused lines

finish-refused : {W : Type 0} (ticket : ℕ) (reply : Reply) (before : ServerState W) (fault : LineFault) (after : ServerState W)
    → IsFinishDone ticket reply before (answers.Refused fault) after → after ≡ before
finish-refused ticket reply before fault after (inl (can, is, done)) = absurd (cc)
finish-refused ticket reply before fault after (inr (cannot, is, same)) = same

write-refused : {W : Type 0} (types : List TypedAttribute) (a : AttributeRef) (bytes : List ℕ) (before : ServerState W)
    (fault : LineFault) (after : ServerState W) → IsWriteDone types a bytes before (answers.Refused fault) after → after ≡ before
write-refused types a bytes before fault after (inl (can, is, done)) = absurd (cc)
write-refused types a bytes before fault after (inr (cannot, is, same)) = same

values-refused : {W : Type 0} (types : List TypedAttribute) (a : AttributeRef) (values : List Given) (found : Option ValueType)
    (before : ServerState W) (fault : LineFault) (after : ServerState W)
    → AreValuesOfTypeWritten types a values found before (answers.Refused fault) after → after ≡ before
values-refused types a values None before fault after (is, same) = same
values-refused types a values (Some value_type) before fault after (inl (bytes, are, done)) =
    write-refused types a bytes before fault after done
values-refused types a values (Some value_type) before fault after (inr (why, given, is, same)) = same

answer-refused : (fault : Option LineFault) (why : LineFault) → answers.Refused why ≡ settled_answer fault → fault ≡ Some why
answer-refused None why is = absurd (cc)
answer-refused (Some fault) why is = cc

settled_still : (waiting : List Question) (number : ℕ) (reply : Reply) (why : LineFault)
    → answers.Refused why ≡ settled_answer (fault_in number reply waiting) → answered_in number reply waiting ≡ waiting
settled_still waiting number reply why is =
    refused_still waiting number reply why (answer-refused (fault_in number reply waiting) why is)

executed-refused : {W : Type 0} (types : List TypedAttribute) (request : Request) (waiting left : List Question)
    (before : ServerState W) (fault : LineFault) (after : ServerState W)
    → IsExecuted types request waiting before (answers.Refused fault) left after → (left ≡ waiting) × (after ≡ before)
executed-refused types (requests.Done ticket reply) waiting left before fault after (still, done) =
    (still, finish-refused ticket reply before fault after done)
executed-refused types (requests.Answer question reply) waiting left before fault after (settled, is, same) =
    (settled ∙ settled_still waiting question reply fault is, same)
executed-refused types (requests.WriteData a bytes) waiting left before fault after (still, done) =
    (still, write-refused types a bytes before fault after done)
executed-refused types (requests.WriteValues a values) waiting left before fault after (still, done) =
    (still, values-refused types a values (type_at a types) before fault after done)
executed-refused types (requests.Read a) waiting left before fault after (still, is, same) = (still, same)
executed-refused types (requests.Status status) waiting left before fault after (still, is, done) = absurd (cc)
executed-refused types (requests.State state) waiting left before fault after (still, is, done) = absurd (cc)

pub refused-unchanged : {W : Type 0} (types : List TypedAttribute) (line : List ℕ) (waiting left : List Question)
    (before after : ServerState W) (fault : LineFault) → IsAnswered types line waiting before (answers.Refused fault) left after
    → (left ≡ waiting) × (after ≡ before)
refused-unchanged types line waiting left before after fault (inl (request, says, done)) =
    executed-refused types request waiting left before fault after done
refused-unchanged types line waiting left before after fault (inr (why, refused, is, still, same)) = (still, same)

finish-read : {W : Type 0} (ticket : ℕ) (reply : Reply) (before : ServerState W) (a : AttributeRef) (after : ServerState W)
    → IsFinishDone ticket reply before (answers.Value a) after → after ≡ before
finish-read ticket reply before a after (inl (can, is, done)) = absurd (cc)
finish-read ticket reply before a after (inr (cannot, is, same)) = same

write-read : {W : Type 0} (types : List TypedAttribute) (to : AttributeRef) (bytes : List ℕ) (before : ServerState W)
    (a : AttributeRef) (after : ServerState W) → IsWriteDone types to bytes before (answers.Value a) after → after ≡ before
write-read types to bytes before a after (inl (can, is, done)) = absurd (cc)
write-read types to bytes before a after (inr (cannot, is, same)) = same

values-read : {W : Type 0} (types : List TypedAttribute) (to : AttributeRef) (values : List Given) (found : Option ValueType)
    (before : ServerState W) (a : AttributeRef) (after : ServerState W)
    → AreValuesOfTypeWritten types to values found before (answers.Value a) after → after ≡ before
values-read types to values None before a after (is, same) = same
values-read types to values (Some value_type) before a after (inl (bytes, are, done)) =
    write-read types to bytes before a after done
values-read types to values (Some value_type) before a after (inr (why, given, is, same)) = same

answer-no_value : (fault : Option LineFault) (a : AttributeRef) → answers.Value a ≡ settled_answer fault → ⊥
answer-no_value None a is = cc
answer-no_value (Some fault) a is = cc

executed-read : {W : Type 0} (types : List TypedAttribute) (request : Request) (waiting left : List Question)
    (before : ServerState W) (a : AttributeRef) (after : ServerState W)
    → IsExecuted types request waiting before (answers.Value a) left after → (left ≡ waiting) × (after ≡ before)
executed-read types (requests.Done ticket reply) waiting left before a after (still, done) =
    (still, finish-read ticket reply before a after done)
executed-read types (requests.Answer question reply) waiting left before a after (settled, is, same) =
    absurd (answer-no_value (fault_in question reply waiting) a is)
executed-read types (requests.WriteData to bytes) waiting left before a after (still, done) =
    (still, write-read types to bytes before a after done)
executed-read types (requests.WriteValues to values) waiting left before a after (still, done) =
    (still, values-read types to values (type_at to types) before a after done)
executed-read types (requests.Read from) waiting left before a after (still, is, same) = (still, same)
executed-read types (requests.Status status) waiting left before a after (still, is, done) = absurd (cc)
executed-read types (requests.State state) waiting left before a after (still, is, done) = absurd (cc)

pub read-unchanged : {W : Type 0} (types : List TypedAttribute) (line : List ℕ) (waiting left : List Question)
    (before after : ServerState W) (a : AttributeRef) → IsAnswered types line waiting before (answers.Value a) left after
    → (left ≡ waiting) × (after ≡ before)
read-unchanged types line waiting left before after a (inl (request, says, done)) =
    executed-read types request waiting left before a after done
read-unchanged types line waiting left before after a (inr (why, refused, is, still, same)) = (still, same)
