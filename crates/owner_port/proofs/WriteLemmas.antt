-- All that a line of the owner changes of the peers is an own write of the device.
use Rattle.std.proofs.Common.{◌≡◌, ℕ, Bool, true, false, List, Option, Some, None, ◌⊎◌, inl, inr}
use Rattle.cip_owner.specs.Replies.{Reply}
use Rattle.cip_values.specs.declared.element.ValueType.{ValueType}
use Rattle.enip_adapter.specs.OwnWrites.{WritesAttribute, SetsStatus, SetsState, Finishes}
use Rattle.enip_owner.specs.declared.attribute_ref.AttributeRef.{AttributeRef}
use Rattle.enip_owner.specs.declared.line_buffer.LineOutcome.{LineOutcome}
use Rattle.enip_owner.specs.declared.line_buffer.LineOutcome.TheVariants as outcomes
use Rattle.enip_owner.specs.Requests as requests
use Rattle.enip_owner.specs.Requests.{Request, Given}
use Rattle.enip_server.specs.Rounds.{ServerState, IsWritten}
use Rattle.enip_server.proofs.OwnWriteLemmas.{written_once, written_same}
use Rattle.owner_port.specs.declared.attribute_table.TypedAttribute.{TypedAttribute}
use Rattle.owner_port.specs.declared.execution.Answer.{Answer}
use Rattle.owner_port.specs.declared.port.OwnerPort.{OwnerPort}
use Rattle.owner_port.specs.declared.questions.Question.{Question}
use Rattle.owner_port.specs.Execution.{IsFinishDone, IsWriteDone, AreValuesOfTypeWritten, IsExecuted, IsAnswered}
use Rattle.owner_port.specs.Ports.{IsLineTakenBy, IsEndTaken, IsPortFedBy}
use Rattle.owner_port.specs.Sessions.{awaits_token}
use Rattle.owner_port.specs.Tables.{type_at}

module _ {W : Type 0} where
  finish-writes : (ticket : ℕ) (reply : Reply) (before : ServerState W) (answer : Answer) (after : ServerState W)
      → IsFinishDone ticket reply before answer after → IsWritten before after
  finish-writes ticket reply before answer after (inl (can, is, done)) =
      written_once (Finishes ticket reply) before after done
  finish-writes ticket reply before answer after (inr (cannot, is, same)) = written_same before after same

  write-writes : (types : List TypedAttribute) (a : AttributeRef) (bytes : List ℕ) (before : ServerState W)
      (answer : Answer) (after : ServerState W) → IsWriteDone types a bytes before answer after → IsWritten before after
  write-writes types a bytes before answer after (inl (can, is, done)) =
      written_once (WritesAttribute a.class a.instance a.attribute 0 bytes) before after done
  write-writes types a bytes before answer after (inr (cannot, is, same)) = written_same before after same

  values-writes : (types : List TypedAttribute) (a : AttributeRef) (values : List Given) (found : Option ValueType)
      (before : ServerState W) (answer : Answer) (after : ServerState W)
      → AreValuesOfTypeWritten types a values found before answer after → IsWritten before after
  values-writes types a values None before answer after (is, same) = written_same before after same
  values-writes types a values (Some value_type) before answer after (inl (bytes, are, done)) =
      write-writes types a bytes before answer after done
  values-writes types a values (Some value_type) before answer after (inr (fault, why, is, same)) =
      written_same before after same

  executed-writes : (types : List TypedAttribute) (request : Request) (waiting left : List Question) (before : ServerState W)
      (answer : Answer) (after : ServerState W) → IsExecuted types request waiting before answer left after
      → IsWritten before after
  executed-writes types (requests.Done ticket reply) waiting left before answer after (still, done) =
      finish-writes ticket reply before answer after done
  executed-writes types (requests.Answer question reply) waiting left before answer after (settled, is, same) =
      written_same before after same
  executed-writes types (requests.WriteData a bytes) waiting left before answer after (still, done) =
      write-writes types a bytes before answer after done
  executed-writes types (requests.WriteValues a values) waiting left before answer after (still, done) =
      values-writes types a values (type_at a types) before answer after done
  executed-writes types (requests.Read a) waiting left before answer after (still, is, same) =
      written_same before after same
  executed-writes types (requests.Status status) waiting left before answer after (still, is, done) =
      written_once (SetsStatus status) before after done
  executed-writes types (requests.State state) waiting left before answer after (still, is, done) =
      written_once (SetsState state) before after done

  answered-writes : (types : List TypedAttribute) (line : List ℕ) (waiting left : List Question) (before : ServerState W)
      (answer : Answer) (after : ServerState W) → IsAnswered types line waiting before answer left after
      → IsWritten before after
  answered-writes types line waiting left before answer after (inl (request, says, done)) =
      executed-writes types request waiting left before answer after done
  answered-writes types line waiting left before answer after (inr (fault, refused, is, still, same)) =
      written_same before after same

  taken-writes : (token : Bool) (old : OwnerPort) (before : ServerState W) (new : OwnerPort) (after : ServerState W)
      → IsLineTakenBy token old before new after → IsWritten before after
  taken-writes true old before new after (taken, same, still) = written_same before after same
  taken-writes false old before new after (answer, is, sent, known) =
      answered-writes old.table.types.items old.lines.text old.questions.list.items new.questions.list.items before answer
      after is

  end-writes : (outcome : LineOutcome) (old : OwnerPort) (before : ServerState W) (new : OwnerPort)
      (after : ServerState W) → IsEndTaken outcome old before new after → IsWritten before after
  end-writes outcomes.Unfinished old before new after (session, senders, same, still) = written_same before after same
  end-writes outcomes.Whole old before new after taken =
      taken-writes (awaits_token old.session.phase) old before new after taken
  end-writes outcomes.TooLong old before new after (session, senders, same, still) = written_same before after same

  pub fed-writes : (can : Bool) (old : OwnerPort) (bytes : List ℕ) (before : ServerState W) (rest : List ℕ)
      (new : OwnerPort) (after : ServerState W) → IsPortFedBy can old bytes before rest new after
      → IsWritten before after
  fed-writes true old bytes before rest new after fed =
      end-writes fed.outcome (record old { lines = new.lines }) before new after fed.taken
  fed-writes false old bytes before rest new after (left, same, still) = written_same before after still
