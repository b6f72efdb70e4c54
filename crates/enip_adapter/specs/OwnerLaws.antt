-- What holds of every request to the owner of the device: who is asked what, when, and how often.
use Rattle.std.specs.Prelude.{◌≡◌, ◌≤◌, ⊤, ℕ, true, false, length, find, slice_index, is_some, Option, Some, None, List, [], ◌∷◌, ◌++◌}
use Rattle.std.specs.Prelude.{Ok}
use Rattle.cip_bytes.specs.Protocol.{command_of}
use Rattle.cip_bytes.specs.declared.protocol.Command.TheVariants.{SendUnitData}
use Rattle.cip_class3.specs.Item.{sequence_count_of}
use Rattle.cip_class3.specs.TargetRule.{is_held}
use Rattle.cip_ledger.specs.Device.{Device, owned_standing, exec_device}
use Rattle.cip_ledger.specs.Laws.{HasNoDoubles}
use Rattle.cip_ledger.specs.Ledger.{LedgerState}
use Rattle.cip_ledger.specs.Pending.{any_pending}
use Rattle.cip_ledger.specs.Runs.{Request, Event, Executed, Freed}
use Rattle.cip_ledger.specs.Services.{Executes, reply_to, success, DONE}
use Rattle.cip_ledger.specs.Turn.{Fate, Passed, Served, fate}
use Rattle.cip_ledger.specs.Withdrawing.{withdrawal_of}
use Rattle.cip_manager.specs.declared.connection.Connection.{Connection}
use Rattle.cip_manager.specs.Connection.{is_named}
use Rattle.cip_objects.specs.Contents.{Contents, value_at}
use Rattle.cip_objects.specs.OwnRequests.{Asked}
use Rattle.cip_owner.specs.declared.owner.NoOwner.{NoOwner}
use Rattle.cip_owner.specs.Owned.{OwnedState, is_fit, after_reply, answer_with}
use Rattle.cip_owner.specs.Replies.{Reply}
use Rattle.enip_wire.specs.Bodies.{unit_body_of}
use Rattle.enip_wire.specs.Frames.{Frame}
use Rattle.enip_wire.specs.Stream.{held_and_taken, parsed}
use Rattle.enip_wire.specs.Stream.Parsed.{WholeFrame}
use Rattle.enip_adapter.specs.declared.peer.Session.{Session}
use Rattle.enip_adapter.specs.Asks.{asks_by_step, asks_of_call, asks_of_calls, with_reply, after_asking, asking_adapter}
use Rattle.enip_adapter.specs.Calls.{AdapterState, Call, after_call, call_answer, bytes_held}
use Rattle.enip_adapter.specs.Calls.Call.{Feeds, Writes}
use Rattle.enip_adapter.specs.DeviceRuns.{DeviceStep, Requested, device_after_step, journal_by_step, steps_of_calls}
use Rattle.enip_adapter.specs.OwnWrites.{OwnWrite, WritesAttribute, Prepares, Finishes, Withdraws, attribute_write, device_written}
use Rattle.enip_adapter.specs.Turn.{at_moment, session_of}

-- ---- what is asked

-- One feed asks at most one request.
abbrev pub one_asked_law : Type 0
one_asked_law = (a : AdapterState) (now peer : ℕ) (piece : List ℕ) → length (asks_of_call a (Feeds now peer piece)) ≤ 1

-- The objects, what is prepared, and the queue.
abbrev pub owned_in : AdapterState → OwnedState
owned_in a = a.state.shared.objects.router

-- What the device writes into an application object had a value before, as every attribute of a device has.
abbrev pub HadValue : Contents → OwnWrite → Type 0
HadValue m (WritesAttribute class instance attribute offset bytes) =
    is_some (attribute_write m class instance attribute offset bytes) ≡ true →
    is_some (value_at m class instance attribute) ≡ true
HadValue m other = ⊤

-- A queued command that the device finishes did not come by Do_Once: until one that did has ended, the next command of
-- its originator is refused. And no command is withdrawn.
abbrev pub EndsNone : Option LedgerState → OwnWrite → Type 0
EndsNone None write = ⊤
EndsNone (Some ledger) (Finishes ticket reply) = any_pending ticket ledger.taken ≡ false
EndsNone (Some ledger) (Withdraws request) = withdrawal_of (Some ledger) request ≡ None
EndsNone (Some ledger) other = ⊤

-- What is prepared, and what the device itself writes, does not change what is asked.
abbrev pub asked_alike_law : Type 0
asked_alike_law = (a : AdapterState) (write : OwnWrite) (now peer : ℕ) (piece : List ℕ) →
    HadValue (owned_in a).objects write → EndsNone a.state.shared.objects.ledger write →
    asks_of_call (after_call a (Writes write)) (Feeds now peer piece) ≡ asks_of_call a (Feeds now peer piece)

-- The piece completes a SendUnitData of the peer's session, whose item has the count that its connection holds.
pub record IsRepeat (a : AdapterState) (now peer : ℕ) (piece : List ℕ) : Type 0 where
  pub session : Session
  pub of_peer : session_of a.state peer ≡ Some session
  pub frame : Frame
  pub completed : parsed (held_and_taken (bytes_held a.held peer) piece) ≡ WholeFrame frame
  pub command : command_of frame.header.command ≡ Some SendUnitData
  pub id : ℕ
  pub item : List ℕ
  pub body : unit_body_of frame.body ≡ Ok (id, item)
  pub connection : Connection
  pub found : find (is_named session.handle id) (at_moment a.state.shared now).manager.connections ≡ Some connection
  pub held : is_held connection.target.held (sequence_count_of item) ≡ true

-- A repeat asks nothing.
abbrev pub repeat_law : Type 0
repeat_law = (a : AdapterState) (now peer : ℕ) (piece : List ℕ) → IsRepeat a now peer piece →
    asks_of_call a (Feeds now peer piece) ≡ []

-- ---- what becomes of a reply

-- A feed that asks takes a prepared reply that fits what is asked: then nothing is prepared. A set that the owner
-- accepts is stored, and no other object changes, nor does the queue.
abbrev pub given_law : Type 0
given_law = (a : AdapterState) (now peer : ℕ) (piece : List ℕ) (asked : Asked) (reply : Reply) →
    asks_of_call a (Feeds now peer piece) ≡ asked ∷ [] → is_fit asked reply ≡ true →
    owned_in (after_call (with_reply a (Some reply)) (Feeds now peer piece))
    ≡ record (owned_in a) { objects = after_reply (owned_in a).objects asked reply.status; prepared = None }

-- A feed that asks nothing leaves what is prepared.
abbrev pub unasked_law : Type 0
unasked_law = (a : AdapterState) (now peer : ℕ) (piece : List ℕ) → asks_of_call a (Feeds now peer piece) ≡ [] →
    (owned_in (after_call a (Feeds now peer piece))).prepared ≡ (owned_in a).prepared

-- The reply of the device is the owner's: as it is, or in the ledger's reply to the command that embeds the request.
abbrev pub answer_by : Fate → List ℕ → Reply → List ℕ
answer_by Passed text reply = answer_with (slice_index text 0) reply.status reply.content
answer_by (Served service (Executes command)) text reply =
    reply_to service (success (DONE ∷ answer_with (slice_index command.request 0) reply.status reply.content))
answer_by (Served service other) text reply = []

abbrev pub answered_law : Type 0
answered_law = (device : Device) (request : Request) (asked : Asked) (reply : Reply) →
    asks_by_step device (Requested request) ≡ asked ∷ [] → is_fit asked reply ≡ true →
    (exec_device (device_written (Prepares (Some reply)) device) request.0 request.1).answer
    ≡ answer_by (fate owned_standing device.ledger device.router request.0 request.1) request.1 reply

-- ---- with nobody to ask

-- `NoOwner` answers nothing, and stays as it is.
abbrev pub no_answer : NoOwner → Asked → Option Reply
no_answer owner asked = None

abbrev pub no_change : NoOwner → Asked → NoOwner
no_change owner asked = owner

-- If nothing is prepared, a feed that asks `NoOwner` is a feed.
abbrev pub nobody_law : Type 0
nobody_law = (a : AdapterState) (owner : NoOwner) (now peer : ℕ) (piece : List ℕ) → (owned_in a).prepared ≡ None →
    (after_asking no_answer no_change a owner now peer piece ≡ after_call a (Feeds now peer piece))
    × (call_answer (asking_adapter no_answer no_change a owner now peer piece) (Feeds now peer piece)
    ≡ call_answer a (Feeds now peer piece))

-- ---- lists of calls

-- What calls ask is what each of them asks, in order.
abbrev pub asks_call_by_call : AdapterState → List Call → List Asked
asks_call_by_call a [] = []
asks_call_by_call a (call ∷ calls) = asks_of_call a call ++ asks_call_by_call (after_call a call) calls

abbrev pub calls_law : Type 0
calls_law = (a : AdapterState) (calls : List Call) → asks_of_calls a calls ≡ asks_call_by_call a calls

-- Of the commands that the ledger executes, those whose embedded request asks the owner; and the slots that it frees.
abbrev pub asking_events : List Asked → List Event → List Event
asking_events asked [] = []
asking_events [] (Executed command reply ∷ events) = asking_events [] events
asking_events (asked ∷ more) (Executed command reply ∷ events) =
    Executed command reply ∷ asking_events (asked ∷ more) events
asking_events asked (Freed originator ∷ events) = Freed originator ∷ asking_events asked events

abbrev pub asking_journal_by_steps : Device → List DeviceStep → List Event
asking_journal_by_steps device [] = []
asking_journal_by_steps device (step ∷ steps) =
    asking_events (asks_by_step device step) (journal_by_step device step)
    ++ asking_journal_by_steps (device_after_step device step) steps

-- No number of an originator is asked twice, unless the originator's slot is freed in between.
abbrev pub asked_once_law : Type 0
asked_once_law = (a : AdapterState) (calls : List Call) →
    HasNoDoubles (asking_journal_by_steps a.state.shared.objects (steps_of_calls a calls))
