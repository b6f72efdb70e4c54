-- What the owner is asked while a peer waits, and which frames are admitted.
use Rattle.std.specs.Prelude.{◌≡◌, ◌⊎◌, ℕ, ◌+◌, ◌-◌, ◌^◌, ◌==◌, ◌&&◌, not, Bool, true, false, List, map, Option, Some, None}
use Rattle.std.specs.List.{list_any}
use Rattle.std.specs.declared.net.ip_addr.IpAddr.{IpAddr}
use Rattle.cip_objects.specs.OwnRequests.{Asked}
use Rattle.enip_server.specs.Admissions.{AreShown}
use Rattle.enip_server.specs.Rounds.{ServerState}
use Rattle.owner_port.specs.declared.asked_request.AskedRequest.{AskedRequest}
use Rattle.owner_port.specs.declared.fault.SessionEnd.TheVariants as ends
use Rattle.owner_port.specs.declared.port.OwnerPort.{OwnerPort}
use Rattle.owner_port.specs.declared.questions.Question.{Question}
use Rattle.owner_port.specs.declared.questions.Questions.{Questions}
use Rattle.owner_port.specs.declared.questions.QuestionState.TheVariants as states
use Rattle.owner_port.specs.declared.session.Session.{Session}
use Rattle.owner_port.specs.Questions.{IsCopied, IsAdded, IsAdmitted, IsPassBegun, IsPassEnded, deadline_after, is_of, shown_by, with_list}
use Rattle.owner_port.specs.Sessions.{has_space, with_end, IsSent, IsAskedLine}

-- A request of a peer that nobody answers.
abbrev pub unanswered : ℕ → Question
unanswered peer = record { peer = peer; number = 0; deadline = 0; request = None; state = states.Failed; is_shown = true }

-- A question that is asked now.
abbrev pub new_question : ℕ → AskedRequest → Questions → Question
new_question peer copy questions = record {
  peer = peer;
  number = questions.next;
  deadline = deadline_after questions.time questions.timeout;
  request = Some copy;
  state = states.Open;
  is_shown = true;
}

-- The session is over if there is no memory for a question.
abbrev pub IsKept : Bool → Session → Session → Type 0
IsKept true old new = new ≡ old
IsKept false old new = new ≡ with_end ends.Memory old

-- The owner is asked by the next number, and the request waits for the answer.
pub record IsNewQuestion (peer : ℕ) (by : IpAddr) (asked : Asked) (copy : AskedRequest) (old new : OwnerPort) : Type 0 where
  pub added : Bool
  pub between : Session
  pub asked_is : IsSent (IsAskedLine old.table.types.items by old.questions.next asked) old.session between
  pub list : IsAdded (new_question peer copy old.questions) added old.questions.list.items new.questions.list.items
  pub kept : IsKept added between new.session
  pub same : new ≡ record old {
    session = new.session;
    questions = record old.questions { next = old.questions.next + 1; list = new.questions.list };
  }

-- Nobody is asked.
pub record IsUnanswered (peer : ℕ) (session : Session) (old new : OwnerPort) : Type 0 where
  pub added : Bool
  pub list : IsAdded (unanswered peer) added old.questions.list.items new.questions.list.items
  pub same : new ≡ record old { session = session; questions = with_list new.questions.list old.questions }

-- Whether the owner can be asked: no numbered command embeds the request, a line fits, and a number is left.
abbrev pub can_ask : Bool → OwnerPort → Bool
can_ask numbered port =
    not numbered && (has_space port.session && not (port.questions.next == 2 ^ 32 - 1))

-- A request begins to wait. If memory is refused, the session is over.
abbrev pub IsEnteredBy : Bool → ℕ → IpAddr → Asked → OwnerPort → OwnerPort → Type 0
IsEnteredBy true peer by asked old new =
    ((copy : AskedRequest) × IsCopied asked copy × IsNewQuestion peer by asked copy old new)
    ⊎ IsUnanswered peer (with_end ends.Memory old.session) old new
IsEnteredBy false peer by asked old new = IsUnanswered peer old.session old new

abbrev pub IsEntered : ℕ → IpAddr → Asked → Bool → OwnerPort → OwnerPort → Type 0
IsEntered peer by asked numbered old new = IsEnteredBy (can_ask numbered old) peer by asked old new

-- The request of a peer is shown. It begins to wait unless it did before, and then it is admitted or goes on waiting.
abbrev pub shown_port : ℕ → OwnerPort → Questions → Type 0
shown_port peer old questions =
    (questions.list.items ≡ map (shown_by peer) old.questions.list.items) × (questions ≡ with_list questions.list old.questions)

abbrev pub IsWaitingBy : Bool → ℕ → IpAddr → Asked → Bool → OwnerPort → OwnerPort → Type 0
IsWaitingBy true peer by asked numbered old new = new ≡ old
IsWaitingBy false peer by asked numbered old new = IsEntered peer by asked numbered old new

pub record IsRequestShown (peer : ℕ) (by : IpAddr) (asked : Asked) (numbered : Bool) (old : OwnerPort) (admitted : Bool)
    (new : OwnerPort) : Type 0 where
  pub questions : Questions
  pub shown : shown_port peer old questions
  pub between : OwnerPort
  pub waits : IsWaitingBy (list_any (is_of peer) old.questions.list.items) peer by asked numbered
      (record old { questions = questions }) between
  pub decided : IsAdmitted peer between.questions admitted new.questions
  pub same : new ≡ record between { questions = new.questions }

-- No reply is prepared.
abbrev pub has_no_reply : OwnerPort → Type 0
has_no_reply port = port.questions.prepared ≡ None

-- The port is shown a request of the peer on a wire.
abbrev pub IsShownTo : {W : Type 0} → (W → IpAddr) → OwnerPort → ℕ → W → Asked → Bool → Bool → OwnerPort → Type 0
IsShownTo address port peer wire asked numbered admitted next =
    IsRequestShown peer (address wire) asked numbered port admitted next

-- A pass over the frames that wait: each that asks something is shown, and a request that was not shown waits no longer.
pub record IsPass {W : Type 0} (waiting : W → Option (List ℕ)) (admitted_wire : W → W) (address : W → IpAddr) (now : ℕ)
    (old : OwnerPort) (before : ServerState W) (new : OwnerPort) (after : ServerState W) : Type 0 where
  pub begun : Questions
  pub begins : IsPassBegun now old.questions begun
  pub shown : OwnerPort
  pub shows : AreShown waiting admitted_wire (IsShownTo address) now (record old { questions = begun }) before shown after
  pub ends : IsPassEnded shown.questions new.questions
  pub same : new ≡ record shown { questions = new.questions }
