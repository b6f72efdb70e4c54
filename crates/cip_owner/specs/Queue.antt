-- The commands that wait for the owner of the device, and the results of those that it finished.
use Rattle.std.specs.Prelude.{ℕ, ◌+◌, ◌<◌, ◌≤◌, ◌^◌, ◌==◌, ◌&&◌, Bool, max, not, nat_lt, nat_le, if◌then◌else◌}
use Rattle.std.specs.Prelude.{Option, Some, None, List, [], ◌∷◌, ◌++◌, length, drop, filter, is_some}
use Rattle.std.specs.List.{AllByRecursion}
use Rattle.byteorder.specs.Endian.{little_number}
use Rattle.cip_objects.specs.OwnRequests.{Asked}
use Rattle.cip_message.specs.Router.{REPLY_TOO_LARGE}
use Rattle.cip_owner.specs.Replies.{Reply}

-- A command that waits: its ticket, the object and the service, the data, and the most bytes of the reply's data.
pub record QueuedCommand : Type 0 where
  pub ticket : ℕ
  pub class : ℕ
  pub instance : ℕ
  pub service : ℕ
  pub content : List ℕ
  pub reply_limit : ℕ

-- The result of a command that the owner finished: a general status, and data.
pub record QueueResult : Type 0 where
  pub ticket : ℕ
  pub class : ℕ
  pub instance : ℕ
  pub status : ℕ
  pub content : List ℕ

-- The queue: how many commands may wait, the next ticket, the greatest ticket that was handed over (or 0), the commands
-- that wait and the results that are kept, oldest first. Commands are handed over in the order of their tickets.
pub record QueueState : Type 0 where
  pub limit : ℕ
  pub next : ℕ
  pub handed : ℕ
  pub waiting : List QueuedCommand
  pub results : List QueueResult

-- Tickets begin at 1.
abbrev pub empty_queue : ℕ → QueueState
empty_queue limit = record { limit = limit; next = 1; handed = 0; waiting = []; results = [] }

-- One more command may wait, and there is a ticket for it: tickets are numbers of 32 bits, and none is used again.
abbrev pub has_room : QueueState → Bool
has_room q = nat_lt (length q.waiting) q.limit && nat_lt q.next (2 ^ 32)

-- The numbers of a request have the widths of the wire, and its data and its reply are not too long to be kept.
abbrev pub has_widths : Asked → Bool
has_widths asked =
    nat_lt asked.class (2 ^ 16) && nat_lt asked.instance (2 ^ 32) && nat_lt asked.service (2 ^ 8)
    && nat_le (length asked.content) 500 && nat_le asked.reply_limit 476

-- The queue takes a request.
abbrev pub takes : QueueState → Asked → Bool
takes q asked = has_room q && has_widths asked

-- The ticket that a request would have. None if the queue does not take it.
abbrev pub next_ticket : QueueState → Asked → Option ℕ
next_ticket q asked = if takes q asked then Some q.next else None

abbrev pub command_with : ℕ → Asked → QueuedCommand
command_with ticket asked = record {
  ticket = ticket;
  class = asked.class;
  instance = asked.instance;
  service = asked.service;
  content = asked.content;
  reply_limit = asked.reply_limit;
}

-- The queue with one more command, behind all others.
abbrev pub pushed : QueueState → Asked → QueueState
pushed q asked = record q { next = q.next + 1; waiting = q.waiting ++ command_with q.next asked ∷ [] }

-- The queue after a request that it takes, or does not take.
abbrev pub after_push : QueueState → Asked → QueueState
after_push q asked = if takes q asked then pushed q asked else q

-- The first of these that has a number.
abbrev pub first_with : {X : Type 0} → (X → ℕ) → ℕ → List X → Option X
first_with number n [] = None
first_with number n (x ∷ xs) = if number x == n then Some x else first_with number n xs

abbrev pub command_ticket : QueuedCommand → ℕ
command_ticket c = c.ticket

abbrev pub result_ticket : QueueResult → ℕ
result_ticket r = r.ticket

-- The waiting command with this ticket.
abbrev pub command_of : ℕ → List QueuedCommand → Option QueuedCommand
command_of ticket commands = first_with command_ticket ticket commands

abbrev pub without_command : ℕ → List QueuedCommand → List QueuedCommand
without_command ticket commands = filter (λ c. not (c.ticket == ticket)) commands

-- A waiting command was handed over to an owner.
abbrev pub is_handed : QueueState → QueuedCommand → Bool
is_handed q c = nat_le c.ticket q.handed

-- The waiting commands that were handed over.
abbrev pub handed_commands : QueueState → List QueuedCommand
handed_commands q = filter (is_handed q) q.waiting

abbrev pub with_handed : ℕ → QueueState → QueueState
with_handed ticket q = record q { handed = ticket }

-- The queue once the waiting command with this ticket is handed over, and so are those before it. As it is, if no such
-- command waits.
abbrev pub marked : QueueState → ℕ → QueueState
marked q ticket = if is_some (command_of ticket q.waiting) then with_handed (max q.handed ticket) q else q

-- A reply that the owner can give to a command: it is not longer than the service allows, and it does not say that it
-- is too large, as the owner has executed the command.
abbrev pub is_reply_within : ℕ → Reply → Bool
is_reply_within limit reply =
    not (reply.status == REPLY_TOO_LARGE) && nat_lt reply.status (2 ^ 8) && nat_le (length reply.content) limit
    && nat_le (length reply.content) 476

abbrev pub can_be_reply : QueuedCommand → Reply → Bool
can_be_reply c reply = is_reply_within c.reply_limit reply

abbrev pub result_with : QueuedCommand → Reply → QueueResult
result_with c reply = record {
  ticket = c.ticket;
  class = c.class;
  instance = c.instance;
  status = reply.status;
  content = reply.content;
}

-- The results with one more. If there are 256, the oldest is dropped.
abbrev pub with_result : List QueueResult → QueueResult → List QueueResult
with_result results r = (if nat_lt (length results) 256 then results else drop 1 results) ++ r ∷ []

-- The queue after the owner finished this command: the command waits no more, and its result is kept.
abbrev pub with_finished : QueueState → ℕ → QueuedCommand → Reply → QueueState
with_finished q ticket c reply =
    record q { waiting = without_command ticket q.waiting; results = with_result q.results (result_with c reply) }

abbrev pub finished_by : QueueState → ℕ → Reply → Option QueuedCommand → Option QueueState
finished_by q ticket reply None = None
finished_by q ticket reply (Some c) = if can_be_reply c reply then Some (with_finished q ticket c reply) else None

-- The queue after the owner finished the command with this ticket with this reply. None if no such command waits, or if
-- this cannot be its reply.
abbrev pub finished : QueueState → ℕ → Reply → Option QueueState
finished q ticket reply = finished_by q ticket reply (command_of ticket q.waiting)

abbrev pub can_finish : QueueState → ℕ → Reply → Bool
can_finish q ticket reply = is_some (finished q ticket reply)

-- What Get_Result finds of a ticket.
pub data QueueOutcome : Type 0 where
  Pending : QueueOutcome
  Done : (result : QueueResult) → QueueOutcome
  Unknown : QueueOutcome

-- The result with this ticket.
abbrev pub kept_result : ℕ → List QueueResult → Option QueueResult
kept_result ticket results = first_with result_ticket ticket results

abbrev pub outcome_by : ℕ → ℕ → Option QueuedCommand → Option QueueResult → QueueOutcome
outcome_by class instance (Some c) r =
    if (c.class == class) && (c.instance == instance) then Pending else Unknown
outcome_by class instance None (Some r) =
    if (r.class == class) && (r.instance == instance) then Done r else Unknown
outcome_by class instance None None = Unknown

-- The outcome of the command with this ticket, if it is a command to this object.
abbrev pub outcome_of : QueueState → ℕ → ℕ → ℕ → QueueOutcome
outcome_of q ticket class instance =
    outcome_by class instance (command_of ticket q.waiting) (kept_result ticket q.results)

-- The ticket that the data of Get_Result are.
abbrev pub ticket_in : List ℕ → Option ℕ
ticket_in content = if length content == 4 then Some (little_number 4 content) else None

abbrev pub outcome_at : QueueState → Asked → Option ℕ → QueueOutcome
outcome_at q asked None = Unknown
outcome_at q asked (Some ticket) = outcome_of q ticket asked.class asked.instance

-- What Get_Result of an object answers.
abbrev pub result_of : QueueState → Asked → QueueOutcome
result_of q asked = outcome_at q asked (ticket_in asked.content)

-- What holds of every queue: its numbers have their widths, and neither the commands nor the results are too many or
-- too long.
pub record IsQueued (c : QueuedCommand) : Type 0 where
  pub ticket : c.ticket < 2 ^ 32
  pub class : c.class < 2 ^ 16
  pub instance : c.instance < 2 ^ 32
  pub service : c.service < 2 ^ 8
  pub content : length c.content ≤ 500
  pub reply_limit : c.reply_limit ≤ 476

pub record IsResult (r : QueueResult) : Type 0 where
  pub ticket : r.ticket < 2 ^ 32
  pub class : r.class < 2 ^ 16
  pub instance : r.instance < 2 ^ 32
  pub status : r.status < 2 ^ 8
  pub content : length r.content ≤ 476

pub record IsQueue (q : QueueState) : Type 0 where
  pub few : q.limit ≤ 256
  pub next : q.next ≤ 2 ^ 32
  pub handed : q.handed < 2 ^ 32
  pub within : length q.waiting ≤ q.limit
  pub kept : length q.results ≤ 256
  pub commands : AllByRecursion IsQueued q.waiting
  pub done : AllByRecursion IsResult q.results

-- A queue that starts from what was kept of one: the next ticket, then the commands, then the results, each behind the
-- others.
abbrev pub with_next : ℕ → QueueState → QueueState
with_next next q = record q { next = next }

abbrev pub can_restore_waiting : QueuedCommand → QueueState → Bool
can_restore_waiting c q =
    nat_lt (length q.waiting) q.limit && nat_le (length c.content) 500 && nat_le c.reply_limit 476

abbrev pub restored_waiting : QueuedCommand → QueueState → Option QueueState
restored_waiting c q =
    if can_restore_waiting c q then Some (record q { waiting = q.waiting ++ c ∷ [] }) else None

abbrev pub can_restore_result : QueueResult → QueueState → Bool
can_restore_result r q = nat_lt (length q.results) 256 && nat_le (length r.content) 476

abbrev pub restored_result : QueueResult → QueueState → Option QueueState
restored_result r q = if can_restore_result r q then Some (record q { results = q.results ++ r ∷ [] }) else None
