-- The entries in which a queue of commands is kept, and a queue that starts from them. They are numbered, and no call and
-- no configuration changes their numbers.
use Rattle.std.specs.Prelude.{◌≡◌, ℕ, zero, suc, ◌-◌, ◌^◌, ◌==◌, Bool, nat_lt, nat_le, if◌then◌else◌}
use Rattle.std.specs.Prelude.{List, [], ◌∷◌, ◌++◌, length, drop, slice_get, slice_index, Option, Some, None}
use Rattle.std.specs.Option.{option_and_then}
use Rattle.cip_bytes.specs.Numbers.{le, number_at}
use Rattle.cip_owner.specs.Queue.{QueuedCommand, QueueResult, QueueState, IsQueue, empty_queue}
use Rattle.cip_owner.specs.Queue.{with_next, with_handed, restored_waiting, restored_result}

-- The places for waiting commands. There are as many for results.
abbrev pub PLACES : ℕ
PLACES = 256

-- The next ticket, and each place.
abbrev pub QUEUE_ENTRIES : ℕ
QUEUE_ENTRIES = 513

-- ---- what is kept

-- A waiting command: its ticket, class, instance and service, the most bytes of its reply's data, and its own data.
abbrev pub command_bytes : QueuedCommand → List ℕ
command_bytes c =
    le 4 c.ticket ++ (le 2 c.class ++ (le 4 c.instance ++ c.service ∷ (le 2 c.reply_limit ++ c.content)))

-- A result: the ticket, the class and the instance of its command, and the owner's status and data.
abbrev pub result_bytes : QueueResult → List ℕ
result_bytes r = le 4 r.ticket ++ (le 2 r.class ++ (le 4 r.instance ++ r.status ∷ r.content))

-- A free place has no bytes.
abbrev pub bytes_of_command : Option QueuedCommand → List ℕ
bytes_of_command None = []
bytes_of_command (Some c) = command_bytes c

abbrev pub bytes_of_result : Option QueueResult → List ℕ
bytes_of_result None = []
bytes_of_result (Some r) = result_bytes r

-- The content of a place, by its index: the waiting commands in their order, and behind the places for them the results,
-- the oldest first.
abbrev pub place_bytes : QueueState → ℕ → List ℕ
place_bytes q index =
    if nat_lt index PLACES then bytes_of_command (slice_get q.waiting index)
    else bytes_of_result (slice_get q.results (index - PLACES))

-- Whether the mark is the last ticket that was given: then each command of the queue counts as handed over, and the mark
-- is not written.
abbrev pub has_handed_all : QueueState → Bool
has_handed_all q = q.handed == q.next - 1

-- The next ticket, and behind it the greatest one that was handed over, unless each one was.
abbrev pub next_bytes : QueueState → List ℕ
next_bytes q = if has_handed_all q then le 8 q.next else le 8 q.next ++ le 4 q.handed

-- The content of an entry, by its number: 0 is the next ticket, and the places are numbered from 1.
abbrev pub queue_bytes : QueueState → ℕ → List ℕ
queue_bytes q number = if number == 0 then next_bytes q else place_bytes q (number - 1)

-- ---- a queue that starts from it

-- The command that these bytes spell. None if they are too short.
abbrev pub spelled_command : List ℕ → Option QueuedCommand
spelled_command content =
    if nat_lt (length content) 13 then None
    else Some (record {
      ticket = number_at 0 4 content;
      class = number_at 4 2 content;
      instance = number_at 6 4 content;
      service = slice_index content 10;
      content = drop 13 content;
      reply_limit = number_at 11 2 content;
    })

abbrev pub spelled_result : List ℕ → Option QueueResult
spelled_result content =
    if nat_lt (length content) 11 then None
    else Some (record {
      ticket = number_at 0 4 content;
      class = number_at 4 2 content;
      instance = number_at 6 4 content;
      status = slice_index content 10;
      content = drop 11 content;
    })

abbrev pub command_put : QueueState → Option QueuedCommand → Option QueueState
command_put q None = None
command_put q (Some c) = restored_waiting c q

abbrev pub result_put : QueueState → Option QueueResult → Option QueueState
result_put q None = None
result_put q (Some r) = restored_result r q

-- The queue with this next ticket, and with the greatest one that was handed over: the one in the bytes, or, if there is
-- none, the last one that was given.
abbrev pub tickets_put : QueueState → ℕ → List ℕ → Option QueueState
tickets_put q next content =
    if length content == 8 then Some (with_handed (next - 1) (with_next next q))
    else (if length content == 12 then Some (with_handed (number_at 8 4 content) (with_next next q)) else None)

abbrev pub next_put : QueueState → List ℕ → Option QueueState
next_put q content =
    if nat_le (number_at 0 8 content) (2 ^ 32) then tickets_put q (number_at 0 8 content) content else None

-- There is nothing to put back of a free place.
abbrev pub place_put : QueueState → ℕ → List ℕ → Option QueueState
place_put q index content =
    if length content == 0 then Some q
    else (if nat_lt index PLACES then command_put q (spelled_command content)
    else result_put q (spelled_result content))

-- The queue once an entry of it, by its number, was put back. None if it can't be.
abbrev pub queue_put : QueueState → ℕ → List ℕ → Option QueueState
queue_put q number content = if number == 0 then next_put q content else place_put q (number - 1) content

-- The queue once its first entries, so many, were put back with these contents.
abbrev pub put_entries : (ℕ → List ℕ) → ℕ → QueueState → Option QueueState
put_entries content zero q = Some q
put_entries content (suc count) q =
    option_and_then (λ before. queue_put before count (content count)) (put_entries content count q)

-- A queue with as many places that starts from the entries of a queue is that queue.
abbrev pub queue_law : Type 0
queue_law = (q : QueueState) → IsQueue q →
    put_entries (queue_bytes q) QUEUE_ENTRIES (empty_queue q.limit) ≡ Some q
