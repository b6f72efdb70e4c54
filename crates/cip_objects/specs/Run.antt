-- The counter over a list of requests: its value is the sum of the additions since the last Clear.
use Rattle.std.specs.Prelude.{◌≡◌, ℕ, ◌+◌, ◌%◌, ◌^◌, ◌<◌, ◌≤◌, Bool, true, false, ◌&&◌, ◌==◌, if◌then◌else◌, List, [], ◌∷◌}
use Rattle.std.specs.Prelude.{Option, Some, None, option_map, unwrap_or, is_some, Result, Ok, Err}
use Rattle.byteorder.specs.Endian.{little_number}
use Rattle.cip_message.specs.declared.path.Path.{Path}
use Rattle.cip_message.specs.declared.path.PathFault.{PathFault}
use Rattle.cip_message.specs.declared.request.RequestFault.{RequestFault}
use Rattle.cip_bytes.specs.Numbers.{AreBytes}
use Rattle.cip_message.specs.PathReading.{path_of}
use Rattle.cip_message.specs.Request.{Request, request_of}
use Rattle.cip_objects.specs.Contents.{Contents, udint_at}
use Rattle.cip_objects.specs.Execution.{run, Ran}
use Rattle.cip_message.specs.Router.{general_status}
use Rattle.cip_bytes.specs.declared.protocol.TheConstants.{COUNTER}

abbrev pub value_of : Contents → ℕ
value_of m = udint_at m COUNTER 1 1

abbrev pub limit_of : Contents → ℕ
limit_of m = udint_at m COUNTER 1 2

abbrev pub additions_of : Contents → ℕ
additions_of m = udint_at m COUNTER 1 3

-- There is a counter, its value is not over the limit, and its numbers have 32 bits.
pub record IsCounter (m : Contents) : Type 0 where
  pub there : m.shapes.has_counter ≡ true
  pub within : value_of m ≤ limit_of m
  pub limit : limit_of m < 2 ^ 32
  pub additions : additions_of m < 2 ^ 32

abbrev pub is_counter : Result Path PathFault → Bool
is_counter (Ok p) = (p.class == COUNTER) && (p.instance == 1)
is_counter (Err f) = false

-- The data of a request of this service to the counter.
abbrev pub to_counter : ℕ → Result Request RequestFault → Option (List ℕ)
to_counter code (Ok q) = if (q.service == code) && is_counter (path_of q.path) then Some q.data else None
to_counter code (Err f) = None

-- The number that a request added: it was an Add, and its reply says success.
abbrev pub addition : List ℕ → List ℕ → Option ℕ
addition request reply =
    if general_status reply == 0 then option_map (little_number 4) (to_counter 0x32 (request_of request)) else None

-- The request cleared the counter.
abbrev pub is_clearing : List ℕ → List ℕ → Bool
is_clearing request reply = (general_status reply == 0) && is_some (to_counter 0x33 (request_of request))

-- The sum after this request had this reply.
abbrev pub sum_after : ℕ → List ℕ → List ℕ → ℕ
sum_after sum request reply = if is_clearing request reply then 0 else sum + unwrap_or (addition request reply) 0

-- The sum of the additions since the last Clear, starting from a sum.
abbrev pub sum_since_cleared : ℕ → List (ℕ × List ℕ) → List (List ℕ) → ℕ
sum_since_cleared sum [] replies = sum
sum_since_cleared sum (r ∷ requests) [] = sum
sum_since_cleared sum (r ∷ requests) (reply ∷ replies) = sum_since_cleared (sum_after sum r.1 reply) requests replies

-- How many requests added to the counter.
abbrev pub number_of_additions : List (ℕ × List ℕ) → List (List ℕ) → ℕ
number_of_additions [] replies = 0
number_of_additions (r ∷ requests) [] = 0
number_of_additions (r ∷ requests) (reply ∷ replies) =
    (if is_some (addition r.1 reply) then 1 else 0) + number_of_additions requests replies

abbrev pub AllBytes : List (ℕ × List ℕ) → Type 0
AllBytes [] = Unit {0}
AllBytes (r ∷ requests) = AreBytes r.1 × AllBytes requests

-- The counter after these requests, from contents m.
pub record Counts (m : Contents) (requests : List (ℕ × List ℕ)) (ran : Ran) : Type 0 where
  pub value : value_of ran.after ≡ sum_since_cleared (value_of m) requests ran.answers
  pub within : value_of ran.after ≤ limit_of ran.after
  pub additions : additions_of ran.after ≡ (additions_of m + number_of_additions requests ran.answers) % 2 ^ 32

-- For every list of requests, the counter's value is the sum of the additions since the last Clear, and never over
-- its limit. Its additions count those that were accepted, modulo 2^32.
abbrev pub counter_law : Type 0
counter_law = (m : Contents) (requests : List (ℕ × List ℕ)) → IsCounter m → AllBytes requests
    → Counts m requests (run m requests)
