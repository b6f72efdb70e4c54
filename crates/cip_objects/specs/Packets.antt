-- Multiple_Service_Packet: several requests in one (Volume 1, Message Router object).
use Rattle.std.specs.Prelude.{ℕ, ◌+◌, ◌-◌, ◌*◌, ◌≤◌, ◌==◌, ◌&&◌, ◌||◌, nat_le, nat_lt, not, Bool, true, false, if◌then◌else◌}
use Rattle.std.specs.Prelude.{List, [], ◌∷◌, ◌++◌, length, take, drop, slice_index, Option, Some, None, is_some}
use Rattle.std.specs.Prelude.{Result, Ok, Err}
use Rattle.std.specs.List.{flat_map, AllByRecursion}
use Rattle.byteorder.specs.Endian.{little_number}
use Rattle.cip_bytes.specs.Numbers.{le, words_of}
use Rattle.cip_bytes.specs.Reading.{◌>>=◌, ◌>>◌}
use Rattle.cip_bytes.specs.declared.protocol.TheConstants.{MESSAGE_ROUTER}
use Rattle.cip_message.specs.declared.path.Path.{Path}
use Rattle.cip_message.specs.declared.path.PathFault.{PathFault}
use Rattle.cip_message.specs.declared.request.RequestFault.{RequestFault}
use Rattle.cip_message.specs.PathReading.{path_of}
use Rattle.cip_message.specs.Reply.{reply, reply_of_fields, reply_service}
use Rattle.cip_message.specs.Request.{Request, request_of}
use Rattle.cip_objects.specs.declared.packet.TheConstants.{MULTIPLE_SERVICE_PACKET}
use Rattle.cip_objects.specs.declared.packet_replies.TheConstants.{EMBEDDED_SERVICE_ERROR}
use Rattle.cip_objects.specs.declared.status.Refusal.{Refusal}
use Rattle.cip_objects.specs.declared.status.Refusal.TheVariants.{NotEnoughData, TooMuchData, ReplyDataTooLarge}
use Rattle.cip_objects.specs.Check.{demand}
use Rattle.cip_objects.specs.Contents.{Contents}
use Rattle.cip_objects.specs.Execution.{Executed, Ran, exec, or_refusal}
use Rattle.cip_message.specs.Router.{general_status}
use Rattle.cip_objects.specs.Tables.{Shapes, services_of}

-- ---- which requests are packets

-- The path leads to the instance of the Message Router. An attribute or a member that it names is not looked at.
abbrev pub is_path_to_router : Path → Bool
is_path_to_router path = (path.class == MESSAGE_ROUTER) && (path.instance == 1)

abbrev pub packet_by_path : Request → Result Path PathFault → Option (List ℕ)
packet_by_path request (Err fault) = None
packet_by_path request (Ok path) = if is_path_to_router path then Some request.data else None

abbrev pub packet_by_request : Result Request RequestFault → Option (List ℕ)
packet_by_request (Err fault) = None
packet_by_request (Ok request) =
    if request.service == MULTIPLE_SERVICE_PACKET then packet_by_path request (path_of request.path) else None

-- The data of a packet. None for any other request.
unfoldable pub packet_of : List ℕ → Option (List ℕ)
packet_of text = packet_by_request (request_of text)

-- ---- the requests of a packet

-- Where a request ends: where the first of the offsets behind its own leads, or at the end of the data.
abbrev pub end_at : List ℕ → List ℕ → ℕ
end_at content [] = length content
end_at content (next ∷ offsets) = next

-- Whether each request has two bytes at least: its service, and the size of its path.
abbrev pub are_in_order : List ℕ → List ℕ → Bool
are_in_order content [] = true
are_in_order content (from ∷ offsets) = nat_le (from + 2) (end_at content offsets) && are_in_order content offsets

-- A request from one offset up to another.
abbrev pub request_at : List ℕ → ℕ → ℕ → Option (List ℕ)
request_at content from to =
    if nat_lt to (from + 2) || nat_lt (length content) to then None else Some (take (to - from) (drop from content))

abbrev pub in_front : Option (List ℕ) → List (List ℕ) → List (List ℕ)
in_front None requests = []
in_front (Some request) requests = request ∷ requests

-- The requests at these offsets, as far as they are whole.
abbrev pub requests_at : List ℕ → List ℕ → List (List ℕ)
requests_at content [] = []
requests_at content (from ∷ offsets) =
    in_front (request_at content from (end_at content offsets)) (requests_at content offsets)

-- Each request has two bytes at least.
abbrev pub AreLong : List (List ℕ) → Type 0
AreLong requests = AllByRecursion (λ request. 2 ≤ length request) requests

-- The first request begins right behind the offsets.
abbrev pub check_begin : ℕ → ℕ → Result (Unit {0}) Refusal
check_begin behind begin =
    if nat_lt begin behind then Err NotEnoughData else (if nat_lt behind begin then Err TooMuchData else Ok tt)

abbrev pub check_requests : List ℕ → List ℕ → ℕ → Result (Unit {0}) Refusal
check_requests content offsets behind = do
  check_begin behind (end_at content offsets)
  demand (are_in_order content offsets) NotEnoughData

-- The bytes of the count and of so many offsets.
abbrev pub numbers_size : ℕ → ℕ
numbers_size count = 2 + 2 * count

-- The offsets, two bytes each, behind the count.
abbrev pub offsets_in : List ℕ → List ℕ
offsets_in content = words_of (take (2 * little_number 2 content) (drop 2 content))

-- The requests of a packet with these data: a count, that many offsets from the count on, and the requests, one behind
-- another, each up to the next one's offset and the last up to the end. The first check that fails decides.
unfoldable pub requests_of : List ℕ → Result (List (List ℕ)) Refusal
requests_of content = do
  demand (nat_le 2 (length content)) NotEnoughData
  demand (nat_le (numbers_size (little_number 2 content)) (length content)) NotEnoughData
  check_requests content (offsets_in content) (numbers_size (little_number 2 content))
  Ok (requests_at content (offsets_in content))

-- ---- execution

-- The least room of each reply.
abbrev pub LEAST_ROOM : ℕ
LEAST_ROOM = 8

-- Executes these requests one after another, whose replies have this room together. A reply has what room those before
-- it left, except for the least room of each one behind it.
abbrev pub run_packet : Contents → ℕ → List (List ℕ) → Ran
run_packet m room [] = record { after = m; answers = [] }
run_packet m room (request ∷ requests) =
    let now = exec m (room - LEAST_ROOM * length requests) request in
    let later = run_packet now.after (room - length now.answer) requests in
    record { after = later.after; answers = now.answer ∷ later.answers }

-- The offset of each reply, the first of which begins here.
abbrev pub offsets_from : ℕ → List (List ℕ) → List ℕ
offsets_from start [] = []
offsets_from start (answer ∷ answers) = le 2 start ++ offsets_from (start + length answer) answers

-- The replies in the form of the requests: a count, the offsets from the count on, and the replies.
abbrev pub packet_content : List (List ℕ) → List ℕ
packet_content answers =
    le 2 (length answers) ++ (offsets_from (numbers_size (length answers)) answers ++ flat_map (λ answer. answer) answers)

-- Whether a status other than success is among them.
abbrev pub any_refused : List (List ℕ) → Bool
any_refused [] = false
any_refused (answer ∷ answers) = not (general_status answer == 0) || any_refused answers

-- The general status of the whole: embedded service error if one of the requests was refused.
abbrev pub status_of : Bool → ℕ
status_of refused = if refused then EMBEDDED_SERVICE_ERROR else 0

-- The whole reply.
abbrev pub packet_reply : List ℕ → List (List ℕ) → List ℕ
packet_reply text answers =
    reply (reply_of_fields (reply_service (slice_index text 0)) (status_of (any_refused answers)) []
    (packet_content answers))

-- The bytes in front of the replies to so many requests: the head with four bytes, the count, and the offsets.
abbrev pub front_size : ℕ → ℕ
front_size count = 6 + 2 * count

-- The requests are executed if the whole reply has room for the least reply to each. Else none is.
abbrev pub run_within : Contents → ℕ → List ℕ → List (List ℕ) → Result Executed Refusal
run_within m max_size text requests =
    let count = length requests in
    if nat_lt max_size (front_size count + LEAST_ROOM * count) then Err ReplyDataTooLarge
    else (let ran = run_packet m (max_size - front_size count) requests in
    Ok (record { after = ran.after; answer = packet_reply text ran.answers }))

-- A packet that is refused changes nothing.
abbrev pub exec_packet : Contents → ℕ → List ℕ → List ℕ → Executed
exec_packet m max_size text content = or_refusal m text (requests_of content >>= run_within m max_size text)

-- The device has the Message Router.
abbrev pub has_router : Shapes → Bool
has_router shapes = is_some (services_of shapes MESSAGE_ROUTER 1)

abbrev pub routed_by : Contents → ℕ → List ℕ → Option (List ℕ) → Executed
routed_by m max_size text None = exec m max_size text
routed_by m max_size text (Some content) =
    if has_router m.shapes then exec_packet m max_size text content else exec m max_size text

-- Executes a request whose reply may have `max_size` bytes: the requests of a packet one after another, if the device
-- has the Message Router, and every other one as it is.
unfoldable pub exec_routed : Contents → ℕ → List ℕ → Executed
exec_routed m max_size text = routed_by m max_size text (packet_of text)
