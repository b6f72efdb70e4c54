-- What holds of every execution through the Message Router: the laws of the trait `Router` for the objects with packets.
use Rattle.std.specs.Prelude.{◌≡◌, ℕ, ◌+◌, ◌-◌, ◌*◌, ◌≤◌, Bool, true, false, cond, nat_lt, List, [], ◌∷◌, ◌++◌, length}
use Rattle.std.specs.Prelude.{Option, Some, None, Result, Ok, Err, refl, ◌⊎◌, if◌then◌else◌}
use Rattle.std.specs.List.{flat_map}
use Rattle.std.proofs.Common.{inl, inr, ap, sym, ◌∙◌, arith, length-append}
use Rattle.std.proofs.lemmas.Bool.Decides.{nat_tests}
use Rattle.cip_bytes.specs.Reading.{◌>>=◌}
use Rattle.cip_objects.specs.declared.status.Refusal.{Refusal}
use Rattle.cip_objects.specs.declared.status.Refusal.TheVariants.{ReplyDataTooLarge}
use Rattle.cip_objects.specs.Contents.{Contents}
use Rattle.cip_objects.specs.Execution.{Executed, Ran, exec, run, or_refusal}
use Rattle.cip_objects.specs.ExecutionLaws.{exec_too_large, exec_begins, exec_within}
use Rattle.cip_objects.specs.Packets.{LEAST_ROOM, run_packet, offsets_from, numbers_size, any_refused, status_of}
use Rattle.cip_objects.specs.Packets.{packet_reply, front_size, run_within, requests_of, exec_packet, has_router}
use Rattle.cip_objects.specs.Packets.{packet_of, routed_by, exec_routed}
use Rattle.cip_message.specs.Router.{general_status, IsReplyTo, REPLY_TOO_LARGE}

-- ---- a packet is its requests, one after another

-- The requests of a packet, each with the room of its reply.
abbrev pub with_rooms : Contents → ℕ → List (List ℕ) → List (ℕ × List ℕ)
with_rooms m room [] = []
with_rooms m room (request ∷ requests) =
    let now = exec m (room - LEAST_ROOM * length requests) request in
    (room - LEAST_ROOM * length requests, request) ∷ with_rooms now.after (room - length now.answer) requests

-- The machine after a packet is the machine after its requests, executed one after another, and its replies are theirs.
abbrev pub packet_law : Type 0
packet_law =
    (m : Contents) (room : ℕ) (requests : List (List ℕ))
    → run_packet m room requests ≡ run m (with_rooms m room requests)

same_ran : {m n : Contents} {a : List ℕ} {r s : List (List ℕ)} → m ≡ n → r ≡ s
    → ◌≡◌ {A = Ran} (record { after = m; answers = a ∷ r }) (record { after = n; answers = a ∷ s })
same_ran p q = cc

pub packet_is_run : packet_law
packet_is_run m room [] = refl
packet_is_run m room (request ∷ requests) =
    let now = exec m (room - LEAST_ROOM * length requests) request in
    let later = packet_is_run now.after (room - length now.answer) requests in
    same_ran (ap (λ r. r.after) later) (ap (λ r. r.answers) later)

-- ---- sizes

pub answers_counted : (m : Contents) (room : ℕ) (requests : List (List ℕ))
    → length (run_packet m room requests).answers ≡ length requests
answers_counted m room [] = refl
answers_counted m room (request ∷ requests) =
    let now = exec m (room - LEAST_ROOM * length requests) request in
    let later = answers_counted now.after (room - length now.answer) requests in omega (arith, later)

pub answers_fit : (m : Contents) (room : ℕ) (requests : List (List ℕ)) → LEAST_ROOM * length requests ≤ room
    → length (flat_map (λ answer. answer) (run_packet m room requests).answers) ≤ room
answers_fit m room [] h = omega (arith, h)
answers_fit m room (request ∷ requests) h =
    let now = exec m (room - LEAST_ROOM * length requests) request in
    let first : length now.answer ≤ room - LEAST_ROOM * length requests =
    exec_within m (room - LEAST_ROOM * length requests) request (omega (arith, h)) in
    let left : LEAST_ROOM * length requests ≤ room - length now.answer = omega (arith, h, first) in
    let later = answers_fit now.after (room - length now.answer) requests left in
    let answers = (run_packet now.after (room - length now.answer) requests).answers in
    omega (arith, first, later, h, length-append now.answer (flat_map (λ answer. answer) answers))

pub offsets_counted : (start : ℕ) (answers : List (List ℕ)) → length (offsets_from start answers) ≡ 2 * length answers
offsets_counted start [] = refl
offsets_counted start (answer ∷ answers) =
    let later = offsets_counted (start + length answer) answers in omega (arith, later)

-- The bytes of the reply to a packet.
pub packet_reply_size : (text : List ℕ) (answers : List (List ℕ))
    → length (packet_reply text answers) ≡ front_size (length answers) + length (flat_map (λ answer. answer) answers)
packet_reply_size text answers =
    let offsets = offsets_from (numbers_size (length answers)) answers in
    let replies = flat_map (λ answer. answer) answers in
    omega (arith, offsets_counted (numbers_size (length answers)) answers, length-append offsets replies)

reply_fits : (m : Contents) (max_size : ℕ) (text : List ℕ) (requests : List (List ℕ))
    → front_size (length requests) + LEAST_ROOM * length requests ≤ max_size
    → length (packet_reply text (run_packet m (max_size - front_size (length requests)) requests).answers) ≤ max_size
reply_fits m max_size text requests h =
    let room = max_size - front_size (length requests) in
    let answers = (run_packet m room requests).answers in
    let size = packet_reply_size text answers in
    let count : length answers ≡ length requests = answers_counted m room requests in
    let fit : length (flat_map (λ answer. answer) answers) ≤ room = answers_fit m room requests (omega (arith, h)) in
    omega (arith, size, count, fit, h)

-- ---- the laws of a router, for a packet

not_too_large : (refused : Bool) → status_of refused ≡ REPLY_TOO_LARGE → ⊥
not_too_large true e = omega (arith, e)
not_too_large false e = omega (arith, e)

-- What becomes of a packet, whether it has room or not.
abbrev pub run_by : Bool → Contents → ℕ → List ℕ → List (List ℕ) → Result Executed Refusal
run_by short m max_size text requests =
    let ran = run_packet m (max_size - front_size (length requests)) requests in
    cond short (Err ReplyDataTooLarge) (Ok (record { after = ran.after; answer = packet_reply text ran.answers }))

too_large_by : (short : Bool) (m : Contents) (max_size : ℕ) (text : List ℕ) (requests : List (List ℕ))
    → general_status (or_refusal m text (run_by short m max_size text requests)).answer ≡ REPLY_TOO_LARGE
    → (or_refusal m text (run_by short m max_size text requests)).after ≡ m
too_large_by true m max_size text requests e = refl
too_large_by false m max_size text requests e =
    absurd (not_too_large (any_refused (run_packet m (max_size - front_size (length requests)) requests).answers) e)

too_large_of : (m : Contents) (max_size : ℕ) (text : List ℕ) (r : Result (List (List ℕ)) Refusal)
    → general_status (or_refusal m text (r >>= run_within m max_size text)).answer ≡ REPLY_TOO_LARGE
    → (or_refusal m text (r >>= run_within m max_size text)).after ≡ m
too_large_of m max_size text (Err s) e = refl
too_large_of m max_size text (Ok requests) e =
    too_large_by (nat_lt max_size (front_size (length requests) + LEAST_ROOM * length requests)) m max_size text requests e

begins_by : (short : Bool) (m : Contents) (max_size : ℕ) (text : List ℕ) (requests : List (List ℕ))
    → IsReplyTo text (or_refusal m text (run_by short m max_size text requests)).answer
begins_by true m max_size text requests = record { head = omega arith; service = refl }
begins_by false m max_size text requests = record { head = omega arith; service = refl }

begins_of : (m : Contents) (max_size : ℕ) (text : List ℕ) (r : Result (List (List ℕ)) Refusal)
    → IsReplyTo text (or_refusal m text (r >>= run_within m max_size text)).answer
begins_of m max_size text (Err s) = record { head = omega arith; service = refl }
begins_of m max_size text (Ok requests) =
    begins_by (nat_lt max_size (front_size (length requests) + LEAST_ROOM * length requests)) m max_size text requests

within_by : (short : Bool) (m : Contents) (max_size : ℕ) (text : List ℕ) (requests : List (List ℕ)) → 8 ≤ max_size
    → nat_lt max_size (front_size (length requests) + LEAST_ROOM * length requests) ≡ short
    → length (or_refusal m text (run_by short m max_size text requests)).answer ≤ max_size
within_by true m max_size text requests h e = omega (arith, h)
within_by false m max_size text requests h e =
    let enough : front_size (length requests) + LEAST_ROOM * length requests ≤ max_size = grind (arith, nat_tests) in
    reply_fits m max_size text requests enough

within_of : (m : Contents) (max_size : ℕ) (text : List ℕ) (r : Result (List (List ℕ)) Refusal) → 8 ≤ max_size
    → length (or_refusal m text (r >>= run_within m max_size text)).answer ≤ max_size
within_of m max_size text (Err s) h = omega (arith, h)
within_of m max_size text (Ok requests) h =
    within_by (nat_lt max_size (front_size (length requests) + LEAST_ROOM * length requests)) m max_size text requests h refl

-- ---- the laws of a router, for every request

-- A request that is executed as a packet, if the device has the Message Router.
abbrev pub routed_if : Bool → Contents → ℕ → List ℕ → List ℕ → Executed
routed_if router m max_size text content =
    cond {A = Executed} router (exec_packet m max_size text content) (exec m max_size text)

routed_too_large : (m : Contents) (max_size : ℕ) (text : List ℕ) (packet : Option (List ℕ))
    → general_status (routed_by m max_size text packet).answer ≡ REPLY_TOO_LARGE
    → (routed_by m max_size text packet).after ≡ m
routed_too_large m max_size text None e = exec_too_large m max_size text e
routed_too_large m max_size text (Some content) e = go (has_router m.shapes) e
  where
    go : (router : Bool) → general_status (routed_if router m max_size text content).answer ≡ REPLY_TOO_LARGE
        → (routed_if router m max_size text content).after ≡ m
    go true e = too_large_of m max_size text (requests_of content) e
    go false e = exec_too_large m max_size text e

routed_begins : (m : Contents) (max_size : ℕ) (text : List ℕ) (packet : Option (List ℕ))
    → IsReplyTo text (routed_by m max_size text packet).answer
routed_begins m max_size text None = exec_begins m max_size text
routed_begins m max_size text (Some content) = go (has_router m.shapes)
  where
    go : (router : Bool) → IsReplyTo text (routed_if router m max_size text content).answer
    go true = begins_of m max_size text (requests_of content)
    go false = exec_begins m max_size text

routed_within : (m : Contents) (max_size : ℕ) (text : List ℕ) (packet : Option (List ℕ)) → 8 ≤ max_size
    → length (routed_by m max_size text packet).answer ≤ max_size
routed_within m max_size text None h = exec_within m max_size text h
routed_within m max_size text (Some content) h = go (has_router m.shapes)
  where
    go : (router : Bool) → length (routed_if router m max_size text content).answer ≤ max_size
    go true = within_of m max_size text (requests_of content) h
    go false = exec_within m max_size text h

-- If a reply is too large, the contents are unchanged.
pub exec_routed_too_large : (m : Contents) (max_size : ℕ) (text : List ℕ)
    → general_status (exec_routed m max_size text).answer ≡ REPLY_TOO_LARGE → (exec_routed m max_size text).after ≡ m
unfolding exec_routed
exec_routed_too_large m max_size text e = routed_too_large m max_size text (packet_of text) e

-- Each reply has a head, and answers the service of the request.
pub exec_routed_begins : (m : Contents) (max_size : ℕ) (text : List ℕ)
    → IsReplyTo text (exec_routed m max_size text).answer
unfolding exec_routed
exec_routed_begins m max_size text = routed_begins m max_size text (packet_of text)

-- Each reply has at most `max_size` bytes.
pub exec_routed_within : (m : Contents) (max_size : ℕ) (text : List ℕ) → 8 ≤ max_size
    → length (exec_routed m max_size text).answer ≤ max_size
unfolding exec_routed
exec_routed_within m max_size text h = routed_within m max_size text (packet_of text) h

-- ---- which requests are no packets, and what packets keep

-- Every other request is executed as it is.
pub exec_routed_plain : (m : Contents) (max_size : ℕ) (text : List ℕ) → packet_of text ≡ None
    → exec_routed m max_size text ≡ exec m max_size text
unfolding exec_routed
exec_routed_plain m max_size text e = ap (routed_by m max_size text) e

pub without_router : (m : Contents) (max_size : ℕ) (text : List ℕ) → has_router m.shapes ≡ false
    → exec_routed m max_size text ≡ exec m max_size text
unfolding exec_routed
without_router m max_size text e = by (packet_of text)
  where
    by : (packet : Option (List ℕ)) → routed_by m max_size text packet ≡ exec m max_size text
    by None = refl
    by (Some content) = ap (λ router. routed_if router m max_size text content) e

run_keeps : {P : Contents → Type 0}
    → ((m : Contents) (max_size : ℕ) (text : List ℕ) → P m → P (exec m max_size text).after)
    → (m : Contents) (room : ℕ) (requests : List (List ℕ)) → P m → P (run_packet m room requests).after
run_keeps keeps m room [] h = h
run_keeps keeps m room (request ∷ requests) h =
    let now = exec m (room - LEAST_ROOM * length requests) request in
    run_keeps keeps now.after (room - length now.answer) requests
    (keeps m (room - LEAST_ROOM * length requests) request h)

packet_keeps : {P : Contents → Type 0}
    → ((m : Contents) (max_size : ℕ) (text : List ℕ) → P m → P (exec m max_size text).after)
    → (m : Contents) (max_size : ℕ) (text : List ℕ) (r : Result (List (List ℕ)) Refusal) → P m
    → P (or_refusal m text (r >>= run_within m max_size text)).after
packet_keeps keeps m max_size text (Err s) h = h
packet_keeps {P} keeps m max_size text (Ok requests) h =
    by (nat_lt max_size (front_size (length requests) + LEAST_ROOM * length requests))
  where
    by : (short : Bool) → P (or_refusal m text (run_by short m max_size text requests)).after
    by true = h
    by false = run_keeps keeps m (max_size - front_size (length requests)) requests h

routed_keeps : {P : Contents → Type 0}
    → ((m : Contents) (max_size : ℕ) (text : List ℕ) → P m → P (exec m max_size text).after)
    → (m : Contents) (max_size : ℕ) (text : List ℕ) (packet : Option (List ℕ)) → P m
    → P (routed_by m max_size text packet).after
routed_keeps keeps m max_size text None h = keeps m max_size text h
routed_keeps {P} keeps m max_size text (Some content) h = by (has_router m.shapes)
  where
    by : (router : Bool) → P (routed_if router m max_size text content).after
    by true = packet_keeps keeps m max_size text (requests_of content) h
    by false = keeps m max_size text h

-- What every request keeps, a packet keeps too.
pub exec_routed_keeps : {P : Contents → Type 0}
    → ((m : Contents) (max_size : ℕ) (text : List ℕ) → P m → P (exec m max_size text).after)
    → (m : Contents) (max_size : ℕ) (text : List ℕ) → P m → P (exec_routed m max_size text).after
unfolding exec_routed
exec_routed_keeps keeps m max_size text h = routed_keeps keeps m max_size text (packet_of text) h

-- ---- packets amount to requests

abbrev pub run_singles : Bool → Contents → ℕ → List (List ℕ) → List (ℕ × List ℕ)
run_singles short m max_size requests =
    if short then [] else with_rooms m (max_size - front_size (length requests)) requests

abbrev pub packet_singles : Contents → ℕ → Result (List (List ℕ)) Refusal → List (ℕ × List ℕ)
packet_singles m max_size (Err refusal) = []
packet_singles m max_size (Ok requests) =
    run_singles (nat_lt max_size (front_size (length requests) + LEAST_ROOM * length requests)) m max_size requests

abbrev pub singles_if : Bool → Contents → ℕ → List ℕ → List ℕ → List (ℕ × List ℕ)
singles_if router m max_size text content =
    if router then packet_singles m max_size (requests_of content) else (max_size, text) ∷ []

abbrev pub singles_by : Contents → ℕ → List ℕ → Option (List ℕ) → List (ℕ × List ℕ)
singles_by m max_size text None = (max_size, text) ∷ []
singles_by m max_size text (Some content) = singles_if (has_router m.shapes) m max_size text content

-- The single requests that a request executes: those of a packet, or it alone.
abbrev pub singles_of : Contents → ℕ → List ℕ → List (ℕ × List ℕ)
singles_of m max_size text = singles_by m max_size text (packet_of text)

-- The contents after these requests, packets among them.
abbrev pub after_routed : Contents → List (ℕ × List ℕ) → Contents
after_routed m [] = m
after_routed m (request ∷ requests) = after_routed (exec_routed m request.0 request.1).after requests

abbrev pub all_singles : Contents → List (ℕ × List ℕ) → List (ℕ × List ℕ)
all_singles m [] = []
all_singles m (request ∷ requests) =
    singles_of m request.0 request.1 ++ all_singles (exec_routed m request.0 request.1).after requests

-- Whatever requests are executed, packets among them: the machine is the one after single requests, one after another.
-- So what holds over every run of requests holds with packets among them.
abbrev pub singles_law : Type 0
singles_law =
    (m : Contents) (requests : List (ℕ × List ℕ)) → after_routed m requests ≡ (run m (all_singles m requests)).after

run_joined : (m : Contents) (xs ys : List (ℕ × List ℕ)) → (run m (xs ++ ys)).after ≡ (run (run m xs).after ys).after
run_joined m [] ys = refl
run_joined m (x ∷ xs) ys = run_joined (exec m x.0 x.1).after xs ys

one_packet : (m : Contents) (max_size : ℕ) (text : List ℕ) (r : Result (List (List ℕ)) Refusal)
    → (or_refusal m text (r >>= run_within m max_size text)).after ≡ (run m (packet_singles m max_size r)).after
one_packet m max_size text (Err s) = refl
one_packet m max_size text (Ok requests) =
    by (nat_lt max_size (front_size (length requests) + LEAST_ROOM * length requests))
  where
    by : (short : Bool) → (or_refusal m text (run_by short m max_size text requests)).after
        ≡ (run m (run_singles short m max_size requests)).after
    by true = refl
    by false = ap (λ r. r.after) (packet_is_run m (max_size - front_size (length requests)) requests)

one_routed : (m : Contents) (max_size : ℕ) (text : List ℕ)
    → (exec_routed m max_size text).after ≡ (run m (singles_of m max_size text)).after
unfolding exec_routed
one_routed m max_size text = by (packet_of text)
  where
    by_router : (content : List ℕ) (router : Bool) → (routed_if router m max_size text content).after
        ≡ (run m (singles_if router m max_size text content)).after
    by_router content true = one_packet m max_size text (requests_of content)
    by_router content false = refl

    by : (packet : Option (List ℕ)) → (routed_by m max_size text packet).after
        ≡ (run m (singles_by m max_size text packet)).after
    by None = refl
    by (Some content) = by_router content (has_router m.shapes)

pub routed_is_run : singles_law
routed_is_run m [] = refl
routed_is_run m (request ∷ requests) =
    let now = (exec_routed m request.0 request.1).after in
    let first = singles_of m request.0 request.1 in
    routed_is_run now requests
    ∙ ap (λ n. (run n (all_singles now requests)).after) (one_routed m request.0 request.1)
    ∙ sym (run_joined m first (all_singles now requests))

-- ---- refusals

-- None of the statuses of requests that were executed: success, attribute list error, embedded service error.
abbrev pub IsRefusal : ℕ → Type 0
IsRefusal status = (status ≡ 0x00 → ⊥) × (status ≡ 0x0a → ⊥) × (status ≡ 0x1e → ⊥)

-- A refused request changes nothing, a packet included.
abbrev pub routed_refused_law : Type 0
routed_refused_law =
    (m : Contents) (max_size : ℕ) (text : List ℕ) → IsRefusal (general_status (exec_routed m max_size text).answer)
    → (exec_routed m max_size text).after ≡ m

-- Every request but a packet is executed as it is, and a packet too if the device does not have the Message Router.
abbrev pub others_law : Type 0
others_law =
    (m : Contents) (max_size : ℕ) (text : List ℕ) → (packet_of text ≡ None) ⊎ (has_router m.shapes ≡ false)
    → exec_routed m max_size text ≡ exec m max_size text

pub others_plain : others_law
others_plain m max_size text (inl e) = exec_routed_plain m max_size text e
others_plain m max_size text (inr e) = without_router m max_size text e
