-- Which requests are packets, and what a refused packet leaves.
use Rattle.std.proofs.Common.{◌≡◌, ℕ, ◌+◌, ◌-◌, ◌*◌, ◌≤◌, Bool, true, false, cond, eqb, ◌||◌, nat_lt, Option, Some, None, Result, Ok, Err, List, [], ◌∷◌, take, drop, length, slice_index, refl, ap, sym, subst, ◌∙◌, ◌⊎◌, arith}
use Rattle.std.proofs.lemmas.Bool.{eqb-true}
use Rattle.std.proofs.lemmas.Bool.Decides.{nat_tests}
use Rattle.std.proofs.lemmas.List.{length-take, length-drop}
use Rattle.cip_bytes.specs.Reading.{◌>>=◌}
use Rattle.cip_message.specs.declared.path.Path.{Path}
use Rattle.cip_message.specs.declared.request.RequestFault.{RequestFault}
use Rattle.cip_message.specs.declared.request.RequestFault.TheVariants.{PathSize}
use Rattle.cip_message.specs.PathReading.{path_of}
use Rattle.cip_message.specs.Request.{Request, request_of}
use Rattle.cip_objects.specs.declared.status.Refusal.{Refusal}
use Rattle.cip_objects.specs.Contents.{Contents}
use Rattle.cip_objects.specs.Execution.{or_refusal}
use Rattle.cip_objects.specs.OwnRequests.{own_request, is_own_service}
use Rattle.cip_objects.specs.PacketLaws.{run_by, routed_if, exec_routed_plain, IsRefusal, routed_refused_law}
use Rattle.cip_bytes.specs.Numbers.{words_of}
use Rattle.cip_objects.specs.Packets.{AreLong, in_front, request_at, requests_at, end_at, LEAST_ROOM, is_path_to_router, packet_by_path, packet_by_request, packet_of, any_refused, front_size, run_packet, run_within, requests_of, has_router, routed_by, exec_routed}
use Rattle.cip_message.specs.Router.{general_status}
use Rattle.cip_objects.proofs.OwnRequests.{own_is_refused, other_request}
use Rattle.cip_objects.proofs.Refused.{refused}

-- ---- requests that are no packets

pub other_service : (text : List ℕ) (q : Request) → request_of text ≡ Ok q → eqb q.service 0x0a ≡ false
    → packet_of text ≡ None
unfolding packet_of
other_service text q e f =
    ap packet_by_request e ∙ ap (λ t. cond t (packet_by_path q (path_of q.path)) None) f

-- The service of a request is its first byte.
pub other_first : (text : List ℕ) → eqb (slice_index text 0) 0x0a ≡ false → packet_of text ≡ None
unfolding packet_of request_of
other_first [] e = refl
other_first (service ∷ []) e = refl
other_first (service ∷ words ∷ rest) e = by (nat_lt (length rest) (2 * words))
  where
    by : (short : Bool) → packet_by_request (cond {A = Result Request RequestFault} short (Err PathSize)
        (Ok (record { service = service; path = take (2 * words) rest; «data» = drop (2 * words) rest }))) ≡ None
    by true = refl
    by false = ap (λ t. cond t (packet_by_path (record { service = service; path = take (2 * words) rest; «data» = drop (2 * words) rest })
        (path_of (take (2 * words) rest))) None) e

neither : {A : Type 0} (t : Bool) → cond {A = Option A} t None None ≡ None
neither true = refl
neither false = refl

pub other_path : (text : List ℕ) (q : Request) (p : Path) → request_of text ≡ Ok q → path_of q.path ≡ Ok p
    → is_path_to_router p ≡ false → packet_of text ≡ None
unfolding packet_of
other_path text q p e f g =
    ap packet_by_request e
    ∙ ap (λ r. cond (eqb q.service 0x0a) (packet_by_path q r) None) f
    ∙ ap (λ t. cond (eqb q.service 0x0a) (cond t (Some q.data) None) None) g
    ∙ neither (eqb q.service 0x0a)

unread : (text : List ℕ) (fault : RequestFault) → request_of text ≡ Err fault → packet_of text ≡ None
unfolding packet_of
unread text fault e = ap packet_by_request e

-- A packet is no request to the owner.
pub own_is_no_packet : (m : Contents) (text : List ℕ) → (own_request m text ≡ None → ⊥) → packet_of text ≡ None
own_is_no_packet m text own = by (request_of text) refl
  where
    by_service : (q : Request) (t : Bool) → request_of text ≡ Ok q → eqb q.service 0x0a ≡ t → packet_of text ≡ None
    by_service q false e f = other_service text q e f
    by_service q true e f =
        absurd (own (other_request m text q e (ap (λ n. eqb n 0x10 || is_own_service n) (eqb-true q.service 0x0a f))))

    by : (r : Result Request RequestFault) → request_of text ≡ r → packet_of text ≡ None
    by (Err fault) e = unread text fault e
    by (Ok q) e = by_service q (eqb q.service 0x0a) e refl

-- The objects refuse each request to the owner, as such a request is no packet.
pub own_routed : (m : Contents) (max_size : ℕ) (text : List ℕ) → (own_request m text ≡ None → ⊥)
    → ((general_status (exec_routed m max_size text).answer ≡ 0x08) ⊎ (general_status (exec_routed m max_size text).answer ≡ 0x0e))
    × ((exec_routed m max_size text).after ≡ m)
own_routed m max_size text own =
    subst (λ x. ((general_status x.answer ≡ 0x08) ⊎ (general_status x.answer ≡ 0x0e)) × (x.after ≡ m))
    (sym (exec_routed_plain m max_size text (own_is_no_packet m text own)))
    (own_is_refused m max_size text own)

-- ---- a refusal changes nothing

refused_packet : (m : Contents) (max_size : ℕ) (text : List ℕ) (r : Result (List (List ℕ)) Refusal)
    → IsRefusal (general_status (or_refusal m text (r >>= run_within m max_size text)).answer)
    → (or_refusal m text (r >>= run_within m max_size text)).after ≡ m
refused_packet m max_size text (Err s) h = refl
refused_packet m max_size text (Ok requests) h =
    by (nat_lt max_size (front_size (length requests) + LEAST_ROOM * length requests)) h
  where
    answered : (t : Bool) → any_refused (run_packet m (max_size - front_size (length requests)) requests).answers ≡ t
        → IsRefusal (general_status (or_refusal m text (run_by false m max_size text requests)).answer) → ⊥
    answered true e h = h.2 (ap (λ t. cond t 0x1e 0) e)
    answered false e h = h.0 (ap (λ t. cond t 0x1e 0) e)

    by : (short : Bool) → IsRefusal (general_status (or_refusal m text (run_by short m max_size text requests)).answer)
        → (or_refusal m text (run_by short m max_size text requests)).after ≡ m
    by true h = refl
    by false h = absurd (answered _ refl h)

-- A reply with any general status but success, attribute list error and embedded service error goes with unchanged
-- contents.
pub refused_routed : routed_refused_law
unfolding exec_routed
refused_routed m max_size text h = by (packet_of text) h
  where
    by_router : (content : List ℕ) (router : Bool)
        → IsRefusal (general_status (routed_if router m max_size text content).answer)
        → (routed_if router m max_size text content).after ≡ m
    by_router content true h = refused_packet m max_size text (requests_of content) h
    by_router content false h = (refused m max_size text h.0 h.1).1

    by : (packet : Option (List ℕ)) → IsRefusal (general_status (routed_by m max_size text packet).answer)
        → (routed_by m max_size text packet).after ≡ m
    by None h = (refused m max_size text h.0 h.1).1
    by (Some content) h = by_router content (has_router m.shapes) h

-- ---- the requests of a packet

length_between : (content : List ℕ) (from to : ℕ) → from + 2 ≤ to → to ≤ length content
    → 2 ≤ length (take (to - from) (drop from content))
length_between content from to enough inside = simp (length-take, length-drop) (omega (arith, enough, inside))

long_at : (content offsets : List ℕ) (from to : ℕ) (out : Bool) → (nat_lt to (from + 2) || nat_lt (length content) to) ≡ out
    → AreLong (requests_at content offsets)
    → AreLong (in_front (cond {A = Option (List ℕ)} out None (Some (take (to - from) (drop from content)))) (requests_at content offsets))
long_at content offsets from to true e later = tt
long_at content offsets from to false e later =
    let enough : from + 2 ≤ to = grind (arith, nat_tests) in
    let inside : to ≤ length content = grind (arith, nat_tests) in
    (length_between content from to enough inside, later)

-- Each request has two bytes at least.
pub requests_long : (content offsets : List ℕ) → AreLong (requests_at content offsets)
requests_long content [] = tt
requests_long content (from ∷ offsets) =
    long_at content offsets from (end_at content offsets) _ refl (requests_long content offsets)

few_at : (request : Option (List ℕ)) (requests : List (List ℕ)) → length (in_front request requests) ≤ 1 + length requests
few_at None requests = omega arith
few_at (Some request) requests = omega arith

-- There are no more requests than offsets.
pub requests_few : (content offsets : List ℕ) → length (requests_at content offsets) ≤ length offsets
requests_few content [] = omega arith
requests_few content (from ∷ offsets) =
    let one = few_at (request_at content from (end_at content offsets)) (requests_at content offsets) in
    let later = requests_few content offsets in
    omega (arith, one, later)

pub words_few : (xs : List ℕ) → 2 * length (words_of xs) ≤ length xs
words_few [] = omega arith
words_few (a ∷ []) = omega arith
words_few (a ∷ b ∷ rest) = let later = words_few rest in omega (arith, later)
