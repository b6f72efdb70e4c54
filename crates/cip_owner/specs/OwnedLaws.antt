-- What holds of every execution by the objects and their owner.
use Rattle.std.specs.Prelude.{◌≡◌, ℕ, ◌+◌, ◌≤◌, Bool, true, false, not, ◌||◌, nat_lt, List, [], ◌∷◌, length}
use Rattle.std.specs.Prelude.{slice_index, Option, Some, None, Result, Ok, Err, refl, cond, ◌==◌, ◌&&◌, is_some}
use Rattle.std.specs.Prelude.{option_map, if◌then◌else◌}
use Rattle.std.specs.Option.{option_and_then}
use Rattle.std.proofs.Common.{ap, sym, ◌∙◌, arith}
use Rattle.std.proofs.lemmas.Bool.Decides.{nat_tests}
use Rattle.cip_application.specs.declared.config.ServiceKind.{ServiceKind}
use Rattle.cip_application.specs.declared.config.ServiceKind.TheVariants as kinds
use Rattle.cip_application.specs.Objects.{service_in}
use Rattle.cip_bytes.specs.Numbers.{le}
use Rattle.cip_message.specs.declared.path.Path.{Path}
use Rattle.cip_message.specs.declared.path.PathFault.{PathFault}
use Rattle.cip_message.specs.declared.request.RequestFault.{RequestFault}
use Rattle.cip_message.specs.PathReading.{path_of}
use Rattle.cip_message.specs.Request.{Request, request_of}
use Rattle.cip_objects.specs.declared.status.Refusal.{Refusal}
use Rattle.cip_objects.specs.Contents.{Contents}
use Rattle.cip_objects.specs.Packets.{exec_routed}
use Rattle.cip_objects.specs.PacketLaws.{exec_routed_too_large, exec_routed_begins, exec_routed_within}
use Rattle.cip_objects.specs.OwnRequests.{Asked, own_request, asked_of, asked_by_path, asked_by_request, ask_set}
use Rattle.cip_objects.specs.OwnRequests.{ask_service, checked_attribute, is_own_service, own_object}
use Rattle.cip_message.specs.Router.{general_status, IsReplyTo, REPLY_TOO_LARGE}
use Rattle.cip_owner.specs.Queue.{QueueState, QueueResult, QueueOutcome, Pending, Done, Unknown, takes, pushed}
use Rattle.cip_owner.specs.Queue.{result_of}
use Rattle.cip_owner.specs.Replies.{Reply}
use Rattle.cip_owner.specs.Owned.{OwnedState, Executed, answered, exec_owned, by_owner, given, is_fit, after_reply}
use Rattle.cip_owner.specs.Owned.{answer_with, refused_with, NOT_PREPARED, RESOURCE_UNAVAILABLE, is_asked, asks}
use Rattle.cip_owner.specs.Owned.{asked_within, queued, outcome_answer, result_answer, of_kind, reset_by, by_reset}
use Rattle.cip_owner.specs.Owned.{is_reset}
use Rattle.cip_owner.specs.declared.reset.ResetType.{ResetType}
use Rattle.cip_owner.specs.Reset.{ResetState, reset_data, reset_data_of, reset_type, is_identity}

-- ---- a reply that is too large goes with an unchanged state

abbrev given_by : (w : OwnedState) (service : ℕ) (asked : Asked) (r : Reply) (fit : Bool) → Executed
given_by w service asked r fit =
    cond {A = Executed} fit
    (answered (record w { objects = after_reply w.objects asked r.status; prepared = None })
    (answer_with service r.status r.content))
    (refused_with (record w { prepared = None }) service NOT_PREPARED)

too_large_fit : (w : OwnedState) (service : ℕ) (asked : Asked) (r : Reply) (fit : Bool) → is_fit asked r ≡ fit
    → general_status (given_by w service asked r fit).answer ≡ REPLY_TOO_LARGE → ⊥
too_large_fit w service asked r true e s = grind (arith, nat_tests)
too_large_fit w service asked r false e s = omega (arith, s)

too_large_given : (w : OwnedState) (service : ℕ) (asked : Asked) (prepared : Option Reply)
    → general_status (given w service asked prepared).answer ≡ REPLY_TOO_LARGE
    → (given w service asked prepared).after ≡ w
too_large_given w service asked None s = refl
too_large_given w service asked (Some r) s = absurd (too_large_fit w service asked r (is_fit asked r) refl s)

abbrev asked_by : OwnedState → ℕ → Asked → Bool → Executed
asked_by w service asked short =
    cond {A = Executed} short (refused_with w service REPLY_TOO_LARGE) (given w service asked w.prepared)

too_large_asked : (w : OwnedState) (service : ℕ) (asked : Asked) (short : Bool)
    → general_status (asked_by w service asked short).answer ≡ REPLY_TOO_LARGE
    → (asked_by w service asked short).after ≡ w
too_large_asked w service asked true s = refl
too_large_asked w service asked false s = too_large_given w service asked w.prepared s

abbrev taken_by : OwnedState → ℕ → Asked → QueueState → Bool → Executed
taken_by w service asked q taken =
    cond {A = Executed} taken
    (answered (record w { queue = Some (pushed q asked) }) (answer_with service 0 (le 4 q.next)))
    (refused_with w service RESOURCE_UNAVAILABLE)

too_large_taken : (w : OwnedState) (service : ℕ) (asked : Asked) (q : QueueState) (taken : Bool)
    → general_status (taken_by w service asked q taken).answer ≡ REPLY_TOO_LARGE
    → (taken_by w service asked q taken).after ≡ w
too_large_taken w service asked q true s = absurd (omega (arith, s))
too_large_taken w service asked q false s = refl

too_large_queued : (w : OwnedState) (service : ℕ) (asked : Asked) (queue : Option QueueState)
    → general_status (queued w service asked queue).answer ≡ REPLY_TOO_LARGE
    → (queued w service asked queue).after ≡ w
too_large_queued w service asked None s = refl
too_large_queued w service asked (Some q) s = too_large_taken w service asked q (takes q asked) s

too_large_kind : (kind : ServiceKind) (w : OwnedState) (max_size service : ℕ) (asked : Asked)
    → general_status (of_kind kind w max_size service asked).answer ≡ REPLY_TOO_LARGE
    → (of_kind kind w max_size service asked).after ≡ w
too_large_kind kinds.Asked w max_size service asked s =
    too_large_asked w service asked (nat_lt max_size (4 + asked.reply_limit)) s
too_large_kind kinds.Queued w max_size service asked s = too_large_queued w service asked w.queue s
too_large_kind kinds.Result w max_size service asked s = refl

too_large_by : (w : OwnedState) (max_size : ℕ) (text : List ℕ) (own : Option (Result Asked Refusal))
    → general_status (by_owner w max_size text own).answer ≡ REPLY_TOO_LARGE
    → (by_owner w max_size text own).after ≡ w
too_large_by w max_size text None s =
    ap (λ m. record w { objects = m }) (exec_routed_too_large w.objects max_size text s)
too_large_by w max_size text (Some (Err refusal)) s = refl
too_large_by w max_size text (Some (Ok asked)) s =
    too_large_kind asked.kind w max_size (slice_index text 0) asked s

too_large_type : (w : OwnedState) (service : ℕ) (r : ResetState) (type : Option ResetType)
    → general_status (reset_by w service r type).answer ≡ REPLY_TOO_LARGE → (reset_by w service r type).after ≡ w
too_large_type w service r None s = refl
too_large_type w service r (Some type) s = absurd (omega (arith, s))

too_large_reset : (w : OwnedState) (max_size : ℕ) (text : List ℕ) (reset : Option ResetState) (content : Option (List ℕ))
    → general_status (by_reset w max_size text reset content).answer ≡ REPLY_TOO_LARGE
    → (by_reset w max_size text reset content).after ≡ w
too_large_reset w max_size text None content s = too_large_by w max_size text (own_request w.objects text) s
too_large_reset w max_size text (Some r) None s = too_large_by w max_size text (own_request w.objects text) s
too_large_reset w max_size text (Some r) (Some content) s =
    too_large_type w (slice_index text 0) r (reset_type content) s

pub exec_owned_too_large : (w : OwnedState) (max_size : ℕ) (text : List ℕ)
    → general_status (exec_owned w max_size text).answer ≡ REPLY_TOO_LARGE → (exec_owned w max_size text).after ≡ w
unfolding exec_owned
exec_owned_too_large w max_size text s = too_large_reset w max_size text w.reset (reset_data text) s

-- ---- each reply has a head, and answers the service of the request

begins_fit : (w : OwnedState) (text : List ℕ) (asked : Asked) (r : Reply) (fit : Bool)
    → IsReplyTo text (given_by w (slice_index text 0) asked r fit).answer
begins_fit w text asked r true = record { head = omega arith; service = refl }
begins_fit w text asked r false = record { head = omega arith; service = refl }

begins_given : (w : OwnedState) (text : List ℕ) (asked : Asked) (prepared : Option Reply)
    → IsReplyTo text (given w (slice_index text 0) asked prepared).answer
begins_given w text asked None = record { head = omega arith; service = refl }
begins_given w text asked (Some r) = begins_fit w text asked r (is_fit asked r)

begins_asked : (w : OwnedState) (text : List ℕ) (asked : Asked) (short : Bool)
    → IsReplyTo text (asked_by w (slice_index text 0) asked short).answer
begins_asked w text asked true = record { head = omega arith; service = refl }
begins_asked w text asked false = begins_given w text asked w.prepared

begins_taken : (w : OwnedState) (text : List ℕ) (asked : Asked) (q : QueueState) (taken : Bool)
    → IsReplyTo text (taken_by w (slice_index text 0) asked q taken).answer
begins_taken w text asked q true = record { head = omega arith; service = refl }
begins_taken w text asked q false = record { head = omega arith; service = refl }

begins_queued : (w : OwnedState) (text : List ℕ) (asked : Asked) (queue : Option QueueState)
    → IsReplyTo text (queued w (slice_index text 0) asked queue).answer
begins_queued w text asked None = record { head = omega arith; service = refl }
begins_queued w text asked (Some q) = begins_taken w text asked q (takes q asked)

abbrev done_by : ℕ → QueueResult → Bool → List ℕ
done_by service r short =
    cond short (answer_with service REPLY_TOO_LARGE []) (answer_with service 0 (0 ∷ r.status ∷ r.content))

begins_done : (text : List ℕ) (r : QueueResult) (short : Bool) → IsReplyTo text (done_by (slice_index text 0) r short)
begins_done text r true = record { head = omega arith; service = refl }
begins_done text r false = record { head = omega arith; service = refl }

begins_outcome : (max_size : ℕ) (text : List ℕ) (outcome : QueueOutcome)
    → IsReplyTo text (outcome_answer max_size (slice_index text 0) outcome)
begins_outcome max_size text Pending = record { head = omega arith; service = refl }
begins_outcome max_size text (Done r) = begins_done text r (nat_lt max_size (6 + length r.content))
begins_outcome max_size text Unknown = record { head = omega arith; service = refl }

begins_result : (max_size : ℕ) (text : List ℕ) (asked : Asked) (queue : Option QueueState)
    → IsReplyTo text (result_answer max_size (slice_index text 0) asked queue)
begins_result max_size text asked None = record { head = omega arith; service = refl }
begins_result max_size text asked (Some q) = begins_outcome max_size text (result_of q asked)

begins_kind : (kind : ServiceKind) (w : OwnedState) (max_size : ℕ) (text : List ℕ) (asked : Asked)
    → IsReplyTo text (of_kind kind w max_size (slice_index text 0) asked).answer
begins_kind kinds.Asked w max_size text asked = begins_asked w text asked (nat_lt max_size (4 + asked.reply_limit))
begins_kind kinds.Queued w max_size text asked = begins_queued w text asked w.queue
begins_kind kinds.Result w max_size text asked = begins_result max_size text asked w.queue

begins_by : (w : OwnedState) (max_size : ℕ) (text : List ℕ) (own : Option (Result Asked Refusal))
    → IsReplyTo text (by_owner w max_size text own).answer
begins_by w max_size text None = exec_routed_begins w.objects max_size text
begins_by w max_size text (Some (Err refusal)) = record { head = omega arith; service = refl }
begins_by w max_size text (Some (Ok asked)) = begins_kind asked.kind w max_size text asked

begins_type : (w : OwnedState) (text : List ℕ) (r : ResetState) (type : Option ResetType)
    → IsReplyTo text (reset_by w (slice_index text 0) r type).answer
begins_type w text r None = record { head = omega arith; service = refl }
begins_type w text r (Some type) = record { head = omega arith; service = refl }

begins_reset : (w : OwnedState) (max_size : ℕ) (text : List ℕ) (reset : Option ResetState) (content : Option (List ℕ))
    → IsReplyTo text (by_reset w max_size text reset content).answer
begins_reset w max_size text None content = begins_by w max_size text (own_request w.objects text)
begins_reset w max_size text (Some r) None = begins_by w max_size text (own_request w.objects text)
begins_reset w max_size text (Some r) (Some content) = begins_type w text r (reset_type content)

pub exec_owned_begins : (w : OwnedState) (max_size : ℕ) (text : List ℕ) → IsReplyTo text (exec_owned w max_size text).answer
unfolding exec_owned
exec_owned_begins w max_size text = begins_reset w max_size text w.reset (reset_data text)

-- ---- each reply has at most `max_size` bytes

within_fit : (w : OwnedState) (max_size service : ℕ) (asked : Asked) (r : Reply) (fit : Bool) → 8 ≤ max_size
    → 4 + asked.reply_limit ≤ max_size → is_fit asked r ≡ fit
    → length (given_by w service asked r fit).answer ≤ max_size
within_fit w max_size service asked r true h fits e = grind (arith, nat_tests)
within_fit w max_size service asked r false h fits e = omega (arith, h)

within_given : (w : OwnedState) (max_size service : ℕ) (asked : Asked) (prepared : Option Reply) → 8 ≤ max_size
    → 4 + asked.reply_limit ≤ max_size → length (given w service asked prepared).answer ≤ max_size
within_given w max_size service asked None h fits = omega (arith, h)
within_given w max_size service asked (Some r) h fits =
    within_fit w max_size service asked r (is_fit asked r) h fits refl

within_asked : (w : OwnedState) (max_size service : ℕ) (asked : Asked) (short : Bool) → 8 ≤ max_size
    → nat_lt max_size (4 + asked.reply_limit) ≡ short → length (asked_by w service asked short).answer ≤ max_size
within_asked w max_size service asked true h e = omega (arith, h)
within_asked w max_size service asked false h e =
    within_given w max_size service asked w.prepared h (grind (arith, nat_tests))

within_taken : (w : OwnedState) (max_size service : ℕ) (asked : Asked) (q : QueueState) (taken : Bool) → 8 ≤ max_size
    → length (taken_by w service asked q taken).answer ≤ max_size
within_taken w max_size service asked q true h = omega (arith, h)
within_taken w max_size service asked q false h = omega (arith, h)

within_queued : (w : OwnedState) (max_size service : ℕ) (asked : Asked) (queue : Option QueueState) → 8 ≤ max_size
    → length (queued w service asked queue).answer ≤ max_size
within_queued w max_size service asked None h = omega (arith, h)
within_queued w max_size service asked (Some q) h = within_taken w max_size service asked q (takes q asked) h

within_done : (max_size service : ℕ) (r : QueueResult) (short : Bool) → 8 ≤ max_size
    → nat_lt max_size (6 + length r.content) ≡ short → length (done_by service r short) ≤ max_size
within_done max_size service r true h e = omega (arith, h)
within_done max_size service r false h e = grind (arith, nat_tests)

within_outcome : (max_size service : ℕ) (outcome : QueueOutcome) → 8 ≤ max_size
    → length (outcome_answer max_size service outcome) ≤ max_size
within_outcome max_size service Pending h = omega (arith, h)
within_outcome max_size service (Done r) h =
    within_done max_size service r (nat_lt max_size (6 + length r.content)) h refl
within_outcome max_size service Unknown h = omega (arith, h)

within_result : (max_size service : ℕ) (asked : Asked) (queue : Option QueueState) → 8 ≤ max_size
    → length (result_answer max_size service asked queue) ≤ max_size
within_result max_size service asked None h = omega (arith, h)
within_result max_size service asked (Some q) h = within_outcome max_size service (result_of q asked) h

within_kind : (kind : ServiceKind) (w : OwnedState) (max_size service : ℕ) (asked : Asked) → 8 ≤ max_size
    → length (of_kind kind w max_size service asked).answer ≤ max_size
within_kind kinds.Asked w max_size service asked h =
    within_asked w max_size service asked (nat_lt max_size (4 + asked.reply_limit)) h refl
within_kind kinds.Queued w max_size service asked h = within_queued w max_size service asked w.queue h
within_kind kinds.Result w max_size service asked h = within_result max_size service asked w.queue h

within_by : (w : OwnedState) (max_size : ℕ) (text : List ℕ) (own : Option (Result Asked Refusal)) → 8 ≤ max_size
    → length (by_owner w max_size text own).answer ≤ max_size
within_by w max_size text None h = exec_routed_within w.objects max_size text h
within_by w max_size text (Some (Err refusal)) h = omega (arith, h)
within_by w max_size text (Some (Ok asked)) h =
    within_kind asked.kind w max_size (slice_index text 0) asked h

within_type : (w : OwnedState) (max_size service : ℕ) (r : ResetState) (type : Option ResetType) → 8 ≤ max_size
    → length (reset_by w service r type).answer ≤ max_size
within_type w max_size service r None h = omega (arith, h)
within_type w max_size service r (Some type) h = omega (arith, h)

within_reset : (w : OwnedState) (max_size : ℕ) (text : List ℕ) (reset : Option ResetState) (content : Option (List ℕ))
    → 8 ≤ max_size → length (by_reset w max_size text reset content).answer ≤ max_size
within_reset w max_size text None content h = within_by w max_size text (own_request w.objects text) h
within_reset w max_size text (Some r) None h = within_by w max_size text (own_request w.objects text) h
within_reset w max_size text (Some r) (Some content) h =
    within_type w max_size (slice_index text 0) r (reset_type content) h

pub exec_owned_within : (w : OwnedState) (max_size : ℕ) (text : List ℕ) → 8 ≤ max_size
    → length (exec_owned w max_size text).answer ≤ max_size
unfolding exec_owned
exec_owned_within w max_size text h = within_reset w max_size text w.reset (reset_data text) h

-- ---- a Reset is not to the owner

not_asked : (m : Contents) (q : Request) (p : Path) → q.service ≡ 0x05 → asked_of m q p ≡ None
not_asked m q p e =
    ap (λ (s : ℕ). if s == 0x10 then
    option_map (ask_set q p) (option_and_then (checked_attribute m p.class p.instance) p.attribute)
    else option_map (ask_service q p) (if is_own_service s then
    option_and_then (λ o. service_in s o.services) (own_object m.shapes p.class p.instance)
    else None)) e

not_asked_by : (m : Contents) (q : Request) (path : Result Path PathFault) → q.service ≡ 0x05
    → asked_by_path m q path ≡ None
not_asked_by m q (Ok p) e = not_asked m q p e
not_asked_by m q (Err fault) e = refl

not_own_service : (m : Contents) (q : Request) (is : Bool) → (q.service == 0x05) ≡ is
    → is_some (cond {A = Option (List ℕ)} (is && is_identity (path_of q.path)) (Some q.data) None) ≡ true
    → asked_by_path m q (path_of q.path) ≡ None
not_own_service m q true is e = not_asked_by m q (path_of q.path) (grind (arith, nat_tests))
not_own_service m q false is e = absurd (cc)

not_own_by : (m : Contents) (request : Result Request RequestFault) → is_some (reset_data_of request) ≡ true
    → asked_by_request m request ≡ None
not_own_by m (Ok q) e = not_own_service m q (q.service == 0x05) refl e
not_own_by m (Err fault) e = absurd (cc)

-- A request that is a Reset of the Identity object is not to the owner.
pub reset_is_not_own : (m : Contents) (text : List ℕ) → is_some (reset_data text) ≡ true → own_request m text ≡ None
unfolding reset_data own_request
reset_is_not_own m text e = not_own_by m (request_of text) e

-- A request to the owner is not a Reset.
pub own_is_not_reset : (w : OwnedState) (text : List ℕ) (own : Result Asked Refusal)
    → own_request w.objects text ≡ Some own → is_reset w text ≡ false
own_is_not_reset w text own e = by_data (is_some (reset_data text)) refl
  where
    by_data : (is : Bool) → is_some (reset_data text) ≡ is → (is_some (reset_data text) && is_some w.reset) ≡ false
    by_data true f = absurd (some_is_none (sym e ∙ reset_is_not_own w.objects text f))
      where
        some_is_none : ◌≡◌ {A = Option (Result Asked Refusal)} (Some own) None → ⊥
        some_is_none g = cc
    by_data false f = ap (λ is. is && is_some w.reset) f

unreset_by : (w : OwnedState) (max_size : ℕ) (text : List ℕ) (reset : Option ResetState) (content : Option (List ℕ))
    → (is_some content && is_some reset) ≡ false
    → by_reset w max_size text reset content ≡ by_owner w max_size text (own_request w.objects text)
unreset_by w max_size text None content e = refl
unreset_by w max_size text (Some r) None e = refl
unreset_by w max_size text (Some r) (Some content) e = absurd (cc)

-- A request that is not a Reset, or one of a device that cannot be reset, is executed by the owner or the objects.
pub exec_owned_unreset : (w : OwnedState) (max_size : ℕ) (text : List ℕ) → is_reset w text ≡ false
    → exec_owned w max_size text ≡ by_owner w max_size text (own_request w.objects text)
unfolding exec_owned
exec_owned_unreset w max_size text e = unreset_by w max_size text w.reset (reset_data text) e

-- ---- requests that are not the owner's

-- A request that is neither to the owner nor a Reset is executed by the objects, and leaves what is prepared.
pub exec_owned_plain : (w : OwnedState) (max_size : ℕ) (text : List ℕ) → is_reset w text ≡ false
    → own_request w.objects text ≡ None
    → exec_owned w max_size text
    ≡ answered (record w { objects = (exec_routed w.objects max_size text).after })
    (exec_routed w.objects max_size text).answer
exec_owned_plain w max_size text unreset e =
    exec_owned_unreset w max_size text unreset ∙ ap (by_owner w max_size text) e

-- ---- requests that the owner is asked about

same_asked : (q asked : Asked) → ◌≡◌ {A = Option Asked} (Some q) (Some asked) → q ≡ asked
same_asked q asked e = cc

asks_kind : (q asked : Asked) (kind : ServiceKind) (short : Bool) → q.kind ≡ kind
    → ◌≡◌ {A = Option Asked} (cond (not (is_asked kind) || short) None (Some q)) (Some asked)
    → (q ≡ asked) × (asked.kind ≡ kinds.Asked)
asks_kind q asked kinds.Asked true k e = absurd (cc)
asks_kind q asked kinds.Asked false k e =
    (same_asked q asked e, ap (λ x. x.kind) (sym (same_asked q asked e)) ∙ k)
asks_kind q asked kinds.Queued short k e = absurd (cc)
asks_kind q asked kinds.Result short k e = absurd (cc)

asks_by : (max_size : ℕ) (own : Option (Result Asked Refusal)) (asked : Asked) → asked_within max_size own ≡ Some asked
    → (own ≡ Some (Ok asked)) × (asked.kind ≡ kinds.Asked)
asks_by max_size None asked e = absurd (cc)
asks_by max_size (Some (Err refusal)) asked e = absurd (cc)
asks_by max_size (Some (Ok q)) asked e =
    let is = asks_kind q asked q.kind (nat_lt max_size (4 + q.reply_limit)) refl e in
    (ap (λ x. Some (Ok x)) is.0, is.1)

-- The owner is asked only about a request to it, of a service that is neither queued nor asks for a result.
pub asks_own : (m : Contents) (max_size : ℕ) (text : List ℕ) (asked : Asked) → asks m max_size text ≡ Some asked
    → (own_request m text ≡ Some (Ok asked)) × (asked.kind ≡ kinds.Asked)
unfolding asks
asks_own m max_size text asked e = asks_by max_size (own_request m text) asked e

-- ---- requests that are no Reset

-- These bytes are not a request with service 0x05 to class 1, instance 1.
abbrev pub IsNoReset : List ℕ → Type 0
IsNoReset text =
    (q : Request) (path : Path) → request_of text ≡ Ok q → path_of q.path ≡ Ok path → q.service ≡ 0x05
    → path.class ≡ 1 → path.instance ≡ 1 → ⊥

both_true : (a b : Bool) → (a && b) ≡ true → (a ≡ true) × (b ≡ true)
both_true true true e = (refl, refl)
both_true true false e = absurd (cc)
both_true false b e = absurd (cc)

no_reset_to : (text : List ℕ) (q : Request) (path : Result Path PathFault) → IsNoReset text → request_of text ≡ Ok q
    → path_of q.path ≡ path → (q.service == 0x05) ≡ true → is_identity path ≡ true → ⊥
no_reset_to text q (Err fault) none e p service identity = absurd (cc)
no_reset_to text q (Ok path) none e p service identity =
    let both = both_true (path.class == 1) (path.instance == 1) identity in
    none q path e p (grind (arith, nat_tests)) (grind (arith, nat_tests)) (grind (arith, nat_tests))

no_reset_by : (text : List ℕ) (q : Request) → IsNoReset text → request_of text ≡ Ok q
    → ((q.service == 0x05) && is_identity (path_of q.path)) ≡ false
no_reset_by text q none e = by_test ((q.service == 0x05) && is_identity (path_of q.path)) refl
  where
    by_test : (is : Bool) → ((q.service == 0x05) && is_identity (path_of q.path)) ≡ is
        → ((q.service == 0x05) && is_identity (path_of q.path)) ≡ false
    by_test false f = f
    by_test true f =
        let both = both_true (q.service == 0x05) (is_identity (path_of q.path)) f in
        absurd (no_reset_to text q (path_of q.path) none e refl both.0 both.1)

no_reset_data : (text : List ℕ) (request : Result Request RequestFault) → IsNoReset text → request_of text ≡ request
    → reset_data_of request ≡ None
no_reset_data text (Err fault) none e = refl
no_reset_data text (Ok q) none e = ap (λ is. cond {A = Option (List ℕ)} is (Some q.data) None) (no_reset_by text q none e)

pub unreset : (w : OwnedState) (text : List ℕ) → IsNoReset text → is_reset w text ≡ false
unfolding reset_data
unreset w text none =
    ap (λ (o : Option (List ℕ)). is_some o && is_some w.reset) (no_reset_data text (request_of text) none refl)
