-- The objects with a ledger before them: every reply is well-formed, and which requests change nothing.
use Rattle.std.proofs.Common.{◌≡◌, ℕ, ◌≤◌, ◌==◌, Bool, true, false, if◌then◌else◌, None, Option, Some, option_map, inr, List, [], ◌∷◌, ◌++◌, length, slice_index, Ok, refl, ap, ◌∙◌, arith}
use Rattle.std.proofs.lemmas.Bool.{eqb-true}
use Rattle.cip_message.specs.Router.{IsReplyTo, RepliesWellFormed}
use Rattle.cip_objects.specs.OwnRequests.{Asked, own_request}
use Rattle.cip_owner.specs.Owned.{OwnedState, exec_owned, asks}
use Rattle.cip_owner.specs.Queue.{QueueState}
use Rattle.cip_owner.specs.QueueRuns.{after_steps, steps_of}
use Rattle.cip_owner.proofs.OwnedLemmas.{queue as queue_changes}
use Rattle.cip_owner.specs.OwnedLaws.{exec_owned_begins, exec_owned_within, asks_own}
use Rattle.cip_message.specs.declared.path.Path.{Path}
use Rattle.cip_message.specs.PathReading.{path_of}
use Rattle.cip_message.specs.Request.{Request as Spelled, request_of}
use Rattle.cip_ledger.specs.declared.status.Status.TheVariants as statuses
use Rattle.cip_ledger.specs.declared.target.Standing.TheVariants as standings
use Rattle.cip_message.specs.declared.ledger_services.TheConstants.{LEDGER}
use Rattle.cip_ledger.specs.Requests.{LedgerRequest, ledger_request, request_by_path, request_by_parts, is_barred}
use Rattle.cip_ledger.specs.Services.{Replies, Executes, Queues, Frees, KEPT_LIMIT, reply_to, refusal}
use Rattle.cip_ledger.specs.Turn.{Fate, Passed, Served, fate, Turn, turn_by}
use Rattle.cip_ledger.specs.Runs.{Request, node_of, node_after, router_after, StaysFinal}
use Rattle.cip_ledger.specs.Device.{Device, standing_of_kind, standing_of_own, standing_in, owned_standing, exec_device, run}
use Rattle.cip_ledger.proofs.Fates.{Means, fate-means}
use Rattle.cip_ledger.proofs.Forms.{in-form, passes}

abbrev pub after : OwnedState → ℕ → List ℕ → OwnedState
after objects max_size request = (exec_owned objects max_size request).after

abbrev pub answer : OwnedState → ℕ → List ℕ → List ℕ
answer objects max_size request = (exec_owned objects max_size request).answer

form : RepliesWellFormed answer
form = record {
  begins = λ objects max_size request least enough. exec_owned_begins objects max_size request;
  within = λ objects max_size request least enough. exec_owned_within objects max_size request least;
}

pub exec_device-begins : (device : Device) (max_size : ℕ) (request : List ℕ) → 8 ≤ max_size → 2 ≤ length request →
    IsReplyTo request (exec_device device max_size request).answer
exec_device-begins device max_size request least enough = (in-form after answer owned_standing form).begins device max_size request least enough

within-by : (f : Fate) (device : Device) (request : Request) → Means device.ledger request f → 8 ≤ request.0 →
    length (turn_by after answer f device.ledger device.router request.0 request.1).answer ≤ request.0
within-by Passed device request means least = exec_owned_within device.router request.0 request.1 least
within-by (Served service (Replies reply)) device request means least =
    let fits = means.means.fits least in omega (arith, fits)
within-by (Served service (Executes command)) device request means least =
    let fits = means.means.fits in
    let inner = embedded (is_barred command.request) in
    omega (arith, fits, inner)
  where
    embedded : (barred : Bool) →
        length (if barred then reply_to (slice_index command.request 0) (refusal statuses.ServiceNotSupported) else answer device.router KEPT_LIMIT command.request) ≤ KEPT_LIMIT
    embedded true = omega arith
    embedded false = exec_owned_within device.router KEPT_LIMIT command.request (omega arith)
within-by (Served service (Queues command ticket)) device request means least =
    let fits = means.means.fits in omega (arith, fits)
within-by (Served service (Frees freed)) device request means least = omega (arith, least)

pub exec_device-within : (device : Device) (max_size : ℕ) (request : List ℕ) → 8 ≤ max_size →
    length (exec_device device max_size request).answer ≤ max_size
exec_device-within device max_size request least =
    within-by (fate owned_standing device.ledger device.router max_size request) device (max_size, request)
    (fate-means owned_standing device.ledger device.router (max_size, request)) least

-- a request that is not to the ledger and leaves the objects as they are leaves the device as it is
pub exec_device-passed : (device : Device) (max_size : ℕ) (request : List ℕ) → ledger_request request ≡ None →
    (exec_owned device.router max_size request).after ≡ device.router → (exec_device device max_size request).after ≡ device
exec_device-passed device max_size request other same =
    ap (λ (done : Turn OwnedState). node_of done) (passes after answer owned_standing device (max_size, request) (inr other))
    ∙ ap (λ (objects : OwnedState). (let d : Device = record { ledger = device.ledger; router = objects } in d)) same

-- a request to another class is not to the ledger
pub other_class : (text : List ℕ) (request : Spelled) (path : Path) → request_of text ≡ Ok request →
    path_of request.path ≡ Ok path → (path.class ≡ LEDGER → ⊥) → ledger_request text ≡ None
unfolding ledger_request
other_class text request path read found other =
    ap request_by_parts read ∙ (ap (request_by_path request) found ∙ by_class (path.class == LEDGER) refl)
  where
    by_class : (same : Bool) → (path.class == LEDGER) ≡ same →
        ◌≡◌ {A = Option LedgerRequest} (if same then Some (record {
          service = request.service;
          instance = path.instance;
          attribute = path.attribute;
          «data» = request.data;
        }) else None) None
    by_class true is = absurd (other (eqb-true path.class LEDGER is))
    by_class false is = refl

-- a run ends as the runs of the laws do
pub run-ends : (device : Device) (requests : List Request) → (run device requests).after ≡ node_after after answer owned_standing device requests
run-ends device [] = refl
run-ends device (request ∷ requests) = run-ends (exec_device device request.0 request.1).after requests

pub run-two : (device : Device) (first second : List Request) →
    (run device (first ++ second)).after ≡ (run (run device first).after second).after
run-two device [] second = refl
run-two device (request ∷ first) second = run-two (exec_device device request.0 request.1).after first second

-- ---- what becomes of a command

-- a request that the owner is asked about is executed at once
pub asked-final : (w : OwnedState) (max_size : ℕ) (text : List ℕ) (asked : Asked) → asks w.objects max_size text ≡ Some asked →
    owned_standing w text ≡ standings.Final
asked-final w max_size text asked is = go w.queue
  where
    go : (queue : Option QueueState) → standing_in queue (own_request w.objects text) ≡ standings.Final
    go None = refl
    go (Some queue) =
        let own = asks_own w.objects max_size text asked is in
        ap (standing_of_own queue) own.0 ∙ ap (λ kind. standing_of_kind kind queue asked) own.1

-- without a queue each request is executed at once, and no request makes one
without-queue : (w : OwnedState) (requests : List Request) → w.queue ≡ None →
    (router_after after answer w requests).queue ≡ None
without-queue w [] none = none
without-queue w (request ∷ requests) none =
    without-queue (after w request.0 request.1) requests
    (queue_changes w request.0 request.1 ∙ ap (option_map (λ q. after_steps q (steps_of w.objects request.1))) none)

pub final-without_queue : (w : OwnedState) → w.queue ≡ None → StaysFinal after answer owned_standing w
final-without_queue w none requests request =
    ap (λ queue. standing_in queue (own_request (router_after after answer w requests).objects request))
    (without-queue w requests none)
