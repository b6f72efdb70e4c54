-- Replies of a ledger over a router whose replies are well-formed, and requests that pass the ledger.
use Rattle.std.proofs.Common.{◌≡◌, ◌⊎◌, inl, inr, ℕ, ◌*◌, ◌≤◌, ◌==◌, nat_lt, Bool, true, false, if◌then◌else◌, Option, Some, None, unwrap_or, List, [], ◌∷◌, length, take, drop, Result, Ok, Err, refl, ap, sym, ◌∙◌, arith, slice_index}
use Rattle.cip_message.specs.declared.path.Path.{Path}
use Rattle.cip_message.specs.declared.path.PathFault.{PathFault}
use Rattle.cip_message.specs.declared.request.RequestFault.TheVariants.{PathSize}
use Rattle.cip_message.specs.PathReading.{path_of}
use Rattle.cip_message.specs.Request.{Request as Spelled, request_of}
use Rattle.cip_message.specs.Reply.{reply_service}
use Rattle.cip_message.specs.Router.{IsReplyTo, RepliesWellFormed}
use Rattle.cip_ledger.specs.declared.router.LedgerRouter.{LedgerRouter}
use Rattle.cip_ledger.specs.declared.target.Standing.{Standing}
use Rattle.cip_ledger.specs.Ledger.{LedgerState}
use Rattle.cip_ledger.specs.Requests.{LedgerRequest, ledger_request, request_by_path, request_by_parts, is_barred}
use Rattle.cip_ledger.specs.Services.{Replies, Executes, Queues, Frees, reply_to, refusal, KEPT_LIMIT}
use Rattle.cip_ledger.specs.declared.status.Status.TheVariants as statuses
use Rattle.cip_ledger.specs.Turn.{Fate, Passed, Served, fate, fate_of, turn_by, turn_of}
use Rattle.cip_ledger.specs.Runs.{Request, answer_to, turn_at}
use Rattle.cip_ledger.proofs.Fates.{Means, fate-means}

-- the service of a request to the ledger is its first byte
pub service_first : (text : List ℕ) (request : LedgerRequest) → ledger_request text ≡ Some request → request.service ≡ slice_index text 0
unfolding ledger_request request_of
service_first [] request e = absurd (cc)
service_first (service ∷ []) request e = absurd (cc)
service_first (service ∷ words ∷ rest) request e = by_size (nat_lt (length rest) (2 * words)) e
  where
    whole : Spelled
    whole = record { service = service; path = take (2 * words) rest; «data» = drop (2 * words) rest }

    same_service : (a b : LedgerRequest) → ◌≡◌ {A = Option LedgerRequest} (Some a) (Some b) → b.service ≡ a.service
    same_service a b e = ap (λ o. (unwrap_or o b).service) (sym e)

    by_class : (named : Path) (same : Bool) →
        (if same then Some (record { service = service; instance = named.instance; attribute = named.attribute; «data» = drop (2 * words) rest }) else None)
        ≡ Some request → request.service ≡ service
    by_class named true e =
        same_service (record { service = service; instance = named.instance; attribute = named.attribute; «data» = drop (2 * words) rest }) request e
    by_class named false e = absurd (cc)

    by_path : (read : Result Path PathFault) → request_by_path whole read ≡ Some request → request.service ≡ service
    by_path (Err fault) e = absurd (cc)
    by_path (Ok named) e = by_class named (named.class == 0x65) e

    by_size : (short : Bool) → request_by_parts (if short then Err PathSize else Ok whole) ≡ Some request → request.service ≡ service
    by_size true e = absurd (cc)
    by_size false e = by_path (path_of (take (2 * words) rest)) e

module _ {M : Type 0} (after : M → ℕ → List ℕ → M) (answer : M → ℕ → List ℕ → List ℕ)
    (standing : M → List ℕ → Standing) where
  -- without a ledger, or elsewhere, the turn is the router's
  pub passes : (node : LedgerRouter M) (request : Request) → (node.ledger ≡ None) ⊎ (ledger_request request.1 ≡ None) →
      turn_at after answer standing node request
      ≡ turn_of node.ledger (after node.router request.0 request.1) (answer node.router request.0 request.1)
  passes node request is = go node.ledger is
    where
      go : (l : Option LedgerState) → (l ≡ None) ⊎ (ledger_request request.1 ≡ None) →
          turn_by after answer (fate standing l node.router request.0 request.1) l node.router request.0 request.1
          ≡ turn_of l (after node.router request.0 request.1) (answer node.router request.0 request.1)
      go None is = refl
      go (Some ledger) (inl e) = absurd (cc)
      go (Some ledger) (inr e) =
          ap (λ asked. turn_by after answer (fate_of standing ledger node.router request.0 asked) (Some ledger) node.router request.0 request.1) e

  module _ (form : RepliesWellFormed answer) where
    embedded-within : (barred : Bool) (router : M) (request : List ℕ) → 2 ≤ length request →
        length (if barred then reply_to (slice_index request 0) (refusal statuses.ServiceNotSupported) else answer router KEPT_LIMIT request) ≤ KEPT_LIMIT
    embedded-within true router request enough = omega arith
    embedded-within false router request enough = form.within router KEPT_LIMIT request (omega arith) enough

    within-by : (f : Fate) (node : LedgerRouter M) (request : Request) → Means node.ledger request f → 8 ≤ request.0 → 2 ≤ length request.1 →
        length (turn_by after answer f node.ledger node.router request.0 request.1).answer ≤ request.0
    within-by Passed node request means least enough = form.within node.router request.0 request.1 least enough
    within-by (Served service (Replies reply)) node request means least enough =
        let fits = means.means.fits least in omega (arith, fits)
    within-by (Served service (Executes command)) node request means least enough =
        let fits = means.means.fits in
        let inner = embedded-within (is_barred command.request) node.router command.request means.means.request in
        omega (arith, fits, inner)
    within-by (Served service (Queues command ticket)) node request means least enough =
        let fits = means.means.fits in omega (arith, fits)
    within-by (Served service (Frees freed)) node request means least enough = omega (arith, least)

    begins-by : (f : Fate) (node : LedgerRouter M) (request : Request) → Means node.ledger request f → 8 ≤ request.0 → 2 ≤ length request.1 →
        IsReplyTo request.1 (turn_by after answer f node.ledger node.router request.0 request.1).answer
    begins-by Passed node request means least enough = form.begins node.router request.0 request.1 least enough
    begins-by (Served service (Replies reply)) node request means least enough =
        record { head = omega arith; service = ap reply_service (sym means.service_is ∙ service_first request.1 means.asked means.asked_is) }
    begins-by (Served service (Executes command)) node request means least enough =
        record { head = omega arith; service = ap reply_service (sym means.service_is ∙ service_first request.1 means.asked means.asked_is) }
    begins-by (Served service (Queues command ticket)) node request means least enough =
        record { head = omega arith; service = ap reply_service (sym means.service_is ∙ service_first request.1 means.asked means.asked_is) }
    begins-by (Served service (Frees freed)) node request means least enough =
        record { head = omega arith; service = ap reply_service (sym means.service_is ∙ service_first request.1 means.asked means.asked_is) }

    pub in-form : RepliesWellFormed (λ (node : LedgerRouter M) max_size request. answer_to after answer standing node (max_size, request))
    in-form = record {
      begins = λ node max_size request least enough.
          begins-by (fate standing node.ledger node.router max_size request) node (max_size, request)
          (fate-means standing node.ledger node.router (max_size, request)) least enough;
      within = λ node max_size request least enough.
          within-by (fate standing node.ledger node.router max_size request) node (max_size, request)
          (fate-means standing node.ledger node.router (max_size, request)) least enough;
    }
