-- Routers whose commands are all executed at once.
use Rattle.std.proofs.Common.{◌≡◌, ℕ, Bool, true, false, if◌then◌else◌, List, [], ◌∷◌, ◌++◌, refl, ap, ◌∙◌}
use Rattle.cip_ledger.specs.declared.router.LedgerRouter.{LedgerRouter}
use Rattle.cip_ledger.specs.declared.target.Standing.{Standing}
use Rattle.cip_ledger.specs.declared.target.Standing.TheVariants as standings
use Rattle.cip_ledger.specs.Requests.{is_barred}
use Rattle.cip_ledger.specs.Services.{KEPT_LIMIT}
use Rattle.cip_ledger.specs.Standings.{embedded_standing}
use Rattle.cip_ledger.specs.Turn.{Fate, fate, after_embedded}
use Rattle.cip_ledger.specs.Runs.{Request, next, reached_by, StaysFinal}
use Rattle.cip_ledger.proofs.Settled.{next_by, reached-by}

module _ {M : Type 0} (after : M → ℕ → List ℕ → M) (answer : M → ℕ → List ℕ → List ℕ)
    (standing : M → List ℕ → Standing) where
  pub final-embedded : (router : M) (request : List ℕ) → StaysFinal after answer standing router →
      embedded_standing standing router request ≡ standings.Final
  final-embedded router request final = go (is_barred request)
    where
      go : (barred : Bool) → (if barred then standings.Final else standing router request) ≡ standings.Final
      go true = refl
      go false = final [] request

  pub final-after : (router : M) (max_size : ℕ) (request : List ℕ) → StaysFinal after answer standing router →
      StaysFinal after answer standing (after router max_size request)
  final-after router max_size request final = λ requests later. final ((max_size, request) ∷ requests) later

  pub final-after_embedded : (router : M) (request : List ℕ) → StaysFinal after answer standing router →
      StaysFinal after answer standing (after_embedded after answer router request)
  final-after_embedded router request final = go (is_barred request)
    where
      go : (barred : Bool) → StaysFinal after answer standing (if barred then router else after router KEPT_LIMIT request)
      go true = final
      go false = final-after router KEPT_LIMIT request final

  -- a request leaves it so, whatever the ledger does with it
  final-by : (f : Fate) (node : LedgerRouter M) (request : Request) → StaysFinal after answer standing node.router →
      StaysFinal after answer standing (next_by after answer f node request).router
  final-by f node request final = λ requests later.
      ap (λ router. standing router later) (reached-by after answer f node request requests)
      ∙ final (reached_by after answer f request ++ requests) later

  pub final-next : (node : LedgerRouter M) (request : Request) → StaysFinal after answer standing node.router →
      StaysFinal after answer standing (next after answer standing node request).router
  final-next node request final =
      final-by (fate standing node.ledger node.router request.0 request.1) node request final
