use Rattle.std.proofs.Common.{ℕ, Some, None, drop, ap, ◌∙◌, slice_index}
use Rattle.std.proofs.lemmas.Bool.{eqb-true}
use Rattle.cip_ledger.specs.Requests.{LedgerRequest}
use Rattle.cip_ledger.proofs.RequestLemmas.{ledger_request-of_short}
use Rattle.cip_ledger.proofs.request.is_do_once.Goals as goal

pub returns-clause-is : goal.returns-clause-is
returns-clause-is c =
    let text = c.args.request.now in
    let made = λ (s i : ℕ). (let r : LedgerRequest = record { service = s; instance = i; attribute = None; «data» = drop 6 text } in r) in
    λ last.
    ledger_request-of_short text (c.is_short.ensures c.if-not-is_short.false)
    ∙ ap (λ s. Some (made s (slice_index text 5))) c.if-request-ne-DO_ONCE.false
    ∙ ap (λ i. Some (made 0x4b i)) (eqb-true (slice_index text 5) 1 last)
