use Rattle.std.proofs.Common.{ℕ, List, Some, None, drop, ap, sym, ◌∙◌, slice_index}
use Rattle.cip_bytes.proofs.Bytes.{rest_slice}
use Rattle.cip_ledger.specs.Requests.{LedgerRequest}
use Rattle.cip_ledger.proofs.RequestLemmas.{ledger_request-of_short}
use Rattle.cip_ledger.proofs.request.LedgerRequest.read.Goals as goal

pub returns : goal.returns
returns c =
    let text = c.args.request.now in
    let short = ledger_request-of_short text (c.is_short.ensures c.if-not-is_short.false) in
    let made = λ (i : ℕ) (bytes : List ℕ). (let r : LedgerRequest = record { service = slice_index text 0; instance = i; attribute = None; «data» = bytes } in r) in
    ap (λ (bytes : List ℕ). Some (made c.from.result bytes)) (rest_slice 6 text)
    ∙ ap (λ i. Some (made i (drop 6 text))) c.from.ensures
    ∙ sym short
