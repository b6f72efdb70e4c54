use Rattle.std.proofs.Common.{ap, sym, ◌∙◌, is_some, unwrap_or}
use Rattle.cip_ledger.specs.Kept.{kept_in}
use Rattle.cip_ledger.proofs.KeptLemmas.{taken_slot_refused}
use Rattle.cip_ledger.proofs.ledger.Ledger.restore.Goals as goal

pub returns-then-is_some-clause-restored : goal.returns-then-is_some-clause-restored
returns-then-is_some-clause-restored c =
    let m = c.args.self.now in
    sym (ap (λ o. unwrap_or o m) (taken_slot_refused (kept_in c.args.kept) m c.position-index.result c.position-index.ensures (sym c.is_some.ensures ∙ c.if-is_some.true)))

pub returns-then-is_some-clause-reported : goal.returns-then-is_some-clause-reported
returns-then-is_some-clause-reported c =
    let m = c.args.self.now in
    sym (ap is_some (taken_slot_refused (kept_in c.args.kept) m c.position-index.result c.position-index.ensures (sym c.is_some.ensures ∙ c.if-is_some.true)))
