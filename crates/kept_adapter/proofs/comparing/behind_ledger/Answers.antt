use Rattle.std.specs.Borrow.{Bor}
use Rattle.cip_ledger.specs.Ledger.{LedgerState}
use Rattle.enip_keep.specs.Kept.{pairs_of}
use Rattle.kept_adapter.proofs.CompareLemmas.{other_behind}
use Rattle.kept_adapter.proofs.comparing.behind_ledger.Goals as goal

pub returns-in-Some-clause-other : goal.returns-in-Some-clause-other
returns-in-Some-clause-other c =
    other_behind (λ (l : Bor LedgerState). l.now) c.args.ledger c.in-Some.ledger c.behind_all_of_ledger.result
    (pairs_of c.args.entries.now) c.in-Some.is c.behind_all_of_ledger.ensures.other
