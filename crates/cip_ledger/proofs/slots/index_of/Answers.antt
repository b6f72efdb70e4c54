use Rattle.std.proofs.Common.{refl, rules}
use Rattle.cip_ledger.proofs.SlotLemmas.{found_at, put_at, missing_in}
use Rattle.cip_ledger.proofs.slots.index_of.Goals as goal

pub returns-then-originator-clause-found : goal.returns-then-originator-clause-found
returns-then-originator-clause-found c =
    found_at _ _ _ _ c.index-taken-index.result refl c.loop-index-test.true c.loop-index.invariant c.index-taken-index.is (search rules)

pub returns-then-originator-clause-put : goal.returns-then-originator-clause-put
returns-then-originator-clause-put c =
    put_at _ _ _ _ c.index-taken-index.result refl c.loop-index-test.true c.loop-index.invariant c.index-taken-index.is (search rules)

pub returns-clause-missing : goal.returns-clause-missing
returns-clause-missing c =
    missing_in _ _ _ _ refl c.loop-index-test.false c.loop-index.invariant
