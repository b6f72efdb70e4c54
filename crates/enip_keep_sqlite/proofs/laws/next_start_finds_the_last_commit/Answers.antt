use Rattle.enip_keep_sqlite.proofs.FoundLemmas.{last_commit, next_start}
use Rattle.enip_keep_sqlite.proofs.laws.next_start_finds_the_last_commit.Goals as goal

pub returns-clause-left : goal.returns-clause-left
returns-clause-left g c = next_start g.D.Disk

pub returns-clause-commit : goal.returns-clause-commit
returns-clause-commit g c = last_commit g.D.Disk g.met.D.Disk.seen_may_stay
