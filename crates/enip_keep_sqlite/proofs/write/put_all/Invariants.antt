use Rattle.std.proofs.Common.{◌≡◌, List, take}
use Rattle.sqlite_trees.specs.View.{IsClean}
use Rattle.enip_keep.specs.Kept.{pairs_of}
use Rattle.enip_keep_sqlite.specs.Rows.{Puts, IsCalm}
use Rattle.enip_keep_sqlite.proofs.write.put_all.Given as goal

-- the pairs so far are put
abbrev pub invariant-loop-entry : goal.invariant-loop-entry
invariant-loop-entry g l =
    let s = g.S.Store in
    record {
      puts : IsClean (s.view l.store) → Puts (s.view l.fn.store) (s.view l.store) (pairs_of (take l.entry-index l.changes));
      calm : IsCalm s.view s.faults s.recovers l.fn.store l.store;
    }
