use Rattle.std.proofs.Common.{◌≡◌, false, List, ◌++◌, map, Some, IsSome}
use Rattle.sqlite_value.specs.Order.{Row}
use Rattle.sqlite_trees.specs.View.{IsClean}
use Rattle.enip_keep.specs.Kept.{pair_of}
use Rattle.enip_keep_sqlite.specs.Pairs.{row_of}
use Rattle.enip_keep_sqlite.specs.Rows.{IsCalm, Looks}
use Rattle.enip_keep_sqlite.proofs.read.read_all.Given as goal

-- what was read and what is left are the rows
abbrev pub invariant-entries : goal.invariant-entries
invariant-entries g l =
    let s = g.S.Store in
    record {
      live : IsSome ((s.view l.store).cursors 0);
      rows : IsClean (s.view l.store) → (rest : List Row) × ((s.view l.store).cursors 0 ≡ Some rest) × (map (λ e. row_of (pair_of e)) l.all.items ++ rest ≡ (s.view l.fn.store).trees 0);
      looks : IsClean (s.view l.store) → Looks (s.view l.fn.store) (s.view l.store);
      sound : IsClean (s.view l.store) → (s.view l.fn.store).is_broken ≡ false;
      calm : IsCalm s.view s.faults s.recovers l.fn.store l.store;
    }
