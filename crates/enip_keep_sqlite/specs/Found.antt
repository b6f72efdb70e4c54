-- What a start finds in the files at a path: what the last commit left there.
use Rattle.std.specs.Prelude.{◌≡◌}
use Rattle.sqlite_wal.specs.Recovery.{Image}
use Rattle.sqlite_trees.specs.Tree.{Trees}
use Rattle.sqlite.specs.Files.{HoldsDatabase, AreFoundIn}
use Rattle.enip_keep.specs.Kept.{Kept}
use Rattle.enip_keep_sqlite.specs.Pairs.{pairs_in}

-- The entries are the rows of the first table of what the two files held, its log and all.
pub record IsFoundIn (image : Image) (kept : Kept) : Type 0 where
  -- If the files hold a database, they are exactly its rows: each commit that ended in it, and nothing else.
  pub holds : (db : Trees) → HoldsDatabase image db → kept ≡ pairs_in (db 0)
  -- In each case they are the rows of what sound pages of the files read as, or there was no database, and no entry.
  pub reads : (db : Trees) × AreFoundIn image db × (kept ≡ pairs_in (db 0))
