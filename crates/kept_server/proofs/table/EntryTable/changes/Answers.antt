use Rattle.std.proofs.Common.{◌≡◌, true, sym, subst}
use Rattle.enip_keep.specs.Kept.{pairs_of}
use Rattle.kept_server.specs.Changes.{are_small}
use Rattle.kept_server.proofs.ChangeLemmas.{small_keepable}
use Rattle.kept_server.proofs.table.EntryTable.changes.Goals as goal

pub returns-clause-keys : goal.returns-clause-keys
returns-clause-keys c =
    small_keepable c.as_slice.result.now
    (subst (λ xs. are_small (pairs_of xs) ≡ true) (sym c.as_slice.ensures.value) c.args.self.now.small)
