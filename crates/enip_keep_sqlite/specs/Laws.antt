-- While a keeper is up, a crash leaves what is kept.
use Rattle.std.specs.Prelude.{◌≡◌, IsTrue, refl}
use Rattle.std.proofs.Common.{ap, ◌∙◌}
use Rattle.sqlite_trees.specs.Tree.{Trees}
use Rattle.sqlite_trees.specs.View.{View}
use Rattle.enip_keep.specs.Kept.{Kept}
use Rattle.enip_keep_sqlite.specs.Pairs.{pairs_in}
use Rattle.enip_keep_sqlite.specs.Rows.{IsAtRest}

abbrev pub MayLeave : (Trees → Type 0) → Kept → Type 0
MayLeave recovers c = (db : Trees) × recovers db × (c ≡ pairs_in (db 0))

pub settled_at : (v : View) (recovers : Trees → Type 0)
    → ((db : Trees) → IsTrue v.is_open → recovers db → db ≡ v.committed) → (c : Kept) → IsAtRest v
    → MayLeave recovers c → c ≡ pairs_in (v.committed 0)
settled_at v recovers settled c up left =
    left.2 ∙ ap (λ (db : Trees). pairs_in (db 0)) (settled left.0 up.is_open left.1)

pub stays_at : (v : View) (recovers : Trees → Type 0) → (IsTrue v.is_open → recovers v.committed) → IsAtRest v
    → MayLeave recovers (pairs_in (v.committed 0))
stays_at v recovers stays up = (v.committed, stays up.is_open, refl)
