-- A keeper that is up leaves what it keeps, and nothing else, also without the entry of the round.
use Rattle.std.specs.Prelude.{◌≡◌, refl}
use Rattle.std.proofs.Common.{ap, ◌∙◌}
use Rattle.enip_keep.specs.Kept.{Kept}
use Rattle.enip_keep.specs.Rounds.{without_round}

pub settled_without : (may_leave : Kept → Type 0) (kept : Kept) → ((all : Kept) → may_leave all → all ≡ kept)
    → (c : Kept) → ((all : Kept) × may_leave all × (c ≡ without_round all)) → c ≡ without_round kept
settled_without may_leave kept settled c left = left.2 ∙ ap without_round (settled left.0 left.1)

pub stays_without : (may_leave : Kept → Type 0) (kept : Kept) → may_leave kept
    → (all : Kept) × may_leave all × (without_round kept ≡ without_round all)
stays_without may_leave kept there = (kept, there, refl)
