use Rattle.std.proofs.Common.{◌≡◌, ◌+◌, ◌≤◌, length, drop}
use Rattle.std.specs.Prelude.{filter}
use Rattle.cip_application.specs.Kept.{is_kept}
use Rattle.cip_application.proofs.object.Object.kept_count.Given as goal

abbrev pub invariant-loop-attribute : goal.invariant-loop-attribute
invariant-loop-attribute l =
    (l.count ≤ l.attribute-index)
    × (l.count + length (filter (is_kept l.self.class) (drop l.attribute-index l.attribute-items))
    ≡ length (filter (is_kept l.self.class) l.attribute-items))
