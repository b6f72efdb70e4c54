use Rattle.std.proofs.Common.{◌≡◌, map, drop}
use Rattle.std.specs.Prelude.{slice_get, filter}
use Rattle.cip_application.specs.Kept.{is_kept}
use Rattle.cip_application.proofs.object.Object.kept_name.Given as goal

abbrev pub invariant-loop-attribute : goal.invariant-loop-attribute
invariant-loop-attribute l =
    slice_get (filter (is_kept l.self.class) (drop l.attribute-index l.attribute-items)) l.left
    ≡ slice_get (filter (is_kept l.self.class) l.attribute-items) l.index
