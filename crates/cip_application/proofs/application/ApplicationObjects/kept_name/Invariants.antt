use Rattle.std.proofs.Common.{◌≡◌, drop}
use Rattle.std.specs.Prelude.{slice_get}
use Rattle.std.specs.List.{flat_map}
use Rattle.cip_application.specs.Kept.{kept_names_in}
use Rattle.cip_application.proofs.application.ApplicationObjects.kept_name.Given as goal

abbrev pub invariant-loop-object : goal.invariant-loop-object
invariant-loop-object l =
    slice_get (flat_map kept_names_in (drop l.object-index l.object-items)) l.left ≡ slice_get (flat_map kept_names_in l.object-items) l.index
