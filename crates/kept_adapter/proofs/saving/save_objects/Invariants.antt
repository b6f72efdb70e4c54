use Rattle.std.proofs.Common.{◌≡◌, ◌≤◌, ◌-◌, take, length, true}
use Rattle.enip_keep.specs.Kept.{pairs_of}
use Rattle.kept_server.specs.Changes.{are_small}
use Rattle.kept_adapter.specs.Saved.{versioned_objects}
use Rattle.kept_adapter.proofs.saving.save_objects.Given as goal

abbrev pub invariant-loop-key : goal.invariant-loop-key
invariant-loop-key l =
    (take l.count (pairs_of l.into.items) ≡ take l.count (versioned_objects l.objects l.is_version_2))
    × (are_small (take l.count (pairs_of l.into.items)) ≡ true)
    × (l.count ≤ length l.into.items)
    × (l.count ≤ length (versioned_objects l.objects l.is_version_2))

abbrev pub decreases-loop-key : goal.decreases-loop-key
decreases-loop-key l = length (versioned_objects l.objects l.is_version_2) - l.count
