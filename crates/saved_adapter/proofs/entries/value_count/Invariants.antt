use Rattle.std.proofs.Common.{◌≤◌, length}
use Rattle.kept_adapter.specs.Saved.{saved_objects}
use Rattle.saved_adapter.proofs.entries.value_count.Given as goal

abbrev pub invariant-loop-count : goal.invariant-loop-count
invariant-loop-count l = l.count ≤ length (saved_objects l.objects)
