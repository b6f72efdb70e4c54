use Rattle.std.proofs.Common.{◌≡◌, ◌++◌}
use Rattle.enip_keep.specs.Kept.{pairs_of}
use Rattle.saved_adapter.specs.Entries.{kept_in}
use Rattle.saved_adapter.proofs.starting.entries_of.Given as goal

abbrev pub invariant-loop-view : goal.invariant-loop-view
invariant-loop-view l = pairs_of l.entries.items ++ kept_in l.view-iterator ≡ kept_in l.state.entries
