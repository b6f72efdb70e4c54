use Rattle.std.proofs.Common.{◌≡◌, ◌+◌, length, drop}
use Rattle.saved_adapter.specs.Entries.{are_same}
use Rattle.saved_adapter.proofs.saving.is_same.Given as goal

abbrev pub invariant-loop-entry : goal.invariant-loop-entry
invariant-loop-entry l = record {
  same : are_same (drop l.index l.entries) l.entry-iterator ≡ are_same l.entries l.state.entries;
  count : l.index + length l.entry-iterator ≡ length l.state.entries;
}
