use Rattle.std.proofs.Common.{◌≡◌, ◌≤◌, ◌-◌, length, take}
use Rattle.saved_state.specs.States.{entries}
use Rattle.saved_state.proofs.writing.write_entries.Given as goal

abbrev pub invariant-loop-head : goal.invariant-loop-head
invariant-loop-head g l = record {
  size : l.at ≡ length (entries (take l.index (g.S.EntrySource.entries l.source)));
  written : take l.at l.into ≡ entries (take l.index (g.S.EntrySource.entries l.source));
  before : l.index ≤ l.at;
  within : l.index ≤ length (g.S.EntrySource.entries l.source);
}

abbrev pub decreases-loop-head : goal.decreases-loop-head
decreases-loop-head g l = length (g.S.EntrySource.entries l.source) - l.index
