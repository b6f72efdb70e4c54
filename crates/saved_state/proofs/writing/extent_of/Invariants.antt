use Rattle.std.proofs.Common.{◌≡◌, ◌<◌, ◌≤◌, ◌+◌, ◌-◌, ◌^◌, length, take}
use Rattle.saved_state.specs.States.{entries}
use Rattle.saved_state.proofs.writing.extent_of.Given as goal

abbrev pub invariant-loop-head : goal.invariant-loop-head
invariant-loop-head g l = record {
  size : l.size ≡ length (entries (take l.count (g.S.EntrySource.entries l.source)));
  limit : l.size + 36 < 2 ^ 32;
  counted : l.count ≤ l.size;
  within : l.count ≤ length (g.S.EntrySource.entries l.source);
}

abbrev pub decreases-loop-head : goal.decreases-loop-head
decreases-loop-head g l = length (g.S.EntrySource.entries l.source) - l.count
