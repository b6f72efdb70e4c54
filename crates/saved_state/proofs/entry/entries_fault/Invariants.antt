use Rattle.std.proofs.Common.{◌≡◌, ◌≤◌, ◌-◌, ◌^◌}
use Rattle.saved_state.specs.Reading.{entries_fault}
use Rattle.saved_state.proofs.entry.entries_fault.Given as goal

abbrev pub invariant-loop-index : goal.invariant-loop-index
invariant-loop-index l = record {
  left : entries_fault (l.count - l.index) l.least l.rest ≡ entries_fault l.count 0 l.text;
  least : l.least ≤ 2 ^ 63;
}
