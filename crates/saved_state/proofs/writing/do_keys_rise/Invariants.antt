use Rattle.std.proofs.Common.{◌≡◌, ◌≤◌, ◌-◌, ◌^◌, length, drop}
use Rattle.saved_state.specs.States.{rise_from}
use Rattle.saved_state.proofs.writing.do_keys_rise.Given as goal

abbrev pub invariant-loop-head : goal.invariant-loop-head
invariant-loop-head g l = record {
  left : rise_from l.least (drop l.index (g.S.EntrySource.entries l.source)) ≡ rise_from 0 (g.S.EntrySource.entries l.source);
  least : l.least ≤ 2 ^ 63;
  before : l.index ≤ l.least;
}

abbrev pub decreases-loop-head : goal.decreases-loop-head
decreases-loop-head g l = length (g.S.EntrySource.entries l.source) - l.index
