use Rattle.std.proofs.Common.{◌-◌}
use Rattle.cip_manager.specs.Index.{ids}
use Rattle.cip_manager.proofs.SearchLemmas.{IsSearching}
use Rattle.cip_manager.proofs.search.position_of.Given as goal

abbrev pub invariant-loop-low : goal.invariant-loop-low
invariant-loop-low l = IsSearching (ids l.index) l.id l.low l.high l.fn.steps.count l.steps.count

abbrev pub decreases-loop-low : goal.decreases-loop-low
decreases-loop-low l = l.high - l.low
