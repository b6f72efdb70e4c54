use Rattle.std.proofs.Common.{◌≡◌, ◌≤◌, ◌+◌, drop}
use Rattle.enip_keep.specs.Kept.{pairs_of}
use Rattle.kept_adapter.specs.Hindrances.{count_of, is_waiting}
use Rattle.kept_adapter.proofs.hindrances.waiting_commands.Given as goal

abbrev pub invariant-loop-entry : goal.invariant-loop-entry
invariant-loop-entry l =
    (l.count + count_of is_waiting (pairs_of (drop l.entry-index l.entries)) ≡ count_of is_waiting (pairs_of l.entries))
    × (l.count ≤ l.entry-index)
