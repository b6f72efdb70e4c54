use Rattle.std.proofs.Common.{◌≡◌, drop}
use Rattle.enip_keep.specs.Kept.{pairs_of}
use Rattle.kept_server.specs.Changes.{keys_of, rise_above}
use Rattle.kept_adapter.proofs.saving.do_keys_rise.Given as goal

abbrev pub invariant-loop-entry : goal.invariant-loop-entry
invariant-loop-entry l =
    rise_above l.last (keys_of (pairs_of (drop l.entry-index l.rest))) ≡ rise_above l.initial.last (keys_of (pairs_of l.rest))
