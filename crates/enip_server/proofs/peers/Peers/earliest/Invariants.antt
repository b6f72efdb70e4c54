use Rattle.std.proofs.Common.{◌≡◌, drop}
use Rattle.std.specs.Box.{boxed_slice_items}
use Rattle.enip_server.specs.Rounds.{earliest_of}
use Rattle.enip_server.proofs.peers.Peers.earliest.Given as goal

abbrev pub invariant-loop-io : goal.invariant-loop-io
invariant-loop-io g l =
    earliest_of l.idle l.earliest (drop l.io-index (boxed_slice_items l.self.slots))
    ≡ earliest_of l.idle l.moment (boxed_slice_items l.self.slots)
