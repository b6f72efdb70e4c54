use Rattle.std.proofs.Common.{◌≡◌, drop}
use Rattle.enip_server.specs.Rounds.{state_of}
use Rattle.kept_server.specs.Rounds.{with_marks}
use Rattle.device_rounds.proofs.unkept_peers.mark_ready.Given as goal

abbrev pub invariant-loop-wire : goal.invariant-loop-wire
invariant-loop-wire g l =
    with_marks (drop l.wire-index l.ready) (state_of l.peers) ≡ with_marks l.ready (state_of l.fn.peers)
