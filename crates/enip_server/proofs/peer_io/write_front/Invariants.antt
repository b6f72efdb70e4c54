use Rattle.std.proofs.Common.{◌≡◌, ◌≤◌, ◌-◌, length, take}
use Rattle.std.specs.Io.KnownBytes.{Appends}
use Rattle.enip_server.specs.PeerStates.{GoesOn}
use Rattle.enip_server.proofs.peer_io.write_front.Given as goal

abbrev pub invariant-loop-written : goal.invariant-loop-written
invariant-loop-written g l = record {
  within : l.written ≤ length l.bytes;
  appended : Appends (g.W.Wire.written l.fn.wire) (g.W.Wire.written l.wire) (take l.written l.bytes);
  left : g.W.Wire.left l.wire ≡ g.W.Wire.left l.fn.wire;
  known : g.W.Wire.known l.wire ≡ g.W.Wire.known l.fn.wire;
  reads : (g.W.Wire.counts l.wire).reads ≡ (g.W.Wire.counts l.fn.wire).reads;
  goes_on : GoesOn (g.W.Wire.counts l.fn.wire) (g.W.Wire.counts l.wire);
}

abbrev pub decreases-loop-written : goal.decreases-loop-written
decreases-loop-written g l = length l.bytes - l.written
