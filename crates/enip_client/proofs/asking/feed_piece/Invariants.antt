use Rattle.std.proofs.Common.{◌≡◌, ◌<◌, ◌≤◌, ◌-◌, length, take, true, false, None, List}
use Rattle.enip_wire.specs.Frames.{Frame}
use Rattle.enip_client.specs.Asking.{IsPartial, is_awaiting}
use Rattle.enip_client.specs.AskSteps.{ask_phase_of}
use Rattle.enip_client.proofs.HearingLemmas.{SoFar}
use Rattle.enip_client.proofs.asking.feed_piece.Given as goal

abbrev pub invariant-loop-heard : goal.invariant-loop-heard
invariant-loop-heard g l = record {
  within : l.heard ≤ length l.piece;
  failures : g.W.Sink.failures l.writer ≡ g.W.Sink.failures l.fn.writer;
  some : is_awaiting (ask_phase_of l.step) ≡ false → 0 < l.heard;
  healthy : is_awaiting (ask_phase_of l.step) ≡ true → l.client.state.fault ≡ None;
  so_far : IsPartial l.fn.client.held → (sent : List Frame) → SoFar l.asked l.fn.step (take l.heard l.piece)
      (record { client = l.fn.client; written = g.W.Sink.written l.fn.writer; reply = l.fn.reply.items })
      (record { client = l.client; written = g.W.Sink.written l.writer; reply = l.reply.items }) l.step sent;
}

abbrev pub decreases-loop-heard : goal.decreases-loop-heard
decreases-loop-heard g l = length l.piece - l.heard
