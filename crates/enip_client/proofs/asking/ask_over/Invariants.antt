use Rattle.std.proofs.Common.{◌≡◌, ◌-◌, ◌^◌, true, None, Ok}
use Rattle.enip_client.specs.Asking.{ends, is_awaiting}
use Rattle.enip_client.specs.AskSteps.{ask_phase_of}
use Rattle.enip_client.proofs.AskedLemmas.{Come}
use Rattle.enip_client.proofs.asking.ask_over.Given as goal

abbrev pub invariant-loop-asked : goal.invariant-loop-asked
invariant-loop-asked g l = record {
  read_failures : g.R.Source.failures l.reader ≡ g.R.Source.failures l.fn.reader;
  write_failures : g.W.Sink.failures l.writer ≡ g.W.Sink.failures l.fn.writer;
  healthy : is_awaiting (ask_phase_of l.step) ≡ true → l.client.state.fault ≡ None;
  so_far : Come l.asked
      (ends l.fn.client (g.R.Source.left l.fn.reader) (g.R.Source.reads l.fn.reader) (g.W.Sink.written l.fn.writer) l.fn.reply.items)
      (ends l.client (g.R.Source.left l.reader) (g.R.Source.reads l.reader) (g.W.Sink.written l.writer) l.reply.items)
      (Ok l.step);
}

abbrev pub decreases-loop-asked : goal.decreases-loop-asked
decreases-loop-asked g l = 2 ^ 64 - 1 - g.R.Source.reads l.reader
