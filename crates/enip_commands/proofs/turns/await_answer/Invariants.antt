use Rattle.std.proofs.Common.{◌≡◌, ◌-◌, ◌^◌}
use Rattle.enip_commands.proofs.TurnLemmas.{Awaits}
use Rattle.enip_commands.proofs.turns.await_answer.Given as goal

abbrev pub invariant-loop-is_heard : goal.invariant-loop-is_heard
invariant-loop-is_heard g l = record {
  failures : g.R.Source.failures l.reader ≡ g.R.Source.failures l.fn.reader;
  so_far : Awaits l.turn l.fn.client l.client l.fn.reply.items l.reply.items (g.R.Source.left l.fn.reader) (g.R.Source.left l.reader) l.is_heard;
}

abbrev pub decreases-loop-is_heard : goal.decreases-loop-is_heard
decreases-loop-is_heard g l = 2 ^ 64 - 1 - g.R.Source.reads l.reader
