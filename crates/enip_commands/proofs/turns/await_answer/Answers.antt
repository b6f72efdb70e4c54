use Rattle.std.proofs.Common.{◌≡◌, ◌∙◌, refl, subst, false, take, arith}
use Rattle.std.proofs.lemmas.Result.{err_from_is_err_and}
use Rattle.enip_commands.proofs.TurnLemmas.{Awaits, none_awaited, more_awaited, not_read, not_heard}
use Rattle.enip_commands.proofs.turns.await_answer.Goals as goal

pub loop-is_heard-init : goal.loop-is_heard-init
loop-is_heard-init g c =
    record { failures = refl; so_far = none_awaited c.args.turn c.args.client.now c.args.reply.now.items (g.R.Source.left c.args.reader.now) }

pub returns-in_err-size : goal.returns-in_err-size
returns-in_err-size g c written write_failures =
    let p = err_from_is_err_and c.from_residual.result c.from_residual.ensures.1 in
    rw (p.1, p.2)
    (not_read c.args.turn c.args.client.now c.loop-is_heard.client c.args.reply.now.items c.loop-is_heard.reply.items c.read.new.into
    (g.R.Source.left c.args.reader.now) (g.R.Source.left c.loop-is_heard.reader) (g.R.Source.left c.read.new.reader)
    (g.R.Source.reads c.args.reader.now) (g.R.Source.reads c.loop-is_heard.reader) (g.R.Source.reads c.read.new.reader)
    (g.R.Source.failures c.args.reader.now) (g.R.Source.failures c.loop-is_heard.reader) (g.R.Source.failures c.read.new.reader)
    c.loop-is_heard.is_heard c.in_err-size.field-0.0 c.loop-is_heard.invariant.so_far c.loop-is_heard.invariant.failures
    c.in_err-size.ensures.read written write_failures)

pub returns-in_err-is_heard : goal.returns-in_err-is_heard
returns-in_err-is_heard g c written write_failures =
    let p = err_from_is_err_and c.from_residual-in_err-is_heard.result c.from_residual-in_err-is_heard.ensures.1 in
    rw (p.1, p.2)
    (not_heard c.args.turn c.args.client.now c.loop-is_heard.client c.feed_piece.new.client c.args.reply.now.items c.loop-is_heard.reply.items
    c.feed_piece.new.reply.items (take c.in_ok-size.size c.read.new.into) (g.R.Source.left c.args.reader.now)
    (g.R.Source.left c.loop-is_heard.reader) (g.R.Source.left c.read.new.reader) (g.R.Source.reads c.args.reader.now)
    (g.R.Source.reads c.read.new.reader) (g.R.Source.failures c.args.reader.now) (g.R.Source.failures c.read.new.reader)
    c.loop-is_heard.is_heard c.in_err-is_heard.field-0.0 c.loop-is_heard.invariant.so_far c.in_ok-size.ensures.read.0
    c.in_err-is_heard.ensures written write_failures)

pub loop-is_heard-preserved : goal.loop-is_heard-preserved
loop-is_heard-preserved g c =
    let none : c.loop-is_heard.is_heard ≡ false = search in
    record {
      failures = c.in_ok-size.ensures.read.4 ∙ c.loop-is_heard.invariant.failures;
      so_far = more_awaited c.args.turn c.args.client.now c.loop-is_heard.client c.feed_piece.new.client c.args.reply.now.items
          c.loop-is_heard.reply.items c.feed_piece.new.reply.items (take c.in_ok-size.size c.read.new.into)
          (g.R.Source.left c.args.reader.now) (g.R.Source.left c.loop-is_heard.reader) (g.R.Source.left c.read.new.reader)
          c.in_ok-is_heard.is_heard
          (subst (Awaits c.args.turn c.args.client.now c.loop-is_heard.client c.args.reply.now.items c.loop-is_heard.reply.items
          (g.R.Source.left c.args.reader.now) (g.R.Source.left c.loop-is_heard.reader)) none c.loop-is_heard.invariant.so_far)
          c.in_ok-size.ensures.read.0 c.in_ok-is_heard.ensures;
    }
