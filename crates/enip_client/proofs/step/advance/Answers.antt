use Rattle.std.proofs.Common.{sym, ◌∙◌, ap, Ok, Err}
use Rattle.std.proofs.lemmas.Result.{err_from_is_err_and}
use Rattle.enip_client.specs.AskSteps.{step_in}
use Rattle.enip_client.specs.Client.{heard_event_in}
use Rattle.enip_client.proofs.AskLemmas.{once_failed, once_faulted, once_waits, once_said}
use Rattle.enip_client.proofs.step.advance.Goals as goal

pub returns-in_err-next-clause-heard : goal.returns-in_err-next-clause-heard
returns-in_err-next-clause-heard g c =
    let p = err_from_is_err_and c.from_residual.result c.from_residual.ensures.1 in
    once_failed c.args.asked c.args.step c.args.piece.now c.args.client.now c.args.reply.now.items (heard_event_in c.feed-hearing.result.heard)
    c.feed-hearing.follows.lender-at-none c.next_call.new.reply.items (g.W.Sink.written c.args.writer.now) c.in_err-next.field-0.0 (step_in c.from_residual.result)
    (record {
      healthy = c.requires.healthy;
      waits = c.requires.awaiting;
      client = c.feed-hearing.follows.holds-at-none;
      told = c.feed-hearing.ensures.heard;
      kept = c.next_call.ensures.reply;
    })
    c.in_err-next.ensures.next (ap step_in p.1 ∙ ap (λ x. Err x) p.2)

pub returns-in-Some-clause-heard : goal.returns-in-Some-clause-heard
returns-in-Some-clause-heard g c =
    once_faulted c.args.asked c.args.step c.args.piece.now c.args.client.now c.args.reply.now.items (heard_event_in c.feed-hearing.result.heard)
    c.feed-hearing.follows.lender-at-none c.next_call.new.reply.items (g.W.Sink.written c.args.writer.now) c.in-Some.fault
    (record {
      healthy = c.requires.healthy;
      waits = c.requires.awaiting;
      client = c.feed-hearing.follows.holds-at-none;
      told = c.feed-hearing.ensures.heard;
      kept = c.next_call.ensures.reply;
    })
    c.in-Some.ensures

pub returns-in_err-perform-in-Some-next-clause-heard :
    goal.returns-in_err-perform-in-Some-next-clause-heard
returns-in_err-perform-in-Some-next-clause-heard g c =
    let p = err_from_is_err_and c.from_residual-in_err-perform-in-Some-next.result c.from_residual-in_err-perform-in-Some-next.ensures.1 in
    once_said c.args.asked c.args.step c.args.piece.now c.args.client.now c.args.reply.now.items (heard_event_in c.feed-hearing.result.heard)
    c.feed-hearing.follows.lender-at-none c.next_call.new.reply.items (g.W.Sink.written c.args.writer.now) (g.W.Sink.written c.perform.new.writer)
    c.in-Some-next.call c.perform.new.client (Err c.in_err-perform-in-Some-next.field-0.0) (step_in c.from_residual-in_err-perform-in-Some-next.result)
    (record {
      healthy = c.requires.healthy;
      waits = c.requires.awaiting;
      client = c.feed-hearing.follows.holds-at-none;
      told = c.feed-hearing.ensures.heard;
      kept = c.next_call.ensures.reply;
    })
    c.in_default.ensures (ap (λ n. Ok n) (sym c.in-Some-next.is) ∙ c.in_ok-next.ensures.next)
    c.in_err-perform-in-Some-next.ensures.state c.in_err-perform-in-Some-next.ensures.performed (ap step_in p.1 ∙ ap (λ x. Err x) p.2)

pub returns-in-None-clause-heard : goal.returns-in-None-clause-heard
returns-in-None-clause-heard g c =
    once_waits c.args.asked c.args.step c.args.piece.now c.args.client.now c.args.reply.now.items (heard_event_in c.feed-hearing.result.heard)
    c.feed-hearing.follows.lender-at-none c.next_call.new.reply.items (g.W.Sink.written c.args.writer.now)
    (record {
      healthy = c.requires.healthy;
      waits = c.requires.awaiting;
      client = c.feed-hearing.follows.holds-at-none;
      told = c.feed-hearing.ensures.heard;
      kept = c.next_call.ensures.reply;
    })
    c.in_default.ensures (ap (λ n. Ok n) (sym c.in-None.is) ∙ c.in_ok-next.ensures.next)

pub returns-in_ok-perform-in-Some-next-clause-heard : goal.returns-in_ok-perform-in-Some-next-clause-heard
returns-in_ok-perform-in-Some-next-clause-heard g c =
    once_said c.args.asked c.args.step c.args.piece.now c.args.client.now c.args.reply.now.items (heard_event_in c.feed-hearing.result.heard)
    c.feed-hearing.follows.lender-at-none c.next_call.new.reply.items (g.W.Sink.written c.args.writer.now) (g.W.Sink.written c.perform.new.writer)
    c.in-Some-next.call c.perform.new.client (Ok tt) (Ok c.step.result)
    (record {
      healthy = c.requires.healthy;
      waits = c.requires.awaiting;
      client = c.feed-hearing.follows.holds-at-none;
      told = c.feed-hearing.ensures.heard;
      kept = c.next_call.ensures.reply;
    })
    c.in_default.ensures (ap (λ n. Ok n) (sym c.in-Some-next.is) ∙ c.in_ok-next.ensures.next)
    c.in_ok-perform-in-Some-next.ensures.state c.in_ok-perform-in-Some-next.ensures.performed (ap (λ x. Ok x) c.step.ensures)
