use Rattle.std.proofs.Common.{◌<◌, ◌≤◌, length, None, refl, sym, ap, subst, ◌∙◌}
use Rattle.enip_adapter.specs.Asks.{with_reply}
use Rattle.enip_adapter.proofs.FeedLemmas.{feeds}
use Rattle.enip_adapter.proofs.adapter.Adapter.feed_prepared.Goals as goal

pub returns : goal.returns
returns c =
    let fed = feeds c.self.inside.places c.feed-taken.new.self c.self.inside.next_handle
    c.self.inside.shared c.advance.new.self c.feed-taken.new.shared c.args.now
    c.peer.inside.handle c.args.peer.now c.args.piece.now c.feed-taken.new.answer.items c.feed-taken.result
    (with_reply c.args.self.now c.args.reply) (c.self.view_is ∙ c.prepare.ensures.call) c.advance.ensures
    c.peer.view_is c.feed-taken.ensures.limit (c.feed-taken.ensures.fed c.self.inside.next_handle) in (
      (refl, (λ _. tt), ap (λ a. with_reply a None) fed.state),
      record {
        state = tt;
        taken = c.lend.ensures.taken ∙ fed.taken;
        answer = c.lend.ensures.answer ∙ ap (λ a. a.output) fed.answer;
        no_reply_reason = c.lend.ensures.no_reply_reason;
        close = c.lend.ensures.close ∙ ap (λ a. a.close) fed.answer;
        within = subst (λ n. n ≤ length c.args.piece.now) (sym c.lend.ensures.taken) c.feed-taken.ensures.within;
        progress = λ some alive. subst (λ n. 0 < n) (sym c.lend.ensures.taken)
            (c.feed-taken.ensures.progress some (sym c.lend.ensures.close ∙ alive));
        fits = c.lend.ensures.fits;
      },
    )
