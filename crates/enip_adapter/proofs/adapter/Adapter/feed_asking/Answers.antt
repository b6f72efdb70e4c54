use Rattle.std.proofs.Common.{refl, sym, ap, ◌∙◌}
use Rattle.std.specs.Option.{option_map}
use Rattle.cip_ledger.specs.Reaching.{listed}
use Rattle.cip_objects.specs.OwnRequests.{asked_in}
use Rattle.enip_adapter.specs.Adapter.{feed_output}
use Rattle.enip_adapter.proofs.OwnerLemmas.{nobody_asked, owner_asked}
use Rattle.enip_adapter.proofs.adapter.Adapter.feed_asking.Goals as goal

pub returns-in-Some : goal.returns-in-Some
returns-in-Some g c =
    let fed = owner_asked g.O.Owner.answer g.O.Owner.after c.args.self.now c.asked.follows.lender-at-none c.feed_prepared.follows.lender-at-none
    c.args.owner.now c.answer-reply.new.self c.args.now c.args.peer.now c.args.piece.now c.feed_prepared.result.taken
    (feed_output c.feed_prepared.result.answer c.feed_prepared.result.no_reply_reason) c.feed_prepared.result.close
    (asked_in c.in-Some.request) (asked_in c.in-Some.request) c.answer-reply.result
    (ap (λ o. listed (option_map asked_in o)) (sym c.in-Some.is) ∙ c.asked.ensures.asked) c.asked.follows.holds-at-none refl c.answer-reply.ensures.answer
    c.answer-reply.ensures.after c.feed_prepared.follows.holds-at-none c.feed_prepared.ensures.taken
    c.feed_prepared.ensures.answer c.feed_prepared.ensures.close in (
      (refl, (λ _. tt), fed.state),
      record {
        state = tt;
        owner = fed.own;
        taken = fed.taken;
        answer = fed.output;
        no_reply_reason = c.feed_prepared.ensures.no_reply_reason;
        close = fed.close;
        within = c.feed_prepared.ensures.within;
        progress = c.feed_prepared.ensures.progress;
        fits = c.feed_prepared.ensures.fits;
      },
    )

pub returns-in-None : goal.returns-in-None
returns-in-None g c =
    let fed = nobody_asked g.O.Owner.answer g.O.Owner.after c.args.self.now c.asked.follows.lender-at-none c.feed.follows.lender-at-none
    c.args.owner.now c.args.now c.args.peer.now c.args.piece.now c.feed.result.taken
    (feed_output c.feed.result.answer c.feed.result.no_reply_reason) c.feed.result.close
    (ap (λ o. listed (option_map asked_in o)) (sym c.in-None.is) ∙ c.asked.ensures.asked) c.asked.follows.holds-at-none c.feed.follows.holds-at-none
    c.feed.ensures.taken c.feed.ensures.answer c.feed.ensures.close in (
      (refl, (λ _. tt), fed.state),
      record {
        state = tt;
        owner = fed.own;
        taken = fed.taken;
        answer = fed.output;
        no_reply_reason = c.feed.ensures.no_reply_reason;
        close = fed.close;
        within = c.feed.ensures.within;
        progress = c.feed.ensures.progress;
        fits = c.feed.ensures.fits;
      },
    )
