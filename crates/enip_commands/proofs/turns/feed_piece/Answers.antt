use Rattle.std.proofs.lemmas.Result.{err_from_is_err_and}
use Rattle.cip_bytes.proofs.Bytes.{rest_slice}
use Rattle.enip_client.specs.Client.{heard_event_in}
use Rattle.enip_commands.proofs.TurnLemmas.{none_fed, more_fed, fed_to_a_refusal}
use Rattle.enip_commands.proofs.turns.feed_piece.Goals as goal

pub loop-rest-init : goal.loop-rest-init
loop-rest-init c = none_fed c.args.turn c.args.client.now c.args.reply.now.items c.args.piece.now

pub returns-in_err-is_heard : goal.returns-in_err-is_heard
returns-in_err-is_heard c =
    let p = err_from_is_err_and c.from_residual.result c.from_residual.ensures.1 in
    rw (p.1, p.2)
    (fed_to_a_refusal c.args.turn c.args.client.now c.loop-rest.client c.feed-hearing.follows.lender-at-none c.args.reply.now.items
    c.loop-rest.reply.items c.args.piece.now c.loop-rest.rest.now c.loop-rest.is_heard c.feed-hearing.result.taken
    (heard_event_in c.feed-hearing.result.heard) c.in_err-is_heard.field-0.0 c.loop-rest.invariant c.feed-hearing.follows.holds-at-none
    c.feed-hearing.ensures.taken c.feed-hearing.ensures.heard c.in_err-is_heard.ensures.0)

pub loop-rest-preserved : goal.loop-rest-preserved
loop-rest-preserved c =
    more_fed c.args.turn c.args.client.now c.loop-rest.client c.feed-hearing.follows.lender-at-none c.args.reply.now.items
    c.loop-rest.reply.items c.keep.new.reply.items c.args.piece.now c.loop-rest.rest.now _ c.loop-rest.is_heard c.in_ok-is_heard.field-0
    c.feed-hearing.result.taken (heard_event_in c.feed-hearing.result.heard) c.loop-rest.invariant c.feed-hearing.follows.holds-at-none
    c.feed-hearing.ensures.taken c.feed-hearing.ensures.heard c.in_ok-is_heard.ensures.0 c.in_ok-is_heard.ensures.2
    (rest_slice c.feed-hearing.result.taken c.loop-rest.rest.now)
