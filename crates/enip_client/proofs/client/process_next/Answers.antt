use Rattle.std.proofs.Common.{◌∙◌, ap, length, ◌==◌}
use Rattle.enip_wire.proofs.TakeLemmas.{some_taken}
use Rattle.enip_client.proofs.FeedLemmas.{frame_news}
use Rattle.enip_client.proofs.client.process_next.Goals as goal

pub returns-in-Frame-clause-heard_event : goal.returns-in-Frame-clause-heard_event
returns-in-Frame-clause-heard_event c =
    frame_news c.args.state.now c.args.reader.now c.args.piece.now c.next.follows.lender-at-none c.next.result.0
    c.is_empty-in_place.result c.in-Frame.frame c.next.result.1 c.process-found.result c.in-Frame.is c.next.ensures.number c.next.ensures.shown
    c.next.ensures.kind c.next.follows.holds-at-none
    (c.is_empty-in_place.ensures ∙ ap (λ b. length b == 0) c.bytes.ensures.lent) c.process-found.ensures.heard_event

pub returns-in-Frame-clause-progress : goal.returns-in-Frame-clause-progress
returns-in-Frame-clause-progress c =
    some_taken c.args.reader.now c.args.piece.now c.next.result.0 c.requires c.next.ensures.taken

pub returns-in-TooLong-clause-progress : goal.returns-in-TooLong-clause-progress
returns-in-TooLong-clause-progress c =
    some_taken c.args.reader.now c.args.piece.now c.next.result.0 c.requires c.next.ensures.taken
