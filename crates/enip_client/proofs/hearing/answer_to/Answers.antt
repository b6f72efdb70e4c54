use Rattle.std.proofs.Common.{refl}
use Rattle.enip_client.proofs.PlaceLemmas.{rr_place}
use Rattle.enip_client.proofs.hearing.answer_to.Goals as goal

pub returns-then-reply-reply_service-clause-stands :
    goal.returns-then-reply-reply_service-clause-stands
returns-then-reply-reply_service-clause-stands c =
    rr_place c.args.body.now c.in-Ok.bytes.now ((c.in-Ok.ensures.spelled c.in-Ok.bytes.now).0 refl)
