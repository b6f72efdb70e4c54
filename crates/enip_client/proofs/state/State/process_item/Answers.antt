use Rattle.std.proofs.Common.{sym, ◌∙◌, arith, refl}
use Rattle.std.proofs.lemmas.Bool.Decides.{nat_tests}
use Rattle.enip_wire.specs.Stream.{frame_of}
use Rattle.enip_client.proofs.PlaceLemmas.{unit_place}
use Rattle.enip_client.proofs.HearLemmas.{item_heard}
use Rattle.enip_client.proofs.state.State.process_item.Goals as goal

pub returns-in-Accepted : goal.returns-in-Accepted
returns-in-Accepted c =
    rw c.receive.ensures.state
    (item_heard c.args.self.now (frame_of c.args.frame) c.in-Ok.id c.in-Ok.item.now c.in-Accepted.reply.now
    (sym c.is_for_connection.ensures ∙ c.if-not-is_for_connection.false) (sym c.in-Ok.ensures.exact ∙ refl)
    (grind (arith, nat_tests, c.if-id-self.false)) (sym c.in-Accepted.ensures.reply)
    (unit_place c.args.frame.body.now c.in-Ok.item.now c.in-Ok.id
    ((c.in-Ok.ensures.spelled c.in-Ok.id c.in-Ok.item.now).0 refl))
    (omega (arith, c.ranges.frame)))
