use Rattle.std.proofs.Common.{sym, ◌∙◌, ap, arith}
use Rattle.std.specs.Option.{option_map}
use Rattle.cip_route.specs.declared.send.TheConstants.{UNCONNECTED_SEND}
use Rattle.enip_wire.specs.Stream.{frame_of}
use Rattle.enip_client.specs.Client.{answer_of}
use Rattle.enip_client.specs.Hears.{answer_to}
use Rattle.enip_client.proofs.HearLemmas.{routed_heard}
use Rattle.enip_client.proofs.state.State.process_routed_reply.Goals as goal

pub returns : goal.returns
returns c =
    routed_heard c.args.self.now (frame_of c.args.frame) (answer_of c.in-Some.field-0)
    (answer_to c.args.service c.args.frame.body.now) (answer_to UNCONNECTED_SEND c.args.frame.body.now)
    (sym c.answer_to.ensures.answer ∙ ap (option_map answer_of) c.in-Some.is) c.in-Some.ensures.stands
    (omega (arith, c.ranges.frame))
