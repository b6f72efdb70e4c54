use Rattle.std.proofs.Common.{sym, ◌∙◌, ap}
use Rattle.enip_wire.specs.Frames.{frame}
use Rattle.enip_client.specs.Frames.{request_frame}
use Rattle.enip_bench.specs.Stored.{world_in}
use Rattle.enip_bench.proofs.BenchLemmas.{other_told}
use Rattle.enip_bench.proofs.world.World.execute_other.Goals as goal

pub returns-clause-step_kind : goal.returns-clause-step_kind
returns-clause-step_kind c =
    other_told (world_in c.args.self.now) c.args.request.now c.deref.result.now c.feed_unanswered.new.adapter
    (sym c.is_unconnected.ensures ∙ c.if-not-is_unconnected.false)
    (c.deref.ensures.0 ∙ (c.write_request.ensures ∙ ap (λ session. frame (request_frame session 0 c.args.request.now)) c.handle.ensures))
    c.feed_unanswered.ensures
