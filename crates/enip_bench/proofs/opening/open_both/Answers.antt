use Rattle.std.proofs.Common.{◌∙◌}
use Rattle.enip_bench.proofs.BenchLemmas.{opened_so}
use Rattle.enip_bench.proofs.opening.open_both.Goals as goal

pub returns : goal.returns
returns c =
    opened_so c.args.adapter.now c.begin.new.adapter c.register.new.adapter c.open.new.adapter c.begin-2.new.adapter
    c.feed_unanswered.new.adapter c.args.client.now c.register.new.client c.open.new.client c.in_ok-peer.peer
    c.in_ok-second.second c.deref.result.now c.in_ok-peer.ensures.0 c.in_ok-peer.ensures.1 c.in_ok-register.ensures
    c.in_ok-open.ensures c.in_ok-second.ensures.0 c.in_ok-second.ensures.1 (c.deref.ensures.0 ∙ c.write_register.ensures)
    c.feed_unanswered.ensures
