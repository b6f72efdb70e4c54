use Rattle.std.proofs.Common.{ap}
use Rattle.enip_bench.specs.CountingOpening.{opening_between}
use Rattle.enip_bench.specs.Stored.{acceptances_in}
use Rattle.enip_bench.proofs.BenchLemmas.{opened_between}
use Rattle.enip_bench.proofs.bench.InFlight.open.Goals as goal

pub returns : goal.returns
returns c =
    opened_between (opening_between c.args.adapter.now c.args.client.now) c.open_both.new.adapter c.open_both.new.client
    (c.in_ok-peer.peer, c.in_ok-peer.second) c.in_ok-sent.sent.frames c.in_ok-back.back.frames
    (acceptances_in c.in_ok-accepted.accepted.items) c.in_ok-peer.ensures c.in_ok-sent.ensures c.in_ok-back.ensures
    (ap acceptances_in c.in_ok-accepted.ensures.items)
