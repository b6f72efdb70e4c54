use Rattle.std.proofs.Common.{refl, le_antisymm, ◌∙◌}
use Rattle.enip_server.specs.declared.peers.Peers.{Peers}
use Rattle.enip_server.proofs.RoundLemmas.{all_free}
use Rattle.enip_server.proofs.peers.Peers.new.Goals as goal

pub returns : goal.returns
returns g c =
    all_free
    (let p : Peers g.row.W.Denot = record { adapter = c.args.adapter; idle_timeout = c.args.idle_timeout; slots = c.into_boxed_slice.result } in p)
    c.args.adapter c.args.idle_timeout c.free-places.result.0 c.loop.counter refl refl
    c.free-places.ensures.peers (le_antisymm c.loop.auto.counter-end c.loop-test.false)
    (c.into_boxed_slice.ensures.items ∙ c.loop.invariant.2)
