use Rattle.std.proofs.Common.{length, map, ap, ◌∙◌, arith}
use Rattle.std.proofs.lemmas.List.{take_all}
use Rattle.cip_manager.specs.ConnectionInfo.{connection_info}
use Rattle.enip_adapter.proofs.EndingLemmas.{seen_more}
use Rattle.enip_adapter.proofs.endings.remember.Goals as goal

pub loop-index-init : goal.loop-index-init
loop-index-init c = (c.clear.ensures, omega (arith, ap length c.clear.ensures))

pub push-requires : goal.push-requires
push-requires c = (omega arith, omega (arith, c.loop-index.invariant.1, c.loop-index-test.true, c.connections-index-end.ensures.most))

pub loop-index-preserved : goal.loop-index-preserved
loop-index-preserved c = (
  seen_more c.args.adapter.now.state.shared.manager.connections c.loop-index.index c.connection_info.result c.loop-index.remembered.items
      c.push.new.self.items (omega (arith, c.loop-index-test.true, c.connections-index-end.ensures.count)) c.connection_info.ensures
      c.push.ensures.items c.loop-index.invariant.0,
  omega (arith, c.push.ensures.len, c.loop-index.invariant.1),
)

pub returns : goal.returns
returns c =
    c.loop-index.invariant.0
    ∙ ap (map connection_info) (take_all c.loop-index.index c.args.adapter.now.state.shared.manager.connections
    (omega (arith, c.loop-index-test.false, c.connections-index-end.ensures.count)))
