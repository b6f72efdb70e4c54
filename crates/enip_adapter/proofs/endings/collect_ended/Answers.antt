use Rattle.std.proofs.Common.{length, ap, ◌∙◌, arith}
use Rattle.std.proofs.lemmas.List.{take_all}
use Rattle.enip_adapter.specs.Endings.{endings_of}
use Rattle.enip_adapter.proofs.EndingLemmas.{ended_more}
use Rattle.enip_adapter.proofs.endings.collect_ended.Goals as goal

pub loop-connection-init : goal.loop-connection-init
loop-connection-init c = (c.clear.ensures, omega (arith, ap length c.clear.ensures))

pub collect-requires : goal.collect-requires
collect-requires c = omega (arith, c.loop-connection.invariant.1, c.loop-connection-test.true, c.requires)

pub loop-connection-preserved : goal.loop-connection-preserved
loop-connection-preserved c = (
  ended_more c.args.adapter.now c.args.remembered.now c.loop-connection.connection-index _ c.loop-connection.ended.items
      c.collect.new.ended.items c.loop-connection-test.true c.collect.ensures.text c.loop-connection.invariant.0,
  omega (arith, c.collect.ensures.size, c.loop-connection.invariant.1),
)

pub returns : goal.returns
returns c =
    c.loop-connection.invariant.0
    ∙ ap (endings_of c.args.adapter.now) (take_all c.loop-connection.connection-index c.args.remembered.now (omega (arith, c.loop-connection-test.false)))
