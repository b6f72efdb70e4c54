use Rattle.owner_port.specs.Ports.{contents_in}
use Rattle.owner_port.specs.Sessions.{IsSetReported}
use Rattle.owner_port.proofs.SessionLemmas.{sent_more}
use Rattle.owner_port.proofs.sending.send_sets.Goals as goal

pub loop-preserved : goal.loop-preserved
loop-preserved c =
    sent_more c.loop.counter (IsSetReported c.args.types.now (contents_in c.args.adapter.now) c.args.by c.args.attribute)
    c.args.session.now c.loop.session c.send_changed.new.session c.loop.invariant c.send_changed.ensures
