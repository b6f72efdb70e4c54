use Rattle.owner_port.proofs.SessionLemmas.{ended_more}
use Rattle.owner_port.proofs.sending.+send_ends.Goals as goal

pub returns : goal.returns
returns t c =
    ended_more c.args.connections.now c.in-Some.connection.now c.in-Some.others.now c.args.session.now c.send_end.new.session
    c.send_ends.new.session c.in-Some.ensures.cases.0 c.send_end.ensures c.send_ends.ensures
