use Rattle.std.proofs.Common.{ap}
use Rattle.enip_server.specs.Rounds.{state_of}
use Rattle.enip_server.proofs.OwnWriteLemmas.{written_then}
use Rattle.owner_port.specs.declared.port.OwnerPort.{OwnerPort}
use Rattle.owner_sockets.proofs.guest.OwnerLinkRoundGuest.begin_round.Goals as goal

pub returns-clause-begun : goal.returns-clause-begun
returns-clause-begun g c = ap (λ (p : OwnerPort). p.questions.prepared) c.take_reply.ensures.same

pub returns-clause-writes : goal.returns-clause-writes
returns-clause-writes g c =
    written_then (state_of c.args.peers.now) (state_of c.receive.new.peers) (state_of c.mark.new.peers)
    c.receive.ensures.writes c.mark.ensures.writes

pub returns-clause-seen : goal.returns-clause-seen
returns-clause-seen g c = λ seen.
    c.take_reply.ensures.seen (state_of c.mark.new.peers).adapter.state.shared.objects
    (c.mark.ensures.seen (c.receive.ensures.seen seen))
