use Rattle.std.proofs.Common.{ap}
use Rattle.owner_port.specs.declared.port.OwnerPort.{OwnerPort}
use Rattle.owner_sockets.proofs.guest.OwnerLinkUnkeptGuest.begin_round.Goals as goal

pub returns-clause-begun : goal.returns-clause-begun
returns-clause-begun g c = ap (λ (p : OwnerPort). p.questions.prepared) c.take_reply.ensures.same
