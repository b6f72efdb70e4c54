use Rattle.cip_owner.proofs.TicketLemmas.{tickets as law}
use Rattle.cip_owner.proofs.laws.tickets_rise.Goals as goal

pub returns : goal.returns
returns c = law
