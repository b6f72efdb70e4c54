use Rattle.cip_owner.proofs.TicketLemmas.{handed}
use Rattle.cip_owner.proofs.laws.handed_over_stays.Goals as goal

pub returns : goal.returns
returns c = handed
