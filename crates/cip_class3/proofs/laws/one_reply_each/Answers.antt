use Rattle.cip_class3.proofs.Counts.{events_of-accepted_once}
use Rattle.cip_class3.proofs.laws.one_reply_each.Goals as goal

pub returns : goal.returns
returns c = events_of-accepted_once
