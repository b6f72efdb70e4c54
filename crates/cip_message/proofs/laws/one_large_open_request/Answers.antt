use Rattle.cip_message.specs.Open.{large}
use Rattle.cip_message.proofs.Opens.{open_is_one}
use Rattle.cip_message.proofs.laws.one_large_open_request.Goals as goal

pub returns : goal.returns
returns c = open_is_one large
