use Rattle.std.proofs.Common.{refl}
use Rattle.enip_config.proofs.StandardLemmas.{over_two_addresses}
use Rattle.enip_config.proofs.standard.two_addresses.Goals as goal

pub returns-in_default-clause-refused : goal.returns-in_default-clause-refused
returns-in_default-clause-refused c = (refl, over_two_addresses c.args.values.now c.in_default.len_at_least)
