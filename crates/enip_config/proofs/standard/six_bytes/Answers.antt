use Rattle.std.proofs.Common.{refl}
use Rattle.enip_config.proofs.StandardLemmas.{under_six, over_six}
use Rattle.enip_config.proofs.standard.six_bytes.Goals as goal

pub returns-in_default-clause-refused : goal.returns-in_default-clause-refused
returns-in_default-clause-refused c = (refl, under_six c.args.values.now c.in_default.len_below)

pub returns-in_default-2-clause-refused : goal.returns-in_default-2-clause-refused
returns-in_default-2-clause-refused c = (refl, over_six c.args.values.now c.in_default.len_at_least)
