use Rattle.std.proofs.Common.{refl}
use Rattle.enip_config.proofs.ValueLemmas.{under_two, over_two}
use Rattle.enip_config.proofs.objects.two_sizes.Goals as goal

pub returns-in_default-clause-refused : goal.returns-in_default-clause-refused
returns-in_default-clause-refused c = (refl, under_two c.args.values.now c.in_default.len_below)

pub returns-in_default-2-clause-refused : goal.returns-in_default-2-clause-refused
returns-in_default-2-clause-refused c = (refl, over_two c.args.values.now c.in_default.len_at_least)
