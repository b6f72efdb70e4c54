use Rattle.std.proofs.Common.{Some}
use Rattle.std.proofs.lemmas.Bool.Decides.{Decides-eqb}
use Rattle.std.proofs.lemmas.Slice.Eq.{strip_prefix_is}
use Rattle.enip_commands.specs.CommandRecords.{ids_head}
use Rattle.enip_commands.proofs.command_record.reading.has_ids_head.Goals as goal

pub returns-in-Some-clause-begins : goal.returns-in-Some-clause-begins
returns-in-Some-clause-begins c = λ yes.
    (c.in-Some.field-0.now, strip_prefix_is Decides-eqb c.args.text.now ids_head (Some c.in-Some.field-0) c.in-Some.ensures.cases)
