use Rattle.enip_commands.proofs.CommandFileLemmas.{written_from, cut_from}
use Rattle.enip_commands.proofs.command_file.read_commander.Goals as goal

pub returns-clause-written : goal.returns-clause-written
returns-clause-written c = written_from c.args.text.now c.read_lines.result c.read_lines.ensures.read c.read_lines.ensures.refused

pub returns-clause-cut : goal.returns-clause-cut
returns-clause-cut c = cut_from c.args.text.now c.read_lines.result c.read_lines.ensures.read
