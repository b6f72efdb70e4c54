use Rattle.enip_lines.proofs.InputLemmas.{devices_at}
use Rattle.enip_commands.proofs.showing.PrinterTakeLines.take_line.Goals as goal

pub returns-clause-refused : goal.returns-clause-refused
returns-clause-refused g c = devices_at _ c.args._number c.print_line.result c.print_line.ensures
