use Rattle.enip_commands.proofs.command_record.reading.+read_commands.Given as goal

abbrev pub decreases-read_commands : goal.decreases-read_commands
decreases-read_commands l = l.count
