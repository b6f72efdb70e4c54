use Rattle.enip_commands.specs.CommandRecords.{done_in}
use Rattle.enip_commands.proofs.CommandRecordLemmas.{command_appended}
use Rattle.enip_commands.proofs.command_record.append_command.Goals as goal

pub returns : goal.returns
returns c =
    command_appended c.args.text.now.items c.append_line-3.new.text.items c.append_line.new.text.items c.append_line-2.new.text.items (done_in c.args.command)
    c.in_ok-append_line.ensures c.in_ok-append_line-2.ensures c.in_ok-append_line-3.ensures
