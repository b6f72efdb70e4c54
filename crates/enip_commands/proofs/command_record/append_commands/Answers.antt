use Rattle.std.proofs.Common.{arith}
use Rattle.enip_commands.proofs.CommandRecordLemmas.{text_more}
use Rattle.enip_commands.proofs.command_record.append_commands.Goals as goal

pub loop-command-preserved : goal.loop-command-preserved
loop-command-preserved c =
    text_more c.args.done.now c.loop-command.command-index _ c.append_command.new.text.items c.loop-command.text.items c.args.text.now.items
    c.loop-command-test.true c.in_ok-append_command.ensures c.loop-command.invariant
