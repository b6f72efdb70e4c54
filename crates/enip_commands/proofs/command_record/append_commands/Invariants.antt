use Rattle.std.proofs.Common.{◌≡◌, ◌++◌, map, take}
use Rattle.enip_commands.specs.CommandRecords.{done_in, dones_text}
use Rattle.enip_commands.proofs.command_record.append_commands.Given as goal

abbrev pub invariant-loop-command : goal.invariant-loop-command
invariant-loop-command l = l.text.items ≡ l.initial.text.items ++ dones_text (map done_in (take l.command-index l.done))
