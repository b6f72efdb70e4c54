use Rattle.std.proofs.Common.{sym, ◌∙◌}
use Rattle.enip_commands.proofs.CommandRecordLemmas.{any_done}
use Rattle.enip_commands.proofs.command_record.has_id.Goals as goal

pub returns : goal.returns
returns c = c.any_with_id.ensures ∙ sym (any_done c.args.id.now c.args.done.now)
