use Rattle.std.proofs.Common.{◌-◌, length}
use Rattle.enip_commands.proofs.json_text.fields.+add_members.Given as goal

abbrev pub decreases-add_members : goal.decreases-add_members
decreases-add_members l = length l.fields.now - l.index
