use Rattle.std.proofs.Common.{◌-◌, length}
use Rattle.enip_commands.proofs.json_text.fields.+add_items.Given as goal

abbrev pub decreases-add_items : goal.decreases-add_items
decreases-add_items l = length l.fields.now - l.index
