use Rattle.std.proofs.Common.{◌≡◌, map, take}
use Rattle.serde_json.specs.View.{view}
use Rattle.enip_commands.specs.CommandRecords.{done_in}
use Rattle.enip_commands.specs.RecordListing.{done_data}
use Rattle.enip_commands.proofs.command_record.listing.done_values.Given as goal

abbrev pub invariant-loop-command : goal.invariant-loop-command
invariant-loop-command l = map view l.values.items ≡ map done_data (map done_in (take l.command-index l.done))
