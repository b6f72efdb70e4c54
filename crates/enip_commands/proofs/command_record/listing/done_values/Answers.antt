use Rattle.std.proofs.Common.{List, map, ap, ◌∙◌}
use Rattle.std.proofs.lemmas.List.{take_all}
use Rattle.serde_json.specs.View.{view, items_of}
use Rattle.enip_commands.specs.declared.command_record.DoneCommand.{DoneCommand}
use Rattle.enip_commands.specs.CommandRecords.{done_in}
use Rattle.enip_commands.specs.RecordListing.{done_data}
use Rattle.enip_commands.proofs.RecordListingLemmas.{values_more}
use Rattle.enip_commands.proofs.command_record.listing.done_values.Goals as goal

pub loop-command-preserved : goal.loop-command-preserved
loop-command-preserved c =
    values_more view c.args.done.now c.loop-command.command-index _ c.loop-command.values.items c.push.new.self.items c.in_ok-done_value.field-0
    c.loop-command-test.true c.in_ok-push.ensures.items c.in_ok-done_value.ensures c.loop-command.invariant

pub returns : goal.returns
returns c =
    ap items_of (c.loop-command.invariant ∙ ap (λ (xs : List DoneCommand). map done_data (map done_in xs)) (take_all c.loop-command.command-index c.args.done.now c.loop-command-test.false))
