use Rattle.serde_json.specs.View.{view}
use Rattle.enip_commands.specs.CommandRecords.{record_in}
use Rattle.enip_commands.specs.RecordListing.{record_data}
use Rattle.enip_commands.proofs.RecordListingLemmas.{record_has_none, line_from}
use Rattle.enip_commands.proofs.command_record.listing.record_line.Goals as goal

pub returns : goal.returns
returns c =
    line_from (view c.in_ok-record_value.field-0) (record_data (record_in c.args.kept.now)) c.to_string.result c.in_ok-record_value.ensures
    (record_has_none (record_in c.args.kept.now)) c.to_string.ensures.text
