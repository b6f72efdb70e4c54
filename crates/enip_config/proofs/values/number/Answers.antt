use Rattle.std.proofs.Common.{rules}
use Rattle.toml.specs.View.{table_view}
use Rattle.enip_config.specs.Keys.{row_seen}
use Rattle.enip_config.proofs.Refused.{unread_in}
use Rattle.enip_config.proofs.values.number.Goals as goal

pub returns-in-Some-clause-refused : goal.returns-in-Some-clause-refused
returns-in-Some-clause-refused c c1 =
    unread_in c1.args.key (table_view c1.args.text.now) (table_view c1.in-Some.table.now) (row_seen c1.row.result) c1.number_by.result
    (search (rules, c1.in_ok-table.ensures.read, c1.in-Some.is)) c1.row.ensures c1.number_by.ensures.refused
