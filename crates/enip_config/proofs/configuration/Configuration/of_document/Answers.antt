use Rattle.std.proofs.Common.{rules}
use Rattle.toml.specs.View.{table_view}
use Rattle.enip_config.proofs.Refused.{refused_by_objects}
use Rattle.enip_config.proofs.ReadLemmas.{described_by, refused_by, refused_by_queue, in_range_by, ledger_by, queue_by, ahead_by, shares_by}
use Rattle.enip_config.proofs.configuration.Configuration.of_document.Goals as goal

pub returns-in-Some-clause-refused : goal.returns-in-Some-clause-refused
returns-in-Some-clause-refused c = rw c.fault_of_objects.ensures (refused_by_objects c.args.document.bytes.now (table_view c.args.document.table.now) c.in_ok-values.values c.in-Some.check (search rules) (search rules) (search rules))

pub returns-in_err-configuration-clause-refused : goal.returns-in_err-configuration-clause-refused
returns-in_err-configuration-clause-refused c =
    refused_by c.args.document.bytes.now (table_view c.args.document.table.now) c.in_ok-values.values c.with_lists.result c.in_err-configuration.field-0.0
    c.from_residual-in_err-configuration.result (search rules) (search rules) (search rules) c.with_lists.ensures.refused c.in_err-configuration.was
    c.from_residual-in_err-configuration.ensures

pub returns-then-has_unused_queue-clause-refused : goal.returns-then-has_unused_queue-clause-refused
returns-then-has_unused_queue-clause-refused c =
    refused_by_queue c.args.document.bytes.now (table_view c.args.document.table.now) c.in_ok-values.values c.in_ok-configuration.configuration (search rules) (search rules)
    c.in_ok-configuration.ensures.read c.in_ok-configuration.ensures.objects c.in_ok-configuration.ensures.lists (search rules)

pub returns-clause-read : goal.returns-clause-read
returns-clause-read c =
    described_by c.args.document.bytes.now (table_view c.args.document.table.now) c.in_ok-values.values c.in_ok-configuration.configuration (search rules) (search rules)
    c.in_ok-configuration.ensures.read c.in_ok-configuration.ensures.objects c.in_ok-configuration.ensures.lists (search rules)

pub returns-clause-in_range : goal.returns-clause-in_range
returns-clause-in_range c = in_range_by (table_view c.args.document.table.now) c.in_ok-configuration.configuration c.in_ok-configuration.ensures.read

pub returns-clause-ledger : goal.returns-clause-ledger
returns-clause-ledger c = ledger_by (table_view c.args.document.table.now) c.in_ok-configuration.configuration c.in_ok-configuration.ensures.read

pub returns-clause-queue : goal.returns-clause-queue
returns-clause-queue c = queue_by (table_view c.args.document.table.now) c.in_ok-configuration.configuration c.in_ok-configuration.ensures.read

pub returns-clause-ahead : goal.returns-clause-ahead
returns-clause-ahead c = ahead_by (table_view c.args.document.table.now) c.in_ok-configuration.configuration c.in_ok-configuration.ensures.read

pub returns-clause-shares : goal.returns-clause-shares
returns-clause-shares c = shares_by (table_view c.args.document.table.now) c.in_ok-configuration.configuration c.in_ok-configuration.ensures.read
