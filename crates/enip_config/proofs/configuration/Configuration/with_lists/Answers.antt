use Rattle.std.proofs.Common.{rules}
use Rattle.toml.specs.View.{table_view}
use Rattle.enip_config.proofs.ListLemmas.{with_access}
use Rattle.enip_config.proofs.configuration.Configuration.with_lists.Goals as goal

pub returns-clause-read : goal.returns-clause-read
returns-clause-read c = with_access (table_view c.args.text.now) c.args.self c.in_ok-access.access c.requires c.in_ok-access.ensures.shares
