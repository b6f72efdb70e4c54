use Rattle.std.proofs.Common.{ap}
use Rattle.std.specs.Prelude.{option_map}
use Rattle.cip_ledger.specs.Ledger.{LedgerState}
use Rattle.cip_ledger.proofs.Settled.{journal-life}
use Rattle.cip_ledger.proofs.laws.only_in_its_life.Goals as goal

pub returns : goal.returns
returns g c = λ node ledger requests is.
    journal-life g.R.Router.after g.R.Router.answer g.R.Target.standing requests node ledger.life (ap (option_map (λ (l : LedgerState). l.life)) is)
