use Rattle.cip_ledger.proofs.Answered.{rises-apart}
use Rattle.kept_adapter.specs.Restarts.{sizes_of, journal_over_restarts}
use Rattle.std.proofs.Common.{[]}
use Rattle.kept_adapter.specs.Restarts.{steps_over_restarts}
use Rattle.kept_adapter.specs.Started.{started}
use Rattle.kept_adapter.proofs.RequestBytes.{from_nothing}
use Rattle.kept_adapter.proofs.LifeLemmas.{go_on, all_rise}
use Rattle.kept_adapter.proofs.laws.once_over_restarts.Goals as goal

pub returns-clause-once : goal.returns-clause-once
returns-clause-once c =
    λ device steps on. rises-apart (journal_over_restarts device steps)
    (all_rise (sizes_of device) device steps (go_on device steps on))

pub returns-clause-rising : goal.returns-clause-rising
returns-clause-rising c = λ device steps on. all_rise (sizes_of device) device steps (go_on device steps on)

pub returns-clause-adapter : goal.returns-clause-adapter
returns-clause-adapter c =
    λ start steps configuration fit going.
    let device = (started start []).state.shared.objects in
    let all = steps_over_restarts (started start []) steps in
    rises-apart (journal_over_restarts device all)
    (all_rise (sizes_of device) device all
    (go_on device all (from_nothing start steps configuration fit going)))
