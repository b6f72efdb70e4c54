use Rattle.kept_adapter.proofs.PendingStays.{keeps_slot_on}
use Rattle.kept_adapter.proofs.laws.one_pending_over_restarts.Goals as goal

pub returns : goal.returns
returns c = keeps_slot_on
