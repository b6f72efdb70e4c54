use Rattle.kept_adapter.proofs.CompareLemmas.{compared, false_is, other_ledger}
use Rattle.kept_adapter.proofs.starting.AdapterStartKeptDevice.is_saved.Goals as goal

pub returns-in-Some-behind_ledger : goal.returns-in-Some-behind_ledger
returns-in-Some-behind_ledger c =
    compared c.objects-objects.ensures c.ledger-ledger.ensures c.queue-queue.ensures c.needs_version_2-is_version_2.ensures
    c.are_of_queue.result
    c.in-Some.ensures.same c.in-Some-behind_ledger.ensures.same c.are_of_queue.ensures

pub returns-in-None : goal.returns-in-None
returns-in-None c = (
  false_is _,
  λ same. absurd (other_ledger c.objects-objects.ensures c.ledger-ledger.ensures c.queue-queue.ensures
      c.needs_version_2-is_version_2.ensures c.in-Some.ensures.same c.in-None.ensures.other same),
)
