use Rattle.enip_adapter.proofs.FinishLemmas.{finished-answered}
use Rattle.enip_adapter.proofs.PendingLemmas.{none-pending, calls-wait}
use Rattle.enip_adapter.proofs.QueueLemmas.{calls-queue, handed-over}
use Rattle.enip_adapter.proofs.KeepingLemmas.{calls-keep}
use Rattle.enip_adapter.proofs.laws.queued_commands_are_handed_over.Goals as goal

pub returns-clause-steps : goal.returns-clause-steps
returns-clause-steps c = calls-queue

pub returns-clause-handed_over : goal.returns-clause-handed_over
returns-clause-handed_over c = handed-over

pub returns-clause-pending : goal.returns-clause-pending
returns-clause-pending c = (none-pending, calls-wait)

pub returns-clause-answered : goal.returns-clause-answered
returns-clause-answered c = finished-answered

pub returns-clause-kept : goal.returns-clause-kept
returns-clause-kept c = calls-keep
