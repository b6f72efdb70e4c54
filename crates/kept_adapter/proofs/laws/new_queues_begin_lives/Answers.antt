use Rattle.kept_adapter.proofs.NewQueues.{new_queue_new_life, later_life, later_device_life}
use Rattle.kept_adapter.proofs.laws.new_queues_begin_lives.Goals as goal

pub returns-clause-queue : goal.returns-clause-queue
returns-clause-queue c = new_queue_new_life

pub returns-clause-later : goal.returns-clause-later
returns-clause-later c = later_life

pub returns-clause-device : goal.returns-clause-device
returns-clause-device c = later_device_life
