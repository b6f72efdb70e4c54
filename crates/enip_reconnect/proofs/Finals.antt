-- A device that begins without a queue queues no command, whatever comes.
use Rattle.std.proofs.Common.{refl}
use Rattle.cip_ledger.specs.Device.{owned_standing}
use Rattle.cip_ledger.specs.Runs.{StaysFinal}
use Rattle.cip_ledger.proofs.Devices.{final-without_queue}
use Rattle.enip_adapter.specs.DeviceRuns.{objects_after, objects_answer}
use Rattle.enip_reconnect.specs.Laws.{opening_in_messages}
use Rattle.enip_reconnect.specs.World.{Opening}

pub opening-final : (opening : Opening) →
    StaysFinal objects_after objects_answer owned_standing (opening_in_messages opening).router
opening-final opening = final-without_queue (opening_in_messages opening).router refl
