-- A command of the ledger that is pending keeps its slot over restarts that go on, until it leaves the queue.
use Rattle.std.proofs.Common.{◌≡◌, ℕ, Option, Some, None, List, [], ◌∷◌, ap, ◌∙◌}
use Rattle.std.specs.List.{AllByRecursion}
use Rattle.cip_ledger.specs.Device.{Device}
use Rattle.cip_ledger.specs.Ledger.{SlotState}
use Rattle.cip_ledger.specs.Runs.{slot_in}
use Rattle.cip_owner.specs.QueueRuns.{QueueStep}
use Rattle.enip_adapter.specs.DeviceRuns.{device_after_step}
use Rattle.enip_adapter.specs.QueueLaws.{queue_steps_by_step, IsNoFinish}
use Rattle.enip_adapter.proofs.KeepingLemmas.{step_has, none-first, none-later}
use Rattle.kept_adapter.specs.Restarts.{LifeStep, Does, Restarts, restarted, after_life_steps, Sizes, sizes_of, queue_steps_over_restarts}
use Rattle.kept_adapter.specs.RestartLaws.{GoOn}
use Rattle.kept_adapter.proofs.LifeLemmas.{AreGoingOn, going_on, later, go_on}

keeps_slot : (own : Sizes) (device : Device) (steps : List LifeStep) (originator ticket : ℕ) (slot : SlotState)
    → AreGoingOn own device steps → AllByRecursion (IsNoFinish ticket) (queue_steps_over_restarts device steps)
    → slot.reply ≡ None
    → slot.ticket ≡ Some ticket → slot_in originator device.ledger ≡ Some slot
    → slot_in originator (after_life_steps device steps).ledger ≡ Some slot
keeps_slot own device [] originator ticket slot are left none mine found = found
keeps_slot own device (Does step ∷ steps) originator ticket slot are left none mine found =
    let next = device_after_step device step in
    let now : List QueueStep = queue_steps_by_step device step in
    let rest : List QueueStep = queue_steps_over_restarts next steps in
    keeps_slot own next steps originator ticket slot (later own device (Does step) steps are)
    (none-later originator ticket slot none mine now rest left) none mine
    (step_has originator ticket slot none mine step device (none-first originator ticket slot none mine now rest left) found)
keeps_slot own device (Restarts start ∷ steps) originator ticket slot are left none mine found =
    keeps_slot own (restarted start device) steps originator ticket slot (later own device (Restarts start) steps are)
    left none mine (ap (slot_in originator) (going_on own device start are.runs are.on.0) ∙ found)

pub keeps_slot_on : (device : Device) (steps : List LifeStep) (originator ticket : ℕ) (slot : SlotState)
    → GoOn device steps → slot_in originator device.ledger ≡ Some slot → slot.reply ≡ None
    → slot.ticket ≡ Some ticket → AllByRecursion (IsNoFinish ticket) (queue_steps_over_restarts device steps)
    → slot_in originator (after_life_steps device steps).ledger ≡ Some slot
keeps_slot_on device steps originator ticket slot on found none mine left =
    keeps_slot (sizes_of device) device steps originator ticket slot (go_on device steps on) left none mine found
