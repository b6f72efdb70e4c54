use Rattle.kept_adapter.proofs.RequestBytes.{steps_fit}
use Rattle.kept_adapter.proofs.Restarted.{first_device, device_stays}
use Rattle.kept_adapter.proofs.laws.devices_stay.Goals as goal

pub returns-clause-first : goal.returns-clause-first
returns-clause-first c = first_device

pub returns-clause-step : goal.returns-clause-step
returns-clause-step c = device_stays

pub returns-clause-bytes : goal.returns-clause-bytes
returns-clause-bytes c = steps_fit
