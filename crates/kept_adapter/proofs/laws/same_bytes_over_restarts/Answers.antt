use Rattle.std.proofs.Common.{◌∷◌}
use Rattle.enip_adapter.specs.DeviceRuns.{Requested}
use Rattle.kept_adapter.specs.Restarts.{Does, sizes_of}
use Rattle.kept_adapter.proofs.LifeLemmas.{go_on, same_answer, same_final}
use Rattle.kept_adapter.proofs.laws.same_bytes_over_restarts.Goals as goal

pub returns-clause-any : goal.returns-clause-any
returns-clause-any c =
    λ device first again between originator number on others is again_is kept.
    same_answer (sizes_of device) device first again between originator number
    (go_on device (Does (Requested first) ∷ between) on) others is again_is kept

pub returns-clause-without_queue : goal.returns-clause-without_queue
returns-clause-without_queue c =
    λ device first again between originator number none on others is again_is kept.
    same_final (sizes_of device) device first again between originator number none
    (go_on device (Does (Requested first) ∷ between) on) others is again_is kept
