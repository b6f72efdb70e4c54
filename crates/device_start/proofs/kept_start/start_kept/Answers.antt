use Rattle.std.proofs.lemmas.Result.{IfOk-weaker}
use Rattle.device_start.proofs.kept_start.start_kept.Goals as goal

pub returns-clause-goes_on : goal.returns-clause-goes_on
returns-clause-goes_on g c =
    IfOk-weaker c.start_server.result _ _ (λ r goes_on sure. (_, goes_on sure)) c.start_server.ensures.goes_on
