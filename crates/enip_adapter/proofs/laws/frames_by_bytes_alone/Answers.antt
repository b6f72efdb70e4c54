use Rattle.enip_adapter.proofs.OwnLemmas.{same-session}
use Rattle.enip_adapter.proofs.StreamLemmas.{same-runs}
use Rattle.enip_adapter.proofs.laws.frames_by_bytes_alone.Goals as goal

pub returns-clause-frames : goal.returns-clause-frames
returns-clause-frames c = same-runs

pub returns-clause-session : goal.returns-clause-session
returns-clause-session c = same-session
