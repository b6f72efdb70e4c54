use Rattle.enip_bench.proofs.FrameOnceLemmas.{answers_framed, same_framed}
use Rattle.enip_bench.proofs.laws.frames_answered_alike.Goals as goal

pub returns-clause-reply : goal.returns-clause-reply
returns-clause-reply c = answers_framed

pub returns-clause-same_bytes : goal.returns-clause-same_bytes
returns-clause-same_bytes c = same_framed
