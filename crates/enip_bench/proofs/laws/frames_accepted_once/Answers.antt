use Rattle.enip_bench.proofs.FrameOnceLemmas.{accepted_framed, accepted_order_framed}
use Rattle.enip_bench.proofs.laws.frames_accepted_once.Goals as goal

pub returns-clause-reply : goal.returns-clause-reply
returns-clause-reply c = accepted_framed

pub returns-clause-order : goal.returns-clause-order
returns-clause-order c = accepted_order_framed
