use Rattle.enip_bench.proofs.FrameBoundLemmas.{raised_framed}
use Rattle.enip_bench.proofs.laws.frames_bound_cannot_be_raised.Goals as goal

pub returns : goal.returns
returns c = raised_framed
