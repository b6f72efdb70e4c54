use Rattle.enip_bench.proofs.FrameAgreement.{frames_agree}
use Rattle.enip_bench.proofs.laws.frames_agree.Goals as goal

pub returns : goal.returns
returns c = frames_agree
