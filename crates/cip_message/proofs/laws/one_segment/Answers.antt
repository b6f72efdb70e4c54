use Rattle.cip_message.proofs.ShortPaths.{segment_is_one}
use Rattle.cip_message.proofs.laws.one_segment.Goals as goal

pub returns : goal.returns
returns c = segment_is_one
