use Rattle.enip_access.proofs.Blocks.{are_blocks}
use Rattle.enip_access.proofs.laws.are_blocks.Goals as goal

pub returns : goal.returns
returns c = are_blocks
