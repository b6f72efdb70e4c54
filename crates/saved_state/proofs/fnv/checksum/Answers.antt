use Rattle.std.proofs.Common.{[], refl}
use Rattle.saved_state.specs.Checksum.{checksum}
use Rattle.saved_state.proofs.fnv.checksum.Goals as goal

pub returns : goal.returns
unfolding checksum
returns c = c.checksum_more.ensures [] refl
