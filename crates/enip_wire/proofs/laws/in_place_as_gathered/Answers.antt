use Rattle.enip_wire.specs.Stream.{parsed, held_and_taken}
use Rattle.enip_wire.proofs.NextLemmas.{cleared-left}
use Rattle.enip_wire.proofs.laws.in_place_as_gathered.Goals as goal

pub returns : goal.returns
returns c held piece = cleared-left held (held_and_taken held piece) (parsed (held_and_taken held piece))
