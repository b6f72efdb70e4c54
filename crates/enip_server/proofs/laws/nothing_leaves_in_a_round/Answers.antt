use Rattle.enip_server.specs.Held.{held_known, held_written}
use Rattle.enip_server.proofs.HeldLemmas.{round_released, same_released}
use Rattle.enip_server.proofs.laws.nothing_leaves_in_a_round.Goals as goal

pub returns : goal.returns
returns g c = λ now slot first last old new io after round there stays.
    same_released g.W.Wire.written io.wire after.wire
    (round_released (λ w. g.W.Wire.left w.wire) (held_written g.W.Wire.written) (held_known g.W.Wire.written)
    (λ w. w.counts) g.O.Owner.answer g.O.Owner.after now slot first last old new io after round there stays)
