use Rattle.enip_server.proofs.HeldLemmas.{release_is_step}
use Rattle.enip_server.proofs.laws.releases_lose_nothing.Goals as goal

pub returns : goal.returns
returns g c = λ old new released.
    release_is_step g.W.Wire.left g.W.Wire.written g.W.Wire.known g.W.Wire.counts _ _ g.O.Owner.answer g.O.Owner.after
    old new released
