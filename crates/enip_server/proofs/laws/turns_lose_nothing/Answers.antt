use Rattle.enip_server.proofs.TurnMoves.{law_turns}
use Rattle.enip_server.proofs.laws.turns_lose_nothing.Goals as goal

pub returns : goal.returns
returns g c = law_turns g.O.Owner.answer g.O.Owner.after
