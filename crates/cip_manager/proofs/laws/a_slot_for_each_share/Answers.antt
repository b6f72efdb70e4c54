use Rattle.std.proofs.Common.{arith}
use Rattle.cip_manager.proofs.ShareLemmas.{groups-within, fits-below}
use Rattle.cip_manager.proofs.laws.a_slot_for_each_share.Goals as goal

pub returns : goal.returns
returns g c = λ places share first_id device router calls groups group few all one left.
    let within = groups-within g.R.Router.after g.R.Router.answer places share first_id device router calls in
    let below = fits-below share groups _ group all within one left in
    omega (arith, below, few)
