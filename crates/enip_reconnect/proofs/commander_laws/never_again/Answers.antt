use Rattle.std.proofs.Common.{◌≡◌, ℕ, Some, List, ap, sym, ◌∙◌}
use Rattle.std.specs.List.{slice_get}
use Rattle.enip_reconnect.specs.Worlds.{Seen}
use Rattle.enip_reconnect.specs.NumberedWorld.{world_after}
use Rattle.enip_reconnect.proofs.Rising.{all_at}
use Rattle.enip_reconnect.proofs.Images.{worlds-agree}
use Rattle.enip_reconnect.proofs.Logged.{IsExecuted, after-logged, grows_above}
use Rattle.enip_reconnect.proofs.commander_laws.never_again.Goals as goal

pub returns : goal.returns
returns g c = λ opening events later position number reply final range others is.
    let after = g.R.Router.after in
    let answer = g.R.Router.answer in
    let standing = g.R.Target.standing in
    let world = world_after after answer standing opening events in
    let agree = ap (λ (seen : Seen _). seen.accepted) (worlds-agree after answer standing opening range events final others) in
    let found : slice_get world.accepted position ≡ Some (number, reply) =
    ap (λ accepted. slice_get accepted position) (sym agree) ∙ is in
    let One : ℕ × List ℕ → Type 0 = λ a. IsExecuted after answer standing opening world.log a.0 a.1 in
    grows_above after answer standing opening events later number reply
    (all_at One world.accepted position (number, reply) (after-logged after answer standing opening events).accepted found)
