use Rattle.std.proofs.Common.{ℕ, List, ap, sym, subst}
use Rattle.std.specs.List.{AllByRecursion}
use Rattle.enip_reconnect.specs.Worlds.{Seen}
use Rattle.enip_reconnect.specs.NumberedWorld.{world_after}
use Rattle.enip_reconnect.specs.CommanderLaws.{IsExecutedOnce}
use Rattle.enip_reconnect.proofs.Rising.{all_map}
use Rattle.enip_reconnect.proofs.Images.{worlds-agree}
use Rattle.enip_reconnect.proofs.Logged.{IsExecuted, after-logged, once}
use Rattle.enip_reconnect.proofs.commander_laws.accepted_is_executed_once.Goals as goal

pub returns : goal.returns
returns g c = λ opening events final range others.
    let after = g.R.Router.after in
    let answer = g.R.Router.answer in
    let standing = g.R.Target.standing in
    let world = world_after after answer standing opening events in
    let logged = after-logged after answer standing opening events in
    let One : ℕ × List ℕ → Type 0 = λ a. IsExecuted after answer standing opening world.log a.0 a.1 in
    let Once : ℕ × List ℕ → Type 0 = λ a. IsExecutedOnce after answer standing opening world.log a.0 a.1 in
    subst (AllByRecursion Once)
    (sym (ap (λ (seen : Seen _). seen.accepted) (worlds-agree after answer standing opening range events final others)))
    (all_map One Once world.accepted (λ a is. once after answer standing opening world.log a.0 a.1 logged.rises is) logged.accepted)
