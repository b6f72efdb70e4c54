use Rattle.std.proofs.Common.{ℕ, List, map, ap, sym, subst}
use Rattle.enip_reconnect.specs.Worlds.{Seen}
use Rattle.enip_reconnect.specs.CommanderLaws.{Rises}
use Rattle.enip_reconnect.proofs.Images.{worlds-agree}
use Rattle.enip_reconnect.proofs.Numbered.{after-numbered}
use Rattle.enip_reconnect.proofs.commander_laws.accepted_once.Goals as goal

pub returns : goal.returns
returns g c = λ opening events final range others.
    let after = g.R.Router.after in
    let answer = g.R.Router.answer in
    let standing = g.R.Target.standing in
    let P : List (ℕ × List ℕ) → Type 0 = λ accepted. Rises (map (λ (a : ℕ × List ℕ). a.0) accepted) in
    subst P
    (sym (ap (λ (seen : Seen _). seen.accepted) (worlds-agree after answer standing opening range events final others)))
    (after-numbered after answer standing opening events).rises
