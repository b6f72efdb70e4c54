use Rattle.std.proofs.Common.{◌≡◌, false, inl, rules}
use Rattle.owner_port.specs.Handing.{Full}
use Rattle.owner_port.specs.Sessions.{has_space}
use Rattle.owner_port.proofs.handing.hand_waiting.Goals as goal

pub returns-then-not-has_space : goal.returns-then-not-has_space
returns-then-not-has_space c =
    let full : has_space c.args.session.now ≡ false = search rules in
    inl (Full c.args.hand_over.now c.args.session.now full)
