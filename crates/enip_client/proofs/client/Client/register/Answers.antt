use Rattle.std.proofs.Common.{refl, rules}
use Rattle.enip_client.proofs.BetweenLemmas.{between_of}
use Rattle.enip_client.proofs.client.Client.register.Goals as goal

pub returns-in_err-register : goal.returns-in_err-register
returns-in_err-register c = (
  (refl, (λ _. tt), search rules),
  record {
    held = between_of c.args.self.now c.self.inside.state c.self.inside.reader c.self.view_is c.self.invariant;
    lent = search rules;
    fits = search rules;
    after = tt;
  },
)

pub returns : goal.returns
returns c = (
  (refl, (λ _. tt), search rules),
  record {
    held = between_of c.args.self.now c.self.inside.state c.self.inside.reader c.self.view_is c.self.invariant;
    lent = search rules;
    fits = search rules;
    after = tt;
  },
)
