use Rattle.std.proofs.Common.{ℕ, rules}
use Rattle.std.specs.Prelude.{◌==◌}
use borrow.Author.Tests.{tests}
use Rattle.std.proofs.lemmas.Iterator.{YieldsList-from_slice}
use Rattle.std.proofs.lemmas.Iterator.Search.{position_from_yields_List}
use Rattle.enip_client.proofs.ServiceLemmas.{name_before, name_whole}
use Rattle.enip_client.proofs.service.before_nul.Goals as goal

pub returns-in-Some : goal.returns-in-Some
returns-in-Some c =
    name_before c.args.field.now c.position.result c.in-Some.end
    (position_from_yields_List (λ (b : ℕ). b == 0) _ _ c.position.result c.position.ensures.ran (YieldsList-from_slice c.args.field.now c.iter.ensures.rest) (λ x b q k. search (rules, tests)))
    c.in-Some.is

pub returns-in-None : goal.returns-in-None
returns-in-None c =
    name_whole c.args.field.now c.position.result
    (position_from_yields_List (λ (b : ℕ). b == 0) _ _ c.position.result c.position.ensures.ran (YieldsList-from_slice c.args.field.now c.iter.ensures.rest) (λ x b q k. search (rules, tests)))
    c.in-None.is
