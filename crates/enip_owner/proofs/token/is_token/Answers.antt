use Rattle.std.proofs.Common.{true, ap, refl, not}
use Rattle.std.proofs.lemmas.Bool.{not-true, not_from_false}
use Rattle.enip_owner.proofs.TokenLemmas.{one_more, all_compared}
use Rattle.enip_owner.proofs.token.is_token.Goals as goal

pub loop-index-preserved : goal.loop-index-preserved
loop-index-preserved c =
    one_more c.args.line.now c.args.token.now c.loop-index.index c.loop-index.differs _ _ c.loop-index-test.true refl refl
    c.loop-index.invariant

pub returns : goal.returns
returns c = (
  λ same. all_compared c.args.line.now c.args.token.now c.loop-index.index c.loop-index.differs c.loop-index-test.false c.loop-index.invariant
      (not-true c.loop-index.differs same),
  λ is. not_from_false c.loop-index.differs (c.loop-index.invariant.same is),
)
