use Rattle.enip_owner.proofs.TokenLemmas.{IsCompared}
use Rattle.enip_owner.proofs.token.is_token.Given as goal

abbrev pub invariant-loop-index : goal.invariant-loop-index
invariant-loop-index l = IsCompared l.line l.token l.index l.differs
