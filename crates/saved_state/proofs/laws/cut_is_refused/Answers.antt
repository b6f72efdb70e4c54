use Rattle.saved_state.proofs.LawLemmas.{cut_lem, unmarked_lem}
use Rattle.saved_state.proofs.laws.cut_is_refused.Goals as goal

pub returns : goal.returns
returns c = record { cut = cut_lem; mark = λ s front rest ok e some short. unmarked_lem front short }
