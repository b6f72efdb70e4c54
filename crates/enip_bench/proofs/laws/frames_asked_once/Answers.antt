use Rattle.enip_bench.proofs.FrameAskLemmas.{asks_framed, calls_framed, first_asks_framed, one_ask_framed, other_asks_framed, unasked_framed}
use Rattle.enip_bench.proofs.laws.frames_asked_once.Goals as goal

pub returns-clause-log : goal.returns-clause-log
returns-clause-log c = asks_framed

pub returns-clause-first : goal.returns-clause-first
returns-clause-first c = first_asks_framed

pub returns-clause-other : goal.returns-clause-other
returns-clause-other c = other_asks_framed

pub returns-clause-unasked : goal.returns-clause-unasked
returns-clause-unasked c = unasked_framed

pub returns-clause-calls : goal.returns-clause-calls
returns-clause-calls c = calls_framed

pub returns-clause-one : goal.returns-clause-one
returns-clause-one c = one_ask_framed
