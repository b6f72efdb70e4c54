use Rattle.enip_bench.proofs.FrameOnceLemmas.{once_framed, requests_framed, first_framed, written_framed, unchanged_framed}
use Rattle.enip_bench.proofs.laws.frames_executed_once.Goals as goal

pub returns-clause-once : goal.returns-clause-once
returns-clause-once c = once_framed

pub returns-clause-sent : goal.returns-clause-sent
returns-clause-sent c = requests_framed

pub returns-clause-first : goal.returns-clause-first
returns-clause-first c = first_framed

pub returns-clause-written : goal.returns-clause-written
returns-clause-written c = written_framed

pub returns-clause-unchanged : goal.returns-clause-unchanged
returns-clause-unchanged c = unchanged_framed
