use Rattle.enip_adapter.proofs.EventLemmas.{state-events, answers-events, output-events, close-call}
use Rattle.enip_adapter.proofs.laws.answers_of_events.Goals as goal

pub returns-clause-state : goal.returns-clause-state
returns-clause-state c = state-events

pub returns-clause-answers : goal.returns-clause-answers
returns-clause-answers c = answers-events

pub returns-clause-output : goal.returns-clause-output
returns-clause-output c = output-events

pub returns-clause-close : goal.returns-clause-close
returns-clause-close c = close-call
