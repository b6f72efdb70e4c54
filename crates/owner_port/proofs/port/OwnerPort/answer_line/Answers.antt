use Rattle.enip_server.specs.Rounds.{state_of}
use Rattle.owner_port.proofs.PortLemmas.{taken_by}
use Rattle.owner_port.proofs.port.OwnerPort.answer_line.Goals as goal

pub returns-clause-answered : goal.returns-clause-answered
returns-clause-answered g c =
    taken_by c.args.self.now (state_of c.args.peers.now) (state_of c.answer_to-answer.new.peers) c.as_slice.result.now
    c.as_slice-2.result.now c.line.result.now c.answer_to-answer.new.questions.list.items c.answer_to-answer.result c.adapter.result.now c.count_line.new.self
    c.send_answer.new.session c.forget_finished.new.senders.known.items c.as_slice.ensures.value c.as_slice-2.ensures.value
    c.line.ensures.text c.adapter.ensures c.count_line.ensures c.answer_to-answer.ensures.answered c.send_answer.ensures
    c.forget_finished.ensures.known
