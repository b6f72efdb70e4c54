use Rattle.std.proofs.Common.{ap, ◌∙◌}
use Rattle.owner_port.specs.declared.session.Session.{Session}
use Rattle.owner_port.proofs.SessionLemmas.{sent-number}
use Rattle.owner_port.proofs.sending.send_ok.Goals as goal

pub returns-clause-sent : goal.returns-clause-sent
returns-clause-sent c = (c.write_ok-line.result, c.write_ok-line.ensures, c.send.ensures)

pub returns-clause-line : goal.returns-clause-line
returns-clause-line c =
    ap (λ (s : Session). s.line) c.send.ensures ∙ sent-number c.args.session.now c.write_ok-line.result
