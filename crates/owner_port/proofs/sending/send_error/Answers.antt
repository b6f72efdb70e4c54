use Rattle.owner_port.proofs.sending.send_error.Goals as goal

pub returns : goal.returns
returns c = (c.error_line-line.result, c.error_line-line.ensures, c.send.ensures)
