use Rattle.enip_wire.proofs.PieceLemmas.{bytes_taken-frame, parsed-written}
use Rattle.enip_wire.proofs.laws.frame_read_again.Goals as goal

pub returns-clause-taken : goal.returns-clause-taken
returns-clause-taken c = bytes_taken-frame

pub returns-clause-shown : goal.returns-clause-shown
returns-clause-shown c = parsed-written
