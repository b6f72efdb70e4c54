use Rattle.owner_port.proofs.PortLemmas.{refused-unchanged, read-unchanged}
use Rattle.owner_port.proofs.laws.refused_lines_change_nothing.Goals as goal

pub returns : goal.returns
returns g c = record { refused = refused-unchanged; read = read-unchanged }
