use Rattle.owner_port.proofs.HandLemmas.{left_above}
use Rattle.owner_port.proofs.handing.+hand_all.Given as goal

abbrev pub decreases-hand_all : goal.decreases-hand_all
decreases-hand_all l = left_above l.hand_over.now.handed l.tickets.now
