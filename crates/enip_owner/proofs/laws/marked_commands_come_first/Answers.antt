use Rattle.enip_owner.proofs.AheadLemmas.{marked_first as law}
use Rattle.enip_owner.proofs.laws.marked_commands_come_first.Goals as goal

pub returns : goal.returns
returns c = law
