use Rattle.cip_objects.proofs.Packets.{refused_routed}
use Rattle.cip_objects.proofs.laws.refused_packets_change_nothing.Goals as goal

pub returns : goal.returns
returns c = refused_routed
