use Rattle.cip_objects.specs.PacketLaws.{others_plain}
use Rattle.cip_objects.proofs.laws.others_are_no_packets.Goals as goal

pub returns : goal.returns
returns c = others_plain
