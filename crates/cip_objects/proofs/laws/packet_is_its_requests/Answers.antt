use Rattle.cip_objects.specs.PacketLaws.{packet_is_run}
use Rattle.cip_objects.proofs.laws.packet_is_its_requests.Goals as goal

pub returns : goal.returns
returns c = packet_is_run
