use Rattle.cip_objects.specs.PacketLaws.{routed_is_run}
use Rattle.cip_objects.proofs.laws.packets_amount_to_requests.Goals as goal

pub returns : goal.returns
returns c = routed_is_run
