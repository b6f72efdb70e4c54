use Rattle.std.proofs.Common.{◌≡◌, eqb, slice_index, false, refl, arith}
use Rattle.std.proofs.lemmas.Bool.Decides.{nat_tests}
use Rattle.cip_objects.specs.PacketLaws.{exec_routed_plain}
use Rattle.cip_objects.proofs.Packets.{other_first}
use Rattle.cip_objects.proofs.objects.Objects.execute_if_packet.Goals as goal

pub returns-then-request-ne-MULTIPLE_SERVICE_PACKET : goal.returns-then-request-ne-MULTIPLE_SERVICE_PACKET
returns-then-request-ne-MULTIPLE_SERVICE_PACKET c =
    let request = c.args.request.now in
    let other : eqb (slice_index request 0) 0x0a ≡ false = grind (arith, nat_tests) in
    (refl, refl, exec_routed_plain c.args.self.now c.args.max_size request (other_first request other))
