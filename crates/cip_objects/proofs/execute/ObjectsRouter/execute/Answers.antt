use Rattle.std.proofs.Common.{◌≡◌, ◌≤◌, ℕ, Bool, true, false, List, length, sym, subst}
use Rattle.cip_objects.specs.Contents.{Contents}
use Rattle.cip_objects.specs.PacketLaws.{exec_routed_within}
use Rattle.cip_objects.specs.PacketRuns.{IsPacketExecuted}
use Rattle.cip_objects.proofs.execute.ObjectsRouter.execute.Goals as goal

fits : (m : Contents) (max_size : ℕ) (text : List ℕ) (did : Bool) (after : Contents) (old new : List ℕ) → 8 ≤ max_size
    → IsPacketExecuted m max_size text did after old new → did ≡ true → length new ≤ max_size
fits m max_size text true after old new h is e =
    subst (λ r. length r ≤ max_size) (sym is.1) (exec_routed_within m max_size text h)
fits m max_size text false after old new h is e = absurd (cc)

pub returns-else-not-execute_if_packet-clause-fits : goal.returns-else-not-execute_if_packet-clause-fits
returns-else-not-execute_if_packet-clause-fits c =
    fits c.args.self.now c.args.max_size c.args.request.now c.execute_if_packet.result c.execute_if_packet.new.self
    c.args.reply.now.items c.execute_if_packet.new.reply.items c.requires.max_size_from c.execute_if_packet.ensures
    c.if-not-execute_if_packet.false
