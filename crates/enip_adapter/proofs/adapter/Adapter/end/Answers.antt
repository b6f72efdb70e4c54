use Rattle.std.proofs.Common.{true, false, refl}
use Rattle.enip_adapter.proofs.CallLemmas.{ended}
use Rattle.enip_adapter.proofs.adapter.Adapter.end.Goals as goal

pub returns-then-release : goal.returns-then-release
returns-then-release c =
    ended c.self.inside.places c.release.new.self c.self.inside.next_handle c.peer.inside.handle c.args.peer c.self.inside.shared
    c.end_session.new.self true c.args.self.now c.self.view_is c.peer.view_is c.if-release.ensures.held c.release.ensures.limit
    c.release.ensures.taken c.end_session.ensures

pub returns-else-release : goal.returns-else-release
returns-else-release c =
    ended c.self.inside.places c.release.new.self c.self.inside.next_handle c.peer.inside.handle c.args.peer c.self.inside.shared
    c.self.inside.shared false c.args.self.now c.self.view_is c.peer.view_is c.if-release.ensures.held c.release.ensures.limit
    c.release.ensures.taken refl
