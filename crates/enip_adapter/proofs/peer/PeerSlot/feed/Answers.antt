use Rattle.enip_adapter.proofs.WaitLemmas.{some_taken}
use Rattle.enip_adapter.proofs.peer.PeerSlot.feed.Goals as goal

pub returns-then-reaction-clause-progress : goal.returns-then-reaction-clause-progress
returns-then-reaction-clause-progress c =
    some_taken c.args.self.now.reader c.args.piece.now c.next.result.0 c.requires c.next.ensures.taken

pub returns-else-reaction-clause-progress : goal.returns-else-reaction-clause-progress
returns-else-reaction-clause-progress c =
    some_taken c.args.self.now.reader c.args.piece.now c.next.result.0 c.requires c.next.ensures.taken
