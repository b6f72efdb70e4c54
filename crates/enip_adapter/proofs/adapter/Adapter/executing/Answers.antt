use Rattle.std.proofs.Common.{◌∙◌}
use Rattle.enip_adapter.proofs.ExecutingLemmas.{executing_adapter}
use Rattle.enip_adapter.proofs.adapter.Adapter.executing.Goals as goal

pub returns-clause-command : goal.returns-clause-command
returns-clause-command c =
    c.executing.ensures
    ∙ (c.peek.ensures.executing c.self.inside.next_handle c.self.inside.shared
    ∙ executing_adapter c.self.inside.places.limit c.self.inside.next_handle c.self.inside.shared
    c.self.inside.places.taken c.peer.inside.handle c.args.peer.now c.args.piece.now c.args.self.now c.self.view_is
    c.peer.view_is)
