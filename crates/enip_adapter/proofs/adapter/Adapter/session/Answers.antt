use Rattle.std.proofs.Common.{refl, sym, ap, ◌∙◌}
use Rattle.enip_adapter.specs.Calls.{AdapterState}
use Rattle.enip_adapter.specs.Lookup.{first_with}
use Rattle.enip_adapter.specs.PeerSlots.{handle_of}
use Rattle.enip_adapter.specs.Turn.{session_of}
use Rattle.enip_adapter.proofs.FeedLemmas.{session_found}
use Rattle.enip_adapter.proofs.adapter.Adapter.session.Goals as goal

pub returns : goal.returns
returns c =
    c.session.ensures
    ∙ sym (session_found c.self.inside.places.limit c.self.inside.next_handle c.self.inside.shared c.self.inside.places.taken c.args.handle
    (first_with handle_of c.args.handle c.self.inside.places.taken) refl)
    ∙ ap (λ (a : AdapterState). session_of a.state c.args.handle) c.self.view_is
