use Rattle.std.proofs.Common.{refl, sym, ap, ◌∙◌}
use Rattle.enip_adapter.specs.Lookup.{first_with}
use Rattle.enip_adapter.specs.PeerSlots.{handle_of}
use Rattle.enip_adapter.specs.Serving.{is_open, is_peer_served}
use Rattle.enip_adapter.proofs.FeedLemmas.{session_found}
use Rattle.enip_adapter.proofs.adapter.Adapter.is_served.Goals as goal

pub returns : goal.returns
returns c =
    c.is_open.ensures
    ∙ sym (ap is_open (session_found c.self.inside.places.limit c.self.inside.next_handle c.self.inside.shared c.self.inside.places.taken c.peer.inside.handle
    (first_with handle_of c.peer.inside.handle c.self.inside.places.taken) refl))
    ∙ ap (λ a. is_peer_served a c.peer.inside.handle) c.self.view_is
    ∙ ap (is_peer_served c.args.self.now) c.peer.view_is
