use Rattle.std.proofs.Common.{◌≡◌, sym, ap, ◌∙◌, length, Some}
use Rattle.std.specs.Option.{option_map}
use Rattle.enip_adapter.specs.declared.peer.PeerSlot.{PeerSlot}
use Rattle.enip_adapter.specs.Adapter.{session_in}
use Rattle.enip_adapter.specs.Lookup.{first_with, IsFirstWith}
use Rattle.enip_adapter.specs.PeerSlots.{PeerSlotsState, handle_of}
use Rattle.enip_adapter.proofs.FeedLemmas.{finds, found_item}
use Rattle.enip_adapter.proofs.LookupLemmas.{first-None, slice_get-past}
use Rattle.enip_adapter.proofs.peer_slots.PeerSlots.session.Goals as goal

pub returns-in_err-index : goal.returns-in_err-index
returns-in_err-index c =
    let there : IsFirstWith handle_of c.args.handle c.self.inside.taken.items (length c.self.inside.taken.items)
    = first-None handle_of c.args.handle c.self.inside.taken.items
    (ap (finds c.args.handle) (sym c.deref.ensures.value) ∙ sym c.index_of.ensures ∙ c.in_err-index.was) in
    c.from_residual.ensures
    ∙ ap (option_map session_in) (sym (there.found ∙ slice_get-past c.self.inside.taken.items))
    ∙ ap (λ (p : PeerSlotsState). option_map session_in (first_with handle_of c.args.handle p.taken)) c.self.view_is

pub returns : goal.returns
returns c =
    let there : finds c.args.handle c.self.inside.taken.items ≡ Some c.in_ok-index.index
    = ap (finds c.args.handle) (sym c.deref.ensures.value) ∙ sym c.index_of.ensures ∙ c.in_ok-index.was in
    let found = found_item c.self.inside.taken.items c.args.handle c.in_ok-index.index c.index.result.now there in
    ap (λ (p : PeerSlot). Some (session_in p)) c.index.ensures
    ∙ ap (option_map session_in) (sym found)
    ∙ ap (λ (p : PeerSlotsState). option_map session_in (first_with handle_of c.args.handle p.taken)) c.self.view_is
