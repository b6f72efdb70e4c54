use Rattle.std.proofs.Common.{◌≡◌, sym, ap, ◌∙◌, length, not, Some}
use Rattle.std.specs.Option.{option_map}
use Rattle.enip_adapter.specs.declared.peer.PeerSlot.{PeerSlot}
use Rattle.enip_adapter.specs.Adapter.{session_in}
use Rattle.enip_adapter.specs.Lookup.{first_with, IsFirstWith}
use Rattle.enip_adapter.specs.PeerSlots.{PeerSlotsState, handle_of}
use Rattle.enip_adapter.specs.Serving.{is_open}
use Rattle.enip_adapter.proofs.FeedLemmas.{finds, found_item}
use Rattle.enip_adapter.proofs.LookupLemmas.{first-None, slice_get-past}
use Rattle.enip_adapter.proofs.peer_slots.PeerSlots.is_open.Goals as goal

pub returns-in-Some : goal.returns-in-Some
returns-in-Some c =
    let there : finds c.args.handle c.self.inside.taken.items ≡ Some c.in-Some.index
    = ap (finds c.args.handle) (sym c.deref.ensures.value) ∙ sym c.index_of.ensures ∙ c.in-Some.is in
    let found = found_item c.self.inside.taken.items c.args.handle c.in-Some.index c.index.result.now there in
    ap (λ (p : PeerSlot). not p.session.closed) c.index.ensures
    ∙ ap (λ o. is_open (option_map session_in o)) (sym found)
    ∙ ap (λ (p : PeerSlotsState). is_open (option_map session_in (first_with handle_of c.args.handle p.taken))) c.self.view_is

pub returns-in-None : goal.returns-in-None
returns-in-None c =
    let there : IsFirstWith handle_of c.args.handle c.self.inside.taken.items (length c.self.inside.taken.items)
    = first-None handle_of c.args.handle c.self.inside.taken.items
    (ap (finds c.args.handle) (sym c.deref.ensures.value) ∙ sym c.index_of.ensures ∙ c.in-None.is) in
    ap (λ o. is_open (option_map session_in o)) (sym (there.found ∙ slice_get-past c.self.inside.taken.items))
    ∙ ap (λ (p : PeerSlotsState). is_open (option_map session_in (first_with handle_of c.args.handle p.taken))) c.self.view_is
