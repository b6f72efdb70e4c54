use Rattle.std.proofs.Common.{◌≡◌, [], length, Some, sym, ap, subst, rules, All, ◌∙◌}
use Rattle.std.specs.Prelude.{is_some}
use Rattle.enip_adapter.specs.Adapter.{IsWaiting}
use Rattle.enip_adapter.specs.Lookup.{first_with, without_first, IsFirstWith}
use Rattle.enip_adapter.specs.PeerSlots.{PeerSlotsState, handle_of}
use Rattle.enip_adapter.proofs.FeedLemmas.{finds, found_item}
use Rattle.enip_adapter.proofs.ListLemmas.{without_first-none}
use Rattle.enip_adapter.proofs.LookupLemmas.{first-Some, first-None, slice_get-past}
use Rattle.enip_adapter.proofs.WaitLemmas.{All-remove, All-one_more}
use Rattle.enip_adapter.proofs.peer_slots.PeerSlots.release.Goals as goal

pub returns-in_default-clause-held : goal.returns-in_default-clause-held
returns-in_default-clause-held c =
    let there : IsFirstWith handle_of c.args.handle c.self.inside.taken.items (length c.self.inside.taken.items)
    = first-None handle_of c.args.handle c.self.inside.taken.items
    (ap (finds c.args.handle) (sym c.deref.ensures.value) ∙ sym c.index_of.ensures ∙ c.in_default.is) in
    sym (ap is_some (there.found ∙ slice_get-past c.self.inside.taken.items))
    ∙ ap (λ (p : PeerSlotsState). is_some (first_with handle_of c.args.handle p.taken)) c.self.view_is

pub returns-in_default-clause-taken : goal.returns-in_default-clause-taken
returns-in_default-clause-taken c =
    let there : IsFirstWith handle_of c.args.handle c.self.inside.taken.items (length c.self.inside.taken.items)
    = first-None handle_of c.args.handle c.self.inside.taken.items
    (ap (finds c.args.handle) (sym c.deref.ensures.value) ∙ sym c.index_of.ensures ∙ c.in_default.is) in
    sym (without_first-none handle_of c.args.handle c.args.self.now.taken
    (ap (λ (p : PeerSlotsState). first_with handle_of c.args.handle p.taken) (sym c.self.view_is)
    ∙ there.found ∙ slice_get-past c.self.inside.taken.items))

pub returns-clause-held : goal.returns-clause-held
returns-clause-held c =
    let there : finds c.args.handle c.self.inside.taken.items ≡ Some c.in-Some.index
    = ap (finds c.args.handle) (sym c.deref.ensures.value) ∙ sym c.index_of.ensures ∙ c.in-Some.is in
    sym (ap is_some (found_item c.self.inside.taken.items c.args.handle c.in-Some.index c.remove-place.result there))
    ∙ ap (λ (p : PeerSlotsState). is_some (first_with handle_of c.args.handle p.taken)) c.self.view_is

pub returns-clause-taken : goal.returns-clause-taken
returns-clause-taken c =
    let there : finds c.args.handle c.self.inside.taken.items ≡ Some c.in-Some.index
    = ap (finds c.args.handle) (sym c.deref.ensures.value) ∙ sym c.index_of.ensures ∙ c.in-Some.is in
    let both = first-Some handle_of c.args.handle c.self.inside.taken.items c.in-Some.index there in
    c.remove-place.ensures.items ∙ sym both.1.taken
    ∙ ap (λ (p : PeerSlotsState). without_first handle_of c.args.handle p.taken) c.self.view_is

pub invariant_of-self : goal.invariant_of-self
invariant_of-self c = record {
  few = c.self.invariant.few;
  for_peers = search rules;
  for_free = search rules;
  all = search rules;
  blank = subst (λ l. All (λ held. held ≡ []) l) (sym c.push_reserved.ensures.items)
      (All-one_more (λ held. held ≡ []) c.self.inside.free.items c.clear.new.self c.self.invariant.blank c.clear.ensures);
  waiting = subst (λ l. All IsWaiting l) (sym c.remove-place.ensures.items)
      (All-remove IsWaiting c.self.inside.taken.items c.in-Some.index c.self.invariant.waiting);
}
