use Rattle.std.proofs.Common.{rules, ◌≡◌, [], ◌∷◌, ◌++◌, ap, sym, ◌∙◌, subst, refl, List, get_or, Some, None}
use Rattle.std.specs.Prelude.{slice_set}
use Rattle.cip_ledger.specs.Ledger.{SlotState, IsSlot, AreApart, AreSlots, with_slot, slot_withdrawn}
use Rattle.cip_ledger.specs.Slots.{SlotsState, IsFound, IsAt, IsMissing}
use Rattle.cip_ledger.proofs.KeptLemmas.{apart-with_slot, slots-with_slot, missing_if}
use Rattle.cip_ledger.proofs.SlotLemmas.{slot_of-originator}
use Rattle.cip_ledger.proofs.slots.Slots.withdraw.Goals as goal

pub returns-clause-taken : goal.returns-clause-taken
returns-clause-taken c =
    let items = c.self.inside.taken.items in
    let taken = c.args.self.now.taken in
    let index = c.in-Some.index in
    let old = c.index_mut.result.now in
    let slot : SlotState = slot_withdrawn c.args.originator c.args.number in
    let same = ap (λ (s : SlotsState). s.taken) c.self.view_is in
    let at : IsAt taken c.args.originator index = subst (λ o. IsFound taken c.args.originator o) c.in-Some.is c.requires.found in
    let read : get_or taken index old ≡ old = ap (λ (xs : List SlotState). get_or xs index old) (sym same) ∙ sym c.index_mut.ensures.value in
    let own = slot_of-originator taken c.args.originator old (at.is old ∙ ap (λ (s : SlotState). Some s) read) in
    let is : c.withdraw.new.self ≡ slot
    = c.withdraw.ensures ∙ ap (λ o. slot_withdrawn o c.args.number) own in
    ap (λ (s : SlotState). slice_set items index s) is
    ∙ ap (λ (xs : List SlotState). slice_set xs index slot) same
    ∙ sym (at.put slot refl)

pub invariant_of-self : goal.invariant_of-self
invariant_of-self c =
    let old = c.self.invariant in
    let items = c.self.inside.taken.items in
    let taken = c.args.self.now.taken in
    let slot : SlotState = slot_withdrawn c.args.originator c.args.number in
    let same = ap (λ (s : SlotsState). s.taken) c.self.view_is in
    let none : IsMissing taken c.args.originator = missing_if taken c.args.originator c.args.index c.requires.found c.in_default.not-Some in
    let kept : c.push_reserved.new.self.items ≡ with_slot slot taken
    = c.push_reserved.ensures.items ∙ ap (λ (s : SlotState). items ++ s ∷ []) c.new_withdrawn.ensures ∙ ap (λ (xs : List SlotState). xs ++ slot ∷ []) same ∙ sym (none.put slot refl) in
    let fits : IsSlot slot = record { originator = search rules; number = search rules; short = search rules; ticket = search rules; one = refl } in
    record {
      few = old.few;
      memory = search rules;
      within = search rules;
      apart = subst AreApart (sym kept) (apart-with_slot taken slot (subst AreApart same old.apart));
      slots = subst AreSlots (sym kept) (slots-with_slot taken slot fits (subst AreSlots same old.slots));
    }

pub invariant_of-self-2 : goal.invariant_of-self-2
invariant_of-self-2 c =
    let before = c.self.invariant in
    let items = c.self.inside.taken.items in
    let taken = c.args.self.now.taken in
    let index = c.in-Some.index in
    let old = c.index_mut.result.now in
    let slot : SlotState = slot_withdrawn c.args.originator c.args.number in
    let same = ap (λ (s : SlotsState). s.taken) c.self.view_is in
    let at : IsAt taken c.args.originator index = subst (λ o. IsFound taken c.args.originator o) c.in-Some.is c.requires.found in
    let read : get_or taken index old ≡ old = ap (λ (xs : List SlotState). get_or xs index old) (sym same) ∙ sym c.index_mut.ensures.value in
    let own = slot_of-originator taken c.args.originator old (at.is old ∙ ap (λ (s : SlotState). Some s) read) in
    let is : c.withdraw.new.self ≡ slot
    = c.withdraw.ensures ∙ ap (λ o. slot_withdrawn o c.args.number) own in
    let kept : slice_set items index c.withdraw.new.self ≡ with_slot slot taken
    = ap (λ (s : SlotState). slice_set items index s) is ∙ ap (λ (xs : List SlotState). slice_set xs index slot) same ∙ sym (at.put slot refl) in
    let fits : IsSlot slot = record { originator = search rules; number = search rules; short = search rules; ticket = search rules; one = refl } in
    record {
      few = before.few;
      memory = search rules;
      within = search rules;
      apart = subst AreApart (sym kept) (apart-with_slot taken slot (subst AreApart same before.apart));
      slots = subst AreSlots (sym kept) (slots-with_slot taken slot fits (subst AreSlots same before.slots));
    }
