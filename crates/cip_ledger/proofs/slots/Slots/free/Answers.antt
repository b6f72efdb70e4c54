use Rattle.std.proofs.Common.{◌≡◌, rules, ap, sym, ◌∙◌, subst}
use Rattle.std.proofs.lemmas.Fn.{filter_same}
use Rattle.cip_ledger.specs.Ledger.{AreApart, AreSlots, without_slot}
use Rattle.cip_ledger.specs.Slots.{SlotsState}
use Rattle.cip_ledger.proofs.KeptLemmas.{apart-without_slot, slots-without_slot}
use Rattle.cip_ledger.proofs.slots.Slots.free.Goals as goal

pub returns-clause-taken : goal.returns-clause-taken
returns-clause-taken c =
    filter_same _ _ _ (λ x b f' k. search rules) _ _ c.retain.ensures.filtered
    ∙ ap (λ (s : SlotsState). without_slot c.args.originator s.taken) c.self.view_is

pub invariant_of-self : goal.invariant_of-self
invariant_of-self c =
    let old = c.self.invariant in
    let freed : c.retain.new.self.items ≡ without_slot c.args.originator c.self.inside.taken.items =
    filter_same _ _ _ (λ x b f' k. search rules) _ _ c.retain.ensures.filtered in
    record {
      few = old.few;
      memory = search rules;
      within = search rules;
      apart = subst AreApart (sym freed) (apart-without_slot c.self.inside.taken.items c.args.originator old.apart);
      slots = subst AreSlots (sym freed) (slots-without_slot c.self.inside.taken.items c.args.originator old.slots);
    }
