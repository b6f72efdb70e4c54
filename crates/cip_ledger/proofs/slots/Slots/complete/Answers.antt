use Rattle.std.proofs.Common.{rules, ◌≡◌, ap, sym, ◌∙◌, subst}
use Rattle.std.specs.Prelude.{map}
use Rattle.std.specs.Vec.{with_items}
use Rattle.std.proofs.lemmas.List.{with_items_is}
use Rattle.cip_ledger.specs.Ledger.{AreApart, AreSlots}
use Rattle.cip_ledger.specs.Pending.{completed_slot}
use Rattle.cip_ledger.proofs.CompletedSlots.{apart-completed, slots-completed}
use Rattle.cip_ledger.proofs.slots.Slots.complete.Goals as goal

pub invariant_of-self : goal.invariant_of-self
invariant_of-self c =
    let old = c.self.invariant in
    let items = c.self.inside.taken.items in
    let done = completed_slot c.args.ticket c.args.reply.now in
    let kept : (with_items c.self.inside.taken c.complete_in.new.taken).items ≡ map done items
    = with_items_is c.self.inside.taken c.complete_in.new.taken (search rules)
    ∙ c.complete_in.ensures.taken ∙ ap (map done) c.as_mut_slice.ensures.value in
    record {
      few = old.few;
      memory = search rules;
      within = search rules;
      apart = subst AreApart (sym kept) (apart-completed c.args.ticket c.args.reply.now items old.apart);
      slots = subst AreSlots (sym kept) (slots-completed c.args.ticket c.args.reply.now items c.requires old.slots);
    }
