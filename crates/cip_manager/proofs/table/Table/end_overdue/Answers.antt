use Rattle.std.proofs.Common.{ℕ, ap, subst, sym, ◌∙◌}
use Rattle.std.specs.Prelude.{unwrap_or}
use Rattle.cip_manager.specs.Table.{AreBelow, AreOpenUntil}
use Rattle.cip_manager.proofs.DeadlineLemmas.{AreOpenUntil-earliest}
use Rattle.cip_manager.proofs.table.Table.end_overdue.Goals as goal

-- the bound is the earliest deadline of those that are left
pub invariant_of-self : goal.invariant_of-self
invariant_of-self c =
    let greatest : ℕ = 18446744073709551615 in
    let earliest = c.unwrap_or-self-inside.ensures ∙ ap (λ o. unwrap_or o greatest) c.deadline.ensures in
    record {
      from = c.self.invariant.from;
      to = c.self.invariant.to;
      named = c.self.invariant.named;
      others = c.self.invariant.others;
      taken = c.self.invariant.taken;
      room = c.self.invariant.room;
      until =
          subst (AreOpenUntil c.unwrap_or-self-inside.result) (sym (ap (λ t. t.connections) c.self.view_is))
          (subst (λ e. AreOpenUntil e c.end.new.self.connections) (sym earliest) (AreOpenUntil-earliest greatest c.end.new.self.connections));
    }

-- the IDs do not change
pub returns-clause-below : goal.returns-clause-below
returns-clause-below c = λ n below. subst (λ t. AreBelow n t.connections) (sym c.self.view_is) (c.end.ensures.below n below)
